use Rattle.std.proofs.Common.{ap, sym, ◌∙◌, Some}
use Rattle.lio_rounds.proofs.ListLemmas.{waits-other}
use Rattle.lio_rounds.proofs.awake.Awake.wake.Goals as goal

pub returns-clause-waiting : goal.returns-clause-waiting
returns-clause-waiting c =
    λ n place other h. waits-other c.args.self.now.waiting.items c.in-Some.node n place c.wake_all.new.list (λ e. other (c.in-Some.is ∙ ap Some (sym e))) h
