use Rattle.std.proofs.Common.{◌∙◌, ap, ℕ, List, ◌++◌, length}
use Rattle.lio_values.specs.declared.entry.Entry.{Entry}
use Rattle.lio_audit.specs.declared.rerun.Rerun.{Rerun}
use Rattle.lio_audit.proofs.AskLemmas.{asked-took}
use Rattle.lio_audit.proofs.rerun.Rerun.ask.Goals as goal

pub returns-clause-ok : goal.returns-clause-ok
returns-clause-ok c =
    let old : Rerun = c.args.self.now in
    let new : Rerun = record { low = c.turn.new.self; releases = c.turn.new.releases; journal = c.push.new.self; order = c.list.new.order } in
    asked-took old new c.args.k (length c.entries.result.now) c.in-Ok.entry c.in-Ok.ensures.ok (ap (λ (es : List Entry). length es) c.entries.ensures.entries) c.in_ok-push.ensures.ok
    (c.in_ok-list.ensures ∙ ap (λ (ks : List ℕ). old.order.items ++ ks) c.born_in-child.ensures.born)
