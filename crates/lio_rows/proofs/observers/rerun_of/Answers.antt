use Rattle.std.proofs.Common.{◌≡◌, sym, subst, ℕ, List, rules}
use Rattle.lio_syntax.specs.Statements.{Procedure}
use Rattle.lio_calculus_runs.specs.Configuration.{NamesOnly}
use Rattle.lio_erasure.specs.Low.{low_configuration_of}
use Rattle.lio_rows.proofs.observers.rerun_of.Goals as goal

pub rerun_view-requires-clause-pure : goal.rerun_view-requires-clause-pure
rerun_view-requires-clause-pure c = λ place d within. (c.in_ok-contents.ensures place d within).1

pub computed-requires : goal.computed-requires
computed-requires c =
    let names = c.args.job.now.policy.names in let start = c.in_ok-start.start in
    let script : c.script.result.now ≡ c.args.job.now.script = search rules in
    let longest : c.policy.inside.longest ≡ c.args.job.now.policy.longest = search rules in
    c.in-Ok.ensures.printable names
    (subst (λ (s : List Procedure). NamesOnly names (low_configuration_of s c.policy.inside.longest start)) (sym script)
    (subst (λ (n : ℕ). NamesOnly names (low_configuration_of c.args.job.now.script n start)) (sym longest) c.in_ok-start.ensures.named))
    (λ place d within. (c.in_ok-contents.ensures place d within).0)
