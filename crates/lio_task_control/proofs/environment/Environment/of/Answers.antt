use Rattle.std.proofs.Common.{◌∙◌, ◌+◌, drop, sym, ap, arith}
use Rattle.lio_syntax.specs.Environment.{bind, bind_all}
use Rattle.lio_task_control.proofs.EnvironmentLemmas.{bind_all-next, bind_all-end}
use Rattle.lio_task_control.proofs.environment.Environment.of.Goals as goal

pub loop-i-preserved : goal.loop-i-preserved
loop-i-preserved c =
    let names = drop (c.loop-i.i + 1) c.args.names.now in
    let values = drop (c.loop-i.i + 1) c.args.values.now in
    c.loop-i.invariant ∙ bind_all-next c.loop-i.environment c.args.names.now c.args.values.now c.loop-i.i c.index-names-i.result c.index-values-i.result (omega arith) (omega arith) c.index-names-i.is c.index-values-i.is
    ∙ ap (λ v. bind_all (bind c.loop-i.environment c.index-names-i.result v) names values) (sym c.in_ok-copy.ensures)
    ∙ ap (λ e. bind_all e names values) (sym c.in_ok-bind.ensures.ok)

pub returns : goal.returns
returns c = sym (c.loop-i.invariant ∙ bind_all-end c.loop-i.environment c.args.names.now c.args.values.now c.loop-i.i (omega arith))
