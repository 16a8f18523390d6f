use Rattle.std.proofs.Common.{All, List, subst, sym}
use Rattle.lio_values.specs.declared.value.Value.{Value}
use Rattle.lio_rows_fields.specs.Turns.{CanPrintValue}
use Rattle.lio_rows_fields.proofs.Added.{All-with}
use Rattle.lio_rows_fields.proofs.values.values.Goals as goal

pub loop-preserved : goal.loop-preserved
loop-preserved c =
    subst (λ (values : List Value). All (CanPrintValue c.args.names.now) values) (sym c.in_ok-push.ensures.ok)
    (All-with (CanPrintValue c.args.names.now) c.loop.values c.in_ok-value.value c.loop.invariant c.in_ok-value.ensures)
