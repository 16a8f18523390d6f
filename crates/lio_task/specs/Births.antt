-- Which children can be born.
use Rattle.std.specs.Prelude.{◌+◌, ◌<◌, ◌^◌, IsTrue, List, length}
use Rattle.lio_labels.specs.declared.label.Label.{Label}
use Rattle.lio_labels.specs.Flow.{flows}
use Rattle.lio_values.specs.declared.act.Act.{Act}
use Rattle.lio_values.specs.declared.act.Act.TheVariants as act
use Rattle.lio_values.specs.declared.act.Birth.{Birth}
use Rattle.lio_syntax.specs.Statements.{Procedure}

-- a child can be born at its parent's label: its procedure is there, its numbers have 31 bits, and the label flows to its clearance
pub record CanBeBorn (script : List Procedure) (at : Label) (birth : Birth) : Type 0 where
  pub procedure : birth.proc_at < length script
  pub range : birth.first + birth.cells < 2 ^ 31
  pub cleared : IsTrue (flows at birth.clearance)

-- what an act asks that may give birth to a child
abbrev pub CanBear : List Procedure → Label → Act → Type 0
CanBear script at (act.Fork birth) = CanBeBorn script at birth
CanBear script at (act.Spawn birth) = CanBeBorn script at birth
CanBear script at asked = Unit {0}
