-- Which principals a configuration names: those in the labels and values of its tasks and nodes, and in the literals of its program. Each of them has a name,
-- and its contents are pure, so that what its turns show can be printed.
use Rattle.std.specs.Prelude.{ℕ, List, All, Option, Some, None}
use Rattle.lio_labels.specs.LabelPrint.{AreNamed}
use Rattle.lio_values.specs.declared.value.Content.{Content}
use Rattle.lio_values.specs.Named.{IsFaultNamed, IsContentNamed, IsValueNamed}
use Rattle.lio_events.specs.Printable.{IsOptionNamed}
use Rattle.lio_cells.specs.declared.state.State.{State}
use Rattle.lio_cells.specs.declared.state.State.TheVariants.{Absent, Ref, Var, Chan, Job}
use Rattle.lio_syntax.specs.Items.{Item, Do, Access, Mark, Back, Fail}
use Rattle.lio_calculus.specs.Task.{TaskState}
use Rattle.lio_calculus.specs.Step.{Configuration, cell_at}
use Rattle.lio_calculus.specs.Sound.{EachBound, IsTaskOf}
use Rattle.lio_calculus.specs.Purity.{ContentsArePure}
use Rattle.lio_calculus_runs.specs.Script.{IsSimpleNamed, IsStatementNamed, IsBlockNamed, IsScriptNamed}

-- each principal in an item has a name: in literals, in a caller's environment, in a fault
abbrev pub IsItemNamed : List (List ℕ) → Item → Type 0
IsItemNamed names (Do statement) = IsStatementNamed names statement
IsItemNamed names (Access simple) = IsSimpleNamed names simple
IsItemNamed names (Mark code payload handler) = IsBlockNamed names handler
IsItemNamed names (Back caller name) = EachBound (IsValueNamed names) caller
IsItemNamed names (Fail fault) = IsFaultNamed names fault

-- each principal in a task has a name
pub record IsTaskNamed (names : List (List ℕ)) (task : TaskState) : Type 0 where
  pub environment : EachBound (IsValueNamed names) task.environment
  pub items : All (IsItemNamed names) task.items
  pub label : AreNamed names task.label
  pub clearance : AreNamed names task.clearance

-- each principal in what a task ended with, if it has, has a name
abbrev pub IsResultNamed : List (List ℕ) → Option Content → Type 0
IsResultNamed names None = Unit {0}
IsResultNamed names (Some content) = IsContentNamed names content

-- each principal in a node has a name: in its label, and in what it holds
abbrev pub IsStateNamed : List (List ℕ) → State → Type 0
IsStateNamed names Absent = Unit {0}
IsStateNamed names (Ref label value) = AreNamed names label × IsValueNamed names value
IsStateNamed names (Var label value) = AreNamed names label × IsOptionNamed names value
IsStateNamed names (Chan label received) = AreNamed names label
IsStateNamed names (Job label result) = AreNamed names label × IsResultNamed names result

-- A configuration names only principals that have names, and its contents are pure.
pub record NamesOnly (names : List (List ℕ)) (c : Configuration) : Type 0 where
  pub tasks : (k : ℕ) (task : TaskState) → IsTaskOf c k task → IsTaskNamed names task
  pub nodes : (n : ℕ) → IsStateNamed names (cell_at c n).state
  pub program : IsScriptNamed names c.program.procedures
  pub pure : ContentsArePure c
