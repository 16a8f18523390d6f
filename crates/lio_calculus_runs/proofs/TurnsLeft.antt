-- What a turn does to the turns that are left: it spends one, and hands a child at most what is left then; a task without turns ends.
use Rattle.std.proofs.Common.{◌≡◌, refl, ℕ, ◌-◌, ◌≤◌, List, arith}
use Rattle.lio_values.specs.declared.value.Content.{Content}
use Rattle.lio_values.specs.declared.value.Content.TheVariants.{Kept, Faulted, Hidden}
use Rattle.lio_values.specs.declared.act.Act.{Act}
use Rattle.lio_values.specs.declared.act.Act.TheVariants as act
use Rattle.lio_values.specs.declared.act.Reply.{Reply}
use Rattle.lio_values.specs.declared.act.Reply.TheVariants.{Told}
use Rattle.lio_syntax.specs.Items.{Item}
use Rattle.lio_calculus.specs.Task.{TaskState}
use Rattle.lio_calculus.specs.Going.{Onward, Unlabel, Expose, Fork, Spawn, BindReply, given, released, gone}
use Rattle.lio_calculus.specs.Plan.{Program, Plan, Over, Own, Visit, plan}
use Rattle.lio_calculus.proofs.Outcome.{Reads}
use Rattle.lio_calculus.proofs.Outcome as out
use Rattle.lio_calculus.proofs.PlanCases.{ItemsCase, Does, Visits, plan-by}

-- the turns that a task hands to a child as it goes on
abbrev pub handed : Onward → ℕ
handed (Fork name label cells turns) = turns
handed (Spawn cells turns) = turns
handed onward = 0

-- the turns with which an act's child is born
abbrev pub begun : Act → ℕ
begun (act.Fork birth) = birth.turns
begun (act.Spawn birth) = birth.turns
begun asked = 0

given-turns : (task : TaskState) (name : List ℕ) (content : Content) → (given task name content).turns ≡ task.turns
given-turns task name (Kept plain) = refl
given-turns task name (Faulted fault) = refl
given-turns task name Hidden = refl

-- the turns of a task that goes on
pub gone-turns : (task : TaskState) (onward : Onward) (asked : Act) (reply : Reply) → (gone task onward asked reply).turns ≡ task.turns - handed onward
gone-turns task (Unlabel name label source content) asked reply = omega (arith, given-turns (record task { label = label }) name content)
gone-turns task (Expose name label) asked reply = omega (arith, given-turns (record task { label = label }) name (released asked))
gone-turns task (BindReply name) asked (Told content) = omega (arith, given-turns task name content)
gone-turns task onward asked reply = omega arith

-- a plan hands a child the turns with which it is born, and no more than are left after this one
abbrev pub Affords : TaskState → Plan → Type 0
Affords task Over = Unit {0}
Affords task (Own asked reply onward) = Unit {0}
Affords task (Visit asked target onward) = (begun asked ≡ handed onward) × (begun asked ≤ task.turns - 1)

-- the cases of a plan
pub items-afford : {program : Program} {items : List Item} {p : Plan} (task : TaskState) → ItemsCase program task items p → Affords task p
items-afford task (Does (out.MakesReference asks e room)) = (refl, omega arith)
items-afford task (Does (out.MakesVariable asks e room)) = (refl, omega arith)
items-afford task (Does (out.MakesChild asks e f room enough)) = (refl, enough)
items-afford task (Does (out.MakesOrphan asks e room enough)) = (refl, enough)
items-afford task (Does (out.Writes e f g)) = (refl, omega arith)
items-afford task (Does (out.Sends e f g)) = (refl, omega arith)
items-afford task (Visits (Reads e)) = (refl, omega arith)
items-afford task (Visits r) = (refl, omega arith)
items-afford task o = tt

pub plan-affords : (program : Program) (task : TaskState) → Affords task (plan program task)
plan-affords program task = plan-by (Affords task) program task tt tt (λ p going o. items-afford task o)
