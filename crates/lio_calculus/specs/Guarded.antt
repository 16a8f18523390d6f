-- What the guards, and the soundness of a configuration, give of a turn: what the noninterference of one step stands on (LIO, ICFP 2012).
use Rattle.std.specs.Prelude.{◌≡◌, ℕ, Bool, true, false, IsTrue, Some}
use Rattle.lio_labels.specs.declared.label.Label.{Label}
use Rattle.lio_labels.specs.Flow.{flows}
use Rattle.lio_values.specs.declared.value.Content.TheVariants.{Hidden}
use Rattle.lio_values.specs.Views.{inner_of}
use Rattle.lio_values.specs.declared.act.Act.{Act}
use Rattle.lio_values.specs.declared.act.Act.TheVariants as act
use Rattle.lio_calculus.specs.Task.{TaskState}
use Rattle.lio_calculus.specs.Going.{Onward, Advance, Bind, Seal, Enter, Repeat, Try, Call, Return, Leave, Raise, RaiseTo, Unlabel, Lower, Release, Expose, HoldReference, HoldVariable, Fork, Spawn, BindReply, Throw, End}
use Rattle.lio_values.specs.declared.act.Reply.{Reply}
use Rattle.lio_values.specs.declared.act.Reply.TheVariants.{Done, Got, Told, Refused}
use Rattle.lio_calculus.specs.Plan.{plan, Plan, Over, Own, Visit, Target, Node, New}
use Rattle.lio_calculus.specs.Step.{Cell, Configuration, Turn, step, blank, cell_at, number_of, is_met, waits, met_after}
use Rattle.lio_calculus.specs.Erased.{label_of_cell}
use Rattle.lio_calculus.specs.Sound.{InnerIsOpen, IsTaskOf, IsSound}

-- the current label after a turn: raised by a raise or an exposure, and else as it was
abbrev pub label_after : Onward → Label → Label
label_after (Raise label) current = label
label_after (RaiseTo label access) current = label
label_after (Unlabel name label source content) current = label
label_after (Expose name label) current = label
label_after Advance current = current
label_after (Bind name value) current = current
label_after (Seal name label plain) current = current
label_after (Enter block) current = current
label_after (Repeat condition block) current = current
label_after (Try block code payload handler) current = current
label_after (Call name environment body) current = current
label_after (Return value) current = current
label_after (Leave caller name) current = current
label_after (Lower clearance) current = current
label_after (Release name label) current = current
label_after (HoldReference name label) current = current
label_after (HoldVariable name label) current = current
label_after (Fork name label cells turns) current = current
label_after (Spawn cells turns) current = current
label_after (BindReply name) current = current
label_after (Throw fault) current = current
label_after End current = current

-- whether an act changes the node that it meets, if it meets one: all do but those that look at it alone
abbrev pub changes : Act → Bool
changes act.Read = false
changes act.Wait = false
changes act = true

-- a release or an exposure to a label
abbrev pub IsReleaseOf : Act → Label → Type 0
IsReleaseOf (act.Release source target power content) label = target ≡ label
IsReleaseOf (act.Expose source target power content) label = target ≡ label
IsReleaseOf asked label = ⊥

-- a release or an exposure that is carried out shows its content, and what that keeps is pure; a refused one shows none
abbrev pub IsShown : Act → Reply → Type 0
IsShown (act.Release source target power content) Done = InnerIsOpen (inner_of content)
IsShown (act.Release source target power content) (Got value) = content ≡ Hidden
IsShown (act.Release source target power content) (Told told) = content ≡ Hidden
IsShown (act.Release source target power content) (Refused fault) = content ≡ Hidden
IsShown (act.Expose source target power content) Done = InnerIsOpen (inner_of content)
IsShown (act.Expose source target power content) (Got value) = content ≡ Hidden
IsShown (act.Expose source target power content) (Told told) = content ≡ Hidden
IsShown (act.Expose source target power content) (Refused fault) = content ≡ Hidden
IsShown asked reply = Unit {0}

-- an act of the task's own: the label rises; what is unlabelled is below the new label; and what is released or exposed comes to the label that is bound or raised to
abbrev pub IsAllowed : Act → Onward → Type 0
IsAllowed asked (Unlabel name label source content) = IsTrue (flows source label)
IsAllowed asked (Release name label) = IsReleaseOf asked label
IsAllowed asked (Expose name label) = IsReleaseOf asked label
IsAllowed asked onward = Unit {0}

-- an act of the task's own: its label never falls
pub record IsOwnGuarded (task : TaskState) (asked : Act) (reply : Reply) (onward : Onward) : Type 0 where
  pub rises : IsTrue (flows task.label (label_after onward task.label))
  pub allowed : IsAllowed asked onward
  pub shown : IsShown asked reply

-- a node keeps its label, and a new one stands where nothing was
abbrev pub IsBefore : Target → Cell → Cell → Type 0
IsBefore (Node kind handle) cell next = label_of_cell cell ≡ label_of_cell next
IsBefore (New number) cell next = cell ≡ blank

-- an act that is no release and no exposure
abbrev pub IsNoRelease : Act → Type 0
IsNoRelease (act.Release source target power content) = ⊥
IsNoRelease (act.Expose source target power content) = ⊥
IsNoRelease asked = Unit {0}

-- a visit: it meets another cell; what it waits for is at a label below; a changed node is at a label above, and has it before too, unless it is new; and the label stays
pub record IsVisitGuarded (c : Configuration) (k : ℕ) (task : TaskState) (asked : Act) (target : Target) (onward : Onward) : Type 0 where
  pub other : k ≡ number_of target → ⊥
  pub below : IsTrue (waits asked) → (label : Label) × (label_of_cell (cell_at c (number_of target)) ≡ Some label) × IsTrue (flows label task.label)
  pub above : IsTrue (changes asked) → IsTrue (is_met target (cell_at c (number_of target)).state) → (label : Label) → label_of_cell (met_after c.program task.label asked (cell_at c (number_of target))) ≡ Some label → IsTrue (flows task.label label)
  pub before : IsBefore target (cell_at c (number_of target)) (met_after c.program task.label asked (cell_at c (number_of target)))
  pub stays : label_after onward task.label ≡ task.label
  pub quiet : IsNoRelease asked
  pub allowed : IsAllowed asked onward

-- a plan: what the guards and the soundness of the configuration give of it
abbrev pub IsGuarded : Configuration → ℕ → TaskState → Plan → Type 0
IsGuarded c k task Over = Unit {0}
IsGuarded c k task (Own asked reply onward) = IsOwnGuarded task asked reply onward
IsGuarded c k task (Visit asked target onward) = IsVisitGuarded c k task asked target onward

-- each turn of a sound configuration is guarded: what it looks at is below the task's label, and what it changes is above
abbrev pub TurnIsGuarded : Type 0
TurnIsGuarded = (ticket : ℕ) (c : Configuration) (k : ℕ) (task : TaskState) (turn : Turn)
    → IsSound c → IsTaskOf c k task → step ticket c k ≡ Some turn → IsGuarded c k task (plan c.program task)
