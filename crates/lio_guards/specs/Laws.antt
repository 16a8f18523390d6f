-- The laws of guards: what flows where an operation is let go, at which current label it goes on, and which test failed where it is refused
-- (the rules of LIO, ICFP 2012). They hold of any labels, well-formed or not.
use Rattle.std.specs.Prelude.{◌≡◌, Bool, true, false, ◌||◌, IsTrue, IsFalse}
use Rattle.lio_labels.specs.declared.label.Label.{Label}
use Rattle.lio_labels.specs.declared.privilege.Priv.{Priv}
use Rattle.lio_labels.specs.Flow.{flows}
use Rattle.lio_labels.specs.Bounds.{join}
use Rattle.lio_labels.specs.Privilege.{flows_with, downgraded}
use Rattle.lio_values.specs.declared.act.Op.{Op}
use Rattle.lio_values.specs.declared.act.Op.TheVariants.{Lower}
use Rattle.lio_values.specs.declared.fault.FaultKind.{FaultKind}
use Rattle.lio_values.specs.declared.fault.FaultKind.TheVariants.{FlowCurrent, FlowClearance, FlowRaise, FlowPrivilege, BadType, Overflow, DivZero, TooLong, NoTurns, NoCells, ChildTurns, Depth, LabelWide, User}
use Rattle.lio_guards.specs.declared.class.Class.{Class}
use Rattle.lio_guards.specs.declared.class.Class.TheVariants.{Write, Raise, Exchange}
use Rattle.lio_guards.specs.declared.verdict.Verdict.TheVariants.{Go, No}
use Rattle.lio_guards.specs.Class.{class_of}
use Rattle.lio_guards.specs.Width.{is_wide}
use Rattle.lio_guards.specs.Guard.{guarded, guarded_relabel, exposed, guarded_expose}

-- whether a class of operations writes to the target, and whether it learns from it
abbrev pub writes : Class → Bool
writes Write = true
writes Raise = false
writes Exchange = true

abbrev pub learns : Class → Bool
learns Write = false
learns Raise = true
learns Exchange = true

-- the current label flows to what is written to, and that flows to the clearance
abbrev pub CurrentFlowsToWritten : Type 0
CurrentFlowsToWritten = (op : Op) (current clearance target label : Label) → IsTrue (writes (class_of op))
    → guarded op current clearance target ≡ Go label → IsTrue (flows current target)

abbrev pub WrittenFlowsToClearance : Type 0
WrittenFlowsToClearance = (op : Op) (current clearance target label : Label) → IsTrue (writes (class_of op))
    → guarded op current clearance target ≡ Go label → IsTrue (flows target clearance)

-- what is learnt from flows to the new current label
abbrev pub LearntFlowsToLabel : Type 0
LearntFlowsToLabel = (op : Op) (current clearance target label : Label) → IsTrue (learns (class_of op))
    → guarded op current clearance target ≡ Go label → IsTrue (flows target label)

-- the current label flows to the new one, and where it flows to the clearance so does the new one
abbrev pub CurrentFlowsToLabel : Type 0
CurrentFlowsToLabel = (op : Op) (current clearance target label : Label)
    → guarded op current clearance target ≡ Go label → IsTrue (flows current label)

abbrev pub LabelFlowsToClearance : Type 0
LabelFlowsToClearance = (op : Op) (current clearance target label : Label) → IsTrue (flows current clearance)
    → guarded op current clearance target ≡ Go label → IsTrue (flows label clearance)

-- which label the new current label is: an operation that writes alone keeps it, one that learns alone joins the target's to it, and one
-- that does both takes the target's
abbrev pub WriteKeepsLabel : Type 0
WriteKeepsLabel = (op : Op) (current clearance target label : Label) → class_of op ≡ Write
    → guarded op current clearance target ≡ Go label → label ≡ current

abbrev pub RaiseJoinsLabel : Type 0
RaiseJoinsLabel = (op : Op) (current clearance target label : Label) → class_of op ≡ Raise
    → guarded op current clearance target ≡ Go label → label ≡ join current target

abbrev pub RaiseIsNarrow : Type 0
RaiseIsNarrow = (op : Op) (current clearance target label : Label) → class_of op ≡ Raise
    → guarded op current clearance target ≡ Go label → IsFalse (is_wide label)

abbrev pub ExchangeTakesLabel : Type 0
ExchangeTakesLabel = (op : Op) (current clearance target label : Label) → class_of op ≡ Exchange
    → guarded op current clearance target ≡ Go label → label ≡ target

-- a clearance is lowered: the current label flows to the new one, and the new one to the old
abbrev pub CurrentFlowsToLowered : Type 0
CurrentFlowsToLowered = (current clearance lowered label : Label)
    → guarded Lower current clearance lowered ≡ Go label → IsTrue (flows current lowered)

abbrev pub LoweredFlowsToClearance : Type 0
LoweredFlowsToClearance = (current clearance lowered label : Label)
    → guarded Lower current clearance lowered ≡ Go label → IsTrue (flows lowered clearance)

-- a release by a privilege: the tests of a write, the source flows to the target with the privilege, and the current label is kept
abbrev pub CurrentFlowsToReleased : Type 0
CurrentFlowsToReleased = (current clearance source target label : Label) (power : Priv)
    → guarded_relabel current clearance source target power ≡ Go label → IsTrue (flows current target)

abbrev pub ReleasedFlowsToClearance : Type 0
ReleasedFlowsToClearance = (current clearance source target label : Label) (power : Priv)
    → guarded_relabel current clearance source target power ≡ Go label → IsTrue (flows target clearance)

abbrev pub SourceFlowsWithPrivilege : Type 0
SourceFlowsWithPrivilege = (current clearance source target label : Label) (power : Priv)
    → guarded_relabel current clearance source target power ≡ Go label → IsTrue (flows_with power source target)

abbrev pub ReleaseKeepsLabel : Type 0
ReleaseKeepsLabel = (current clearance source target label : Label) (power : Priv)
    → guarded_relabel current clearance source target power ≡ Go label → label ≡ current

-- exposing by a privilege: the new current label is the old one joined with the source's as the privilege lowers it, so the old one flows to it
abbrev pub ExposeJoinsLabel : Type 0
ExposeJoinsLabel = (current clearance source label : Label) (power : Priv)
    → guarded_expose current clearance source power ≡ Go label → label ≡ exposed current source power

abbrev pub CurrentFlowsToExposed : Type 0
CurrentFlowsToExposed = (current clearance source label : Label) (power : Priv)
    → guarded_expose current clearance source power ≡ Go label → IsTrue (flows current label)

-- the new label flows to the clearance and isn't wide, and the source flows to it with the privilege
abbrev pub ExposedFlowsToClearance : Type 0
ExposedFlowsToClearance = (current clearance source label : Label) (power : Priv)
    → guarded_expose current clearance source power ≡ Go label → IsTrue (flows label clearance)

abbrev pub ExposedIsNarrow : Type 0
ExposedIsNarrow = (current clearance source label : Label) (power : Priv)
    → guarded_expose current clearance source power ≡ Go label → IsFalse (is_wide label)

abbrev pub ExposedFlowsWithPrivilege : Type 0
ExposedFlowsWithPrivilege = (current clearance source label : Label) (power : Priv)
    → guarded_expose current clearance source power ≡ Go label → IsTrue (flows_with power source label)

-- the test that a fault names fails for the labels that it keeps; the other faults are no guard's
abbrev pub Fails : FaultKind → Type 0
Fails (FlowCurrent current target) = IsFalse (flows current target)
Fails (FlowClearance target clearance) = IsFalse (flows target clearance)
Fails (FlowRaise raised clearance) = IsFalse (flows raised clearance)
Fails (FlowPrivilege power source target) = IsFalse (flows_with power source target)
Fails (LabelWide current target) = IsTrue (is_wide (join current target))
Fails BadType = ⊥
Fails Overflow = ⊥
Fails DivZero = ⊥
Fails TooLong = ⊥
Fails NoTurns = ⊥
Fails (NoCells asked left) = ⊥
Fails (ChildTurns asked left) = ⊥
Fails Depth = ⊥
Fails (User plain) = ⊥

-- what is refused is refused for a test that fails
abbrev pub RefusedWhereTestFails : Type 0
RefusedWhereTestFails = (op : Op) (current clearance target : Label) (kind : FaultKind)
    → guarded op current clearance target ≡ No kind → Fails kind

abbrev pub ReleaseRefusedWhereTestFails : Type 0
ReleaseRefusedWhereTestFails = (current clearance source target : Label) (power : Priv) (kind : FaultKind)
    → guarded_relabel current clearance source target power ≡ No kind → Fails kind

-- the test that a fault of exposing by a privilege names fails for the labels that it keeps: too wide is the source's label as the privilege lowers it, or the new label
abbrev pub FailsToExpose : Priv → FaultKind → Type 0
FailsToExpose power (FlowRaise raised clearance) = IsFalse (flows raised clearance)
FailsToExpose power (LabelWide current source) = IsTrue (is_wide (downgraded power source) || is_wide (exposed current source power))
FailsToExpose power kind = ⊥

abbrev pub ExposeRefusedWhereTestFails : Type 0
ExposeRefusedWhereTestFails = (current clearance source : Label) (power : Priv) (kind : FaultKind)
    → guarded_expose current clearance source power ≡ No kind → FailsToExpose power kind
