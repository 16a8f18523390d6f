-- Each principal in the verdict of a guard has a name where each in the labels that it tests has one.
use Rattle.std.proofs.Common.{ℕ, List, Bool, true, false, ◌||◌, if◌then◌else◌, Option, Some, None}
use Rattle.std.specs.Option.{option_or}
use Rattle.lio_labels.specs.declared.label.Label.{Label}
use Rattle.lio_labels.specs.declared.privilege.Priv.{Priv}
use Rattle.lio_labels.specs.Bounds.{join}
use Rattle.lio_labels.specs.Flow.{flows}
use Rattle.lio_labels.specs.Privilege.{flows_with, downgraded}
use Rattle.lio_labels.specs.LabelPrint.{AreNamed}
use Rattle.lio_labels.proofs.NamedLemmas.{join_is_named, downgraded_is_named}
use Rattle.lio_values.specs.declared.act.Op.{Op}
use Rattle.lio_values.specs.declared.fault.FaultKind.{FaultKind}
use Rattle.lio_values.specs.declared.fault.FaultKind.TheVariants.{FlowCurrent, FlowClearance, FlowRaise, FlowPrivilege, LabelWide}
use Rattle.lio_values.specs.PlainText.{IsPowerNamed}
use Rattle.lio_values.specs.Named.{IsKindNamed}
use Rattle.lio_guards.specs.declared.class.Class.{Class}
use Rattle.lio_guards.specs.declared.class.Class.TheVariants.{Write, Raise, Exchange}
use Rattle.lio_guards.specs.declared.verdict.Verdict.{Verdict}
use Rattle.lio_guards.specs.declared.verdict.Verdict.TheVariants.{Go, No}
use Rattle.lio_guards.specs.Class.{class_of}
use Rattle.lio_guards.specs.Width.{is_wide}
use Rattle.lio_guards.specs.Guard.{write_fault, raise_fault, release_fault, go_unless, guarded_as, guarded, guarded_relabel, exposed, expose_fault, guarded_expose}
use Rattle.lio_calculus.specs.Plan.{exposed_to}

-- each principal in a fault, if there is one, has a name
abbrev IsFoundNamed : List (List ℕ) → Option FaultKind → Type 0
IsFoundNamed names None = Unit {0}
IsFoundNamed names (Some kind) = IsKindNamed names kind

-- each principal in a verdict has a name: in the label that a task goes on at, and in the fault
abbrev pub IsVerdictNamed : List (List ℕ) → Verdict → Type 0
IsVerdictNamed names (Go label) = AreNamed names label
IsVerdictNamed names (No kind) = IsKindNamed names kind

-- the faults of the tests
write_named : (names : List (List ℕ)) (current clearance target : Label) → AreNamed names current → AreNamed names clearance → AreNamed names target → IsFoundNamed names (write_fault current clearance target)
unfolding write_fault
write_named names current clearance target c l t = by (flows current target) (flows target clearance)
  where
    by : (a b : Bool) → IsFoundNamed names (if a then (if b then None else Some (FlowClearance target clearance)) else Some (FlowCurrent current target))
    by true true = tt
    by true false = (t, l)
    by false b = (c, t)

raise_named : (names : List (List ℕ)) (current clearance target : Label) → AreNamed names current → AreNamed names clearance → AreNamed names target → IsFoundNamed names (raise_fault current clearance target)
unfolding raise_fault
raise_named names current clearance target c l t = by (is_wide (join current target)) (flows (join current target) clearance)
  where
    by : (a b : Bool) → IsFoundNamed names (if a then Some (LabelWide current target) else (if b then None else Some (FlowRaise (join current target) clearance)))
    by true b = (c, t)
    by false true = tt
    by false false = (join_is_named names current target c t, l)

release_named : (names : List (List ℕ)) (source target : Label) (power : Priv) → AreNamed names source → AreNamed names target → IsPowerNamed names power → IsFoundNamed names (release_fault source target power)
unfolding release_fault
release_named names source target power s t p = by (flows_with power source target)
  where
    by : (a : Bool) → IsFoundNamed names (if a then None else Some (FlowPrivilege power source target))
    by true = tt
    by false = (p, s, t)

either_named : (names : List (List ℕ)) (one other : Option FaultKind) → IsFoundNamed names one → IsFoundNamed names other → IsFoundNamed names (option_or one other)
either_named names None other first second = second
either_named names (Some kind) other first second = first

unless_named : (names : List (List ℕ)) (found : Option FaultKind) (label : Label) → IsFoundNamed names found → AreNamed names label → IsVerdictNamed names (go_unless found label)
unless_named names None label named l = l
unless_named names (Some kind) label named l = named

-- the verdicts
pub guarded_named : (names : List (List ℕ)) (op : Op) (current clearance target : Label) → AreNamed names current → AreNamed names clearance → AreNamed names target → IsVerdictNamed names (guarded op current clearance target)
unfolding guarded
guarded_named names op current clearance target c l t = by (class_of op)
  where
    by : (class : Class) → IsVerdictNamed names (guarded_as class current clearance target)
    by Write = unless_named names (write_fault current clearance target) current (write_named names current clearance target c l t) c
    by Raise = unless_named names (raise_fault current clearance target) (join current target) (raise_named names current clearance target c l t) (join_is_named names current target c t)
    by Exchange = unless_named names (write_fault current clearance target) target (write_named names current clearance target c l t) t

pub relabel_named : (names : List (List ℕ)) (current clearance source target : Label) (power : Priv) → AreNamed names current → AreNamed names clearance → AreNamed names source → AreNamed names target → IsPowerNamed names power
    → IsVerdictNamed names (guarded_relabel current clearance source target power)
unfolding guarded_relabel
relabel_named names current clearance source target power c l s t p =
    unless_named names (option_or (write_fault current clearance target) (release_fault source target power)) current
    (either_named names (write_fault current clearance target) (release_fault source target power) (write_named names current clearance target c l t) (release_named names source target power s t p)) c

-- the label at which a task goes on that exposes
exposed_named : (names : List (List ℕ)) (current source : Label) (power : Priv) → AreNamed names current → AreNamed names source → IsPowerNamed names power → AreNamed names (exposed current source power)
unfolding exposed
exposed_named names current source power c s p = join_is_named names current (downgraded power source) c (downgraded_is_named names power source p s)

expose_fault_named : (names : List (List ℕ)) (current clearance source : Label) (power : Priv) → AreNamed names current → AreNamed names clearance → AreNamed names source → IsPowerNamed names power
    → IsFoundNamed names (expose_fault current clearance source power)
unfolding expose_fault
expose_fault_named names current clearance source power c l s p =
    by (is_wide (downgraded power source) || is_wide (exposed current source power)) (flows (exposed current source power) clearance)
  where
    by : (a b : Bool) → IsFoundNamed names (if a then Some (LabelWide current source) else (if b then None else Some (FlowRaise (exposed current source power) clearance)))
    by true b = (c, s)
    by false true = tt
    by false false = (exposed_named names current source power c s p, l)

pub expose_named : (names : List (List ℕ)) (current clearance source : Label) (power : Priv) → AreNamed names current → AreNamed names clearance → AreNamed names source → IsPowerNamed names power
    → IsVerdictNamed names (guarded_expose current clearance source power)
unfolding guarded_expose
expose_named names current clearance source power c l s p =
    unless_named names (expose_fault current clearance source power) (exposed current source power) (expose_fault_named names current clearance source power c l s p) (exposed_named names current source power c s p)

-- the second label of an exposure
pub exposed_to_named : (names : List (List ℕ)) (source : Label) (verdict : Verdict) → AreNamed names source → IsVerdictNamed names verdict → AreNamed names (exposed_to source verdict)
exposed_to_named names source (Go label) s v = v
exposed_to_named names source (No (FlowRaise raised clearance)) s v = v.0
exposed_to_named names source (No kind) s v = s
