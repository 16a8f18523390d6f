-- In a well-formed configuration each visit meets a node that is there.
use Rattle.std.proofs.Common.{◌≡◌, ◌∙◌, ◌≤◌, refl, sym, ap, subst, ℕ, ◌+◌, ◌==◌, Bool, true, false, if◌then◌else◌, IsTrue, List, [], ◌∷◌, All, Option, Some, None, is_some, true≢false, arith}
use Rattle.std.proofs.lemmas.List.Elements.{All-head}
use Rattle.lio_labels.specs.declared.label.Label.{Label}
use Rattle.lio_values.specs.declared.fault.FaultKind.TheVariants.{NoTurns}
use Rattle.lio_values.specs.declared.value.Content.{Content}
use Rattle.lio_values.specs.declared.value.Content.TheVariants.{Faulted}
use Rattle.lio_values.specs.declared.act.Act.{Act}
use Rattle.lio_values.specs.declared.act.Act.TheVariants as act
use Rattle.lio_syntax_lines.specs.declared.line.Simple.{Simple}
use Rattle.lio_cells.specs.declared.state.State.{State}
use Rattle.lio_cells.specs.declared.state.State.TheVariants.{Absent, Job}
use Rattle.lio_cells.specs.State.{is_absent, Kind, Reference, Channel, is_of, result_of, ready as is_ready, state_after}
use Rattle.lio_syntax.specs.Items.{Item}
use Rattle.lio_calculus.specs.Task.{TaskState}
use Rattle.lio_calculus.specs.Going.{Onward}
use Rattle.lio_calculus.specs.Plan.{Plan, Over, Own, Visit, Target, Node, New, fault_at, ending, plan_items, plan}
use Rattle.lio_calculus.specs.Step.{Cell, Configuration, cell_at, waits}
use Rattle.lio_calculus.specs.Sound.{Names, ValueNames, EachBound, IsTaskOf, IsInRange, IsSound, ItemSays, says, statement_says}
use Rattle.lio_calculus.specs.Afforded.{makes, kind_met, Meets, AffordsPlan}
use Rattle.lio_calculus.specs.Meeting.{MeetsNode, VisitMeetsNode}
use Rattle.lio_calculus.proofs.Outcome.{Reads, Takes, Puts, Waits, Outcome}
use Rattle.lio_calculus.proofs.Outcome as out
use Rattle.lio_calculus.proofs.PlanCases.{ItemsCase, Does, Visits, plan-by}
use Rattle.lio_calculus.proofs.SoundLemmas.{first-said, reference-names, variable-names, result-names, channel-names, named-kind, task-job, inside, named-there}
use Rattle.lio_calculus.proofs.AffordedLemmas.{plan_affords}
use Rattle.lio_calculus.proofs.PlanKept.{is_ended}
use Rattle.lio_calculus.proofs.ActorKept.{job-state}

-- a visit's target is there: its handle names a cell, or its number is one of the task's range
abbrev IsThere : Configuration → TaskState → Target → Type 0
IsThere c task (Node kind handle) = Names c kind handle
IsThere c task (New number) = IsInRange task number

abbrev FindsTarget : Configuration → TaskState → Plan → Type 0
FindsTarget c task Over = Unit {0}
FindsTarget c task (Own asked reply onward) = Unit {0}
FindsTarget c task (Visit asked target onward) = IsThere c task target

-- the first number of a range that has one
first-within : (task : TaskState) (count : ℕ) → count + 1 ≤ task.cells → IsInRange task task.first
first-within task count e = record { from = omega arith; below = omega (arith, e) }

-- the cases of a plan
module _ (c : Configuration) (task : TaskState) (each : EachBound (ValueNames c) task.environment) where
  outcome-finds : {s : Simple} {p : Plan} → IsTrue (says s) → Outcome c.program task s p → FindsTarget c task p
  outcome-finds said (out.Writes {r = r} {a = a} e f g) = reference-names c task.environment r _ each (first-said r (a ∷ []) said) e
  outcome-finds said (out.Sends {c = channel} {a = a} e f g) = channel-names c task.environment channel _ each (first-said channel (a ∷ []) said) e
  outcome-finds said (out.MakesReference asks e room) = first-within task 0 room
  outcome-finds said (out.MakesVariable asks e room) = first-within task 0 room
  outcome-finds said (out.MakesChild asks e f room enough) = first-within task _ room
  outcome-finds said (out.MakesOrphan asks e room enough) = first-within task _ room
  outcome-finds said o = tt

  items-finds : {items : List Item} {p : Plan} → All ItemSays items → ItemsCase c.program task items p → FindsTarget c task p
  unfolding statement_says
  items-finds said (Does o) = outcome-finds (All-head ItemSays _ _ said) o
  items-finds said (Visits (Reads {r = r} e)) = reference-names c task.environment r _ each (first-said r [] (All-head ItemSays _ _ said)) e
  items-finds said (Visits (Takes {v = v} e)) = variable-names c task.environment v _ each (first-said v [] (All-head ItemSays _ _ said)) e
  items-finds said (Visits (Puts {v = v} {a = a} e f)) = variable-names c task.environment v _ each (first-said v (a ∷ []) (All-head ItemSays _ _ said)) e
  items-finds said (Visits (Waits {r = r} e)) = result-names c task.environment r _ each (first-said r [] (All-head ItemSays _ _ said)) e
  items-finds said o = tt

  plan-finds : All ItemSays task.items → FindsTarget c task (plan c.program task)
  plan-finds said = plan-by (FindsTarget c task) c.program task tt tt (λ p going o. items-finds said o)

-- a task that visits hasn't ended
visit-unended : (c : Configuration) (task : TaskState) (asked : Act) (target : Target) (onward : Onward) → plan c.program task ≡ Visit asked target onward → task.ended ≡ false
unfolding plan
visit-unended c task asked target onward is = by task.ended refl is
  where
    by : (b : Bool) → task.ended ≡ b → (if b then Over else (if task.turns == 0 then ending (Faulted (fault_at task NoTurns)) else plan_items c.program task task.items)) ≡ Visit asked target onward → task.ended ≡ false
    by false e v = e
    by true e v = absurd (cc)

-- the job of a task that goes on is ready for no act
job-unready : (label : Label) (asked : Act) → is_ready (Job label None) asked ≡ false
unfolding is_ready
job-unready label act.Wait = refl
job-unready label asked = refl

-- a job changes only where its task ends
job-unchanged : (label : Label) (r : Option Content) (asked : Act) → is_ended asked ≡ false → state_after (Job label r) asked ≡ Job label r
unfolding state_after
job-unchanged label r (act.Ended content) e = absurd (true≢false e)
job-unchanged label r asked e = refl

meets-unended : (task : TaskState) (asked : Act) (target : Target) → Meets task asked target → is_ended asked ≡ false
meets-unended task (act.Ended content) (Node kind handle) meets = absurd (cc)
meets-unended task (act.Ended content) (New number) meets = absurd (true≢false (sym meets.1))
meets-unended task asked target meets = refl

-- an act that doesn't wait finds a node of its kind ready, and a birth finds a blank cell ready
named-ready : (kind : Kind) (asked : Act) (state : State) → kind_met asked ≡ Some kind → IsTrue (is_of kind state) → waits asked ≡ false → is_ready state asked ≡ true
unfolding is_ready
named-ready kind (act.Write value) state meets of w = let is : Reference ≡ kind = cc in subst (λ (x : Kind). is_of x state ≡ true) (sym is) of
named-ready kind (act.Send text) state meets of w = let is : Channel ≡ kind = cc in subst (λ (x : Kind). is_of x state ≡ true) (sym is) of
named-ready kind act.Read state meets of w = absurd (true≢false w)
named-ready kind act.Take state meets of w = absurd (true≢false w)
named-ready kind (act.Put value) state meets of w = absurd (true≢false w)
named-ready kind act.Wait state meets of w = absurd (true≢false w)
named-ready kind asked state meets of w = absurd (cc)

new-ready : (asked : Act) → IsTrue (makes asked) → is_ready Absent asked ≡ true
unfolding is_ready
new-ready (act.NewRef label value) m = refl
new-ready (act.NewVar label value) m = refl
new-ready (act.Fork birth) m = refl
new-ready (act.Spawn birth) m = refl
new-ready asked m = absurd (true≢false (sym m))

-- the actor's own node is ready for no act
actor-unready : (c : Configuration) (k : ℕ) (task : TaskState) (asked : Act) → IsSound c → IsTaskOf c k task → task.ended ≡ false → is_ready (cell_at c k).state asked ≡ false
actor-unready c k task asked sound is going =
    let job = job-state (cell_at c k).state (task-job c k task sound is) in
    by job.label job.result job.is (sym (ap (λ (s : State). is_some (result_of s)) job.is) ∙ sound.ended k task is ∙ going)
  where
    by : (label : Label) (r : Option Content) → (cell_at c k).state ≡ Job label r → is_some r ≡ false → is_ready (cell_at c k).state asked ≡ false
    by label None same none = ap (λ (s : State). is_ready s asked) same ∙ job-unready label asked
    by label (Some content) same none = absurd (true≢false none)

pub actor-unchanged : (c : Configuration) (k : ℕ) (task : TaskState) (asked : Act) → IsSound c → IsTaskOf c k task → is_ended asked ≡ false → state_after (cell_at c k).state asked ≡ (cell_at c k).state
actor-unchanged c k task asked sound is e =
    let job = job-state (cell_at c k).state (task-job c k task sound is) in
    subst (λ (s : State). state_after s asked ≡ s) (sym job.is) (job-unchanged job.label job.result asked e)

-- a visit
pub visit_meets_node : VisitMeetsNode
visit_meets_node c k task asked target onward sound is visits =
    by target (subst (AffordsPlan c.program task) visits (plan_affords c.program task (sound.clearance k task is))).2
    (subst (FindsTarget c task) visits (plan-finds c task (sound.names k task is).environment (sound.literals k task is)))
  where
    other : (n : ℕ) → is_ready (cell_at c n).state asked ≡ true → k ≡ n → ⊥
    other n ready same =
        true≢false (sym ready ∙ ap (λ (m : ℕ). is_ready (cell_at c m).state asked) (sym same) ∙ actor-unready c k task asked sound is (visit-unended c task asked target onward visits))

    by : (t : Target) → Meets task asked t → IsThere c task t → MeetsNode c k asked t
    by (Node kind handle) meets named = record {
      within = inside c handle.number (named-there c kind handle named);
      met = named;
      ready = λ w. named-ready kind asked (cell_at c handle.number).state meets (named-kind kind handle (cell_at c handle.number).state named) w;
      other = other handle.number;
      own = actor-unchanged c k task asked sound is (meets-unended task asked (Node kind handle) meets);
    }
    by (New number) meets range = record {
      within = omega (arith, range.below, sound.ranges k task is);
      met = ap (λ (cell : Cell). is_absent cell.state) (sound.free k number task is range);
      ready = λ w. ap (λ (cell : Cell). is_ready cell.state asked) (sound.free k number task is range) ∙ new-ready asked meets.1;
      other = other number;
      own = actor-unchanged c k task asked sound is (meets-unended task asked (New number) meets);
    }
