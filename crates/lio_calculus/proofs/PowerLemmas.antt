-- Privileges are given and never made.
use Rattle.std.proofs.Common.{◌≡◌, sym, subst, ℕ, IsTrue, List, [], ◌∷◌, All, Some, true≢false}
use Rattle.std.specs.List.{Contains}
use Rattle.std.proofs.lemmas.List.Elements.{All-nil, All-head, All-tail, All-cons}
use Rattle.lio_labels.specs.declared.privilege.Priv.{Priv}
use Rattle.lio_values.specs.declared.fault.FaultKind.{FaultKind}
use Rattle.lio_values.specs.declared.fault.FaultKind.TheVariants.{User}
use Rattle.lio_values.specs.declared.value.Plain.{Plain}
use Rattle.lio_values.specs.declared.value.Plain.TheVariants.{Power, Items}
use Rattle.lio_values.specs.declared.value.Value.{Value}
use Rattle.lio_values.specs.declared.value.Value.TheVariants.{Bare}
use Rattle.lio_values.specs.Forest.{Forest, Nothing, Then}
use Rattle.lio_values.specs.Views.{value_of, values_of, item_of-value_of}
use Rattle.lio_values.specs.declared.act.Act.{Act}
use Rattle.lio_syntax_lines.specs.declared.line.Simple.{Simple}
use Rattle.lio_syntax_lines.specs.Operands.{can_be_said}
use Rattle.lio_operators.specs.Laws.{IsSimple, IsUnthrown}
use Rattle.lio_syntax.specs.Throwing.{payload_of}
use Rattle.lio_syntax.specs.Items.{Item}
use Rattle.lio_calculus.specs.Operands.{power_of}
use Rattle.lio_calculus.specs.Task.{TaskState}
use Rattle.lio_calculus.specs.Going.{Onward, HoldReference, HoldVariable, Fork}
use Rattle.lio_calculus.specs.Plan.{Program, Plan, Over, Own, Visit, plan}
use Rattle.lio_calculus.specs.Step.{Configuration, cell_at, Move, move_of, after}
use Rattle.lio_calculus.specs.Sound.{EachBound, EachInTask, ItemSays, says, statement_says}
use Rattle.lio_calculus.specs.Powers.{ItemIsAmong, ItemsAreAmong, PlainIsAmong, KindIsAmong, ValueIsAmong, ReleasesBy, MakesNoPower, PowersAreGiven}
use Rattle.lio_calculus.proofs.Outcome.{Reads, Test, Asks}
use Rattle.lio_calculus.proofs.Outcome as out
use Rattle.lio_calculus.proofs.PlanCases.{ItemsCase, Does, Visits, plan-by}
use Rattle.lio_calculus.proofs.SoundLemmas.{first-said, rest-said, bound-each, seen-plain}
use Rattle.lio_calculus.proofs.Closed.{IsClosed}
use Rattle.lio_calculus.proofs.PlanEach.{plan-each}
use Rattle.lio_calculus.proofs.GoneKept.{EachHandle}
use Rattle.lio_calculus.proofs.TurnEach.{EachInCell, EachInMove, plan-silent, move-each, after-each}
use Rattle.lio_calculus.proofs.TurnParts.{parts, own-moves, visit-moves, over-moves}

-- what turns make of values whose privileges are among some
among-said : (powers : List Priv) (plain : Plain) → IsTrue (can_be_said plain) → PlainIsAmong powers plain
among-said powers (Power power) said = absurd (true≢false (sym said))
among-said powers (Items Nothing) said = tt
among-said powers (Items (Then item items)) said = absurd (true≢false (sym said))
among-said powers plain said = tt

among-simple : (powers : List Priv) (plain : Plain) → IsSimple plain → PlainIsAmong powers plain
among-simple powers (Power power) simple = absurd simple
among-simple powers (Items items) simple = absurd simple
among-simple powers plain simple = tt

among-payload : (powers : List Priv) (kind : FaultKind) → KindIsAmong powers kind → PlainIsAmong powers (payload_of kind)
among-payload powers (User plain) among = among
among-payload powers kind among = tt

among-unthrown : (powers : List Priv) (kind : FaultKind) → IsUnthrown kind → KindIsAmong powers kind
among-unthrown powers (User plain) unthrown = absurd unthrown
among-unthrown powers kind unthrown = tt

among-items : (powers : List Priv) (items : Forest) → ItemsAreAmong powers items → All (ValueIsAmong powers) (values_of items)
among-items powers Nothing among = All-nil (ValueIsAmong powers)
among-items powers (Then item items) among =
    All-cons (ValueIsAmong powers) (value_of item) (values_of items) (subst (ItemIsAmong powers) (sym (item_of-value_of item)) among.0) (among-items powers items among.1)

among-list : (powers : List Priv) (items : Forest) → All (ValueIsAmong powers) (values_of items) → ItemsAreAmong powers items
among-list powers Nothing all = tt
among-list powers (Then item items) all = (
  subst (ItemIsAmong powers) (item_of-value_of item) (All-head (ValueIsAmong powers) (value_of item) (values_of items) all),
  among-list powers items (All-tail (ValueIsAmong powers) (value_of item) (values_of items) all),
)

among-closed : (powers : List Priv) → IsClosed (ValueIsAmong powers)
among-closed powers = record {
  said = among-said powers;
  simple = among-simple powers;
  items = among-items powers;
  list = among-list powers;
  seal = λ label plain pure among. among;
  unseal = λ label plain among. among;
  again = λ one other content among. among;
  payload = λ label fault among. among-payload powers fault.kind among;
  throws = λ label at plain pure among. among;
  unthrown = λ label fault unthrown. among-unthrown powers fault.kind unthrown;
}

-- a handle is no privilege
among-handle : (powers : List Priv) (task : TaskState) (onward : Onward) → EachHandle (ValueIsAmong powers) task onward
among-handle powers task (HoldReference name label) = tt
among-handle powers task (HoldVariable name label) = tt
among-handle powers task (Fork name label cells turns) = tt
among-handle powers task onward = tt

-- the privilege of a release or an exposure is one that the task holds
abbrev PlanReleases : List Priv → Plan → Type 0
PlanReleases powers Over = Unit {0}
PlanReleases powers (Own asked reply onward) = ReleasesBy powers asked
PlanReleases powers (Visit asked target onward) = ReleasesBy powers asked

power-among : (powers : List Priv) (plain : Plain) (power : Priv) → power_of plain ≡ Some power → PlainIsAmong powers plain → Contains powers power
power-among powers (Power held) power e among = let is : held ≡ power = cc in subst (Contains powers) is among
power-among powers plain power e among = absurd (cc)

-- the cases of a plan
module _ (powers : List Priv) (task : TaskState) (each : EachBound (ValueIsAmong powers) task.environment) where
  asks-released : {program : Program} {s : Simple} {asked : Act} {test : Test} → IsTrue (says s) → Asks program task s asked test → ReleasesBy powers asked
  asks-released said (out.Releasing {a = a} {l = l} {p = p} {power = power} e f g) =
      let seen = seen-plain power_of task.environment p power g in
      power-among powers seen.0 power seen.2
      (bound-each (ValueIsAmong powers) task.environment p (Bare seen.0) (among-said powers) each (first-said p [] (rest-said l (p ∷ []) (rest-said a (l ∷ p ∷ []) said))) seen.1)
  asks-released said (out.Exposing {a = a} {p = p} {power = power} e f) =
      let seen = seen-plain power_of task.environment p power f in
      power-among powers seen.0 power seen.2
      (bound-each (ValueIsAmong powers) task.environment p (Bare seen.0) (among-said powers) each (first-said p [] (rest-said a (p ∷ []) said)) seen.1)
  asks-released said asks = tt

  items-released : {program : Program} {items : List Item} {p : Plan} → All ItemSays items → ItemsCase program task items p → PlanReleases powers p
  unfolding statement_says
  items-released said (Does (out.Refused asks e)) = asks-released (All-head ItemSays _ _ said) asks
  items-released said (Does (out.LacksCells asks)) = asks-released (All-head ItemSays _ _ said) asks
  items-released said (Does (out.LacksTurns asks)) = asks-released (All-head ItemSays _ _ said) asks
  items-released said (Does (out.Releases asks e f)) = asks-released (All-head ItemSays _ _ said) asks
  items-released said (Does (out.Exposes asks e f)) = asks-released (All-head ItemSays _ _ said) asks
  items-released said (Visits (Reads e)) = tt
  items-released said (Visits r) = tt
  items-released said o = tt

  plan-released : (program : Program) → All ItemSays task.items → PlanReleases powers (plan program task)
  plan-released program said = plan-by (PlanReleases powers) program task tt tt (λ p going o. items-released said o)

move-released : (powers : List Priv) (c : Configuration) (p : Plan) (move : Move) → PlanReleases powers p → move_of (cell_at c) p ≡ Some move → ReleasesBy powers move.act
move-released powers c Over move released moves = absurd (over-moves c move moves)
move-released powers c (Own asked reply onward) move released moves = subst (λ (m : Move). ReleasesBy powers m.act) (own-moves c asked reply onward move moves) released
move-released powers c (Visit asked target onward) move released moves = subst (λ (m : Move). ReleasesBy powers m.act) (visit-moves c asked target onward move moves) released

-- a turn
pub powers_are_given : PowersAreGiven
powers_are_given powers ticket c k turn sound among steps =
    let P : Value → Type 0 = ValueIsAmong powers in
    let p = parts ticket c k turn steps in
    let mine : EachInTask P p.task = among.tasks k p.task p.is in
    let said : All ItemSays p.task.items = sound.literals k p.task p.is in
    let move : EachInMove P p.move = move-each P (among-closed powers) c (plan c.program p.task) p.move among.nodes
    (plan-each P (among-closed powers) c.program p.task mine said) (plan-silent c.program p.task) p.moves in
    let cells : (n : ℕ) → EachInCell P (cell_at (after c k p.task p.move) n) = after-each P (among-closed powers) (among-handle powers) c k p.task p.move (λ n. record { state = among.nodes n; task = among.tasks n }) mine move in
    subst (MakesNoPower powers) p.made (record {
      after = record { tasks = λ n x is. (cells n).task x is; nodes = λ n. (cells n).state };
      released = move-released powers c (plan c.program p.task) p.move (plan-released powers p.task mine.environment c.program said) p.moves;
    })
