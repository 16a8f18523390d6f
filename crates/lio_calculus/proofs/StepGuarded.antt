-- Each turn of a well-formed configuration is guarded.
use Rattle.std.proofs.Common.{◌≡◌, ◌∙◌, refl, sym, ap, subst, ℕ, false, IsTrue, List, [], ◌∷◌, All, Option, Some, None, arith}
use Rattle.std.specs.Prelude.{option_and_then, option_map}
use Rattle.std.proofs.lemmas.List.Elements.{All-head}
use Rattle.lio_labels.specs.Flow.{flows}
use Rattle.lio_values.specs.declared.value.Handle.{Handle}
use Rattle.lio_values.specs.Views.{inner_of}
use Rattle.lio_values.specs.declared.value.Value.{Value}
use Rattle.lio_values.specs.declared.value.Value.TheVariants.{Bare, Sealed}
use Rattle.lio_values.specs.declared.act.Act.{Act}
use Rattle.lio_values.specs.declared.fault.Fault.{Fault}
use Rattle.lio_values.specs.declared.act.Op.TheVariants as op
use Rattle.lio_syntax_lines.specs.declared.line.Simple.{Simple}
use Rattle.lio_guards.proofs.GuardLemmas.{current_flows_to_written, learnt_flows_to_label, current_flows_to_label, current_flows_to_exposed}
use Rattle.lio_syntax.specs.Items.{Item}
use Rattle.lio_calculus.specs.Operands.{bound, Labelled, sealed_of}
use Rattle.lio_values.specs.declared.act.Reply.TheVariants.{Refused}
use Rattle.lio_calculus.specs.Task.{TaskState}
use Rattle.lio_calculus.specs.Plan.{Program, Plan, plan}
use Rattle.lio_calculus.specs.Step.{Configuration, cell_at, Move, move_of, Turn, step, turn_of, entry_of, after}
use Rattle.lio_calculus.specs.Guarded.{IsShown, IsGuarded}
use Rattle.lio_calculus.specs.Sound.{EachBound, ValueNames, InnerIsOpen, IsOpen, IsTaskOf, IsSound, ItemSays, says, statement_says, FrontIsRaised}
use Rattle.lio_calculus.proofs.SoundLemmas.{first-said, bound-each, said-open, reference-names, variable-names, result-names, channel-names}
use Rattle.lio_calculus.proofs.GuardedLemmas.{GuardedBy, over-guarded, own-guarded, raise-guarded, visit-guarded, refused-guarded}
use Rattle.lio_calculus.proofs.Outcome.{Reads, Takes, Puts, Waits, Test, Asks, Outcome}
use Rattle.lio_calculus.proofs.Outcome as out
use Rattle.lio_calculus.proofs.PlanCases.{ItemsCase, Does, Visits, plan-by}
use Rattle.lio_calculus.proofs.VisitGuarded.{write-guarded, read-guarded, send-guarded, take-guarded, put-guarded, wait-guarded, new_reference-guarded, new_variable-guarded, fork-guarded, spawn-guarded}

-- a sealed value that a task looks up isn't hidden, and keeps a pure one
sealed-shown : (v : Option Value) (sealed : Labelled) → option_and_then sealed_of v ≡ Some sealed → ((value : Value) → v ≡ Some value → IsOpen value) → InnerIsOpen (inner_of sealed.content)
sealed-shown None sealed e shown = absurd (cc)
sealed-shown (Some (Bare plain)) sealed e shown = absurd (cc)
sealed-shown (Some (Sealed label content)) sealed e shown =
    let made : Labelled = record { label = label; content = content } in
    let is : made ≡ sealed = cc in subst (λ (s : Labelled). InnerIsOpen (inner_of s.content)) is (shown (Sealed label content) refl)

-- a refused act shows no content
asks-shown : {program : Program} {task : TaskState} {s : Simple} {asked : Act} {test : Test} → Asks program task s asked test → (fault : Fault) → IsShown asked (Refused fault)
asks-shown (out.Releasing e f g) fault = refl
asks-shown (out.Exposing e f) fault = refl
asks-shown asks fault = tt

-- the handle of an access whose raise is done is the one that the raise learnt
same-handle : {X : Type 0} {seen : Option X} {a b : X} → seen ≡ Some a → seen ≡ Some b → a ≡ b
same-handle {a = a} {b = b} e f = inner (sym e ∙ f)
  where
    inner : Some a ≡ Some b → a ≡ b
    inner g = cc

-- the cases of a plan
module _ (c : Configuration) (k : ℕ) (task : TaskState) (sound : IsSound c) (is : IsTaskOf c k task) where
  names : EachBound (ValueNames c) task.environment
  names = (sound.names k task is).environment

  outcome-guarded : {s : Simple} {p : Plan} → IsTrue (says s) → Outcome c.program task s p → GuardedBy c k task p
  outcome-guarded said (out.Refused asks e) = refused-guarded c k task _ _ (asks-shown asks _)
  outcome-guarded said (out.LacksCells asks) = refused-guarded c k task _ _ (asks-shown asks _)
  outcome-guarded said (out.LacksTurns asks) = refused-guarded c k task _ _ (asks-shown asks _)
  outcome-guarded said (out.Unlabels e f) =
      raise-guarded c k task _ _ _ (current_flows_to_label op.Unlabel task.label task.clearance _ _ f) (learnt_flows_to_label op.Unlabel task.label task.clearance _ _ refl f) tt
  outcome-guarded said (out.Taints e f) = raise-guarded c k task _ _ _ (current_flows_to_label op.Taint task.label task.clearance _ _ f) tt tt
  outcome-guarded said (out.IsRaised {o = o} r e) = raise-guarded c k task _ _ _ (current_flows_to_label o task.label task.clearance _ _ e) tt tt
  outcome-guarded said (out.Releases {a = a} {l = l} {p = p} {sealed = sealed} asks e f) =
      own-guarded c k task _ _ _ refl refl (sealed-shown (bound task.environment a) sealed e
      (λ value found. bound-each IsOpen task.environment a value said-open (sound.shown k task is).environment (first-said a (l ∷ p ∷ []) said) found))
  outcome-guarded said (out.Exposes {a = a} {p = p} {sealed = sealed} asks e f) =
      raise-guarded c k task _ _ _ (current_flows_to_exposed task.label task.clearance _ _ _ f) refl (sealed-shown (bound task.environment a) sealed e
      (λ value found. bound-each IsOpen task.environment a value said-open (sound.shown k task is).environment (first-said a (p ∷ []) said) found))
  outcome-guarded said (out.MakesReference {x = x} {label = label} asks e room) =
      visit-guarded c k task _ _ _ (new_reference-guarded c k task x label _ sound is room (current_flows_to_written op.NewRef task.label task.clearance label _ refl e))
  outcome-guarded said (out.MakesVariable {x = x} {label = label} asks e room) =
      visit-guarded c k task _ _ _ (new_variable-guarded c k task x label _ sound is room (current_flows_to_written op.NewVar task.label task.clearance label _ refl e))
  outcome-guarded said (out.Writes {r = r} {a = a} e f g) =
      visit-guarded c k task _ _ _ (write-guarded c k task _ _ sound is (reference-names c task.environment r _ names (first-said r (a ∷ []) said) e)
      (current_flows_to_written op.Write task.label task.clearance _ _ refl g))
  outcome-guarded said (out.Sends {c = channel} {a = a} e f g) =
      visit-guarded c k task _ _ _ (send-guarded c k task _ _ sound is (channel-names c task.environment channel _ names (first-said channel (a ∷ []) said) e)
      (current_flows_to_written op.Send task.label task.clearance _ _ refl g))
  outcome-guarded said (out.MakesChild asks e f room enough) = visit-guarded c k task _ _ _ (fork-guarded c k task _ _ _ _ _ sound is (omega (arith, room)))
  outcome-guarded said (out.MakesOrphan asks e room enough) = visit-guarded c k task _ _ _ (spawn-guarded c k task _ _ _ sound is (omega (arith, room)))
  outcome-guarded said o = own-guarded c k task _ _ _ refl tt tt

  items-guarded : {items : List Item} {p : Plan} → task.ended ≡ false → All ItemSays items → FrontIsRaised task items → ItemsCase c.program task items p → GuardedBy c k task p
  unfolding statement_says
  items-guarded going said raised (Does o) = outcome-guarded (All-head ItemSays _ _ said) o
  items-guarded going said raised (Visits (Reads {r = r} e)) =
      visit-guarded c k task _ _ _ (read-guarded c k task _ _ sound is (reference-names c task.environment r _ names (first-said r [] (All-head ItemSays _ _ said)) e)
      (subst (λ (h : Handle). IsTrue (flows h.label task.label)) (same-handle raised.1 e) raised.2))
  items-guarded going said raised (Visits (Takes {v = v} e)) =
      visit-guarded c k task _ _ _ (take-guarded c k task _ _ sound is (variable-names c task.environment v _ names (first-said v [] (All-head ItemSays _ _ said)) e)
      (ap (λ (h : Handle). h.label) (same-handle e raised.1) ∙ raised.2))
  items-guarded going said raised (Visits (Puts {v = v} {a = a} e f)) =
      visit-guarded c k task _ _ _ (put-guarded c k task _ _ sound is (variable-names c task.environment v _ names (first-said v (a ∷ []) (All-head ItemSays _ _ said)) e)
      (ap (λ (h : Handle). h.label) (same-handle e raised.1) ∙ raised.2))
  items-guarded going said raised (Visits (Waits {r = r} e)) =
      wait-guarded c k task _ _ sound is going (result-names c task.environment r _ names (first-said r [] (All-head ItemSays _ _ said)) e)
      (subst (λ (h : Handle). IsTrue (flows h.label task.label)) (same-handle raised.1 e) raised.2)
  items-guarded going said raised o = own-guarded c k task _ _ _ refl tt tt

  -- the plan of a task
  pub plan-guarded : GuardedBy c k task (plan c.program task)
  plan-guarded =
      plan-by (GuardedBy c k task) c.program task (over-guarded c k task) (own-guarded c k task _ _ _ refl tt tt)
      (λ p going o. items-guarded going (sound.literals k task is) (sound.accesses k task is).front o)

-- a turn
pub turn-guarded : (ticket : ℕ) (c : Configuration) (k : ℕ) (task : TaskState) (turn : Turn) → IsSound c → IsTaskOf c k task → step ticket c k ≡ Some turn → IsGuarded c k task (plan c.program task)
unfolding step GuardedBy
turn-guarded ticket c k task turn sound is steps =
    let got : turn_of ticket c k task ≡ Some turn = sym (ap (λ (t : Option TaskState). option_and_then (turn_of ticket c k) t) is) ∙ steps in
    by (move_of (cell_at c) (plan c.program task)) refl got
  where
    by : (m : Option Move) → move_of (cell_at c) (plan c.program task) ≡ m → option_map (λ move. record { entry = entry_of ticket k task move; next = after c k task move }) m ≡ Some turn → IsGuarded c k task (plan c.program task)
    by None moves got = absurd (cc)
    by (Some move) moves got = plan-guarded c k task sound is move moves
