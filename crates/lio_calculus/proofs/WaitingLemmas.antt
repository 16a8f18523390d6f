-- Which task can't take a turn.
use Rattle.std.proofs.Common.{◌≡◌, ◌∙◌, refl, sym, ap, ℕ, ◌==◌, Bool, true, false, ◌&&◌, not, if◌then◌else◌, IsTrue, List, [], ◌∷◌, All, Option, Some, None, is_some, true≢false}
use Rattle.std.specs.Prelude.{◌||◌}
use Rattle.std.specs.Option.{option_map_or}
use Rattle.std.proofs.lemmas.List.Elements.{All-head}
use Rattle.lio_values.specs.declared.fault.FaultKind.TheVariants.{NoTurns}
use Rattle.lio_values.specs.declared.value.Content.TheVariants.{Faulted}
use Rattle.lio_values.specs.declared.value.Handle.{Handle}
use Rattle.lio_values.specs.declared.value.Value.{Value}
use Rattle.lio_values.specs.declared.act.Act.{Act}
use Rattle.lio_values.specs.declared.act.Act.TheVariants as act
use Rattle.lio_syntax_lines.specs.declared.line.Simple.{Simple}
use Rattle.lio_syntax_lines.specs.declared.line.Simple.TheVariants as line
use Rattle.lio_syntax.specs.Statements.{Statement}
use Rattle.lio_cells.specs.declared.state.State.TheVariants.{Absent}
use Rattle.lio_cells.specs.State.{Kind, Reference, Variable, Result as result, ready, answer}
use Rattle.lio_syntax.specs.Items.{Item, Do, Access}
use Rattle.lio_calculus.specs.Operands.{bound, seen_as, reference_of, variable_of, result_of as result_handle}
use Rattle.lio_calculus.specs.Task.{TaskState}
use Rattle.lio_calculus.specs.Going.{Onward, Advance, BindReply}
use Rattle.lio_calculus.specs.Plan.{Plan, Over, Visit, Node, fault_at, ending, with_seen, plan_access, plan_items, plan}
use Rattle.lio_calculus.specs.Step.{Configuration, cell_at, waits, Move, move_of, visit, can}
use Rattle.lio_calculus.specs.Sound.{Names, ValueNames, EachBound, IsRaised, FrontIsRaised, ItemSays, says, IsTaskOf, IsSound}
use Rattle.lio_calculus.specs.Waiting.{is_ready_for, is_held_up, is_waiting, is_still, TaskCanUnlessStill}
use Rattle.lio_calculus.proofs.Outcome as out
use Rattle.lio_calculus.proofs.PlanCases.{ItemsCase, Does, items-case}
use Rattle.lio_calculus.proofs.SoundLemmas.{first-said, reference-names, variable-names, result-names}
use Rattle.lio_calculus.proofs.EnabledLemmas.{can-task, can-absent}

-- whether a plan can be carried out at once
abbrev moves_at : Configuration → Plan → Bool
moves_at c p = is_some (move_of (cell_at c) p)

-- a statement never waits
statement-moves : {s : Statement} {items : List Item} {p : Plan} (c : Configuration) (task : TaskState) → ItemsCase c.program task (Do s ∷ items) p → moves_at c p ≡ true
statement-moves c task (Does out.Mistyped) = refl
statement-moves c task o = refl

-- an access waits until the node that its handle names is ready
visit-moves : (c : Configuration) (asked : Act) (kind : Kind) (handle : Handle) (onward : Onward) → waits asked ≡ true → Names c kind handle
    → moves_at c (Visit asked (Node kind handle) onward) ≡ ready (cell_at c handle.number).state asked
visit-moves c asked kind handle onward w named =
    ap (λ (b : Bool). is_some (visit asked (Node kind handle) onward (if b then (cell_at c handle.number).state else Absent))) named
    ∙ ap (λ (b : Bool). is_some (if b && not (ready (cell_at c handle.number).state asked) then None else Some move)) w
    ∙ by (ready (cell_at c handle.number).state asked)
  where
    move : Move
    move = record { act = asked; target = Some (Node kind handle); reply = answer (cell_at c handle.number).state asked; onward = onward }

    by : (b : Bool) → is_some (if not b then None else Some move) ≡ b
    by true = refl
    by false = refl

seen-held : {X Y : Type 0} (f : X → Y) (seen : Option X) (x : X) (d : Y) → seen ≡ Some x → option_map_or f seen d ≡ f x
seen-held f seen x d e = ap (λ o. option_map_or f o d) e

seen-plan : {X : Type 0} (task : TaskState) (seen : Option X) (next : X → Plan) (x : X) → seen ≡ Some x → with_seen task seen next ≡ next x
seen-plan task seen next x e = ap (λ o. with_seen task o next) e

not-not : (b : Bool) → b ≡ not (not b)
not-not true = refl
not-not false = refl

-- an access in front of a task of a well-formed configuration
access-moves : (c : Configuration) (task : TaskState) (s : Simple) (items : List Item) → EachBound (ValueNames c) task.environment → IsTrue (says s) → IsRaised task s → moves_at c (plan_access task s) ≡ not (is_held_up c task.environment (Access s ∷ items))
unfolding plan_access ready
access-moves c task (line.Read x r) items each said raised =
    let handle : Handle = raised.0 in
    ap (moves_at c) (seen-plan task (seen_as reference_of task.environment r) (λ h. Visit act.Read (Node Reference h) (BindReply x)) handle raised.1)
    ∙ visit-moves c act.Read Reference handle (BindReply x) refl (reference-names c task.environment r handle each (first-said r [] said) raised.1)
    ∙ not-not _ ∙ ap not (sym (seen-held (λ (h : Handle). not (is_ready_for (line.Read x r) (cell_at c h.number).state)) (seen_as reference_of task.environment r) handle false raised.1))
access-moves c task (line.Take x v) items each said raised =
    let handle : Handle = raised.0 in
    ap (moves_at c) (seen-plan task (seen_as variable_of task.environment v) (λ h. Visit act.Take (Node Variable h) (BindReply x)) handle raised.1)
    ∙ visit-moves c act.Take Variable handle (BindReply x) refl (variable-names c task.environment v handle each (first-said v [] said) raised.1)
    ∙ not-not _ ∙ ap not (sym (seen-held (λ (h : Handle). not (is_ready_for (line.Take x v) (cell_at c h.number).state)) (seen_as variable_of task.environment v) handle false raised.1))
access-moves c task (line.Put v a) items each said raised =
    let handle : Handle = raised.0 in
    let last : Handle → Value → Plan = λ h value. Visit (act.Put value) (Node Variable h) Advance in
    ap (moves_at c) (seen-plan task (seen_as variable_of task.environment v) (λ h. with_seen task (bound task.environment a) (last h)) handle raised.1)
    ∙ full (bound task.environment a) raised.3
    ∙ not-not _ ∙ ap not (sym (seen-held (λ (h : Handle). not (is_ready_for (line.Put v a) (cell_at c h.number).state)) (seen_as variable_of task.environment v) handle false raised.1))
  where
    full : (o : Option Value) → IsTrue (is_some o) → moves_at c (with_seen task o (λ value. Visit (act.Put value) (Node Variable raised.0) Advance)) ≡ is_ready_for (line.Put v a) (cell_at c raised.0.number).state
    full None none = absurd (true≢false (sym none))
    full (Some value) there = visit-moves c (act.Put value) Variable raised.0 Advance refl (variable-names c task.environment v raised.0 each (first-said v (a ∷ []) said) raised.1)
access-moves c task (line.Wait x r) items each said raised =
    let handle : Handle = raised.0 in
    ap (moves_at c) (seen-plan task (seen_as result_handle task.environment r) (λ h. Visit act.Wait (Node result h) (BindReply x)) handle raised.1)
    ∙ visit-moves c act.Wait result handle (BindReply x) refl (result-names c task.environment r handle each (first-said r [] said) raised.1)
    ∙ not-not _ ∙ ap not (sym (seen-held (λ (h : Handle). not (is_ready_for (line.Wait x r) (cell_at c h.number).state)) (seen_as result_handle task.environment r) handle false raised.1))
access-moves c task s items each said raised = absurd raised

items-moves : (c : Configuration) (task : TaskState) (items : List Item) → EachBound (ValueNames c) task.environment → All ItemSays items → FrontIsRaised task items → moves_at c (plan_items c.program task items) ≡ not (is_held_up c task.environment items)
items-moves c task (Do s ∷ items) each said raised = statement-moves c task (items-case c.program task (Do s ∷ items))
items-moves c task (Access s ∷ items) each said raised = access-moves c task s items each (All-head ItemSays (Access s) items said) raised
items-moves c task items each said raised = refl

task-moves : (c : Configuration) (k : ℕ) (task : TaskState) → IsSound c → IsTaskOf c k task → moves_at c (plan c.program task) ≡ not (task.ended || is_waiting c task)
unfolding plan
task-moves c k task sound is = by task.ended (task.turns == 0)
  where
    by : (ended none : Bool) → moves_at c (if ended then Over else (if none then ending (Faulted (fault_at task NoTurns)) else plan_items c.program task task.items)) ≡ not (ended || (not none && is_held_up c task.environment task.items))
    by true none = refl
    by false true = refl
    by false false = items-moves c task task.items (sound.names k task is).environment (sound.literals k task is) (sound.accesses k task is).front

pub task_can_unless_still : TaskCanUnlessStill
task_can_unless_still c k sound = by (cell_at c k).task refl
  where
    by : (t : Option TaskState) → (cell_at c k).task ≡ t → can c k ≡ not (is_still c k)
    by None is = can-absent c k is ∙ sym (ap (λ (t : Option TaskState). not (option_map_or (λ (task : TaskState). task.ended || is_waiting c task) t true)) is)
    by (Some task) is =
        can-task c k task is ∙ task-moves c k task sound is
        ∙ sym (ap (λ (t : Option TaskState). not (option_map_or (λ (x : TaskState). x.ended || is_waiting c x) t true)) is)
