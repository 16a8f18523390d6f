-- Whether a plan can be carried out at once.
use Rattle.std.proofs.Common.{◌≡◌, ◌∙◌, refl, sym, ap, subst, Bor, ℕ, ◌==◌, Bool, true, false, not, ◌&&◌, if◌then◌else◌, List, ◌∷◌, Option, Some, None, is_some}
use Rattle.std.specs.Prelude.{◌||◌}
use Rattle.lio_values.specs.declared.fault.FaultKind.TheVariants.{NoTurns}
use Rattle.lio_values.specs.declared.value.Content.TheVariants.{Faulted}
use Rattle.lio_values.specs.declared.value.Handle.{Handle}
use Rattle.lio_values.specs.declared.value.Value.{Value}
use Rattle.lio_values.specs.declared.act.Act.{Act}
use Rattle.lio_values.specs.declared.act.Act.TheVariants as act
use Rattle.lio_syntax_lines.specs.declared.line.Operand.{Operand}
use Rattle.lio_syntax_lines.specs.declared.line.Simple.{Simple}
use Rattle.lio_syntax_lines.specs.declared.line.Simple.TheVariants as line
use Rattle.lio_syntax.specs.Statements.{Statement}
use Rattle.lio_cells.specs.declared.state.State.{State}
use Rattle.lio_cells.specs.declared.wish.Wish.{Wish}
use Rattle.lio_cells.specs.declared.wish.Wish.TheVariants as wish
use Rattle.lio_cells.specs.State.{Kind, Reference, Variable, Result as result, answer, grants, is_reference, ready}
use Rattle.lio_task_control.specs.declared.front.Front.{Front}
use Rattle.lio_task_control.specs.declared.front.Front.TheVariants as front
use Rattle.lio_task_control.specs.Front.{IsBack, IsChoice, IsFront, IsGuarded, IsLoop, IsMark}
use Rattle.lio_syntax.specs.Items.{Item, Do, Access}
use Rattle.lio_calculus.specs.Afforded.{kind_met}
use Rattle.lio_calculus.specs.Operands.{bound, seen_as, reference_of, variable_of, result_of as result_handle}
use Rattle.lio_calculus.specs.Task.{TaskState}
use Rattle.lio_calculus.specs.Going.{Onward, Advance, BindReply}
use Rattle.lio_calculus.specs.Plan.{Plan, Program, Over, Visit, Node, ending, fault_at, plan, plan_access, plan_items, with_seen}
use Rattle.lio_calculus.specs.Step.{Cell, Configuration, Move, blank, cell_at, has_label, met, waits}
use Rattle.lio_calculus.proofs.Outcome as out
use Rattle.lio_calculus.proofs.PlanCases.{ItemsCase, Does, items-case}
use Rattle.lio_erasure.specs.Moves.{gives, moves_at, shows_reference}
use Rattle.lio_erasure.proofs.ActLemmas.{ready-named}

-- an access by a handle waits until the node that the handle names is ready
visit-allowed : (c : Configuration) (asked : Act) (kind : Kind) (handle : Handle) (onward : Onward) → waits asked ≡ true → kind_met asked ≡ Some kind
    → let state : State = (cell_at c handle.number).state in moves_at c (Visit asked (Node kind handle) onward) ≡ (has_label state handle.label && ready state asked)
visit-allowed c asked kind handle onward w meets =
    ap (λ (b : Bool). is_some (if b && not (ready there asked) then None else Some move)) w ∙ by (ready there asked) ∙ sym (ready-named kind handle (cell_at c handle.number).state asked meets)
  where
    there : State
    there = met (Node kind handle) (cell_at c handle.number).state

    move : Move
    move = record { act = asked; target = Some (Node kind handle); reply = answer there asked; onward = onward }

    by : (b : Bool) → is_some (if not b then None else Some move) ≡ b
    by true = refl
    by false = refl

gives-seen : (c : Configuration) (task : TaskState) (asked : Act) (kind : Kind) (wanted : Wish) (onward : Onward) (seen : Option Handle) → waits asked ≡ true → kind_met asked ≡ Some kind
    → ((state : State) → ready state asked ≡ grants state wanted) → moves_at c (with_seen task seen (λ handle. Visit asked (Node kind handle) onward)) ≡ gives c wanted seen
gives-seen c task asked kind wanted onward None w meets same = refl
gives-seen c task asked kind wanted onward (Some handle) w meets same =
    visit-allowed c asked kind handle onward w meets ∙ ap (λ (b : Bool). has_label (cell_at c handle.number).state handle.label && b) (same (cell_at c handle.number).state)

pub read-allowed : (c : Configuration) (task : TaskState) (x : List ℕ) (r : Operand) → moves_at c (plan_access task (line.Read x r)) ≡ shows_reference c (seen_as reference_of task.environment r)
unfolding plan_access ready
read-allowed c task x r = by (seen_as reference_of task.environment r)
  where
    by : (seen : Option Handle) → moves_at c (with_seen task seen (λ handle. Visit act.Read (Node Reference handle) (BindReply x))) ≡ shows_reference c seen
    by None = refl
    by (Some handle) = visit-allowed c act.Read Reference handle (BindReply x) refl refl

pub take-allowed : (c : Configuration) (task : TaskState) (x : List ℕ) (v : Operand) → moves_at c (plan_access task (line.Take x v)) ≡ gives c wish.Take (seen_as variable_of task.environment v)
unfolding plan_access ready
take-allowed c task x v = gives-seen c task act.Take Variable wish.Take (BindReply x) (seen_as variable_of task.environment v) refl refl (λ state. refl)

pub wait-allowed : (c : Configuration) (task : TaskState) (x : List ℕ) (r : Operand) → moves_at c (plan_access task (line.Wait x r)) ≡ gives c wish.Wait (seen_as result_handle task.environment r)
unfolding plan_access ready
wait-allowed c task x r = gives-seen c task act.Wait result wish.Wait (BindReply x) (seen_as result_handle task.environment r) refl refl (λ state. refl)

pub put-allowed : (c : Configuration) (task : TaskState) (v a : Operand)
    → moves_at c (plan_access task (line.Put v a)) ≡ (not (is_some (bound task.environment a)) || gives c wish.Put (seen_as variable_of task.environment v))
unfolding plan_access ready
put-allowed c task v a = by (seen_as variable_of task.environment v) (bound task.environment a)
  where
    by : (seen : Option Handle) (value : Option Value)
        → moves_at c (with_seen task seen (λ handle. with_seen task value (λ x. Visit (act.Put x) (Node Variable handle) Advance))) ≡ (not (is_some value) || gives c wish.Put seen)
    by None None = refl
    by (Some handle) None = refl
    by seen (Some x) = gives-seen c task (act.Put x) Variable wish.Put Advance seen refl refl (λ state. refl)

-- a statement never waits
statement-moves : {s : Statement} {items : List Item} {p : Plan} (c : Configuration) (program : Program) (task : TaskState) → ItemsCase program task (Do s ∷ items) p → moves_at c p ≡ true
statement-moves c program task (Does out.Mistyped) = refl
statement-moves c program task o = refl

-- what isn't an access doesn't wait
pub unless-access : (c : Configuration) (program : Program) (task : TaskState) (items : List Item) → ((simple : Simple) (rest : List Item) → items ≡ Access simple ∷ rest → ⊥) → moves_at c (plan_items program task items) ≡ true
unless-access c program task (Access simple ∷ items) other = absurd (other simple items refl)
unless-access c program task (Do s ∷ items) other = statement-moves c program task (items-case program task (Do s ∷ items))
unless-access c program task items other = refl

-- a task that has ended, one without turns, and one that goes on
pub ended-stays : (c : Configuration) (program : Program) (task : TaskState) → task.ended ≡ true → moves_at c (plan program task) ≡ false
unfolding plan
ended-stays c program task e = ap (λ (b : Bool). moves_at c (if b then Over else (if task.turns == 0 then ending (Faulted (fault_at task NoTurns)) else plan_items program task task.items))) e

pub spent-moves : (c : Configuration) (program : Program) (task : TaskState) → task.ended ≡ false → (task.turns == 0) ≡ true → moves_at c (plan program task) ≡ true
unfolding plan
spent-moves c program task e t =
    ap (λ (b : Bool). moves_at c (if b then Over else (if task.turns == 0 then ending (Faulted (fault_at task NoTurns)) else plan_items program task task.items))) e
    ∙ ap (λ (b : Bool). moves_at c (if b then ending (Faulted (fault_at task NoTurns)) else plan_items program task task.items)) t

pub going-moves : (c : Configuration) (program : Program) (task : TaskState) → task.ended ≡ false → (task.turns == 0) ≡ false → moves_at c (plan program task) ≡ moves_at c (plan_items program task task.items)
unfolding plan
going-moves c program task e t =
    ap (λ (b : Bool). moves_at c (if b then Over else (if task.turns == 0 then ending (Faulted (fault_at task NoTurns)) else plan_items program task task.items))) e
    ∙ ap (λ (b : Bool). moves_at c (if b then ending (Faulted (fault_at task NoTurns)) else plan_items program task task.items)) t

-- what comes first is an access where it is told to be one
pub front-other : (f : Front) (items : List Item) → IsFront items f → ((x : Bor Simple) → f ≡ front.Access x → ⊥) → (simple : Simple) (rest : List Item) → items ≡ Access simple ∷ rest → ⊥
front-other front.Nothing items is other simple rest e = absurd (cc)
front-other front.Back items is other simple rest e = subst IsBack e is
front-other front.Mark items is other simple rest e = subst IsMark e is
front-other (front.Fail fault) items is other simple rest e = absurd (cc)
front-other (front.Access x) items is other simple rest e = other x refl
front-other (front.Simple x) items is other simple rest e = absurd (cc)
front-other (front.Choice x) items is other simple rest e = subst (λ (is : List Item). IsChoice is x.now) e is
front-other (front.Loop x) items is other simple rest e = subst (λ (is : List Item). IsLoop is x.now) e is
front-other front.Guarded items is other simple rest e = subst IsGuarded e is

-- a cell that is left out gives nothing
pub absent-gives : (c : Configuration) (wanted : Wish) (handle : Handle) → cell_at c handle.number ≡ blank → gives c wanted (Some handle) ≡ false
absent-gives c wanted handle e = ap (λ (x : Cell). has_label x.state handle.label && grants x.state wanted) e

pub absent-shows : (c : Configuration) (handle : Handle) → cell_at c handle.number ≡ blank → shows_reference c (Some handle) ≡ false
absent-shows c handle e = ap (λ (x : Cell). has_label x.state handle.label && is_reference x.state) e

-- what is no access of a node throws a fault
pub fault-allowed : (c : Configuration) (task : TaskState) (access : Simple) → ((x : List ℕ) (r : Operand) → access ≡ line.Read x r → ⊥) → ((x : List ℕ) (v : Operand) → access ≡ line.Take x v → ⊥)
    → ((v a : Operand) → access ≡ line.Put v a → ⊥) → ((x : List ℕ) (r : Operand) → access ≡ line.Wait x r → ⊥) → moves_at c (plan_access task access) ≡ true
unfolding plan_access
fault-allowed c task (line.Read x r) read take put wait = absurd (read x r refl)
fault-allowed c task (line.Take x v) read take put wait = absurd (take x v refl)
fault-allowed c task (line.Put v a) read take put wait = absurd (put v a refl)
fault-allowed c task (line.Wait x r) read take put wait = absurd (wait x r refl)
fault-allowed c task access read take put wait = refl
