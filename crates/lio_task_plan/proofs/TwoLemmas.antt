-- What an operator on two operands plans: where the left one isn't bare, the refusal, and where the right one isn't, what it makes of the sealed value.
use Rattle.std.proofs.Common.{◌≡◌, refl, sym, ap, ◌∙◌, ℕ, List, Option, Some, None, Ok, Err}
use Rattle.std.specs.Prelude.{Result, IfOk, option_and_then}
use Rattle.lio_clauses.specs.declared.faults.NoMemory.{NoMemory}
use Rattle.lio_syntax_lines.specs.declared.operators.Two.{Two}
use Rattle.lio_values.specs.declared.act.Act.TheVariants as act
use Rattle.lio_values.specs.declared.fault.FaultKind.{FaultKind}
use Rattle.lio_values.specs.declared.fault.FaultKind.TheVariants.{BadType}
use Rattle.lio_values.specs.declared.value.Plain.{Plain}
use Rattle.lio_values.specs.declared.value.Value.{Value}
use Rattle.lio_values.specs.declared.value.Value.TheVariants.{Bare, Sealed}
use Rattle.lio_syntax_lines.specs.declared.line.Operand.{Operand}
use Rattle.lio_syntax_lines.specs.declared.line.Simple.TheVariants as line
use Rattle.lio_syntax.specs.Lines.{script_lines}
use Rattle.lio_operators.specs.Operators.{operate2, on_bare_and_sealed}
use Rattle.lio_operators.specs.Answers.{Answers}
use Rattle.lio_syntax.specs.Environment.{Environment}
use Rattle.lio_operators.specs.declared.faults.OpFault.{OpFault}
use Rattle.lio_calculus.specs.Operands.{bare_of, bound, seen_as}
use Rattle.lio_calculus.specs.Task.{TaskState}
use Rattle.lio_calculus.specs.Plan.{Plan, Program, bad_type, computed, plan_simple, with_seen}
use Rattle.lio_task_turns.specs.declared.standing.Standing.{Standing}
use Rattle.lio_task_turns.specs.declared.turn.Turn.{Turn}
use Rattle.lio_task_plan.specs.Planned.{Computes, ComputesSealed}
use Rattle.lio_task_turns.specs.Operands.{sealed_value_of}
use Rattle.lio_task_turns.specs.Turns.{PlansBy, refusal, turn_of}
use Rattle.lio_task_turns.specs.StateOf.{state_of}

-- the plan of an operator on what its operands stand for
abbrev pub two : ℕ → TaskState → List ℕ → Two → Option Value → Option Value → Plan
two longest task name op left right = with_seen task left (λ a. with_seen task right (λ b. computed task name (operate2 longest op a b)))

-- what an operand stands for, where that is bare
abbrev pub bare_in : Option Value → Option Plain
bare_in seen = option_and_then (λ value. option_and_then Some (bare_of value)) seen

left-not_bare : (longest : ℕ) (task : TaskState) (name : List ℕ) (op : Two) (left right : Option Value) → None ≡ bare_in left → bad_type task ≡ two longest task name op left right
unfolding operate2
left-not_bare longest task name op None right e = refl
left-not_bare longest task name op (Some (Bare a)) right e = absurd (let none : None ≡ Some a = e in cc)
left-not_bare longest task name op (Some (Sealed label content)) None e = refl
left-not_bare longest task name op (Some (Sealed label content)) (Some b) e = refl

-- a right operand that isn't bare: what its sealed value, if it is there, is planned to
right-sealed : (longest : ℕ) (task : TaskState) (name : List ℕ) (op : Two) (a : Plain) (right : Option Value) → None ≡ bare_in right
    → with_seen task (option_and_then sealed_value_of right) (λ b. computed task name (on_bare_and_sealed longest op a b)) ≡ two longest task name op (Some (Bare a)) right
unfolding operate2
right-sealed longest task name op a None e = refl
right-sealed longest task name op a (Some (Bare b)) e = absurd (let none : None ≡ Some b = e in cc)
right-sealed longest task name op a (Some (Sealed label content)) e = refl

pub bare-is : (seen : Option Value) (a : Plain) → Some a ≡ bare_in seen → seen ≡ Some (Bare a)
bare-is None a e = absurd (let none : Some a ≡ None = e in cc)
bare-is (Some (Sealed label content)) a e = absurd (let none : Some a ≡ None = e in cc)
bare-is (Some (Bare b)) a e = let same : b ≡ a = (let one : Some a ≡ Some b = e in cc) in ap (λ (p : Plain). Some (Bare p)) same

pub both-bare : (longest : ℕ) (task : TaskState) (name : List ℕ) (op : Two) (left right : Option Value) (a b : Plain) → Some a ≡ bare_in left → Some b ≡ bare_in right
    → computed task name (operate2 longest op (Bare a) (Bare b)) ≡ two longest task name op left right
both-bare longest task name op left right a b e f =
    sym (ap (λ (seen : Option Value). two longest task name op seen right) (bare-is left a e) ∙ ap (λ (seen : Option Value). two longest task name op (Some (Bare a)) seen) (bare-is right b f))

-- what the left operand stands for isn't bare
pub left-refuses : (program : Program) (task : Standing) (name : List ℕ) (left : Operand) (op : Two) (right : Operand) (result : Result Turn NoMemory) → IfOk result (λ turn. turn ≡ refusal task act.Step BadType)
    → None ≡ seen_as Some (state_of (script_lines program.procedures) task).environment left → IfOk result (PlansBy program task (line.LetTwo name left op right))
unfolding plan_simple
left-refuses program task name left op right (Ok turn) is e =
    let state : TaskState = state_of (script_lines program.procedures) task in
    ap (turn_of (script_lines program.procedures) (line.LetTwo name left op right)) is ∙ left-not_bare program.longest state name op (bound state.environment left) (bound state.environment right) e
left-refuses program task name left op right (Err error) is e = tt

-- what the right operand stands for isn't bare
pub right-seals : (program : Program) (task : Standing) (name : List ℕ) (left : Operand) (op : Two) (right : Operand) (a : Plain) (seen : Option Value) (result : Result Turn NoMemory)
    → IfOk result (ComputesSealed task program.longest name op a seen) → let environment : Environment = (state_of (script_lines program.procedures) task).environment in
    Some a ≡ seen_as Some environment left → None ≡ seen_as Some environment right → seen ≡ option_and_then sealed_value_of (bound environment right) → IfOk result (PlansBy program task (line.LetTwo name left op right))
unfolding plan_simple
right-seals program task name left op right a seen (Ok turn) computes e f g =
    let state : TaskState = state_of (script_lines program.procedures) task in
    computes (line.LetTwo name left op right) (script_lines program.procedures)
    ∙ ap (λ (s : Option Value). with_seen state s (λ b. computed state name (on_bare_and_sealed program.longest op a b))) g
    ∙ right-sealed program.longest state name op a (bound state.environment right) f
    ∙ sym (ap (λ (s : Option Value). two program.longest state name op s (bound state.environment right)) (bare-is (bound state.environment left) a e))
right-seals program task name left op right a seen (Err error) computes e f g = tt

-- what an operator made is bound, or the refusal
computes-answer : (task : Standing) (name : List ℕ) (made : Result Value OpFault) (answer : Result Value FaultKind) (result : Result Turn NoMemory)
    → IfOk result (λ turn. (given : Result Value FaultKind) → Answers given made → Computes task name given turn) → Answers answer made → IfOk result (Computes task name answer)
computes-answer task name made answer (Ok turn) computes answers = computes answer answers
computes-answer task name made answer (Err error) computes answers = tt

-- both are bare
both-bound : (program : Program) (task : Standing) (name : List ℕ) (left : Operand) (op : Two) (right : Operand) (a b : Plain) (result : Result Turn NoMemory)
    → IfOk result (Computes task name (operate2 program.longest op (Bare a) (Bare b)))
    → Some a ≡ seen_as Some (state_of (script_lines program.procedures) task).environment left → Some b ≡ seen_as Some (state_of (script_lines program.procedures) task).environment right
    → IfOk result (PlansBy program task (line.LetTwo name left op right))
unfolding plan_simple
both-bound program task name left op right a b (Ok turn) computes e f =
    let state : TaskState = state_of (script_lines program.procedures) task in
    computes (line.LetTwo name left op right) (script_lines program.procedures) ∙ both-bare program.longest state name op (bound state.environment left) (bound state.environment right) a b e f
both-bound program task name left op right a b (Err error) computes e f = tt

pub both-plan : (program : Program) (task : Standing) (name : List ℕ) (left : Operand) (op : Two) (right : Operand) (a b : Plain) (made : Result Value OpFault) (result : Result Turn NoMemory)
    → IfOk result (λ turn. (given : Result Value FaultKind) → Answers given made → Computes task name given turn) → Answers (operate2 program.longest op (Bare a) (Bare b)) made
    → Some a ≡ seen_as Some (state_of (script_lines program.procedures) task).environment left → Some b ≡ seen_as Some (state_of (script_lines program.procedures) task).environment right
    → IfOk result (PlansBy program task (line.LetTwo name left op right))
both-plan program task name left op right a b made result computes answers e f =
    both-bound program task name left op right a b result (computes-answer task name made (operate2 program.longest op (Bare a) (Bare b)) result computes answers) e f
