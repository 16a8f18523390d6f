-- What is planned of a statement without memory is its plan.
use Rattle.std.proofs.Common.{◌≡◌, ◌∙◌, sym, ap, ℕ, List, Option, Some, None}
use Rattle.lio_values.specs.declared.value.Plain.{Plain}
use Rattle.lio_values.specs.declared.value.Plain.TheVariants as plain
use Rattle.lio_values.specs.declared.value.Value.{Value}
use Rattle.lio_values.specs.declared.value.Value.TheVariants.{Bare}
use Rattle.lio_values.specs.declared.small.Small.{Small}
use Rattle.lio_values.specs.declared.small.Small.TheVariants as small
use Rattle.lio_values.specs.Small.{plain_of, small_of}
use Rattle.lio_syntax_lines.specs.declared.line.Operand.{Operand}
use Rattle.lio_syntax_lines.specs.declared.line.Simple.TheVariants as line
use Rattle.lio_syntax_lines.specs.declared.operators.One.{One}
use Rattle.lio_syntax_lines.specs.declared.operators.Two.{Two}
use Rattle.lio_operators.specs.Operators.{operate1, operate2}
use Rattle.lio_calculus.specs.Operands.{bound, seen_as}
use Rattle.lio_calculus.specs.Going.{Bind}
use Rattle.lio_calculus.specs.Task.{TaskState}
use Rattle.lio_calculus.specs.Plan.{Program, computed, plan_simple, stepping, with_seen}
use Rattle.lio_task_plan.proofs.TwoLemmas.{bare-is, both-bare}

-- a plain value that is small
small-is : (p : Plain) (s : Small) → Some s ≡ small_of p → p ≡ plain_of s
small-is plain.Unit s e = let same : small.Unit ≡ s = (let one : Some s ≡ Some small.Unit = e in cc) in ap plain_of same
small-is (plain.Flag flag) s e = let same : small.Flag flag ≡ s = (let one : Some s ≡ Some (small.Flag flag) = e in cc) in ap plain_of same
small-is (plain.Whole number) s e = let same : small.Whole number ≡ s = (let one : Some s ≡ Some (small.Whole number) = e in cc) in ap plain_of same
small-is (plain.Bytes text) s e = absurd (let none : Some s ≡ None = e in cc)
small-is (plain.Lab label) s e = absurd (let none : Some s ≡ None = e in cc)
small-is (plain.Power power) s e = absurd (let none : Some s ≡ None = e in cc)
small-is (plain.RefOf handle) s e = absurd (let none : Some s ≡ None = e in cc)
small-is (plain.VarOf handle) s e = absurd (let none : Some s ≡ None = e in cc)
small-is (plain.ResultOf handle) s e = absurd (let none : Some s ≡ None = e in cc)
small-is (plain.ChanOf handle) s e = absurd (let none : Some s ≡ None = e in cc)
small-is (plain.Items items) s e = absurd (let none : Some s ≡ None = e in cc)

pub let_is : (program : Program) (task : TaskState) (name : List ℕ) (value : Operand) (p : Plain) (s : Small) → Some p ≡ seen_as Some task.environment value → Some s ≡ small_of p
    → stepping (Bind name (Bare (plain_of s))) ≡ plan_simple program task (line.Let name value)
unfolding plan_simple
let_is program task name value p s seen is =
    sym (ap (λ (v : Option Value). with_seen task v (λ v. stepping (Bind name v))) (bare-is (bound task.environment value) p seen ∙ ap (λ (q : Plain). Some (Bare q)) (small-is p s is)))

pub one_is : (program : Program) (task : TaskState) (name : List ℕ) (op : One) (value : Operand) (p : Plain) → Some p ≡ seen_as Some task.environment value
    → computed task name (operate1 program.longest op (Bare p)) ≡ plan_simple program task (line.LetOne name op value)
unfolding plan_simple
one_is program task name op value p seen =
    sym (ap (λ (v : Option Value). with_seen task v (λ v. computed task name (operate1 program.longest op v))) (bare-is (bound task.environment value) p seen))

pub two_is : (program : Program) (task : TaskState) (name : List ℕ) (left : Operand) (op : Two) (right : Operand) (a b : Plain) → Some a ≡ seen_as Some task.environment left → Some b ≡ seen_as Some task.environment right
    → computed task name (operate2 program.longest op (Bare a) (Bare b)) ≡ plan_simple program task (line.LetTwo name left op right)
unfolding plan_simple
two_is program task name left op right a b e f = both-bare program.longest task name op (bound task.environment left) (bound task.environment right) a b e f
