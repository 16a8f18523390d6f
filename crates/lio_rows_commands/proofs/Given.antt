-- Each principal in what an operator's call answers has a name where each in its operands has one.
use Rattle.std.proofs.Common.{ℕ, List, subst, Result, Ok, Err}
use Rattle.lio_values.specs.declared.value.Value.{Value}
use Rattle.lio_values.specs.declared.fault.FaultKind.{FaultKind}
use Rattle.lio_syntax_lines.specs.declared.operators.One.{One}
use Rattle.lio_syntax_lines.specs.declared.operators.Two.{Two}
use Rattle.lio_values.specs.Named.{IsValueNamed}
use Rattle.lio_operators.specs.declared.faults.OpFault.{OpFault}
use Rattle.lio_operators.specs.declared.faults.OpFault.TheVariants.{Kind, NoMemory}
use Rattle.lio_operators.specs.Answers.{Answers}
use Rattle.lio_operators.specs.Operators.{operate1, operate2}
use Rattle.lio_calculus_runs.proofs.Operators.{IsGivenNamed as IsNamed, one_named, two_named}
use Rattle.lio_rows_commands.specs.Given.{IsGivenNamed}

-- what is answered is as what is given
answered : (names : List (List ℕ)) (given : Result Value FaultKind) (result : Result Value OpFault) → IsNamed names given → Answers given result → IsGivenNamed names result
answered names given (Ok other) named e = subst (IsNamed names) e named
answered names given (Err (Kind other)) named e = subst (IsNamed names) e named
answered names given (Err NoMemory) named e = tt

pub one_is_named : (names : List (List ℕ)) (longest : ℕ) (op : One) (a : Value) (result : Result Value OpFault) → Answers (operate1 longest op a) result → IsValueNamed names a → IsGivenNamed names result
one_is_named names longest op a result answers named = answered names (operate1 longest op a) result (one_named names longest op a named) answers

pub two_is_named : (names : List (List ℕ)) (longest : ℕ) (op : Two) (a b : Value) (result : Result Value OpFault) → Answers (operate2 longest op a b) result → IsValueNamed names a → IsValueNamed names b → IsGivenNamed names result
two_is_named names longest op a b result answers left right = answered names (operate2 longest op a b) result (two_named names longest op a b left right) answers
