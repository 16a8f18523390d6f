-- The literals of lines over the names of principals are values that a word can say.
use Rattle.std.proofs.Common.{◌≡◌, ℕ, suc, true, All, List, [], ◌∷◌, refl, arith}
use Rattle.std.specs.List.{list_all}
use Rattle.lio_values.specs.declared.value.Plain.{Plain}
use Rattle.lio_values.specs.declared.value.Plain.TheVariants.{Unit as unit, Flag, Whole, Bytes, Lab, Power, RefOf, VarOf, ResultOf, ChanOf, Items}
use Rattle.lio_values.specs.Forest.{Nothing, Then}
use Rattle.lio_syntax_lines.specs.Literals.{IsLiteral}
use Rattle.lio_syntax_lines.specs.declared.line.Operand.{Operand}
use Rattle.lio_syntax_lines.specs.declared.line.Operand.TheVariants.{Name, Literal}
use Rattle.lio_syntax_lines.specs.declared.line.Simple.{Simple}
use Rattle.lio_syntax_lines.specs.declared.line.Line.{Line}
use Rattle.lio_syntax_lines.specs.declared.line.Line.TheVariants.{Proc, If, Else, While, Try, Catch, End, Do}
use Rattle.lio_syntax_lines.specs.Operands.{can_be_said, is_said}
use Rattle.lio_syntax_lines.specs.Simple.{simple_operands}
use Rattle.lio_syntax_lines.specs.Line.{says_literals}
use Rattle.lio_syntax_lines.specs.Operands.{IsOperand}
use Rattle.lio_syntax_lines.specs.Simple.{IsSimple}
use Rattle.lio_syntax_lines.specs.Line.{IsLine}
use Rattle.lio_syntax_lines.proofs.SimpleLemmas.{operands_made}

literal_said : (names : List (List ℕ)) (plain : Plain) → IsLiteral names plain → can_be_said plain ≡ true
literal_said names unit h = refl
literal_said names (Flag flag) h = refl
literal_said names (Whole number) h = refl
literal_said names (Bytes text) h = refl
literal_said names (Lab label) h = refl
literal_said names (Power privilege) h = absurd h
literal_said names (RefOf handle) h = absurd h
literal_said names (VarOf handle) h = absurd h
literal_said names (ResultOf handle) h = absurd h
literal_said names (ChanOf handle) h = absurd h
literal_said names (Items Nothing) h = refl
literal_said names (Items (Then item items)) h = absurd h

said : (names : List (List ℕ)) (a : Operand) → IsOperand names a → is_said a ≡ true
said names (Name name) h = refl
said names (Literal plain) h = literal_said names plain h

all_said : (names : List (List ℕ)) (arguments : List Operand) → All (IsOperand names) arguments → list_all is_said arguments ≡ true
all_said names [] h = refl
all_said names (a ∷ arguments) h = rw (said names a (h 0 a (omega arith)), all_said names arguments (λ k d l. h (suc k) d (omega arith))) refl

simple_said : (names : List (List ℕ)) (statement : Simple) → IsSimple names statement → list_all is_said (simple_operands statement) ≡ true
simple_said names statement h = all_said names (simple_operands statement) (operands_made names statement h)

pub line_said : (names : List (List ℕ)) (line : Line) → IsLine names line → says_literals line ≡ true
line_said names (Proc p parameters) h = refl
line_said names (If a) h = rw (said names a h) refl
line_said names Else h = refl
line_said names (While a) h = rw (said names a h) refl
line_said names Try h = refl
line_said names (Catch x y) h = refl
line_said names End h = refl
line_said names (Do statement) h = simple_said names statement h

pub lines_said : (names : List (List ℕ)) (lines : List Line) → All (IsLine names) lines → list_all says_literals lines ≡ true
lines_said names [] h = refl
lines_said names (line ∷ lines) h = rw (line_said names line (h 0 line (omega arith)), lines_said names lines (λ k d l. h (suc k) d (omega arith))) refl
