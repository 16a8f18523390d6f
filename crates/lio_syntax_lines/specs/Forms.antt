-- What follows the first word of a line: names, operands, calls, expressions. A reading gives a value and the words after it.
use Rattle.std.specs.Prelude.{ℕ, nat_le, if◌then◌else◌, Bool, true, false, nat_eq, List, [], ◌∷◌, length, codes, bytes_eq, Option, Some, None}
use Rattle.std.specs.List.{starts_with}
use Rattle.std.specs.Option.{option_map}
use Rattle.lio_syntax_lines.specs.declared.keyword.Keyword.{Keyword}
use Rattle.lio_syntax_lines.specs.declared.keyword.Keyword.TheVariants as keyword
use Rattle.lio_syntax_lines.specs.declared.line.Operand.{Operand}
use Rattle.lio_syntax_lines.specs.declared.line.Simple.{Simple}
use Rattle.lio_syntax_lines.specs.declared.line.Simple.TheVariants.{Let, LetOne, LetTwo, Unlabel, UnlabelUsing}
use Rattle.lio_syntax_lines.specs.declared.line.Line.{Line}
use Rattle.lio_syntax_lines.specs.declared.line.ParsedLine.{ParsedLine}
use Rattle.lio_syntax_lines.specs.declared.line.ParsedLine.TheVariants.{Invalid, Says}
use Rattle.lio_syntax_lines.specs.Keyword.{keyword_of}
use Rattle.lio_syntax_lines.specs.Literals.{is_name}
use Rattle.lio_syntax_lines.specs.Operators.{one_of, two_of}
use Rattle.lio_syntax_lines.specs.Operands.{operand_of}

-- a value, and the words after those that it was read from
pub record Parsed (A : Type 0) : Type 0 where
  pub value : A
  pub rest : List (List ℕ)

-- one reading after another
infixl 10 ◌>>=◌
abbrev pub ◌>>=◌ : {A B : Type 0} → Option A → (A → Option B) → Option B
(Some x) >>= next = next x
None >>= next = None

-- a name
abbrev pub name_at : List (List ℕ) → Option (Parsed (List ℕ))
name_at [] = None
name_at (word ∷ rest) = if is_name word then Some (record { value = word; rest = rest }) else None

-- an operand
abbrev pub operand_at : List (List ℕ) → List (List ℕ) → Option (Parsed Operand)
operand_at names [] = None
operand_at names (word ∷ rest) = option_map (λ operand. record { value = operand; rest = rest }) (operand_of names word)

-- operands up to the end
unfoldable pub operands : List (List ℕ) → List (List ℕ) → Option (List Operand)
operands names [] = Some []
operands names (word ∷ rest) = do
  operand ← operand_of names word
  others ← operands names rest
  Some (operand ∷ others)

-- names up to the end
unfoldable pub names_of : List (List ℕ) → Option (List (List ℕ))
names_of [] = Some []
names_of (word ∷ rest) = do
  others ← names_of rest
  if is_name word then Some (word ∷ others) else None

-- nothing is left
abbrev pub ended : {A : Type 0} → A → List (List ℕ) → Option A
ended value [] = Some value
ended value (_ ∷ _) = None

-- A
unfoldable pub one : List (List ℕ) → List (List ℕ) → Option Operand
one names ws = do
  a ← operand_at names ws
  ended a.value a.rest

-- A A
unfoldable pub two : List (List ℕ) → List (List ℕ) → Option (Operand × Operand)
two names ws = do
  a ← operand_at names ws
  b ← one names a.rest
  Some (a.value, b)

-- A A A
unfoldable pub three : List (List ℕ) → List (List ℕ) → Option (Operand × Operand × Operand)
three names ws = do
  a ← operand_at names ws
  others ← two names a.rest
  Some (a.value, others.0, others.1)

-- X A
unfoldable pub name_one : List (List ℕ) → List (List ℕ) → Option (List ℕ × Operand)
name_one names ws = do
  x ← name_at ws
  a ← one names x.rest
  Some (x.value, a)

-- X A A
unfoldable pub name_two : List (List ℕ) → List (List ℕ) → Option (List ℕ × Operand × Operand)
name_two names ws = do
  x ← name_at ws
  others ← two names x.rest
  Some (x.value, others.0, others.1)

-- X A A A
unfoldable pub name_three : List (List ℕ) → List (List ℕ) → Option (List ℕ × Operand × Operand × Operand)
name_three names ws = do
  x ← name_at ws
  others ← three names x.rest
  Some (x.value, others.0, others.1, others.2)

-- X Y
unfoldable pub two_names : List (List ℕ) → Option (List ℕ × List ℕ)
two_names ws = do
  x ← name_at ws
  y ← name_at x.rest
  ended (x.value, y.value) y.rest

-- P X .., with at most 8 names after the first
unfoldable pub header : List (List ℕ) → Option (List ℕ × List (List ℕ))
header ws = do
  p ← name_at ws
  parameters ← names_of p.rest
  if nat_le (length parameters) 8 then Some (p.value, parameters) else None

-- P A ..
unfoldable pub called : List (List ℕ) → List (List ℕ) → Option (List ℕ × List Operand)
called names ws = do
  p ← name_at ws
  arguments ← operands names p.rest
  Some (p.value, arguments)

-- X P A ..
unfoldable pub call : List (List ℕ) → List (List ℕ) → Option (List ℕ × List ℕ × List Operand)
call names ws = do
  x ← name_at ws
  others ← called names x.rest
  Some (x.value, others.0, others.1)

-- T C P A ..
unfoldable pub spawn : List (List ℕ) → List (List ℕ) → Option (Operand × Operand × List ℕ × List Operand)
spawn names ws = do
  t ← operand_at names ws
  c ← operand_at names t.rest
  others ← called names c.rest
  Some (t.value, c.value, others.0, others.1)

-- X L T C P A ..
unfoldable pub fork : List (List ℕ) → List (List ℕ) → Option (List ℕ × Operand × Operand × Operand × List ℕ × List Operand)
fork names ws = do
  x ← name_at ws
  l ← operand_at names x.rest
  others ← spawn names l.rest
  Some (x.value, l.value, others.0, others.1, others.2, others.3)

-- OP A, behind `let X =`
unfoldable pub unary : List (List ℕ) → List ℕ → List ℕ → List ℕ → Option Simple
unary names x op a = do
  op ← one_of op
  a ← operand_of names a
  Some (LetOne x op a)

-- A OP A, behind `let X =`
unfoldable pub binary : List (List ℕ) → List ℕ → List ℕ → List ℕ → List ℕ → Option Simple
binary names x a op b = do
  a ← operand_of names a
  op ← two_of op
  b ← operand_of names b
  Some (LetTwo x a op b)

-- what stands behind `let X =`
unfoldable pub expression : List (List ℕ) → List ℕ → List (List ℕ) → Option Simple
expression names x [] = None
expression names x (a ∷ []) = option_map (Let x) (operand_of names a)
expression names x (op ∷ a ∷ []) = unary names x op a
expression names x (a ∷ op ∷ b ∷ []) = binary names x a op b
expression names x (a ∷ op ∷ b ∷ more ∷ rest) = None

-- the words behind the sign `=`
abbrev pub behind_equals : List (List ℕ) → Option (List (List ℕ))
behind_equals [] = None
behind_equals (word ∷ rest) = if bytes_eq word (codes "=") then Some rest else None

-- X = and an expression
unfoldable pub assignment : List (List ℕ) → List (List ℕ) → Option Simple
assignment names ws = do
  x ← name_at ws
  value ← behind_equals x.rest
  expression names x.value value

-- behind `unlabel X A`: nothing, or `using P`
unfoldable pub with_power : List (List ℕ) → List ℕ → Operand → List (List ℕ) → Option Simple
with_power names x a [] = Some (Unlabel x a)
with_power names x a (word ∷ rest) = if bytes_eq word (codes "using") then option_map (UnlabelUsing x a) (one names rest) else None

-- X A, and what stands behind it
unfoldable pub unlabelling : List (List ℕ) → List (List ℕ) → Option Simple
unlabelling names ws = do
  x ← name_at ws
  a ← operand_at names x.rest
  with_power names x.value a.value a.rest

-- what is read, or an invalid line
abbrev pub parsed : Option Line → ParsedLine
parsed (Some line) = Says line
parsed None = Invalid

-- whether a word begins a comment
abbrev pub begins_comment : List ℕ → Bool
begins_comment word = starts_with nat_eq word (codes "#")

-- whether a word begins a procedure
abbrev pub is_proc_keyword : Option Keyword → Bool
is_proc_keyword None = false
is_proc_keyword (Some keyword.Proc) = true
is_proc_keyword (Some other) = false

abbrev pub is_proc : List ℕ → Bool
is_proc word = is_proc_keyword (keyword_of word)

-- something is left
abbrev pub IsCons : List (List ℕ) → Type 0
IsCons [] = ⊥
IsCons (_ ∷ _) = Unit {0}
