-- The words of operators.
use Rattle.std.specs.Prelude.{ℕ, Bool, true, false, List, codes, bytes_eq, Option, Some, None}
use Rattle.std.specs.List.{find}
use Rattle.lio_syntax_lines.specs.declared.operators.One.{One}
use Rattle.lio_syntax_lines.specs.declared.operators.One.TheVariants.{Not, Neg, Len, Num, Str, LabelOf}
use Rattle.lio_syntax_lines.specs.declared.operators.Two.{Two}
use Rattle.lio_syntax_lines.specs.declared.operators.Two.TheVariants.{Add, Sub, Mul, Div, Rem, Eq, Ne, Lt, Le, And, Or, Join, Meet, Flows, From, Upto, Find, Push, At}
use Rattle.lio_syntax_lines.specs.declared.operators.TheConstants.{ONES, TWOS}

-- the word of each operator on one value
abbrev pub one_word : One → List ℕ
one_word Not = codes "not"
one_word Neg = codes "neg"
one_word Len = codes "len"
one_word Num = codes "num"
one_word Str = codes "str"
one_word LabelOf = codes "labelof"

-- the word of each operator on two values
abbrev pub two_word : Two → List ℕ
two_word Add = codes "+"
two_word Sub = codes "-"
two_word Mul = codes "*"
two_word Div = codes "/"
two_word Rem = codes "%"
two_word Eq = codes "=="
two_word Ne = codes "!="
two_word Lt = codes "<"
two_word Le = codes "<="
two_word And = codes "and"
two_word Or = codes "or"
two_word Join = codes "join"
two_word Meet = codes "meet"
two_word Flows = codes "flows"
two_word From = codes "from"
two_word Upto = codes "upto"
two_word Find = codes "find"
two_word Push = codes "push"
two_word At = codes "at"

-- the operator on one value that a word is
unfoldable pub one_of : List ℕ → Option One
one_of word = find (λ op. bytes_eq (one_word op) word) ONES

-- the operator on two values that a word is
unfoldable pub two_of : List ℕ → Option Two
two_of word = find (λ op. bytes_eq (two_word op) word) TWOS

-- whether the word of an operator is reserved: `push` and `at` are told by their place in the line
abbrev pub has_reserved_word : Two → Bool
has_reserved_word Push = false
has_reserved_word At = false
has_reserved_word two = true

-- whether there is an operator, and its word is reserved
abbrev pub is_reserved_two : Option Two → Bool
is_reserved_two (Some two) = has_reserved_word two
is_reserved_two None = false
