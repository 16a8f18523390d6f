-- What is printed of a line is read as it.
use Rattle.std.proofs.Common.{◌≡◌, ℕ, zero, suc, ◌-◌, Bool, true, false, All, List, [], ◌∷◌, ◌++◌, length, drop, refl, ap, sym, arith, ◌∙◌, append_assoc, Some, true≢false, codes, bytes_eq}
use Rattle.std.specs.Prelude.{nat_le}
use Rattle.std.proofs.lemmas.Bool.Decides.{nat_tests}
use Rattle.std.proofs.lemmas.Bool.{and_parts}
use Rattle.std.proofs.lemmas.Slice.Eq.{bytes_eq-Decides}
use Rattle.std.specs.List.{list_all, flat_map, AllByRecursion}
use Rattle.std.specs.Option.{option_map}
use Rattle.lio_clauses.specs.Names.{AreNames}
use Rattle.lio_syntax_lines.specs.declared.keyword.Keyword.{Keyword}
use Rattle.lio_syntax_lines.specs.declared.keyword.Keyword.TheVariants as keyword
use Rattle.lio_syntax_lines.specs.Keyword.{word_of}
use Rattle.lio_syntax_lines.specs.Words.{cut, words, without_return}
use Rattle.lio_syntax_lines.proofs.WordLemmas.{words-blank}
use Rattle.lio_syntax_lines.proofs.LabelLemmas.{is_inline, both}
use Rattle.lio_syntax_lines.proofs.InlineLemmas.{Good, good_name}
use Rattle.lio_syntax_lines.specs.declared.line.Line.{Line}
use Rattle.lio_syntax_lines.specs.declared.line.Line.TheVariants.{Proc, If, Else, While, Try, Catch, End, Do}
use Rattle.lio_syntax_lines.specs.declared.line.ParsedLine.TheVariants.{Says}
use Rattle.lio_syntax_lines.specs.Line.{form, line_of_words, line_of}
use Rattle.lio_syntax_lines.specs.Forms.{names_of, one, two_names, header}
use Rattle.lio_syntax_lines.specs.Words.{spaced, names_spaced}
use Rattle.lio_syntax_lines.specs.Operands.{operand_text, operand_spaced}
use Rattle.lio_syntax_lines.specs.Line.{line_text}
use Rattle.lio_syntax_lines.specs.Literals.{IsName}
use Rattle.lio_syntax_lines.specs.Line.{IsLine}
use Rattle.lio_syntax_lines.proofs.SimpleLemmas.{keyword_back, keyword_inline, keyword_no_comment, good_keyword, good_operand, operand_back, simple_first, simple_rest, good_simple, Spelled, spell_one, spell_two, simple_spelled, simple_back, form-simple}

names_back : (parameters : List (List ℕ)) → All IsName parameters → names_of parameters ≡ Some parameters
unfolding names_of
names_back [] h = refl
names_back (name ∷ parameters) h = rw (names_back parameters (λ k d l. h (suc k) d (omega arith)), h 0 name (omega arith)) refl

good_names : (parameters : List (List ℕ)) → All IsName parameters → AllByRecursion Good parameters
good_names [] h = tt
good_names (name ∷ parameters) h = (good_name name (h 0 name (omega arith)), good_names parameters (λ k d l. h (suc k) d (omega arith)))

abbrev line_first : Line → Keyword
line_first (Proc p parameters) = keyword.Proc
line_first (If a) = keyword.If
line_first Else = keyword.Else
line_first (While a) = keyword.While
line_first Try = keyword.Try
line_first (Catch x y) = keyword.Catch
line_first End = keyword.End
line_first (Do statement) = simple_first statement

abbrev line_rest : List (List ℕ) → Line → List (List ℕ)
line_rest names (Proc p parameters) = p ∷ parameters
line_rest names (If a) = operand_text names a ∷ []
line_rest names Else = []
line_rest names (While a) = operand_text names a ∷ []
line_rest names Try = []
line_rest names (Catch x y) = x ∷ y ∷ []
line_rest names End = []
line_rest names (Do statement) = simple_rest names statement

good_line : (names : List (List ℕ)) (line : Line) → AreNames names → IsLine names line → AllByRecursion Good (line_rest names line)
good_line names (Proc p parameters) known h = (good_name p h.0, good_names parameters h.1)
good_line names (If a) known h = (good_operand names a known h, tt)
good_line names Else known h = tt
good_line names (While a) known h = (good_operand names a known h, tt)
good_line names Try known h = tt
good_line names (Catch x y) known h = (good_name x h.0, (good_name y h.1, tt))
good_line names End known h = tt
good_line names (Do statement) known h = good_simple names statement known h

line_spelled : (names : List (List ℕ)) (line : Line) → Spelled (line_text names line) (line_first line) (line_rest names line)
unfolding names_spaced
line_spelled names (Proc p parameters) = append_assoc (word_of keyword.Proc) (spaced p) (flat_map spaced parameters)
line_spelled names (If a) = spell_one (word_of keyword.If) (operand_spaced names a)
line_spelled names Else = refl
line_spelled names (While a) = spell_one (word_of keyword.While) (operand_spaced names a)
line_spelled names Try = refl
line_spelled names (Catch x y) = spell_two (word_of keyword.Catch) (spaced x) (spaced y)
line_spelled names End = refl
line_spelled names (Do statement) = simple_spelled names statement

line_back : (names : List (List ℕ)) (line : Line) → AreNames names → IsLine names line → form names (line_first line) (line_rest names line) ≡ Some line
unfolding form header one two_names
line_back names (Proc p parameters) known h =
    let few : nat_le (length parameters) 8 ≡ true = grind (arith, nat_tests) in
    rw (h.0, names_back parameters h.1, few) refl
line_back names (If a) known h = rw (operand_back names a known h) refl
line_back names Else known h = refl
line_back names (While a) known h = rw (operand_back names a known h) refl
line_back names Try known h = refl
line_back names (Catch x y) known h = rw (h.0, h.1) refl
line_back names End known h = refl
line_back names (Do statement) known h = form-simple names statement (simple_rest names statement) ∙ ap (option_map Do) (simple_back names statement known h)

-- good words with blanks between them are cut as they are
words-spaced : (word : List ℕ) (rest : List (List ℕ)) → Good word → AllByRecursion Good rest → words (word ++ flat_map spaced rest) ≡ word ∷ rest
unfolding cut
words-spaced word [] good all = good.solid.alone [] refl
words-spaced word (next ∷ rest) good all =
    good.solid.alone (spaced next ++ flat_map spaced rest) refl
    ∙ ap (λ ws. word ∷ ws) (words-blank 32 (next ++ flat_map spaced rest) refl ∙ words-spaced next rest all.0 all.1)

inline-spaced : (rest : List (List ℕ)) → AllByRecursion Good rest → list_all is_inline (flat_map spaced rest) ≡ true
inline-spaced [] all = refl
inline-spaced (next ∷ rest) all = both is_inline (spaced next) (flat_map spaced rest) all.0.inline (inline-spaced rest all.1)

list_all-drop : (k : ℕ) (text : List ℕ) → list_all is_inline text ≡ true → list_all is_inline (drop k text) ≡ true
list_all-drop zero text all = all
list_all-drop (suc k) [] all = refl
list_all-drop (suc k) (byte ∷ text) all = list_all-drop k text (and_parts (is_inline byte) (list_all is_inline text) all).1

-- a line without a carriage return
no_return : (text : List ℕ) → list_all is_inline text ≡ true → without_return text ≡ text
no_return text all = by (bytes_eq (drop (length text - 1) text) (codes "\r")) refl
  where
    by : (b : Bool) → bytes_eq (drop (length text - 1) text) (codes "\r") ≡ b → without_return text ≡ text
    by false e = rw e refl
    by true e =
        let is : drop (length text - 1) text ≡ codes "\r" = (bytes_eq-Decides (drop (length text - 1) text) (codes "\r")).0 e in
        let wrong : false ≡ true = rw is at (list_all-drop (length text - 1) text all) in
        absurd (true≢false (sym wrong))

pub line_inline : (names : List (List ℕ)) (line : Line) → AreNames names → IsLine names line → list_all is_inline (line_text names line) ≡ true
line_inline names line known h =
    rw (line_spelled names line) (both is_inline (word_of (line_first line)) (flat_map spaced (line_rest names line)) (keyword_inline (line_first line)) (inline-spaced (line_rest names line) (good_line names line known h)))

-- the text of a line is read as the line
pub line_is_read : (names : List (List ℕ)) (line : Line) → AreNames names → IsLine names line → line_of names (line_text names line) ≡ Says line
unfolding line_of_words
line_is_read names line known h =
    let cut_as : words (line_text names line) ≡ word_of (line_first line) ∷ line_rest names line =
    ap words (line_spelled names line) ∙ words-spaced (word_of (line_first line)) (line_rest names line) (good_keyword (line_first line)) (good_line names line known h) in
    ap (λ text. line_of_words names (words text)) (no_return (line_text names line) (line_inline names line known h))
    ∙ ap (line_of_words names) cut_as
    ∙ (rw (keyword_no_comment (line_first line), keyword_back (line_first line), line_back names line known h) refl)
