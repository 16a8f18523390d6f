-- On the procedures that lines begin.
use Rattle.std.proofs.Common.{◌≡◌, ℕ, suc, ◌+◌, ◌≤◌, Bool, true, false, List, [], ◌∷◌, length, refl, ap, sym, ◌∙◌, arith, Option, Some, None, true≢false}
use Rattle.std.proofs.lemmas.Bool.Decides.{nat_tests}
use Rattle.std.specs.Prelude.{nat_le, if◌then◌else◌}
use Rattle.std.specs.Option.{option_map}
use Rattle.lio_syntax_lines.specs.declared.keyword.Keyword.{Keyword}
use Rattle.lio_syntax_lines.specs.declared.keyword.Keyword.TheVariants as keyword
use Rattle.lio_syntax_lines.specs.declared.line.Line.{Line}
use Rattle.lio_syntax_lines.specs.declared.line.Line.TheVariants as line
use Rattle.lio_syntax_lines.specs.declared.line.ParsedLine.TheVariants.{Blank}
use Rattle.lio_syntax_lines.specs.Literals.{is_name}
use Rattle.lio_syntax_lines.specs.Keyword.{keyword_of}
use Rattle.lio_syntax_lines.specs.Simple.{simple}
use Rattle.lio_syntax_lines.specs.Line.{form, words_line, line_of_words}
use Rattle.lio_syntax_lines.specs.Forms.{◌>>=◌, ended, names_of, header, one, two_names, parsed, is_proc_keyword, is_proc, begins_comment}
use Rattle.lio_syntax_lines.specs.Header.{signature, header_of, parsed_header}
use Rattle.lio_syntax_lines.specs.Limited.{limited}

-- one name more
limited-put : (count : ℕ) (word : List ℕ) (o : Option (List (List ℕ))) → limited count (o >>= λ others. Some (word ∷ others)) ≡ limited (count + 1) o
limited-put count word None = refl
limited-put count word (Some others) = let same : count + suc (length others) ≡ (count + 1) + length others = omega arith in ap (λ n. if nat_le n 8 then Some n else None) same

pub limited-more : (count : ℕ) (word : List ℕ) (old rest : List (List ℕ)) (read : Option ℕ) → read ≡ limited count (names_of old) → old ≡ word ∷ rest → is_name word ≡ true
    → read ≡ limited (count + 1) (names_of rest)
unfolding names_of
limited-more count word old rest read e are is = e ∙ (rw (are, is) (limited-put count word (names_of rest)))

limited-none : (count : ℕ) (o : Option (List (List ℕ))) → (let none : Option (List (List ℕ)) = None in limited count (o >>= λ others. none) ≡ None)
limited-none count None = refl
limited-none count (Some others) = refl

pub limited-invalid : (count : ℕ) (word : List ℕ) (old rest : List (List ℕ)) (read : Option ℕ) → read ≡ limited count (names_of old) → old ≡ word ∷ rest → is_name word ≡ false → None ≡ read
unfolding names_of
limited-invalid count word old rest read e are is = sym (e ∙ (rw (are, is) (limited-none count (names_of rest))))

limited-full : (count : ℕ) (o : Option (List (List ℕ))) → 9 ≤ count → limited count o ≡ None
limited-full count None many = refl
limited-full count (Some others) many = let no : nat_le (count + length others) 8 ≡ false = grind (arith, nat_tests) in rw no refl

pub limited-past : (count : ℕ) (word : List ℕ) (old rest : List (List ℕ)) (read : Option ℕ) → read ≡ limited count (names_of old) → old ≡ word ∷ rest → is_name word ≡ true → 8 ≤ count → None ≡ read
limited-past count word old rest read e are is many = sym (limited-more count word old rest read e are is ∙ limited-full (count + 1) (names_of rest) (omega arith))

pub limited-end : (count : ℕ) (old : List (List ℕ)) (read : Option ℕ) → read ≡ limited count (names_of old) → old ≡ [] → count ≤ 8 → Some count ≡ read
unfolding names_of
limited-end count old read e are few =
    let yes : nat_le (count + 0) 8 ≡ true = grind (arith, nat_tests) in
    let same : count + 0 ≡ count = omega arith in
    sym (e ∙ (rw (are, yes) (ap Some same)))

no_header : {X : Type 0} (f : X → Line) (o : Option X) → ((x : X) → header_of (f x) ≡ None) → parsed_header (parsed (option_map f o)) ≡ None
no_header f None none = refl
no_header f (Some x) none = none x

no_header_ended : (l : Line) (ws : List (List ℕ)) → header_of l ≡ None → parsed_header (parsed (ended l ws)) ≡ None
no_header_ended l [] none = none
no_header_ended l (w ∷ ws) none = refl

-- only the first word of procedures begins one
form-header : (names : List (List ℕ)) (first : Keyword) (ws : List (List ℕ)) → is_proc_keyword (Some first) ≡ false → parsed_header (parsed (form names first ws)) ≡ None
unfolding form
form-header names keyword.Proc ws e = absurd (true≢false e)
form-header names keyword.If ws e = no_header line.If (one names ws) (λ a. refl)
form-header names keyword.Else ws e = no_header_ended line.Else ws refl
form-header names keyword.While ws e = no_header line.While (one names ws) (λ a. refl)
form-header names keyword.Try ws e = no_header_ended line.Try ws refl
form-header names keyword.Catch ws e = no_header (λ (p : List ℕ × List ℕ). line.Catch p.0 p.1) (two_names ws) (λ a. refl)
form-header names keyword.End ws e = no_header_ended line.End ws refl
form-header names first ws e = no_header line.Do (simple names first ws) (λ a. refl)

words_line-header : (names : List (List ℕ)) (o : Option Keyword) (ws : List (List ℕ)) → is_proc_keyword o ≡ false → parsed_header (parsed (o >>= λ first. form names first ws)) ≡ None
words_line-header names None ws e = refl
words_line-header names (Some first) ws e = form-header names first ws e

-- a blank line
pub none-blank : (names : List (List ℕ)) (ws : List (List ℕ)) → ws ≡ [] → parsed_header (line_of_words names ws) ≡ None
unfolding line_of_words
none-blank names ws e = rw e refl

-- a comment
pub none-comment : (names : List (List ℕ)) (ws rest : List (List ℕ)) (first : List ℕ) → ws ≡ first ∷ rest → begins_comment first ≡ true → parsed_header (line_of_words names ws) ≡ None
unfolding line_of_words
none-comment names ws rest first e is = rw (e, is) refl

-- another first word
pub none-other : (names : List (List ℕ)) (ws rest : List (List ℕ)) (first : List ℕ) → ws ≡ first ∷ rest → is_proc first ≡ false → parsed_header (line_of_words names ws) ≡ None
unfolding line_of_words
none-other names ws rest first e is = rw e (by (begins_comment first))
  where
    by : (b : Bool) → parsed_header (if b then Blank else parsed (words_line names first rest)) ≡ None
    by true = refl
    by false = words_line-header names (keyword_of first) rest is

keyword_proc : (o : Option Keyword) → is_proc_keyword o ≡ true → o ≡ Some keyword.Proc
keyword_proc None e = absurd (true≢false (sym e))
keyword_proc (Some keyword.Proc) e = refl
keyword_proc (Some first) e = absurd (true≢false (sym e))

-- a procedure
pub header-proc : (names : List (List ℕ)) (ws rest : List (List ℕ)) (first : List ℕ) → ws ≡ first ∷ rest → begins_comment first ≡ false → is_proc first ≡ true
    → parsed_header (line_of_words names ws) ≡ option_map signature (header rest)
unfolding line_of_words form
header-proc names ws rest first e other is = let proc : keyword_of first ≡ Some keyword.Proc = keyword_proc (keyword_of first) is in rw (e, other, proc) (by (header rest))
  where
    by : (o : Option (List ℕ × List (List ℕ))) → parsed_header (parsed (option_map (λ p. line.Proc p.0 p.1) o)) ≡ option_map signature o
    by None = refl
    by (Some p) = refl
