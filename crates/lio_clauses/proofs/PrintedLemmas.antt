-- What is printed is read as the same formula.
use Rattle.std.proofs.Common.{◌≡◌, ◌≢◌, ℕ, suc, ◌+◌, ◌<◌, ◌≤◌, Bool, true, false, cond, if◌then◌else◌, List, [], ◌∷◌, ◌++◌, map, length, take, codes, Option, Some, Ok, Err, inl, inr, slice_get, nat_eq, nat_lt, nat_le, ne_eqb, leb-true, lit<, ◌&&◌, true≢false, le-ltb, length-append, drop, refl, sym, ap, subst, ◌∙◌, arith, append_assoc}
use Rattle.lio_clauses.specs.declared.text.token.Token.{Token}
use Rattle.lio_clauses.specs.declared.text.token.Token.TheVariants.{Truth, Falsity, Open, Close, And, Or, Over, Principal, Stray}
use Rattle.std.specs.List.{prefix_len, starts_with, All}
use Rattle.std.proofs.lemmas.List.{append-nil, length-map}
use Rattle.lio_clauses.specs.Principals.{principals}
use Rattle.std.specs.Cmp.Lexicographic.{pointwise}
use Rattle.std.proofs.lemmas.Bool.{and_parts}
use Rattle.std.proofs.Math.Seq.{take-append_seam, drop-append_seam}
use Rattle.lio_clauses.specs.Names.{AreNames, is_letter, is_name_byte, number_of}
use Rattle.lio_clauses.specs.Token.{At, Lexeme, symbols, tokens, tokens_of, front, name_at_front, name_token}
use Rattle.lio_clauses.proofs.TokenLemmas.{tokens-token}
use Rattle.lio_clauses.proofs.NameLemmas.{name_begins, number_of-own}
use Rattle.lio_clauses.specs.FormulaText.{◌>>=◌, narrow, reading, reading_two}
use Rattle.lio_clauses.specs.Grammar as grammar
use Rattle.lio_clauses.specs.Grammar.{ClauseTree, FormulaTree, name_tokens, repetition, clause_tokens, clause_value, formula_tokens, formula_value, Derives, DerivesTwo}
use Rattle.lio_clauses.specs.Width.{IsWide}
use Rattle.lio_clauses.proofs.Members.{In, All-In}
use Rattle.lio_clauses.proofs.GrammarLemmas.{read_is_derived, derived_is_read, read_two_are_derived, derived_two_are_read}
use Rattle.lio_clauses.proofs.Forms.{canonical-itself, canonical-only}
use Rattle.lio_clauses.proofs.Orders.{in_order-head}
use Rattle.lio_clauses.proofs.Subsets.{within}
use Rattle.lio_clauses.specs.Canonical.{IsCanonical, canonical, is_before}
use Rattle.lio_clauses.specs.PrintedText.{ReadsPrinted, ReadsTwoPrinted}
use Rattle.lio_clauses.specs.declared.faults.TextFault.TheVariants.{Wide}
use Rattle.lio_clauses.specs.FormulaPrint.{AreNamed, joined, name_of, clause_text, formula_text, two_text}

-- the signs, over any bytes behind them
tokens-Open : (names : List (List ℕ)) (place : ℕ) (rest : List ℕ) → tokens names place 0 (40 ∷ rest) ≡ At place Open (tokens names (suc place) 0 rest)
unfolding front
tokens-Open names place rest = refl

tokens-Close : (names : List (List ℕ)) (place : ℕ) (rest : List ℕ) → tokens names place 0 (41 ∷ rest) ≡ At place Close (tokens names (suc place) 0 rest)
unfolding front
tokens-Close names place rest = refl

tokens-Or : (names : List (List ℕ)) (place : ℕ) (rest : List ℕ) → tokens names place 0 (32 ∷ 92 ∷ 47 ∷ 32 ∷ rest) ≡ At (suc place) Or (tokens names (suc (suc (suc (suc place)))) 0 rest)
unfolding front
tokens-Or names place rest = refl

tokens-And : (names : List (List ℕ)) (place : ℕ) (rest : List ℕ) → tokens names place 0 (32 ∷ 47 ∷ 92 ∷ 32 ∷ rest) ≡ At (suc place) And (tokens names (suc (suc (suc (suc place)))) 0 rest)
unfolding front
tokens-And names place rest = refl

tokens-Truth : (names : List (List ℕ)) (place : ℕ) (rest : List ℕ) → tokens names place 0 (codes "True" ++ rest) ≡ At place Truth (tokens names (suc (suc (suc (suc place)))) 0 rest)
unfolding front
tokens-Truth names place rest = refl

tokens-Falsity : (names : List (List ℕ)) (place : ℕ) (rest : List ℕ) → tokens names place 0 (codes "False" ++ rest) ≡ At place Falsity (tokens names (suc (suc (suc (suc (suc place))))) 0 rest)
unfolding front
tokens-Falsity names place rest = refl

tokens-Over : (names : List (List ℕ)) (place : ℕ) (rest : List ℕ) → tokens names place 0 (codes " %% " ++ rest) ≡ At (suc place) Over (tokens names (suc (suc (suc (suc place)))) 0 rest)
unfolding front
tokens-Over names place rest = refl

-- what stands behind a name does not go on with it
abbrev pub Ends : List ℕ → Type 0
Ends rest = prefix_len is_name_byte rest ≡ 0

-- a letter begins no sign
no_start : (c : ℕ) (cs : List ℕ) (b : ℕ) (bs : List ℕ) → c ≢ b → starts_with nat_eq (b ∷ bs) (c ∷ cs) ≡ false
no_start c cs b bs other = ap (λ t. t && pointwise nat_eq cs (take (length cs) bs)) (ne_eqb c b other)

skip : {A : Type 0} (t : Bool) (x y z : A) → t ≡ false → y ≡ z → (if t then x else y) ≡ z
skip t x y z e f = ap (λ c. if c then x else y) e ∙ f

no_sign : (b : ℕ) (bs : List ℕ) (names : List (List ℕ)) → is_letter b ≡ true → front names (b ∷ bs) ≡ name_at_front names (b ∷ bs)
unfolding front
no_sign b bs names e =
    let low : 97 ≤ b = leb-true 97 b (and_parts (nat_le 97 b) (nat_le b 122) e).0 in
    let above : (c : ℕ) → c < 97 → c ≢ b = λ c h same. absurd (omega (arith, low, h, same)) in
    skip (starts_with nat_eq (b ∷ bs) (codes "True")) _ _ _ (no_start 84 (codes "rue") b bs (above 84 (lit< tt)))
    (skip (starts_with nat_eq (b ∷ bs) (codes "False")) _ _ _ (no_start 70 (codes "alse") b bs (above 70 (lit< tt)))
    (skip (starts_with nat_eq (b ∷ bs) (codes "(")) _ _ _ (no_start 40 [] b bs (above 40 (lit< tt)))
    (skip (starts_with nat_eq (b ∷ bs) (codes ")")) _ _ _ (no_start 41 [] b bs (above 41 (lit< tt)))
    (skip (starts_with nat_eq (b ∷ bs) (codes "/\\")) _ _ _ (no_start 47 (codes "\\") b bs (above 47 (lit< tt)))
    (skip (starts_with nat_eq (b ∷ bs) (codes "\\/")) _ _ _ (no_start 92 (codes "/") b bs (above 92 (lit< tt)))
    (skip (starts_with nat_eq (b ∷ bs) (codes "%%")) _ _ _ (no_start 37 (codes "%") b bs (above 37 (lit< tt))) refl))))))

named_lexeme : (names : List (List ℕ)) (b : ℕ) (bs rest : List ℕ) (n : ℕ) → is_letter b ≡ true → prefix_len is_name_byte ((b ∷ bs) ++ rest) ≡ length (b ∷ bs) → number_of names (b ∷ bs) ≡ Some n
    → name_at_front names (b ∷ (bs ++ rest)) ≡ record { token = Principal n; size = length (b ∷ bs) }
named_lexeme names b bs rest n letter size own =
    ap (λ (c : Bool). if c then (record { token = name_token (number_of names (take (prefix_len is_name_byte (b ∷ (bs ++ rest))) (b ∷ (bs ++ rest)))); size = prefix_len is_name_byte (b ∷ (bs ++ rest)) }) else (record { token = Stray; size = 1 })) letter
    ∙ ap (λ (k : ℕ). record { token = name_token (number_of names (take k (b ∷ (bs ++ rest)))); size = k }) size
    ∙ ap (λ (name : List ℕ). record { token = name_token (number_of names name); size = length (b ∷ bs) }) (take-append_seam (b ∷ bs) rest)
    ∙ ap (λ (o : Option ℕ). record { token = name_token o; size = length (b ∷ bs) }) own

-- the name of a principal
front-name : (names : List (List ℕ)) (n : ℕ) (rest : List ℕ) → AreNames names → n < length names → Ends rest
    → front names (name_of names n ++ rest) ≡ record { token = Principal n; size = length (name_of names n) }
front-name names n rest known within ends =
    let begin = name_begins names n known within in
    let b : ℕ = begin.0 in
    let bs : List ℕ = begin.1 in
    ap (λ name. front names (name ++ rest)) begin.2 ∙ no_sign b (bs ++ rest) names begin.3
    ∙ named_lexeme names b bs rest n begin.3 (begin.4 rest ends) (ap (number_of names) (sym begin.2) ∙ number_of-own names n known.distinct within)
    ∙ ap (λ (name : List ℕ). record { token = Principal n; size = length name }) (sym begin.2)

no_blank : (b : ℕ) → 97 ≤ b → Some b ≡ Some 32 → ⊥
no_blank b low e = let same : b ≡ 32 = cc in absurd (omega (arith, low, same))

pub tokens-name : (names : List (List ℕ)) (n place : ℕ) (rest : List ℕ) → AreNames names → n < length names → Ends rest
    → tokens names place 0 (name_of names n ++ rest) ≡ At place (Principal n) (tokens names (place + length (name_of names n)) 0 rest)
tokens-name names n place rest known within ends =
    let lexeme = front-name names n rest known within ends in
    let begin = name_begins names n known within in
    let low : 97 ≤ begin.0 = leb-true 97 begin.0 (and_parts (nat_le 97 begin.0) (nat_le begin.0 122) begin.3).0 in
    let some : 0 < length (name_of names n) = omega (arith, ap length begin.2) in
    let size : (front names (name_of names n ++ rest)).size ≡ length (name_of names n) = ap (λ (l : Lexeme). l.size) lexeme in
    tokens-token names place (name_of names n ++ rest) (λ blank. no_blank begin.0 low (sym (ap (λ name. slice_get (name ++ rest) 0) begin.2) ∙ blank))
    (omega (arith, some, length-append (name_of names n) rest)) (omega (arith, some, size)) (omega (arith, size, length-append (name_of names n) rest))
    ∙ ap (λ (l : Lexeme). At place l.token (tokens names (place + l.size) 0 (drop l.size (name_of names n ++ rest)))) lexeme
    ∙ ap (λ (bytes : List ℕ). At place (Principal n) (tokens names (place + length (name_of names n)) 0 bytes)) (drop-append_seam (name_of names n) rest)

-- texts with a sign between two, and more behind them
abbrev pub joined_onto : List ℕ → List (List ℕ) → List ℕ → List ℕ
joined_onto sign [] rest = rest
joined_onto sign (t ∷ []) rest = t ++ rest
joined_onto sign (t ∷ u ∷ ts) rest = t ++ (sign ++ joined_onto sign (u ∷ ts) rest)

joined-onto : (sign : List ℕ) (ts : List (List ℕ)) (rest : List ℕ) → joined sign ts ++ rest ≡ joined_onto sign ts rest
joined-onto sign [] rest = refl
joined-onto sign (t ∷ []) rest = refl
joined-onto sign (t ∷ u ∷ ts) rest =
    append_assoc (t ++ sign) (joined sign (u ∷ ts)) rest ∙ append_assoc t sign (joined sign (u ∷ ts) ++ rest) ∙ ap (λ r. t ++ (sign ++ r)) (joined-onto sign (u ∷ ts) rest)

-- the syntax of clauses that are printed
abbrev clause_tree : List ℕ → ClauseTree
clause_tree [] = grammar.Names 0 []
clause_tree (n ∷ []) = grammar.Name n
clause_tree (n ∷ m ∷ ns) = grammar.Names n (m ∷ ns)

abbrev tree : List (List ℕ) → FormulaTree
tree [] = grammar.Truth
tree ([] ∷ []) = grammar.Falsity
tree ((n ∷ ns) ∷ []) = grammar.Clauses (clause_tree (n ∷ ns)) []
tree (c ∷ d ∷ A) = grammar.Clauses (clause_tree c) (map clause_tree (d ∷ A))

clause_value-tree : (c : List ℕ) → c ≢ [] → clause_value (clause_tree c) ≡ c
clause_value-tree [] some = absurd (some refl)
clause_value-tree (n ∷ []) some = refl
clause_value-tree (n ∷ m ∷ ns) some = refl

values-trees : (A : List (List ℕ)) → ((c : List ℕ) → In c A → c ≢ []) → map clause_value (map clause_tree A) ≡ A
values-trees [] some = refl
values-trees (c ∷ A) some = ap (λ d. d ∷ map clause_value (map clause_tree A)) (clause_value-tree c (some c (inl refl))) ∙ ap (λ A. c ∷ A) (values-trees A (λ d h. some d (inr h)))

-- the tokens of a text, before what stands behind it
pub record Lexes (names : List (List ℕ)) (bytes : List ℕ) (place : ℕ) (ts : List Token) (rest : List ℕ) : Type 0 where
  pub end : ℕ
  pub tokens_are : symbols (tokens names place 0 bytes) ≡ ts ++ symbols (tokens names end 0 rest)

module _ (names : List (List ℕ)) (known : AreNames names) where
  lex_names : (n : ℕ) (ns : List ℕ) (place : ℕ) (rest : List ℕ) → ((m : ℕ) → In m (n ∷ ns) → m < length names)
      → Lexes names (joined_onto (codes " \\/ ") (map (name_of names) (n ∷ ns)) (41 ∷ rest)) place (name_tokens n ++ repetition Or name_tokens ns ++ Close ∷ []) rest
  lex_names n [] place rest all = record {
    end = suc (place + length (name_of names n));
    tokens_are =
        ap symbols (tokens-name names n place (41 ∷ rest) known (all n (inl refl)) refl)
        ∙ ap (λ ts. Principal n ∷ symbols ts) (tokens-Close names (place + length (name_of names n)) rest);
  }
  lex_names n (m ∷ ns) place rest all =
      let here : ℕ = place + length (name_of names n) in
      let text : List ℕ = joined_onto (codes " \\/ ") (map (name_of names) (m ∷ ns)) (41 ∷ rest) in
      let later = lex_names m ns (suc (suc (suc (suc here)))) rest (λ k h. all k (inr h)) in
      record {
        end = later.end;
        tokens_are =
            ap symbols (tokens-name names n place (codes " \\/ " ++ text) known (all n (inl refl)) refl)
            ∙ ap (λ ts. Principal n ∷ symbols ts) (tokens-Or names here text)
            ∙ ap (λ ts. Principal n ∷ Or ∷ ts) later.tokens_are;
      }

  lex_clause : (c : List ℕ) (place : ℕ) (rest : List ℕ) → c ≢ [] → ((m : ℕ) → In m c → m < length names) → Ends rest → Lexes names (clause_text names c ++ rest) place (clause_tokens (clause_tree c)) rest
  lex_clause [] place rest some all ends = absurd (some refl)
  lex_clause (n ∷ []) place rest some all ends = record {
    end = place + length (name_of names n);
    tokens_are = ap symbols (tokens-name names n place rest known (all n (inl refl)) ends);
  }
  lex_clause (n ∷ m ∷ c) place rest some all ends =
      let inner : List ℕ = joined (codes " \\/ ") (map (name_of names) (n ∷ m ∷ c)) in
      let text : clause_text names (n ∷ m ∷ c) ++ rest ≡ 40 ∷ joined_onto (codes " \\/ ") (map (name_of names) (n ∷ m ∷ c)) (41 ∷ rest) =
      ap (λ t. 40 ∷ t) (append_assoc inner (codes ")") rest ∙ joined-onto (codes " \\/ ") (map (name_of names) (n ∷ m ∷ c)) (41 ∷ rest)) in
      let later = lex_names n (m ∷ c) (suc place) rest all in
      record {
        end = later.end;
        tokens_are =
            ap (λ bytes. symbols (tokens names place 0 bytes)) text
            ∙ ap symbols (tokens-Open names place (joined_onto (codes " \\/ ") (map (name_of names) (n ∷ m ∷ c)) (41 ∷ rest)))
            ∙ ap (λ ts. Open ∷ ts) later.tokens_are;
      }

  lex_clauses : (c : List ℕ) (A : List (List ℕ)) (place : ℕ) (rest : List ℕ) → ((d : List ℕ) → In d (c ∷ A) → d ≢ []) → ((d : List ℕ) → In d (c ∷ A) → (n : ℕ) → In n d → n < length names) → Ends rest
      → Lexes names (joined_onto (codes " /\\ ") (map (clause_text names) (c ∷ A)) rest) place (clause_tokens (clause_tree c) ++ repetition And clause_tokens (map clause_tree A)) rest
  lex_clauses c [] place rest some all ends =
      let own = lex_clause c place rest (some c (inl refl)) (all c (inl refl)) ends in
      record { end = own.end; tokens_are = own.tokens_are ∙ ap (λ ts. ts ++ symbols (tokens names own.end 0 rest)) (sym (append-nil (clause_tokens (clause_tree c)))) }
  lex_clauses c (d ∷ A) place rest some all ends =
      let text : List ℕ = joined_onto (codes " /\\ ") (map (clause_text names) (d ∷ A)) rest in
      let own = lex_clause c place (codes " /\\ " ++ text) (some c (inl refl)) (all c (inl refl)) refl in
      let later = lex_clauses d A (suc (suc (suc (suc own.end)))) rest (λ e h. some e (inr h)) (λ e h. all e (inr h)) ends in
      let behind : List Token = symbols (tokens names later.end 0 rest) in
      record {
        end = later.end;
        tokens_are =
            own.tokens_are
            ∙ ap (λ ts. clause_tokens (clause_tree c) ++ symbols ts) (tokens-And names own.end text)
            ∙ ap (λ ts. clause_tokens (clause_tree c) ++ And ∷ ts) later.tokens_are
            ∙ sym (append_assoc (clause_tokens (clause_tree c)) (repetition And clause_tokens (map clause_tree (d ∷ A))) behind);
      }

  -- a canonical formula with the empty clause is False
  no_empty : (c d : List ℕ) (A : List (List ℕ)) → IsCanonical (c ∷ d ∷ A) → (e : List ℕ) → In e (c ∷ d ∷ A) → e ≢ []
  no_empty c d A canon e h empty =
      let X : List (List ℕ) = c ∷ d ∷ A in
      let own : canonical X ≡ X = canonical-itself X canon in
      let only : (x : List ℕ) → In x X → e ≡ x = λ x i. canonical-only X canon.clauses x (subst (In x) (sym own) i) e h (subst (λ v. within v x ≡ true) (sym empty) refl) in
      let first : c ≡ [] = sym (only c (inl refl)) ∙ empty in
      let second : d ≡ [] = sym (only d (inr (inl refl))) ∙ empty in
      let before : is_before c d ≡ true = in_order-head is_before c (d ∷ A) canon.ordered d (inl refl) in
      absurd (true≢false (sym before ∙ ap (λ v. is_before v d) first ∙ ap (is_before []) second))

  formula_text-several : (c : List ℕ) (A : List (List ℕ)) → ((e : List ℕ) → In e (c ∷ A) → e ≢ []) → formula_text names (c ∷ A) ≡ joined (codes " /\\ ") (map (clause_text names) (c ∷ A))
  formula_text-several [] [] some = absurd (some [] (inl refl) refl)
  formula_text-several (n ∷ c) [] some = refl
  formula_text-several [] (d ∷ A) some = refl
  formula_text-several (n ∷ c) (d ∷ A) some = refl

  lex_several : (c : List ℕ) (A : List (List ℕ)) (place : ℕ) (rest : List ℕ) → ((e : List ℕ) → In e (c ∷ A) → e ≢ []) → AreNamed names (c ∷ A) → Ends rest
      → Lexes names (formula_text names (c ∷ A) ++ rest) place (clause_tokens (clause_tree c) ++ repetition And clause_tokens (map clause_tree A)) rest
  lex_several c A place rest some named ends =
      let r = lex_clauses c A place rest some (λ d h n k. All-In (λ n. n < length names) d (All-In (λ c. All (λ n. n < length names) c) (c ∷ A) named d h) n k) ends in
      let text : formula_text names (c ∷ A) ++ rest ≡ joined_onto (codes " /\\ ") (map (clause_text names) (c ∷ A)) rest =
      ap (λ t. t ++ rest) (formula_text-several c A some) ∙ joined-onto (codes " /\\ ") (map (clause_text names) (c ∷ A)) rest in
      record { end = r.end; tokens_are = ap (λ bytes. symbols (tokens names place 0 bytes)) text ∙ r.tokens_are }

  one_some : (n : ℕ) (c e : List ℕ) → In e ((n ∷ c) ∷ []) → e ≢ []
  one_some n c e (inl same) empty = let wrong = sym same ∙ empty in cc
  one_some n c e (inr h) empty = absurd h

  pub lex_formula : (A : List (List ℕ)) (place : ℕ) (rest : List ℕ) → IsCanonical A → AreNamed names A → Ends rest → Lexes names (formula_text names A ++ rest) place (formula_tokens (tree A)) rest
  lex_formula [] place rest canon named ends = record { end = suc (suc (suc (suc place))); tokens_are = ap symbols (tokens-Truth names place rest) }
  lex_formula ([] ∷ []) place rest canon named ends = record { end = suc (suc (suc (suc (suc place)))); tokens_are = ap symbols (tokens-Falsity names place rest) }
  lex_formula ((n ∷ c) ∷ []) place rest canon named ends = lex_several (n ∷ c) [] place rest (one_some n c) named ends
  lex_formula (c ∷ d ∷ A) place rest canon named ends = lex_several c (d ∷ A) place rest (no_empty c d A canon) named ends

  pub formula_value-tree : (A : List (List ℕ)) → IsCanonical A → formula_value (tree A) ≡ A
  formula_value-tree [] canon = refl
  formula_value-tree ([] ∷ []) canon = refl
  formula_value-tree ((n ∷ c) ∷ []) canon = values-trees ((n ∷ c) ∷ []) (one_some n c)
  formula_value-tree (c ∷ d ∷ A) canon = values-trees (c ∷ d ∷ A) (no_empty c d A canon)

  derives-printed : (A : List (List ℕ)) → IsCanonical A → AreNamed names A → Derives (symbols (tokens_of names (formula_text names A))) A
  derives-printed A canon named =
      let lexes = lex_formula A 0 [] canon named refl in
      record {
        formula = tree A;
        written = ap (λ bytes. symbols (tokens_of names bytes)) (sym (append-nil (formula_text names A))) ∙ lexes.tokens_are ∙ append-nil (formula_tokens (tree A));
        means = sym (formula_value-tree A canon);
      }

  derives_two-printed : (A B : List (List ℕ)) → IsCanonical A → IsCanonical B → AreNamed names A → AreNamed names B → DerivesTwo (symbols (tokens_of names (two_text names A B))) (A, B)
  derives_two-printed A B a b named others =
      let first = lex_formula A 0 (codes " %% " ++ (formula_text names B ++ [])) a named refl in
      let second = lex_formula B (suc (suc (suc (suc first.end)))) [] b others refl in
      let text : two_text names A B ≡ formula_text names A ++ (codes " %% " ++ (formula_text names B ++ [])) =
      append_assoc (formula_text names A) (codes " %% ") (formula_text names B) ∙ ap (λ t. formula_text names A ++ (codes " %% " ++ t)) (sym (append-nil (formula_text names B))) in
      record {
        first = tree A;
        second = tree B;
        written =
            ap (λ bytes. symbols (tokens_of names bytes)) text ∙ first.tokens_are
            ∙ ap (λ ts. formula_tokens (tree A) ++ symbols ts) (tokens-Over names first.end (formula_text names B ++ []))
            ∙ ap (λ ts. formula_tokens (tree A) ++ Over ∷ ts) (second.tokens_are ∙ append-nil (formula_tokens (tree B)));
        means = ap (λ A. (A, B)) (sym (formula_value-tree A a)) ∙ ap (λ B. (formula_value (tree A), B)) (sym (formula_value-tree B b));
      }

-- reading the text of a formula gives the formula
narrow-itself : (A : List (List ℕ)) → IsCanonical A → ¬ IsWide A → narrow A ≡ Ok A
narrow-itself A canon few =
    let own = canonical-itself A canon in
    ap (λ C. cond (nat_lt 64 (length C)) (Err Wide) (Ok C)) own ∙ ap (λ b. cond b (Err Wide) (Ok A)) (le-ltb 64 (length A) (omega (arith, few)))

pub reads_printed : ReadsPrinted
unfolding reading
reads_printed names A known canon few named =
    ap (λ r. r >>= narrow) (derived_is_read names (formula_text names A) A (derives-printed names known A canon named)) ∙ narrow-itself A canon few

pub reads_two_printed : ReadsTwoPrinted
unfolding reading_two
reads_two_printed names A B known a b few others named more =
    ap (λ r. r >>= λ both. narrow both.0 >>= λ A. narrow both.1 >>= λ B. Ok (A, B)) (derived_two_are_read names (two_text names A B) (A, B) (derives_two-printed names known A B a b named more))
    ∙ ap (λ r. r >>= λ A. narrow B >>= λ B. Ok (A, B)) (narrow-itself A a few) ∙ ap (λ r. r >>= λ B. Ok (A, B)) (narrow-itself B b others)

-- the same of a formula by its clauses of 64 bits
pub reads_kept : (names : List (List ℕ)) (masks : List ℕ) (A : List (List ℕ)) → AreNames names → IsCanonical A → map principals masks ≡ A → length masks ≤ 64 → AreNamed names A
    → reading names (formula_text names A) ≡ Ok A
reads_kept names masks A known canon same few named =
    let short : length A ≤ 64 = subst (λ (A : List (List ℕ)). length A ≤ 64) same (simp length-map few) in
    reads_printed names A known canon (λ wide. omega (arith, short, wide)) named

-- the laws of the text of formulas, for the functions whose contracts they are
pub ruleset laws = (read_is_derived, read_two_are_derived, reads_printed, reads_two_printed)
