-- On what is read of the words of a line.
use Rattle.std.proofs.Common.{◌≡◌, ℕ, true, false, List, [], ◌∷◌, ◌++◌, refl, ap, sym, ◌∙◌, append_assoc, Option, Some, None}
use Rattle.std.proofs.lemmas.List.{append-nil}
use Rattle.std.specs.Option.{option_map}
use Rattle.lio_syntax_lines.specs.declared.line.Operand.{Operand}
use Rattle.lio_syntax_lines.specs.Literals.{is_name}
use Rattle.lio_syntax_lines.specs.Operands.{operand_of}
use Rattle.lio_syntax_lines.specs.Forms.{◌>>=◌, operands, names_of}

-- an item before the others
put : {X : Type 0} (before : List X) (item : X) (o : Option (List X))
    → option_map (λ more. before ++ more) (o >>= λ others. Some (item ∷ others)) ≡ option_map (λ more. (before ++ item ∷ []) ++ more) o
put before item None = refl
put before item (Some others) = ap Some (sym (append_assoc before (item ∷ []) others))

-- one operand more
pub operands-more : (names : List (List ℕ)) (before : List Operand) (word : List ℕ) (old rest : List (List ℕ)) (a : Operand) (read : Option (List Operand))
    → read ≡ option_map (λ more. before ++ more) (operands names old) → old ≡ word ∷ rest → operand_of names word ≡ Some a
    → read ≡ option_map (λ more. (before ++ a ∷ []) ++ more) (operands names rest)
unfolding operands
operands-more names before word old rest a read e are is = e ∙ (rw (are, is) (put before a (operands names rest)))

-- a word that is no operand
pub operands-invalid : (names : List (List ℕ)) (before : List Operand) (word : List ℕ) (old rest : List (List ℕ)) (read : Option (List Operand))
    → read ≡ option_map (λ more. before ++ more) (operands names old) → old ≡ word ∷ rest → operand_of names word ≡ None → read ≡ None
unfolding operands
operands-invalid names before word old rest read e are is = e ∙ (rw (are, is) refl)

-- no word is left
pub operands-end : (names : List (List ℕ)) (before : List Operand) (old : List (List ℕ)) (read : Option (List Operand))
    → read ≡ option_map (λ more. before ++ more) (operands names old) → old ≡ [] → read ≡ Some before
unfolding operands
operands-end names before old read e are = e ∙ (rw are (ap Some (append-nil before)))

others_invalid : (o : Option (List (List ℕ))) → (let none : Option (List (List ℕ)) = None in (o >>= λ others. none) ≡ none)
others_invalid None = refl
others_invalid (Some others) = refl

-- one name more
pub names-more : (before : List (List ℕ)) (word : List ℕ) (old rest : List (List ℕ)) (read : Option (List (List ℕ)))
    → read ≡ option_map (λ more. before ++ more) (names_of old) → old ≡ word ∷ rest → is_name word ≡ true
    → read ≡ option_map (λ more. (before ++ word ∷ []) ++ more) (names_of rest)
unfolding names_of
names-more before word old rest read e are is = e ∙ (rw (are, is) (put before word (names_of rest)))

-- a word that is no name
pub names-invalid : (before : List (List ℕ)) (word : List ℕ) (old rest : List (List ℕ)) (read : Option (List (List ℕ)))
    → read ≡ option_map (λ more. before ++ more) (names_of old) → old ≡ word ∷ rest → is_name word ≡ false → read ≡ None
unfolding names_of
names-invalid before word old rest read e are is = e ∙ (rw (are, is) (ap (option_map (λ more. before ++ more)) (others_invalid (names_of rest))))

-- no word is left
pub names-end : (before : List (List ℕ)) (old : List (List ℕ)) (read : Option (List (List ℕ)))
    → read ≡ option_map (λ more. before ++ more) (names_of old) → old ≡ [] → read ≡ Some before
unfolding names_of
names-end before old read e are = e ∙ (rw are (ap Some (append-nil before)))
