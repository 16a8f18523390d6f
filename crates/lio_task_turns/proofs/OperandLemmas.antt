-- The values that operands stand for, one after the other.
use Rattle.std.proofs.Common.{◌≡◌, ◌∙◌, refl, sym, ap, ℕ, suc, ◌+◌, ◌<◌, ◌≤◌, List, [], ◌∷◌, ◌++◌, length, drop, get_or, Option, Some, None, option_and_then, append_assoc, append-nil, add-one}
use Rattle.std.proofs.Math.Seq.{drop-cons}
use Rattle.std.specs.Borrow.{Bor}
use Rattle.std.specs.Option.{is_some, option_copied, option_map}
use Rattle.std.proofs.lemmas.List.{drop_all}
use Rattle.lio_values.specs.declared.value.Plain.{Plain}
use Rattle.lio_values.specs.declared.value.Value.{Value}
use Rattle.lio_values.specs.declared.value.Value.TheVariants.{Bare, Sealed}
use Rattle.lio_syntax_lines.specs.declared.line.Operand.{Operand}
use Rattle.lio_syntax.specs.Environment.{Environment}
use Rattle.lio_calculus.specs.Operands.{bound, all_bound, bare_of}

-- the values so far, before those of the operands from a place on
unfoldable pub Goes : Environment → List Operand → ℕ → List Value → Type 0
Goes environment operands i values = all_bound environment operands ≡ option_map (λ (rest : List Value). values ++ rest) (all_bound environment (drop i operands))

map-same : (o : Option (List Value)) → o ≡ option_map (λ (rest : List Value). [] ++ rest) o
map-same None = refl
map-same (Some rest) = refl

pub goes-first : (environment : Environment) (operands : List Operand) → Goes environment operands 0 []
unfolding Goes
goes-first environment operands = map-same (all_bound environment operands)

one-more : (values : List Value) (v : Value) (o : Option (List Value)) → option_map (λ (rest : List Value). values ++ rest) (option_map (λ (rest : List Value). v ∷ rest) o) ≡ option_map (λ (rest : List Value). (values ++ v ∷ []) ++ rest) o
one-more values v None = refl
one-more values v (Some rest) = ap Some (sym (append_assoc values (v ∷ []) rest))

-- behind an operand
next : (environment : Environment) (operands : List Operand) (i : ℕ) (values : List Value) (operand : Operand) → i < length operands → operand ≡ get_or operands i operand → Goes environment operands i values
    → all_bound environment operands ≡ option_map (λ (rest : List Value). values ++ rest) (option_and_then (λ (value : Value). option_map (λ (rest : List Value). value ∷ rest) (all_bound environment (drop (suc i) operands))) (bound environment operand))
unfolding Goes all_bound
next environment operands i values operand within is goes =
    goes ∙ ap (λ (os : List Operand). option_map (λ (rest : List Value). values ++ rest) (all_bound environment os)) (drop-cons operands i operand within)
    ∙ ap (λ (o : Operand). option_map (λ (rest : List Value). values ++ rest) (option_and_then (λ (value : Value). option_map (λ (rest : List Value). value ∷ rest) (all_bound environment (drop (suc i) operands))) (bound environment o))) (sym is)

pub goes-on : (environment : Environment) (operands : List Operand) (i : ℕ) (values : List Value) (operand : Operand) (v : Value) → i < length operands → operand ≡ get_or operands i operand → Goes environment operands i values
    → Some v ≡ bound environment operand → Goes environment operands (i + 1) (values ++ v ∷ [])
unfolding Goes
goes-on environment operands i values operand v within is goes found =
    next environment operands i values operand within is goes
    ∙ ap (λ (o : Option Value). option_map (λ (rest : List Value). values ++ rest) (option_and_then (λ (value : Value). option_map (λ (rest : List Value). value ∷ rest) (all_bound environment (drop (suc i) operands))) o)) (sym found)
    ∙ one-more values v (all_bound environment (drop (suc i) operands))
    ∙ ap (λ (n : ℕ). option_map (λ (rest : List Value). (values ++ v ∷ []) ++ rest) (all_bound environment (drop n operands))) (sym (add-one i))

pub goes-none : (environment : Environment) (operands : List Operand) (i : ℕ) (values : List Value) (operand : Operand) → i < length operands → operand ≡ get_or operands i operand → Goes environment operands i values
    → None ≡ bound environment operand → None ≡ all_bound environment operands
goes-none environment operands i values operand within is goes found =
    sym (next environment operands i values operand within is goes
    ∙ ap (λ (o : Option Value). option_map (λ (rest : List Value). values ++ rest) (option_and_then (λ (value : Value). option_map (λ (rest : List Value). value ∷ rest) (all_bound environment (drop (suc i) operands))) o)) (sym found))

pub goes-all : (environment : Environment) (operands : List Operand) (i : ℕ) (values : List Value) → length operands ≤ i → Goes environment operands i values → Some values ≡ all_bound environment operands
unfolding Goes all_bound
goes-all environment operands i values past goes =
    sym (goes ∙ ap (λ (os : List Operand). option_map (λ (rest : List Value). values ++ rest) (all_bound environment os)) (drop_all i operands past) ∙ ap Some (append-nil values))

-- a view of the bare value that is there
pub seen-view : {X : Type 0} (view : Plain → Option X) (plain : Plain) (o : Option Value) → Some plain ≡ option_and_then (λ value. option_and_then Some (bare_of value)) o
    → view plain ≡ option_and_then (λ value. option_and_then view (bare_of value)) o
seen-view view plain None e = cc
seen-view view plain (Some (Bare p)) e = ap (λ (o : Option Plain). option_and_then view o) e
seen-view view plain (Some (Sealed label content)) e = cc

-- a value is there where a reference to it is
pub copied-some : (o : Option (Bor Value)) → is_some o ≡ is_some (option_copied o)
copied-some None = refl
copied-some (Some value) = refl
