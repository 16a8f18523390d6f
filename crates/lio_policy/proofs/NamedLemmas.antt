-- Labels and formulas that are read are over the principals.
use Rattle.std.proofs.Common.{◌≡◌, ℕ, List, Some, Result, Ok, Err, subst}
use Rattle.std.specs.Result.{result_ok}
use Rattle.lio_clauses.specs.FormulaPrint as formula
use Rattle.lio_clauses.specs.FormulaText as text
use Rattle.lio_clauses.proofs.GrammarLemmas.{bind-Ok}
use Rattle.lio_clauses.proofs.KnownLemmas.{reading-named, reading_two-named}
use Rattle.lio_labels.specs.LabelText as label
use Rattle.lio_labels.specs.LabelPrint.{AreNamed}
use Rattle.lio_labels.specs.declared.label.Label.{Label}
use Rattle.lio_policy.specs.Rules.{label_of}

pub read_result : {A E : Type 0} (r : Result A E) (x : A) → result_ok r ≡ Some x → r ≡ Ok x
read_result (Ok y) x h = cc
read_result (Err e) x h = absurd (cc)

pub label_is_named : (names : List (List ℕ)) (t : List ℕ) (l : Label) → label_of names t ≡ Some l → AreNamed names l
unfolding label.reading
label_is_named names t l h =
    let p = bind-Ok (text.reading_two names t) (λ both. Ok (label.label_of both)) l (read_result (label.reading names t) l h) in
    let is : label.label_of p.0 ≡ l = let e = p.2 in cc in
    subst (AreNamed names) is (reading_two-named names t p.0 p.1)

pub formula_is_named : (names : List (List ℕ)) (t : List ℕ) (a : List (List ℕ)) → result_ok (text.reading names t) ≡ Some a → formula.AreNamed names a
formula_is_named names t a h = reading-named names t a (read_result (text.reading names t) a h)
