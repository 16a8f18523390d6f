-- Answers of calls that make a formula: the formula, or Wide exactly where it is wide.
use Rattle.std.proofs.Common.{◌≡◌, ◌≢◌, ℕ, ◌↔◌, Bool, List, sym, ◌∙◌, ap, subst, Result, Ok, Err, IfOk}
use Rattle.lio_clauses.specs.declared.faults.FormFault.{FormFault}
use Rattle.lio_clauses.specs.declared.faults.FormFault.TheVariants.{Wide, NoMemory}
use Rattle.lio_clauses.specs.Width.{IsWide}
use Rattle.lio_clauses.specs.Satisfaction.{sat}

-- Wide is answered exactly where the formula is wide, unless memory is wanting
abbrev pub IsWideExactly : {X : Type 0} → Result X FormFault → List (List ℕ) → Type 0
IsWideExactly {X} r A = r ≢ Err NoMemory → (r ≡ Err Wide) ↔ IsWide A

pub IsWideExactly-same : {X : Type 0} (r : Result X FormFault) (A B : List (List ℕ)) → A ≡ B → IsWideExactly r A → IsWideExactly r B
IsWideExactly-same r A B e h = let P : List (List ℕ) → Type 0 = λ v. IsWideExactly r v in subst P e h

pub IfOk-same : (r : Result (List (List ℕ)) FormFault) (A B : List (List ℕ)) → A ≡ B → IfOk r (λ f. f ≡ A) → IfOk r (λ f. f ≡ B)
IfOk-same r A B e h = let P : List (List ℕ) → Type 0 = λ v. IfOk r (λ f. f ≡ v) in subst P e h

-- which sets satisfy what is made
pub IfOk-sets : (r : Result (List (List ℕ)) FormFault) (A : List (List ℕ)) (passes : (ℕ → Bool) → Bool) → ((who : ℕ → Bool) → sat who A ≡ passes who)
    → IfOk r (λ f. f ≡ A) → IfOk r (λ f. (who : ℕ → Bool) → sat who f ≡ passes who)
IfOk-sets (Ok f) A passes e h = λ who. ap (sat who) h ∙ e who
IfOk-sets (Err fault) A passes e h = tt

-- one fault of two types of answers
pub err-same : {X Y : Type 0} (e f : FormFault) → ◌≡◌ {A = Result X FormFault} (Err e) (Err f) → ◌≡◌ {A = Result Y FormFault} (Err e) (Err f)
err-same e f h = cc

-- what holds of a formula holds of what is made and is that formula
pub IfOk-holds : {E : Type 0} (r : Result (List (List ℕ)) E) (A : List (List ℕ)) (P : List (List ℕ) → Type 0) → P A → IfOk r (λ f. f ≡ A) → IfOk r P
IfOk-holds (Ok f) A P p h = subst P (sym h) p
IfOk-holds (Err fault) A P p h = tt
