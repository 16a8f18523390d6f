-- What holds of the value that a call gives, if it gives one.
use Rattle.std.proofs.Common.{◌≡◌, ap}
use Rattle.std.specs.Prelude.{Result, Ok, Err, IsErr, OnOk, OnErr, MatchResult}
use Rattle.std.proofs.lemmas.Result.{IfOk-from_err}

pub on_err : {T E : Type 0} (P : Type 0) (result : Result T E) → P → OnErr result P
on_err P (Ok x) p = tt
on_err P (Err e) p = p

pub on_ok-from_err : {T E : Type 0} (P : Type 0) (result : Result T E) → IsErr result → OnOk result P
on_ok-from_err {E = E} P (Ok x) err = IfOk-from_err {E = E} (Ok x) (λ _. P) err
on_ok-from_err P (Err e) err = tt

-- what was kept beside what was got, and what holds where that was got
pub kept_beside : {T U E : Type 0} (P : Type 0) (got : Result U E) (kept k : T) (u : U)
    → MatchResult got (λ v. ◌≡◌ {A = Result (T × U) E} (Ok (k, u)) (Ok (kept, v))) (λ e. ◌≡◌ {A = Result (T × U) E} (Ok (k, u)) (Err e))
    → OnOk got P → (k ≡ kept) × P
kept_beside {T = T} {U = U} {E = E} P (Ok v) kept k u h p =
    let e : ◌≡◌ {A = Result (T × U) E} (Ok (k, u)) (Ok (kept, v)) = h in
    let q : ◌≡◌ {A = T × U} (k, u) (kept, v) = cc in
    (ap (λ (w : T × U). w.0) q, p)
kept_beside {T = T} {U = U} {E = E} P (Err e) kept k u h p =
    let same : ◌≡◌ {A = Result (T × U) E} (Ok (k, u)) (Err e) = h in absurd (cc)

-- what holds where nothing was got
pub none_beside : {T U E : Type 0} (P : Type 0) (got : Result U E) (kept : T) (f : E)
    → MatchResult got (λ v. ◌≡◌ {A = Result (T × U) E} (Err f) (Ok (kept, v))) (λ e. ◌≡◌ {A = Result (T × U) E} (Err f) (Err e))
    → OnErr got P → P
none_beside {T = T} {U = U} {E = E} P (Ok v) kept f h p =
    let same : ◌≡◌ {A = Result (T × U) E} (Err f) (Ok (kept, v)) = h in absurd (cc)
none_beside P (Err e) kept f h p = p
