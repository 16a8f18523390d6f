-- Lists of numbers as sets: members, subsets, and that rising lists with the same members are equal.
use Rattle.std.proofs.Common.{◌≡◌, ℕ, Bool, true, false, List, refl, sym, ◌∙◌, subst}
use Rattle.std.specs.Prelude.{nat_lt, ◌==◌}
use Rattle.std.specs.List.{list_all}
use Rattle.std.proofs.lemmas.Bool.{true≢false, eqb-true, eq-eqb}
use Rattle.lio_clauses.specs.Satisfaction.{set_of}
use Rattle.lio_clauses.specs.Canonical.{in_order, IsProperSubset}
use Rattle.lio_clauses.proofs.Members.{In, all_at, all_by, all_fails, any_by, any_some}
use Rattle.lio_clauses.proofs.Orders.{same_in_order, nat_lt-asym}

pub set_of-In : (n : ℕ) (c : List ℕ) → In n c → set_of c n ≡ true
set_of-In n c m = any_by (λ k. k == n) c n m (eq-eqb n n refl)

pub In-set_of : (n : ℕ) (c : List ℕ) → set_of c n ≡ true → In n c
In-set_of n c h =
    let r = any_some (λ k. k == n) c h in
    let P : ℕ → Type 0 = λ v. In v c in
    subst P (eqb-true r.0 n r.1.1) r.1.0

-- whether the members of c are members of d
abbrev pub within : List ℕ → List ℕ → Bool
within c d = list_all (set_of d) c

pub within-at : (c d : List ℕ) → within c d ≡ true → (n : ℕ) → In n c → In n d
within-at c d h n m = In-set_of n d (all_at (set_of d) c h n m)

pub within-by : (c d : List ℕ) → ((n : ℕ) → In n c → In n d) → within c d ≡ true
within-by c d h = all_by (set_of d) c (λ n m. set_of-In n d (h n m))

pub within-itself : (c : List ℕ) → within c c ≡ true
within-itself c = within-by c c (λ n m. m)

pub within-trans : (b c d : List ℕ) → within b c ≡ true → within c d ≡ true → within b d ≡ true
within-trans b c d h k = within-by b d (λ n m. within-at c d k n (within-at b c h n m))

-- rising lists with the same members are equal
pub same_rising : (c d : List ℕ) → in_order nat_lt c ≡ true → in_order nat_lt d ≡ true → within c d ≡ true → within d c ≡ true → c ≡ d
same_rising c d h k f g = same_in_order nat_lt nat_lt-asym c d h k (within-at c d f) (within-at d c g)

pub IsProperSubset-within : (c d : List ℕ) → IsProperSubset c d → within c d ≡ true
IsProperSubset-within c d p = within-by c d (λ n m. In-set_of n d (p.inside n (set_of-In n c m)))

pub IsProperSubset-by : (c d : List ℕ) → within c d ≡ true → within d c ≡ false → IsProperSubset c d
IsProperSubset-by c d h k =
    let r = all_fails (set_of c) d k in
    record {
      inside = λ n t. set_of-In n d (within-at c d h n (In-set_of n c t));
      misses = (r.0, set_of-In r.0 d r.1.0, r.1.1);
    }

pub IsProperSubset-not_back : (c d : List ℕ) → IsProperSubset c d → within d c ≡ true → ⊥
IsProperSubset-not_back c d p k =
    let n = p.misses.0 in
    true≢false (sym (set_of-In n c (within-at d c k n (In-set_of n d p.misses.1))) ∙ p.misses.2)
