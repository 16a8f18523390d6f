use Rattle.std.proofs.Common.{arith, ◌≡◌, ℕ, ◌<◌, ◌≤◌, ◌^◌, List, not, map, length, All, sym, ◌∙◌, ap, subst}
use Rattle.std.specs.List.{filter}
use Rattle.std.proofs.lemmas.List.{length-map}
use Rattle.lio_clauses.specs.Principals.{principals}
use Rattle.lio_clauses.specs.Implication.{ImplyTogether}
use Rattle.lio_clauses.specs.Canonical.{IsCanonical}
use Rattle.lio_clauses.specs.Width.{IsWide}
use Rattle.lio_clauses.specs.Without.{without}
use Rattle.lio_clauses.specs.Bits.{IsFormula, covers}
use Rattle.lio_clauses.proofs.Answered.{IfOk-holds}
use Rattle.lio_clauses.proofs.WithoutLemmas.{uncovered-without, uncovered-formula, without_is_made_up, without_is_shorter}
use Rattle.lio_clauses.proofs.formula.Formula.without.Goals as goal
use Rattle.lio_clauses.proofs.formula.Formula.without.Goals.{Joined-kept}

-- the masks that are kept
kept : (ks ms found seen : List ℕ) → seen ≡ found → found ≡ filter (λ m. not (covers ks m)) ms → seen ≡ filter (λ m. not (covers ks m)) ms
kept ks ms found seen e f = e ∙ f

formula : (ks ms seen : List ℕ) (A : List (List ℕ)) → seen ≡ filter (λ m. not (covers ks m)) ms → All (λ k. k < 2 ^ 64) ks → All (λ m. m < 2 ^ 64) ms
    → map principals ms ≡ A → IsCanonical A → length ms ≤ 64 → IsFormula seen
formula ks ms seen A e f g same a few = subst IsFormula (sym e) (uncovered-formula ks ms f g (subst IsCanonical (sym same) a) few)

left : (ks ms seen : List ℕ) (A P : List (List ℕ)) → seen ≡ filter (λ m. not (covers ks m)) ms → All (λ k. k < 2 ^ 64) ks → All (λ m. m < 2 ^ 64) ms
    → map principals ms ≡ A → map principals ks ≡ P → map principals seen ≡ without A P
left ks ms seen A P e f g a p =
    ap (map principals) e ∙ uncovered-without ks ms f g ∙ ap (λ v. without v (map principals ks)) a ∙ ap (without A) p

narrow : (ms : List ℕ) (A P : List (List ℕ)) → map principals ms ≡ A → length ms ≤ 64 → ¬ IsWide (without A P)
narrow ms A P e few wide =
    let short : length (without A P) ≤ length A = without_is_shorter A P in
    let same : length A ≡ length ms = ap length (sym e) ∙ length-map ms principals in
    omega arith

pub of_kept-requires : goal.of_kept-requires
of_kept-requires c =
    formula c.clauses.result.now c.clauses-2.result.now c.as_slice.result.now c.args.self.now
    (kept c.clauses.result.now c.clauses-2.result.now c.in_ok-kept.kept.items c.as_slice.result.now c.as_slice.ensures c.in_ok-kept.ensures)
    c.clauses.ensures.fits c.clauses-2.ensures.fits c.clauses-2.ensures.masks c.clauses-2.ensures.canonical c.clauses-2.ensures.few

made : (c : Joined-kept) → map principals c.as_slice.result.now ≡ without c.args.self.now c.args.power.now
made c =
    left c.clauses.result.now c.clauses-2.result.now c.as_slice.result.now c.args.self.now c.args.power.now
    (kept c.clauses.result.now c.clauses-2.result.now c.in_ok-kept.kept.items c.as_slice.result.now c.as_slice.ensures c.in_ok-kept.ensures)
    c.clauses.ensures.fits c.clauses-2.ensures.fits c.clauses-2.ensures.masks c.clauses.ensures.masks

pub returns-clause-ok : goal.returns-clause-ok
returns-clause-ok c =
    IfOk-holds c.of_kept.result (map principals c.as_slice.result.now) (λ f. f ≡ without c.args.self.now c.args.power.now) (made c) c.of_kept.ensures.ok

pub returns-clause-made_up : goal.returns-clause-made_up
returns-clause-made_up c =
    IfOk-holds c.of_kept.result (without c.args.self.now c.args.power.now) (λ f. ImplyTogether c.args.power.now f c.args.self.now)
    (without_is_made_up c.args.self.now c.args.power.now) (returns-clause-ok c)

pub returns-clause-narrow : goal.returns-clause-narrow
returns-clause-narrow c =
    IfOk-holds c.of_kept.result (without c.args.self.now c.args.power.now) (λ f. ¬ IsWide f)
    (narrow c.clauses-2.result.now c.args.self.now c.args.power.now c.clauses-2.ensures.masks c.clauses-2.ensures.few) (returns-clause-ok c)
