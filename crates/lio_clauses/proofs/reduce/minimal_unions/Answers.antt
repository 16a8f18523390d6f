use Rattle.std.proofs.Common.{◌≡◌, ℕ, List, map, None, sym, subst}
use Rattle.std.specs.List.Sorted.{IsNonDecreasing, IsPermutation}
use Rattle.std.proofs.lemmas.Result.{IfOk-weaker}
use Rattle.std.proofs.lemmas.List.Sorted.{IsNonDecreasingBy-from_sort}
use Rattle.lio_clauses.specs.Bits.{IsFormula, IsLeastUncovered, KeepsMinimal, unions}
use Rattle.lio_clauses.specs.Principals.{principals}
use Rattle.lio_clauses.specs.Canonical.{canonical}
use Rattle.lio_clauses.proofs.Reduced.{kept-canonical, kept-formula}
use Rattle.lio_clauses.proofs.Rising.{keeps-permuted, covered-permuted, sorted_permutes, whole_slice}
use Rattle.lio_clauses.proofs.reduce.minimal_unions.Goals as goal

pub minimal_of_rising-requires : goal.minimal_of_rising-requires
minimal_of_rising-requires c =
    let same =
    whole_slice c.in_ok-clauses.clauses.items c.as_mut_slice.result.now c.sort_unstable.new.self c.as_slice.result.now c.as_mut_slice.ensures.value
    c.sort_unstable.ensures.len c.as_slice.ensures
    in
    subst IsNonDecreasing (sym same) (IsNonDecreasingBy-from_sort (λ (x : ℕ). x) c.sort_unstable.new.self c.sort_unstable.ensures.sorted)

pub returns-clause-formula : goal.returns-clause-formula
returns-clause-formula c =
    let seen : List ℕ = c.as_slice.result.now in
    let us : List ℕ = unions c.args.left.now c.args.right.now in
    let permuted : IsPermutation seen us =
    sorted_permutes us c.in_ok-clauses.clauses.items c.as_mut_slice.result.now c.sort_unstable.new.self seen c.in_ok-clauses.ensures c.as_mut_slice.ensures.value
    c.sort_unstable.ensures.len c.sort_unstable.ensures.permutation c.as_slice.ensures
    in
    IfOk-weaker c.minimal_of_rising.result (λ kept. KeepsMinimal seen kept.items × IsLeastUncovered kept.items seen None) (λ kept. IsFormula kept.items)
    (λ kept h. kept-formula us kept.items (keeps-permuted seen us kept.items permuted h.0) (covered-permuted seen us kept.items permuted h.1))
    c.minimal_of_rising.ensures.minimal

pub returns-clause-canonical : goal.returns-clause-canonical
returns-clause-canonical c =
    let seen : List ℕ = c.as_slice.result.now in
    let us : List ℕ = unions c.args.left.now c.args.right.now in
    let permuted : IsPermutation seen us =
    sorted_permutes us c.in_ok-clauses.clauses.items c.as_mut_slice.result.now c.sort_unstable.new.self seen c.in_ok-clauses.ensures c.as_mut_slice.ensures.value
    c.sort_unstable.ensures.len c.sort_unstable.ensures.permutation c.as_slice.ensures
    in
    IfOk-weaker c.minimal_of_rising.result (λ kept. KeepsMinimal seen kept.items × IsLeastUncovered kept.items seen None)
    (λ kept. map principals kept.items ≡ canonical (map principals us))
    (λ kept h. kept-canonical us kept.items (keeps-permuted seen us kept.items permuted h.0) (covered-permuted seen us kept.items permuted h.1))
    c.minimal_of_rising.ensures.minimal

pub returns-clause-wide : goal.returns-clause-wide
returns-clause-wide c =
    let seen : List ℕ = c.as_slice.result.now in
    let us : List ℕ = unions c.args.left.now c.args.right.now in
    let permuted : IsPermutation seen us =
    sorted_permutes us c.in_ok-clauses.clauses.items c.as_mut_slice.result.now c.sort_unstable.new.self seen c.in_ok-clauses.ensures c.as_mut_slice.ensures.value
    c.sort_unstable.ensures.len c.sort_unstable.ensures.permutation c.as_slice.ensures
    in
    λ e. c.minimal_of_rising.ensures.wide e us permuted
