use Rattle.std.proofs.Common.{◌<◌, ◌^◌, ℕ, ◌+◌, List, sym, subst, arith}
use Rattle.std.proofs.Math.Facts.{Fits-lt-pow}
use Rattle.std.proofs.lemmas.Result.{err_from_is_err_and}
use Rattle.lio_clauses.proofs.Members.{places-In, In-All}
use Rattle.lio_clauses.proofs.Answered.{err-same}
use Rattle.lio_clauses.proofs.Reduced.{KeepsMinimal-none}
use Rattle.lio_clauses.proofs.Rising.{CoversFirst, rising-next, first-all, first-more, first-kept, next-permuted, keeps-permuted}
use Rattle.lio_clauses.proofs.reduce.minimal_of_rising.Goals as goal

pub clauses-init : goal.clauses-init
clauses-init c = (
  KeepsMinimal-none c.args.clauses.now c.new-kept.result.items
      (In-All (λ m. m < 2 ^ 64) c.args.clauses.now (places-In (λ a. a < 2 ^ 64) 0 c.args.clauses.now (λ k l. Fits-lt-pow (c.type_inv.clauses k))))
      c.new-kept.ensures.items,
  λ k l. absurd (omega arith),
)

pub clauses-preserved-then-is_covered : goal.clauses-preserved-then-is_covered
clauses-preserved-then-is_covered c = (
  c.clauses.invariant.0,
  first-more c.args.clauses.now c.clauses.kept.items c.as_slice.result.now c.clauses.clause-index c.is_covered.result c.as_slice.ensures c.is_covered.ensures
      c.if-is_covered.true c.clauses.invariant.1,
)

pub keep-requires : goal.keep-requires
keep-requires c = (
  c.args.clauses.now,
  c.clauses.invariant.0,
  rising-next c.args.clauses.now c.clauses.kept.items c.as_slice.result.now c.clauses.clause-index c.is_covered.result c.as_slice.ensures c.is_covered.ensures
      c.if-is_covered.false c.requires (omega arith) c.clauses.invariant.1,
)

pub clauses-preserved : goal.clauses-preserved
clauses-preserved c =
    let r = c.in_ok-keep.ensures.inserted in
    let P : List ℕ → Type 0 = λ v. CoversFirst v c.args.clauses.now (c.clauses.clause-index + 1) in
    let next =
    rising-next c.args.clauses.now c.clauses.kept.items c.as_slice.result.now c.clauses.clause-index c.is_covered.result c.as_slice.ensures c.is_covered.ensures
    c.if-is_covered.false c.requires (omega arith) c.clauses.invariant.1
    in (
      c.in_ok-keep.ensures.minimal c.args.clauses.now c.clauses.invariant.0 next,
      subst P (sym r.2) (first-kept c.args.clauses.now c.clauses.kept.items c.clauses.clause-index r.0 r.1 c.clauses.invariant.1),
    )

pub returns-clause-minimal : goal.returns-clause-minimal
returns-clause-minimal c = (
  c.clauses.invariant.0,
  first-all c.args.clauses.now c.clauses.kept.items c.clauses.clause-index c.clauses-test.false c.clauses.invariant.1,
)

pub returns-in_err-keep-clause-wide : goal.returns-in_err-keep-clause-wide
returns-in_err-keep-clause-wide c =
    let p = err_from_is_err_and c.from_residual.result c.from_residual.ensures.1 in
    let next =
    rising-next c.args.clauses.now c.clauses.kept.items c.as_slice.result.now c.clauses.clause-index c.is_covered.result c.as_slice.ensures c.is_covered.ensures
    c.if-is_covered.false c.requires (omega arith) c.clauses.invariant.1
    in
    rw (p.1, p.2) (λ e others q. c.in_err-keep.ensures.wide (err-same _ _ e) others
    (keeps-permuted c.args.clauses.now others c.clauses.kept.items q c.clauses.invariant.0)
    (next-permuted c.args.clauses.now others c.clauses.kept.items _ q next))
