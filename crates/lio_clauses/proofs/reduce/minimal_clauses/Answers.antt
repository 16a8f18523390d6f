use Rattle.std.proofs.Common.{ℕ, ◌+◌, None, List, [], ◌++◌, take, sym, ◌∙◌, subst, arith}
use Rattle.std.proofs.lemmas.Result.{err_from_is_err_and}
use Rattle.std.proofs.lemmas.List.{take_all}
use Rattle.lio_clauses.specs.Bits.{KeepsMinimal, IsLeastUncovered}
use Rattle.lio_clauses.proofs.Reduced.{kept-canonical, kept-formula}
use Rattle.lio_clauses.proofs.Answered.{err-same}
use Rattle.lio_clauses.proofs.Merged.{Merges, Merges-left, Merges-right, Merges-all, skips-left, skips-right, next-left, next-right}
use Rattle.lio_clauses.proofs.reduce.minimal_clauses.Goals as goal

pub lefts-preserved-then-contains_other : goal.lefts-preserved-then-contains_other
lefts-preserved-then-contains_other c =
    skips-left c.args.left.now c.args.right.now c.lefts.kept.items c.lefts.clause-index c.lefts.invariant (omega arith)
    (sym c.contains_other.ensures ∙ c.if-contains_other.true)

pub keep-requires : goal.keep-requires
keep-requires c = (
  c.args.left.now ++ c.args.right.now,
  c.lefts.invariant.keeps,
  next-left c.args.left.now c.args.right.now c.lefts.kept.items c.lefts.clause-index c.requires.left c.lefts.invariant (omega arith)
      (sym c.contains_other.ensures ∙ c.if-contains_other.false),
)

pub returns-in_err-keep-clause-wide : goal.returns-in_err-keep-clause-wide
returns-in_err-keep-clause-wide c =
    let p = err_from_is_err_and c.from_residual.result c.from_residual.ensures.1 in
    let next =
    next-left c.args.left.now c.args.right.now c.lefts.kept.items c.lefts.clause-index c.requires.left c.lefts.invariant (omega arith)
    (sym c.contains_other.ensures ∙ c.if-contains_other.false)
    in
    rw (p.1, p.2) (λ e. c.in_err-keep.ensures.wide (err-same _ _ e) (c.args.left.now ++ c.args.right.now) c.lefts.invariant.keeps next)

pub lefts-preserved : goal.lefts-preserved
lefts-preserved c =
    let r = c.in_ok-keep.ensures.inserted in
    let keeps =
    c.in_ok-keep.ensures.minimal (c.args.left.now ++ c.args.right.now) c.lefts.invariant.keeps
    (next-left c.args.left.now c.args.right.now c.lefts.kept.items c.lefts.clause-index c.requires.left c.lefts.invariant (omega arith)
    (sym c.contains_other.ensures ∙ c.if-contains_other.false))
    in
    let P : List ℕ → Type 0 = λ v. Merges c.args.left.now c.args.right.now (take (c.lefts.clause-index + 1) c.args.left.now) [] v in
    subst P (sym r.2)
    (Merges-left c.args.left.now c.args.right.now c.lefts.kept.items c.lefts.clause-index r.0 c.lefts.invariant (omega arith) r.1
    (subst (KeepsMinimal (c.args.left.now ++ c.args.right.now)) r.2 keeps))

pub rights-preserved-then-is_covered : goal.rights-preserved-then-is_covered
rights-preserved-then-is_covered c =
    skips-right c.args.left.now c.args.right.now c.rights.kept.items c.rights.clause-index c.rights.invariant (omega arith)
    (sym c.is_covered.ensures ∙ c.if-is_covered.true)

pub keep-requires-in-rights : goal.keep-requires-in-rights
keep-requires-in-rights c = (
  c.args.left.now ++ c.args.right.now,
  c.rights.invariant.keeps,
  next-right c.args.left.now c.args.right.now c.rights.kept.items c.rights.clause-index c.requires.right c.rights.invariant (omega arith)
      (sym c.is_covered.ensures ∙ c.if-is_covered.false),
)

pub returns-in_err-keep-2-clause-wide : goal.returns-in_err-keep-2-clause-wide
returns-in_err-keep-2-clause-wide c =
    let p = err_from_is_err_and c.from_residual-in_err-keep-2.result c.from_residual-in_err-keep-2.ensures.1 in
    let next =
    next-right c.args.left.now c.args.right.now c.rights.kept.items c.rights.clause-index c.requires.right c.rights.invariant (omega arith)
    (sym c.is_covered.ensures ∙ c.if-is_covered.false)
    in
    rw (p.1, p.2) (λ e. c.in_err-keep-2.ensures.wide (err-same _ _ e) (c.args.left.now ++ c.args.right.now) c.rights.invariant.keeps next)

pub rights-preserved : goal.rights-preserved
rights-preserved c =
    let r = c.in_ok-keep-2.ensures.inserted in
    let keeps =
    c.in_ok-keep-2.ensures.minimal (c.args.left.now ++ c.args.right.now) c.rights.invariant.keeps
    (next-right c.args.left.now c.args.right.now c.rights.kept.items c.rights.clause-index c.requires.right c.rights.invariant (omega arith)
    (sym c.is_covered.ensures ∙ c.if-is_covered.false))
    in
    let P : List ℕ → Type 0 = λ v. Merges c.args.left.now c.args.right.now c.args.left.now (take (c.rights.clause-index + 1) c.args.right.now) v in
    subst P (sym r.2)
    (Merges-right c.args.left.now c.args.right.now c.rights.kept.items c.rights.clause-index r.0 c.rights.invariant (omega arith) r.1
    (subst (KeepsMinimal (c.args.left.now ++ c.args.right.now)) r.2 keeps))

all : (c : goal.After-rights) → IsLeastUncovered c.rights.kept.items (c.args.left.now ++ c.args.right.now) None
all c =
    let P : List ℕ → Type 0 = λ v. Merges c.args.left.now c.args.right.now c.args.left.now v c.rights.kept.items in
    Merges-all c.args.left.now c.args.right.now c.rights.kept.items c.requires.right
    (subst P (take_all c.rights.clause-index c.args.right.now c.rights-test.false) c.rights.invariant)

pub returns-clause-formula : goal.returns-clause-formula
returns-clause-formula c = kept-formula (c.args.left.now ++ c.args.right.now) c.rights.kept.items c.rights.invariant.keeps (all c)

pub returns-clause-canonical : goal.returns-clause-canonical
returns-clause-canonical c = kept-canonical (c.args.left.now ++ c.args.right.now) c.rights.kept.items c.rights.invariant.keeps (all c)
