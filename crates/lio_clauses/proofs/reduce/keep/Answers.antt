use Rattle.std.proofs.Common.{◌≡◌, ◌<◌, ◌≤◌, ℕ, List, length, false, true, get_or, sym, ◌∙◌, subst}
use Rattle.std.specs.Prelude.{bit_and}
use Rattle.std.specs.List.{All}
use Rattle.lio_clauses.specs.Bits.{KeepsMinimal, mask_before}
use Rattle.lio_clauses.proofs.Reduced.{next-apart, KeepsMinimal-next, kept-wide}
use Rattle.lio_clauses.proofs.reduce.keep.Goals as goal

pub returns-then-len-eq-MAX_CLAUSES-clause-wide : goal.returns-then-len-eq-MAX_CLAUSES-clause-wide
returns-then-len-eq-MAX_CLAUSES-clause-wide c =
    λ _ clauses p h. kept-wide clauses c.args.kept.now.items c.args.clause p h (sym c.len.ensures.value ∙ c.if-len-eq-MAX_CLAUSES.true)

pub place_of-place-requires-clause-apart : goal.place_of-place-requires-clause-apart
place_of-place-requires-clause-apart c =
    let k = c.requires in
    let P : List ℕ → Type 0 = λ v. All (λ k. (bit_and k c.args.clause ≡ k → ⊥) × (bit_and c.args.clause k ≡ c.args.clause → ⊥)) v in
    subst P (sym c.as_slice.ensures) (next-apart k.0 c.args.kept.now.items c.args.clause k.1 k.2)

pub returns-clause-minimal : goal.returns-clause-minimal
returns-clause-minimal c =
    λ clauses p h.
    let seen : c.as_slice.result.now ≡ c.args.kept.now.items = c.as_slice.ensures in
    let place : ℕ = c.place_of-place.result in
    let Within : List ℕ → Type 0 = λ v. place ≤ length v in
    let Low : List ℕ → Type 0 = λ v. (j : ℕ) → j < place → mask_before c.args.clause (get_or v j 0) ≡ false in
    let Here : List ℕ → Type 0 = λ v. place < length v → mask_before c.args.clause (get_or v place 0) ≡ true in
    subst (KeepsMinimal clauses) (sym c.in_ok-insert.ensures.ok)
    (KeepsMinimal-next clauses c.args.kept.now.items c.args.clause place p h (λ e. c.if-len-eq-MAX_CLAUSES.false (c.len.ensures.value ∙ e))
    (subst Within seen c.place_of-place.ensures.within) (subst Low seen c.place_of-place.ensures.before) (subst Here seen c.place_of-place.ensures.after))
