use Rattle.std.proofs.Common.{arith, ◌≡◌, ℕ, ◌+◌, ◌++◌, List, length, take, ap, ◌∙◌, length-append}
use Rattle.std.proofs.lemmas.Slice.{take-put_mid}
use Rattle.std.proofs.lemmas.List.{take_at}
use borrow.Rule.Slice.PartMut.{put_mid}
use Rattle.lio_values.proofs.text.Text.here.Goals as goal

-- two parts that are written at the front, one behind the other, are what stands there
two-parts : (a b : List ℕ) (k : ℕ) (first second rest : List ℕ) → first ≡ a → second ≡ b
    → take (length a + length b) (put_mid (length a) k (first ++ rest) second) ≡ a ++ b
two-parts a b k first second rest p q =
    take-put_mid (length a) k (first ++ rest) second (length a + length b) (omega (arith, ap length q)) (omega (arith, ap length p, length-append first rest))
    ∙ ap (λ xs. xs ++ second) (take_at first rest (length a) (omega (arith, ap length p)))
    ∙ ap (λ xs. xs ++ second) p ∙ ap (λ xs. a ++ xs) q

pub returns : goal.returns
returns c = two-parts c.args.a.now c.args.b.now _ c.copy_from_slice.new.self c.copy_from_slice-2.new.self _ c.copy_from_slice.ensures.after c.copy_from_slice-2.ensures.after
