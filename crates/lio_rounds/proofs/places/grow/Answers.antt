use Rattle.std.proofs.Common.{◌≡◌, ◌+◌, ◌++◌, ◌∷◌, [], ℕ, List, ◌∙◌, ap, subst, arith, length, length-append, get_or}
use Rattle.lio_rounds.specs.Words.{IsClear}
use Rattle.lio_rounds.proofs.WordLemmas.{pushed-clear, pushed-same}
use Rattle.lio_rounds.proofs.places.grow.Goals as goal

pub loop-words-preserved : goal.loop-words-preserved
loop-words-preserved c =
    let before : List ℕ = c.loop-words.words.items in
    let pushed : c.push_reserved.new.self.items ≡ before ++ 18446744073709551615 ∷ [] =
    c.push_reserved.ensures.items ∙ ap (λ (ws : List ℕ). ws ++ 18446744073709551615 ∷ []) c.try_reserve.ensures.items in
    let long = length-append before (18446744073709551615 ∷ []) in
    let longer : length c.push_reserved.new.self.items ≡ length before + 1 = ap (λ (ws : List ℕ). length ws) pushed ∙ long in
    record {
      longer = omega (arith, longer, c.loop-words.invariant.longer);
      same = λ w inside. ap (λ (ws : List ℕ). get_or ws w 0) pushed ∙ pushed-same before 18446744073709551615 w (omega (arith, inside, c.loop-words.invariant.longer)) ∙ c.loop-words.invariant.same w inside;
      clear = λ i h. c.loop-words.invariant.clear i (pushed-clear before i (subst (λ (ws : List ℕ). IsClear ws i) pushed h));
    }
