use Rattle.std.proofs.Common.{◌≡◌, ◌∙◌, ap, sym, refl, ℕ, ◌<◌, suc, ◌+◌, List, [], ◌∷◌, length, get_or, drop, drop-cons, add-one, String, string_bytes}
use Rattle.std.proofs.Math.ListN.{drop_of_length-le}
use Rattle.lio_front.specs.declared.words.place.Place.{Place}
use Rattle.lio_front.specs.declared.words.place.Place.TheVariants.{Behind}
use Rattle.lio_front.specs.Command.{command_by}
use Rattle.lio_front.specs.Sorted.{before, bytes_of_words, sorted_of}
use Rattle.lio_front.specs.Walk.{walked}
use Rattle.lio_front.proofs.WalkLemmas.{none-lacking}
use Rattle.lio_front.proofs.words.sorted.sort_words.Goals as goal

-- the next word
next : {A : Type 0} → (words : List (String A)) (i : ℕ) (word : String A) (bytes : List ℕ) → i < length words → word ≡ get_or words i word → bytes ≡ string_bytes word → bytes_of_words (drop i words) ≡ bytes ∷ bytes_of_words (drop (i + 1) words)
next words i word bytes below at is =
    ap bytes_of_words (drop-cons words i word below ∙ ap (λ w. w ∷ drop (suc i) words) (sym at) ∙ ap (λ n. word ∷ drop n words) (sym (add-one i)))
    ∙ ap (λ b. b ∷ bytes_of_words (drop (i + 1) words)) (sym is)

pub returns-in_err-next : goal.returns-in_err-next
returns-in_err-next c =
    rw c.from_residual.ensures (c.loop-word.invariant.same
    ∙ ap (λ words. command_by (before (sorted_of c.loop-word.sorted) (walked c.loop-word.place words))) (next c.args.words.now c.loop-word.word-index c.word-item.result c.as_bytes.result.now c.loop-word-test.true c.word-item.is (c.as_bytes.ensures.value ∙ c.as_str.ensures.value))
    ∙ c.in_err-next.ensures.cases (bytes_of_words (drop (c.loop-word.word-index + 1) c.args.words.now)))

pub loop-word-preserved : goal.loop-word-preserved
loop-word-preserved c = record {
  same = c.loop-word.invariant.same
      ∙ ap (λ words. command_by (before (sorted_of c.loop-word.sorted) (walked c.loop-word.place words))) (next c.args.words.now c.loop-word.word-index c.word-item.result c.as_bytes.result.now c.loop-word-test.true c.word-item.is (c.as_bytes.ensures.value ∙ c.as_str.ensures.value))
      ∙ ap command_by (c.in_ok-next.ensures.cases (bytes_of_words (drop (c.loop-word.word-index + 1) c.args.words.now)));
  names = c.in_ok-next.ensures.names c.loop-word.invariant.names;
}

pub returns-in-Behind : goal.returns-in-Behind
returns-in-Behind c =
    c.loop-word.invariant.same
    ∙ ap (λ words. command_by (before (sorted_of c.loop-word.sorted) (walked c.loop-word.place (bytes_of_words words)))) (drop_of_length-le c.args.words.now c.loop-word-test.false)
    ∙ ap (λ (place : Place). command_by (before (sorted_of c.loop-word.sorted) (walked place []))) c.in-Behind.is
    ∙ none-lacking (before (sorted_of c.loop-word.sorted) (walked (Behind c.in-Behind.field-0) [])) refl
