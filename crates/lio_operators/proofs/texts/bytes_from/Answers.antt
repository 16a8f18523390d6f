-- The bytes from the place in the text on are those from the place on.
use Rattle.std.proofs.Common.{◌∙◌, ℕ, List, drop, ap, subst, w64}
use Rattle.std.proofs.lemmas.Int.{to_z-of_z}
use Rattle.std.proofs.lemmas.List.{take_rest, drop_min}
use Rattle.lio_operators.specs.Answers.{Answers}
use Rattle.lio_operators.specs.Texts.{made, place_at}
use Rattle.lio_operators.proofs.texts.bytes_from.Goals as goal

pub returns : goal.returns
returns c =
    let text = c.args.text.now in
    let place = rw (to_z-of_z w64 c.args.at c.ranges.at) at c.place_in-place.ensures in
    subst (λ (bytes : List ℕ). Answers (made c.args.longest bytes) c.made.result)
    (take_rest text c.place_in-place.result ∙ ap (λ n. drop n text) place ∙ drop_min (place_at c.args.at) text) c.made.ensures
