use Rattle.std.proofs.Common.{take, ℤ, subst, w64}
use Rattle.std.proofs.lemmas.Int.{to_z-of_z}
use Rattle.lio_operators.specs.Answers.{Answers}
use Rattle.lio_operators.specs.Texts.{made, place_at}
use Rattle.lio_operators.proofs.texts.on_text_at.Goals as goal

pub returns-in-Upto : goal.returns-in-Upto
returns-in-Upto c =
    rw c.in-Upto.is
    (subst (λ (at : ℤ). Answers (made c.args.longest (take (place_at at) c.args.text.now)) c.bytes_upto.result)
    (to_z-of_z w64 c.args.at c.ranges.at) c.bytes_upto.ensures)
