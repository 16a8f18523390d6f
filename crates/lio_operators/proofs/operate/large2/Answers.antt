-- What is made of the text or of the label is what the operator gives.
use Rattle.std.proofs.Common.{List, ℕ, subst}
use Rattle.lio_operators.specs.Answers.{Answers}
use Rattle.lio_operators.specs.Operators.{bare, operate2, text_and, label_and}
use Rattle.lio_operators.proofs.operate.large2.Goals as goal

pub returns-in-Bytes : goal.returns-in-Bytes
unfolding operate2
returns-in-Bytes c =
    let P : List ℕ → Type 0 = λ text. Answers (bare (text_and c.args.longest c.args.op text c.args.b.now)) c.bare.result in
    rw c.in-Bytes.is (subst P c.bytes.ensures (c.bare.ensures (text_and c.args.longest c.args.op c.bytes.result.now c.args.b.now) c.large_of_text.ensures))

pub returns-in-Lab : goal.returns-in-Lab
unfolding operate2
returns-in-Lab c =
    rw c.in-Lab.is (c.bare-in-Lab.ensures (label_and c.args.op c.in-Lab.a c.args.b.now) c.large_of_label.ensures)
