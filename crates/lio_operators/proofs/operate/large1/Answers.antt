-- What is made of the plain value, or the label of a sealed one, is what the operator gives.
use Rattle.std.proofs.Common.{◌≡◌, Ok, IsTrue, refl}
use Rattle.std.proofs.lemmas.Bool.{false≢true}
use Rattle.lio_labels.specs.declared.label.Label.{Label}
use Rattle.lio_values.specs.declared.value.Plain.TheVariants.{Lab}
use Rattle.lio_syntax_lines.specs.declared.operators.One.{One}
use Rattle.lio_syntax_lines.specs.declared.operators.One.TheVariants.{LabelOf}
use Rattle.lio_operators.specs.Operators.{operate1, on_plain, on_sealed}
use Rattle.lio_operators.specs.Outcomes.{sealed_makes_large}
use Rattle.lio_operators.proofs.operate.large1.Goals as goal

-- an operator on a sealed value makes its label
label_made : (op : One) (label : Label) → IsTrue (sealed_makes_large op) → on_sealed op label ≡ Ok (Lab label)
label_made LabelOf label makes = refl
label_made op label makes = absurd (false≢true makes)

pub returns-in-Bare : goal.returns-in-Bare
unfolding operate1
returns-in-Bare c = rw c.in-Bare.is (c.bare.ensures (on_plain c.args.longest c.args.op c.in-Bare.plain) c.large_of_plain.ensures)

pub returns-in-Sealed : goal.returns-in-Sealed
unfolding operate1
returns-in-Sealed c =
    let made = label_made c.args.op c.in-Sealed.sealed (rw c.in-Sealed.is at c.requires) in
    rw c.in-Sealed.is (c.bare-in-Sealed.ensures (on_sealed c.args.op c.in-Sealed.sealed) (rw made c.label.ensures))
