use Rattle.std.proofs.Common.{◌≡◌, List, map, IfOk, ◌∙◌, ap, subst}
use Rattle.lio_labels.specs.declared.label.Label.{Label}
use Rattle.lio_values.specs.declared.value.Value.{Value}
use Rattle.lio_values.specs.declared.act.Birth.{Birth}
use Rattle.lio_values.specs.Erasure.{erase_value, erase_birth}
use Rattle.lio_values.proofs.erase.Held+Birth.erase.Goals as goal

made : (observer : Label) (b birth : Birth) (args : List Value) (result clearance : Label) → args ≡ map (erase_value observer) b.args
    → result ≡ b.result → clearance ≡ b.clearance → b ≡ birth
    → ◌≡◌ {A = Birth} (record b { args = args; result = result; clearance = clearance }) (erase_birth observer birth)
made observer b birth args result clearance a r k e = (λ i. record b { args = a i; result = r i; clearance = k i }) ∙ ap (erase_birth observer) e

pub returns : goal.returns
returns c =
    let P : Birth → Type 0 = λ v. IfOk c.new.result (λ birth. birth ≡ v) in
    subst P
    (made c.args.observer.now c.get-birth.result.now c.args.self.now c.in_ok-args.args c.in_ok-result.result c.in_ok-clearance.clearance
    c.in_ok-args.ensures c.in_ok-result.ensures.ok c.in_ok-clearance.ensures.ok c.get-birth.ensures)
    c.new.ensures
