use Rattle.std.proofs.Common.{◌≡◌, Bool, cond, IfOk, subst}
use Rattle.lio_values.specs.declared.value.Content.TheVariants.{Hidden}
use Rattle.lio_values.specs.Erasure.{erase_content}
use Rattle.lio_values.proofs.erase.Held+Content.erase.Goals as goal

pub returns-then-flows : goal.returns-then-flows
unfolding erase_content
returns-then-flows c =
    let P : Bool → Type 0 = λ flows. IfOk c.copy.result (λ content. content ≡ cond flows c.args.self.now Hidden) in
    subst P c.if-flows.ensures.test c.copy.ensures

pub returns-else-flows : goal.returns-else-flows
unfolding erase_content
returns-else-flows c =
    let P : Bool → Type 0 = λ flows. IfOk c.new.result (λ content. content ≡ cond flows c.args.self.now Hidden) in
    subst P c.if-flows.ensures.test c.new.ensures
