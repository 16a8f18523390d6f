use Rattle.std.proofs.Common.{◌≡◌, ◌<◌, true, length, get_or, sym, ◌∙◌, ap, ap, arith, rules}
use mathlib.Core.Bool.{true≢false}
use Rattle.lio_values.specs.declared.value.Value.{Value}
use Rattle.lio_values.specs.contracts.value.ValuePartialEq.TheImpl as of_values
use Rattle.lio_values.proofs.ItemsLemmas.{alike, unlike, item-height, at-place, taken, smaller, one-more}
use Rattle.lio_values.proofs.EqualityLemmas.{values}
use Rattle.lio_values.proofs.+value.Goals as goal

pub items::ItemsPartialEq::eq-returns-then-values-others : goal.items::ItemsPartialEq::eq-returns-then-values-others
items::ItemsPartialEq::eq-returns-then-values-others t c =
    unlike _ _ _ _ c.self.view_is c.other.view_is
    (λ same. c.if-values-others.true (ap length (c.as_slice-values.ensures ∙ same ∙ sym c.as_slice-others.ensures)))

pub items::ItemsPartialEq::eq-eq-same-requires : goal.items::ItemsPartialEq::eq-eq-same-requires
items::ItemsPartialEq::eq-eq-same-requires t c =
    let first = item-height _ _ _ c.loop-place.place c.index-values-place.result c.as_slice-values.ensures c.self.view_is c.loop-place-test.true c.index-values-place.is in
    let within : c.loop-place.place < length c.as_slice-others.result.now = omega (arith, c.loop-place-test.true, c.if-values-others.false) in
    let second = item-height _ _ _ c.loop-place.place c.index-others-place.result c.as_slice-others.ensures c.other.view_is within c.index-others-place.is in
    (omega (arith, c.decreases, first, second), tt)

pub items::ItemsPartialEq::eq-returns-then-not-same : goal.items::ItemsPartialEq::eq-returns-then-not-same
items::ItemsPartialEq::eq-returns-then-not-same t c =
    unlike _ _ _ _ c.self.view_is c.other.view_is
    (λ same.
    let slices : c.as_slice-values.result.now ≡ c.as_slice-others.result.now = c.as_slice-values.ensures ∙ same ∙ sym c.as_slice-others.ensures in
    let alike : c.index-values-place.result ≡ c.index-others-place.result =
    at-place _ c.loop-place.place _ _ c.loop-place-test.true c.index-values-place.is
    (c.index-others-place.is ∙ ap (λ xs. get_or xs c.loop-place.place c.index-others-place.result) (sym slices)) in
    true≢false (sym (values.itself c.index-others-place.result) ∙ ap (λ v. (of_values.ghosts).eq v c.index-others-place.result) (sym alike) ∙ sym c.eq-same.ensures ∙ c.if-not-same.true))

pub value::PlainPartialEq::eq-eq-requires-in-Items-other : goal.value::PlainPartialEq::eq-eq-requires-in-Items-other
value::PlainPartialEq::eq-eq-requires-in-Items-other t c = search (smaller, rules)

pub items::ItemsPartialEq::eq-returns : goal.items::ItemsPartialEq::eq-returns
items::ItemsPartialEq::eq-returns t c =
    alike _ _ _ _ c.self.view_is c.other.view_is
    (sym c.as_slice-values.ensures ∙ taken _ _ c.loop-place.place c.loop-place.invariant c.loop-place-test.false c.if-values-others.false ∙ c.as_slice-others.ensures)

pub items::ItemsPartialEq::eq-loop-place-preserved : goal.items::ItemsPartialEq::eq-loop-place-preserved
items::ItemsPartialEq::eq-loop-place-preserved t c =
    let v : Value = c.index-values-place.result in
    let w : Value = c.index-others-place.result in
    let test : (of_values.ghosts).eq v w ≡ true = sym c.eq-same.ensures ∙ c.if-not-same.false in
    one-more c.as_slice-values.result.now c.as_slice-others.result.now c.loop-place.place v w c.loop-place.invariant c.loop-place-test.true c.if-values-others.false
    c.index-values-place.is c.index-others-place.is (values.same v w test)
