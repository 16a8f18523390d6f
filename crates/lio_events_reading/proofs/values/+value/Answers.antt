use Rattle.std.proofs.Common.{◌≡◌, ◌∙◌, ap, sym, arith, true, false, List, ℕ, [], ◌∷◌, ◌++◌, ◌-◌, drop}
use Rattle.std.proofs.lemmas.List.Elements.{All-append}
use Rattle.std.proofs.lemmas.Result.{IfOk-weaker}
use Rattle.lio_values.specs.declared.value.Value.{Value}
use Rattle.lio_values.specs.ValueText.{value_text}
use Rattle.lio_values.specs.Views.{values_of, values_of-forest_of}
use Rattle.lio_events_reading.specs.declared.start.Start.TheVariants as start
use Rattle.lio_events_reading.specs.Lists.{begins_item}
use Rattle.lio_events_reading.specs.Over.{IsValueWithin}
use Rattle.lio_events_reading.specs.Reading.{Finds}
use Rattle.lio_events_reading.specs.Start.{start_of}
use Rattle.lio_events_reading.proofs.ListLemmas.{all_left, none_left, one_less, one_is_over, finds_values, values_over, finds_list_value, finds_sealed_within, sealed_within}
use Rattle.lio_events_reading.proofs.values.+value.Goals as goal

pub value_within-returns-in_ok-items-in-List-clause-finds : goal.value_within-returns-in_ok-items-in-List-clause-finds
value_within-returns-in_ok-items-in-List-clause-finds t c =
    let begins : start_of c.args.text.now ≡ start.List = ap start_of (sym c.rest.ensures) ∙ sym c.in-List.ensures in
    finds_list_value c.args.names.now c.args.depth c.args.text.now c.in_ok-items-in-List.field-0 c.items.new.text begins c.in_ok-items-in-List.ensures.finds

pub value_within-returns-in-Sealed-clause-finds : goal.value_within-returns-in-Sealed-clause-finds
value_within-returns-in-Sealed-clause-finds t c =
    let begins : start_of c.args.text.now ≡ start.Sealed = ap start_of (sym c.rest.ensures) ∙ sym c.in-Sealed.ensures in
    IfOk-weaker c.sealed.result _ (λ (found : Value). Finds (value_text c.args.names.now) (IsValueWithin c.args.names.now c.args.depth) c.args.text.now found c.sealed.new.text)
    (λ found finds. finds_sealed_within c.args.names.now c.args.depth c.args.text.now found c.sealed.new.text begins finds) c.sealed.ensures.finds

pub value_within-returns-in-Sealed-clause-over : goal.value_within-returns-in-Sealed-clause-over
value_within-returns-in-Sealed-clause-over t c =
    IfOk-weaker c.sealed.result _ (IsValueWithin c.args.names.now c.args.depth) (λ found over. sealed_within c.args.names.now c.args.depth found over) c.sealed.ensures.over

pub items-items-init : goal.items-items-init
items-items-init t c =
    rw c.new-items.ensures (λ all rest o is. all_left c.args.names.now (IsValueWithin c.args.names.now (c.args.depth - 1)) c.args.text.now all rest o is, λ k d within. absurd (omega (arith, within)), omega arith)

pub items-items-preserved : goal.items-items-preserved
items-items-preserved t c =
    let over : Value → Type 0 = IsValueWithin c.args.names.now (c.args.depth - 1) in
    let found : List Value = values_of c.items.items in
    let begins : begins_item c.items.text ≡ true = sym (c.begins_item.ensures ∙ ap begins_item c.rest.ensures) ∙ c.items-test.true in
    let behind : c.skip.new.self ≡ drop c.sign_len.result c.items.text = c.skip.ensures.left in
    let pushed : values_of c.push.new.self ≡ found ++ c.in_ok-value_within.field-0 ∷ [] = ap values_of c.in_ok-push.ensures.ok ∙ values_of-forest_of (found ++ c.in_ok-value_within.field-0 ∷ []) in
    rw pushed (
      λ all rest o is. one_less c.args.names.now over found c.items.text c.skip.new.self c.in_ok-value_within.field-0 c.value_within.new.text all rest begins
          (behind ∙ ap (λ (n : ℕ). drop n c.items.text) c.sign_len.ensures.len) c.in_ok-value_within.ensures.finds (c.items.invariant.0 all rest o is),
      All-append over found _ c.items.invariant.1 (one_is_over over c.in_ok-value_within.field-0 c.in_ok-value_within.ensures.over),
      omega (arith, c.in_ok-value_within.ensures.shorter, c.skip.ensures.shorter, c.items.invariant.2),
    )

pub items-returns-clause-finds : goal.items-returns-clause-finds
items-returns-clause-finds t c =
    let over : Value → Type 0 = IsValueWithin c.args.names.now (c.args.depth - 1) in
    let begins : begins_item c.items.text ≡ false = sym (c.begins_item.ensures ∙ ap begins_item c.rest.ensures) ∙ c.items-test.false in
    let behind : c.skip-2.new.self ≡ drop (3 - c.sign_len-2.result) c.items.text = c.skip-2.ensures.left in
    finds_values c.args.names.now c.args.depth c.args.text.now c.items.items c.skip-2.new.self c.requires.some
    (λ all rest o is. none_left c.args.names.now over (λ value o. o.0.1) (values_of c.items.items) c.items.text c.skip-2.new.self all rest begins
    (behind ∙ ap (λ (n : ℕ). drop (3 - n) c.items.text) c.sign_len-2.ensures.len) (c.items.invariant.0 all rest o is))

pub items-returns-clause-over : goal.items-returns-clause-over
items-returns-clause-over t c = values_over c.args.names.now c.args.depth c.items.items c.requires.some c.requires.few c.items.invariant.1
