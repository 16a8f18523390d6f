use Rattle.std.proofs.Common.{◌≡◌, ◌∙◌, ap, sym, arith, true, false, List, ℕ, [], ◌∷◌, ◌++◌, ◌-◌, drop}
use Rattle.std.proofs.lemmas.List.Elements.{All-append}
use Rattle.std.proofs.lemmas.Result.{IfOk-weaker}
use Rattle.lio_values.specs.declared.value.Plain.{Plain}
use Rattle.lio_values.specs.declared.value.Value.{Value}
use Rattle.lio_values.specs.declared.value.Value.TheVariants.{Bare}
use Rattle.lio_values.specs.PlainText.{plain_text}
use Rattle.lio_values.specs.Views.{values_of, values_of-forest_of}
use Rattle.lio_events_reading.specs.declared.start.Start.TheVariants as start
use Rattle.lio_events_reading.specs.Lists.{begins_item}
use Rattle.lio_events_reading.specs.Over.{IsPureWithin}
use Rattle.lio_events_reading.specs.Reading.{Finds}
use Rattle.lio_events_reading.specs.Start.{start_of}
use Rattle.lio_events_reading.proofs.ListLemmas.{IsPureItem, all_left, none_left, one_less, one_is_over, pure_item, finds_pures, pures_over, finds_list, finds_no_list}
use Rattle.lio_events_reading.proofs.plain.+plain.Goals.{plain_within-in_default-via-in-List+else-depth-gt0, plain_within-in_default-via-in_default}
use Rattle.lio_events_reading.proofs.plain.+plain.Goals as goal

pub plain_within-returns-in_ok-pure_items-in-List-clause-finds : goal.plain_within-returns-in_ok-pure_items-in-List-clause-finds
plain_within-returns-in_ok-pure_items-in-List-clause-finds t c =
    let begins : start_of c.args.text.now ≡ start.List = ap start_of (sym c.rest.ensures) ∙ sym c.in-List.ensures in
    finds_list c.args.names.now c.args.depth c.args.text.now c.in_ok-pure_items-in-List.field-0 c.pure_items.new.text begins c.in_ok-pure_items-in-List.ensures.finds

pub plain_within-returns-in_default-clause-finds : goal.plain_within-returns-in_default-clause-finds
plain_within-returns-in_default-clause-finds t c =
    let none : start_of c.args.text.now ≡ start.List → c.args.depth ≡ 0 =
    elim c.in_default.branch [
      | plain_within-in_default-via-in-List+else-depth-gt0 w ↦ λ begins. omega (arith, w.if-depth-gt0.false)
      | plain_within-in_default-via-in_default w ↦ λ begins. absurd (w.in_default.not-List (c.start_of.ensures ∙ ap start_of c.rest.ensures ∙ begins))
    ] in
    IfOk-weaker c.single.result _ (λ (found : Plain). Finds (plain_text c.args.names.now) (IsPureWithin c.args.names.now c.args.depth) c.args.text.now found c.single.new.text)
    (λ found finds. finds_no_list c.args.names.now c.args.depth c.args.text.now found c.single.new.text none finds) c.single.ensures.finds

pub pure_items-items-init : goal.pure_items-items-init
pure_items-items-init t c =
    rw c.new-items.ensures (λ all rest o is. all_left c.args.names.now (IsPureItem c.args.names.now (c.args.depth - 1)) c.args.text.now all rest o is, λ k d within. absurd (omega (arith, within)), omega arith)

pub pure_items-items-preserved : goal.pure_items-items-preserved
pure_items-items-preserved t c =
    let over : Value → Type 0 = IsPureItem c.args.names.now (c.args.depth - 1) in
    let found : List Value = values_of c.items.items in
    let begins : begins_item c.items.text ≡ true = sym (c.begins_item.ensures ∙ ap begins_item c.rest.ensures) ∙ c.items-test.true in
    let behind : c.skip.new.self ≡ drop c.sign_len.result c.items.text = c.skip.ensures.left in
    let pushed : values_of c.push.new.self ≡ found ++ Bare c.in_ok-item.item ∷ [] = ap values_of c.in_ok-push.ensures.ok ∙ values_of-forest_of (found ++ Bare c.in_ok-item.item ∷ []) in
    rw pushed (
      λ all rest o is. one_less c.args.names.now over found c.items.text c.skip.new.self (Bare c.in_ok-item.item) c.plain_within.new.text all rest begins
          (behind ∙ ap (λ (n : ℕ). drop n c.items.text) c.sign_len.ensures.len)
          (pure_item c.args.names.now (c.args.depth - 1) c.skip.new.self c.in_ok-item.item c.plain_within.new.text c.in_ok-item.ensures.finds) (c.items.invariant.0 all rest o is),
      All-append over found _ c.items.invariant.1 (one_is_over over (Bare c.in_ok-item.item) c.in_ok-item.ensures.over),
      omega (arith, c.in_ok-item.ensures.shorter, c.skip.ensures.shorter, c.items.invariant.2),
    )

pub pure_items-returns-clause-finds : goal.pure_items-returns-clause-finds
pure_items-returns-clause-finds t c =
    let over : Value → Type 0 = IsPureItem c.args.names.now (c.args.depth - 1) in
    let begins : begins_item c.items.text ≡ false = sym (c.begins_item.ensures ∙ ap begins_item c.rest.ensures) ∙ c.items-test.false in
    let behind : c.skip-2.new.self ≡ drop (3 - c.sign_len-2.result) c.items.text = c.skip-2.ensures.left in
    finds_pures c.args.names.now c.args.depth c.args.text.now c.items.items c.skip-2.new.self c.requires.some
    (λ all rest o is. none_left c.args.names.now over (λ value o. o.0.1) (values_of c.items.items) c.items.text c.skip-2.new.self all rest begins
    (behind ∙ ap (λ (n : ℕ). drop (3 - n) c.items.text) c.sign_len-2.ensures.len) (c.items.invariant.0 all rest o is))

pub pure_items-returns-clause-over : goal.pure_items-returns-clause-over
pure_items-returns-clause-over t c = pures_over c.args.names.now c.args.depth c.items.items c.requires.some c.requires.few c.items.invariant.1
