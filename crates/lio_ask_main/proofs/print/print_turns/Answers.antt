use Rattle.std.proofs.Common.{◌≡◌, ◌∙◌, ap, subst, arith, ◌<◌, ◌≤◌, List, length, get_or}
use Rattle.std.proofs.lemmas.List.{take_all}
use Rattle.lio_values.specs.declared.entry.Entry.{Entry}
use Rattle.lio_ask_main.specs.Turns.{turn_lines}
use Rattle.lio_ask_main.proofs.TurnLemmas.{lines-next}
use Rattle.lio_ask_main.proofs.print.print_turns.Goals as goal

pub bounds-numbers-place : goal.bounds-numbers-place
bounds-numbers-place c = omega (arith, c.loop-place-test.true, c.requires, ap (λ (es : List Entry). length es) c.entries-entries.ensures.entries)

pub loop-place-preserved : goal.loop-place-preserved
loop-place-preserved c =
    let entries = c.args.journal.now in
    let numbers = c.args.numbers.now in
    let i = c.loop-place.place in
    let entry : Entry = c.index-entries-place.result in
    let items_are : c.entries-entries.result.now ≡ entries = c.entries-entries.ensures.entries in
    let below : i < length entries = subst (λ (xs : List Entry). i < length xs) items_are c.loop-place-test.true in
    let at : entry ≡ get_or entries i entry = subst (λ (xs : List Entry). entry ≡ get_or xs i entry) items_are c.index-entries-place.is in
    lines-next numbers entries i entry c.loop-place.out.items c.print_turn.new.out.items below at c.loop-place.invariant c.in_ok-print_turn.ensures

pub returns : goal.returns
returns c =
    c.loop-place.invariant
    ∙ ap (turn_lines c.args.numbers.now 0) (take_all c.loop-place.place c.args.journal.now (subst (λ (es : List Entry). length es ≤ c.loop-place.place) c.entries-entries.ensures.entries c.loop-place-test.false))
