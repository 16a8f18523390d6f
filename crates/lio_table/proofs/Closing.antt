-- A table that is closed by the seat with all tickets has run from where it began.
use Rattle.std.proofs.Common.{◌≡◌, ◌∙◌, refl, sym, ap, subst, arith, ℕ, ◌+◌, ◌^◌, ◌<◌, ◌≤◌, List, [], ◌∷◌, length, map, Contains, count_by, Option, Some, None, lt_of_not-le}
use Rattle.std.proofs.lemmas.List.{ext_get_or, get_or-map, get_or_past, length-map}
use mathlib.Core.Logic.{dite}
use mathlib.Core.Option.{some}
use native.Mathlib.Decide.{dec_le, ℕ_discrete}
use lib.ListN.{get_elem?}
use Rattle.atomic_table.specs.Table.{Final, Seen}
use Rattle.lio_values.specs.declared.entry.Entry.{Entry}
use Rattle.lio_calculus.specs.Run.{Ran}
use Rattle.lio_calculus.specs.Sound.{IsSound}
use Rattle.lio_calculus.specs.Step.{Configuration, blank, cell_at}
use Rattle.lio_calculus.specs.Logs.{folded}
use Rattle.lio_calculus.specs.Journals.{ArePartsOf, HaveSameEntries, of_cell}
use Rattle.lio_calculus.proofs.JournalLemmas.{parts-mergeable, parts-merged}
use Rattle.lio_task.specs.declared.config.Holder.{Holder}
use Rattle.lio_task.specs.Logs.{logs_of}
use Rattle.lio_table.specs.declared.view.Beginning.{Beginning}
use Rattle.lio_table.specs.declared.view.Claimed.{Claimed}
use Rattle.lio_table.specs.declared.view.View.{View}
use Rattle.lio_table.specs.Views.{HasLog, configuration_from, rights}
use Rattle.lio_table.specs.Rule.{IsAt, Keeps, TableState}
use Rattle.lio_table.specs.Ends.{HasRun, logs_in}
use Rattle.lio_table.specs.Laws.{ClosedTableHasRun}
use Rattle.lio_table.proofs.Lists.{all-there, at-one, sum-sole, there}
use Rattle.lio_table.proofs.Opening.{at-or, cell-from}
use Rattle.lio_table.proofs.Standing.{program-from, size-from}
use Rattle.lio_table.proofs.Tickets.{alone, drawn-by}
use Rattle.lio_table.proofs.Turns.{folded-cell, folded-program, folded-size, turns-run}

module _ (first : Beginning) (id : ℕ) (view : View) (s : TableState) (kept : Keeps first s) (is : get_elem? s.views id ≡ some view) (mine : rights view ≡ 2 ^ 62) (bare : view.claimed ≡ []) where
  nothing : (node : Claimed) → Contains [] node → ⊥
  nothing node (k, within, at) = absurd (omega arith)

  -- no seat holds a node
  nobody : (seat : ℕ) (other : View) → get_elem? s.views seat ≡ some other → other.claimed ≡ []
  nobody seat other at = dite (ℕ_discrete seat id)
      (λ same. subst (λ (v : View). v.claimed ≡ []) (sym (at-one s.views id other view (subst (λ j. get_elem? s.views j ≡ some other) same at) is)) bare)
      (λ apart. (kept.tickets.seats seat other at).spent (alone first kept.journal s kept.tickets id view is mine seat other apart at))

  -- so each node is at home
  at-home : (n : ℕ) (place : Option ℕ) → IsAt first kept.journal s n place → (holder : Holder) × (get_elem? s.homes n ≡ some (some (Some holder))) × HasLog first n (of_cell n kept.journal) holder
  at-home n None home = (home.holder, home.slot, home.has_log)
  at-home n (Some seat) there = absurd (nothing there.holds.node (subst (λ nodes. Contains nodes there.holds.node) (nobody seat there.view there.is_view) there.holds.has))

  -- and the entries for whose tickets the seat has drawn are all
  all-drawn : HaveSameEntries view.drawn kept.journal
  all-drawn p = sym (sum-sole (drawn-by p) s.views id view is (λ seat other apart at. none other.left other.drawn (alone first kept.journal s kept.tickets id view is mine seat other apart at))) ∙ kept.tickets.drawn p
    where
      none : (left : ℕ) (drawn : List Entry) → length drawn + left ≡ 0 → count_by p drawn ≡ 0
      none left [] is_zero = refl
      none left (entry ∷ drawn) is_zero = absurd (omega (arith, is_zero))

  module _ (holders : List Holder) (many : length holders ≡ length first.holders) (each : (n : ℕ) (holder : Holder) → get_elem? holders n ≡ some holder → HasLog first n (of_cell n kept.journal) holder) where
    abbrev c : Configuration
    c = configuration_from first

    abbrev last : Beginning
    last = record first { holders = holders }

    -- their logs are the parts of the journal
    logs-are : ArePartsOf kept.journal (logs_in holders)
    logs-are n = by (dec_le (length holders) n)
      where
        by : Dec (length holders ≤ n) → logs_in holders n ≡ of_cell n kept.journal
        by (yes beyond) =
            get_or_past (logs_of holders) n [] (subst (λ l. l ≤ n) (sym (length-map holders (λ (h : Holder). h.node.log))) beyond)
            ∙ sym (kept.turns.inside n (subst (λ l. l ≤ n) (many ∙ sym (size-from first)) beyond))
        by (no within) = let inside = lt_of_not-le within in let found = there holders n inside in
            get_or-map (λ (h : Holder). h.node.log) holders n found.0 [] inside ∙ ap (λ (h : Holder). h.node.log) (at-or holders n found.0 found.0 found.1) ∙ (each n found.0 found.1).log

    -- they stand for what their logs make of the first cells
    cells-are : (n : ℕ) → n < length (folded c (λ m. of_cell m kept.journal)).cells → cell_at (folded c (λ m. of_cell m kept.journal)) n ≡ cell_at (configuration_from last) n
    cells-are n within =
        let in_first : n < length c.cells = subst (λ l. n < l) (folded-size c kept.journal kept.turns) within in
        let inside : n < length holders = subst (λ l. n < l) (size-from first ∙ sym many) in_first in
        let found = there holders n inside in
        folded-cell c kept.journal kept.turns n in_first ∙ sym (each n found.0 found.1).cell ∙ sym (cell-from last n found.0 inside found.1)

    last-is : folded c (λ m. of_cell m kept.journal) ≡ configuration_from last
    last-is =
        let cells : (folded c (λ m. of_cell m kept.journal)).cells ≡ (configuration_from last).cells =
        ext_get_or blank _ _ (folded-size c kept.journal kept.turns ∙ size-from first ∙ sym many ∙ sym (size-from last)) cells-are in
        let program : (folded c (λ m. of_cell m kept.journal)).program ≡ (configuration_from last).program = folded-program c kept.journal kept.turns ∙ program-from first ∙ sym (program-from last) in
        λ i. record { program = program i; cells = cells i }

    pub has-run : (ran : HasRun first view holders) × (ran.journal ≡ kept.journal)
    has-run =
        let ran = turns-run c kept.journal kept.turns in (
          record {
            journal = kept.journal;
            parts = logs-are;
            mergeable = parts-mergeable (logs_in holders) kept.journal logs-are kept.turns.numbered;
            merged = parts-merged (logs_in holders) kept.journal logs-are kept.turns.numbered;
            numbered = kept.turns.numbered;
            run = ran.is_run ∙ ap (λ (d : Configuration). let r : Ran = record { entries = kept.journal; last = d } in Some r) last-is;
            sound = subst IsSound last-is ran.sound;
            drawn = all-drawn;
          },
          refl,
        )

-- the journal of the rule is what has run
pub closed-with : ClosedTableHasRun
closed-with first journal id view words slots (s, ((kept, same), is), same_words, size, values) mine bare =
    let all = all-there (λ n holder. HasLog first n (of_cell n kept.journal) holder) slots each in
    let many : length all.items ≡ length first.holders = sym (length-map all.items Some) ∙ sym (ap (λ (xs : List (Option Holder)). length xs) all.full) ∙ sym size ∙ kept.owners.slots in
    let run = has-run first id view s kept is mine bare all.items many all.each in (all.items, all.full, (run.0, run.1 ∙ same))
  where
    each : (n : ℕ) → n < length slots → (holder : Holder) × (get_elem? slots n ≡ some (Some holder)) × HasLog first n (of_cell n kept.journal) holder
    each n within =
        let inside : n < length first.holders = subst (λ l. n < l) (sym size ∙ kept.owners.slots) within in
        let home = at-home first id view s kept is mine bare n (kept.owners.owner n) (kept.owners.nodes n inside) in
        (home.0, values n (Some home.0) home.1, home.2)

pub closed-run : (first : Beginning) (id : ℕ) (view : View) (words : List ℕ) (slots : List (Option Holder)) → Final (Seen (Keeps first) id view) words slots → rights view ≡ 2 ^ 62 → view.claimed ≡ []
    → (holders : List Holder) × (slots ≡ map Some holders) × HasRun first view holders
closed-run first id view words slots (s, (kept, is), same_words, size, values) mine bare =
    let ran = closed-with first kept.journal id view words slots (s, ((kept, refl), is), same_words, size, values) mine bare in (ran.0, ran.1, ran.2.0)
