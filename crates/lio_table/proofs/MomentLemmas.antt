-- What the rule tells at any moment, and a look at word 0.
use Rattle.std.proofs.Common.{◌≡◌, ◌⊎◌, inl, inr, ◌∙◌, refl, sym, ap, subst, arith, ℕ, ◌<◌, ◌≤◌, List, [], length, set, Option, Some, None, lt_of_not-le}
use Rattle.std.proofs.lemmas.List.{set-get_or}
use mathlib.Core.Option.{none, some, some-injective, some-ne-none}
use native.Mathlib.Decide.{dec_le}
use lib.ListN.{get_elem?}
use Rattle.atomic_table.specs.Table.{keeps}
use Rattle.atomic_table.proofs.Lists.{set_again}
use Rattle.lio_values.specs.declared.entry.Entry.{Entry}
use Rattle.lio_calculus.specs.Step.{Configuration}
use Rattle.lio_calculus.specs.Logs.{Logs, folded}
use Rattle.lio_calculus.specs.Journals.{IsLogged, of_cell}
use Rattle.lio_calculus.specs.LogLaws.{IsRunOfLogs}
use Rattle.lio_calculus.proofs.JournalLemmas.{parts-merged}
use Rattle.lio_task.specs.declared.config.Holder.{Holder}
use Rattle.lio_table.specs.declared.view.Beginning.{Beginning}
use Rattle.lio_table.specs.declared.view.View.{View}
use Rattle.lio_table.specs.Views.{StandIn, configuration_from, rights}
use Rattle.lio_table.specs.Rule.{IsAt, Keeps, KeepsWith, TableState}
use Rattle.lio_table.specs.Logs.{AreLogsOf, HaveRunSoFar, SeatHasLog, SlotHasLog}
use Rattle.lio_table.specs.Laws.{LogsAreLogged, LooksUnder}
use Rattle.lio_table.proofs.Lists.{sum-has}
use Rattle.lio_table.proofs.Standing.{size-from, stand}
use Rattle.lio_table.proofs.Turns.{turns-logged, turns-run}

-- a look leaves the journal as it was, and so the rule is kept
pub look-leaves : (first : Beginning) (journal : List Entry) → LooksUnder (KeepsWith first journal)
look-leaves first journal slots id me s (kept, same) sized is small = (
  me.0,
  keeps,
  tt,
  subst (λ words. KeepsWith first journal (record { words = words; homes = s.homes; views = set s.views id me.0 })) (sym (set-get_or s.words 0 0))
      (subst (λ views. KeepsWith first journal (record { words = s.words; homes = s.homes; views = views })) (sym (set_again s.views id me.0 is)) (kept, same)),
  (refl, (let has = sum-has rights s.views id me.0 is in let all = kept.tickets.all in omega (arith, has, all))),
)

pub look-kept : (first : Beginning) → LooksUnder (Keeps first)
look-kept first slots id me s kept sized is small =
    let owes = look-leaves first kept.journal slots id me s (kept, refl) sized is small in (owes.0, owes.1, owes.2, owes.3.0, owes.4)

module _ (first : Beginning) (s : TableState) (kept : Keeps first s) where
  -- a node beyond the last shows nothing
  beyond : (n : ℕ) → length s.homes ≤ n → of_cell n kept.journal ≡ []
  beyond n past = kept.turns.inside n (subst (λ l. l ≤ n) (kept.owners.slots ∙ sym (size-from first)) past)

  within : (n : ℕ) → n < length s.homes → n < length first.holders
  within n inside = subst (λ l. n < l) kept.owners.slots inside

  -- the parts of the journal stand in slots and views
  part-of : (n : ℕ) (place : Option ℕ) → IsAt first kept.journal s n place → SlotHasLog s n (of_cell n kept.journal) ⊎ SeatHasLog s n (of_cell n kept.journal)
  part-of n None home = inl (record { holder = home.holder; slot = home.slot; is = sym home.has_log.log })
  part-of n (Some seat) there =
      let node = there.holds.node in
      let by = kept.owners.seats seat there.view there.is_view node there.holds.has in
      inr (record {
        seat = seat;
        view = there.view;
        is_view = there.is_view;
        node = node;
        holds = there.holds.has;
        number = there.holds.number;
        is = ap (λ m. of_cell m kept.journal) (sym there.holds.number) ∙ sym by.log;
      })

  parts-stand : AreLogsOf s (λ n. of_cell n kept.journal)
  parts-stand = record { each = λ n inside. part-of n (kept.owners.owner n) (kept.owners.nodes n (within n inside)); no_other = beyond }

  -- and they alone do
  slot-part : (n : ℕ) (log : List Entry) (place : Option ℕ) → IsAt first kept.journal s n place → SlotHasLog s n log → log ≡ of_cell n kept.journal
  slot-part n log None home has =
      let same : has.holder ≡ home.holder = held (sym has.slot ∙ home.slot) in
      has.is ∙ ap (λ (h : Holder). h.node.log) same ∙ home.has_log.log
    where
      inner : {one other : Holder} → Some one ≡ Some other → one ≡ other
      inner e = cc

      held : {one other : Holder} → some (some (Some one)) ≡ some (some (Some other)) → one ≡ other
      held {one} {other} e = inner (some-injective (Some one) (Some other) (some-injective (some (Some one)) (some (Some other)) e))
  slot-part n log (Some seat) there has = absurd (some-ne-none (Some has.holder) (some-injective (some (Some has.holder)) none (sym has.slot ∙ there.slot)))

  seat-part : (n : ℕ) (log : List Entry) → SeatHasLog s n log → log ≡ of_cell n kept.journal
  seat-part n log has =
      let by = kept.owners.seats has.seat has.view has.is_view has.node has.holds in
      has.is ∙ by.log ∙ ap (λ m. of_cell m kept.journal) has.number

  module _ (logs : Logs) (are : AreLogsOf s logs) where
    parts : (n : ℕ) → logs n ≡ of_cell n kept.journal
    parts n = by (dec_le (length s.homes) n)
      where
        inside : n < length s.homes → SlotHasLog s n (logs n) ⊎ SeatHasLog s n (logs n) → logs n ≡ of_cell n kept.journal
        inside there (inl has) = slot-part n (logs n) (kept.owners.owner n) (kept.owners.nodes n (within n there)) has
        inside there (inr has) = seat-part n (logs n) has

        by : Dec (length s.homes ≤ n) → logs n ≡ of_cell n kept.journal
        by (yes past) = are.no_other n past ∙ sym (beyond n past)
        by (no before) = let there = lt_of_not-le before in inside there (are.each n there)

    logs-are : logs ≡ (λ n. of_cell n kept.journal)
    logs-are = λ i n. parts n i

    run-so-far : HaveRunSoFar first s kept.journal logs
    run-so-far = record {
      logged = subst (λ (t : Logs × ℕ). IsLogged (configuration_from first) t.0 t.1) (λ i. (sym logs-are i, sym kept.tickets.next i)) (turns-logged (configuration_from first) kept.journal kept.turns);
      merged = parts-merged logs kept.journal parts kept.turns.numbered;
      run = subst (λ (l : Logs). IsRunOfLogs (configuration_from first) l kept.journal) (sym logs-are) (turns-run (configuration_from first) kept.journal kept.turns);
    }

pub logs-logged : LogsAreLogged
logs-logged first s kept = (((λ n. of_cell n kept.journal), parts-stand first s kept), run-so-far first s kept)

pub nodes-stand : (first : Beginning) (s : TableState) (id : ℕ) (view : View) → Keeps first s → get_elem? s.views id ≡ some view → 0 < rights view → (c : Configuration) × StandIn view c
nodes-stand first s id view kept is some_of = (folded (configuration_from first) (λ n. of_cell n kept.journal), stand first s kept id view is ((kept.tickets.seats id view is).knows some_of))
