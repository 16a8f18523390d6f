-- A claim keeps the rule.
use Rattle.std.proofs.Common.{◌≡◌, ◌∙◌, refl, sym, ap, subst, arith, ℕ, ◌+◌, ◌-◌, ◌^◌, ◌<◌, ◌⊎◌, inl, inr, Bool, true, false, eqb, MatchBool, List, [], length, set, slice_index, Contains, Option, Some, None, length-set, get_or-set_same, get_or-set_other, eq-eqb, ne_eqb}
use Rattle.std.proofs.lemmas.List.{set-get_or}
use mathlib.Core.Logic.{dite}
use mathlib.Core.Option.{none, some}
use native.Mathlib.Decide.{ℕ_discrete}
use prog.Atomic.{either}
use lib.ListN.{get_elem?}
use Rattle.atomic_table.specs.Table.{Act, Valid, carried_after, keeps, stepped, takes}
use Rattle.atomic_table.proofs.Lists.{set_else, set_here}
use Rattle.lio_values.specs.declared.entry.Entry.{Entry}
use Rattle.lio_calculus.specs.Logs.{folded}
use Rattle.lio_calculus.specs.Journals.{of_cell}
use Rattle.lio_calculus.proofs.JournalLemmas.{has-cases, has-first, has-later}
use Rattle.lio_task.specs.declared.config.Holder.{Holder}
use Rattle.lio_table.specs.declared.view.Beginning.{Beginning}
use Rattle.lio_table.specs.declared.view.Claimed.{Claimed}
use Rattle.lio_table.specs.declared.view.View.{View}
use Rattle.lio_table.specs.Views.{HasLog, HoldsNode, configuration_from, rights}
use Rattle.lio_table.specs.Rule.{HaveOwners, IsAt, IsAtHome, IsWithSeat, Keeps, KeepsWith, TableState}
use Rattle.lio_table.specs.Laws.{ClaimsUnder}
use Rattle.lio_table.specs.Steps.{FindsTaken, SeatState, TakesNode, with_busy, with_node}
use Rattle.lio_table.proofs.Lists.{at-one, at-set}
use Rattle.lio_table.proofs.Seats.{owners-move, owners-set}
use Rattle.lio_table.proofs.Tickets.{alone, tickets-stay}
use Rattle.lio_table.proofs.Standing.{stand}

module _ (first : Beginning) (slots id n : ℕ) (me : SeatState) (some_of : 0 < rights me.0) (inside : n < slots) (not_held : HoldsNode me.0 n → ⊥) (s : TableState) (kept : Keeps first s)
    (sized : length s.homes ≡ slots) (is : get_elem? s.views id ≡ some me.0) where
  abbrev found : ℕ
  found = slice_index s.words (n + 1)

  within : n < length first.holders
  within = let slots_are = kept.owners.slots in omega (arith, slots_are, sized, inside)

  in-words : n + 1 < length s.words
  in-words = let words_are = kept.owners.words in let there = within in omega (arith, words_are, there)

  in-homes : n < length s.homes
  in-homes = let slots_are = kept.owners.slots in let there = within in omega (arith, slots_are, there)

  knows : me.0.first ≡ first
  knows = (kept.tickets.seats id me.0 is).knows some_of

  -- what a claim owes, by whether it found 0
  abbrev Owes : Bool → Type 0
  Owes b = (w : View) × (a : Act (Option Holder)) × Valid s.homes me.1 a × KeepsWith first kept.journal (stepped s (n + 1) (either b 1 found) id me.1 w a)
      × MatchBool b (TakesNode n me (w, carried_after me.1 a)) (FindsTaken n me (w, carried_after me.1 a))

  -- the node was at home
  module _ (home : IsAtHome first kept.journal s n) (is_home : kept.owners.owner n ≡ None) where
    abbrev new : View
    new = with_node n home.holder me.0

    abbrev after : TableState
    after = stepped s (n + 1) 1 id me.1 new (takes n (Some home.holder))

    here : IsWithSeat after n id
    here = record {
      word = get_or-set_same s.words (n + 1) 1 0 in-words;
      slot = set_here s.homes n none in-homes;
      view = new;
      is_view = at-set s.views id me.0 new is;
      holds = record { node = _; has = has-first _ me.0.claimed; number = refl };
    }

    held : (node : Claimed) → Contains new.claimed node → ((node.number ≡ n → ⊥) × Contains me.0.claimed node) ⊎ ((Some id ≡ Some id) × (node.number ≡ n) × (node.log ≡ of_cell n kept.journal))
    held node has = by (has-cases _ me.0.claimed node has)
      where
        by : (record { number = n; log = home.holder.node.log; found = home.holder.node.waiters } ≡ node) ⊎ Contains me.0.claimed node → ((node.number ≡ n → ⊥) × Contains me.0.claimed node) ⊎ ((Some id ≡ Some id) × (node.number ≡ n) × (node.log ≡ of_cell n kept.journal))
        by (inl same) = inr (refl, ap (λ (x : Claimed). x.number) (sym same), ap (λ (x : Claimed). x.log) (sym same) ∙ home.has_log.log)
        by (inr old) = inl ((λ e. not_held (record { node = node; has = old; number = e })), old)

    takes-owners : HaveOwners first kept.journal after
    takes-owners = owners-move first kept.journal s kept.owners id me.0 new is n 1 (set s.homes n none) (Some id) within (inl is_home) (length-set s.homes n none)
        (λ m other. set_else s.homes n m none other) here (λ m other holds. record { node = holds.node; has = has-later _ me.0.claimed holds.node holds.has; number = holds.number }) held

    takes-keeps : KeepsWith first kept.journal after
    takes-keeps = (
      record {
        journal = kept.journal;
        owners = takes-owners;
        tickets = tickets-stay first kept.journal s kept.tickets id me.0 is (set s.words (n + 1) 1) (set s.homes n none) new (get_or-set_other s.words (n + 1) 0 1 0 (λ e. omega arith)) some_of refl refl refl;
        turns = kept.turns;
      },
      refl,
    )

    pub takes-node : Owes true
    takes-node = (
      new,
      takes n (Some home.holder),
      home.slot,
      takes-keeps,
      record {
        holder = home.holder;
        slot = refl;
        view = refl;
        has_log = subst (λ log. HasLog me.0.first n log home.holder) (sym home.has_log.log) (subst (λ (f : Beginning). HasLog f n (of_cell n kept.journal) home.holder) (sym knows) home.has_log);
        whole = folded (configuration_from first) (λ m. of_cell m takes-keeps.0.journal);
        stand = stand first after takes-keeps.0 id new (at-set s.views id me.0 new is) knows;
      },
    )

  -- it was with another seat
  finds-taken : (found ≡ 0 → ⊥) → Owes false
  finds-taken taken = (
    with_busy n me.0,
    keeps,
    tt,
    subst (λ words. KeepsWith first kept.journal (record { words = words; homes = s.homes; views = set s.views id (with_busy n me.0) })) (sym (set-get_or s.words (n + 1) 0)) busy-keeps,
    record { seat = refl; not_alone = λ all. with_other all (kept.owners.owner n) (kept.owners.nodes n within) },
  )
    where
      busy-keeps : KeepsWith first kept.journal (record { words = s.words; homes = s.homes; views = set s.views id (with_busy n me.0) })
      busy-keeps = (
        record {
          journal = kept.journal;
          owners = owners-set first kept.journal s kept.owners id me.0 (with_busy n me.0) is (λ m holds. record { node = holds.node; has = holds.has; number = holds.number }) (λ node has. has);
          tickets = tickets-stay first kept.journal s kept.tickets id me.0 is s.words s.homes (with_busy n me.0) refl some_of refl refl refl;
          turns = kept.turns;
        },
        refl,
      )

      nothing : (node : Claimed) → Contains [] node → ⊥
      nothing node (k, below, at) = absurd (omega arith)

      with_other : rights me.0 ≡ 2 ^ 62 → (place : Option ℕ) → IsAt first kept.journal s n place → ⊥
      with_other all None home = taken home.word
      with_other all (Some seat) there = dite (ℕ_discrete seat id)
          (λ same. not_held (subst (λ v. HoldsNode v n) (at-one s.views id there.view me.0 (subst (λ j. get_elem? s.views j ≡ some there.view) same there.is_view) is) there.holds))
          (λ other. nothing there.holds.node (subst (λ nodes. Contains nodes there.holds.node)
          ((kept.tickets.seats seat there.view there.is_view).spent (alone first kept.journal s kept.tickets id me.0 is all seat there.view other there.is_view)) there.holds.has))

  found-home : found ≡ 0 → (place : Option ℕ) → kept.owners.owner n ≡ place → IsAt first kept.journal s n place → Owes true
  found-home free None owner home = takes-node home owner
  found-home free (Some seat) owner there = let word = there.word in absurd (omega (arith, word, free))

  claims : Owes (eqb found 0)
  claims = dite (ℕ_discrete found 0) (λ free. subst Owes (sym (eq-eqb found 0 free)) (found-home free (kept.owners.owner n) refl (kept.owners.nodes n within)))
      (λ taken. subst Owes (sym (ne_eqb found 0 taken)) (finds-taken taken))

-- the journal stays as it was
pub claim-leaves : (first : Beginning) (journal : List Entry) → ClaimsUnder (KeepsWith first journal)
claim-leaves first journal slots id n me some_of inside not_held s (kept, same) sized is small =
    let node : n + 1 - 1 ≡ n = omega arith in
    let owes = claims first slots id n me some_of inside not_held s kept sized is in (
      owes.0,
      owes.1,
      owes.2,
      (owes.3.0, owes.3.1 ∙ same),
      subst (λ m. MatchBool (eqb (slice_index s.words (n + 1)) 0) (TakesNode m me (owes.0, carried_after me.1 owes.1)) (FindsTaken m me (owes.0, carried_after me.1 owes.1))) (sym node) owes.4,
    )

-- so the rule is kept
pub claim-kept : (first : Beginning) → ClaimsUnder (Keeps first)
claim-kept first slots id n me some_of inside not_held s kept sized is small =
    let owes = claim-leaves first kept.journal slots id n me some_of inside not_held s (kept, refl) sized is small in (owes.0, owes.1, owes.2, owes.3.0, owes.4)
