-- A ticket that is drawn for a turn keeps the rule.
use Rattle.std.proofs.Common.{◌≡◌, ◌∙◌, refl, sym, ap, subst, arith, ℕ, ◌+◌, ◌%◌, ◌^◌, ◌<◌, ◌⊎◌, ⊎_elim, inl, inr, Bool, cond, List, [], ◌∷◌, ◌++◌, length, map, set, All, Contains, count_by, sum_by, slice_index, Option, Some, None, append-nil, length-append, length-set, get_or-set_same, get_or-set_other}
use Rattle.std.proofs.lemmas.List.Elements.{All-contains_itself, filter-append}
use Rattle.std.proofs.lemmas.List.Sums.{sum_by-cons, sum_by_push}
use mathlib.Core.Option.{some}
use lib.ListN.{get_elem?}
use Rattle.atomic_table.specs.Table.{Act, Valid, carried_after, keeps, stepped}
use Rattle.atomic_table.proofs.Lists.{at_set as at-set-cases}
use Rattle.lio_values.specs.declared.entry.Entry.{Entry}
use Rattle.lio_calculus.specs.Effect.{touches}
use Rattle.lio_calculus.specs.Logs.{folded}
use Rattle.lio_calculus.specs.Journals.{of_cell}
use Rattle.lio_calculus.proofs.JournalLemmas.{has-cases, has-first, has-later}
use Rattle.lio_task.specs.declared.config.Holder.{Holder}
use Rattle.lio_table.specs.declared.view.Beginning.{Beginning}
use Rattle.lio_table.specs.declared.view.Claimed.{Claimed}
use Rattle.lio_table.specs.declared.view.View.{View}
use Rattle.lio_table.specs.Views.{HoldsNode, configuration_from, rights}
use Rattle.lio_table.specs.Rule.{AreDrawn, AreTurns, HasRights, HaveOwners, IsHeldBy, Keeps, KeepsWith, TableState}
use Rattle.lio_table.specs.Laws.{TicketAddsItsEntry, TicketKeepsTheRule}
use Rattle.lio_table.specs.Steps.{CanRecord, DrawsTicket, SeatState, with_entry, with_ticket, with_turn}
use Rattle.lio_table.proofs.Lists.{sum-set}
use Rattle.lio_table.proofs.Seats.{holding-set, stays-at}
use Rattle.lio_table.proofs.Standing.{size-from, stand}
use Rattle.lio_table.proofs.Tickets.{drawn-below, drawn-by, rights-set}
use Rattle.lio_table.proofs.Turns.{hidden, part-below, turns-more}

-- a node in the view after a turn is one of before, with the entry where it shows the node
record WasHeld (entry : Entry) (nodes : List Claimed) (node : Claimed) : Type 0 where
  was : Claimed
  has : Contains nodes was
  is : with_entry entry was ≡ node

was-held : (entry : Entry) (nodes : List Claimed) (node : Claimed) → Contains (map (with_entry entry) nodes) node → WasHeld entry nodes node
was-held entry [] node (k, within, is) = absurd (omega arith)
was-held entry (x ∷ nodes) node has = by (was-held entry nodes node) (has-cases (with_entry entry x) (map (with_entry entry) nodes) node has)
  where
    by : (Contains (map (with_entry entry) nodes) node → WasHeld entry nodes node) → (with_entry entry x ≡ node) ⊎ Contains (map (with_entry entry) nodes) node → WasHeld entry (x ∷ nodes) node
    by rest (inl same) = record { was = x; has = has-first x nodes; is = same }
    by rest (inr later) = let w = rest later in record { was = w.was; has = has-later x nodes w.was w.has; is = w.is }

pub is-held : (entry : Entry) (nodes : List Claimed) (node : Claimed) → Contains nodes node → Contains (map (with_entry entry) nodes) (with_entry entry node)
is-held entry [] node (k, within, is) = absurd (omega arith)
is-held entry (x ∷ nodes) node has = by (is-held entry nodes node) (has-cases x nodes node has)
  where
    by : (Contains nodes node → Contains (map (with_entry entry) nodes) (with_entry entry node)) → (x ≡ node) ⊎ Contains nodes node → Contains (map (with_entry entry) (x ∷ nodes)) (with_entry entry node)
    by rest (inl same) = subst (λ y. Contains (map (with_entry entry) (x ∷ nodes)) (with_entry entry y)) same (has-first (with_entry entry x) (map (with_entry entry) nodes))
    by rest (inr later) = has-later (with_entry entry x) (map (with_entry entry) nodes) (with_entry entry node) (rest later)

module _ (first : Beginning) (id : ℕ) (me : SeatState) (shows : Entry) (can : CanRecord shows me.0) (s : TableState) (kept : Keeps first s) (is : get_elem? s.views id ≡ some me.0) where
  abbrev journal : List Entry
  journal = kept.journal

  -- the entry, with its ticket
  abbrev entry : Entry
  entry = with_ticket shows (length journal)

  abbrev more : List Entry
  more = journal ++ entry ∷ []

  abbrev new : View
  new = with_turn entry me.0

  abbrev after : ℕ → TableState
  after next = record { words = set s.words 0 next; homes = s.homes; views = set s.views id new }

  some_of : 0 < rights me.0
  some_of = let left = can.left in omega (arith, left)

  knows : me.0.first ≡ first
  knows = (kept.tickets.seats id me.0 is).knows some_of

  -- it shows nodes of this seat alone
  mine : (n : ℕ) → HoldsNode me.0 n → (n < length first.holders) × (kept.owners.owner n ≡ Some id)
  mine n holds =
      let by = kept.owners.seats id me.0 is holds.node holds.has in
      (subst (λ m. m < length first.holders) holds.number by.within, ap kept.owners.owner (sym holds.number) ∙ by.owned)

  not-shown : (n : ℕ) → (kept.owners.owner n ≡ Some id → ⊥) → of_cell n (entry ∷ []) ≡ []
  not-shown n other = hidden n entry (λ same. other (subst (λ m. kept.owners.owner m ≡ Some id) same (mine shows.actor can.actor).1)) (λ same. other (mine n (can.target n same)).1)

  same-log : (n : ℕ) → (kept.owners.owner n ≡ Some id → ⊥) → of_cell n more ≡ of_cell n journal
  same-log n other = filter-append (touches n) journal (entry ∷ []) ∙ ap (λ xs. of_cell n journal ++ xs) (not-shown n other) ∙ append-nil (of_cell n journal)

  turns-after : AreTurns (configuration_from first) more
  turns-after = turns-more (configuration_from first) journal kept.turns entry refl can.apart (there shows.actor can.actor) (λ n target. there n (can.target n target))
      (can.shown (folded (configuration_from first) (λ n. of_cell n journal)) (stand first s kept id me.0 is knows) (length journal))
    where
      there : (n : ℕ) → HoldsNode me.0 n → n < length (configuration_from first).cells
      there n holds = subst (λ l. n < l) (sym (size-from first)) (mine n holds).0

  owners-after : (next : ℕ) → HaveOwners first more (after next)
  owners-after next = record {
    owner = kept.owners.owner;
    words = length-set s.words 0 next ∙ kept.owners.words;
    slots = kept.owners.slots;
    nodes = λ n within. stays-at first journal more s (after next) n (kept.owners.owner n) (kept.owners.nodes n within) (get_or-set_other s.words 0 (n + 1) next 0 (λ e. omega arith))
        refl (λ home. same-log n (λ owned. at-home home owned)) (holding-set s.views id me.0 new n is (still n));
    seats = λ seat view at node has. ⊎_elim
        (λ t. subst (λ (j : ℕ). IsHeldBy first more kept.owners.owner j node) (sym t.0) (mine-after node (was-held entry me.0.claimed node (subst (λ v. Contains v.claimed node) (sym t.1) has))))
        (λ t. other-after seat node t.0 (kept.owners.seats seat view t.1 node has)) (at-set-cases s.views id seat new view at);
  }
    where
      at-home : {n : ℕ} → kept.owners.owner n ≡ None → kept.owners.owner n ≡ Some id → ⊥
      at-home home owned = absurd (cc)

      still : (n : ℕ) → HoldsNode me.0 n → HoldsNode new n
      still n holds = record { node = with_entry entry holds.node; has = is-held entry me.0.claimed holds.node holds.has; number = holds.number }

      mine-after : (node : Claimed) → WasHeld entry me.0.claimed node → IsHeldBy first more kept.owners.owner id node
      mine-after node w =
          let by = kept.owners.seats id me.0 is w.was w.has in
          subst (IsHeldBy first more kept.owners.owner id) w.is (record {
            within = by.within;
            owned = by.owned;
            log = ap (λ log. log ++ of_cell w.was.number (entry ∷ [])) by.log ∙ sym (filter-append (touches w.was.number) journal (entry ∷ []));
          })

      other-after : (seat : ℕ) (node : Claimed) → (seat ≡ id → ⊥) → IsHeldBy first journal kept.owners.owner seat node → IsHeldBy first more kept.owners.owner seat node
      other-after seat node other by = record { within = by.within; owned = by.owned; log = by.log ∙ sym (same-log node.number (λ mine. other (clash mine))) }
        where
          clash : kept.owners.owner node.number ≡ Some id → seat ≡ id
          clash mine = let theirs = by.owned in cc

  -- for how many entries that pass a test tickets were drawn
  drawn-after : (next : ℕ) (p : Entry → Bool) → sum_by (drawn-by p) (set s.views id new) ≡ count_by p more
  drawn-after next p =
      let changed = sum-set (drawn-by p) s.views id me.0 new is in
      let drawn = kept.tickets.drawn p in
      let one_more = sum_by-cons (λ (e : Entry). cond (p e) 1 0) entry me.0.drawn in
      let pushed = sum_by_push (λ (e : Entry). cond (p e) 1 0) journal entry in
      omega (arith, changed, drawn, one_more, pushed)

  tickets-after : (next : ℕ) → next ≡ length journal + 1 → AreDrawn first more (after next)
  tickets-after next counted =
      let long : length more ≡ length journal + 1 = length-append journal (entry ∷ []) in
      let left = can.left in
      let words = kept.owners.words in
      record {
        next = get_or-set_same s.words 0 next 0 (omega (arith, words)) ∙ counted ∙ sym long;
        all = let changed = sum-set rights s.views id me.0 new is in let all = kept.tickets.all in omega (arith, changed, all, left);
        drawn = drawn-after next;
        seats = rights-set first (length more) s.views id new (record {
          below = λ e has. mine-below e (has-cases _ me.0.drawn e has);
          knows = λ some. knows;
          spent = λ none. absurd (omega (arith, none, left));
        }) (λ seat view at. older seat view at);
      }
    where
      up : (ticket : ℕ) → ticket < length journal → ticket < length more
      up ticket lower = let long : length more ≡ length journal + 1 = length-append journal (entry ∷ []) in omega (arith, long, lower)

      mine-below : (e : Entry) → (entry ≡ e) ⊎ Contains me.0.drawn e → e.ticket < length more
      mine-below e (inl same) =
          let long : length more ≡ length journal + 1 = length-append journal (entry ∷ []) in
          let at : length journal ≡ e.ticket = ap (λ (d : Entry). d.ticket) same in omega (arith, long, at)
      mine-below e (inr old) = up e.ticket ((kept.tickets.seats id me.0 is).below e old)

      older : (seat : ℕ) (view : View) → get_elem? s.views seat ≡ some view → HasRights first (length more) view
      older seat view at = let r = kept.tickets.seats seat view at in record { below = λ e has. up e.ticket (r.below e has); knows = r.knows; spent = r.spent }

  -- what is told of the ticket
  told : DrawsTicket shows me (length journal) (new, me.1)
  told = record {
    seat = refl;
    logs = λ node has. subst (All (λ before. before.ticket < length journal)) (sym (kept.owners.seats id me.0 is node has).log) (part-below journal node.number kept.turns.numbered);
    draws = λ k d within. (kept.tickets.seats id me.0 is).below _ (All-contains_itself me.0.drawn k d within);
    below = drawn-below first journal s kept.tickets id me.0 is can.left;
  }

  abbrev Owes : ℕ → Type 0
  Owes found = (w : View) × (a : Act (Option Holder)) × Valid s.homes me.1 a × KeepsWith first (journal ++ with_ticket shows found ∷ []) (stepped s 0 ((found + 1) % 2 ^ 64) id me.1 w a) × DrawsTicket shows me found (w, carried_after me.1 a)

  counted : (length journal + 1) % 2 ^ 64 ≡ length journal + 1
  counted = let below = told.below in omega (arith, below)

  draws-keeps : KeepsWith first more (after ((length journal + 1) % 2 ^ 64))
  draws-keeps = (record { journal = more; owners = owners-after _; tickets = tickets-after _ counted; turns = turns-after }, refl)

  draws : Owes (length journal)
  draws = (new, keeps, tt, draws-keeps, told)

-- its entry is added to the journal
pub ticket-adds : TicketAddsItsEntry
ticket-adds first past slots id me entry can s (kept, same) sized is =
    let owes = subst (Owes first id me entry can s kept is) (sym kept.tickets.next) (draws first id me entry can s kept is) in
    (owes.0, owes.1, owes.2, (owes.3.0, owes.3.1 ∙ ap (λ (j : List Entry). j ++ with_ticket entry (slice_index s.words 0) ∷ []) same), owes.4)

-- so the rule is kept
pub ticket-kept : TicketKeepsTheRule
ticket-kept first slots id me entry can s kept sized is small =
    let owes = ticket-adds first kept.journal slots id me entry can s (kept, refl) sized is in (owes.0, owes.1, owes.2, owes.3.0, owes.4)
