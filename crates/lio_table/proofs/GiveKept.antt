-- A node that is given back keeps the rule.
use Rattle.std.proofs.Common.{◌≡◌, ◌∙◌, refl, sym, ap, subst, arith, ℕ, ◌+◌, ◌-◌, ◌<◌, inl, inr, true, true≢false, eqb, not, eq-eqb, ne_eqb, List, ◌∷◌, length, set, Option, Some, None, length-set, get_or-set_same, get_or-set_other}
use mathlib.Core.Option.{some}
use mathlib.Core.Option as maybe
use lib.ListN.{get_elem?}
use Rattle.atomic_table.specs.Table.{Act, Valid, carried_after, gives, stepped}
use Rattle.atomic_table.proofs.Lists.{set_else, set_here}
use Rattle.lio_values.specs.declared.entry.Entry.{Entry}
use Rattle.lio_calculus.specs.Journals.{of_cell}
use Rattle.lio_calculus.proofs.JournalLemmas.{from-part, in-part, passes-part}
use Rattle.lio_task.specs.declared.config.Holder.{Holder}
use Rattle.lio_table.specs.declared.view.Beginning.{Beginning}
use Rattle.lio_table.specs.declared.view.Claimed.{Claimed}
use Rattle.lio_table.specs.declared.view.View.{View}
use Rattle.lio_table.specs.Views.{HasLog, rights}
use Rattle.lio_table.specs.Rule.{HaveOwners, IsAtHome, IsHeldBy, Keeps, KeepsWith, TableState}
use Rattle.lio_table.specs.Laws.{GivesUnder}
use Rattle.lio_table.specs.Steps.{CanGive, GivesNode, SeatState, with_given}
use Rattle.lio_table.proofs.Seats.{owners-move}
use Rattle.lio_table.proofs.Tickets.{tickets-stay}

-- a node that isn't the one with a number
is-other : (n m : ℕ) → (m ≡ n → ⊥) → not (eqb m n) ≡ true
is-other n m other = ap not (ne_eqb m n other)

other-is : (n m : ℕ) → not (eqb m n) ≡ true → m ≡ n → ⊥
other-is n m other same = true≢false (sym other ∙ ap not (eq-eqb m n same))

module _ (first : Beginning) (slots id n : ℕ) (me : SeatState) (some_of : 0 < rights me.0) (can : CanGive n me) (s : TableState) (kept : Keeps first s) (sized : length s.homes ≡ slots)
    (is : get_elem? s.views id ≡ some me.0) where
  abbrev node : Claimed
  node = can.holds.node

  abbrev new : View
  new = with_given node can.holder.node.waiters me.0

  by-me : IsHeldBy first kept.journal kept.owners.owner id node
  by-me = kept.owners.seats id me.0 is node can.holds.has

  within : n < length first.holders
  within = subst (λ m. m < length first.holders) can.holds.number by-me.within

  knows : me.0.first ≡ first
  knows = (kept.tickets.seats id me.0 is).knows some_of

  abbrev homes : List (maybe.Option (Option Holder))
  homes = set s.homes n (some (Some can.holder))

  abbrev after : TableState
  after = record { words = set s.words (n + 1) 0; homes = homes; views = set s.views id new }

  here : IsAtHome first kept.journal after n
  here =
      let words = kept.owners.words in
      let slots = kept.owners.slots in
      let inside = within in
      record {
        word = get_or-set_same s.words (n + 1) 0 0 (omega (arith, words, inside));
        holder = can.holder;
        slot = set_here s.homes n (some (Some can.holder)) (omega (arith, slots, inside));
        has_log = subst (λ log. HasLog first n log can.holder) (by-me.log ∙ ap (λ m. of_cell m kept.journal) can.holds.number)
            (subst (λ (f : Beginning). HasLog f n node.log can.holder) knows can.has_log);
      }

  gives-owners : HaveOwners first kept.journal after
  gives-owners = owners-move first kept.journal s kept.owners id me.0 new is n 0 homes None within (inr (ap kept.owners.owner (sym can.holds.number) ∙ by-me.owned)) (length-set s.homes n _)
      (λ m other. set_else s.homes n m _ other) here
      (λ m other holds. record {
        node = holds.node;
        has = in-part (λ x. not (eqb x.number node.number)) me.0.claimed holds.node (is-other node.number holds.node.number (λ e. other (sym holds.number ∙ e ∙ can.holds.number))) holds.has;
        number = holds.number;
      })
      (λ x has. inl (
        (λ same. other-is node.number x.number (passes-part (λ y. not (eqb y.number node.number)) me.0.claimed x has) (same ∙ sym can.holds.number)),
        from-part (λ y. not (eqb y.number node.number)) me.0.claimed x has,
      ))

  gives-keeps : KeepsWith first kept.journal after
  gives-keeps = (
    record {
      journal = kept.journal;
      owners = gives-owners;
      tickets = tickets-stay first kept.journal s kept.tickets id me.0 is (set s.words (n + 1) 0) homes new (get_or-set_other s.words (n + 1) 0 0 0 (λ e. omega arith)) some_of refl refl refl;
      turns = kept.turns;
    },
    refl,
  )

  -- what a give owes, by the slots that are out with the seat
  abbrev Owes : List (ℕ × Option Holder) → Type 0
  Owes out = (w : View) × (a : Act (Option Holder)) × Valid s.homes out a × KeepsWith first kept.journal (stepped s (n + 1) 0 id out w a) × GivesNode n me (w, carried_after out a)

  pub gives-node : Owes ((n, Some can.holder) ∷ can.rest)
  gives-node = (new, gives, tt, gives-keeps, record { holder = can.holder; slot = can.slot; holds = can.holds; view = refl })

-- the journal stays as it was
pub give-leaves : (first : Beginning) (journal : List Entry) → GivesUnder (KeepsWith first journal)
give-leaves first journal slots id n me some_of can s (kept, same) sized is small =
    let node : n + 1 - 1 ≡ n = omega arith in
    let owes = subst (Owes first slots id n me some_of can s kept sized is) (sym can.slot) (gives-node first slots id n me some_of can s kept sized is) in
    (owes.0, owes.1, owes.2, (owes.3.0, owes.3.1 ∙ same), subst (λ m. GivesNode m me (owes.0, carried_after me.1 owes.1)) (sym node) owes.4)

-- so the rule is kept
pub give-kept : (first : Beginning) → GivesUnder (Keeps first)
give-kept first slots id n me some_of can s kept sized is small =
    let owes = give-leaves first kept.journal slots id n me some_of can s (kept, refl) sized is small in (owes.0, owes.1, owes.2, owes.3.0, owes.4)
