-- Two nodes that a seat gives back, one after the other.
use Rattle.std.proofs.Common.{◌≡◌, ◌∙◌, sym, ap, subst, ℕ, eqb, ne_eqb, not, [], ◌∷◌, Contains, None}
use Rattle.atomic_table.specs.Table.{rest}
use Rattle.lio_calculus.proofs.JournalLemmas.{from-part, in-part}
use Rattle.lio_task.specs.declared.config.Holder.{Holder}
use Rattle.lio_table.specs.declared.view.Claimed.{Claimed}
use Rattle.lio_table.specs.declared.view.View.{View}
use Rattle.lio_table.specs.Views.{HasLog, HoldsNode}
use Rattle.lio_table.specs.Steps.{SeatState, with_given}
use Rattle.lio_table.specs.Holders.{CanPut, CanPutBoth, PutsBack, PutsBoth}

pub first-can_put : (k n : ℕ) (holder met : Holder) (me : SeatState) → CanPutBoth k n holder met me → CanPut n met me
first-can_put k n holder met me can = record { rest = (k, None) ∷ can.rest; slots = can.slots; holds = can.target; has_log = can.met_has_log }

-- the other node is held as before
still-held : (k n : ℕ) (node : Claimed) (view : View) → node.number ≡ n → (k ≡ n → ⊥) → (holds : HoldsNode view k) → Contains (with_given node [] view).claimed holds.node
still-held k n node view number apart holds =
    in-part (λ x. not (eqb x.number node.number)) view.claimed holds.node (ap not (ne_eqb holds.node.number node.number (λ e. apart (sym holds.number ∙ e ∙ number)))) holds.has

pub second-can_put : (k n : ℕ) (holder met : Holder) (old mid : SeatState) → CanPutBoth k n holder met old → PutsBack n met old mid → CanPut k holder mid
second-can_put k n holder met old mid can put = record {
  rest = can.rest;
  slots = sym (ap rest put.slots) ∙ ap rest can.slots;
  holds = record {
    node = can.actor.node;
    has = subst (λ (v : View). Contains v.claimed can.actor.node) (sym put.view) (still-held k n put.holds.node old.0 put.holds.number can.apart can.actor);
    number = can.actor.number;
  };
  has_log = subst (λ (v : View). HasLog v.first k can.actor.node.log holder) (sym put.view) can.has_log;
}

pub both-put : (k n : ℕ) (holder met : Holder) (old mid new : SeatState) → PutsBack n met old mid → PutsBack k holder mid new → PutsBoth k n holder met old new
both-put k n holder met old mid new first second =
    by (subst (λ (v : View). (held : HoldsNode v k) × (new.0 ≡ with_given held.node holder.node.waiters v)) first.view (second.holds, second.view))
  where
    by : (held : HoldsNode (with_given first.holds.node met.node.waiters old.0) k) × (new.0 ≡ with_given held.node holder.node.waiters (with_given first.holds.node met.node.waiters old.0)) → PutsBoth k n holder met old new
    by (held, view) = record {
      slots = first.slots ∙ ap (λ slots. (n, None) ∷ slots) second.slots;
      target = first.holds;
      actor = record { node = held.node; has = from-part (λ x. not (eqb x.number first.holds.node.number)) old.0.claimed held.node held.has; number = held.number };
      view = view;
    }
