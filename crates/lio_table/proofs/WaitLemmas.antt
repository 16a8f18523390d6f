-- A task that is left at a node which isn't ready for its turn.
use Rattle.std.proofs.Common.{◌≡◌, ◌∙◌, sym, ap, subst, ℕ, ◌⊎◌, inl, inr, List}
use Rattle.std.specs.Prelude.{Result, Ok, Err, IfOk, IfErr, OnOk, OnErr}
use Rattle.lio_values.specs.declared.act.Act.{Act}
use Rattle.lio_values.specs.declared.entry.Entry.{Entry}
use Rattle.lio_cells.specs.declared.waiter.Waiter.{Waiter}
use Rattle.lio_task.specs.declared.config.Holder.{Holder}
use Rattle.lio_table.specs.declared.view.Beginning.{Beginning}
use Rattle.lio_table.specs.Views.{HasLog}
use Rattle.lio_table.specs.Steps.{SeatState, with_given}
use Rattle.lio_table.specs.Holders.{CanPutBoth, PutsBoth}
use Rattle.lio_table.specs.Moves.{ReturnsBoth}
use Rattle.lio_table.specs.Waits.{LeavesBoth, waited_at, waiting_with}

-- the met holder, at which the task waits or not
parked : {T E : Type 0} (result : Result T E) (old was new : Holder) → OnOk result (new ≡ old) → OnErr result (new ≡ was) → (new ≡ old) ⊎ (new ≡ was)
parked (Ok u) old was new ok err = inl ok
parked (Err e) old was new ok err = inr err

waited-log : (first : Beginning) (n : ℕ) (entries : List Entry) (holder : Holder) (k : ℕ) (asked : Act) → HasLog first n entries holder → HasLog first n entries (waited_at holder k asked)
waited-log first n entries holder k asked has = record { log = has.log; cell = has.cell }

module _ {T E : Type 0} (result : Result T E) (k n : ℕ) (holder was found met : Holder) (asked : Act) (old : SeatState) (lent : was ≡ found) (ok : OnOk result (met ≡ waited_at was k asked)) (err : OnErr result (met ≡ was)) where
  -- it can be put back
  pub left-can_put : CanPutBoth k n holder found old → CanPutBoth k n holder met old
  left-can_put can = record {
    apart = can.apart;
    rest = can.rest;
    slots = can.slots;
    actor = can.actor;
    target = can.target;
    has_log = can.has_log;
    met_has_log = by (parked result (waited_at was k asked) was met ok err);
  }
    where
      here : HasLog old.0.first n can.target.node.log was
      here = subst (HasLog old.0.first n can.target.node.log) (sym lent) can.met_has_log

      by : (met ≡ waited_at was k asked) ⊎ (met ≡ was) → HasLog old.0.first n can.target.node.log met
      by (inl is) = subst (HasLog old.0.first n can.target.node.log) (sym is) (waited-log old.0.first n can.target.node.log was k asked here)
      by (inr is) = subst (HasLog old.0.first n can.target.node.log) (sym is) here

-- and then waits there, or nobody does who didn't
pub left-waits : {T E : Type 0} (result : Result T E) (k n : ℕ) (holder was found met : Holder) (asked : Act) (old new : SeatState) → was ≡ found → OnOk result (met ≡ waited_at was k asked) → PutsBoth k n holder met old new → IfOk result (λ _. LeavesBoth k n holder found asked old new)
left-waits (Err e) k n holder was found met asked old new lent ok put = tt
left-waits (Ok u) k n holder was found met asked old new lent ok put = record {
  slots = put.slots;
  target = put.target;
  actor = put.actor;
  view = put.view ∙ ap (λ (ws : List Waiter). with_given put.actor.node holder.node.waiters (with_given put.target.node ws old.0))
      (ap (λ (h : Holder). h.node.waiters) ok ∙ ap (λ (h : Holder). waiting_with k asked h.node.waiters) lent);
}

pub left-returned : {T E : Type 0} (result : Result T E) (k n : ℕ) (holder was found met : Holder) (old new : SeatState) → was ≡ found → OnErr result (met ≡ was) → PutsBoth k n holder met old new → IfErr result (λ _. ReturnsBoth k n holder found old new)
left-returned (Ok u) k n holder was found met old new lent err put = tt
left-returned (Err e) k n holder was found met old new lent err put = record {
  slots = put.slots;
  target = put.target;
  actor = put.actor;
  view = put.view ∙ ap (λ (ws : List Waiter). with_given put.actor.node holder.node.waiters (with_given put.target.node ws old.0)) (ap (λ (h : Holder). h.node.waiters) (err ∙ lent));
}
