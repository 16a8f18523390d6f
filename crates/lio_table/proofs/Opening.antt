-- A fresh table meets the rule.
use Rattle.std.proofs.Common.{◌≡◌, ◌∙◌, refl, sym, ap, subst, arith, ℕ, zero, suc, ◌+◌, ◌<◌, List, [], ◌∷◌, length, map, get_or, Contains, Some, None}
use Rattle.std.proofs.lemmas.List.{get_or-map, get_or-replicate, length-map}
use mathlib.Core.Option.{some, some-injective, some-ne-none}
use lib.ListN.{get_elem?, length-replicate}
use Rattle.atomic_table.proofs.Lists.{at_map}
use Rattle.lio_calculus.specs.Step.{blank, cell_at}
use Rattle.lio_calculus.specs.Sound.{IsSound}
use Rattle.lio_calculus.proofs.FoldLemmas.{fold-none}
use Rattle.lio_task.specs.declared.config.Holder.{Holder}
use Rattle.lio_task.specs.Configuration.{cell_of}
use Rattle.lio_task.specs.Logs.{HaveNoLogs}
use Rattle.lio_table.specs.declared.view.Beginning.{Beginning}
use Rattle.lio_table.specs.declared.view.View.{View}
use Rattle.lio_table.specs.Views.{configuration_from, with_all_tickets}
use Rattle.lio_table.specs.Rule.{HasRights, IsAtHome, Keeps}
use Rattle.lio_table.specs.Ends.{fresh_table}
use Rattle.lio_table.proofs.Lists.{there}

-- an element by its place, in two words
pub at-or : {X : Type 0} (xs : List X) (n : ℕ) (x d : X) → get_elem? xs n ≡ some x → get_or xs n d ≡ x
at-or [] n x d is = absurd (some-ne-none x (sym is))
at-or (y ∷ xs) zero x d is = some-injective y x is
at-or (y ∷ xs) (suc n) x d is = at-or xs n x d is

-- the cell of a holder among those with which a table began
pub cell-from : (first : Beginning) (n : ℕ) (holder : Holder) → n < length first.holders → get_elem? first.holders n ≡ some holder → cell_at (configuration_from first) n ≡ cell_of first.script holder
unfolding configuration_from
cell-from first n holder within is = get_or-map (cell_of first.script) first.holders n holder blank within ∙ ap (cell_of first.script) (at-or first.holders n holder holder is)

-- and its log, where no node has served a turn
log-from : (holders : List Holder) (n : ℕ) (holder : Holder) → n < length holders → get_elem? holders n ≡ some holder → HaveNoLogs holders → holder.node.log ≡ []
log-from holders n holder within is fresh = subst (λ (h : Holder). h.node.log ≡ []) (at-or holders n holder holder is) (fresh n holder within)

module _ (first : Beginning) (sound : IsSound (configuration_from first)) (fresh : HaveNoLogs first.holders) where
  starts-at_home : (n : ℕ) → n < length first.holders → IsAtHome first [] (fresh_table first) n
  starts-at_home n within = by (there first.holders n within)
    where
      by : (holder : Holder) × (get_elem? first.holders n ≡ some holder) → IsAtHome first [] (fresh_table first) n
      by (holder, is) = record {
        word = get_or-replicate (length first.holders + 1) (n + 1) 0 0 (omega (arith, within));
        holder = holder;
        slot = at_map some (map Some first.holders) n (Some holder) (at_map Some first.holders n holder is);
        has_log = record {
          log = log-from first.holders n holder within is fresh;
          cell = sym (cell-from first n holder within is) ∙ sym (fold-none (configuration_from first).program n (cell_at (configuration_from first) n));
        };
      }

  only-seat : (seat : ℕ) (view : View) → get_elem? (with_all_tickets first ∷ []) seat ≡ some view → HasRights first 0 view
  only-seat zero view is = subst (HasRights first 0) (some-injective (with_all_tickets first) view is) (record {
    below = λ entry has. absurd (omega (arith, has.1));
    knows = λ some. refl;
    spent = λ none. refl;
  })
  only-seat (suc seat) view is = absurd (some-ne-none view (sym is))

  pub fresh-kept : Keeps first (fresh_table first)
  fresh-kept = record {
    journal = [];
    owners = record {
      owner = λ n. None;
      words = length-replicate (length first.holders + 1) 0;
      slots = length-map (map Some first.holders) some ∙ length-map first.holders Some;
      nodes = starts-at_home;
      seats = λ seat view at node has. absurd (nobody seat view at node has);
    };
    tickets = record {
      next = get_or-replicate (length first.holders + 1) 0 0 0 (omega arith);
      all = omega arith;
      drawn = λ p. refl;
      seats = only-seat;
    };
    turns = record {
      sound = sound;
      numbered = tt;
      inside = λ n beyond. refl;
      local = λ entry has. absurd (omega (arith, has.1));
    };
  }
    where
      nobody : (seat : ℕ) (view : View) → get_elem? (with_all_tickets first ∷ []) seat ≡ some view → (node : _) → Contains view.claimed node → ⊥
      nobody zero view is node has = let one = subst (λ (v : View). Contains v.claimed node) (sym (some-injective (with_all_tickets first) view is)) has in absurd (omega (arith, one.1))
      nobody (suc seat) view is node has = absurd (some-ne-none view (sym is))
