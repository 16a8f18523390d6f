-- Where nodes are, after a step of a seat.
use Rattle.std.proofs.Common.{◌≡◌, ◌∙◌, refl, sym, ap, subst, arith, ℕ, ◌+◌, ◌<◌, ◌⊎◌, ⊎_elim, inl, inr, List, [], ◌∷◌, ◌++◌, length, set, slice_index, Contains, Option, Some, None, length-set, get_or-set_other}
use mathlib.Core.Logic.{dite}
use mathlib.Core.Option.{some}
use mathlib.Core.Option as maybe
use native.Mathlib.Decide.{ℕ_discrete}
use lib.ListN.{get_elem?}
use Rattle.atomic_table.proofs.Lists.{at_longer, at_set as at-set-cases, at_snoc, set_else}
use Rattle.lio_values.specs.declared.entry.Entry.{Entry}
use Rattle.lio_calculus.specs.Journals.{of_cell}
use Rattle.lio_task.specs.declared.config.Holder.{Holder}
use Rattle.lio_table.specs.declared.view.Beginning.{Beginning}
use Rattle.lio_table.specs.declared.view.Claimed.{Claimed}
use Rattle.lio_table.specs.declared.view.View.{View}
use Rattle.lio_table.specs.Views.{HasLog, HoldsNode}
use Rattle.lio_table.specs.Rule.{HaveOwners, IsAt, IsHeldBy, TableState}
use Rattle.lio_table.proofs.Lists.{at-one, at-set, put, put-else, put-here}

-- a seat that holds a node in some list of views
abbrev pub Holding : List View → ℕ → ℕ → Type 0
Holding views seat n = (view : View) × (get_elem? views seat ≡ some view) × HoldsNode view n

-- a node stays where it is
pub stays-at : (first : Beginning) (journal more : List Entry) (s t : TableState) (n : ℕ) (place : Option ℕ) → IsAt first journal s n place → slice_index t.words (n + 1) ≡ slice_index s.words (n + 1)
    → get_elem? t.homes n ≡ get_elem? s.homes n → (place ≡ None → of_cell n more ≡ of_cell n journal) → ((seat : ℕ) (view : View) → get_elem? s.views seat ≡ some view → HoldsNode view n → Holding t.views seat n)
    → IsAt first more t n place
stays-at first journal more s t n None is word slot home views =
    record { word = word ∙ is.word; holder = is.holder; slot = slot ∙ is.slot; has_log = subst (λ log. HasLog first n log is.holder) (sym (home refl)) is.has_log }
stays-at first journal more s t n (Some seat) is word slot home views =
    let now = views seat is.view is.is_view is.holds in
    record { word = word ∙ is.word; slot = slot ∙ is.slot; view = now.0; is_view = now.1; holds = now.2 }

-- a node is held as before where one view has changed
pub holding-set : (views : List View) (id : ℕ) (old new : View) (n : ℕ) → get_elem? views id ≡ some old → (HoldsNode old n → HoldsNode new n)
    → (seat : ℕ) (view : View) → get_elem? views seat ≡ some view → HoldsNode view n → Holding (set views id new) seat n
holding-set views id old new n is keeps seat view at holds = dite (ℕ_discrete seat id)
    (λ same. let same_view : view ≡ old = at-one views id view old (subst (λ j. get_elem? views j ≡ some view) same at) is in
    (new, subst (λ j. get_elem? (set views id new) j ≡ some new) (sym same) (at-set views id old new is), keeps (subst (λ v. HoldsNode v n) same_view holds)))
    (λ other. (view, set_else views id seat new other ∙ at, holds))

module _ (first : Beginning) (journal : List Entry) (s : TableState) (owners : HaveOwners first journal s) (id : ℕ) (old new : View) (is : get_elem? s.views id ≡ some old) where
  -- a seat's view has changed, and it holds what it held
  pub owners-set : ((n : ℕ) → HoldsNode old n → HoldsNode new n) → ((node : Claimed) → Contains new.claimed node → Contains old.claimed node)
      → HaveOwners first journal (record { words = s.words; homes = s.homes; views = set s.views id new })
  owners-set more less = record {
    owner = owners.owner;
    words = owners.words;
    slots = owners.slots;
    nodes = λ n within. stays-at first journal journal s _ n (owners.owner n) (owners.nodes n within) refl refl (λ home. refl) (holding-set s.views id old new n is (more n));
    seats = λ seat view at node has. ⊎_elim
        (λ t. subst (λ (j : ℕ). IsHeldBy first journal owners.owner j node) (sym t.0) (owners.seats id old is node (less node (subst (λ v. Contains v.claimed node) (sym t.1) has))))
        (λ t. owners.seats seat view t.1 node has) (at-set-cases s.views id seat new view at);
  }

  -- one node has come to a seat or has left it
  module _ (n x : ℕ) (homes : List (maybe.Option (Option Holder))) (place : Option ℕ) (within : n < length first.holders) (mine : (owners.owner n ≡ None) ⊎ (owners.owner n ≡ Some id))
      (size : length homes ≡ length s.homes) (others : (m : ℕ) → (m ≡ n → ⊥) → get_elem? homes m ≡ get_elem? s.homes m)
      (here : IsAt first journal (record { words = set s.words (n + 1) x; homes = homes; views = set s.views id new }) n place)
      (more : (m : ℕ) → (m ≡ n → ⊥) → HoldsNode old m → HoldsNode new m)
      (held : (node : Claimed) → Contains new.claimed node → ((node.number ≡ n → ⊥) × Contains old.claimed node) ⊎ ((place ≡ Some id) × (node.number ≡ n) × (node.log ≡ of_cell n journal))) where
    abbrev after : TableState
    after = record { words = set s.words (n + 1) x; homes = homes; views = set s.views id new }

    abbrev owner-after : ℕ → Option ℕ
    owner-after = put owners.owner n place

    -- a node with another seat isn't this one
    elsewhere : (seat : ℕ) (node : Claimed) → (seat ≡ id → ⊥) → IsHeldBy first journal owners.owner seat node → node.number ≡ n → ⊥
    elsewhere seat node other by_seat same = ⊎_elim (λ none. clash_none (sym by_seat.owned ∙ ap owners.owner same ∙ none)) (λ some_id. other (clash (sym by_seat.owned ∙ ap owners.owner same ∙ some_id))) mine
      where
        clash_none : Some seat ≡ None → ⊥
        clash_none e = absurd (cc)

        clash : Some seat ≡ Some id → seat ≡ id
        clash e = cc

    stays : (seat : ℕ) (node : Claimed) → (node.number ≡ n → ⊥) → IsHeldBy first journal owners.owner seat node → IsHeldBy first journal owner-after seat node
    stays seat node other by_seat = record { within = by_seat.within; owned = put-else owners.owner n place node.number other ∙ by_seat.owned; log = by_seat.log }

    pub owners-move : HaveOwners first journal after
    owners-move = record {
      owner = owner-after;
      words = length-set s.words (n + 1) x ∙ owners.words;
      slots = size ∙ owners.slots;
      nodes = λ m inside. dite (ℕ_discrete m n)
          (λ same. subst (λ k. IsAt first journal after k (owner-after k)) (sym same) (subst (IsAt first journal after n) (sym (put-here owners.owner n place)) here))
          (λ other. subst (IsAt first journal after m) (sym (put-else owners.owner n place m other))
          (stays-at first journal journal s after m (owners.owner m) (owners.nodes m inside) (get_or-set_other s.words (n + 1) (m + 1) x 0 (λ e. other (omega arith)))
          (others m other) (λ home. refl) (holding-set s.views id old new m is (more m other))));
      seats = λ seat view at node has. ⊎_elim
          (λ t. subst (λ (j : ℕ). IsHeldBy first journal owner-after j node) (sym t.0) (mine-after node (held node (subst (λ v. Contains v.claimed node) (sym t.1) has))))
          (λ t. stays seat node (elsewhere seat node t.0 (owners.seats seat view t.1 node has)) (owners.seats seat view t.1 node has)) (at-set-cases s.views id seat new view at);
    }
      where
        mine-after : (node : Claimed) → ((node.number ≡ n → ⊥) × Contains old.claimed node) ⊎ ((place ≡ Some id) × (node.number ≡ n) × (node.log ≡ of_cell n journal)) → IsHeldBy first journal owner-after id node
        mine-after node (inl t) = stays id node t.0 (owners.seats id old is node t.1)
        mine-after node (inr t) = record {
          within = subst (λ m. m < length first.holders) (sym t.1) within;
          owned = ap owner-after t.1 ∙ put-here owners.owner n place ∙ t.0;
          log = t.2 ∙ ap (λ m. of_cell m journal) (sym t.1);
        }

-- a seat that holds nothing has come
pub owners-push : (first : Beginning) (journal : List Entry) (s : TableState) (new : View) → HaveOwners first journal s → new.claimed ≡ []
    → HaveOwners first journal (record { words = s.words; homes = s.homes; views = s.views ++ new ∷ [] })
owners-push first journal s new owners none = record {
  owner = owners.owner;
  words = owners.words;
  slots = owners.slots;
  nodes = λ n within. stays-at first journal journal s _ n (owners.owner n) (owners.nodes n within) refl refl (λ home. refl) (λ seat view at holds. (view, at_longer s.views (new ∷ []) seat view at, holds));
  seats = λ seat view at node has. ⊎_elim (λ there. owners.seats seat view there node has)
      (λ same. absurd (nothing node (subst (λ nodes. Contains nodes node) (ap (λ (v : View). v.claimed) (sym same) ∙ none) has))) (at_snoc s.views new view seat at);
}
  where
    nothing : (node : Claimed) → Contains [] node → ⊥
    nothing node (k, within, at) = absurd (omega arith)
