-- Which tickets the seats have, after a step.
use Rattle.std.proofs.Common.{◌≡◌, ◌∙◌, sym, ap, subst, arith, ℕ, ◌+◌, ◌^◌, ◌<◌, ⊎_elim, Bool, true, Option, List, [], ◌∷◌, ◌++◌, length, set, slice_index, Contains, count_by, sum_by}
use mathlib.Core.Option.{some}
use mathlib.Core.Option as maybe
use lib.ListN.{get_elem?}
use Rattle.atomic_table.proofs.Lists.{at_set as at-set-cases, at_snoc}
use Rattle.lio_values.specs.declared.entry.Entry.{Entry}
use Rattle.lio_task.specs.declared.config.Holder.{Holder}
use Rattle.lio_table.specs.declared.view.Beginning.{Beginning}
use Rattle.lio_table.specs.declared.view.View.{View}
use Rattle.lio_table.specs.Views.{rights}
use Rattle.lio_table.specs.Rule.{AreDrawn, HasRights, TableState}
use Rattle.lio_table.proofs.Lists.{count-all, sum-has, sum-has_two, sum-plus, sum-set}

-- how many entries that pass a test a seat has drawn the tickets for
abbrev pub drawn-by : (Entry → Bool) → View → ℕ
drawn-by p view = count_by p view.drawn

-- each seat's rights, after a seat's view has changed
pub rights-set : (first : Beginning) (count : ℕ) (views : List View) (id : ℕ) (new : View) → HasRights first count new
    → ((seat : ℕ) (view : View) → get_elem? views seat ≡ some view → HasRights first count view) → (seat : ℕ) (view : View) → get_elem? (set views id new) seat ≡ some view → HasRights first count view
rights-set first count views id new mine others seat view at = ⊎_elim (λ t. subst (HasRights first count) t.1 mine) (λ t. others seat view t.1) (at-set-cases views id seat new view at)

-- and after one has come
pub rights-push : (first : Beginning) (count : ℕ) (views : List View) (new : View) → HasRights first count new
    → ((seat : ℕ) (view : View) → get_elem? views seat ≡ some view → HasRights first count view) → (seat : ℕ) (view : View) → get_elem? (views ++ new ∷ []) seat ≡ some view → HasRights first count view
rights-push first count views new mine others seat view at = ⊎_elim (λ there. others seat view there) (λ same. subst (HasRights first count) same mine) (at_snoc views new view seat at)

module _ (first : Beginning) (journal : List Entry) (s : TableState) (tickets : AreDrawn first journal s) where
  -- as many tickets were drawn as the journal has entries
  pub drawn-many : sum_by (λ view. length view.drawn) s.views ≡ length journal
  drawn-many = along s.views ∙ tickets.drawn (λ entry. true) ∙ count-all journal
    where
      along : (views : List View) → sum_by (λ view. length view.drawn) views ≡ sum_by (λ view. count_by (λ entry. true) view.drawn) views
      along views = λ i. sum_by (λ view. sym (count-all view.drawn) i) views

  -- while a seat has one left, there are fewer than all
  pub drawn-below : (id : ℕ) (view : View) → get_elem? s.views id ≡ some view → 0 < view.left → length journal < 2 ^ 62
  drawn-below id view is left =
      let parts = sum-plus (λ (v : View). length v.drawn) (λ (v : View). v.left) s.views in
      let has = sum-has (λ (v : View). v.left) s.views id view is in
      let many = drawn-many in
      let all = tickets.all in omega (arith, parts, has, many, all, left)

  -- where a seat has all tickets, no other has one
  pub alone : (id : ℕ) (view : View) → get_elem? s.views id ≡ some view → rights view ≡ 2 ^ 62 → (seat : ℕ) (other : View) → (seat ≡ id → ⊥) → get_elem? s.views seat ≡ some other → rights other ≡ 0
  alone id view is mine seat other apart at =
      let two = sum-has_two rights s.views id seat view other is at apart in
      let all = tickets.all in omega (arith, two, all, mine)

  module _ (id : ℕ) (old : View) (is : get_elem? s.views id ≡ some old) where
    -- a seat's view has changed, but not its tickets
    pub tickets-stay : (words : List ℕ) (homes : List (maybe.Option (Option Holder))) (new : View) → slice_index words 0 ≡ slice_index s.words 0 → 0 < rights old → new.first ≡ old.first
        → new.drawn ≡ old.drawn → new.left ≡ old.left → AreDrawn first journal (record { words = words; homes = homes; views = set s.views id new })
    tickets-stay words homes new word some_of same_first same_drawn same_left =
        let same : rights new ≡ rights old = λ i. length (same_drawn i) + same_left i in
        let before : HasRights first (length journal) old = tickets.seats id old is in
        record {
          next = word ∙ tickets.next;
          all = let changed = sum-set rights s.views id old new is in let all = tickets.all in omega (arith, changed, all, same);
          drawn = λ p. let same_count : drawn-by p new ≡ drawn-by p old = ap (count_by p) same_drawn in let changed = sum-set (drawn-by p) s.views id old new is in let drawn = tickets.drawn p in omega (arith, changed, drawn, same_count);
          seats = rights-set first (length journal) s.views id new (record {
            below = λ draw has. before.below draw (subst (λ draws. Contains draws draw) same_drawn has);
            knows = λ some_of'. same_first ∙ before.knows some_of;
            spent = λ none. absurd (omega (arith, none, same, some_of));
          }) tickets.seats;
        }
