-- A seat that is cut in two, and two that are made one, keep the rule.
use Rattle.std.proofs.Common.{◌≡◌, ◌∙◌, refl, sym, subst, arith, ℕ, ◌+◌, ◌<◌, ◌≤◌, ◌⊎◌, inl, inr, cond, List, [], ◌∷◌, ◌++◌, length, set, Contains, length-append}
use Rattle.std.proofs.lemmas.List.Elements.{Contains-append_cases}
use Rattle.std.proofs.lemmas.List.Sums.{sum_by-append, sum_by_push}
use mathlib.Core.Option.{some}
use lib.ListN.{get_elem?}
use Rattle.atomic_table.proofs.Lists.{set_else}
use Rattle.lio_values.specs.declared.entry.Entry.{Entry}
use Rattle.lio_table.specs.declared.view.Beginning.{Beginning}
use Rattle.lio_table.specs.declared.view.Claimed.{Claimed}
use Rattle.lio_table.specs.declared.view.View.{View}
use Rattle.lio_table.specs.Views.{HoldsNode, rights}
use Rattle.lio_table.specs.Rule.{AreDrawn, HaveOwners, Keeps, KeepsWith, TableState}
use Rattle.lio_table.specs.Laws.{JoinsUnder, SplitsUnder}
use Rattle.lio_table.specs.Cuts.{cut_left, cut_right, joined, spent}
use Rattle.lio_table.proofs.Lists.{sum-set}
use Rattle.lio_table.proofs.Seats.{owners-push, owners-set}
use Rattle.lio_table.proofs.Tickets.{drawn-by, rights-push, rights-set}

no-entry : (entry : Entry) → Contains [] entry → ⊥
no-entry entry (k, within, at) = absurd (omega arith)

no-node : (node : Claimed) → Contains [] node → ⊥
no-node node (k, within, at) = absurd (omega arith)

-- a view that holds what another holds
same-nodes : (old new : View) (n : ℕ) → new.claimed ≡ old.claimed → HoldsNode old n → HoldsNode new n
same-nodes old new n same holds = record { node = holds.node; has = subst (λ nodes. Contains nodes holds.node) (sym same) holds.has; number = holds.number }

module _ (first : Beginning) (id : ℕ) (view : View) (tickets : ℕ) (some_of : 1 ≤ tickets) (less : tickets < view.left) (s : TableState) (kept : Keeps first s) (is : get_elem? s.views id ≡ some view) where
  abbrev left : View
  left = cut_left tickets view

  abbrev right : View
  right = cut_right tickets view

  abbrev cut : TableState
  cut = record { words = s.words; homes = s.homes; views = set s.views id left }

  knows : view.first ≡ first
  knows = (kept.tickets.seats id view is).knows (omega (arith, less))

  cut-owners : HaveOwners first kept.journal cut
  cut-owners = owners-set first kept.journal s kept.owners id view left is (λ n holds. same-nodes view left n refl holds) (λ node has. has)

  cut-tickets : AreDrawn first kept.journal (record { words = s.words; homes = s.homes; views = set s.views id left ++ right ∷ [] })
  cut-tickets = record {
    next = kept.tickets.next;
    all =
        let changed = sum-set rights s.views id view left is in
        let push = sum_by_push rights (set s.views id left) right in
        let all = kept.tickets.all in omega (arith, changed, push, all, less);
    drawn = λ p.
        let changed = sum-set (drawn-by p) s.views id view left is in
        let push = sum_by_push (drawn-by p) (set s.views id left) right in
        let drawn = kept.tickets.drawn p in omega (arith, changed, push, drawn);
    seats = rights-push first (length kept.journal) (set s.views id left) right (record {
      below = λ entry has. absurd (no-entry entry has);
      knows = λ some. knows;
      spent = λ none. refl;
    }) (rights-set first (length kept.journal) s.views id left (record {
      below = (kept.tickets.seats id view is).below;
      knows = λ some. knows;
      spent = λ none. absurd (omega (arith, none, less));
    }) kept.tickets.seats);
  }

  cut-keeps : KeepsWith first kept.journal (record { words = s.words; homes = s.homes; views = set s.views id left ++ right ∷ [] })
  cut-keeps = (
    record {
      journal = kept.journal;
      owners = owners-push first kept.journal cut right cut-owners refl;
      tickets = cut-tickets;
      turns = kept.turns;
    },
    refl,
  )

-- the journal stays as it was, and so the rule is kept
pub split-leaves : (first : Beginning) (journal : List Entry) → SplitsUnder (KeepsWith first journal)
split-leaves first journal id view tickets some_of less s (kept, same) is =
    let after = cut-keeps first id view tickets some_of less s kept is in (after.0, after.1 ∙ same)

pub split-kept : (first : Beginning) → SplitsUnder (Keeps first)
split-kept first id view tickets some_of less s kept is = (cut-keeps first id view tickets some_of less s kept is).0

module _ (first : Beginning) (id : ℕ) (view : View) (other : ℕ) (its : View) (some_of : 0 < rights view) (bare : its.claimed ≡ []) (s : TableState) (kept : Keeps first s)
    (is : get_elem? s.views id ≡ some view) (apart : ¬ (other ≡ id)) (is_its : get_elem? (set s.views id (joined view its)) other ≡ some its) where
  abbrev both : View
  both = joined view its

  abbrev taken : TableState
  taken = record { words = s.words; homes = s.homes; views = set s.views id both }

  abbrev after : TableState
  after = record { words = s.words; homes = s.homes; views = set (set s.views id both) other spent }

  was : get_elem? s.views other ≡ some its
  was = sym (set_else s.views id other both apart) ∙ is_its

  joined-owners : HaveOwners first kept.journal after
  joined-owners =
      owners-set first kept.journal taken (owners-set first kept.journal s kept.owners id view both is (λ n holds. same-nodes view both n refl holds) (λ node has. has)) other its spent is_its
      (λ n holds. same-nodes its spent n (sym bare) holds) (λ node has. absurd (no-node node has))

  joined-rights : rights both ≡ rights view + rights its
  joined-rights = let more = length-append its.drawn view.drawn in omega (arith, more)

  joined-tickets : AreDrawn first kept.journal after
  joined-tickets = record {
    next = kept.tickets.next;
    all =
        let one = sum-set rights s.views id view both is in
        let two = sum-set rights (set s.views id both) other its spent is_its in
        let all = kept.tickets.all in
        let rights_are = joined-rights in omega (arith, one, two, all, rights_are);
    drawn = λ p.
        let one = sum-set (drawn-by p) s.views id view both is in
        let two = sum-set (drawn-by p) (set s.views id both) other its spent is_its in
        let drawn = kept.tickets.drawn p in
        let counts = sum_by-append (λ (e : Entry). cond (p e) 1 0) its.drawn view.drawn in omega (arith, one, two, drawn, counts);
    seats = rights-set first (length kept.journal) (set s.views id both) other spent (record {
      below = λ entry has. absurd (no-entry entry has);
      knows = λ none. absurd (omega (arith, none));
      spent = λ none. refl;
    }) (rights-set first (length kept.journal) s.views id both (record {
      below = λ entry has. below entry (Contains-append_cases its.drawn view.drawn entry has);
      knows = λ some. (kept.tickets.seats id view is).knows some_of;
      spent = λ none. let rights_are = joined-rights in absurd (omega (arith, none, rights_are, some_of));
    }) kept.tickets.seats);
  }
    where
      below : (entry : Entry) → Contains its.drawn entry ⊎ Contains view.drawn entry → entry.ticket < length kept.journal
      below entry (inl has) = (kept.tickets.seats other its was).below entry has
      below entry (inr has) = (kept.tickets.seats id view is).below entry has

  joined-keeps : KeepsWith first kept.journal after
  joined-keeps = (record { journal = kept.journal; owners = joined-owners; tickets = joined-tickets; turns = kept.turns }, refl)

-- the journal stays as it was, and so the rule is kept
pub join-leaves : (first : Beginning) (journal : List Entry) → JoinsUnder (KeepsWith first journal)
join-leaves first journal id view other its some_of bare s (kept, same) is apart is_its =
    let after = joined-keeps first id view other its some_of bare s kept is apart is_its in (after.0, after.1 ∙ same)

pub join-kept : (first : Beginning) → JoinsUnder (Keeps first)
join-kept first id view other its some_of bare s kept is apart is_its = (joined-keeps first id view other its some_of bare s kept is apart is_its).0
