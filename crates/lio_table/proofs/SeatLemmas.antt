-- The nodes of a seat and the slots that are out with it.
use Rattle.std.proofs.Common.{◌≡◌, ◌∙◌, refl, sym, ap, subst, arith, ℕ, zero, suc, ◌<◌, ◌⊎◌, inl, inr, true, cond, not, eq-eqb, ne_eqb, List, [], ◌∷◌, length, Contains, Option, Some, None, is_some}
use mathlib.Core.Option.{some, some-injective, some-ne-none}
use lib.ListN.{get_elem?}
use Rattle.atomic_table.specs.Table.{rest, turned}
use Rattle.lio_calculus.proofs.JournalLemmas.{has-cases, has-first, has-later}
use Rattle.lio_cells.specs.declared.waiter.Waiter.{Waiter}
use Rattle.lio_task.specs.declared.config.Holder.{Holder}
use Rattle.lio_table.specs.declared.view.Beginning.{Beginning}
use Rattle.lio_table.specs.declared.view.Claimed.{Claimed}
use Rattle.lio_table.specs.declared.view.View.{View}
use Rattle.lio_table.specs.Views.{HasLog, HoldsNode, rights}
use Rattle.lio_table.specs.Steps.{CanGive, GivesNode, SeatState, TakesNode, with_given, without}
use Rattle.lio_table.specs.Claims.{GiveSays}
use Rattle.lio_table.specs.Holders.{PutsBack}
use Rattle.lio_table.specs.Seats.{AreOut, HaveNumbers, IsOut}

-- a node that stands first among the slots, and what is left without it
pub record StandsFirst (first : Beginning) (n last other : ℕ) (nodes : List Claimed) (slots : List (ℕ × Option Holder)) : Type 0 where
  pub within : n < length first.holders
  pub holder : Holder
  pub rest : List (ℕ × Option Holder)
  pub is : slots ≡ (n, Some holder) ∷ rest
  pub node : Claimed
  pub has : Contains nodes node
  pub number : node.number ≡ n
  pub has_log : HasLog first n node.log holder
  pub waiters : holder.node.waiters ≡ node.found
  pub out : AreOut first (without n nodes) rest
  pub numbers : HaveNumbers last other (without n nodes)

pub no-node : (node : Claimed) → Contains [] node → ⊥
no-node node (k, within, at) = absurd (omega arith)

-- filters of one and two nodes
pub passes : (n : ℕ) (one : Claimed) (rest : List Claimed) → (one.number ≡ n → ⊥) → without n (one ∷ rest) ≡ one ∷ without n rest
passes n one rest other = ap (λ b. cond (not b) (one ∷ without n rest) (without n rest)) (ne_eqb one.number n other)

pub falls : (n : ℕ) (one : Claimed) (rest : List Claimed) → one.number ≡ n → without n (one ∷ rest) ≡ without n rest
falls n one rest same = ap (λ b. cond (not b) (one ∷ without n rest) (without n rest)) (eq-eqb one.number n same)

pub out-none : (first : Beginning) → AreOut first [] []
out-none first = record { size = refl; each = λ k node slot is is'. absurd (some-ne-none node (sym is)) }

out-one : (first : Beginning) (node : Claimed) (slot : ℕ × Option Holder) → IsOut first node slot → AreOut first (node ∷ []) (slot ∷ [])
out-one first node slot out = record { size = refl; each = each }
  where
    each : (k : ℕ) (a : Claimed) (x : ℕ × Option Holder) → get_elem? (node ∷ []) k ≡ some a → get_elem? (slot ∷ []) k ≡ some x → IsOut first a x
    each zero a x is is' = subst (λ (t : Claimed × (ℕ × Option Holder)). IsOut first t.0 t.1) (λ i. (some-injective node a is i, some-injective slot x is' i)) out
    each (suc k) a x is is' = absurd (some-ne-none a (sym is))

pub numbers-none : (last other : ℕ) → HaveNumbers last other []
numbers-none last other = record { few = omega arith; last = λ node is. absurd (some-ne-none node (sym is)); other = λ node is. absurd (some-ne-none node (sym is)) }

numbers-one : (last other : ℕ) (node : Claimed) → node.number ≡ last → HaveNumbers last other (node ∷ [])
numbers-one last other node number = record { few = omega arith; last = λ a is. ap (λ (x : Claimed). x.number) (sym (some-injective node a is)) ∙ number; other = λ a is. absurd (some-ne-none a (sym is)) }

-- the holder in a slot
holder-in : (first : Beginning) (node : Claimed) (slot : ℕ × Option Holder) → IsOut first node slot → (holder : Holder) × (slot.1 ≡ Some holder)
holder-in first node slot out = by slot.1 out.full
  where
    by : (held : Option Holder) → is_some held ≡ true → (holder : Holder) × (held ≡ Some holder)
    by None full = absurd (cc)
    by (Some holder) full = (holder, refl)

-- the node that was claimed last
pub last-first : (first : Beginning) (last other n : ℕ) (nodes : List Claimed) (slots : List (ℕ × Option Holder)) (node : Claimed) → AreOut first nodes slots → HaveNumbers last other nodes → Contains nodes node
    → node.number ≡ n → n ≡ last → StandsFirst first n other other nodes slots
last-first first last other n [] slots node out numbers has number is = absurd (no-node node has)
last-first first last other n (one ∷ nodes) [] node out numbers has number is = let size = out.size in absurd (omega (arith, size))
last-first first last other n (one ∷ []) (x ∷ y ∷ slots) node out numbers has number is = let size = out.size in absurd (omega (arith, size))
last-first first last other n (one ∷ two ∷ []) (x ∷ []) node out numbers has number is = let size = out.size in absurd (omega (arith, size))
last-first first last other n (one ∷ two ∷ []) (x ∷ y ∷ z ∷ slots) node out numbers has number is = let size = out.size in absurd (omega (arith, size))
last-first first last other n (one ∷ two ∷ three ∷ nodes) (x ∷ slots) node out numbers has number is = let few = numbers.few in absurd (omega (arith, few))
last-first first last other n (one ∷ []) (x ∷ []) node out numbers has number is =
    let here = out.each 0 one x refl refl in
    let held = holder-in first one x here in
    let same : one.number ≡ n = numbers.last one refl ∙ sym is in
    let left : [] ≡ without n (one ∷ []) = sym (falls n one [] same) in
    record {
      within = subst (λ m. m < length first.holders) same here.within;
      holder = held.0;
      rest = [];
      is = λ i. ((here.number ∙ same) i, held.1 i) ∷ [];
      node = one;
      has = has-first one [];
      number = same;
      has_log = subst (λ m. HasLog first m one.log held.0) same (here.has_log held.0 held.1);
      waiters = here.waiters held.0 held.1;
      out = subst (λ ns. AreOut first ns []) left (out-none first);
      numbers = subst (HaveNumbers other other) left (numbers-none other other);
    }
last-first first last other n (one ∷ two ∷ []) (x ∷ y ∷ []) node out numbers has number is =
    let here = out.each 0 one x refl refl in
    let there = out.each 1 two y refl refl in
    let held = holder-in first one x here in
    let same : one.number ≡ n = numbers.last one refl ∙ sym is in
    let its = numbers.other two refl in
    let left : two ∷ [] ≡ without n (one ∷ two ∷ []) = sym (falls n one (two ∷ []) same ∙ passes n two [] (λ e. its.1 (sym is ∙ sym e ∙ its.0))) in
    record {
      within = subst (λ m. m < length first.holders) same here.within;
      holder = held.0;
      rest = y ∷ [];
      is = λ i. ((here.number ∙ same) i, held.1 i) ∷ y ∷ [];
      node = one;
      has = has-first one (two ∷ []);
      number = same;
      has_log = subst (λ m. HasLog first m one.log held.0) same (here.has_log held.0 held.1);
      waiters = here.waiters held.0 held.1;
      out = subst (λ ns. AreOut first ns (y ∷ [])) left (out-one first two y there);
      numbers = subst (HaveNumbers other other) left (numbers-one other other two its.0);
    }

-- the node that was claimed before, once the slots are turned
pub other-first : (first : Beginning) (last other n : ℕ) (nodes : List Claimed) (slots : List (ℕ × Option Holder)) (node : Claimed) → AreOut first nodes slots → HaveNumbers last other nodes → Contains nodes node
    → node.number ≡ n → (n ≡ last → ⊥) → StandsFirst first n last other nodes (turned slots)
other-first first last other n [] slots node out numbers has number apart = absurd (no-node node has)
other-first first last other n (one ∷ []) slots node out numbers has number apart = by (has-cases one [] node has)
  where
    by : (one ≡ node) ⊎ Contains [] node → StandsFirst first n last other (one ∷ []) (turned slots)
    by (inl same) = absurd (apart (sym number ∙ ap (λ (x : Claimed). x.number) (sym same) ∙ numbers.last one refl))
    by (inr none) = absurd (no-node node none)
other-first first last other n (one ∷ two ∷ []) [] node out numbers has number apart = let size = out.size in absurd (omega (arith, size))
other-first first last other n (one ∷ two ∷ []) (x ∷ []) node out numbers has number apart = let size = out.size in absurd (omega (arith, size))
other-first first last other n (one ∷ two ∷ []) (x ∷ y ∷ z ∷ slots) node out numbers has number apart = let size = out.size in absurd (omega (arith, size))
other-first first last other n (one ∷ two ∷ three ∷ nodes) slots node out numbers has number apart = let few = numbers.few in absurd (omega (arith, few))
other-first first last other n (one ∷ two ∷ []) (x ∷ y ∷ []) node out numbers has number apart =
    let here = out.each 0 one x refl refl in
    let there = out.each 1 two y refl refl in
    let held = holder-in first two y there in
    let same : two.number ≡ n = second (has-cases one (two ∷ []) node has) in
    let left : one ∷ [] ≡ without n (one ∷ two ∷ []) = sym (passes n one (two ∷ []) (λ e. apart (sym e ∙ numbers.last one refl)) ∙ ap (λ ns. one ∷ ns) (falls n two [] same)) in
    record {
      within = subst (λ m. m < length first.holders) same there.within;
      holder = held.0;
      rest = x ∷ [];
      is = λ i. ((there.number ∙ same) i, held.1 i) ∷ x ∷ [];
      node = two;
      has = has-later one (two ∷ []) two (has-first two []);
      number = same;
      has_log = subst (λ m. HasLog first m two.log held.0) same (there.has_log held.0 held.1);
      waiters = there.waiters held.0 held.1;
      out = subst (λ ns. AreOut first ns (x ∷ [])) left (out-one first one x here);
      numbers = subst (HaveNumbers last other) left (numbers-one last other one (numbers.last one refl));
    }
  where
    second : (one ≡ node) ⊎ Contains (two ∷ []) node → two.number ≡ n
    second (inl same) = absurd (apart (sym number ∙ ap (λ (x : Claimed). x.number) (sym same) ∙ numbers.last one refl))
    second (inr later) = by (has-cases two [] node later)
      where
        by : (two ≡ node) ⊎ Contains [] node → two.number ≡ n
        by (inl same) = ap (λ (x : Claimed). x.number) same ∙ number
        by (inr none) = absurd (no-node node none)

-- a seat holds one node with a number
pub one-node : (last other : ℕ) (nodes : List Claimed) (one two : Claimed) → HaveNumbers last other nodes → Contains nodes one → Contains nodes two → one.number ≡ two.number → one ≡ two
one-node last other [] one two numbers has has' same = absurd (no-node one has)
one-node last other (a ∷ []) one two numbers has has' same = is-first one (has-cases a [] one has) ∙ sym (is-first two (has-cases a [] two has'))
  where
    is-first : (x : Claimed) → (a ≡ x) ⊎ Contains [] x → x ≡ a
    is-first x (inl is) = sym is
    is-first x (inr none) = absurd (no-node x none)
one-node last other (a ∷ b ∷ []) one two numbers has has' same = by (place one has) (place two has')
  where
    place : (x : Claimed) → Contains (a ∷ b ∷ []) x → (a ≡ x) ⊎ (b ≡ x)
    place x there = first (has-cases a (b ∷ []) x there)
      where
        second : (b ≡ x) ⊎ Contains [] x → (a ≡ x) ⊎ (b ≡ x)
        second (inl is) = inr is
        second (inr none) = absurd (no-node x none)

        first : (a ≡ x) ⊎ Contains (b ∷ []) x → (a ≡ x) ⊎ (b ≡ x)
        first (inl is) = inl is
        first (inr later) = second (has-cases b [] x later)

    apart : a.number ≡ b.number → ⊥
    apart e = let its = numbers.other b refl in its.1 (sym (numbers.last a refl) ∙ e ∙ its.0)

    by : (a ≡ one) ⊎ (b ≡ one) → (a ≡ two) ⊎ (b ≡ two) → one ≡ two
    by (inl is) (inl is') = sym is ∙ is'
    by (inr is) (inr is') = sym is ∙ is'
    by (inl is) (inr is') = absurd (apart (ap (λ (x : Claimed). x.number) is ∙ same ∙ sym (ap (λ (x : Claimed). x.number) is')))
    by (inr is) (inl is') = absurd (apart (ap (λ (x : Claimed). x.number) is' ∙ sym same ∙ sym (ap (λ (x : Claimed). x.number) is)))
one-node last other (a ∷ b ∷ c ∷ nodes) one two numbers has has' same = let few = numbers.few in absurd (omega (arith, few))

-- so it can be given back
pub stands-can_give : (n last other : ℕ) (me : SeatState) → StandsFirst me.0.first n last other me.0.claimed me.1 → CanGive n me
stands-can_give n last other me stands = record {
  holder = stands.holder;
  rest = stands.rest;
  slot = stands.is;
  holds = record { node = stands.node; has = stands.has; number = stands.number };
  has_log = stands.has_log;
}

-- what a seat keeps after its first slot's node was given back
pub record KeptAfter (last other : ℕ) (old new : SeatState) : Type 0 where
  pub left : new.0.left ≡ old.0.left
  pub used : 0 < rights new.0
  pub numbers : HaveNumbers last other new.0.claimed
  pub out : AreOut new.0.first new.0.claimed new.1

pub given-after : (n last other : ℕ) (old new : SeatState) → StandsFirst old.0.first n last other old.0.claimed old.1 → GivesNode n old new → 0 < rights old.0 → KeptAfter last other old new
given-after n last other old new stands given used =
    let slots : stands.rest ≡ new.1 = ap rest (sym stands.is ∙ given.slot) in
    let claimed : without n old.0.claimed ≡ new.0.claimed = ap (λ m. without m old.0.claimed) (sym given.holds.number) ∙ sym (ap (λ (v : View). v.claimed) given.view) in
    let same_rights : rights new.0 ≡ rights old.0 = ap rights given.view in
    record {
      left = ap (λ (v : View). v.left) given.view;
      used = subst (λ m. 0 < m) (sym same_rights) used;
      numbers = subst (HaveNumbers last other) claimed stands.numbers;
      out = subst (λ (t : Beginning × (List Claimed × List (ℕ × Option Holder))). AreOut t.0 t.1.0 t.1.1) (λ i. (sym (ap (λ (v : View). v.first) given.view) i, (claimed i, slots i))) stands.out;
    }

-- the holder in the first slot
abbrev held-or : Holder → List (ℕ × Option Holder) → Holder
held-or holder [] = holder
held-or holder ((n, None) ∷ slots) = holder
held-or holder ((n, Some other) ∷ slots) = other

-- and how it was given back: those wait at it who were found at the claim
pub given-says : (n last other l o : ℕ) (old new : SeatState) → HaveNumbers l o old.0.claimed → StandsFirst old.0.first n last other old.0.claimed old.1 → GivesNode n old new → GiveSays n old.0 new.0
given-says n last other l o old new numbers stands given =
    let same_holder : stands.holder ≡ given.holder = ap (held-or stands.holder) (sym stands.is ∙ given.slot) in
    let same_node : stands.node ≡ given.holds.node = one-node l o old.0.claimed stands.node given.holds.node numbers stands.has given.holds.has (stands.number ∙ sym given.holds.number) in
    let waiters : given.holder.node.waiters ≡ given.holds.node.found = ap (λ (h : Holder). h.node.waiters) (sym same_holder) ∙ stands.waiters ∙ ap (λ (x : Claimed). x.found) same_node in
    record { holds = given.holds; view = given.view ∙ ap (λ (ws : List Waiter). with_given given.holds.node ws old.0) waiters }

-- a holder was put back, once the node is given back
pub put-back : (n : ℕ) (holder : Holder) (old mid new : SeatState) (left : List (ℕ × Option Holder)) → old.1 ≡ (n, None) ∷ left → mid ≡ (old.0, (n, Some holder) ∷ rest old.1) → GivesNode n mid new → PutsBack n holder old new
put-back n holder old mid new left slots put given = by (subst (λ (m : SeatState). GivesNode n m new) put given)
  where
    by : GivesNode n (old.0, (n, Some holder) ∷ rest old.1) new → PutsBack n holder old new
    by g =
        let same : holder ≡ g.holder = ap (held-or holder) g.slot in
        record {
          slots = slots ∙ ap (λ xs. (n, None) ∷ xs) (sym (ap rest slots) ∙ ap rest g.slot);
          holds = g.holds;
          view = g.view ∙ ap (λ (h : Holder). with_given g.holds.node h.node.waiters old.0) (sym same);
        }

-- a seat that holds no node has no slot out with it
pub bare-slots : (first : Beginning) (nodes : List Claimed) (slots : List (ℕ × Option Holder)) → AreOut first nodes slots → nodes ≡ [] → slots ≡ []
bare-slots first nodes [] out bare = refl
bare-slots first nodes (slot ∷ slots) out bare = let size = out.size in let none : length nodes ≡ 0 = ap (λ (ns : List Claimed). length ns) bare in absurd (omega (arith, size, none))

-- a seat has claimed a node more
pub out-more : (old new : SeatState) (n : ℕ) → AreOut old.0.first old.0.claimed old.1 → TakesNode n old new → n < length old.0.first.holders → AreOut new.0.first new.0.claimed new.1
out-more old new n out takes within =
    subst (λ (t : View × List (ℕ × Option Holder)). AreOut t.0.first t.0.claimed t.1) (λ i. (sym takes.view i, sym takes.slot i)) (record { size = ap suc out.size; each = each })
  where
    node : Claimed
    node = record { number = n; log = takes.holder.node.log; found = takes.holder.node.waiters }

    here : IsOut old.0.first node (n, Some takes.holder)
    here = record {
      within = within;
      number = refl;
      full = refl;
      has_log = λ holder is. let same : takes.holder ≡ holder = some_same is in subst (HasLog old.0.first n takes.holder.node.log) same takes.has_log;
      waiters = λ holder is. let same : takes.holder ≡ holder = some_same is in ap (λ (h : Holder). h.node.waiters) (sym same);
    }
      where
        some_same : {a b : Holder} → Some a ≡ Some b → a ≡ b
        some_same e = cc

    each : (k : ℕ) (a : Claimed) (x : ℕ × Option Holder) → get_elem? (node ∷ old.0.claimed) k ≡ some a → get_elem? ((n, Some takes.holder) ∷ old.1) k ≡ some x → IsOut old.0.first a x
    each zero a x is is' = subst (λ (t : Claimed × (ℕ × Option Holder)). IsOut old.0.first t.0 t.1) (λ i. (some-injective node a is i, some-injective (n, Some takes.holder) x is' i)) here
    each (suc k) a x is is' = out.each k a x is is'

-- its numbers are those of before, and the new one
pub numbers-more : (n last other : ℕ) (old new : SeatState) → length old.0.claimed < 2 → HaveNumbers last other old.0.claimed → (HoldsNode old.0 n → ⊥) → TakesNode n old new → HaveNumbers n last new.0.claimed
numbers-more n last other old new few numbers not_held takes = subst (HaveNumbers n last) (sym (ap (λ (v : View). v.claimed) takes.view)) (record {
  few = omega (arith, few);
  last = λ a is. ap (λ (x : Claimed). x.number) (sym (some-injective _ a is));
  other = λ a is. (numbers.last a is, (λ same. not_held (record { node = a; has = has-at old.0.claimed a is; number = numbers.last a is ∙ sym same })));
})
  where
    has-at : (nodes : List Claimed) (a : Claimed) → get_elem? nodes 0 ≡ some a → Contains nodes a
    has-at [] a is = absurd (some-ne-none a (sym is))
    has-at (x ∷ nodes) a is = subst (Contains (x ∷ nodes)) (some-injective x a is) (has-first x nodes)
