-- The entries of logs, each where its actor has it, in order of their tickets.
use Rattle.std.proofs.Common.{◌≡◌, ◌∙◌, refl, sym, ap, subst, ℕ, zero, suc, ◌+◌, ◌<◌, ◌≤◌, ◌==◌, ◌⊎◌, inl, inr, arith, Bool, true, false, if◌then◌else◌, List, [], ◌∷◌, ◌++◌, length, get_or, Contains, All, add-one, append_assoc, drop, drop-cons, take}
use Rattle.std.specs.Borrow.{Bor}
use Rattle.std.specs.List.{filter, sum_by}
use Rattle.std.specs.Prelude.{IsPermutation}
use Rattle.std.specs.List.Sorted.{IsNonDecreasingBy}
use Rattle.std.proofs.lemmas.Bool.Decides.{nat_tests}
use Rattle.std.proofs.lemmas.List.{take_all}
use Rattle.std.proofs.lemmas.List.Elements.{All-contains, All-contains_itself, All-map, Contains-append_cases, Contains-append_left, Contains-append_right}
use Rattle.std.proofs.lemmas.List.Kept.{AllPairs-cons}
use Rattle.std.proofs.lemmas.List.Recursion.{is_sum_by}
use Rattle.std.proofs.lemmas.List.Sorted.{All-permutation, IsPermutation-sym, sum_by-IsPermutation}
use Rattle.lio_values.specs.declared.entry.Entry.{Entry}
use Rattle.lio_task.specs.declared.config.Holder.{Holder}
use Rattle.lio_events.specs.Rising.{AreRising}
use Rattle.lio_cells.specs.Node.{IsKept}
use Rattle.lio_calculus.specs.Journals.{AreMergeable, IsMerged}
use Rattle.lio_task.specs.Logs.{logs_of}
use Rattle.lio_rounds.specs.Acted.{acted_from, acted_in, lent}
use Rattle.lio_calculus.proofs.JournalLemmas.{from-part, has-cases, has-first, has-later, has-none, in-part, passes-part, rising-head, rising-tail}

-- how many entries have a ticket
unfoldable pub weight : ℕ → Entry → ℕ
weight ticket entry = if entry.ticket == ticket then 1 else 0

unfoldable pub count : ℕ → List Entry → ℕ
count ticket [] = 0
count ticket (entry ∷ entries) = weight ticket entry + count ticket entries

-- an entry has the ticket, or none has
record Found (ticket : ℕ) (entries : List Entry) : Type 0 where
  entry : Entry
  has : Contains entries entry
  is : entry.ticket ≡ ticket

counted : (ticket : ℕ) (entry : Entry) → entry.ticket ≡ ticket → weight ticket entry ≡ 1
unfolding weight
counted ticket entry is = let same : (entry.ticket == ticket) ≡ true = grind (arith, nat_tests) in ap (λ (b : Bool). if b then 1 else 0) same

uncounted : (ticket : ℕ) (entry : Entry) → (entry.ticket ≡ ticket → ⊥) → weight ticket entry ≡ 0
unfolding weight
uncounted ticket entry other = let apart : (entry.ticket == ticket) ≡ false = grind (arith, nat_tests) in ap (λ (b : Bool). if b then 1 else 0) apart

same-or-other : (i j : ℕ) → (i ≡ j) ⊎ (i ≡ j → ⊥)
same-or-other i j = grind (arith, nat_tests)

count-cases : (ticket : ℕ) (entries : List Entry) → (count ticket entries ≡ 0) ⊎ Found ticket entries
unfolding count
count-cases ticket [] = inl refl
count-cases ticket (entry ∷ entries) = by (same-or-other entry.ticket ticket) (count-cases ticket entries)
  where
    by : (entry.ticket ≡ ticket) ⊎ (entry.ticket ≡ ticket → ⊥) → (count ticket entries ≡ 0) ⊎ Found ticket entries → (weight ticket entry + count ticket entries ≡ 0) ⊎ Found ticket (entry ∷ entries)
    by (inl is) rest = inr (record { entry = entry; has = has-first entry entries; is = is })
    by (inr other) (inl none) = let here : weight ticket entry ≡ 0 = uncounted ticket entry other in inl (omega arith)
    by (inr other) (inr found) = inr (record { entry = found.entry; has = has-later entry entries found.entry found.has; is = found.is })

count-append : (ticket : ℕ) (xs ys : List Entry) → count ticket (xs ++ ys) ≡ count ticket xs + count ticket ys
unfolding count
count-append ticket [] ys = omega arith
count-append ticket (x ∷ xs) ys = let rest = count-append ticket xs ys in omega (arith, rest)

-- in a list with rising tickets each stands once
pub count-rising : (ticket : ℕ) (xs : List Entry) → AreRising xs → count ticket xs ≤ 1
unfolding count
count-rising ticket [] rising = omega arith
count-rising ticket (x ∷ xs) rising = by (same-or-other x.ticket ticket) (count-cases ticket xs) (count-rising ticket xs (rising-tail x xs rising))
  where
    by : (x.ticket ≡ ticket) ⊎ (x.ticket ≡ ticket → ⊥) → (count ticket xs ≡ 0) ⊎ Found ticket xs → count ticket xs ≤ 1 → weight ticket x + count ticket xs ≤ 1
    by (inl is) (inl none) rest = let here : weight ticket x ≡ 1 = counted ticket x is in omega arith
    by (inl is) (inr found) rest =
        let above : x.ticket < found.entry.ticket = rising-head x xs found.entry rising found.has in
        let at : found.entry.ticket ≡ ticket = found.is in absurd (omega arith)
    by (inr other) o rest = let here : weight ticket x ≡ 0 = uncounted ticket x other in omega arith

count-part : (ticket : ℕ) (p : Entry → Bool) (xs : List Entry) → count ticket (filter p xs) ≤ count ticket xs
unfolding count
count-part ticket p [] = omega arith
count-part ticket p (x ∷ xs) = by (p x) (count-part ticket p xs)
  where
    by : (b : Bool) → count ticket (filter p xs) ≤ count ticket xs → count ticket (if b then x ∷ filter p xs else filter p xs) ≤ weight ticket x + count ticket xs
    by true rest = omega arith
    by false rest = omega arith

-- an entry that stands in a list with its ticket counts
count-has : (ticket : ℕ) (xs : List Entry) (e : Entry) → Contains xs e → e.ticket ≡ ticket → 1 ≤ count ticket xs
unfolding count
count-has ticket [] e has is = absurd (has-none e has)
count-has ticket (x ∷ xs) e has is = by (has-cases x xs e has) (λ there. count-has ticket xs e there is)
  where
    by : (x ≡ e) ⊎ Contains xs e → (Contains xs e → 1 ≤ count ticket xs) → 1 ≤ weight ticket x + count ticket xs
    by (inl same) rest = let here : weight ticket x ≡ 1 = counted ticket x (ap (λ (f : Entry). f.ticket) same ∙ is) in omega arith
    by (inr there) rest = let more : 1 ≤ count ticket xs = rest there in omega arith

-- tickets that don't fall and stand once each rise
pub rising-once : (xs : List Entry) → IsNonDecreasingBy (λ (e : Entry). e.ticket) xs → ((ticket : ℕ) → count ticket xs ≤ 1) → AreRising xs
unfolding count
rising-once [] order once = λ i j d before within. absurd (omega arith)
rising-once (x ∷ xs) order once =
    AllPairs-cons (λ a b. a.ticket < b.ticket) x xs
    (λ k d within. above (get_or xs k d) (All-contains_itself xs k d within) (order 0 (suc k) d (omega arith) (omega arith)))
    (rising-once xs (λ i j d le within. order (suc i) (suc j) d (omega arith) (omega arith)) (λ ticket. let all : weight ticket x + count ticket xs ≤ 1 = once ticket in omega arith))
  where
    above : (y : Entry) → Contains xs y → x.ticket ≤ y.ticket → x.ticket < y.ticket
    above y has le = by (same-or-other x.ticket y.ticket)
      where
        by : (x.ticket ≡ y.ticket) ⊎ (x.ticket ≡ y.ticket → ⊥) → x.ticket < y.ticket
        by (inl same) =
            let here : weight y.ticket x ≡ 1 = counted y.ticket x same in
            let there : 1 ≤ count y.ticket xs = count-has y.ticket xs y has refl in
            let all : weight y.ticket x + count y.ticket xs ≤ 1 = once y.ticket in absurd (omega arith)
        by (inr other) = omega arith

-- what stands in the logs of holders with numbers from a first one
record StandsIn (holders : List Holder) (first : ℕ) (e : Entry) : Type 0 where
  place : ℕ
  has : Contains (get_or (logs_of holders) place []) e
  actor : e.actor ≡ first + place

acted-has : (holders : List Holder) (first place : ℕ) (e : Entry) → Contains (get_or (logs_of holders) place []) e → e.actor ≡ first + place → Contains (acted_from first holders) e
acted-has [] first place e has actor = absurd (has-none e has)
acted-has (holder ∷ holders) first zero e has actor =
    let at : e.actor ≡ first = actor ∙ omega arith in
    let is : (e.actor == first) ≡ true = grind (arith, nat_tests) in
    Contains-append_left (acted_in first holder.node.log) (acted_from (first + 1) holders) e (in-part (λ entry. entry.actor == first) holder.node.log e is has)
acted-has (holder ∷ holders) first (suc place) e has actor =
    Contains-append_right (acted_in first holder.node.log) (acted_from (first + 1) holders) e (acted-has holders (first + 1) place e has (actor ∙ omega arith))

acted-stands : (holders : List Holder) (first : ℕ) (e : Entry) → Contains (acted_from first holders) e → StandsIn holders first e
acted-stands [] first e has = absurd (has-none e has)
acted-stands (holder ∷ holders) first e has =
    by (Contains-append_cases (acted_in first holder.node.log) (acted_from (first + 1) holders) e has) (acted-stands holders (first + 1) e)
  where
    by : Contains (acted_in first holder.node.log) e ⊎ Contains (acted_from (first + 1) holders) e → (Contains (acted_from (first + 1) holders) e → StandsIn holders (first + 1) e) → StandsIn (holder ∷ holders) first e
    by (inl here) rest =
        let passes : (e.actor == first) ≡ true = passes-part (λ entry. entry.actor == first) holder.node.log e here in
        let is : e.actor ≡ first = grind (arith, nat_tests) in
        record { place = 0; has = from-part (λ entry. entry.actor == first) holder.node.log e here; actor = is ∙ omega arith }
    by (inr there) rest = let r = rest there in record { place = suc r.place; has = r.has; actor = r.actor ∙ omega arith }

-- each ticket once
acted-once : (holders : List Holder) (first ticket : ℕ) → ((n : ℕ) → AreRising (get_or (logs_of holders) n []))
    → ((m n : ℕ) (one other : Entry) → Contains (get_or (logs_of holders) m []) one → Contains (get_or (logs_of holders) n []) other → one.ticket ≡ other.ticket → one ≡ other)
    → count ticket (acted_from first holders) ≤ 1
unfolding count
acted-once [] first ticket rising one = omega arith
acted-once (holder ∷ holders) first ticket rising one =
    let split : count ticket (acted_from first (holder ∷ holders)) ≡ count ticket (acted_in first holder.node.log) + count ticket (acted_from (first + 1) holders) =
    count-append ticket (acted_in first holder.node.log) (acted_from (first + 1) holders) in
    let own : count ticket (acted_in first holder.node.log) ≤ 1 =
    let part = count-part ticket (λ entry. entry.actor == first) holder.node.log in let whole = count-rising ticket holder.node.log (rising 0) in omega (arith, part, whole) in
    let rest : count ticket (acted_from (first + 1) holders) ≤ 1 = acted-once holders (first + 1) ticket (λ n. rising (suc n)) (λ m n. one (suc m) (suc n)) in
    by split own rest (count-cases ticket (acted_in first holder.node.log)) (count-cases ticket (acted_from (first + 1) holders))
  where
    by : count ticket (acted_from first (holder ∷ holders)) ≡ count ticket (acted_in first holder.node.log) + count ticket (acted_from (first + 1) holders)
        → count ticket (acted_in first holder.node.log) ≤ 1 → count ticket (acted_from (first + 1) holders) ≤ 1
        → (count ticket (acted_in first holder.node.log) ≡ 0) ⊎ Found ticket (acted_in first holder.node.log) → (count ticket (acted_from (first + 1) holders) ≡ 0) ⊎ Found ticket (acted_from (first + 1) holders)
        → count ticket (acted_from first (holder ∷ holders)) ≤ 1
    by split own rest (inl none) o = omega arith
    by split own rest (inr found) (inl none) = omega arith
    by split own rest (inr found) (inr other) =
        let passes : (found.entry.actor == first) ≡ true = passes-part (λ entry. entry.actor == first) holder.node.log found.entry found.has in
        let here : found.entry.actor ≡ first = grind (arith, nat_tests) in
        let stands : StandsIn holders (first + 1) other.entry = acted-stands holders (first + 1) other.entry other.has in
        let same : found.entry ≡ other.entry =
        one 0 (suc stands.place) found.entry other.entry (from-part (λ entry. entry.actor == first) holder.node.log found.entry found.has) stands.has (found.is ∙ sym other.is) in
        let there : other.entry.actor ≡ (first + 1) + stands.place = stands.actor in
        let both : found.entry.actor ≡ other.entry.actor = ap (λ (e : Entry). e.actor) same in absurd (omega arith)

-- entries that are lent, in another order
lent-count : (ticket : ℕ) (entries : List (Bor Entry)) → count ticket (lent entries) ≡ sum_by (λ entry. weight ticket entry.now) entries
unfolding count
lent-count ticket = is_sum_by (λ entries. count ticket (lent entries)) (λ entry. weight ticket entry.now) refl (λ x xs. refl)

lent-has : (entries other : List (Bor Entry)) (e : Entry) → IsPermutation entries other → Contains (lent other) e → Contains (lent entries) e
lent-has entries other e same has =
    All-contains (Contains (lent entries)) (lent other) e
    (All-map (Contains (lent entries)) (λ entry. entry.now) other (All-permutation (λ entry. Contains (lent entries) entry.now) entries other same (λ k d within. place entries k d within)))
    has
  where
    place : (xs : List (Bor Entry)) (k : ℕ) (d : Bor Entry) → k < length xs → Contains (lent xs) (get_or xs k d).now
    place [] k d within = absurd (omega arith)
    place (x ∷ xs) zero d within = has-first x.now (lent xs)
    place (x ∷ xs) (suc k) d within = has-later x.now (lent xs) (get_or xs k d).now (place xs k d (omega arith))

lent-at : (xs : List (Bor Entry)) (k : ℕ) (d : Entry) (e : Bor Entry) → k < length (lent xs) → get_or (lent xs) k d ≡ (get_or xs k e).now
lent-at [] k d e within = absurd (omega arith)
lent-at (x ∷ xs) zero d e within = refl
lent-at (x ∷ xs) (suc k) d e within = lent-at xs k d e (omega arith)

lent-length : (xs : List (Bor Entry)) → length (lent xs) ≡ length xs
lent-length [] = refl
lent-length (x ∷ xs) = ap suc (lent-length xs)

lent-order : (entries : List (Bor Entry)) → IsNonDecreasingBy (λ entry. entry.now.ticket) entries → IsNonDecreasingBy (λ (e : Entry). e.ticket) (lent entries)
lent-order [] order i j d le within = absurd (omega arith)
lent-order (x ∷ xs) order zero zero d le within = omega arith
lent-order (x ∷ xs) order zero (suc j) d le within = subst (λ (e : Entry). x.now.ticket ≤ e.ticket) (sym (lent-at xs j d x (omega arith))) (order 0 (suc j) x (omega arith) (omega (arith, lent-length xs)))
lent-order (x ∷ xs) order (suc i) zero d le within = absurd (omega arith)
lent-order (x ∷ xs) order (suc i) (suc j) d le within = lent-order xs (λ m n e le' within'. order (suc m) (suc n) e (omega arith) (omega arith)) i j d (omega arith) (omega arith)

-- the merge of logs
pub merged : (holders : List Holder) (entries sorted : List (Bor Entry)) → AreMergeable (λ n. get_or (logs_of holders) n []) → ((n : ℕ) → AreRising (get_or (logs_of holders) n []))
    → lent entries ≡ acted_from 0 holders → IsPermutation entries sorted → IsNonDecreasingBy (λ entry. entry.now.ticket) sorted → IsMerged (λ n. get_or (logs_of holders) n []) (lent sorted)
merged holders entries sorted mergeable rising all same order = record {
  all = λ n e has.
      lent-has sorted entries e (IsPermutation-sym entries sorted same) (subst (λ es. Contains es e) (sym all) (acted-has holders 0 e.actor e (mergeable.actor n e has) (omega arith)));
  no_other = λ e has. let stands = acted-stands holders 0 e (subst (λ es. Contains es e) all (lent-has entries sorted e same has)) in (stands.place, stands.has);
  rising = rising-once (lent sorted) (lent-order sorted order) (λ ticket.
      let once : count ticket (acted_from 0 holders) ≤ 1 = acted-once holders 0 ticket rising mergeable.one in
      let moved : count ticket (lent sorted) ≡ count ticket (acted_from 0 holders) =
      lent-count ticket sorted ∙ sum_by-IsPermutation (λ entry. weight ticket entry.now) entries sorted same ∙ sym (lent-count ticket entries) ∙ ap (count ticket) all in omega arith);
}

-- the logs of nodes that keep what each node keeps
pub kept-rising : (holders : List Holder) (n : ℕ) → All (λ (holder : Holder). IsKept holder.node) holders → AreRising (get_or (logs_of holders) n [])
kept-rising [] n kept = λ i j d before within. absurd (omega arith)
kept-rising (holder ∷ holders) zero kept = (kept 0 holder (omega arith)).rising
kept-rising (holder ∷ holders) (suc n) kept = kept-rising holders n (λ k h within. kept (suc k) h (omega arith))

-- the entries of one holder more
pub acted-next : (holders : List Holder) (n : ℕ) (holder : Holder) (entries whole : List Entry) → n < length holders → holder ≡ get_or holders n holder → entries ++ acted_from n (drop n holders) ≡ whole
    → (entries ++ acted_in n holder.node.log) ++ acted_from (n + 1) (drop (n + 1) holders) ≡ whole
acted-next holders n holder entries whole within is so_far =
    let split : drop n holders ≡ holder ∷ drop (n + 1) holders =
    drop-cons holders n holder within ∙ ap (λ (h : Holder). h ∷ drop (suc n) holders) (sym is) ∙ ap (λ m. holder ∷ drop m holders) (sym (add-one n)) in
    append_assoc entries (acted_in n holder.node.log) (acted_from (n + 1) (drop (n + 1) holders)) ∙ ap (λ hs. entries ++ acted_from n hs) (sym split) ∙ so_far

-- what holds of the first so many holders holds of all
pub kept-all : (holders : List Holder) (n : ℕ) → length holders ≤ n → All (λ (holder : Holder). IsKept holder.node) (take n holders) → All (λ (holder : Holder). IsKept holder.node) holders
kept-all holders n behind kept = subst (All (λ (holder : Holder). IsKept holder.node)) (take_all n holders behind) kept
