-- The entries of a journal in the order of their tickets are the journal.
use Rattle.std.proofs.Common.{◌≡◌, ◌∙◌, refl, sym, ap, subst, ℕ, ◌+◌, ◌≤◌, ◌==◌, ◌⊎◌, inl, inr, arith, Bool, true, false, cond, if◌then◌else◌, List, [], ◌∷◌, Contains, count_by}
use Rattle.std.specs.Prelude.{IsPermutation}
use Rattle.std.specs.List.Sorted.{IsNonDecreasingBy}
use Rattle.std.proofs.lemmas.List.Sorted.{sum_by-IsPermutation}
use Rattle.std.proofs.lemmas.List.Sums.{sum_by-cons}
use Rattle.lio_values.specs.contracts.entry.EntryPartialEq.TheImpl as of_entries
use Rattle.lio_values.specs.declared.entry.Entry.{Entry}
use Rattle.lio_values.proofs.EqualityLemmas.{entry_equality}
use Rattle.lio_events.specs.Rising.{AreRising}
use Rattle.lio_calculus.specs.Journals.{AreNumberedFrom, HaveSameEntries}
use Rattle.lio_calculus.proofs.JournalLemmas.{has-cases, has-first, has-later, has-none, numbered-rising, rising-same}
use Rattle.lio_rounds.proofs.MergeLemmas.{count, count-rising, rising-once, weight}

-- what an entry adds to a count, by a test
abbrev one-if : Bool → ℕ
one-if b = cond b 1 0

-- an entry that passes a test counts
counted : (p : Entry → Bool) (xs : List Entry) (e : Entry) → Contains xs e → p e ≡ true → 1 ≤ count_by p xs
counted p [] e has passes = absurd (has-none e has)
counted p (x ∷ xs) e has passes = by (has-cases x xs e has) (counted p xs e)
  where
    by : (x ≡ e) ⊎ Contains xs e → (Contains xs e → p e ≡ true → 1 ≤ count_by p xs) → 1 ≤ count_by p (x ∷ xs)
    by (inl same) rest =
        let one = sum_by-cons (λ (y : Entry). one-if (p y)) x xs in
        let here : one-if (p x) ≡ 1 = ap one-if (ap p same ∙ passes) in omega (arith, one, here)
    by (inr there) rest = let one = sum_by-cons (λ (y : Entry). one-if (p y)) x xs in let more = rest there passes in omega (arith, one, more)

-- where some count, one passes
found : (p : Entry → Bool) (xs : List Entry) → 1 ≤ count_by p xs → (e : Entry) × Contains xs e × (p e ≡ true)
found p [] some = absurd (omega (arith, some))
found p (x ∷ xs) some = by (p x) refl (sum_by-cons (λ (y : Entry). one-if (p y)) x xs) (found p xs)
  where
    by : (b : Bool) → p x ≡ b → count_by p (x ∷ xs) ≡ one-if (p x) + count_by p xs → (1 ≤ count_by p xs → (e : Entry) × Contains xs e × (p e ≡ true)) → (e : Entry) × Contains (x ∷ xs) e × (p e ≡ true)
    by true is one rest = (x, has-first x xs, is)
    by false is one rest =
        let none : one-if (p x) ≡ 0 = ap one-if is in
        let r = rest (omega (arith, some, one, none)) in (r.0, has-later x xs r.0 r.1, r.2)

-- lists with the same entries contain the same
same-has : (one other : List Entry) → HaveSameEntries one other → (e : Entry) → Contains one e → Contains other e
same-has one other same e has =
    let test : Entry → Bool = λ x. (of_entries.ghosts).eq x e in
    let some : 1 ≤ count_by test one = counted test one e has ((entry_equality e e).1 refl) in
    let f = found test other (subst (λ (n : ℕ). 1 ≤ n) (same test) some) in
    subst (Contains other) ((entry_equality f.0 e).0 f.2) f.1

-- how many have a ticket, by a test
count-by : (ticket : ℕ) (xs : List Entry) → count ticket xs ≡ count_by (λ e. e.ticket == ticket) xs
unfolding count weight
count-by ticket [] = refl
count-by ticket (x ∷ xs) =
    let rest = count-by ticket xs in let one = sum_by-cons (λ (e : Entry). one-if (e.ticket == ticket)) x xs in
    let here : weight ticket x ≡ one-if (x.ticket == ticket) = either (x.ticket == ticket) in omega (arith, rest, one, here)
  where
    either : (b : Bool) → (if b then 1 else 0) ≡ one-if b
    either true = refl
    either false = refl

-- a list in another order has the same entries
pub same-entries : (old new : List Entry) → IsPermutation old new → HaveSameEntries old new
same-entries old new moved = λ p. sym (sum_by-IsPermutation (λ (e : Entry). one-if (p e)) old new moved)

pub ordered : (old new journal : List Entry) → HaveSameEntries old new → IsNonDecreasingBy (λ (e : Entry). e.ticket) new → AreNumberedFrom 0 journal → HaveSameEntries old journal → new ≡ journal
ordered old new journal moved order numbered same = rising-same new journal rises (numbered-rising 0 journal numbered) (same-has new journal all) (same-has journal new (λ p. sym (all p)))
  where
    all : HaveSameEntries new journal
    all p = sym (moved p) ∙ same p

    rises : AreRising new
    rises = rising-once new order (λ ticket.
        let once = count-rising ticket journal (numbered-rising 0 journal numbered) in
        let at : count ticket new ≡ count ticket journal = count-by ticket new ∙ all (λ e. e.ticket == ticket) ∙ sym (count-by ticket journal) in omega (arith, once, at))
