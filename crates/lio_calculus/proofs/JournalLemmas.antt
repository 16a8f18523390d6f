-- Lists of entries with rising tickets, their parts, and their merges.
use Rattle.std.proofs.Common.{◌≡◌, ◌∙◌, refl, sym, ap, subst, ℕ, zero, suc, ◌+◌, ◌<◌, ◌≤◌, ◌==◌, ◌||◌, ◌⊎◌, inl, inr, arith, Bool, true, false, true≢false, cond, List, [], ◌∷◌, ◌++◌, length, Contains, Option, Some, None}
use Rattle.std.specs.List.{filter}
use Rattle.std.specs.Option.{option_map_or}
use Rattle.std.proofs.lemmas.Bool.Decides.{nat_tests}
use Rattle.std.proofs.lemmas.List.Elements.{All-contains, All-contains_itself, All-filter, filter_passes}
use Rattle.std.proofs.lemmas.List.Kept.{AllPairs-cons, AllPairs-filter}
use Rattle.lio_values.specs.declared.entry.Entry.{Entry}
use Rattle.lio_events.specs.Rising.{AreRising}
use Rattle.lio_calculus.specs.Effect.{is_target, touches}
use Rattle.lio_calculus.specs.Step.{Configuration}
use Rattle.lio_calculus.specs.Logs.{IsLocal, Logs}
use Rattle.lio_calculus.specs.Journals.{AreMergeable, AreNumberedFrom, ArePartsOf, HasTicket, IsLogged, IsMerged, of_cell}

-- elements of a list with a first one
pub has-first : {X : Type 0} (x : X) (xs : List X) → Contains (x ∷ xs) x
has-first x xs = (0, omega arith, refl)

pub has-later : {X : Type 0} (x : X) (xs : List X) (y : X) → Contains xs y → Contains (x ∷ xs) y
has-later x xs y (k, within, is) = (suc k, omega arith, is)

pub has-cases : {X : Type 0} (x : X) (xs : List X) (y : X) → Contains (x ∷ xs) y → (x ≡ y) ⊎ Contains xs y
has-cases x xs y (zero, within, is) = inl is
has-cases x xs y (suc k, within, is) = inr (k, omega arith, is)

pub has-none : {X : Type 0} (y : X) → Contains [] y → ⊥
has-none y (k, within, is) = absurd (omega arith)

-- elements of the part that passes a test
pub in-part : {X : Type 0} (p : X → Bool) (xs : List X) (y : X) → p y ≡ true → Contains xs y → Contains (filter p xs) y
in-part p [] y passes has = absurd (has-none y has)
in-part p (x ∷ xs) y passes has = by (p x) refl (in-part p xs y passes) (has-cases x xs y has)
  where
    by : (b : Bool) → p x ≡ b → (Contains xs y → Contains (filter p xs) y) → (x ≡ y) ⊎ Contains xs y → Contains (cond b (x ∷ filter p xs) (filter p xs)) y
    by true e rest (inl is) = subst (Contains (x ∷ filter p xs)) is (has-first x (filter p xs))
    by true e rest (inr has) = has-later x (filter p xs) y (rest has)
    by false e rest (inl is) = absurd (true≢false (sym passes ∙ ap p (sym is) ∙ e))
    by false e rest (inr has) = rest has

pub from-part : {X : Type 0} (p : X → Bool) (xs : List X) (y : X) → Contains (filter p xs) y → Contains xs y
from-part p xs y has = All-contains (Contains xs) (filter p xs) y (All-filter p (Contains xs) xs (All-contains_itself xs)) has

pub passes-part : {X : Type 0} (p : X → Bool) (xs : List X) (y : X) → Contains (filter p xs) y → p y ≡ true
passes-part p xs y has = All-contains (λ x. p x ≡ true) (filter p xs) y (filter_passes p xs) has

-- the whole, where all pass, and nothing, where none does
pub whole-part : {X : Type 0} (p : X → Bool) (xs : List X) → ((y : X) → Contains xs y → p y ≡ true) → filter p xs ≡ xs
whole-part p [] pass = refl
whole-part p (x ∷ xs) pass =
    ap (λ b. cond b (x ∷ filter p xs) (filter p xs)) (pass x (has-first x xs)) ∙ ap (λ rest. x ∷ rest) (whole-part p xs (λ y has. pass y (has-later x xs y has)))

pub no-part : {X : Type 0} (p : X → Bool) (xs : List X) → ((y : X) → Contains xs y → p y ≡ false) → filter p xs ≡ []
no-part p [] fail = refl
no-part p (x ∷ xs) fail =
    ap (λ b. cond b (x ∷ filter p xs) (filter p xs)) (fail x (has-first x xs)) ∙ no-part p xs (λ y has. fail y (has-later x xs y has))

-- whom an entry shows
target-cases : (n : ℕ) (target : Option ℕ) → option_map_or (λ m. m == n) target false ≡ true → target ≡ Some n
target-cases n None e = absurd (true≢false (sym e))
target-cases n (Some m) e = let is : m ≡ n = grind (arith, nat_tests) in ap Some is

pub shown-cases : (n : ℕ) (entry : Entry) → touches n entry ≡ true → (entry.actor ≡ n) ⊎ (entry.target ≡ Some n)
shown-cases n entry e = by (entry.actor == n) refl e
  where
    by : (b : Bool) → (entry.actor == n) ≡ b → (b || is_target n entry) ≡ true → (entry.actor ≡ n) ⊎ (entry.target ≡ Some n)
    by true is e = let same : entry.actor ≡ n = grind (arith, nat_tests) in inl same
    by false is e = inr (target-cases n entry.target e)

pub shows-actor : (entry : Entry) → touches entry.actor entry ≡ true
shows-actor entry =
    let same : (entry.actor == entry.actor) ≡ true = grind (arith, nat_tests) in ap (λ b. b || is_target entry.actor entry) same

pub shows-target : (n : ℕ) (entry : Entry) → entry.target ≡ Some n → touches n entry ≡ true
shows-target n entry e =
    let same : (n == n) ≡ true = grind (arith, nat_tests) in
    let is : is_target n entry ≡ true = ap (λ (target : Option ℕ). option_map_or (λ m. m == n) target false) e ∙ same in
    either (entry.actor == n) (is_target n entry) is
  where
    either : (a b : Bool) → b ≡ true → (a || b) ≡ true
    either true b e = refl
    either false b e = e

-- rising tickets
pub rising-tail : (x : Entry) (xs : List Entry) → AreRising (x ∷ xs) → AreRising xs
rising-tail x xs rising i j d before within = rising (suc i) (suc j) d (omega arith) (omega arith)

pub rising-head : (x : Entry) (xs : List Entry) (y : Entry) → AreRising (x ∷ xs) → Contains xs y → x.ticket < y.ticket
rising-head x xs y rising (k, within, is) =
    subst (λ (e : Entry). x.ticket < e.ticket) is (rising 0 (suc k) y (omega arith) (omega arith))

-- lists with rising tickets and the same entries are one
pub rising-same : (xs ys : List Entry) → AreRising xs → AreRising ys → ((e : Entry) → Contains xs e → Contains ys e) → ((e : Entry) → Contains ys e → Contains xs e) → xs ≡ ys
rising-same [] [] up up' into back = refl
rising-same [] (y ∷ ys) up up' into back = absurd (has-none y (back y (has-first y ys)))
rising-same (x ∷ xs) [] up up' into back = absurd (has-none x (into x (has-first x xs)))
rising-same (x ∷ xs) (y ∷ ys) up up' into back =
    let is : x ≡ y = first (has-cases y ys x (into x (has-first x xs))) (has-cases x xs y (back y (has-first y ys))) in
    (λ i. is i ∷ rising-same xs ys (rising-tail x xs up) (rising-tail y ys up') (λ e has. later x y xs ys e up (sym is) (into e (has-later x xs e has)) has)
    (λ e has. later y x ys xs e up' is (back e (has-later y ys e has)) has) i)
  where
    first : (y ≡ x) ⊎ Contains ys x → (x ≡ y) ⊎ Contains xs y → x ≡ y
    first (inl is) other = sym is
    first (inr has) (inl is) = is
    first (inr has) (inr has') =
        let one : y.ticket < x.ticket = rising-head y ys x up' has in
        let two : x.ticket < y.ticket = rising-head x xs y up has' in absurd (omega arith)

    later : (x y : Entry) (xs ys : List Entry) (e : Entry) → AreRising (x ∷ xs) → y ≡ x → Contains (y ∷ ys) e → Contains xs e → Contains ys e
    later x y xs ys e up is has has' = by (has-cases y ys e has)
      where
        by : (y ≡ e) ⊎ Contains ys e → Contains ys e
        by (inl same) =
            let up_to : x.ticket < e.ticket = rising-head x xs e up has' in
            let at : e.ticket ≡ x.ticket = ap (λ (entry : Entry). entry.ticket) (sym same ∙ is) in absurd (omega arith)
        by (inr has) = has

-- and each ticket stands in one entry
pub rising-one : (xs : List Entry) (e e' : Entry) → AreRising xs → Contains xs e → Contains xs e' → e.ticket ≡ e'.ticket → e ≡ e'
rising-one [] e e' rising has has' is = absurd (has-none e has)
rising-one (x ∷ xs) e e' rising has has' is = by (rising-one xs e e' (rising-tail x xs rising)) (has-cases x xs e has) (has-cases x xs e' has')
  where
    by : (Contains xs e → Contains xs e' → e.ticket ≡ e'.ticket → e ≡ e') → (x ≡ e) ⊎ Contains xs e → (x ≡ e') ⊎ Contains xs e' → e ≡ e'
    by rest (inl one) (inl two) = sym one ∙ two
    by rest (inl one) (inr two) =
        let above : x.ticket < e'.ticket = rising-head x xs e' rising two in
        let at : x.ticket ≡ e.ticket = ap (λ (f : Entry). f.ticket) one in absurd (omega arith)
    by rest (inr one) (inl two) =
        let above : x.ticket < e.ticket = rising-head x xs e rising one in
        let at : x.ticket ≡ e'.ticket = ap (λ (f : Entry). f.ticket) two in absurd (omega arith)
    by rest (inr one) (inr two) = rest one two is

pub one_merge : (logs : Logs) (one other : List Entry) → IsMerged logs one → IsMerged logs other → one ≡ other
one_merge logs one other m m' =
    rising-same one other m.rising m'.rising (λ e has. let stands = m.no_other e has in m'.all stands.0 e stands.1) (λ e has. let stands = m'.no_other e has in m.all stands.0 e stands.1)

-- the entries of a numbered list have the tickets from the first one on, and no others
pub numbered-from : (first : ℕ) (xs : List Entry) (e : Entry) → AreNumberedFrom first xs → Contains xs e → first ≤ e.ticket
numbered-from first [] e numbered has = absurd (has-none e has)
numbered-from first (x ∷ xs) e numbered has = by (numbered-from (first + 1) xs e numbered.1) (has-cases x xs e has)
  where
    by : (Contains xs e → first + 1 ≤ e.ticket) → (x ≡ e) ⊎ Contains xs e → first ≤ e.ticket
    by rest (inl is) = let at : e.ticket ≡ first = ap (λ (entry : Entry). entry.ticket) (sym is) ∙ numbered.0 in omega arith
    by rest (inr has) = let later : first + 1 ≤ e.ticket = rest has in omega arith

pub numbered-up_to : (first : ℕ) (xs : List Entry) (e : Entry) → AreNumberedFrom first xs → Contains xs e → e.ticket < first + length xs
numbered-up_to first [] e numbered has = absurd (has-none e has)
numbered-up_to first (x ∷ xs) e numbered has = by (numbered-up_to (first + 1) xs e numbered.1) (has-cases x xs e has)
  where
    by : (Contains xs e → e.ticket < (first + 1) + length xs) → (x ≡ e) ⊎ Contains xs e → e.ticket < first + length (x ∷ xs)
    by rest (inl is) = let at : e.ticket ≡ first = ap (λ (entry : Entry). entry.ticket) (sym is) ∙ numbered.0 in omega arith
    by rest (inr has) = let later : e.ticket < (first + 1) + length xs = rest has in omega arith

-- and one more entry has the next ticket
pub numbered-push : (first : ℕ) (xs : List Entry) (e : Entry) → AreNumberedFrom first xs → e.ticket ≡ first + length xs → AreNumberedFrom first (xs ++ e ∷ [])
numbered-push first [] e numbered next = (next ∙ omega arith, tt)
numbered-push first (x ∷ xs) e numbered next = (numbered.0, numbered-push (first + 1) xs e numbered.1 (omega arith))

-- an entry of a list has a ticket
abbrev pub Shows : List Entry → ℕ → Type 0
Shows xs ticket = (e : Entry) × Contains xs e × (e.ticket ≡ ticket)

pub numbered-each : (first ticket : ℕ) (xs : List Entry) → AreNumberedFrom first xs → first ≤ ticket → ticket < first + length xs → Shows xs ticket
numbered-each first ticket [] numbered from within = absurd (omega arith)
numbered-each first ticket (x ∷ xs) numbered from within = by (first == ticket) refl (λ later. numbered-each (first + 1) ticket xs numbered.1 later (omega arith))
  where
    by : (b : Bool) → (first == ticket) ≡ b → (first + 1 ≤ ticket → Shows xs ticket) → Shows (x ∷ xs) ticket
    by true e rest = let same : first ≡ ticket = grind (arith, nat_tests) in (x, has-first x xs, numbered.0 ∙ same)
    by false e rest =
        let apart : first ≡ ticket → ⊥ = grind (arith, nat_tests) in
        let shown : Shows xs ticket = rest (omega arith) in (shown.0, has-later x xs shown.0 shown.1, shown.2)

pub numbered-rising : (first : ℕ) (xs : List Entry) → AreNumberedFrom first xs → AreRising xs
numbered-rising first [] numbered = λ i j d before within. absurd (omega arith)
numbered-rising first (x ∷ xs) numbered =
    AllPairs-cons (λ a b. a.ticket < b.ticket) x xs
    (λ k d within. let later : first + 1 ≤ _ = numbered-from (first + 1) xs _ numbered.1 (All-contains_itself xs k d within) in let at : x.ticket ≡ first = numbered.0 in omega arith)
    (numbered-rising (first + 1) xs numbered.1)

-- a list with rising tickets, none below a first one and none from a last one on, that shows all between, is numbered
pub numbered-by : (first last : ℕ) (xs : List Entry) → AreRising xs → ((e : Entry) → Contains xs e → (first ≤ e.ticket) × (e.ticket < last)) → ((ticket : ℕ) → first ≤ ticket → ticket < last → Shows xs ticket)
    → AreNumberedFrom first xs
numbered-by first last [] rising between shows = tt
numbered-by first last (x ∷ xs) rising between shows = (at, numbered-by (first + 1) last xs (rising-tail x xs rising) further shows-later)
  where
    own : (first ≤ x.ticket) × (x.ticket < last)
    own = between x (has-first x xs)

    found : Shows (x ∷ xs) first
    found = shows first (omega arith) (let one = own.0 in let two = own.1 in omega arith)

    at : x.ticket ≡ first
    at = by (has-cases x xs found.0 found.1)
      where
        by : (x ≡ found.0) ⊎ Contains xs found.0 → x.ticket ≡ first
        by (inl is) = ap (λ (e : Entry). e.ticket) is ∙ found.2
        by (inr has) =
            let above : x.ticket < found.0.ticket = rising-head x xs found.0 rising has in
            let here : found.0.ticket ≡ first = found.2 in
            let from : first ≤ x.ticket = own.0 in absurd (omega arith)

    further : (e : Entry) → Contains xs e → (first + 1 ≤ e.ticket) × (e.ticket < last)
    further e has =
        let above : x.ticket < e.ticket = rising-head x xs e rising has in
        let here : x.ticket ≡ first = at in (omega arith, (between e (has-later x xs e has)).1)

    shows-later : (ticket : ℕ) → first + 1 ≤ ticket → ticket < last → Shows xs ticket
    shows-later ticket from within = by (shows ticket (omega arith) within)
      where
        by : Shows (x ∷ xs) ticket → Shows xs ticket
        by (e, has, is) = still (has-cases x xs e has)
          where
            still : (x ≡ e) ⊎ Contains xs e → Shows xs ticket
            still (inl same) = let up : x.ticket ≡ ticket = ap (λ (e : Entry). e.ticket) same ∙ is in let here : x.ticket ≡ first = at in absurd (omega arith)
            still (inr has) = (e, has, is)

-- the log of a cell is the part of the merge that shows the cell
pub merged-parts : (logs : Logs) (journal : List Entry) → AreMergeable logs → ((n : ℕ) → AreRising (logs n)) → IsMerged logs journal → ArePartsOf journal logs
merged-parts logs journal mergeable rising merged n =
    rising-same (logs n) (of_cell n journal) (rising n) (AllPairs-filter (λ a b. a.ticket < b.ticket) (touches n) journal merged.rising)
    (λ e has. in-part (touches n) journal e (mergeable.no_other n e has) (merged.all n e has))
    (λ e has. let stands = merged.no_other e (from-part (touches n) journal e has) in back stands.0 e stands.1 (shown-cases n e (passes-part (touches n) journal e has)))
  where
    back : (m : ℕ) (e : Entry) → Contains (logs m) e → (e.actor ≡ n) ⊎ (e.target ≡ Some n) → Contains (logs n) e
    back m e has (inl is) = subst (λ k. Contains (logs k) e) is (mergeable.actor m e has)
    back m e has (inr is) = mergeable.target m n e has is

-- the parts of a numbered journal
module _ (logs : Logs) (journal : List Entry) (parts : ArePartsOf journal logs) (numbered : AreNumberedFrom 0 journal) where
  pub part-in : (n : ℕ) (e : Entry) → Contains (logs n) e → Contains journal e
  part-in n e has = from-part (touches n) journal e (subst (λ log. Contains log e) (parts n) has)

  pub part-shows : (n : ℕ) (e : Entry) → Contains (logs n) e → touches n e ≡ true
  part-shows n e has = passes-part (touches n) journal e (subst (λ log. Contains log e) (parts n) has)

  pub part-has : (n : ℕ) (e : Entry) → touches n e ≡ true → Contains journal e → Contains (logs n) e
  part-has n e shows has = subst (λ log. Contains log e) (sym (parts n)) (in-part (touches n) journal e shows has)

  pub part-rising : (n : ℕ) → AreRising (logs n)
  part-rising n = subst AreRising (sym (parts n)) (AllPairs-filter (λ a b. a.ticket < b.ticket) (touches n) journal (numbered-rising 0 journal numbered))

  pub parts-mergeable : AreMergeable logs
  parts-mergeable = record {
    actor = λ n e has. part-has e.actor e (shows-actor e) (part-in n e has);
    target = λ n m e has is. part-has m e (shows-target m e is) (part-in n e has);
    no_other = part-shows;
    one = λ m n e e' has has' is. rising-one journal e e' (numbered-rising 0 journal numbered) (part-in m e has) (part-in n e' has') is;
  }

  pub parts-merged : IsMerged logs journal
  parts-merged = record {
    all = part-in;
    no_other = λ e has. (e.actor, part-has e.actor e (shows-actor e) has);
    rising = numbered-rising 0 journal numbered;
  }

  pub parts-logged : (c : Configuration) → ((entry : Entry) → Contains journal entry → IsLocal c logs entry) → IsLogged c logs (length journal)
  parts-logged c local = record {
    mergeable = parts-mergeable;
    each = λ ticket within. there ticket (numbered-each 0 ticket journal numbered (omega arith) (omega arith));
    no_more = λ n e has. let up_to : e.ticket < 0 + length journal = numbered-up_to 0 journal e numbered (part-in n e has) in omega arith;
    rising = part-rising;
    local = λ n e has. local e (part-in n e has);
  }
    where
      there : (ticket : ℕ) → Shows journal ticket → HasTicket logs ticket
      there ticket (e, has, is) = record { log = e.actor; entry = e; stands = part-has e.actor e (shows-actor e) has; is = is }

pub parts_of_a_journal_are_logged : (c : Configuration) (logs : Logs) (journal : List Entry) → ArePartsOf journal logs → AreNumberedFrom 0 journal
    → ((entry : Entry) → Contains journal entry → IsLocal c logs entry) → IsLogged c logs (length journal)
parts_of_a_journal_are_logged c logs journal parts numbered local = parts-logged logs journal parts numbered c local
