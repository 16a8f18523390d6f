-- A journal of turns: an entry more, and the configuration that it has made.
use Rattle.std.proofs.Common.{◌≡◌, ◌∙◌, refl, sym, ap, subst, arith, ℕ, zero, suc, ◌+◌, ◌<◌, ◌≤◌, ◌⊎◌, inl, inr, Bool, true, false, cond, nat_lt, List, [], ◌∷◌, ◌++◌, length, All, Contains, Some, append-nil, lt_of_not-le}
use native.Mathlib.Decide.{dec_le}
use Rattle.std.proofs.lemmas.Bool.Decides.{nat_tests}
use Rattle.std.proofs.lemmas.List.{get_or_past}
use Rattle.std.proofs.lemmas.List.Elements.{All-contains_itself, All-filter, Contains-push_cases, filter-append}
use Rattle.lio_values.specs.declared.entry.Entry.{Entry}
use Rattle.lio_calculus.specs.Step.{Configuration, blank, cell_at}
use Rattle.lio_calculus.specs.Effect.{entry_in, touches}
use Rattle.lio_calculus.specs.Logs.{IsLocal, Logs, before, below, fold, folded}
use Rattle.lio_calculus.specs.Journals.{AreNumberedFrom, IsLogged, of_cell}
use Rattle.lio_calculus.specs.LogLaws.{IsRunOfLogs}
use Rattle.lio_calculus.proofs.FoldLemmas.{fold-none, folded-at, length-folded}
use Rattle.lio_calculus.proofs.JournalLemmas.{from-part, no-part, numbered-push, numbered-up_to, parts-merged, parts_of_a_journal_are_logged, shown-cases, whole-part}
use Rattle.lio_calculus.proofs.LocalRunLemmas.{local_entries_make_a_run}
use Rattle.lio_table.specs.Rule.{AreTurns}

-- the logs that are parts of a journal
abbrev pub logs-of : List Entry → Logs
logs-of journal n = of_cell n journal

-- an entry that doesn't show a node
pub hidden : (n : ℕ) (entry : Entry) → (entry.actor ≡ n → ⊥) → (entry.target ≡ Some n → ⊥) → of_cell n (entry ∷ []) ≡ []
hidden n entry actor target = by (touches n entry) refl
  where
    either : (entry.actor ≡ n) ⊎ (entry.target ≡ Some n) → ⊥
    either (inl is) = actor is
    either (inr is) = target is

    by : (b : Bool) → touches n entry ≡ b → cond b (entry ∷ []) [] ≡ []
    by true shows = absurd (either (shown-cases n entry shows))
    by false shows = refl

-- all tickets of a journal are below its length
pub all-below : (journal : List Entry) → AreNumberedFrom 0 journal → All (λ entry. entry.ticket < length journal) journal
all-below journal numbered = λ k d within. let up_to : _ < 0 + length journal = numbered-up_to 0 journal _ numbered (All-contains_itself journal k d within) in omega (arith, up_to)

-- so are those of a node's part
pub part-below : (journal : List Entry) (n : ℕ) → AreNumberedFrom 0 journal → All (λ entry. entry.ticket < length journal) (of_cell n journal)
part-below journal n numbered = All-filter (touches n) (λ entry. entry.ticket < length journal) journal (all-below journal numbered)

-- an entry with a higher ticket tells nothing of what was before
before-more : (c : Configuration) (journal : List Entry) (entry : Entry) (ticket n : ℕ) → ticket ≤ entry.ticket
    → before c (logs-of (journal ++ entry ∷ [])) ticket n ≡ before c (logs-of journal) ticket n
before-more c journal entry ticket n le =
    ap (fold c.program n (cell_at c n))
    (ap (below ticket) (filter-append (touches n) journal (entry ∷ [])) ∙ filter-append (λ e. nat_lt e.ticket ticket) (of_cell n journal) (of_cell n (entry ∷ []))
    ∙ ap (λ xs. below ticket (of_cell n journal) ++ xs) (no-part (λ e. nat_lt e.ticket ticket) (of_cell n (entry ∷ [])) (λ e has. late e (from-part (touches n) (entry ∷ []) e has)))
    ∙ append-nil (below ticket (of_cell n journal)))
  where
    late : (e : Entry) → Contains (entry ∷ []) e → nat_lt e.ticket ticket ≡ false
    late e (zero, within, is) = let same : entry.ticket ≡ e.ticket = ap (λ (x : Entry). x.ticket) is in let later : ticket ≤ e.ticket = omega arith in grind (arith, nat_tests)
    late e (suc k, within, is) = absurd (omega arith)

-- what was before the next ticket is all
before-all : (c : Configuration) (journal : List Entry) (n : ℕ) → AreNumberedFrom 0 journal → before c (logs-of journal) (length journal) n ≡ fold c.program n (cell_at c n) (of_cell n journal)
before-all c journal n numbered =
    ap (fold c.program n (cell_at c n)) (whole-part (λ e. nat_lt e.ticket (length journal)) (of_cell n journal) (λ e has. early e (from-part (touches n) journal e has)))
  where
    early : (e : Entry) → Contains journal e → nat_lt e.ticket (length journal) ≡ true
    early e has = let up_to : e.ticket < 0 + length journal = numbered-up_to 0 journal e numbered has in let lower : e.ticket < length journal = omega arith in grind (arith, nat_tests)

module _ (c : Configuration) (journal : List Entry) (turns : AreTurns c journal) where
  -- the logs of a journal of turns
  pub turns-logged : IsLogged c (logs-of journal) (length journal)
  turns-logged = parts_of_a_journal_are_logged c (logs-of journal) journal (λ n. refl) turns.numbered turns.local

  -- a journal of turns is a run
  pub turns-run : IsRunOfLogs c (logs-of journal) journal
  turns-run =
      local_entries_make_a_run c (logs-of journal) (length journal) journal turns.sound turns-logged (parts-merged (logs-of journal) journal (λ n. refl) turns.numbered)

  pub folded-program : (folded c (logs-of journal)).program ≡ c.program
  unfolding folded
  folded-program = refl

  pub folded-size : length (folded c (logs-of journal)).cells ≡ length c.cells
  unfolding folded
  folded-size = length-folded c.program (logs-of journal) 0 c.cells

  pub folded-cell : (n : ℕ) → n < length c.cells → cell_at (folded c (logs-of journal)) n ≡ fold c.program n (cell_at c n) (of_cell n journal)
  unfolding folded
  folded-cell n within =
      let zero : 0 + n ≡ n = omega arith in
      folded-at c.program (logs-of journal) 0 c.cells n within ∙ ap (λ m. fold c.program m (cell_at c n) (of_cell m journal)) zero

  -- beyond the list nothing is held
  folded-beyond : (n : ℕ) → length c.cells ≤ n → cell_at (folded c (logs-of journal)) n ≡ fold c.program n (cell_at c n) (of_cell n journal)
  folded-beyond n beyond =
      get_or_past (folded c (logs-of journal)).cells n blank (subst (λ l. l ≤ n) (sym folded-size) beyond) ∙ sym (get_or_past c.cells n blank beyond)
      ∙ sym (fold-none c.program n (cell_at c n)) ∙ ap (fold c.program n (cell_at c n)) (sym (turns.inside n beyond))

  pub folded-cells : (n : ℕ) → cell_at (folded c (logs-of journal)) n ≡ fold c.program n (cell_at c n) (of_cell n journal)
  folded-cells n = by (dec_le (length c.cells) n)
    where
      by : Dec (length c.cells ≤ n) → cell_at (folded c (logs-of journal)) n ≡ fold c.program n (cell_at c n) (of_cell n journal)
      by (yes beyond) = folded-beyond n beyond
      by (no within) = folded-cell n (omega (arith, lt_of_not-le within))

  module _ (entry : Entry) (next : entry.ticket ≡ length journal) (apart : entry.target ≡ Some entry.actor → ⊥) (actor : entry.actor < length c.cells)
      (target : (n : ℕ) → entry.target ≡ Some n → n < length c.cells)
      (shown : entry_in (folded c (logs-of journal)).program (cell_at (folded c (logs-of journal))) (length journal) entry.actor ≡ Some entry) where
    looks : (n : ℕ) → before c (logs-of (journal ++ entry ∷ [])) entry.ticket n ≡ cell_at (folded c (logs-of journal)) n
    looks n =
        before-more c journal entry entry.ticket n (omega arith) ∙ ap (λ t. before c (logs-of journal) t n) next ∙ before-all c journal n turns.numbered ∙ sym (folded-cells n)

    new-local : IsLocal c (logs-of (journal ++ entry ∷ [])) entry
    new-local = record { apart = apart; is_step = (λ i. entry_in (sym folded-program i) (λ n. looks n i) (next i) entry.actor) ∙ shown }

    old-local : (e : Entry) → Contains journal e → IsLocal c (logs-of (journal ++ entry ∷ [])) e
    old-local e has =
        let local : IsLocal c (logs-of journal) e = turns.local e has in
        let up_to : e.ticket < 0 + length journal = numbered-up_to 0 journal e turns.numbered has in
        let le : e.ticket ≤ entry.ticket = omega arith in
        record { apart = local.apart; is_step = (λ i. entry_in c.program (λ n. before-more c journal entry e.ticket n le i) e.ticket e.actor) ∙ local.is_step }

    pub turns-more : AreTurns c (journal ++ entry ∷ [])
    turns-more = record {
      sound = turns.sound;
      numbered = numbered-push 0 journal entry turns.numbered (next ∙ omega arith);
      inside = λ n beyond. filter-append (touches n) journal (entry ∷ [])
          ∙ ap (λ xs. xs ++ of_cell n (entry ∷ [])) (turns.inside n beyond)
          ∙ hidden n entry (λ is. let within = actor in absurd (omega arith)) (λ is. let within = target n is in absurd (omega arith));
      local = λ e has. by e (Contains-push_cases journal entry e has);
    }
      where
        by : (e : Entry) → Contains journal e ⊎ (entry ≡ e) → IsLocal c (logs-of (journal ++ entry ∷ [])) e
        by e (inl has) = old-local e has
        by e (inr is) = subst (IsLocal c (logs-of (journal ++ entry ∷ []))) is new-local
