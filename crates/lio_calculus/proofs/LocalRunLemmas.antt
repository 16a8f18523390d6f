-- Entries that are each local make a run together.
use Rattle.std.proofs.Common.{◌≡◌, ◌∙◌, refl, sym, ap, subst, ℕ, ◌+◌, ◌<◌, ◌≤◌, ◌⊎◌, inl, inr, arith, Bool, List, [], ◌∷◌, ◌++◌, length, Contains, Option, Some, None, nat_lt, append-nil, append_assoc}
use Rattle.std.specs.Prelude.{option_and_then, option_map}
use Rattle.std.specs.List.{filter}
use Rattle.std.proofs.lemmas.Bool.Decides.{nat_tests}
use Rattle.std.proofs.lemmas.List.{ext_get_or}
use Rattle.std.proofs.lemmas.List.Elements.{Contains-append_right, Contains-push_cases, filter-append}
use Rattle.lio_values.specs.declared.entry.Entry.{Entry}
use Rattle.lio_calculus.specs.Task.{TaskState}
use Rattle.lio_calculus.specs.Plan.{plan}
use Rattle.lio_calculus.specs.Step.{Configuration, Move, Turn, blank, cell_at, entry_of, move_of, step, turn_of}
use Rattle.lio_calculus.specs.Run.{Ran, ran_after, run}
use Rattle.lio_calculus.specs.Sound.{IsSound}
use Rattle.lio_calculus.specs.Effect.{entered, entry_in, touches}
use Rattle.lio_calculus.specs.Locality.{ChangesTwoCells}
use Rattle.lio_calculus.proofs.EffectLemmas.{step_is_its_entry}
use Rattle.lio_calculus.proofs.LocalityLemmas.{step_changes_two_cells}
use Rattle.lio_calculus.proofs.StepKept.{turn-kept}
use Rattle.lio_calculus.proofs.TurnParts.{made_of, parts}
use Rattle.lio_calculus.specs.Logs.{IsLocal, Logs, before, below, fold, folded, folded_from}
use Rattle.lio_calculus.specs.Journals.{AreNumberedFrom, ArePartsOf, IsLogged, IsMerged, actors, of_cell}
use Rattle.lio_calculus.specs.LogLaws.{IsRunOfLogs}
use Rattle.lio_calculus.proofs.JournalLemmas.{from-part, has-first, merged-parts, no-part, numbered-by, numbered-from, whole-part}
use Rattle.lio_calculus.proofs.FoldLemmas.{fold-more, fold-none, folded-at, length-folded}

-- the turn of an entry
record TurnOf (ticket : ℕ) (c : Configuration) (k : ℕ) (entry : Entry) : Type 0 where
  turn : Turn
  steps : step ticket c k ≡ Some turn
  shows : turn.entry ≡ entry

turn-of : (ticket : ℕ) (c : Configuration) (k : ℕ) (entry : Entry) → entry_in c.program (cell_at c) ticket k ≡ Some entry → TurnOf ticket c k entry
unfolding entry_in step
turn-of ticket c k entry shown = by (cell_at c k).task refl shown
  where
    moved : (task : TaskState) → (cell_at c k).task ≡ Some task → (m : Option Move) → move_of (cell_at c) (plan c.program task) ≡ m → option_map (entry_of ticket k task) m ≡ Some entry → TurnOf ticket c k entry
    moved task is None moves shown = absurd (cc)
    moved task is (Some move) moves shown = record {
      turn = made_of ticket c k task move;
      steps = ap (option_and_then (turn_of ticket c k)) is ∙ ap (option_map (made_of ticket c k task)) moves;
      shows = cc;
    }

    by : (t : Option TaskState) → (cell_at c k).task ≡ t → option_and_then (λ task. option_map (entry_of ticket k task) (move_of (cell_at c) (plan c.program task))) t ≡ Some entry → TurnOf ticket c k entry
    by None is shown = absurd (cc)
    by (Some task) is shown = moved task is (move_of (cell_at c) (plan c.program task)) refl shown

-- whether an entry has a lower ticket
abbrev is_below : ℕ → Entry → Bool
is_below ticket e = nat_lt e.ticket ticket

-- the configuration that the first entries of a journal have made
record SoFar (c : Configuration) (done : List Entry) (d : Configuration) : Type 0 where
  program : d.program ≡ c.program
  size : length d.cells ≡ length c.cells
  cells : (n : ℕ) → cell_at d n ≡ fold c.program n (cell_at c n) (of_cell n done)
  sound : IsSound d

-- the rest of the journal is a run from there
record Runs (c d : Configuration) (ticket : ℕ) (journal rest : List Entry) : Type 0 where
  last : Configuration
  ran : run ticket d (actors rest) ≡ Some (record { entries = rest; last = last })
  so_far : SoFar c journal last

-- of the entries of a cell, those before the first of the rest have lower tickets, and no others
below-done : (n : ℕ) (done : List Entry) (entry : Entry) (rest : List Entry) → ((e : Entry) → Contains done e → e.ticket < entry.ticket) → AreNumberedFrom entry.ticket (entry ∷ rest)
    → below entry.ticket (of_cell n (done ++ entry ∷ rest)) ≡ of_cell n done
below-done n done entry rest lower numbered =
    ap (below entry.ticket) (filter-append (touches n) done (entry ∷ rest)) ∙ filter-append (is_below entry.ticket) (of_cell n done) (of_cell n (entry ∷ rest))
    ∙ ap (λ xs. xs ++ filter (is_below entry.ticket) (of_cell n (entry ∷ rest)))
    (whole-part (is_below entry.ticket) (of_cell n done) (λ e has. let lt : e.ticket < entry.ticket = lower e (from-part (touches n) done e has) in grind (arith, nat_tests)))
    ∙ ap (λ xs. of_cell n done ++ xs)
    (no-part (is_below entry.ticket) (of_cell n (entry ∷ rest))
    (λ e has. let le : entry.ticket ≤ e.ticket = numbered-from entry.ticket (entry ∷ rest) e numbered (from-part (touches n) (entry ∷ rest) e has) in grind (arith, nat_tests)))
    ∙ append-nil (of_cell n done)

module _ (c : Configuration) (logs : Logs) (journal : List Entry) (parted : ArePartsOf journal logs) (local : (entry : Entry) → Contains journal entry → IsLocal c logs entry) where
  -- what an entry goes by is what the entries before it have made
  looks-so_far : (done : List Entry) (entry : Entry) (rest : List Entry) (d : Configuration) → done ++ entry ∷ rest ≡ journal → ((e : Entry) → Contains done e → e.ticket < entry.ticket)
      → AreNumberedFrom entry.ticket (entry ∷ rest) → SoFar c done d → (n : ℕ) → before c logs entry.ticket n ≡ cell_at d n
  looks-so_far done entry rest d is lower numbered so_far n =
      ap (λ log. fold c.program n (cell_at c n) (below entry.ticket log)) (parted n ∙ ap (of_cell n) (sym is))
      ∙ ap (fold c.program n (cell_at c n)) (below-done n done entry rest lower numbered) ∙ sym (so_far.cells n)

  -- so it is a step
  is-step : (done : List Entry) (entry : Entry) (rest : List Entry) (d : Configuration) → done ++ entry ∷ rest ≡ journal → ((e : Entry) → Contains done e → e.ticket < entry.ticket)
      → AreNumberedFrom entry.ticket (entry ∷ rest) → SoFar c done d → TurnOf entry.ticket d entry.actor entry
  is-step done entry rest d is lower numbered so_far =
      let here : Contains journal entry = subst (λ xs. Contains xs entry) is (Contains-append_right done (entry ∷ rest) entry (has-first entry rest)) in
      let looks : (n : ℕ) → before c logs entry.ticket n ≡ cell_at d n = looks-so_far done entry rest d is lower numbered so_far in
      turn-of entry.ticket d entry.actor entry ((λ i. entry_in (so_far.program i) (λ n. sym (looks n) i) entry.ticket entry.actor) ∙ (local entry here).is_step)

  -- and leads to what the entries up to it have made
  step-so_far : (done : List Entry) (entry : Entry) (d : Configuration) → SoFar c done d → (t : TurnOf entry.ticket d entry.actor entry) → SoFar c (done ++ entry ∷ []) t.turn.next
  step-so_far done entry d so_far t =
      let changes : ChangesTwoCells d entry.actor t.turn = step_changes_two_cells entry.ticket d entry.actor t.turn t.steps in
      let p = parts entry.ticket d entry.actor t.turn t.steps in
      record {
        program = changes.program ∙ so_far.program;
        size = changes.size ∙ so_far.size;
        cells = λ n. step_is_its_entry entry.ticket d entry.actor t.turn so_far.sound t.steps n
            ∙ (λ i. entered (so_far.program i) n (t.shows i) (so_far.cells n i))
            ∙ fold-more c.program n (cell_at c n) done entry;
        sound = turn-kept entry.ticket d entry.actor p.task t.turn so_far.sound p.is t.steps;
      }

  runs : (done rest : List Entry) (ticket : ℕ) (d : Configuration) → done ++ rest ≡ journal → ((e : Entry) → Contains done e → e.ticket < ticket) → AreNumberedFrom ticket rest → SoFar c done d
      → Runs c d ticket journal rest
  unfolding run
  runs done [] ticket d is lower numbered so_far = record { last = d; ran = refl; so_far = subst (λ xs. SoFar c xs d) (sym (append-nil done) ∙ is) so_far }
  runs done (entry ∷ rest) ticket d is lower numbered so_far =
      let at : entry.ticket ≡ ticket = numbered.0 in
      let lower' : (e : Entry) → Contains done e → e.ticket < entry.ticket = λ e has. subst (λ t. e.ticket < t) (sym at) (lower e has) in
      let t : TurnOf entry.ticket d entry.actor entry = is-step done entry rest d is lower' (refl, subst (λ t. AreNumberedFrom (t + 1) rest) (sym at) numbered.1) so_far in
      let steps : step ticket d entry.actor ≡ Some t.turn = subst (λ n. step n d entry.actor ≡ Some t.turn) at t.steps in
      let more : Runs c t.turn.next (ticket + 1) journal rest = runs (done ++ entry ∷ []) rest (ticket + 1) t.turn.next (append_assoc done (entry ∷ []) rest ∙ is) (up_to at) numbered.1 (step-so_far done entry d so_far t) in
      record {
        last = more.last;
        ran = ap (option_and_then (λ turn. option_map (ran_after turn.entry) (run (ticket + 1) turn.next (actors rest)))) steps
            ∙ ap (option_map (ran_after t.turn.entry)) more.ran ∙ ap (λ (e : Entry). let ran : Ran = record { entries = e ∷ rest; last = more.last } in Some ran) t.shows;
        so_far = more.so_far;
      }
    where
      up_to : entry.ticket ≡ ticket → (e : Entry) → Contains (done ++ entry ∷ []) e → e.ticket < ticket + 1
      up_to at e has = by (Contains-push_cases done entry e has)
        where
          by : Contains done e ⊎ (entry ≡ e) → e.ticket < ticket + 1
          by (inl has) = let lt : e.ticket < ticket = lower e has in omega arith
          by (inr same) = let here : e.ticket ≡ ticket = ap (λ (f : Entry). f.ticket) (sym same) ∙ at in omega arith

  is-run : IsSound c → AreNumberedFrom 0 journal → IsRunOfLogs c logs journal
  unfolding folded
  is-run sound numbered =
      let first : SoFar c [] c = record { program = refl; size = refl; cells = λ n. sym (fold-none c.program n (cell_at c n)); sound = sound } in
      let r : Runs c c 0 journal journal = runs [] journal 0 c refl (λ e has. absurd (omega (arith, has.1))) numbered first in
      let cells : r.last.cells ≡ folded_from c.program logs 0 c.cells =
      ext_get_or blank r.last.cells (folded_from c.program logs 0 c.cells) (r.so_far.size ∙ sym (length-folded c.program logs 0 c.cells)) (λ n within. at r n within) in
      let last : r.last ≡ folded c logs = λ i. record { program = r.so_far.program i; cells = cells i } in
      record {
        is_run = r.ran ∙ ap (λ (d : Configuration). let ran : Ran = record { entries = journal; last = d } in Some ran) last;
        sound = subst IsSound last r.so_far.sound;
      }
    where
      at : (r : Runs c c 0 journal journal) (n : ℕ) → n < length r.last.cells → cell_at r.last n ≡ cell_at (folded c logs) n
      at r n within =
          let inside : n < length c.cells = subst (λ l. n < l) r.so_far.size within in
          let zero : 0 + n ≡ n = omega arith in
          r.so_far.cells n ∙ ap (fold c.program n (cell_at c n)) (sym (parted n))
          ∙ ap (λ m. fold c.program m (cell_at c n) (logs m)) (sym zero) ∙ sym (folded-at c.program logs 0 c.cells n inside)

-- the merge of logs has the tickets from 0 on
merged-numbered : (c : Configuration) (logs : Logs) (count : ℕ) (journal : List Entry) → IsLogged c logs count → IsMerged logs journal → AreNumberedFrom 0 journal
merged-numbered c logs count journal logged merged =
    numbered-by 0 count journal merged.rising (λ e has. let stands = merged.no_other e has in (omega arith, logged.no_more stands.0 e stands.1))
    (λ ticket from within. let there = logged.each ticket within in (there.entry, merged.all there.log there.entry there.stands, there.is))

pub local_entries_make_a_run : (c : Configuration) (logs : Logs) (count : ℕ) (journal : List Entry) → IsSound c → IsLogged c logs count → IsMerged logs journal → IsRunOfLogs c logs journal
local_entries_make_a_run c logs count journal sound logged merged =
    is-run c logs journal (merged-parts logs journal logged.mergeable logged.rising merged) (λ e has. let stands = merged.no_other e has in logged.local stands.0 e stands.1) sound
    (merged-numbered c logs count journal logged merged)
