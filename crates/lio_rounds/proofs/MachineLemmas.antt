-- What a machine keeps when it takes a turn.
use Rattle.std.proofs.Common.{◌≡◌, ◌∙◌, sym, ap, subst, ℕ, ◌<◌, ◌+◌, List, [], ◌∷◌, ◌++◌, length, arith, All, Some}
use Rattle.std.proofs.lemmas.List.Elements.{All-contains_itself, filter-append}
use Rattle.lio_values.specs.declared.entry.Entry.{Entry}
use Rattle.lio_calculus.specs.Effect.{touches}
use Rattle.lio_calculus.specs.Run as calculus
use Rattle.lio_calculus.specs.Run.{Ran}
use Rattle.lio_calculus.specs.Step.{Configuration, Turn, step}
use Rattle.lio_calculus_runs.specs.Round.{born_in}
use Rattle.lio_calculus_runs.proofs.TurnLemmas.{Parts, parts}
use Rattle.lio_calculus_runs.proofs.OrderLaws.{turn-keeps_order}
use Rattle.lio_calculus_runs.specs.RoundLaws.{IsOrderOf}
use Rattle.lio_calculus_runs.proofs.WellFormedTurns.{turn_keeps_well_formed}
use Rattle.lio_calculus.specs.Journals.{AreNumberedFrom, ArePartsOf, of_cell}
use Rattle.lio_calculus.specs.Logs.{Logs}
use Rattle.lio_calculus.proofs.JournalLemmas.{numbered-push, numbered-up_to, part-in}
use Rattle.lio_rounds.specs.Invariant.{IsMachine, IsRunTo}
use Rattle.lio_rounds.proofs.MachineRuns.{run-append, run-nothing, run-step}

-- one more turn of a run
run-turn : (c d : Configuration) (k : ℕ) (entry : Entry) (before now : List Entry) → IsRunTo c before → step (length before) c k ≡ Some (record { entry = entry; next = d }) → now ≡ before ++ entry ∷ [] → IsRunTo d now
run-turn c d k entry before now run steps last =
    let turn : Turn = record { entry = entry; next = d } in
    let none : Ran = record { entries = []; last = d } in
    let one : Ran = record { entries = entry ∷ []; last = d } in
    let ran : List Entry → Ran = λ es. record { entries = es; last = d } in
    let goes : calculus.run (length before) c (k ∷ []) ≡ Some one = run-step (length before) c k [] turn none steps (run-nothing (length before + 1) d) in
    let same : length before ≡ 0 + length before = omega arith in
    let whole : calculus.run 0 run.first (run.tasks ++ k ∷ []) ≡ Some (ran (before ++ entry ∷ [])) =
    run-append 0 run.first run.tasks (k ∷ []) (record { entries = before; last = c }) one run.is_run (subst (λ (n : ℕ). calculus.run n c (k ∷ []) ≡ Some one) same goes) in
    record {
      first = run.first;
      well_formed = run.well_formed;
      tasks = run.tasks ++ k ∷ [];
      is_run = whole ∙ ap (λ (es : List Entry). Some (ran es)) (sym last);
    }

-- a machine that takes a turn keeps what it keeps
pub machine-took : (c d : Configuration) (k : ℕ) (entry : Entry) (order listed : List ℕ) (before now : List Entry) → IsMachine c order before → step (length before) c k ≡ Some (record { entry = entry; next = d })
    → listed ≡ order ++ born_in entry → now ≡ before ++ entry ∷ [] → IsMachine d listed now
machine-took c d k entry order listed before now machine steps lists last =
    let turn : Turn = record { entry = entry; next = d } in
    let p : Parts (length before) c k turn = parts (length before) c k turn steps in
    let count : length before ≡ 0 + length before = omega arith in
    record {
      ran = run-turn c d k entry before now machine.ran steps last;
      well_formed = turn_keeps_well_formed (length before) c k p.task turn machine.well_formed p.is_task steps;
      lists = subst (IsOrderOf d) (sym lists) (turn-keeps_order (length before) c k turn order machine.well_formed.sound steps machine.lists);
      numbered = subst (AreNumberedFrom 0) (sym last) (numbered-push 0 before entry machine.numbered (sym (ap (λ (t : Turn). t.entry.ticket) p.is_turn) ∙ count));
    }

-- the ticket of the next turn is greater than all in the logs
pub later-than-logs : (logs : Logs) (entries : List Entry) (ticket n : ℕ) → ArePartsOf entries logs → AreNumberedFrom 0 entries → ticket ≡ length entries → All (λ (before : Entry). before.ticket < ticket) (logs n)
later-than-logs logs entries ticket n parts numbered is k d within =
    let below = numbered-up_to 0 entries _ numbered (part-in logs entries parts numbered n _ (All-contains_itself (logs n) k d within)) in
    omega (arith, below)

-- logs that got an entry more are the parts of the journal with the entry
pub parts-push : (old new : Logs) (entries : List Entry) (entry : Entry) (now : List Entry) → ArePartsOf entries old → ((n : ℕ) → new n ≡ old n ++ of_cell n (entry ∷ [])) → now ≡ entries ++ entry ∷ [] → ArePartsOf now new
parts-push old new entries entry now parts got is n =
    got n ∙ ap (λ log. log ++ of_cell n (entry ∷ [])) (parts n) ∙ sym (filter-append (touches n) entries (entry ∷ [])) ∙ ap (of_cell n) (sym is)
