-- One round of a machine, and the rounds that are left after it.
use Rattle.std.proofs.Common.{◌≡◌, ◌≢◌, ◌<◌, ◌∙◌, refl, sym, ap, subst, arith, ℕ, List, [], ◌∷◌, ◌++◌, length, flat_map, Some}
use Rattle.std.proofs.lemmas.List.{append-nil}
use Rattle.lio_values.specs.declared.entry.Entry.{Entry}
use Rattle.lio_calculus.specs.Run.{Ran}
use Rattle.lio_calculus.specs.Step.{Configuration}
use Rattle.lio_syntax.specs.Statements.{Procedure}
use Rattle.lio_calculus_runs.proofs.EndLemmas.{rounds_go_on}
use Rattle.lio_calculus_runs.proofs.OrderLaws.{rounds-end_from}
use Rattle.lio_calculus_runs.specs.RoundLaws.{IsOrderOf}
use Rattle.lio_calculus_runs.specs.Round.{Round, born_in, followed, order_after, round}
use Rattle.lio_calculus_runs.specs.Rounds.{rounds_from, stepped}
use Rattle.lio_rounds.proofs.MachineRuns.{has_run-append, has_run-nothing, run-nothing}
use Rattle.lio_rounds.proofs.RoundLemmas.{rounds-complete, rounds-last, rounds-more, rounds-none}
use Rattle.lio_rounds.specs.MachineState.{HasRun, HasWalked, MachineState}
use Rattle.lio_async_rounds.specs.RoundsFuture.{MovesNone, MovesSome}

no_items : (ks : List ℕ) → length ks ≡ 0 → ks ≡ []
no_items [] e = refl
no_items (k ∷ ks) e = absurd (omega arith)

some_items : (ks : List ℕ) → ks ≢ [] → 0 < length ks
some_items [] some = absurd (some refl)
some_items (k ∷ ks) some = omega arith

-- machines with the same parts are the same
same-machine : (a b : MachineState) → a.script ≡ b.script → a.configuration ≡ b.configuration → a.entries ≡ b.entries → a.order ≡ b.order → a ≡ b
same-machine a b script configuration entries order =
    ap (λ (s : List Procedure). let m : MachineState = record { script = s; configuration = a.configuration; entries = a.entries; order = a.order } in m) script
    ∙ ap (λ (c : Configuration). let m : MachineState = record { script = b.script; configuration = c; entries = a.entries; order = a.order } in m) configuration
    ∙ ap (λ (es : List Entry). let m : MachineState = record { script = b.script; configuration = b.configuration; entries = es; order = a.order } in m) entries
    ∙ ap (λ (ks : List ℕ). let m : MachineState = record { script = b.script; configuration = b.configuration; entries = b.entries; order = ks } in m) order

-- a machine that has run nothing is as before
has_run-none : (old new : MachineState) → HasRun old new [] → new ≡ old
has_run-none old new has =
    let one : Ran = record { entries = []; last = old.configuration } in
    let two : Ran = record { entries = has.added; last = new.configuration } in
    let both : Some one ≡ Some two = sym (run-nothing (length old.entries) old.configuration) ∙ has.is_run in
    let same : one ≡ two = cc in
    let added : has.added ≡ [] = ap (λ (r : Ran). r.entries) (sym same) in
    same-machine new old has.script (ap (λ (r : Ran). r.last) (sym same))
    (has.entries ∙ ap (λ (es : List Entry). old.entries ++ es) added ∙ append-nil old.entries)
    (has.order ∙ ap (λ (es : List Entry). old.order ++ flat_map born_in es) added ∙ append-nil old.order)

-- a round that moved nothing
pub moves-none : (old new : MachineState) (n : ℕ) → n ≡ length (round stepped old.order old.configuration).moved → n ≡ 0 → IsOrderOf old.configuration old.order → HasWalked old new old.order → MovesNone old new
moves-none old new n counted zero lists walked =
    let none : length (round stepped old.order old.configuration).moved ≡ 0 = sym counted ∙ zero in
    let still = no_items (round stepped old.order old.configuration).moved none in
    record {
      none = still;
      stays = has_run-none old new (subst (HasRun old new) still walked.has_run);
      complete = rounds-complete old new lists (rounds-last old old new (rounds-none old) walked none);
    }

-- a round that moved at least one task
pub moves-some : (old new : MachineState) (n : ℕ) → n ≡ length (round stepped old.order old.configuration).moved → n ≢ 0 → HasWalked old new old.order → MovesSome old new
moves-some old new n counted some walked = record { walked = walked; some = λ e. some (counted ∙ ap (λ (ks : List ℕ). length ks) e) }

-- where a round moves nothing, no rounds are left
pub rounds-still : (m : MachineState) → (round stepped m.order m.configuration).moved ≡ [] → HasRun m m (rounds_from m.order m.configuration)
rounds-still m none =
    let done : Round Configuration = round stepped m.order m.configuration in
    let ends : rounds_from m.order m.configuration ≡ [] = rounds_go_on m.order m.configuration ∙ ap (λ (ks : List ℕ). followed ks (rounds_from (order_after m.order done) done.after)) none in
    subst (HasRun m m) (sym ends) (has_run-nothing m)

-- a round that moved at least one task, and the rounds that are left after it
pub rounds-on : (old between last : MachineState) → MovesSome old between → HasRun between last (rounds_from between.order between.configuration) → HasRun old last (rounds_from old.order old.configuration)
rounds-on old between last moves goes =
    let so_far = rounds-more old old between (rounds-none old) moves.walked (some_items (round stepped old.order old.configuration).moved moves.some) in
    subst (HasRun old last) (sym so_far.rounds) (has_run-append old between last so_far.moved (rounds_from between.order between.configuration) so_far.has_run goes)

-- the machine to which the rounds of a machine lead
pub record RunsOut (m : MachineState) : Type 0 where
  pub last : MachineState
  pub has_run : HasRun m last (rounds_from m.order m.configuration)

pub rounds-run_out : (m : MachineState) → IsOrderOf m.configuration m.order → RunsOut m
rounds-run_out m lists =
    let end = rounds-end_from m.configuration m.order lists in
    let runs = end.runs (length m.entries) in
    let last : MachineState = record { script = m.script; configuration = end.last; entries = m.entries ++ runs.0; order = m.order ++ flat_map born_in runs.0 } in
    record { last = last; has_run = record { added = runs.0; is_run = runs.1; entries = refl; order = refl; script = refl } }
