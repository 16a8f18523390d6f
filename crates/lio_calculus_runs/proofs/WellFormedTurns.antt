-- Turns and runs keep a configuration well-formed, and runs are short.
use Rattle.std.proofs.Common.{◌≡◌, refl, sym, ap, subst, ℕ, suc, ◌+◌, ◌*◌, ◌≤◌, Bool, true, false, if◌then◌else◌, List, [], ◌∷◌, length, Option, Some, None, arith}
use Rattle.std.specs.Prelude.{option_and_then, sum_by}
use Rattle.std.specs.Option.{option_map}
use Rattle.std.proofs.lemmas.List.Sums.{sum_by-cons}
use Rattle.lio_syntax.specs.Lines.{script_lines}
use Rattle.lio_syntax.specs.Kept.{KeepsRules}
use Rattle.lio_calculus.specs.Task.{TaskState}
use Rattle.lio_calculus.specs.Plan.{Program}
use Rattle.lio_calculus.specs.Step.{Cell, Configuration, Turn, step}
use Rattle.lio_calculus.specs.Run.{Ran, ran_after, run}
use Rattle.lio_calculus.proofs.TurnParts.{parts}
use Rattle.lio_calculus.proofs.StepKept.{turn-kept}
use Rattle.lio_calculus.proofs.LocalityLemmas.{step_changes_two_cells}
use Rattle.lio_calculus_runs.specs.Rounds.{weight, measure}
use Rattle.lio_calculus_runs.proofs.EndLemmas.{run_is_bounded}
use Rattle.lio_calculus_runs.specs.Turns.{turns_of, turns_left}
use Rattle.lio_calculus_runs.specs.WellFormed.{IsWellFormed}
use Rattle.lio_calculus_runs.specs.WellFormedLaws.{TurnKeepsWellFormed, RunKeepsWellFormed, RunIsShort}
use Rattle.lio_calculus_runs.proofs.CallsKept.{turn_keeps_calls}
use Rattle.lio_calculus_runs.proofs.TurnsLost.{turn_adds_no_turns}

pub turn_keeps_well_formed : TurnKeepsWellFormed
turn_keeps_well_formed ticket c k task turn is_well is steps = record {
  sound = turn-kept ticket c k task turn is_well.sound is steps;
  rules = subst (λ (program : Program). KeepsRules (script_lines program.procedures)) (sym (step_changes_two_cells ticket c k turn steps).program) is_well.rules;
  calls = turn_keeps_calls ticket c k turn is_well.calls steps;
  turns = omega (arith, is_well.turns, turn_adds_no_turns ticket c k turn steps);
}

-- a property that each turn keeps holds behind a run
run-keeps : (P : Configuration → Type 0) → ((ticket : ℕ) (c : Configuration) (k : ℕ) (turn : Turn) → P c → step ticket c k ≡ Some turn → P turn.next)
    → (ticket : ℕ) (c : Configuration) (ks : List ℕ) (ran : Ran) → P c → run ticket c ks ≡ Some ran → P ran.last
unfolding run
run-keeps P keeps ticket c [] ran p runs =
    let none : Ran = record { entries = []; last = c } in
    let is : none ≡ ran = cc in
    subst (λ (r : Ran). P r.last) is p
run-keeps P keeps ticket c (k ∷ ks) ran p runs = by (step ticket c k) runs (λ turn steps. keeps ticket c k turn p steps) (λ turn q rest. run-keeps P keeps (ticket + 1) turn.next ks rest q)
  where
    behind : (turn : Turn) (r : Option Ran) → option_map (ran_after turn.entry) r ≡ Some ran → ((rest : Ran) → r ≡ Some rest → P rest.last) → P ran.last
    behind turn None e each = absurd (cc)
    behind turn (Some rest) e each = let is : ran_after turn.entry rest ≡ ran = cc in subst (λ (r : Ran). P r.last) is (each rest refl)

    by : (s : Option Turn) → option_and_then (λ turn. option_map (ran_after turn.entry) (run (ticket + 1) turn.next ks)) s ≡ Some ran
        → ((turn : Turn) → s ≡ Some turn → P turn.next) → ((turn : Turn) → P turn.next → (rest : Ran) → run (ticket + 1) turn.next ks ≡ Some rest → P rest.last) → P ran.last
    by None e first later = absurd (cc)
    by (Some turn) e first later = behind turn (run (ticket + 1) turn.next ks) e (later turn (first turn refl))

pub run_keeps_well_formed : RunKeepsWellFormed
run_keeps_well_formed = run-keeps IsWellFormed (λ ticket c k turn is_well steps. let p = parts ticket c k turn steps in turn_keeps_well_formed ticket c k p.task turn is_well p.is steps)

-- a run has as many entries as actors
run-entries : (ticket : ℕ) (c : Configuration) (ks : List ℕ) (ran : Ran) → run ticket c ks ≡ Some ran → length ran.entries ≡ length ks
unfolding run
run-entries ticket c [] ran runs =
    let none : Ran = record { entries = []; last = c } in
    let is : none ≡ ran = cc in
    subst (λ (r : Ran). length r.entries ≡ 0) is refl
run-entries ticket c (k ∷ ks) ran runs = by (step ticket c k) runs (λ turn rest. run-entries (ticket + 1) turn.next ks rest)
  where
    behind : (turn : Turn) (r : Option Ran) → option_map (ran_after turn.entry) r ≡ Some ran → ((rest : Ran) → r ≡ Some rest → length rest.entries ≡ length ks) → length ran.entries ≡ suc (length ks)
    behind turn None e each = absurd (cc)
    behind turn (Some rest) e each = let is : ran_after turn.entry rest ≡ ran = cc in subst (λ (r : Ran). length r.entries ≡ suc (length ks)) is (ap suc (each rest refl))

    by : (s : Option Turn) → option_and_then (λ turn. option_map (ran_after turn.entry) (run (ticket + 1) turn.next ks)) s ≡ Some ran
        → ((turn : Turn) (rest : Ran) → run (ticket + 1) turn.next ks ≡ Some rest → length rest.entries ≡ length ks) → length ran.entries ≡ suc (length ks)
    by None e later = absurd (cc)
    by (Some turn) e later = behind turn (run (ticket + 1) turn.next ks) e (later turn)

-- the measure is twice the turns that are left, and at most one for each cell
weight-turns : (task : Option TaskState) → weight task ≤ 2 * turns_of task + 1
weight-turns None = omega arith
weight-turns (Some task) = by task.ended
  where
    by : (b : Bool) → 2 * task.turns + (if b then 0 else 1) ≤ 2 * task.turns + 1
    by true = omega arith
    by false = omega arith

cells-turns : (cells : List Cell) → sum_by (λ (cell : Cell). weight cell.task) cells ≤ 2 * sum_by (λ (cell : Cell). turns_of cell.task) cells + length cells
cells-turns [] = omega arith
cells-turns (cell ∷ cells) = omega (
  arith,
  sum_by-cons (λ (x : Cell). weight x.task) cell cells,
  sum_by-cons (λ (x : Cell). turns_of x.task) cell cells,
  weight-turns cell.task,
  cells-turns cells,
)

pub run_is_short : RunIsShort
run_is_short ticket c ks ran is_well runs =
    let most : measure c ≤ 2 * turns_left c + length c.cells = cells-turns c.cells in
    omega (arith, most, is_well.turns, is_well.sound.few, run_is_bounded ticket c ks ran runs, run-entries ticket c ks ran runs)
