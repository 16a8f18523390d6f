-- Turns and runs name no principal without a name, and their entries can be printed.
use Rattle.std.proofs.Common.{◌≡◌, refl, sym, subst, ℕ, zero, suc, ◌+◌, Bool, true, false, if◌then◌else◌, List, [], ◌∷◌, Option, Some, None}
use Rattle.std.specs.Prelude.{option_and_then, slice_get, slice_set, slice_index_or}
use Rattle.std.specs.Option.{option_map}
use Rattle.std.proofs.lemmas.List.Elements.{All-nil, All-cons}
use Rattle.lio_labels.specs.declared.label.Label.{Label}
use Rattle.lio_labels.specs.LabelPrint.{AreNamed}
use Rattle.lio_values.specs.declared.act.Act.{Act}
use Rattle.lio_values.specs.declared.act.Act.TheVariants as act
use Rattle.lio_values.specs.declared.act.Birth.{Birth}
use Rattle.lio_values.specs.Named.{IsValueNamed}
use Rattle.lio_events.specs.Printable.{IsBirthNamed, IsActNamed, IsRaiseOf, IsReplyNamed, IsPrintable}
use Rattle.lio_cells.specs.declared.state.State.TheVariants.{Absent}
use Rattle.lio_calculus.specs.Task.{TaskState}
use Rattle.lio_calculus.specs.Plan.{Program, Plan, Over, Own, Visit, Target, plan}
use Rattle.lio_calculus.specs.Step.{Cell, Configuration, blank, cell_at, with_cell, number_of, is_met, met, Move, move_of, body_of, parameters_of, child_of, born, task_after, met_after, actor_after, target_after, after, Turn, step}
use Rattle.lio_calculus.specs.Run.{Ran, ran_after, run}
use Rattle.lio_calculus.proofs.PlanEach.{bind_all-each}
use Rattle.lio_calculus.proofs.PurityLemmas.{turn_keeps_purity}
use Rattle.lio_calculus.proofs.TurnParts.{made_of, parts, own-moves, visit-moves, over-moves}
use Rattle.lio_calculus.specs.Purity.{TurnIsPure}
use Rattle.lio_calculus_runs.specs.Script.{IsScriptNamed}
use Rattle.lio_calculus_runs.specs.Configuration.{IsTaskNamed, IsStateNamed, NamesOnly}
use Rattle.lio_calculus_runs.specs.NameLaws.{IsTurnNamed, TurnNamesOnly, IsRunNamed, RunNamesOnly}
use Rattle.lio_calculus_runs.proofs.NamedPlans.{IsOnwardNamed, IsPlanNamed, body_named}
use Rattle.lio_calculus_runs.proofs.Statements.{plan_named}
use Rattle.lio_calculus_runs.proofs.NamedTasks.{enter_named, gone_on_named}
use Rattle.lio_calculus_runs.proofs.Nodes.{state_named, answer_named}

-- a child
child_named : (names : List (List ℕ)) (program : Program) (label : Label) (birth : Birth) → IsScriptNamed names program.procedures → AreNamed names label → IsBirthNamed names birth → IsTaskNamed names (child_of program label birth)
unfolding child_of
child_named names program label birth p l b = record {
  environment = bind_all-each (IsValueNamed names) [] (parameters_of (slice_get program.procedures birth.proc_at)) birth.args (All-nil _) b.2;
  items = enter_named names (body_of (slice_get program.procedures birth.proc_at)) [] (body_named names program.procedures birth.proc_at p) (All-nil _);
  label = l;
  clearance = b.1;
}

-- a cell: its node, and its task
pub record IsCellNamed (names : List (List ℕ)) (cell : Cell) : Type 0 where
  pub state : IsStateNamed names cell.state
  pub task : (x : TaskState) → cell.task ≡ Some x → IsTaskNamed names x

born_named : (names : List (List ℕ)) (program : Program) (label : Label) (asked : Act) (x : TaskState) → IsScriptNamed names program.procedures → AreNamed names label → IsActNamed names asked → born program label asked ≡ Some x → IsTaskNamed names x
born_named names program label (act.Fork birth) x p l a e = let is : child_of program label birth ≡ x = cc in subst (IsTaskNamed names) is (child_named names program label birth p l a)
born_named names program label (act.Spawn birth) x p l a e = let is : child_of program label birth ≡ x = cc in subst (IsTaskNamed names) is (child_named names program label birth p l a)
born_named names program label asked x p l a e = absurd (cc)

met_named : (names : List (List ℕ)) (program : Program) (label : Label) (asked : Act) (cell : Cell) → IsScriptNamed names program.procedures → AreNamed names label → IsActNamed names asked → IsCellNamed names cell
    → IsCellNamed names (met_after program label asked cell)
met_named names program label asked cell p l a named = record {
  state = state_named names cell.state asked named.state a;
  task = by cell.task named.task;
}
  where
    by : (t : Option TaskState) → ((x : TaskState) → t ≡ Some x → IsTaskNamed names x) → (x : TaskState) → task_after t (born program label asked) ≡ Some x → IsTaskNamed names x
    by None before x e = born_named names program label asked x p l a e
    by (Some task) before x e = before x e

-- cells with one of them replaced
cells_each : (Q : Cell → Type 0) (cells : List Cell) (n : ℕ) (cell : Cell) → ((m : ℕ) → Q (slice_index_or cells m blank)) → Q cell → (m : ℕ) → Q (slice_index_or (slice_set cells n cell) m blank)
cells_each Q [] n cell each q m = each m
cells_each Q (first ∷ cells) zero cell each q zero = q
cells_each Q (first ∷ cells) zero cell each q (suc m) = each (suc m)
cells_each Q (first ∷ cells) (suc n) cell each q zero = each 0
cells_each Q (first ∷ cells) (suc n) cell each q (suc m) = cells_each Q cells n cell (λ i. each (suc i)) q m

-- a move
pub record IsMoveNamed (names : List (List ℕ)) (move : Move) : Type 0 where
  pub asked : IsActNamed names move.act
  pub raise : IsRaiseOf move.act
  pub reply : IsReplyNamed names move.reply
  pub onward : IsOnwardNamed names move.onward

pub move_named : (names : List (List ℕ)) (c : Configuration) (p : Plan) (move : Move) → ((n : ℕ) → IsStateNamed names (cell_at c n).state) → IsPlanNamed names p → move_of (cell_at c) p ≡ Some move → IsMoveNamed names move
move_named names c Over move nodes named moves = absurd (over-moves c move moves)
move_named names c (Own asked reply onward) move nodes named moves =
    subst (IsMoveNamed names) (own-moves c asked reply onward move moves) (record { asked = named.0; raise = named.1; reply = named.2; onward = named.3 })
move_named names c (Visit asked target onward) move nodes named moves =
    subst (IsMoveNamed names) (visit-moves c asked target onward move moves) (record {
      asked = named.0;
      raise = named.1;
      reply = answer_named names (met target (cell_at c (number_of target)).state) asked (by (is_met target (cell_at c (number_of target)).state));
      onward = named.2;
    })
  where
    by : (b : Bool) → IsStateNamed names (if b then (cell_at c (number_of target)).state else Absent)
    by true = nodes (number_of target)
    by false = tt

-- the configuration after a move
target_named : (names : List (List ℕ)) (c : Configuration) (label : Label) (asked : Act) (target : Option Target) → IsScriptNamed names c.program.procedures → AreNamed names label → IsActNamed names asked
    → ((n : ℕ) → IsCellNamed names (cell_at c n)) → (n : ℕ) → IsCellNamed names (cell_at (target_after c label asked target) n)
target_named names c label asked None p l a each n = each n
target_named names c label asked (Some target) p l a each n = by (is_met target (cell_at c (number_of target)).state)
  where
    by : (b : Bool) → IsCellNamed names (cell_at (if b then with_cell c (number_of target) (met_after c.program label asked (cell_at c (number_of target))) else c) n)
    by true = cells_each (IsCellNamed names) c.cells (number_of target) _ each (met_named names c.program label asked (cell_at c (number_of target)) p l a (each (number_of target))) n
    by false = each n

pub after_named : (names : List (List ℕ)) (c : Configuration) (k : ℕ) (task : TaskState) (move : Move) → IsScriptNamed names c.program.procedures → ((n : ℕ) → IsCellNamed names (cell_at c n)) → IsTaskNamed names task → IsMoveNamed names move
    → (n : ℕ) → IsCellNamed names (cell_at (after c k task move) n)
after_named names c k task move p each t m =
    let between : Configuration = target_after c task.label move.act move.target in
    let there : (n : ℕ) → IsCellNamed names (cell_at between n) = target_named names c task.label move.act move.target p t.label m.asked each in
    cells_each (IsCellNamed names) between.cells k (actor_after task move (cell_at between k)) there (record {
      state = state_named names (cell_at between k).state move.act (there k).state m.asked;
      task = λ x e. some (gone_on_named names task move.onward move.act move.reply t m.asked m.onward m.reply) x e;
    })
  where
    some : {y : TaskState} → IsTaskNamed names y → (x : TaskState) → Some y ≡ Some x → IsTaskNamed names x
    some {y} named x e = let is : y ≡ x = cc in subst (IsTaskNamed names) is named

-- the program stays
pub program_stays : (c : Configuration) (k : ℕ) (task : TaskState) (move : Move) → (after c k task move).program ≡ c.program
program_stays c k task move = by move.target
  where
    met_stays : (n : ℕ) (cell : Cell) (b : Bool) → (if b then with_cell c n cell else c).program ≡ c.program
    met_stays n cell true = refl
    met_stays n cell false = refl

    by : (target : Option Target) → (target_after c task.label move.act target).program ≡ c.program
    by None = refl
    by (Some target) = met_stays (number_of target) (met_after c.program task.label move.act (cell_at c (number_of target))) (is_met target (cell_at c (number_of target)).state)

-- a turn
pub turn_names_only : TurnNamesOnly
turn_names_only names ticket c k turn named steps =
    let p = parts ticket c k turn steps in
    let t : IsTaskNamed names p.task = named.tasks k p.task p.is in
    let m : IsMoveNamed names p.move = move_named names c (plan c.program p.task) p.move named.nodes (plan_named names c.program p.task named.program t) p.moves in
    let cells : (n : ℕ) → IsCellNamed names (cell_at (after c k p.task p.move) n) = after_named names c k p.task p.move named.program (λ n. record { state = named.nodes n; task = named.tasks n }) t m in
    let pure : TurnIsPure turn = turn_keeps_purity ticket c k turn named.pure steps in
    let made_pure : TurnIsPure (made_of ticket c k p.task p.move) = subst TurnIsPure (sym p.made) pure in
    subst (IsTurnNamed names) p.made (record {
      entry = record { at = t.label; act = m.asked; raise = m.raise; reply = m.reply; pure = (made_pure.entry.act, made_pure.entry.reply) };
      next = record {
        tasks = λ n x is. (cells n).task x is;
        nodes = λ n. (cells n).state;
        program = subst (λ (program : Program). IsScriptNamed names program.procedures) (sym (program_stays c k p.task p.move)) named.program;
        pure = made_pure.next;
      };
    })

-- a run
pub run_names_only : RunNamesOnly
unfolding run
run_names_only names ticket c [] ran named runs =
    let none : Ran = record { entries = []; last = c } in
    let is : none ≡ ran = cc in
    subst (IsRunNamed names) is (record { entries = All-nil (IsPrintable names); last = named })
run_names_only names ticket c (k ∷ ks) ran named runs =
    by (step ticket c k) runs (λ turn steps. turn_names_only names ticket c k turn named steps) (λ turn n rest. run_names_only names (ticket + 1) turn.next ks rest n)
  where
    behind : (turn : Turn) (r : Option Ran) → option_map (ran_after turn.entry) r ≡ Some ran → IsTurnNamed names turn → ((rest : Ran) → r ≡ Some rest → IsRunNamed names rest) → IsRunNamed names ran
    behind turn None e t each = absurd (cc)
    behind turn (Some rest) e t each =
        let is : ran_after turn.entry rest ≡ ran = cc in
        let r : IsRunNamed names rest = each rest refl in
        subst (IsRunNamed names) is (record { entries = All-cons (IsPrintable names) turn.entry rest.entries t.entry r.entries; last = r.last })

    by : (s : Option Turn) → option_and_then (λ turn. option_map (ran_after turn.entry) (run (ticket + 1) turn.next ks)) s ≡ Some ran
        → ((turn : Turn) → s ≡ Some turn → IsTurnNamed names turn)
        → ((turn : Turn) → NamesOnly names turn.next → (rest : Ran) → run (ticket + 1) turn.next ks ≡ Some rest → IsRunNamed names rest) → IsRunNamed names ran
    by None e first later = absurd (cc)
    by (Some turn) e first later =
        let t : IsTurnNamed names turn = first turn refl in
        behind turn (run (ticket + 1) turn.next ks) e t (later turn t.next)
