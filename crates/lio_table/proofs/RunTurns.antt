-- A run from a sound configuration is a journal of turns.
use Rattle.std.proofs.Common.{◌≡◌, ◌∙◌, refl, sym, ap, subst, ℕ, ◌+◌, ◌<◌, Bool, true, false, List, [], ◌∷◌, ◌++◌, length, Option, Some, None, append-nil, append_assoc, length-append, option_and_then, ◌&&◌, not, if◌then◌else◌}
use Rattle.std.specs.Option.{option_map}
use Rattle.std.proofs.lemmas.List.{ext_get_or}
use Rattle.lio_values.specs.declared.act.Act.{Act}
use Rattle.lio_values.specs.declared.entry.Entry.{Entry}
use Rattle.lio_cells.specs.State.{ready}
use Rattle.lio_cells.specs.declared.state.State.TheVariants.{Absent}
use Rattle.lio_calculus.specs.Task.{TaskState}
use Rattle.lio_calculus.specs.Going.{Onward}
use Rattle.lio_calculus.specs.Plan.{Over, Own, Plan, Target, Visit, plan}
use Rattle.lio_calculus.specs.Step.{Configuration, Move, Turn, blank, cell_at, met, move_of, number_of, step, waits}
use Rattle.lio_calculus.specs.Run.{Ran, ran_after, run}
use Rattle.lio_calculus.specs.Sound.{IsSound, IsTaskOf}
use Rattle.lio_calculus.specs.Effect.{entered, entry_in}
use Rattle.lio_calculus.specs.Locality.{ChangesTwoCells}
use Rattle.lio_calculus.specs.Meeting.{MeetsNode}
use Rattle.lio_calculus.specs.Logs.{folded}
use Rattle.lio_calculus.proofs.EffectLemmas.{entry-of-move, step_is_its_entry}
use Rattle.lio_calculus.proofs.FoldLemmas.{fold-more}
use Rattle.lio_calculus.proofs.JournalLemmas.{has-none}
use Rattle.lio_calculus.proofs.LocalityLemmas.{step_changes_two_cells}
use Rattle.lio_calculus.proofs.MeetingLemmas.{visit_meets_node}
use Rattle.lio_calculus.proofs.SoundLemmas.{inside, task-there}
use Rattle.lio_calculus.proofs.TurnParts.{made_of, over-moves, own-moves, own_move, parts, visit-moves, visit_move}
use Rattle.lio_table.specs.Rule.{AreTurns}
use Rattle.lio_table.specs.Laws.{RunsAreTurns}
use Rattle.lio_table.proofs.Turns.{folded-cells, folded-program, folded-size, logs-of, turns-more, turns-run}

-- The entry of a step shows two nodes at most, which are there, and is the turn of its actor.
record Shows (ticket : ℕ) (c : Configuration) (turn : Turn) : Type 0 where
  next : turn.entry.ticket ≡ ticket
  apart : turn.entry.target ≡ Some turn.entry.actor → ⊥
  actor : turn.entry.actor < length c.cells
  target : (n : ℕ) → turn.entry.target ≡ Some n → n < length c.cells
  shown : entry_in c.program (cell_at c) ticket turn.entry.actor ≡ Some turn.entry

-- a visit that is a move finds its node ready
visit-ready : (state_ready waiting : Bool) (move move' : Move) → (waiting ≡ false → state_ready ≡ true) → (if waiting && not state_ready then None else Some move) ≡ Some move' → state_ready ≡ true
visit-ready true waiting move move' else_ready moves = refl
visit-ready false true move move' else_ready moves = absurd (cc)
visit-ready false false move move' else_ready moves = else_ready refl

no-target : {n : ℕ} → None ≡ Some n → ⊥
no-target e = absurd (cc)

same-number : {m n : ℕ} → Some m ≡ Some n → m ≡ n
same-number e = cc

shows-visit : (ticket : ℕ) (c : Configuration) (k : ℕ) (task : TaskState) (asked : Act) (target : Target) (onward : Onward) (move : Move) → IsSound c → IsTaskOf c k task → plan c.program task ≡ Visit asked target onward
    → move_of (cell_at c) (Visit asked target onward) ≡ Some move → move_of (cell_at c) (Visit asked target onward) ≡ Some (visit_move c asked target onward) → Shows ticket c (made_of ticket c k task (visit_move c asked target onward))
shows-visit ticket c k task asked target onward move sound is plans moves taken =
    let m : ℕ = number_of target in
    let there : MeetsNode c k asked target = visit_meets_node c k task asked target onward sound is plans in
    let met_is : met target (cell_at c m).state ≡ (cell_at c m).state = ap (λ (b : Bool). if b then (cell_at c m).state else Absent) there.met in
    let is_ready : ready (cell_at c m).state asked ≡ true =
    ap (λ s. ready s asked) (sym met_is)
    ∙ visit-ready (ready (met target (cell_at c m).state) asked) (waits asked) (visit_move c asked target onward) move (λ e. ap (λ s. ready s asked) met_is ∙ there.ready e) moves in
    record {
      next = refl;
      apart = λ e. there.other is_ready (sym (same-number e));
      actor = inside c k (task-there c k task is);
      target = λ n e. subst (λ i. i < length c.cells) (same-number e) there.within;
      shown = entry-of-move c k ticket task (Some (visit_move c asked target onward)) is (ap (move_of (cell_at c)) plans ∙ taken);
    }

shows : (ticket : ℕ) (c : Configuration) (k : ℕ) (turn : Turn) → IsSound c → step ticket c k ≡ Some turn → Shows ticket c turn
shows ticket c k turn sound steps =
    let p = parts ticket c k turn steps in
    subst (λ (t : Turn). Shows ticket c t) p.made (by p.task p.is p.move (plan c.program p.task) refl p.moves)
  where
    by : (task : TaskState) → IsTaskOf c k task → (move : Move) → (p : Plan) → plan c.program task ≡ p → move_of (cell_at c) p ≡ Some move → Shows ticket c (made_of ticket c k task move)
    by task is move Over plans moves = absurd (over-moves c move moves)
    by task is move (Own asked reply onward) plans moves =
        subst (λ (m : Move). Shows ticket c (made_of ticket c k task m)) (own-moves c asked reply onward move moves) (record {
          next = refl;
          apart = λ e. no-target e;
          actor = inside c k (task-there c k task is);
          target = λ n e. absurd (no-target e);
          shown = entry-of-move c k ticket task (Some (own_move asked reply onward)) is (ap (move_of (cell_at c)) plans);
        })
    by task is move (Visit asked target onward) plans moves =
        let same : visit_move c asked target onward ≡ move = visit-moves c asked target onward move moves in
        subst (λ (m : Move). Shows ticket c (made_of ticket c k task m)) same
        (shows-visit ticket c k task asked target onward move sound is plans moves (moves ∙ ap Some (sym same)))

-- the first step of a run, and the run after it
record First (ticket : ℕ) (c : Configuration) (k : ℕ) (ks : List ℕ) (ran : Ran) : Type 0 where
  turn : Turn
  rest : Ran
  is_step : step ticket c k ≡ Some turn
  is_rest : run (ticket + 1) turn.next ks ≡ Some rest
  is_run : ran_after turn.entry rest ≡ ran

first : (ticket : ℕ) (c : Configuration) (k : ℕ) (ks : List ℕ) (ran : Ran) → run ticket c (k ∷ ks) ≡ Some ran → First ticket c k ks ran
unfolding run
first ticket c k ks ran is = by-step (step ticket c k) refl is
  where
    by-rest : (turn : Turn) (rest : Option Ran) → step ticket c k ≡ Some turn → run (ticket + 1) turn.next ks ≡ rest → option_map (ran_after turn.entry) rest ≡ Some ran → First ticket c k ks ran
    by-rest turn None taken goes e = absurd (cc)
    by-rest turn (Some rest) taken goes e = record { turn = turn; rest = rest; is_step = taken; is_rest = goes; is_run = cc }

    by-step : (taken : Option Turn) → step ticket c k ≡ taken → option_and_then (λ turn. option_map (ran_after turn.entry) (run (ticket + 1) turn.next ks)) taken ≡ Some ran → First ticket c k ks ran
    by-step None taken e = absurd (cc)
    by-step (Some turn) taken e = by-rest turn (run (ticket + 1) turn.next ks) taken refl e

module _ (c : Configuration) (journal : List Entry) (turns : AreTurns c journal) (k : ℕ) (turn : Turn) (steps : step (length journal) (folded c (logs-of journal)) k ≡ Some turn) where
  abbrev here : Configuration
  here = folded c (logs-of journal)

  abbrev longer : List Entry
  longer = journal ++ turn.entry ∷ []

  sound-here : IsSound here
  sound-here = (turns-run c journal turns).sound

  -- a step from where a journal of turns has led is one more of them
  turns-step : AreTurns c longer
  turns-step =
      let of_step : Shows (length journal) here turn = shows (length journal) here k turn sound-here steps in
      turns-more c journal turns turn.entry of_step.next of_step.apart
      (subst (λ l. turn.entry.actor < l) (folded-size c journal turns) of_step.actor)
      (λ n is. subst (λ l. n < l) (folded-size c journal turns) (of_step.target n is))
      of_step.shown

  -- and leads to what the logs with its entry make of the first configuration
  step-leads : turn.next ≡ folded c (logs-of longer)
  step-leads =
      let changes : ChangesTwoCells here k turn = step_changes_two_cells (length journal) here k turn steps in
      let cells : turn.next.cells ≡ (folded c (logs-of longer)).cells =
      ext_get_or blank turn.next.cells (folded c (logs-of longer)).cells (changes.size ∙ folded-size c journal turns ∙ sym (folded-size c longer turns-step)) (λ n within. at n) in
      let program : turn.next.program ≡ (folded c (logs-of longer)).program = changes.program ∙ folded-program c journal turns ∙ sym (folded-program c longer turns-step) in
      λ i. record { program = program i; cells = cells i }
    where
      at : (n : ℕ) → cell_at turn.next n ≡ cell_at (folded c (logs-of longer)) n
      at n = step_is_its_entry (length journal) here k turn sound-here steps n
          ∙ (λ i. entered (folded-program c journal turns i) n turn.entry (folded-cells c journal turns n i))
          ∙ fold-more c.program n (cell_at c n) journal turn.entry ∙ sym (folded-cells c longer turns-step n)

turns-on : (c : Configuration) (ks : List ℕ) (journal : List Entry) (ran : Ran) → AreTurns c journal → run (length journal) (folded c (logs-of journal)) ks ≡ Some ran → AreTurns c (journal ++ ran.entries)
unfolding run
turns-on c [] journal ran turns runs =
    let none : record { entries = []; last = folded c (logs-of journal) } ≡ ran = cc in
    subst (λ (r : Ran). AreTurns c (journal ++ r.entries)) none (subst (AreTurns c) (sym (append-nil journal)) turns)
turns-on c (k ∷ ks) journal ran turns runs =
    let f = first (length journal) (folded c (logs-of journal)) k ks ran runs in
    let longer : List Entry = journal ++ f.turn.entry ∷ [] in
    let many : length longer ≡ length journal + 1 = length-append journal (f.turn.entry ∷ []) in
    let leads : f.turn.next ≡ folded c (logs-of longer) = step-leads c journal turns k f.turn f.is_step in
    let rest : run (length longer) (folded c (logs-of longer)) ks ≡ Some f.rest = (λ i. run (many i) (sym leads i) ks) ∙ f.is_rest in
    let all : AreTurns c (longer ++ f.rest.entries) = turns-on c ks longer f.rest (turns-step c journal turns k f.turn f.is_step) rest in
    subst (λ (r : Ran). AreTurns c (journal ++ r.entries)) f.is_run (subst (AreTurns c) (append_assoc journal (f.turn.entry ∷ []) f.rest.entries) all)

-- no turn was taken
no-turns : (c : Configuration) → IsSound c → AreTurns c []
no-turns c sound = record { sound = sound; numbered = tt; inside = λ n beyond. refl; local = λ e has. absurd (has-none e has) }

-- the last configuration of a run, where there is one
abbrev pub last-or : Configuration → Option Ran → Configuration
last-or c None = c
last-or c (Some ran) = ran.last

pub runs_are_turns : RunsAreTurns
unfolding run
runs_are_turns c ks ran sound runs =
    let begun : c ≡ folded c (logs-of []) = ap (last-or c) (turns-run c [] (no-turns c sound)).is_run in
    turns-on c ks [] ran (no-turns c sound) (subst (λ (d : Configuration). run 0 d ks ≡ Some ran) begun runs)
