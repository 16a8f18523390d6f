-- The cells that holders stand for, and what a changed holder makes of them.
use Rattle.std.proofs.Common.{◌≡◌, ◌∙◌, refl, sym, ap, subst, ℕ, zero, suc, ◌<◌, List, [], ◌∷◌, length, get_or, Option, Some, None, option_and_then, arith}
use Rattle.std.specs.Prelude.{slice_set}
use Rattle.std.specs.Option.{option_map}
use Rattle.std.proofs.lemmas.List.{map-set, set-get_or}
use Rattle.lio_labels.specs.declared.label.Label.{Label}
use Rattle.lio_values.specs.declared.act.Act.{Act}
use Rattle.lio_values.specs.declared.act.Reply.{Reply}
use Rattle.lio_syntax.specs.Statements.{Procedure}
use Rattle.lio_calculus.specs.Step.{Cell, Configuration, blank, cell_at, with_cell}
use Rattle.lio_task_turns.specs.StateOf.{program_of}
use Rattle.lio_task.specs.declared.task.Task.{Task}
use Rattle.lio_task.specs.declared.config.Holder.{Holder}
use Rattle.lio_task.specs.StateOf.{state_in}
use Rattle.lio_erasure.specs.Low.{holder_in, low_cell_of, low_configuration_of, low_task_in, seen_cell}
use Rattle.lio_erasure.specs.Turn.{Advances, CanServe, HasGoneOn, Serves, Settles, node_of_holder, serving}

-- the cell with a number
pub cell_at-low : (script : List Procedure) (longest : ℕ) (holders : List (Option Holder)) (n : ℕ) → cell_at (low_configuration_of script longest holders) n ≡ low_cell_of script (holder_in holders n)
cell_at-low script longest [] n = refl
cell_at-low script longest (holder ∷ holders) zero = refl
cell_at-low script longest (holder ∷ holders) (suc n) = cell_at-low script longest holders n

-- the configuration with another holder under a number
pub with_cell-low : (script : List Procedure) (longest : ℕ) (holders : List (Option Holder)) (n : ℕ) (holder : Option Holder)
    → low_configuration_of script longest (slice_set holders n holder) ≡ with_cell (low_configuration_of script longest holders) n (low_cell_of script holder)
with_cell-low script longest holders n holder =
    ap (λ (cells : List Cell). record (low_configuration_of script longest holders) { cells = cells }) (map-set (low_cell_of script) holders n holder)

-- a cell in its own place changes nothing
pub with_cell-own : (c : Configuration) (n : ℕ) → with_cell c n (cell_at c n) ≡ c
with_cell-own c n = ap (λ (cells : List Cell). record c { cells = cells }) (set-get_or c.cells n blank)

-- the task with a number
pub task-low : (script : List Procedure) (longest : ℕ) (holders : List (Option Holder)) (k : ℕ) (task : Option Task) → low_task_in holders k ≡ task → (cell_at (low_configuration_of script longest holders) k).task ≡ option_map (state_in script) task
task-low script longest holders k task e = ap (λ (x : Cell). x.task) (cell_at-low script longest holders k) ∙ of (holder_in holders k) ∙ ap (option_map (state_in script)) e
  where
    of : (h : Option Holder) → (low_cell_of script h).task ≡ option_map (state_in script) (option_and_then (λ holder. holder.task) h)
    of None = refl
    of (Some holder) = refl

-- the holder of a task is there
pub task-holder : (holders : List (Option Holder)) (k : ℕ) (task : Task) → low_task_in holders k ≡ Some task → (holder : Holder) × (holder_in holders k ≡ Some holder) × (holder.task ≡ Some task)
task-holder holders k task e = by (holder_in holders k) refl e
  where
    by : (h : Option Holder) → holder_in holders k ≡ h → option_and_then (λ holder. holder.task) h ≡ Some task → (holder : Holder) × (holder_in holders k ≡ Some holder) × (holder.task ≡ Some task)
    by None is t = absurd (cc)
    by (Some holder) is t = (holder, is, t)

-- the task that was found
pub same-code_task : {one other : Task} {found : Option Task} → Some one ≡ found → found ≡ Some other → one ≡ other
same-code_task one other = cc

-- the cell of a holder that is there
pub cell-low : (script : List Procedure) (longest : ℕ) (holders : List (Option Holder)) (n : ℕ) (holder : Option Holder) → holder_in holders n ≡ holder → cell_at (low_configuration_of script longest holders) n ≡ low_cell_of script holder
cell-low script longest holders n holder is = cell_at-low script longest holders n ∙ ap (low_cell_of script) is

-- a holder that was found
pub found-in : (holders : List (Option Holder)) (n : ℕ) (place : Option Holder) → n < length holders → place ≡ get_or holders n place → holder_in holders n ≡ place
found-in [] n place within is = absurd (omega arith)
found-in (h ∷ holders) zero place within is = sym is
found-in (h ∷ holders) (suc n) place within is = found-in holders n place (omega arith) is

-- the cell under a number that was found
pub cell-found : (script : List Procedure) (longest : ℕ) (holders : List (Option Holder)) (n : ℕ) (place : Option Holder) → n < length holders → place ≡ get_or holders n place → cell_at (low_configuration_of script longest holders) n ≡ low_cell_of script place
cell-found script longest holders n place within is = cell-low script longest holders n place (found-in holders n place within is)

-- what is under a number, after it was put there
pub holder_in-put : (holders : List (Option Holder)) (n : ℕ) (place : Option Holder) → n < length holders → holder_in (slice_set holders n place) n ≡ place
holder_in-put [] n place within = absurd (omega arith)
holder_in-put (h ∷ holders) zero place within = refl
holder_in-put (h ∷ holders) (suc n) place within = holder_in-put holders n place (omega arith)

-- what stands for the same cell was put under a number
pub same-low : (script : List Procedure) (longest : ℕ) (holders : List (Option Holder)) (n : ℕ) (place other : Option Holder) → n < length holders → place ≡ get_or holders n place → low_cell_of script other ≡ low_cell_of script place
    → low_configuration_of script longest (slice_set holders n other) ≡ low_configuration_of script longest holders
same-low script longest holders n place other within is same =
    let c : Configuration = low_configuration_of script longest holders in
    with_cell-low script longest holders n other ∙ ap (with_cell c n) (same ∙ sym (cell-found script longest holders n place within is)) ∙ with_cell-own c n

-- a node has served an act
pub serves-low : (script : List Procedure) (longest : ℕ) (holders : List (Option Holder)) (n : ℕ) (place other : Option Holder) (asked : Act) → n < length holders → place ≡ get_or holders n place
    → low_cell_of script other ≡ serving asked (low_cell_of script place) → Serves script longest holders (slice_set holders n other) n asked
serves-low script longest holders n place other asked within is serves =
    let c : Configuration = low_configuration_of script longest holders in
    with_cell-low script longest holders n other ∙ ap (with_cell c n) (serves ∙ ap (serving asked) (sym (cell-found script longest holders n place within is)))

-- a task has gone on
pub advances-low : (observer : Label) (script : List Procedure) (longest : ℕ) (holders : List (Option Holder)) (k : ℕ) (place other : Option Holder) (asked : Act) (reply : Reply) → k < length holders → place ≡ get_or holders k place
    → HasGoneOn observer (program_of script longest) (low_cell_of script place) (low_cell_of script other) asked reply
    → Advances observer (low_configuration_of script longest holders) (low_configuration_of script longest (slice_set holders k other)) k asked reply
advances-low observer script longest holders k place other asked reply within is goes = λ task at.
    let c : Configuration = low_configuration_of script longest holders in
    let cell : cell_at c k ≡ low_cell_of script place = cell-found script longest holders k place within is in
    with_cell-low script longest holders k other
    ∙ ap (with_cell c k) (subst (λ (x : Cell). HasGoneOn observer (program_of script longest) x (low_cell_of script other) asked reply) (sym cell) goes task at)

-- the nodes stay as they are
node-put : (holders : List (Option Holder)) (k n : ℕ) (other : Option Holder) → node_of_holder other ≡ node_of_holder (holder_in holders k) → node_of_holder (holder_in (slice_set holders k other) n) ≡ node_of_holder (holder_in holders n)
node-put [] k n other same = refl
node-put (h ∷ holders) zero zero other same = same
node-put (h ∷ holders) zero (suc n) other same = refl
node-put (h ∷ holders) (suc k) zero other same = refl
node-put (h ∷ holders) (suc k) (suc n) other same = node-put holders k n other same

pub serves-still : (holders : List (Option Holder)) (k n : ℕ) (place other : Option Holder) (asked : Act) → k < length holders → place ≡ get_or holders k place → node_of_holder other ≡ node_of_holder place → CanServe (holder_in holders n) asked
    → CanServe (holder_in (slice_set holders k other) n) asked
serves-still holders k n place other asked within is same can = record {
  node = can.node;
  is = node-put holders k n other (same ∙ ap node_of_holder (sym (found-in holders k place within is))) ∙ can.is;
  room = can.room;
  part = can.part;
}

-- a cell that is left out where the observer doesn't see it
pub settles-seen : (observer : Label) (script : List Procedure) (longest : ℕ) (holders : List (Option Holder)) (k : ℕ) (holder : Option Holder) → holder_in holders k ≡ holder → seen_cell observer (low_cell_of script holder) ≡ low_cell_of script holder
    → Settles observer script longest holders holders k
settles-seen observer script longest holders k holder there seen =
    let c : Configuration = low_configuration_of script longest holders in
    let cell : cell_at c k ≡ low_cell_of script holder = cell-low script longest holders k holder there in
    sym (ap (with_cell c k) (ap (seen_cell observer) cell ∙ seen ∙ sym cell) ∙ with_cell-own c k)

pub settles-unseen : (observer : Label) (script : List Procedure) (longest : ℕ) (holders : List (Option Holder)) (k : ℕ) (holder : Option Holder) → holder_in holders k ≡ holder → seen_cell observer (low_cell_of script holder) ≡ blank
    → Settles observer script longest holders (slice_set holders k None) k
settles-unseen observer script longest holders k holder there unseen =
    let c : Configuration = low_configuration_of script longest holders in
    with_cell-low script longest holders k None ∙ sym (ap (with_cell c k) (ap (seen_cell observer) (cell-low script longest holders k holder there) ∙ unseen))
