-- The tasks of the cells after a turn.
use Rattle.std.proofs.Common.{◌≡◌, ◌≢◌, ◌∙◌, refl, sym, ap, subst, ℕ, ◌<◌, ◌≤◌, ◌⊎◌, inl, inr, Bool, true, false, if◌then◌else◌, List, length, Option, Some, None, arith}
use Rattle.std.specs.Prelude.{nat_lt}
use Rattle.std.proofs.lemmas.Bool.Decides.{eqb_tells, nat_tests}
use Rattle.std.proofs.lemmas.List.{get_or_past, set_past, get_or-set_same, get_or-set_other}
use Rattle.std.proofs.Math.Dec.{eqb}
use Rattle.lio_labels.specs.declared.label.Label.{Label}
use Rattle.lio_values.specs.declared.act.Act.{Act}
use Rattle.lio_calculus.specs.Task.{TaskState}
use Rattle.lio_calculus.specs.Plan.{Target}
use Rattle.lio_calculus.specs.Step.{Cell, Configuration, blank, cell_at, with_cell, number_of, is_met, born, task_after, met_after, target_after}
use Rattle.lio_calculus.specs.Sound.{IsTaskOf}

pub lt_or : (a b : ℕ) → (a < b) ⊎ (b ≤ a)
lt_or a b = by (nat_lt a b) refl
  where
    by : (t : Bool) → nat_lt a b ≡ t → (a < b) ⊎ (b ≤ a)
    by true e = inl (grind (arith, nat_tests))
    by false e = inr (grind (arith, nat_tests))

-- a cell with a task lies in the list
pub task-inside : (c : Configuration) (k : ℕ) (task : TaskState) → IsTaskOf c k task → k < length c.cells
task-inside c k task is = by (lt_or k (length c.cells))
  where
    by : (k < length c.cells) ⊎ (length c.cells ≤ k) → k < length c.cells
    by (inl p) = p
    by (inr p) = let none : Some task ≡ None = sym is ∙ ap (λ (x : Cell). x.task) (get_or_past c.cells k blank p) in absurd (cc)

-- where a cell is changed
pub data Changed (c : Configuration) (n : ℕ) (cell : Cell) (k : ℕ) : Type 0 where
  Here : k ≡ n → cell_at (with_cell c n cell) k ≡ cell → Changed c n cell k
  Elsewhere : cell_at (with_cell c n cell) k ≡ cell_at c k → Changed c n cell k

pub changed : (c : Configuration) (n : ℕ) (cell : Cell) (k : ℕ) → Changed c n cell k
changed c n cell k = by (lt_or n (length c.cells)) (eqb_tells k n)
  where
    by : (n < length c.cells) ⊎ (length c.cells ≤ n) → (((eqb k n ≡ true) × (k ≡ n)) ⊎ ((eqb k n ≡ false) × (k ≢ n))) → Changed c n cell k
    by (inl p) (inl q) = Here q.1 (ap (cell_at (with_cell c n cell)) q.1 ∙ get_or-set_same c.cells n cell blank p)
    by (inl p) (inr q) = Elsewhere (get_or-set_other c.cells n k cell blank q.1)
    by (inr p) q = Elsewhere (ap (λ (cells : List Cell). cell_at (record c { cells = cells }) k) (set_past c.cells n cell p))

-- a target keeps the task that it has
pub task-met : (c : Configuration) (k : ℕ) (task : TaskState) (label : Label) (asked : Act) (target : Option Target) → IsTaskOf c k task → IsTaskOf (target_after c label asked target) k task
task-met c k task label asked None is = is
task-met c k task label asked (Some target) is = by (is_met target (cell_at c (number_of target)).state)
  where
    cell : Cell
    cell = met_after c.program label asked (cell_at c (number_of target))

    kept : Changed c (number_of target) cell k → IsTaskOf (with_cell c (number_of target) cell) k task
    kept (Here e h) =
        let there : (cell_at c (number_of target)).task ≡ Some task = subst (λ (n : ℕ). IsTaskOf c n task) e is in
        ap (λ (x : Cell). x.task) h ∙ ap (λ (t : Option TaskState). task_after t (born c.program label asked)) there
    kept (Elsewhere h) = ap (λ (x : Cell). x.task) h ∙ is

    by : (b : Bool) → IsTaskOf (if b then with_cell c (number_of target) cell else c) k task
    by true = kept (changed c (number_of target) cell k)
    by false = is
