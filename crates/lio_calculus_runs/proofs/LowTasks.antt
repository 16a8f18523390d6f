-- The tasks that stand in an erased configuration, by number, are some of the tasks.
use Rattle.std.proofs.Common.{◌≡◌, ◌∙◌, refl, sym, ap, subst, ℕ, suc, ◌+◌, inl, inr, Bool, true, false, if◌then◌else◌, List, [], ◌∷◌, map, Option, Some, None, is_some, arith}
use Rattle.std.specs.Prelude.{option_map, slice_index_or}
use Rattle.lio_labels.specs.declared.label.Label.{Label}
use Rattle.lio_calculus.specs.Task.{TaskState}
use Rattle.lio_calculus.specs.Hiding.{hide_task}
use Rattle.lio_calculus.specs.Step.{Cell, Configuration, blank, cell_at}
use Rattle.lio_calculus.specs.Erased.{sees, erase_cell, erase}
use Rattle.lio_calculus.proofs.InvisibleLemmas.{erase_cell-unseen, erase_cell-seen}
use Rattle.lio_calculus.proofs.ConfigLemmas.{cell_at-erased}
use Rattle.lio_calculus_runs.specs.Rounds.{tasks_from, tasks}
use Rattle.lio_calculus_runs.proofs.FloatLemmas.{IsTask}
use Rattle.lio_calculus_runs.proofs.LowRoundLemmas.{Below}

-- what stands in an erased cell is a task
erased-none : (observer : Label) (cell : Cell) → cell.task ≡ None → is_some (erase_cell observer cell).task ≡ false
erased-none observer cell none = by (sees observer cell) refl
  where
    by : (b : Bool) → sees observer cell ≡ b → is_some (erase_cell observer cell).task ≡ false
    by true is = ap (λ (x : Cell). is_some x.task) (erase_cell-seen observer cell is) ∙ ap (λ (t : Option TaskState). is_some (option_map (hide_task observer) t)) none
    by false is = ap (λ (x : Cell). is_some x.task) (erase_cell-unseen observer cell is)

-- cells from a first number
from-below : (observer : Label) (c : Configuration) (first : ℕ) (cells : List Cell) → ((i : ℕ) → cell_at c (first + i) ≡ slice_index_or cells i blank) → Below observer c (tasks_from first (map (erase_cell observer) cells)) (tasks_from first cells)
unfolding tasks_from
from-below observer c first [] each = refl
from-below observer c first (cell ∷ cells) each =
    by cell.task refl (is_some (erase_cell observer cell).task) refl
    (from-below observer c (first + 1) cells (λ i. let same : first + 1 + i ≡ first + suc i = omega arith in ap (cell_at c) same ∙ each (suc i)))
  where
    low_rest : List ℕ
    low_rest = tasks_from (first + 1) (map (erase_cell observer) cells)

    rest : List ℕ
    rest = tasks_from (first + 1) cells

    here : cell_at c first ≡ cell
    here = let same : first ≡ first + 0 = omega arith in ap (cell_at c) same ∙ each 0

    by : (t : Option TaskState) → cell.task ≡ t → (low : Bool) → is_some (erase_cell observer cell).task ≡ low → Below observer c low_rest rest
        → Below observer c (if is_some (erase_cell observer cell).task then first ∷ low_rest else low_rest) (if is_some cell.task then first ∷ rest else rest)
    by None e low f below =
        let none : is_some cell.task ≡ false = ap (λ (x : Option TaskState). is_some x) e in
        subst (λ (b : Bool). Below observer c (if b then first ∷ low_rest else low_rest) (if is_some cell.task then first ∷ rest else rest)) (sym (erased-none observer cell e))
        (subst (λ (b : Bool). Below observer c low_rest (if b then first ∷ rest else rest)) (sym none) below)
    by (Some task) e low f below =
        let some : is_some cell.task ≡ true = ap (λ (x : Option TaskState). is_some x) e in
        let is_task : IsTask c first = ap (λ (x : Cell). is_some x.task) here ∙ some in
        subst (λ (b : Bool). Below observer c (if is_some (erase_cell observer cell).task then first ∷ low_rest else low_rest) (if b then first ∷ rest else rest)) (sym some)
        (subst (λ (b : Bool). Below observer c (if b then first ∷ low_rest else low_rest) (first ∷ rest)) (sym f) (stands low f is_task))
      where
        stands : (b : Bool) → is_some (erase_cell observer cell).task ≡ b → IsTask c first → Below observer c (if b then first ∷ low_rest else low_rest) (first ∷ rest)
        stands true g is_task = (is_task, inr (low_rest, refl, below))
        stands false g is_task = (is_task, inl (ap (λ (x : Cell). is_some x.task) (cell_at-erased observer c first ∙ ap (erase_cell observer) here) ∙ g, below))

pub tasks-below : (observer : Label) (c : Configuration) → Below observer c (tasks (erase observer c)) (tasks c)
tasks-below observer c = from-below observer c 0 c.cells (λ i. let same : 0 + i ≡ i = omega arith in ap (cell_at c) same)
