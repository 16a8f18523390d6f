-- Configurations as an observer sees them.
use Rattle.std.proofs.Common.{◌≡◌, ◌∙◌, refl, sym, ap, ℕ, Bool, true, false, List, [], ◌∷◌, map}
use Rattle.std.specs.List.{slice_set, slice_index_or}
use Rattle.std.proofs.Math.ListN.{get_or-map}
use Rattle.std.proofs.Math.Seq.{map-set}
use Rattle.lio_labels.specs.declared.label.Label.{Label}
use Rattle.lio_calculus.specs.Step.{Cell, Configuration, blank, cell_at, with_cell}
use Rattle.lio_calculus.specs.Erased.{sees, hide_cell, erase_cell, erase}
use Rattle.lio_calculus.proofs.CellLemmas.{sees-hidden}
use Rattle.lio_calculus.proofs.InvisibleLemmas.{erase_cell-unseen, erase_cell-seen}
use Rattle.lio_calculus.proofs.ActorLemmas.{hide_cell-twice}

-- a cell that is seen with hidden values looks as the cell does
pub erase_cell-hidden : (observer : Label) (cell : Cell) → erase_cell observer (hide_cell observer cell) ≡ erase_cell observer cell
erase_cell-hidden observer cell = decided (sees observer cell) refl
  where
    decided : (b : Bool) → sees observer cell ≡ b → erase_cell observer (hide_cell observer cell) ≡ erase_cell observer cell
    decided true is = erase_cell-seen observer (hide_cell observer cell) (sees-hidden observer cell ∙ is) ∙ hide_cell-twice observer cell ∙ sym (erase_cell-seen observer cell is)
    decided false is = erase_cell-unseen observer (hide_cell observer cell) (sees-hidden observer cell ∙ is) ∙ sym (erase_cell-unseen observer cell is)

pub erase_cell-blank : (observer : Label) → erase_cell observer blank ≡ blank
erase_cell-blank observer = erase_cell-unseen observer blank refl

pub erase_cell-twice : (observer : Label) (cell : Cell) → erase_cell observer (erase_cell observer cell) ≡ erase_cell observer cell
erase_cell-twice observer cell = decided (sees observer cell) refl
  where
    decided : (b : Bool) → sees observer cell ≡ b → erase_cell observer (erase_cell observer cell) ≡ erase_cell observer cell
    decided true is = ap (erase_cell observer) (erase_cell-seen observer cell is) ∙ erase_cell-hidden observer cell
    decided false is = ap (erase_cell observer) (erase_cell-unseen observer cell is) ∙ erase_cell-blank observer ∙ sym (erase_cell-unseen observer cell is)

erase_cells-twice : (observer : Label) (cells : List Cell) → map (erase_cell observer) (map (erase_cell observer) cells) ≡ map (erase_cell observer) cells
erase_cells-twice observer [] = refl
erase_cells-twice observer (cell ∷ cells) = λ i. erase_cell-twice observer cell i ∷ erase_cells-twice observer cells i

-- erasing twice is erasing once
pub erase-twice : (observer : Label) (c : Configuration) → erase observer (erase observer c) ≡ erase observer c
erase-twice observer c = λ i. record { program = c.program; cells = erase_cells-twice observer c.cells i }

-- the cell with a number, as the observer sees it
pub cell_at-erased : (observer : Label) (c : Configuration) (n : ℕ) → cell_at (erase observer c) n ≡ erase_cell observer (cell_at c n)
cell_at-erased observer c n =
    ap (λ (d : Cell). slice_index_or (map (erase_cell observer) c.cells) n d) (sym (erase_cell-blank observer)) ∙ get_or-map (erase_cell observer) c.cells n blank

-- configurations that look alike, with cells that look alike under one number
pub with_cell-alike : (observer : Label) (c d : Configuration) (n : ℕ) (cell other : Cell) → erase observer c ≡ erase observer d → erase_cell observer cell ≡ erase_cell observer other
    → erase observer (with_cell c n cell) ≡ erase observer (with_cell d n other)
with_cell-alike observer c d n cell other alike same =
    let cells : map (erase_cell observer) (slice_set c.cells n cell) ≡ map (erase_cell observer) (slice_set d.cells n other) =
    map-set (erase_cell observer) c.cells n cell ∙ ap (λ (e : Configuration). slice_set e.cells n (erase_cell observer cell)) alike
    ∙ ap (λ (x : Cell). slice_set (map (erase_cell observer) d.cells) n x) same ∙ sym (map-set (erase_cell observer) d.cells n other) in
    λ i. record { program = (alike i).program; cells = cells i }
