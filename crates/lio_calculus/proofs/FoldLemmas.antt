-- Folds of logs: an entry more, and the cells of a configuration after their logs.
use Rattle.std.proofs.Common.{◌≡◌, ◌∙◌, refl, sym, ap, ℕ, zero, suc, ◌+◌, ◌<◌, arith, Bool, true, false, cond, if◌then◌else◌, List, [], ◌∷◌, ◌++◌, length}
use Rattle.std.specs.List.{slice_index_or}
use Rattle.std.proofs.lemmas.List.Elements.{filter-append}
use Rattle.lio_values.specs.declared.entry.Entry.{Entry}
use Rattle.lio_calculus.specs.Plan.{Program}
use Rattle.lio_calculus.specs.Step.{Cell, blank}
use Rattle.lio_calculus.specs.Effect.{applied, entered, touches}
use Rattle.lio_calculus.specs.Logs.{Logs, fold, folded_from}
use Rattle.lio_calculus.specs.Journals.{of_cell}

pub fold-append : (program : Program) (n : ℕ) (cell : Cell) (xs ys : List Entry) → fold program n cell (xs ++ ys) ≡ fold program n (fold program n cell xs) ys
unfolding fold
fold-append program n cell [] ys = refl
fold-append program n cell (x ∷ xs) ys = fold-append program n (applied program n x cell) xs ys

-- an entry makes of a cell what its part for the cell does
fold-entered : (program : Program) (n : ℕ) (entry : Entry) (cell : Cell) → entered program n entry cell ≡ fold program n cell (of_cell n (entry ∷ []))
unfolding fold entered
fold-entered program n entry cell = by (touches n entry)
  where
    by : (b : Bool) → (if b then applied program n entry cell else cell) ≡ fold program n cell (cond b (entry ∷ []) [])
    by true = refl
    by false = refl

-- a cell after an entry more
pub fold-more : (program : Program) (n : ℕ) (cell : Cell) (done : List Entry) (entry : Entry)
    → entered program n entry (fold program n cell (of_cell n done)) ≡ fold program n cell (of_cell n (done ++ entry ∷ []))
fold-more program n cell done entry =
    fold-entered program n entry (fold program n cell (of_cell n done)) ∙ sym (fold-append program n cell (of_cell n done) (of_cell n (entry ∷ [])))
    ∙ ap (fold program n cell) (sym (filter-append (touches n) done (entry ∷ [])))

pub fold-none : (program : Program) (n : ℕ) (cell : Cell) → fold program n cell [] ≡ cell
unfolding fold
fold-none program n cell = refl

pub length-folded : (program : Program) (logs : Logs) (first : ℕ) (cells : List Cell) → length (folded_from program logs first cells) ≡ length cells
unfolding folded_from
length-folded program logs first [] = refl
length-folded program logs first (cell ∷ cells) = ap suc (length-folded program logs (first + 1) cells)

-- the cell with a number, after its log
pub folded-at : (program : Program) (logs : Logs) (first : ℕ) (cells : List Cell) (n : ℕ) → n < length cells
    → slice_index_or (folded_from program logs first cells) n blank ≡ fold program (first + n) (slice_index_or cells n blank) (logs (first + n))
unfolding folded_from
folded-at program logs first [] n within = absurd (omega arith)
folded-at program logs first (cell ∷ cells) zero within = let is : first ≡ first + 0 = omega arith in ap (λ m. fold program m cell (logs m)) is
folded-at program logs first (cell ∷ cells) (suc n) within =
    let is : (first + 1) + n ≡ first + suc n = omega arith in
    folded-at program logs (first + 1) cells n (omega arith) ∙ ap (λ m. fold program m (slice_index_or cells n blank) (logs m)) is
