-- The logs of cells: each cell's own list of the entries that show it, what they make of the cell, and which entries go by such logs alone.
use Rattle.std.specs.Prelude.{◌≡◌, ℕ, ◌+◌, nat_lt, List, [], ◌∷◌, filter, Some}
use Rattle.lio_values.specs.declared.entry.Entry.{Entry}
use Rattle.lio_calculus.specs.Plan.{Program}
use Rattle.lio_calculus.specs.Step.{Cell, Configuration, cell_at}
use Rattle.lio_calculus.specs.Effect.{applied, entry_in}

-- the logs of cells, by number
abbrev pub Logs : Type 0
Logs = ℕ → List Entry

-- a cell with a number, after the entries of its log in order; each of them shows the cell
unfoldable pub fold : Program → ℕ → Cell → List Entry → Cell
fold program n cell [] = cell
fold program n cell (entry ∷ log) = fold program n (applied program n entry cell) log

-- the entries of a log with lower tickets
abbrev pub below : ℕ → List Entry → List Entry
below ticket log = filter (λ entry. nat_lt entry.ticket ticket) log

-- the cell with a number before a ticket, by its own log alone
abbrev pub before : Configuration → Logs → ℕ → ℕ → Cell
before c logs ticket n = fold c.program n (cell_at c n) (below ticket (logs n))

-- the cells after their logs, with numbers from a first one
unfoldable pub folded_from : Program → Logs → ℕ → List Cell → List Cell
folded_from program logs n [] = []
folded_from program logs n (cell ∷ cells) = fold program n cell (logs n) ∷ folded_from program logs (n + 1) cells

-- the configuration whose cells are the folds of their logs
unfoldable pub folded : Configuration → Logs → Configuration
folded c logs = record c { cells = folded_from c.program logs 0 c.cells }

-- An entry is local: its target is another than its actor, and it is the step of its actor over what the logs make of the cells by the entries
-- with lower tickets. A step looks at the actor's cell and at most at its target's, so no other log counts.
pub record IsLocal (c : Configuration) (logs : Logs) (entry : Entry) : Type 0 where
  pub apart : entry.target ≡ Some entry.actor → ⊥
  pub is_step : entry_in c.program (before c logs entry.ticket) entry.ticket entry.actor ≡ Some entry
