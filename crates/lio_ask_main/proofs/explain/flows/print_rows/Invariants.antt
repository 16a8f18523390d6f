use Rattle.std.proofs.Common.{◌≡◌, ◌++◌, take}
use Rattle.lio_ask_main.specs.Explained.{rows_items}
use Rattle.lio_ask_main.proofs.explain.flows.print_rows.Given as goal

-- the rows so far
abbrev pub invariant-loop-place : goal.invariant-loop-place
invariant-loop-place l = l.out.items ≡ l.initial.out.items ++ rows_items 0 (take l.place l.rows)
