use Rattle.std.proofs.Common.{◌≡◌, ◌++◌, take}
use Rattle.lio_ask_main.specs.Explained.{row_items}
use Rattle.lio_ask_main.proofs.explain.flows.print_flows.Given as goal

-- the items so far
abbrev pub invariant-loop-place : goal.invariant-loop-place
invariant-loop-place l = l.out.items ≡ l.initial.out.items ++ row_items 0 (take l.place l.row)
