use Rattle.std.proofs.Common.{◌≡◌, ◌++◌, take}
use Rattle.lio_ask_main.specs.Explained.{names_items}
use Rattle.lio_ask_main.proofs.explain.flows.print_names.Given as goal

-- the names so far
abbrev pub invariant-loop-place : goal.invariant-loop-place
invariant-loop-place l = l.out.items ≡ l.initial.out.items ++ names_items 0 (take l.place l.entries)
