use Rattle.std.proofs.Common.{◌≡◌, take}
use Rattle.lio_ask_main.specs.Turns.{turn_lines}
use Rattle.lio_ask_main.proofs.print.print_turns.Given as goal

-- the lines of the turns so far
abbrev pub invariant-loop-place : goal.invariant-loop-place
invariant-loop-place l = l.out.items ≡ turn_lines l.numbers 0 (take l.place l.journal)
