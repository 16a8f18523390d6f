use Rattle.std.proofs.Common.{◌≡◌, ◌+◌, drop}
use Rattle.std.specs.List.{prefix_len}
use Rattle.lio_syntax.specs.Verdict.{is_inside}
use Rattle.lio_syntax.proofs.text.line_len.Given as goal

-- the bytes before the place are no line ends
abbrev pub invariant-loop-i : goal.invariant-loop-i
invariant-loop-i l = l.i + prefix_len is_inside (drop l.i l.text) ≡ prefix_len is_inside l.text
