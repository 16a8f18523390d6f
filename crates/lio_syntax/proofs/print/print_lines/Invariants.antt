use Rattle.std.proofs.Common.{◌≡◌, ◌++◌, take}
use Rattle.lio_syntax.specs.ScriptText.{lines_text}
use Rattle.lio_syntax.proofs.print.print_lines.Given as goal

-- the lines so far are printed
abbrev pub invariant-loop-line : goal.invariant-loop-line
invariant-loop-line l = l.out.items ≡ l.fn.out.items ++ lines_text l.names (take l.line-index l.lines)
