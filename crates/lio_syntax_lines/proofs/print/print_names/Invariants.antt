use Rattle.std.proofs.Common.{◌≡◌, ◌++◌, take}
use Rattle.lio_syntax_lines.specs.Words.{names_spaced}
use Rattle.lio_syntax_lines.proofs.print.print_names.Given as goal

-- the names so far are printed
abbrev pub invariant-loop-name : goal.invariant-loop-name
invariant-loop-name l = l.out.items ≡ l.fn.out.items ++ names_spaced (take l.name-index l.parameters)
