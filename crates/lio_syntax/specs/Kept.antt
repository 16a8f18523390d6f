-- What each script keeps.
use Rattle.std.specs.Prelude.{List, IsTrue, is_none, map}
use Rattle.std.specs.List.{list_all}
use Rattle.lio_syntax_lines.specs.declared.line.Line.{Line}
use Rattle.lio_syntax_lines.specs.declared.line.ParsedLine.TheVariants.{Says}
use Rattle.lio_syntax_lines.specs.Line.{says_literals}
use Rattle.lio_syntax.specs.Verdict.{lines_fault}

-- lines that break no rule: each stands where it can, calls are of procedures that are there, with as many arguments as these have
-- parameters, the names of procedures differ, and so do those of the parameters of one, and all is within the limits
abbrev pub KeepsRules : List Line → Type 0
KeepsRules lines = IsTrue (is_none (lines_fault (map Says lines)))

-- the literals in lines are values that a word can say: neither privileges nor handles
abbrev pub SaysLiterals : List Line → Type 0
SaysLiterals lines = IsTrue (list_all says_literals lines)
