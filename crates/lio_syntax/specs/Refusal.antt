-- What the faults of reading a script say.
use Rattle.std.specs.Prelude.{◌≡◌, Option, Some}
use Rattle.lio_syntax.specs.Verdict.{Place}
use Rattle.lio_syntax.specs.declared.fault.ScriptFault.{ScriptFault}
use Rattle.lio_syntax.specs.declared.fault.ScriptFault.TheVariants.{Bad, NoMemory}

-- a fault names the first line that breaks a rule and the lowest rule that it breaks; want of memory may come in its place
abbrev pub Refuses : Option Place → ScriptFault → Type 0
Refuses place (Bad line rule) = place ≡ Some (record { line = line; rule = rule })
Refuses place NoMemory = Unit {0}
