-- The numbers of files by their paths.
use Rattle.std.specs.Prelude.{ℕ, List, Option}
use Rattle.lio_system.specs.declared.known.FileNumber.{FileNumber}

-- the number of the file under each path, None where there is none or nothing is told
abbrev pub NumberAt : Type 0
NumberAt = List ℕ → Option FileNumber
