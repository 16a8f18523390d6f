-- Why bytes aren't read.
use Rattle.std.specs.Prelude.{ℕ, List}
use Rattle.lio_c.specs.Netstrings.{BreaksAt}
use Rattle.lio_c.specs.declared.netstrings.ItemsFault.{ItemsFault}
use Rattle.lio_c.specs.declared.netstrings.ItemsFault.TheVariants.{Broken, NoMemory}

-- why bytes aren't netstrings: they are up to a place alone, or memory was refused
abbrev pub ItemsRefuse : List ℕ → ItemsFault → Type 0
ItemsRefuse bytes (Broken place) = BreaksAt bytes place
ItemsRefuse bytes NoMemory = Unit {0}
