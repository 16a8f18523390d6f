-- What a turn came to, by its entry: the task that was born, the task that ended.
use Rattle.std.specs.Prelude.{ℕ, List, [], ◌∷◌, Option, Some, None}
use Rattle.lio_values.specs.declared.act.Act.{Act}
use Rattle.lio_values.specs.declared.act.Act.TheVariants as act
use Rattle.lio_values.specs.declared.entry.Entry.{Entry}

-- the task to which an act gave birth at its target
abbrev pub born_at : Act → Option ℕ → Option ℕ
born_at (act.Fork birth) target = target
born_at (act.Spawn birth) target = target
born_at asked target = None

-- one number or none, as a list
abbrev pub listed : Option ℕ → List ℕ
listed None = []
listed (Some n) = n ∷ []

-- the task that an act of an actor ended
abbrev pub ended_by : Act → ℕ → Option ℕ
ended_by (act.Ended content) k = Some k
ended_by asked k = None

-- the task that a turn ended, by its entry
abbrev pub ended_in : Entry → Option ℕ
ended_in entry = ended_by entry.act entry.actor
