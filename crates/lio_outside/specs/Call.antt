-- A call of a program, and the outside before and after it.
use Rattle.std.specs.Prelude.{ℕ, List, Option}
use Rattle.lio_outside.specs.FileMap.{FileMap}
use Rattle.lio_outside.specs.Count.{Faults}

-- the outside at a moment: what the store tells of its files and its faults, what the output tells was said to it, and how many faults it had counted
pub record Outside : Type 0 where
  pub told : Option FileMap
  pub faults : Faults
  pub said : Option (List ℕ)
  pub say_faults : ℕ

-- the outside of a store and an output, by what each tells and counts
abbrev pub outside : {A B : Type 0} → (A → Option FileMap) → (A → Faults) → (B → Option (List ℕ)) → (B → ℕ) → A → B → Outside
outside holds faults said say_faults store say = record { told = holds store; faults = faults store; said = said say; say_faults = say_faults say }

-- a call: its words, and the outside before and after it
pub record Call : Type 0 where
  pub words : List (List ℕ)
  pub before : Outside
  pub after : Outside
