-- What steps give over what a store gave, and why they are refused: one relation for all programs.
use Rattle.std.specs.Prelude.{◌≡◌, ℕ, List, Option, Result, Err, IfSome, ◌⊎◌}
use Rattle.lio_outside.specs.FileMap.{FileMap}
use Rattle.lio_outside.specs.Fetch.{given, IsMissing}
use Rattle.lio_outside.specs.Count.{Faults, FailedAt}
use Rattle.lio_outside.specs.Steps.{Steps, Over, Ask}

-- what a store that tells its files gave under a name: first bytes, at most one more than the limit, or nothing where no file has it; one that tells nothing
-- may give anything
abbrev pub Gave : Option FileMap → List ℕ → ℕ → Option (List ℕ) → Type 0
Gave told name limit gave = IfSome told (λ files. given files name limit ≡ gave)

-- steps gave this, over what the store gave
abbrev pub Give : {A E : Type 0} → Option FileMap → Steps A E → Result A E → Type 0
Give told (Over got) is = got ≡ is
Give told (Ask name limit go) is = (bytes : Option (List ℕ)) × Gave told name limit bytes × Give told (go bytes) is

-- steps ask for this file, once the store gave what they ask for before it
abbrev pub AskFor : {A E : Type 0} → Option FileMap → Steps A E → List ℕ → Type 0
AskFor told (Over got) file = ⊥
AskFor told (Ask name limit go) file = (file ≡ name) ⊎ ((bytes : Option (List ℕ)) × Gave told name limit bytes × AskFor told (go bytes) file)

-- what has to hold for a refusal: that a file isn't there, that a file can't be read, nothing, or that the steps say so; or it never comes
pub data Cause : Type 0 where
  IsNotThere : List ℕ → Cause
  IsNotRead : List ℕ → Cause
  IsWanting : Cause
  IsSaid : Cause
  IsNever : Cause

-- Why steps are refused: by what the store gave, and, where it tells nothing of its files, the last call that failed is that for the file that isn't there; or the last
-- call that failed is that for a file for which they ask.
abbrev pub Refuse : {A E : Type 0} → Cause → Option FileMap → Steps A E → Faults → Faults → E → Type 0
Refuse (IsNotThere name) told steps before after fault = Give told steps (Err fault) × IsMissing told name before after
Refuse (IsNotRead name) told steps before after fault = AskFor told steps name × FailedAt name before after
Refuse IsWanting told steps before after fault = Unit {0}
Refuse IsSaid told steps before after fault = Give told steps (Err fault)
Refuse IsNever told steps before after fault = ⊥
