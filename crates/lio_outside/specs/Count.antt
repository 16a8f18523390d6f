-- Counts of faults, kept as numbers of 64 bits that stand still at the greatest one, and the name of the last call that failed.
use Rattle.std.specs.Prelude.{◌≡◌, ℕ, List, Option, None, Some, ◌+◌, ◌-◌, ◌^◌, ◌<◌, ◌≤◌, ◌⊎◌, min}
use Rattle.std.specs.Coded.{Coded, code_by, coded×, coded_list, coded_option, coded_ℕ}
use Rattle.std.proofs.Common.{refl}

-- where a count stands still
abbrev pub greatest_count : ℕ
greatest_count = 2 ^ 64 - 1

-- the count after one more
abbrev pub counted : ℕ → ℕ
counted count = min (count + 1) greatest_count

-- a count rose in a call: it is greater at the end than at the start, or stands at the greatest number
abbrev pub Rose : ℕ → ℕ → Type 0
Rose before now = (before < now) ⊎ (now ≡ greatest_count)

-- a count that rose in a part of the work, and never fell before or after it, rose in the whole
abbrev pub RoseInPart : Type 0
RoseInPart = (before start end now : ℕ) → before ≤ start → start ≤ end → end ≤ now → Rose start end → Rose before now

-- a count that stayed the same below the greatest number did not rise
abbrev pub RoseNotAtRest : Type 0
RoseNotAtRest = (count : ℕ) → count < greatest_count → Rose count count → ⊥

-- the faults of a store: how many of its calls failed, and the name of the last that did, None before any
pub record Faults : Type 0 where
  pub count : ℕ
  pub last : Option (List ℕ)

abbrev pub faults_code : Coded Faults
faults_code =
    code_by (ℕ × Option (List ℕ))
    (coded× coded_ℕ (coded_option (coded_list coded_ℕ)))
    (λ f. (f.count, f.last))
    (λ p. record { count = p.0; last = p.1 })
    (λ _. refl)

-- no call failed
abbrev pub no_faults : Faults
no_faults = record { count = 0; last = None }

-- the faults after one more call failed, which was for this name
abbrev pub with_fault : Faults → List ℕ → Faults
with_fault faults name = record { count = counted faults.count; last = Some name }

-- a call failed, and the last that did was for this name
abbrev pub FailedAt : List ℕ → Faults → Faults → Type 0
FailedAt name before now = Rose before.count now.count × (now.last ≡ Some name)

-- what failed at the end of a part of the work, before which the count never fell, failed in the whole
abbrev pub FailedInPart : Type 0
FailedInPart = (name : List ℕ) (before start now : Faults) → before.count ≤ start.count → FailedAt name start now → FailedAt name before now
