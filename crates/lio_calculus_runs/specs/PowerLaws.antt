-- The laws of the privileges of runs.
use Rattle.std.specs.Prelude.{◌≡◌, ℕ, List, All, Some}
use Rattle.lio_labels.specs.declared.privilege.Priv.{Priv}
use Rattle.lio_calculus.specs.Step.{Configuration}
use Rattle.lio_calculus.specs.Run.{Ran, run}
use Rattle.lio_calculus.specs.Sound.{IsSound}
use Rattle.lio_calculus.specs.Powers.{PowersAreAmong}
use Rattle.lio_calculus_runs.specs.Given.{IsReleasedBy}

-- A run releases by these privileges alone, and makes no other one.
pub record ReleasesByPowers (powers : List Priv) (ran : Ran) : Type 0 where
  pub entries : All (IsReleasedBy powers) ran.entries
  pub last : PowersAreAmong powers ran.last

-- where each privilege in a sound configuration is among some, a run from it releases by these alone
abbrev pub RunReleasesByPowers : Type 0
RunReleasesByPowers = (powers : List Priv) (ticket : ℕ) (c : Configuration) (ks : List ℕ) (ran : Ran)
    → IsSound c → PowersAreAmong powers c → run ticket c ks ≡ Some ran → ReleasesByPowers powers ran
