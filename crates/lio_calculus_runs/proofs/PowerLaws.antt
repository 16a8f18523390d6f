-- The laws of the privileges of runs.
use Rattle.std.proofs.Common.{◌≡◌, refl, subst, ◌+◌, [], ◌∷◌, Option, Some, None}
use Rattle.std.specs.Prelude.{option_and_then, option_map}
use Rattle.std.proofs.lemmas.List.Elements.{All-nil, All-cons}
use Rattle.lio_calculus.specs.Step.{Configuration, Turn, step}
use Rattle.lio_calculus.specs.Run.{Ran, ran_after, run}
use Rattle.lio_calculus.specs.Sound.{IsSound}
use Rattle.lio_calculus.specs.Powers.{PowersAreAmong}
use Rattle.lio_calculus.proofs.StepKept.{turn-kept}
use Rattle.lio_calculus.proofs.PowerLemmas.{powers_are_given}
use Rattle.lio_calculus.proofs.TurnParts.{parts}
use Rattle.lio_calculus_runs.specs.Given.{IsReleasedBy}
use Rattle.lio_calculus_runs.specs.PowerLaws.{ReleasesByPowers, RunReleasesByPowers}
use Rattle.lio_calculus_runs.proofs.FlowLemmas.{turn-flows}

pub run_releases_by_powers : RunReleasesByPowers
unfolding run
run_releases_by_powers powers ticket c [] ran sound among runs =
    let made : Ran = record { entries = []; last = c } in
    let equal : made ≡ ran = cc in
    subst (ReleasesByPowers powers) equal (record { entries = All-nil (IsReleasedBy powers); last = among })
run_releases_by_powers powers ticket c (k ∷ ks) ran sound among runs =
    by (step ticket c k) refl (λ d r fine given goes. run_releases_by_powers powers (ticket + 1) d ks r fine given goes) runs
  where
    Others : Type 0
    Others = (d : Configuration) (r : Ran) → IsSound d → PowersAreAmong powers d → run (ticket + 1) d ks ≡ Some r → ReleasesByPowers powers r

    then_ : Others → (turn : Turn) (more : Option Ran) → step ticket c k ≡ Some turn → run (ticket + 1) turn.next ks ≡ more → option_map (ran_after turn.entry) more ≡ Some ran → ReleasesByPowers powers ran
    then_ others turn None steps goes got = absurd (cc)
    then_ others turn (Some r) steps goes got =
        let equal : ran_after turn.entry r ≡ ran = cc in
        let p = parts ticket c k turn steps in
        let makes = powers_are_given powers ticket c k turn sound among steps in
        let rest = others turn.next r (turn-kept ticket c k p.task turn sound p.is steps) makes.after goes in
        subst (ReleasesByPowers powers) equal (record {
          entries = All-cons (IsReleasedBy powers) turn.entry r.entries (record { given = makes.released; flows = turn-flows ticket c k turn sound steps }) rest.entries;
          last = rest.last;
        })

    by : (t : Option Turn) → step ticket c k ≡ t → Others → option_and_then (λ (turn : Turn). option_map (ran_after turn.entry) (run (ticket + 1) turn.next ks)) t ≡ Some ran → ReleasesByPowers powers ran
    by None steps others got = absurd (cc)
    by (Some turn) steps others got = then_ others turn (run (ticket + 1) turn.next ks) steps refl got
