-- The laws.
use Rattle.lio_calculus.specs.Hiding.{PlanHidden}
use Rattle.lio_calculus.specs.Afforded.{PlanAfforded}
use Rattle.lio_calculus.specs.Laws.{RunIsErasedRun, SeenTurnIsErasedTurn, TurnKeepsSoundness, UnseenTurnChangesNothing, UnseenTurnReleasesNothing}
use Rattle.lio_calculus.proofs.PlanHidden.{plan-hidden}
use Rattle.lio_calculus.proofs.AffordedLemmas.{plan_affords}
use Rattle.lio_calculus.proofs.InvisibleLemmas.{step-unseen}
use Rattle.lio_calculus.proofs.VisibleStep.{step-visible}
use Rattle.lio_calculus.proofs.StepGuarded.{turn-guarded}
use Rattle.lio_calculus.proofs.StepKept.{turn-kept}
use Rattle.lio_calculus.proofs.RunLemmas.{step-released, run-erased}
use Rattle.lio_events.specs.Views.{who, releases}
use Rattle.lio_calculus.specs.Run.{low_run}
use Rattle.lio_calculus.specs.Erased.{erase}
use Rattle.lio_values.specs.declared.value.Content.{Content}
use Rattle.std.proofs.Common.{List, [], ap, sym, ◌∙◌}
use Rattle.std.proofs.lemmas.List.{append-nil}

pub plan_of_hidden : PlanHidden
plan_of_hidden = plan-hidden

pub plan_can_be_carried_out : PlanAfforded
plan_can_be_carried_out = plan_affords

pub unseen_turn_changes_nothing : UnseenTurnChangesNothing
unseen_turn_changes_nothing observer ticket c k task turn sound is above steps = step-unseen observer ticket c k task turn is above (turn-guarded ticket c k task turn sound is steps) steps

pub unseen_turn_releases_nothing : UnseenTurnReleasesNothing
unseen_turn_releases_nothing = step-released

pub seen_turn_is_erased_turn : SeenTurnIsErasedTurn
seen_turn_is_erased_turn observer ticket c k task turn rest sound is below steps = step-visible observer ticket c k task turn rest is below (turn-guarded ticket c k task turn sound is steps) steps

pub turn_keeps_soundness : TurnKeepsSoundness
turn_keeps_soundness = turn-kept

pub run_is_erased_run : RunIsErasedRun
run_is_erased_run observer c ks ran sound runs =
    let erased = run-erased observer 0 0 c ks ran [] sound runs in
    record {
      erased = ap (λ (contents : List Content). low_run observer 0 (erase observer c) (who observer ran.entries) contents) (sym (append-nil (releases observer ran.entries))) ∙ erased.low;
      released = erased.released;
      sound = erased.sound;
    }
