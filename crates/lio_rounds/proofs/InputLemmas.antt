-- What runs over different inputs have in common.
use Rattle.std.proofs.Common.{◌≡◌, ◌∙◌, ap, sym, subst, ℕ, List, Some}
use Rattle.lio_values.specs.declared.entry.Entry.{Entry}
use Rattle.lio_events.specs.ChannelBytes.{channel_bytes}
use Rattle.lio_policy.specs.Policy.{PolicyParts}
use Rattle.lio_syntax.specs.Statements.{Procedure}
use Rattle.lio_calculus.specs.Run.{Ran, run}
use Rattle.lio_calculus_runs.specs.Rounds.{rounds}
use Rattle.lio_calculus_runs.specs.LowLaws.{LookAlike}
use Rattle.lio_calculus_runs.proofs.LowEndLemmas.{rounds_look_alike}
use Rattle.lio_start.specs.Start.{start_of}
use Rattle.lio_start.proofs.AlikeLemmas.{starts_look_alike}
use Rattle.lio_rounds.specs.Laws.{IsRunOver, OtherInputsChangeNothing}
use Rattle.lio_rounds.proofs.RunLemmas.{channels-seen}

-- the run of the rounds
rounds-run : (policy : PolicyParts) (script : List Procedure) (texts : List (List ℕ)) (ran : Ran) → IsRunOver policy script texts ran
    → run 0 (start_of policy script texts) (rounds (start_of policy script texts)) ≡ Some ran
rounds-run policy script texts ran is = subst (λ (ks : List ℕ). run 0 (start_of policy script texts) ks ≡ Some ran) is.by_rounds.order is.complete.is_run

pub other_inputs_change_nothing : OtherInputsChangeNothing
other_inputs_change_nothing observer policy script ones twos one two is are texts released =
    let runs = rounds-run policy script ones one is in
    let goes = rounds-run policy script twos two are in
    let alike : LookAlike observer one two =
    rounds_look_alike observer (start_of policy script ones) (start_of policy script twos) one two is.complete.first.sound are.complete.first.sound runs goes
    (starts_look_alike observer policy script ones twos texts) released in
    record {
      alike = alike;
      channels = λ number channel at below.
          sym (channels-seen policy script ones (rounds (start_of policy script ones)) one is.complete.first.sound runs observer number channel at below)
          ∙ ap (λ (es : List Entry). channel_bytes es number) alike.views
          ∙ channels-seen policy script twos (rounds (start_of policy script twos)) two are.complete.first.sound goes observer number channel at below;
    }
