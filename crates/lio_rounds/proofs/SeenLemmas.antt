-- What each observer sees of a machine.
use Rattle.std.proofs.Common.{◌≡◌, ◌∙◌, ap, sym, subst, List, ◌++◌, length, Some}
use Rattle.lio_values.specs.declared.entry.Entry.{Entry}
use Rattle.lio_calculus.specs.Run.{Ran, run}
use Rattle.lio_calculus.specs.Laws.{RunSeenAs}
use Rattle.lio_calculus.proofs.EnabledLemmas.{seen_task_is_enabled_below}
use Rattle.lio_calculus.proofs.LawLemmas.{run_is_erased_run}
use Rattle.lio_labels.specs.declared.label.Label.{Label}
use Rattle.lio_rounds.specs.Invariant.{IsRunTo}
use Rattle.lio_rounds.specs.MachineState.{MachineState}
use Rattle.lio_rounds.specs.MachineLaws.{HasRunSeen, IsSeenAsErased}

pub seen_as_erased : (machine : MachineState) → IsSeenAsErased machine
seen_as_erased machine fresh ks observer none sound has =
    let ran : List Entry → Ran = λ es. record { entries = es; last = machine.configuration } in
    let added : machine.entries ≡ has.added = has.entries ∙ ap (λ (es : List Entry). es ++ has.added) none in
    let goes : run 0 fresh.configuration ks ≡ Some (ran has.added) =
    subst (λ (es : List Entry). run (length es) fresh.configuration ks ≡ Some (ran has.added)) none has.is_run in
    run_is_erased_run observer fresh.configuration ks (ran machine.entries) sound (goes ∙ ap (λ (es : List Entry). Some (ran es)) (sym added))

-- what a machine keeps of its run gives that each observer sees it so
pub has_run-seen : (machine : MachineState) → IsRunTo machine.configuration machine.entries → HasRunSeen machine
has_run-seen machine run =
    let ran : Ran = record { entries = machine.entries; last = machine.configuration } in
    let seen : (observer : Label) → RunSeenAs observer run.first ran = λ observer. run_is_erased_run observer run.first run.tasks ran run.well_formed.sound run.is_run in
    record {
      first = run.first;
      well_formed = run.well_formed;
      tasks = run.tasks;
      is_run = run.is_run;
      seen = seen;
      enabled = λ observer k. seen_task_is_enabled_below observer machine.configuration k (seen observer).sound;
    }
