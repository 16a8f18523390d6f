-- The erased calculus of a run names only principals that have names.
use Rattle.std.proofs.Common.{◌≡◌, ◌∙◌, sym, ap, subst, ℕ, List, All, Option, Result, Ok, Err}
use Rattle.std.specs.Prelude.{IfOk, OnErr}
use Rattle.lio_labels.specs.declared.label.Label.{Label}
use Rattle.lio_values.specs.declared.value.Content.{Content}
use Rattle.lio_values.specs.declared.entry.Entry.{Entry}
use Rattle.lio_calculus_runs.specs.NameLaws.{IsContentPrintable}
use Rattle.lio_events.specs.Printable.{IsPrintable}
use Rattle.lio_syntax.specs.Statements.{Procedure}
use Rattle.lio_calculus.specs.Step.{Configuration}
use Rattle.lio_calculus.specs.Erased.{LowTurn, erase}
use Rattle.lio_start.specs.Job.{IsJob, JobParts, first_of}
use Rattle.lio_start.proofs.LawLemmas.{start_is_sound}
use Rattle.lio_calculus_runs.specs.Configuration.{NamesOnly}
use Rattle.lio_calculus_runs.proofs.NamedLowTurns.{erased_names_only, low_turn_names_only}
use Rattle.lio_start.proofs.NameLemmas.{start_names_only}
use Rattle.lio_task.specs.declared.config.Holder.{Holder}
use Rattle.lio_erasure.specs.declared.low.LowFault.{LowFault}
use Rattle.lio_erasure.specs.Low.{IsSeenOfSound, low_configuration_of}
use Rattle.lio_erasure.specs.LowParts.{ErasedState}
use Rattle.lio_erasure.specs.Turn.{TakesTurn}

-- what an observer sees of the first configuration, with an equal script and an equal length
pub seen_by : (job : JobParts) (script : List Procedure) (observer : Label) (longest : ℕ) (seen : List (Option Holder)) → script ≡ job.script → longest ≡ job.policy.longest
    → low_configuration_of job.script job.policy.longest seen ≡ erase observer (first_of job) → low_configuration_of script longest seen ≡ erase observer (first_of job)
seen_by job script observer longest seen same equal e =
    ap (λ (s : List Procedure). low_configuration_of s longest seen) same ∙ ap (λ (n : ℕ). low_configuration_of job.script n seen) equal ∙ e

-- what an observer sees of the first configuration
pub seen_is_of_sound : (job : JobParts) (observer : Label) (seen : Configuration) → IsJob job → seen ≡ erase observer (first_of job) → IsSeenOfSound observer seen
seen_is_of_sound job observer seen is e =
    record { whole = first_of job; sound = start_is_sound job.policy job.script job.inputs is.policy is.literals; seen = e }

pub seen_names_only : (job : JobParts) (observer : Label) (seen : Configuration) → IsJob job → seen ≡ erase observer (first_of job) → NamesOnly job.policy.names seen
seen_names_only job observer seen is e =
    subst (NamesOnly job.policy.names) (sym e)
    (erased_names_only job.policy.names observer (first_of job) (start_names_only job.policy job.script job.inputs is.policy is.over))

-- what is answered where a task is asked for a turn: its entry can be printed, and what it leaves names only principals that have names
pub record IsTakenNamed (names : List (List ℕ)) (state : ErasedState) (contents : List Content) (result : Result Entry LowFault) : Type 0 where
  pub entry : IfOk result (IsPrintable names)
  pub named : NamesOnly names state.configuration
  pub contents_named : All (IsContentPrintable names) contents

pub taken_is_named : (names : List (List ℕ)) (k : ℕ) (old new : ErasedState) (before after : List Content) (result : Result Entry LowFault) → NamesOnly names old.configuration → All (IsContentPrintable names) before
    → IfOk result (TakesTurn old new k before after) → OnErr result ((new ≡ old) × (after ≡ before)) → IsTakenNamed names new after result
taken_is_named names k old new before after (Ok entry) named all ok err =
    let turn : LowTurn = record { entry = entry; next = new.configuration; left = after } in
    let taken = low_turn_names_only names old.observer 0 old.configuration k before turn named all ok.turn in
    record { entry = taken.entry; named = taken.next; contents_named = taken.left }
taken_is_named names k old new before after (Err fault) named all ok err =
    record { entry = tt; named = subst (λ (state : ErasedState). NamesOnly names state.configuration) (sym err.0) named; contents_named = subst (All (IsContentPrintable names)) (sym err.1) all }
