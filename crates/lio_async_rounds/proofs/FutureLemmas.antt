-- What a poll of the future says of what it gives.
use Rattle.std.proofs.Common.{sym, subst, Option, None, Some, Result, Ok, Err}
use Rattle.futures.specs.Poll.{OnPending}
use Rattle.futures.specs.declared.task.Poll.{Poll}
use Rattle.futures.specs.declared.task.Poll.TheVariants.{Ready, Pending}
use Rattle.lio_clauses.specs.declared.faults.NoMemory.{NoMemory}
use Rattle.lio_rounds.specs.MachineParts.{MachineParts, machine_of}
use Rattle.lio_rounds.specs.MachineState.{HasRun, MachineState}
use Rattle.lio_calculus_runs.specs.Rounds.{rounds_from}
use Rattle.lio_async_rounds.proofs.RoundLemmas.{rounds-on, rounds-still}
use Rattle.lio_async_rounds.specs.RoundsFuture.{Gives, IsRunOut, MovesNone, Polls}

-- what holds anyhow holds where a poll is pending
pub on_pending : {A : Type 0} (polled : Poll A) (P : Type 0) → P → OnPending polled P
on_pending (Ready x) P holds = tt
on_pending Pending P holds = holds

run_out-here : (old new : MachineState) → MovesNone old new → IsRunOut old new
run_out-here old new moves = record {
  has_run = subst (λ (m : MachineState). HasRun old m (rounds_from old.order old.configuration)) (sym moves.stays) (rounds-still old moves.none);
  complete = moves.complete;
}

-- what it gives where it is ready
pub polls-value : (old : Option MachineParts) (output : Result MachineParts NoMemory) (after : Option MachineParts) → Polls old (Ready output) after → Gives old output
polls-value None output after says = absurd says
polls-value (Some old) (Ok new) after says = run_out-here (machine_of old) (machine_of new) says.0
polls-value (Some old) (Err fault) after says = tt

-- what may still come where it is pending may come before
pub polls-same : (old after : Option MachineParts) (output : Result MachineParts NoMemory) → Polls old Pending after → Gives after output → Gives old output
polls-same None after output says gives = subst (λ (m : Option MachineParts). Gives m output) says gives
polls-same (Some old) None output says gives = absurd says
polls-same (Some old) (Some new) (Ok last) says gives = record {
  has_run = rounds-on (machine_of old) (machine_of new) (machine_of last) says gives.has_run;
  complete = gives.complete;
}
polls-same (Some old) (Some new) (Err fault) says gives = tt
