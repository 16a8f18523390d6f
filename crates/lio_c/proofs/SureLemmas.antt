-- A store and an output in memory never fail.
use Rattle.std.proofs.Common.{ℕ, ◌<◌, List, inl, inr, arith}
use Rattle.lio_values.specs.declared.entry.Entry.{Entry}
use Rattle.lio_outside.specs.FileMap.{FileMap}
use Rattle.lio_outside.specs.Asking.{IsNotRead, Refuse}
use Rattle.lio_outside.specs.Count.{FailedAt, greatest_count}
use Rattle.lio_outside.proofs.CountLemmas.{Rose-at_rest}
use Rattle.lio_front.specs.Command.{Source, Files, Made}
use Rattle.lio_front.specs.declared.status.Status.{Status}
use Rattle.lio_front.specs.declared.status.Status.TheVariants.{ReadFault, WriteFault, SayFault}
use Rattle.lio_host_main.specs.Answers.{Call, Refused, Says}
use Rattle.lio_host_main.specs.Verdict.{IsRefusedBy, loading, of_source, told_of}
use Rattle.lio_c.specs.Answers.{IsSure, memory_call}

-- a file couldn't be read
unread : (call : Call) (name : List ℕ) → Refused call (ReadFault name) → FailedAt name call.before.faults call.after.faults
unread call name refused = by refused.refuse
  where
    by : IsRefusedBy refused.command call.before.told call.before.faults call.after.faults (ReadFault name) → FailedAt name call.before.faults call.after.faults
    by (inl says) = by_files refused.command.source says
      where
        by_files : (source : Source) → Refuse (of_source source (IsNotRead name)) (told_of refused.command.source call.before.told) (loading refused.command) call.before.faults call.after.faults (ReadFault name) → FailedAt name call.before.faults call.after.faults
        by_files (Files policy script) says = says.1
        by_files (Made size) says = absurd says
    by (inr (loaded, gave, says)) = says.1

small : 0 < greatest_count
small = omega arith

pub sure-answer : (words : List (List ℕ)) (files after : FileMap) (said : List ℕ) (journal : List Entry) (status : Status) → Says (memory_call words files after said journal) status → IsSure status
sure-answer words files after said journal (ReadFault name) says = absurd (Rose-at_rest 0 small (unread (memory_call words files after said journal) name says).0)
sure-answer words files after said journal (WriteFault name) says = absurd (Rose-at_rest 0 small says.finishes.1.0)
sure-answer words files after said journal SayFault says = absurd (Rose-at_rest 0 small says.finishes.2)
sure-answer words files after said journal other says = tt
