use Rattle.std.proofs.Common.{drop}
use Rattle.lio_start.specs.Job.{first_of}
use Rattle.lio_rounds.specs.MachineParts.{machine_of}
use Rattle.lio_rounds.proofs.ScheduleLemmas.{IsSoFar}
use Rattle.lio_rounds.proofs.by_schedule.run_schedule.Given as goal

-- the run so far, with what is left of the schedule, is the run by the schedule
abbrev pub invariant-loop-k : goal.invariant-loop-k
invariant-loop-k l = IsSoFar l.job.script (first_of l.job) l.schedule (drop l.k-index l.schedule) (machine_of l.machine) l.taken.items
