use Rattle.lio_start.specs.Job.{first_of}
use Rattle.lio_rounds.proofs.ScheduleLemmas.{schedule-is-run, schedule-keeps}
use Rattle.lio_rounds.proofs.by_schedule.run_by_schedule.Goals as goal

pub returns-clause-is_run : goal.returns-clause-is_run
returns-clause-is_run c =
    schedule-is-run (first_of c.args.job.now) c.args.job.now.script c.args.schedule.now c.run_schedule.result c.run_schedule.ensures.run

pub returns-clause-keeps : goal.returns-clause-keeps
returns-clause-keeps c = schedule-keeps c.args.job.now c.args.schedule.now c.run_schedule.result c.run_schedule.ensures.job c.run_schedule.ensures.run
