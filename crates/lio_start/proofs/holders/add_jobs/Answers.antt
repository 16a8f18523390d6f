use Rattle.std.proofs.Common.{◌≡◌, List, ◌++◌, map, drop, ◌+◌, subst, sym}
use Rattle.lio_task.specs.declared.config.Holder.{Holder}
use Rattle.lio_task.specs.Configuration.{cell_of}
use Rattle.lio_start.specs.Start.{job_cells}
use Rattle.lio_start.proofs.MakingLemmas.{begins-here, begins-next, jobs-next, jobs-end, no-logs-push}
use Rattle.lio_start.proofs.holders.add_jobs.Goals as goal

pub job-requires : goal.job-requires
job-requires c = begins-here c.args.script.now c.args.inputs.now c.loop-entry.next c.loop-entry.entry-index c.args.tasks.now c.entry-item.result c.loop-entry-test.true c.entry-item.is c.loop-entry.invariant.can

pub loop-entry-preserved : goal.loop-entry-preserved
loop-entry-preserved c =
    let whole = map (cell_of c.args.script.now) c.args.holders.now.items ++ job_cells c.args.script.now c.args.inputs.now c.args.first c.args.tasks.now in
    record {
      can = begins-next c.args.script.now c.args.inputs.now c.loop-entry.next c.loop-entry.entry-index c.args.tasks.now c.entry-item.result c.loop-entry-test.true c.entry-item.is c.loop-entry.invariant.can;
      adds = subst (λ (after : List Holder). map (cell_of c.args.script.now) after
          ++ job_cells c.args.script.now c.args.inputs.now (c.loop-entry.next + c.entry-item.result.cells) (drop (c.loop-entry.entry-index + 1) c.args.tasks.now) ≡ whole) (sym {A = List Holder} c.in_ok-push.ensures.items)
          (jobs-next c.args.script.now c.args.inputs.now c.loop-entry.holders.items whole c.loop-entry.next c.loop-entry.entry-index c.args.tasks.now c.entry-item.result c.in_ok-job.field-0
          c.loop-entry-test.true c.entry-item.is c.in_ok-job.ensures.cell c.loop-entry.invariant.adds);
      fresh = λ none. no-logs-push c.loop-entry.holders.items c.in_ok-job.field-0 _ c.in_ok-push.ensures.items (c.loop-entry.invariant.fresh none) c.in_ok-job.ensures.fresh;
    }

pub returns-clause-adds : goal.returns-clause-adds
returns-clause-adds c =
    jobs-end c.args.script.now c.args.inputs.now c.loop-entry.holders.items
    (map (cell_of c.args.script.now) c.args.holders.now.items ++ job_cells c.args.script.now c.args.inputs.now c.args.first c.args.tasks.now)
    c.loop-entry.next c.loop-entry.entry-index c.args.tasks.now c.loop-entry-test.false c.loop-entry.invariant.adds
