use Rattle.lio_host_main.proofs.WorkloadLemmas.{listed_step}
use Rattle.lio_host_main.proofs.workload.patterns.append_listed.Goals as goal

pub loop-number-preserved : goal.loop-number-preserved
loop-number-preserved c =
    listed_step _ _ _ _ c.args.pattern.now c.loop-number.number c.loop-number.invariant c.in_ok-append_comma.ensures c.in_ok-append_filled.ensures
