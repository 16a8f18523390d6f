use Rattle.std.proofs.Common.{ap}
use Rattle.lio_front.specs.Sorted.{named, source_named}
use Rattle.lio_host_main.proofs.Prepares.{give-made, refuse-made}
use Rattle.lio_host_main.proofs.prepare.load_source.Goals as goal

pub returns-in_ok-files-in-Made-clause-ok : goal.returns-in_ok-files-in-Made-clause-ok
returns-in_ok-files-in-Made-clause-ok g c =
    give-made (g.S.Store.holds c.args.store.now) c.in-Made.size c.in_ok-files-in-Made.files (named c.args.command) c.load_from-in-Made.result (ap source_named c.in-Made.is) c.in_ok-files-in-Made.ensures c.load_from-in-Made.ensures.ok

pub returns-in_ok-files-in-Made-clause-err : goal.returns-in_ok-files-in-Made-clause-err
returns-in_ok-files-in-Made-clause-err g c =
    refuse-made (g.S.Store.holds c.args.store.now) c.in-Made.size c.in_ok-files-in-Made.files (named c.args.command) (g.S.Store.faults c.args.store.now) (g.S.Store.faults c.args.store.now) c.load_from-in-Made.result
    (ap source_named c.in-Made.is) c.in_ok-files-in-Made.ensures c.load_from-in-Made.ensures.err
