use Rattle.lio_values.specs.declared.entry.Entry.{Entry}
use Rattle.lio_erasure.specs.Low.{low_configuration_of}
use Rattle.lio_erasure.proofs.ResultLemmas.{on_err, on_ok-from_err}
use Rattle.lio_erasure.proofs.SwapLemmas.{follows-alone}
use Rattle.lio_erasure.proofs.cells.LowConfig.turn_alone.Goals as goal

pub advance-requires : goal.advance-requires
advance-requires c = c.requires

pub returns-in_err-advance-clause-ok : goal.returns-in_err-advance-clause-ok
returns-in_err-advance-clause-ok c = on_ok-from_err _ c.from_residual.result c.from_residual.ensures.0

pub returns-in_err-advance-clause-err : goal.returns-in_err-advance-clause-err
returns-in_err-advance-clause-err c = on_err _ c.from_residual.result c.in_err-advance.ensures.err

pub returns-in_err-advance-clause-kept : goal.returns-in_err-advance-clause-kept
returns-in_err-advance-clause-kept c = c.advance.ensures.kept

pub returns-clause-ok : goal.returns-clause-ok
returns-clause-ok c =
    let conf = low_configuration_of c.args.script.now c.args.longest in
    let entry : Entry = c.args.entry.now in
    follows-alone c.args.observer.now (conf c.args.self.now) (conf c.advance.new.self) (conf c.settle.new.self) entry.actor entry.act entry.reply c.in_ok-advance.ensures.ok
    (c.settle.ensures.settles c.args.script.now c.args.longest)

pub returns-clause-kept : goal.returns-clause-kept
returns-clause-kept c = λ all. c.settle.ensures.kept (c.advance.ensures.kept all)
