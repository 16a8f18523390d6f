use Rattle.lio_values.specs.declared.entry.Entry.{Entry}
use Rattle.lio_erasure.specs.Low.{low_cell_of, low_configuration_of}
use Rattle.lio_erasure.proofs.SwapLemmas.{follows-placed}
use Rattle.lio_erasure.proofs.cells.LowConfig.turn_placing.Goals as goal

pub advance-requires : goal.advance-requires
advance-requires c = c.requires.advances

pub returns-in-Ok-clause-ok : goal.returns-in-Ok-clause-ok
returns-in-Ok-clause-ok c =
    let script = c.args.script.now in
    let conf = low_configuration_of script c.args.longest in
    let entry : Entry = c.args.entry.now in
    follows-placed c.args.observer.now (conf c.args.self.now) (conf c.advance.new.self) (conf c.place.new.self) (conf c.settle.new.self) entry.actor c.args.n (low_cell_of script c.args.cell) entry.act entry.reply c.requires.there c.in-Ok.ensures.ok
    (c.place.ensures.places script c.args.longest) (c.settle.ensures.settles script c.args.longest)

pub returns-in-Ok-clause-kept : goal.returns-in-Ok-clause-kept
returns-in-Ok-clause-kept c = λ all. c.settle.ensures.kept (c.place.ensures.kept c.requires.kept (c.advance.ensures.kept all))

pub returns-in-Err-clause-err : goal.returns-in-Err-clause-err
returns-in-Err-clause-err c = c.in-Err.ensures.err

pub returns-in-Err-clause-kept : goal.returns-in-Err-clause-kept
returns-in-Err-clause-kept c = c.advance.ensures.kept
