use Rattle.std.proofs.Common.{◌≡◌, ◌∙◌, sym, subst, true}
use Rattle.lio_values.specs.declared.entry.Entry.{Entry}
use Rattle.lio_cells.specs.Node.{takes_part}
use Rattle.lio_calculus.specs.Step.{Configuration, cell_at}
use Rattle.lio_erasure.specs.Low.{low_configuration_of}
use Rattle.lio_erasure.specs.Turn.{CanAdvance, Follows, served}
use Rattle.lio_erasure.proofs.ResultLemmas.{on_err, on_ok-from_err}
use Rattle.lio_erasure.proofs.ServeLemmas.{can-serve}
use Rattle.lio_erasure.proofs.SwapLemmas.{follows-served}
use Rattle.lio_erasure.proofs.cells.LowConfig.turn_serving.Goals as goal

pub returns-in_err-reserve-clause-ok : goal.returns-in_err-reserve-clause-ok
returns-in_err-reserve-clause-ok c = on_ok-from_err _ c.from_residual.result c.from_residual.ensures.0

pub returns-in_err-reserve-clause-err : goal.returns-in_err-reserve-clause-err
returns-in_err-reserve-clause-err c = on_err _ c.from_residual.result (c.reserve.ensures.same c.args.script.now c.args.longest)

pub returns-in_err-reserve-clause-kept : goal.returns-in_err-reserve-clause-kept
returns-in_err-reserve-clause-kept c = c.reserve.ensures.kept

pub advance-requires : goal.advance-requires
advance-requires c =
    let entry : Entry = c.args.entry.now in
    subst (λ (d : Configuration). CanAdvance c.args.observer.now d entry.actor entry.act entry.reply) (sym (c.reserve.ensures.same c.args.script.now c.args.longest)) c.requires.advances

pub returns-in_err-advance-clause-ok : goal.returns-in_err-advance-clause-ok
returns-in_err-advance-clause-ok c = on_ok-from_err _ c.from_residual-in_err-advance.result c.from_residual-in_err-advance.ensures.0

pub returns-in_err-advance-clause-err : goal.returns-in_err-advance-clause-err
returns-in_err-advance-clause-err c = on_err _ c.from_residual-in_err-advance.result (c.in_err-advance.ensures.err ∙ c.reserve.ensures.same c.args.script.now c.args.longest)

pub returns-in_err-advance-clause-kept : goal.returns-in_err-advance-clause-kept
returns-in_err-advance-clause-kept c = λ all. c.advance.ensures.kept (c.reserve.ensures.kept all)

pub serve-requires : goal.serve-requires
serve-requires c =
    let script = c.args.script.now in
    let asked = c.args.entry.now.act in
    c.advance.ensures.serves c.args.n asked
    (can-serve script c.args.longest c.reserve.new.self c.args.n asked (c.reserve.ensures.there c.requires.there) c.in_ok-reserve.ensures.room
    (subst (λ (d : Configuration). takes_part (cell_at d c.args.n).state asked ≡ true) (sym (c.reserve.ensures.same script c.args.longest)) c.requires.takes_part))

pub returns-clause-ok : goal.returns-clause-ok
returns-clause-ok c =
    let conf = low_configuration_of c.args.script.now c.args.longest in
    let observer = c.args.observer.now in
    let entry : Entry = c.args.entry.now in
    subst (λ (d : Configuration). Follows observer d (served d c.args.n entry.act) (conf c.settle.new.self) entry.actor entry.act entry.reply) (c.reserve.ensures.same c.args.script.now c.args.longest)
    (follows-served observer (conf c.reserve.new.self) (conf c.advance.new.self) (conf c.serve.new.self) (conf c.settle.new.self) entry.actor c.args.n entry.act entry.reply c.in_ok-advance.ensures.ok
    (c.serve.ensures.serves c.args.script.now c.args.longest) (c.settle.ensures.settles c.args.script.now c.args.longest))

pub returns-clause-kept : goal.returns-clause-kept
returns-clause-kept c = λ all. c.settle.ensures.kept (c.serve.ensures.kept (c.advance.ensures.kept (c.reserve.ensures.kept all)))
