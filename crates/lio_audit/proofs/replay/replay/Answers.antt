use Rattle.std.proofs.Common.{subst, ℕ, inr, arith, List, length}
use Rattle.std.proofs.lemmas.Result.{err_from_is_err_and}
use Rattle.lio_task.specs.Configuration.{configuration_of}
use Rattle.lio_audit.specs.Replay.{Refuses, TakesLine}
use Rattle.lio_audit.proofs.ReplayLemmas.{is-history, line-some, rest-is, smaller, so_far-next, so_far-none, stops-at, stops-short}
use Rattle.lio_audit.proofs.replay.replay.Goals as goal

pub loop-at-init : goal.loop-at-init
loop-at-init c = so_far-none c.args.names.now c.args.script.now c.args.bytes.now c.args.config.now c.args.journal.now c.requires.stands c.requires.nothing

pub loop-at-preserved : goal.loop-at-preserved
loop-at-preserved c =
    so_far-next c.args.names.now c.args.script.now (configuration_of c.args.script.now c.args.config.now) c.args.bytes.now c.loop-at.config c.take_line.new.config c.loop-at.journal c.take_line.new.journal c.loop-at.at c.in_ok-at.field-0
    c.loop-at.invariant
    (subst (λ (bs : List ℕ). TakesLine c.args.names.now c.args.script.now c.loop-at.config c.take_line.new.config c.loop-at.journal c.take_line.new.journal bs c.in_ok-at.field-0) (rest-is c.args.bytes.now c.loop-at.at) c.in_ok-at.ensures.ok)

pub loop-at-smaller : goal.loop-at-smaller
loop-at-smaller c =
    smaller (length c.args.bytes.now) c.loop-at.at c.in_ok-at.field-0
    (line-some c.args.names.now c.args.script.now c.loop-at.config c.take_line.new.config c.loop-at.journal c.take_line.new.journal _ c.in_ok-at.field-0 c.in_ok-at.ensures.ok) c.loop-at-test.true

pub returns-in_err-at-clause-err : goal.returns-in_err-at-clause-err
returns-in_err-at-clause-err c =
    let p = err_from_is_err_and c.from_residual.result c.from_residual.ensures.1 in
    rw (p.1, p.2) (stops-at c.args.names.now c.args.script.now (configuration_of c.args.script.now c.args.config.now) c.args.bytes.now c.loop-at.config c.loop-at.journal c.loop-at.at c.in_err-at.field-0.0
    c.requires.stands.sound c.loop-at.invariant c.loop-at-test.true c.requires.few
    (subst (λ (bs : List ℕ). Refuses c.args.names.now (configuration_of c.args.script.now c.loop-at.config) c.loop-at.journal bs c.in_err-at.field-0.0) (rest-is c.args.bytes.now c.loop-at.at) c.in_err-at.ensures.err))

pub returns-in-Some-clause-err : goal.returns-in-Some-clause-err
returns-in-Some-clause-err c =
    inr (stops-short c.args.names.now c.args.script.now (configuration_of c.args.script.now c.args.config.now) c.args.bytes.now c.loop-at.config c.loop-at.journal c.loop-at.at c.next_line.result c.requires.stands.sound c.loop-at.invariant
    (omega (arith, c.loop-at-test.false)) c.requires.few (c.in-Some.field-0, c.in-Some.ensures) c.next_line.ensures)

pub returns-in-None-clause-ok : goal.returns-in-None-clause-ok
returns-in-None-clause-ok c =
    is-history c.args.names.now c.args.script.now (configuration_of c.args.script.now c.args.config.now) c.args.bytes.now c.loop-at.config c.loop-at.journal c.loop-at.at c.len.ensures.names c.requires.stands.sound c.requires.stands.named
    c.loop-at.invariant (omega (arith, c.loop-at-test.false)) c.requires.few c.in-None.ensures
