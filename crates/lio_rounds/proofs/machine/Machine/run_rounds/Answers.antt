use Rattle.std.proofs.Common.{◌<◌, arith, length, Result, Ok, Err}
use Rattle.std.specs.Result.{OnErr}
use Rattle.lio_calculus_runs.specs.Round.{round}
use Rattle.lio_calculus_runs.specs.Rounds.{stepped}
use Rattle.lio_calculus_runs.proofs.EndLemmas.{run_is_bounded}
use Rattle.lio_rounds.specs.MachineState.{MachineState}
use Rattle.lio_rounds.specs.MachineParts.{machine_of}
use Rattle.lio_rounds.proofs.RoundLemmas.{rounds-begun, rounds-none, rounds-more, rounds-last, rounds-complete}
use Rattle.lio_rounds.proofs.machine.Machine.run_rounds.Goals as goal

-- what holds anyhow holds after an error
on_err : {T E : Type 0} (r : Result T E) (P : Type 0) → P → OnErr r P
on_err (Ok x) P holds = tt
on_err (Err e) P holds = holds

pub loop-init : goal.loop-init
loop-init c = rounds-none (machine_of c.args.self.now)

pub returns-in_err-round-clause-err : goal.returns-in_err-round-clause-err
returns-in_err-round-clause-err c =
    on_err c.from_residual.result _ (rounds-begun (machine_of c.args.self.now) (machine_of c.loop.self) (machine_of c.round.new.self) c.loop.invariant c.in_err-round.ensures.err)

pub loop-smaller : goal.loop-smaller
loop-smaller c =
    let went = c.in_ok-round.ensures in let old : MachineState = machine_of c.loop.self in
    let less = run_is_bounded (length old.entries) old.configuration (round stepped old.order old.configuration).moved (record { entries = went.ok.has_run.added; last = (machine_of c.round.new.self).configuration }) went.ok.has_run.is_run in
    omega (arith, less, went.moved)

pub loop-preserved : goal.loop-preserved
loop-preserved c =
    let went = c.in_ok-round.ensures in let s : MachineState = machine_of c.loop.self in
    let some : 0 < length (round stepped s.order s.configuration).moved = omega (arith, went.moved) in
    rounds-more (machine_of c.args.self.now) s (machine_of c.round.new.self) c.loop.invariant went.ok some

pub returns-clause-ok : goal.returns-clause-ok
returns-clause-ok c =
    let went = c.in_ok-round.ensures in
    rounds-last (machine_of c.args.self.now) (machine_of c.loop.self) (machine_of c.round.new.self) c.loop.invariant went.ok (omega (arith, went.moved))

pub returns-clause-complete : goal.returns-clause-complete
returns-clause-complete c =
    let went = c.in_ok-round.ensures in let s : MachineState = machine_of c.loop.self in let new : MachineState = machine_of c.round.new.self in
    rounds-complete s new went.lists (rounds-last s s new (rounds-none s) went.ok (omega (arith, went.moved)))
