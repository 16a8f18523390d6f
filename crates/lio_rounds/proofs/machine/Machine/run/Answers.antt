use Rattle.std.proofs.Common.{subst}
use Rattle.std.specs.Result.{OnErr, OnOk}
use Rattle.lio_calculus_runs.specs.Rounds.{rounds_from}
use Rattle.lio_rounds.specs.MachineState.{HasBegun, HasRun, MachineState}
use Rattle.lio_rounds.specs.MachineParts.{machine_of}
use Rattle.lio_rounds.proofs.machine.Machine.run.Goals as goal

pub returns-clause-ok : goal.returns-clause-ok
returns-clause-ok c =
    subst (λ (m : MachineState). OnOk c.run_rounds.result (HasRun m (machine_of c.run_rounds.new.self) (rounds_from m.order m.configuration))) c.make_room.ensures c.run_rounds.ensures.ok

pub returns-clause-err : goal.returns-clause-err
returns-clause-err c =
    subst (λ (m : MachineState). OnErr c.run_rounds.result (HasBegun m (machine_of c.run_rounds.new.self) (rounds_from m.order m.configuration))) c.make_room.ensures c.run_rounds.ensures.err
