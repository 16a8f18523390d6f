use Rattle.std.proofs.Common.{◌<◌, ◌≤◌, ◌+◌, sym, ap, subst, arith, length, List, ℕ, Result, Ok, Err}
use Rattle.std.specs.Result.{OnErr}
use Rattle.lio_calculus_runs.specs.Round.{round}
use Rattle.lio_calculus_runs.specs.Rounds.{stepped}
use Rattle.lio_rounds.specs.MachineState.{MachineState, HasBegun}
use Rattle.lio_rounds.specs.MachineParts.{machine_of}
use Rattle.lio_rounds.specs.Schedule.{HasGoneOn}
use Rattle.lio_rounds.proofs.RoundLemmas.{WalkedTo, one-at_most, walked-all, walked-asks, walked-begins, walked-on, walked-to_none}
use Rattle.lio_rounds.proofs.machine.Machine.round.Goals as goal

-- what holds anyhow holds after an error
on_err : {T E : Type 0} (r : Result T E) (P : Type 0) → P → OnErr r P
on_err (Ok x) P holds = tt
on_err (Err e) P holds = holds

pub loop-i-init : goal.loop-i-init
loop-i-init c =
    let m : MachineState = machine_of c.args.self.now in record {
      so_far = walked-on m m 0 c.next_awake-i.result 0 (walked-to_none m) (omega arith) (λ place from before. (c.next_awake-i.ensures.still place from before).1);
      few = omega arith;
      all = ap (λ (ks : List ℕ). length ks) c.order-count.ensures.order;
    }

pub loop-i-preserved : goal.loop-i-preserved
loop-i-preserved c =
    let inv = c.loop-i.invariant in
    let old : MachineState = machine_of c.args.self.now in
    let s : MachineState = machine_of c.loop-i.self in
    let new : MachineState = machine_of c.ask.new.self in
    let inside : c.loop-i.i < length old.order = omega (arith, inv.all) in
    let goes = subst (λ (k : ℕ). HasGoneOn s new k c.in_ok-ask.field-0) c.task_at-k.ensures c.in_ok-ask.ensures.ok in
    let asked : WalkedTo old new (c.loop-i.i + 1) (c.loop-i.moved + c.from.result) =
    subst (λ (n : ℕ). WalkedTo old new (c.loop-i.i + 1) (c.loop-i.moved + n)) (sym c.from.ensures)
    (walked-asks old s new c.loop-i.i c.loop-i.moved c.in_ok-ask.field-0 inv.so_far inside goes) in
    let next = c.next_awake-i-in-loop-i.ensures in
    let one : c.from.result ≤ 1 = subst (λ (n : ℕ). n ≤ 1) (sym c.from.ensures) (one-at_most c.in_ok-ask.field-0) in record {
      so_far = walked-on old new (c.loop-i.i + 1) c.next_awake-i-in-loop-i.result (c.loop-i.moved + c.from.result) asked next.from (λ place from before. (next.still place from before).1);
      few = omega (arith, inv.few, one, next.from);
      all = inv.all;
    }

pub returns-in_err-ask-clause-err : goal.returns-in_err-ask-clause-err
returns-in_err-ask-clause-err c =
    let old : MachineState = machine_of c.args.self.now in
    let s : MachineState = machine_of c.loop-i.self in
    on_err c.from_residual.result _
    (subst (λ (m : MachineState). HasBegun old m (round stepped old.order old.configuration).moved) (sym c.in_err-ask.ensures.err) (walked-begins old s old.order c.loop-i.i c.loop-i.invariant.so_far.so_far))

pub returns-clause-moved : goal.returns-clause-moved
returns-clause-moved c = (walked-all (machine_of c.args.self.now) (machine_of c.loop-i.self) c.loop-i.i c.loop-i.moved c.loop-i.invariant.so_far (omega (arith, c.loop-i.invariant.all))).1

pub returns-clause-ok : goal.returns-clause-ok
returns-clause-ok c = (walked-all (machine_of c.args.self.now) (machine_of c.loop-i.self) c.loop-i.i c.loop-i.moved c.loop-i.invariant.so_far (omega (arith, c.loop-i.invariant.all))).0
