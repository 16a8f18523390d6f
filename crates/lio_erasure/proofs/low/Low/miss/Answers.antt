use Rattle.std.proofs.Common.{refl, ap, Option, Some, is_some}
use Rattle.std.proofs.lemmas.Result.{IfOk-from_err}
use Rattle.lio_values.specs.declared.act.Reply.TheVariants.{Done}
use Rattle.lio_task.specs.declared.task.Task.{Task}
use Rattle.lio_erasure.specs.LowParts.{LowParts}
use Rattle.lio_erasure.proofs.FieldLemmas.{can-go, erased-now, missed-goes, same-erased, same-low_of}
use Rattle.lio_erasure.proofs.ResultLemmas.{on_err, kept_beside, none_beside}
use Rattle.lio_erasure.proofs.TurnLemmas.{visit-acts}
use Rattle.lio_erasure.proofs.low.Low.miss.Goals as goal

pub shown-requires-clause-there : goal.shown-requires-clause-there
shown-requires-clause-there c = ap (λ (task : Option Task). is_some task) c.requires.visits.visits.is

pub shown-requires-clause-seen : goal.shown-requires-clause-seen
shown-requires-clause-seen c =
    let inside : LowParts = record { script = c.self.inside.script; longest = c.self.inside.longest; observer = c.self.inside.observer; holders = c.self.inside.config } in
    (visit-acts c.args.self.now c.args.k c.args.n c.args.act Done (erased-now inside c.args.self.now c.self.view_is c.self.invariant.0) c.requires.visits.visits refl tt).acts.seen

pub same-self : goal.same-self
same-self c = refl

pub returns-in_err-entry-clause-ok : goal.returns-in_err-entry-clause-ok
returns-in_err-entry-clause-ok c = IfOk-from_err c.from_residual.result _ c.from_residual.ensures.0

pub returns-in_err-entry-clause-err : goal.returns-in_err-entry-clause-err
returns-in_err-entry-clause-err c = on_err _ c.from_residual.result refl

pub turn_alone-taken-requires : goal.turn_alone-taken-requires
turn_alone-taken-requires c =
    let inside : LowParts = record { script = c.self.inside.script; longest = c.self.inside.longest; observer = c.self.inside.observer; holders = c.self.inside.config } in
    can-go inside c.args.self.now c.args.k (Some c.args.n) c.args.act Done c.in_ok-entry.entry c.self.view_is
    (visit-acts c.args.self.now c.args.k c.args.n c.args.act Done (erased-now inside c.args.self.now c.self.view_is c.self.invariant.0) c.requires.visits.visits refl tt) c.in_ok-entry.ensures

pub invariant_of-self-2 : goal.invariant_of-self-2
invariant_of-self-2 c =
    let inside : LowParts = record { script = c.self.inside.script; longest = c.self.inside.longest; observer = c.self.inside.observer; holders = c.self.inside.config } in (
      (missed-goes inside c.args.self.now c.turn_alone-taken.new.self c.args.k c.args.n c.args.act c.in_ok-entry.entry c.self.view_is c.self.invariant.0 c.requires.stays (kept_beside _ c.turn_alone-taken.result c.in_ok-entry.entry c.in_ok-shown.shown _ c.in_ok-shown.ensures c.turn_alone-taken.ensures.ok).1 c.requires.visits c.in_ok-entry.ensures).1,
      c.turn_alone-taken.ensures.kept c.self.invariant.1,
    )

pub returns-clause-ok : goal.returns-clause-ok
returns-clause-ok c =
    let inside : LowParts = record { script = c.self.inside.script; longest = c.self.inside.longest; observer = c.self.inside.observer; holders = c.self.inside.config } in
    rw (kept_beside _ c.turn_alone-taken.result c.in_ok-entry.entry c.in_ok-shown.shown _ c.in_ok-shown.ensures c.turn_alone-taken.ensures.ok).0 (missed-goes inside c.args.self.now c.turn_alone-taken.new.self c.args.k c.args.n c.args.act c.in_ok-entry.entry c.self.view_is c.self.invariant.0 c.requires.stays (kept_beside _ c.turn_alone-taken.result c.in_ok-entry.entry c.in_ok-shown.shown _ c.in_ok-shown.ensures c.turn_alone-taken.ensures.ok).1 c.requires.visits c.in_ok-entry.ensures).0

pub invariant_of-self : goal.invariant_of-self
invariant_of-self c = (same-erased (record { script = c.self.inside.script; longest = c.self.inside.longest; observer = c.self.inside.observer; holders = c.self.inside.config }) c.turn_alone-taken.new.self (none_beside _ c.turn_alone-taken.result c.in_ok-entry.entry _ c.in_err-shown.ensures c.turn_alone-taken.ensures.err) c.self.invariant.0, c.turn_alone-taken.ensures.kept c.self.invariant.1)

pub returns-in_err-shown-clause-err : goal.returns-in_err-shown-clause-err
returns-in_err-shown-clause-err c = on_err _ c.from_residual-in_err-shown.result (same-low_of (record { script = c.self.inside.script; longest = c.self.inside.longest; observer = c.self.inside.observer; holders = c.self.inside.config }) c.args.self.now c.turn_alone-taken.new.self c.self.view_is (none_beside _ c.turn_alone-taken.result c.in_ok-entry.entry _ c.in_err-shown.ensures c.turn_alone-taken.ensures.err))

pub returns-in_err-shown-clause-ok : goal.returns-in_err-shown-clause-ok
returns-in_err-shown-clause-ok c = IfOk-from_err c.from_residual-in_err-shown.result _ c.from_residual-in_err-shown.ensures.0
