use Rattle.std.proofs.Common.{◌∙◌, refl, ap, Option, None, is_some}
use Rattle.std.proofs.lemmas.Result.{IfOk-from_err}
use Rattle.lio_task.specs.declared.task.Task.{Task}
use Rattle.lio_erasure.specs.Low.{low_task_in}
use Rattle.lio_erasure.specs.LowParts.{LowParts}
use Rattle.lio_erasure.proofs.FieldLemmas.{can-go, erased-now, own-goes, same-erased, same-low_of}
use Rattle.lio_erasure.proofs.ResultLemmas.{on_err, kept_beside, none_beside}
use Rattle.lio_erasure.proofs.ServeLemmas.{own-part, task-there}
use Rattle.lio_erasure.proofs.TurnLemmas.{ActsIn, own-acts}
use Rattle.lio_erasure.proofs.low.Low.own.Goals as goal

pub shown-requires-clause-there : goal.shown-requires-clause-there
shown-requires-clause-there c = ap (λ (task : Option Task). is_some task) c.requires.is

pub shown-requires-clause-seen : goal.shown-requires-clause-seen
shown-requires-clause-seen c =
    let inside : LowParts = record { script = c.self.inside.script; longest = c.self.inside.longest; observer = c.self.inside.observer; holders = c.self.inside.config } in
    (own-acts c.args.self.now c.args.k c.args.act c.args.reply (erased-now inside c.args.self.now c.self.view_is c.self.invariant.0) c.requires).acts.seen

pub same-self : goal.same-self
same-self c = refl

pub returns-in_err-entry-clause-ok : goal.returns-in_err-entry-clause-ok
returns-in_err-entry-clause-ok c = IfOk-from_err c.from_residual.result _ c.from_residual.ensures.0

pub returns-in_err-entry-clause-err : goal.returns-in_err-entry-clause-err
returns-in_err-entry-clause-err c = on_err _ c.from_residual.result refl

pub turn_serving-served-requires-clause-advances : goal.turn_serving-served-requires-clause-advances
turn_serving-served-requires-clause-advances c =
    let inside : LowParts = record { script = c.self.inside.script; longest = c.self.inside.longest; observer = c.self.inside.observer; holders = c.self.inside.config } in
    let acts : ActsIn c.args.self.now c.args.k c.args.act c.args.reply = own-acts c.args.self.now c.args.k c.args.act c.args.reply (erased-now inside c.args.self.now c.self.view_is c.self.invariant.0) c.requires in
    can-go inside c.args.self.now c.args.k None c.args.act c.args.reply c.in_ok-entry.entry c.self.view_is acts c.in_ok-entry.ensures

pub turn_serving-served-requires-clause-there : goal.turn_serving-served-requires-clause-there
turn_serving-served-requires-clause-there c = task-there c.self.inside.config c.args.k c.requires.task (ap (λ (parts : LowParts). low_task_in parts.holders c.args.k) c.self.view_is ∙ c.requires.is)

pub turn_serving-served-requires-clause-takes_part : goal.turn_serving-served-requires-clause-takes_part
turn_serving-served-requires-clause-takes_part c =
    own-part c.self.inside.script c.self.inside.longest c.self.inside.config c.args.k c.requires.task c.in_ok-entry.entry.act
    (ap (λ (parts : LowParts). low_task_in parts.holders c.args.k) c.self.view_is ∙ c.requires.is) c.self.invariant.0.jobs

pub invariant_of-self-2 : goal.invariant_of-self-2
invariant_of-self-2 c =
    let inside : LowParts = record { script = c.self.inside.script; longest = c.self.inside.longest; observer = c.self.inside.observer; holders = c.self.inside.config } in (
      (own-goes inside c.args.self.now c.turn_serving-served.new.self c.args.k c.args.act c.args.reply c.in_ok-entry.entry c.self.view_is c.self.invariant.0 (kept_beside _ c.turn_serving-served.result c.in_ok-entry.entry c.in_ok-shown.shown _ c.in_ok-shown.ensures c.turn_serving-served.ensures.ok).1 c.requires c.in_ok-entry.ensures).1,
      c.turn_serving-served.ensures.kept c.self.invariant.1,
    )

pub returns-clause-ok : goal.returns-clause-ok
returns-clause-ok c =
    let inside : LowParts = record { script = c.self.inside.script; longest = c.self.inside.longest; observer = c.self.inside.observer; holders = c.self.inside.config } in
    rw (kept_beside _ c.turn_serving-served.result c.in_ok-entry.entry c.in_ok-shown.shown _ c.in_ok-shown.ensures c.turn_serving-served.ensures.ok).0 (own-goes inside c.args.self.now c.turn_serving-served.new.self c.args.k c.args.act c.args.reply c.in_ok-entry.entry c.self.view_is c.self.invariant.0 (kept_beside _ c.turn_serving-served.result c.in_ok-entry.entry c.in_ok-shown.shown _ c.in_ok-shown.ensures c.turn_serving-served.ensures.ok).1 c.requires c.in_ok-entry.ensures).0

pub invariant_of-self : goal.invariant_of-self
invariant_of-self c = (same-erased (record { script = c.self.inside.script; longest = c.self.inside.longest; observer = c.self.inside.observer; holders = c.self.inside.config }) c.turn_serving-served.new.self (none_beside _ c.turn_serving-served.result c.in_ok-entry.entry _ c.in_err-shown.ensures c.turn_serving-served.ensures.err) c.self.invariant.0, c.turn_serving-served.ensures.kept c.self.invariant.1)

pub returns-in_err-shown-clause-err : goal.returns-in_err-shown-clause-err
returns-in_err-shown-clause-err c = on_err _ c.from_residual-in_err-shown.result (same-low_of (record { script = c.self.inside.script; longest = c.self.inside.longest; observer = c.self.inside.observer; holders = c.self.inside.config }) c.args.self.now c.turn_serving-served.new.self c.self.view_is (none_beside _ c.turn_serving-served.result c.in_ok-entry.entry _ c.in_err-shown.ensures c.turn_serving-served.ensures.err))

pub returns-in_err-shown-clause-ok : goal.returns-in_err-shown-clause-ok
returns-in_err-shown-clause-ok c = IfOk-from_err c.from_residual-in_err-shown.result _ c.from_residual-in_err-shown.ensures.0
