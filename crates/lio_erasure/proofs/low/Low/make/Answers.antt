use Rattle.std.proofs.Common.{◌∙◌, refl, ap, Option, Some, is_some}
use Rattle.std.proofs.lemmas.Result.{IfOk-from_err}
use Rattle.lio_values.specs.declared.act.Reply.TheVariants.{Done}
use Rattle.lio_values.specs.declared.entry.Entry.{Entry}
use Rattle.lio_calculus.specs.Afforded.{makes}
use Rattle.lio_task.specs.declared.task.Task.{Task}
use Rattle.lio_erasure.specs.LowParts.{LowParts}
use Rattle.lio_erasure.proofs.ActLemmas.{makes-erased}
use Rattle.lio_erasure.proofs.FieldLemmas.{actor-held, can-go, erased-now, new-goes, same-erased, same-low_of}
use Rattle.lio_erasure.proofs.ResultLemmas.{on_err}
use Rattle.lio_erasure.proofs.TurnLemmas.{new-bears, visit-acts}
use Rattle.lio_erasure.proofs.low.Low.make.Goals as goal

pub shown-requires-clause-there : goal.shown-requires-clause-there
shown-requires-clause-there c = ap (λ (task : Option Task). is_some task) c.requires.visits.is

pub shown-requires-clause-seen : goal.shown-requires-clause-seen
shown-requires-clause-seen c =
    let inside : LowParts = record { script = c.self.inside.script; longest = c.self.inside.longest; observer = c.self.inside.observer; holders = c.self.inside.config } in
    (visit-acts c.args.self.now c.args.k c.args.n c.args.act Done (erased-now inside c.args.self.now c.self.view_is c.self.invariant.0) c.requires.visits refl tt).acts.seen

pub same-self : goal.same-self
same-self c = refl

pub returns-in_err-entry-clause-ok : goal.returns-in_err-entry-clause-ok
returns-in_err-entry-clause-ok c = IfOk-from_err c.from_residual.result _ c.from_residual.ensures.0

pub returns-in_err-entry-clause-err : goal.returns-in_err-entry-clause-err
returns-in_err-entry-clause-err c = on_err _ c.from_residual.result refl

pub made-requires-clause-makes : goal.made-requires-clause-makes
made-requires-clause-makes c =
    ap (λ (e : Entry). makes e.act) (c.in_ok-entry.ensures c.requires.visits.task c.requires.visits.is) ∙ makes-erased c.args.self.now.observer c.args.act ∙ c.requires.makes_node

pub made-requires-clause-bears : goal.made-requires-clause-bears
made-requires-clause-bears c = new-bears c.args.self.now c.args.k c.args.n c.args.act c.in_ok-entry.entry c.requires c.in_ok-entry.ensures

pub same-self-in-Err : goal.same-self-in-Err
same-self-in-Err c = refl

pub returns-in-Err-clause-err : goal.returns-in-Err-clause-err
returns-in-Err-clause-err c = refl

pub turn_placing-requires-clause-advances : goal.turn_placing-requires-clause-advances
turn_placing-requires-clause-advances c =
    let inside : LowParts = record { script = c.self.inside.script; longest = c.self.inside.longest; observer = c.self.inside.observer; holders = c.self.inside.config } in
    can-go inside c.args.self.now c.args.k (Some c.args.n) c.args.act Done c.in_ok-entry.entry c.self.view_is
    (visit-acts c.args.self.now c.args.k c.args.n c.args.act Done (erased-now inside c.args.self.now c.self.view_is c.self.invariant.0) c.requires.visits refl tt) c.in_ok-entry.ensures

pub turn_placing-requires-clause-there : goal.turn_placing-requires-clause-there
turn_placing-requires-clause-there c =
    actor-held (record { script = c.self.inside.script; longest = c.self.inside.longest; observer = c.self.inside.observer; holders = c.self.inside.config }) c.args.self.now c.args.k (Some c.args.n) c.args.act Done c.in_ok-entry.entry c.requires.visits.task c.self.view_is c.self.invariant.0 c.requires.visits.is c.in_ok-entry.ensures

pub turn_placing-requires-clause-kept : goal.turn_placing-requires-clause-kept
turn_placing-requires-clause-kept c = c.in-Ok.ensures.kept

pub invariant_of-self-2 : goal.invariant_of-self-2
invariant_of-self-2 c =
    let inside : LowParts = record { script = c.self.inside.script; longest = c.self.inside.longest; observer = c.self.inside.observer; holders = c.self.inside.config } in (
      (new-goes inside c.args.self.now c.turn_placing.new.self c.args.k c.args.n c.args.act c.in_ok-entry.entry c.in-Ok.cell c.self.view_is c.self.invariant.0 c.in_default.ensures.ok c.in-Ok.ensures.seen c.requires c.in_ok-entry.ensures).1,
      c.turn_placing.ensures.kept c.self.invariant.1,
    )

pub returns-clause-ok : goal.returns-clause-ok
returns-clause-ok c =
    let inside : LowParts = record { script = c.self.inside.script; longest = c.self.inside.longest; observer = c.self.inside.observer; holders = c.self.inside.config } in
    (new-goes inside c.args.self.now c.turn_placing.new.self c.args.k c.args.n c.args.act c.in_ok-entry.entry c.in-Ok.cell c.self.view_is c.self.invariant.0 c.in_default.ensures.ok c.in-Ok.ensures.seen c.requires c.in_ok-entry.ensures).0

pub invariant_of-self : goal.invariant_of-self
invariant_of-self c = (same-erased (record { script = c.self.inside.script; longest = c.self.inside.longest; observer = c.self.inside.observer; holders = c.self.inside.config }) c.turn_placing.new.self c.in-Err-turn_placing.ensures.err c.self.invariant.0, c.turn_placing.ensures.kept c.self.invariant.1)

pub returns-in-Err-turn_placing-clause-err : goal.returns-in-Err-turn_placing-clause-err
returns-in-Err-turn_placing-clause-err c = same-low_of (record { script = c.self.inside.script; longest = c.self.inside.longest; observer = c.self.inside.observer; holders = c.self.inside.config }) c.args.self.now c.turn_placing.new.self c.self.view_is c.in-Err-turn_placing.ensures.err
