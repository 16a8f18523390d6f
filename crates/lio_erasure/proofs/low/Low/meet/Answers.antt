use Rattle.std.proofs.Common.{◌≡◌, ◌∙◌, refl, sym, ap, subst, ℕ, true, Option, Some, is_some}
use Rattle.std.proofs.lemmas.Result.{IfOk-from_err}
use Rattle.lio_values.specs.Erasure.{erase_act}
use Rattle.lio_values.specs.declared.entry.Entry.{Entry}
use Rattle.lio_values.specs.declared.act.Act.{Act}
use Rattle.lio_values.specs.declared.act.Reply.{Reply}
use Rattle.lio_cells.specs.State.{answer, ready}
use Rattle.lio_calculus.specs.Step.{Cell, cell_at}
use Rattle.lio_task.specs.declared.config.Holder.{Holder}
use Rattle.lio_task.specs.declared.task.Task.{Task}
use Rattle.lio_erasure.specs.Low.{holder_in}
use Rattle.lio_erasure.specs.LowParts.{LowParts}
use Rattle.lio_erasure.specs.Turn.{VisitsNode}
use Rattle.lio_erasure.proofs.FieldLemmas.{can-go, erased-now, held, met-goes, same-erased, same-low_of}
use Rattle.lio_erasure.proofs.HolderLemmas.{cell-low}
use Rattle.lio_erasure.proofs.ResultLemmas.{on_err, kept_beside, none_beside}
use Rattle.lio_erasure.proofs.TurnLemmas.{met-acts, met-holder, met-part, ready-state}
use Rattle.lio_erasure.proofs.low.Low.meet.Goals as goal

-- what the node that was found answered
answered : (inside now : LowParts) (n : ℕ) (asked : Act) (holder : Holder) (reply : Reply) → inside ≡ now → Some holder ≡ holder_in inside.holders n → reply ≡ answer holder.node.state asked → reply ≡ answer (cell_at (held now) n).state asked
answered inside now n asked holder reply same found replies =
    let is : holder_in now.holders n ≡ Some holder = sym (found ∙ ap (λ (parts : LowParts). holder_in parts.holders n) same) in
    replies ∙ sym (ap (λ (cell : Cell). answer cell.state asked) (cell-low now.script now.longest now.holders n (Some holder) is))

pub unreachable-requires : goal.unreachable-requires
unreachable-requires c = met-holder c.args.self.now c.args.k c.args.n c.args.act c.requires (c.in_default.ensures ∙ ap (λ (parts : LowParts). holder_in parts.holders c.args.n) c.self.view_is)

pub same-self : goal.same-self
same-self c = refl

pub unreachable-unreachable : goal.unreachable-unreachable
unreachable-unreachable c = c.unreachable.result

pub answer-requires : goal.answer-requires
answer-requires c =
    let parts = c.args.self.now in
    let is : holder_in parts.holders c.args.n ≡ Some c.in-Some.holder.now = sym (c.in-Some.ensures ∙ ap (λ (p : LowParts). holder_in p.holders c.args.n) c.self.view_is) in
    sym (ap (λ (cell : Cell). ready cell.state c.args.act) (cell-low parts.script parts.longest parts.holders c.args.n (Some c.in-Some.holder.now) is)) ∙ ready-state parts c.args.k c.args.n c.args.act c.requires

pub same-self-in-Err : goal.same-self-in-Err
same-self-in-Err c = refl

pub returns-in-Err-clause-err : goal.returns-in-Err-clause-err
returns-in-Err-clause-err c = refl

pub shown-requires-clause-there : goal.shown-requires-clause-there
shown-requires-clause-there c = ap (λ (task : Option Task). is_some task) c.requires.visits.is

pub shown-requires-clause-seen : goal.shown-requires-clause-seen
shown-requires-clause-seen c =
    let inside : LowParts = record { script = c.self.inside.script; longest = c.self.inside.longest; observer = c.self.inside.observer; holders = c.self.inside.config } in
    let now = c.args.self.now in
    (met-acts now c.args.k c.args.n c.args.act c.in-Ok.reply (erased-now inside now c.self.view_is c.self.invariant.0) c.requires
    (answered inside now c.args.n c.args.act c.in-Some.holder.now c.in-Ok.reply c.self.view_is c.in-Some.ensures c.in-Ok.ensures)).acts.seen

pub same-self-in_err-entry : goal.same-self-in_err-entry
same-self-in_err-entry c = refl

pub returns-in_err-entry-clause-ok : goal.returns-in_err-entry-clause-ok
returns-in_err-entry-clause-ok c = IfOk-from_err c.from_residual.result _ c.from_residual.ensures.0

pub returns-in_err-entry-clause-err : goal.returns-in_err-entry-clause-err
returns-in_err-entry-clause-err c = on_err _ c.from_residual.result refl

pub turn_serving-served-requires-clause-advances : goal.turn_serving-served-requires-clause-advances
turn_serving-served-requires-clause-advances c =
    let inside : LowParts = record { script = c.self.inside.script; longest = c.self.inside.longest; observer = c.self.inside.observer; holders = c.self.inside.config } in
    let now = c.args.self.now in
    let replies = answered inside now c.args.n c.args.act c.in-Some.holder.now c.in-Ok.reply c.self.view_is c.in-Some.ensures c.in-Ok.ensures in
    can-go inside now c.args.k (Some c.args.n) c.args.act c.in-Ok.reply c.in_ok-entry.entry c.self.view_is
    (met-acts now c.args.k c.args.n c.args.act c.in-Ok.reply (erased-now inside now c.self.view_is c.self.invariant.0) c.requires replies) c.in_ok-entry.ensures

pub turn_serving-served-requires-clause-there : goal.turn_serving-served-requires-clause-there
turn_serving-served-requires-clause-there c = ap (λ (h : Option Holder). is_some h) (sym c.in-Some.ensures)

pub turn_serving-served-requires-clause-takes_part : goal.turn_serving-served-requires-clause-takes_part
turn_serving-served-requires-clause-takes_part c =
    let inside : LowParts = record { script = c.self.inside.script; longest = c.self.inside.longest; observer = c.self.inside.observer; holders = c.self.inside.config } in
    let v : VisitsNode inside c.args.k c.args.act c.args.n true = subst (λ (parts : LowParts). VisitsNode parts c.args.k c.args.act c.args.n true) (sym c.self.view_is) c.requires in
    met-part inside c.args.k c.args.n c.args.act c.in_ok-entry.entry.act v
    (ap (λ (e : Entry). e.act) (c.in_ok-entry.ensures c.requires.visits.task c.requires.visits.is) ∙ ap (λ (parts : LowParts). erase_act parts.observer c.args.act) (sym c.self.view_is))

pub invariant_of-self-2 : goal.invariant_of-self-2
invariant_of-self-2 c =
    let inside : LowParts = record { script = c.self.inside.script; longest = c.self.inside.longest; observer = c.self.inside.observer; holders = c.self.inside.config } in
    let now = c.args.self.now in
    let replies = answered inside now c.args.n c.args.act c.in-Some.holder.now c.in-Ok.reply c.self.view_is c.in-Some.ensures c.in-Ok.ensures in (
      (met-goes inside now c.turn_serving-served.new.self c.args.k c.args.n c.args.act c.in-Ok.reply c.in_ok-entry.entry c.self.view_is c.self.invariant.0 (kept_beside _ c.turn_serving-served.result c.in_ok-entry.entry c.in_ok-shown.shown _ c.in_ok-shown.ensures c.turn_serving-served.ensures.ok).1 c.requires replies c.in_ok-entry.ensures).1,
      c.turn_serving-served.ensures.kept c.self.invariant.1,
    )

pub returns-clause-ok : goal.returns-clause-ok
returns-clause-ok c =
    let inside : LowParts = record { script = c.self.inside.script; longest = c.self.inside.longest; observer = c.self.inside.observer; holders = c.self.inside.config } in
    let now = c.args.self.now in
    let replies = answered inside now c.args.n c.args.act c.in-Some.holder.now c.in-Ok.reply c.self.view_is c.in-Some.ensures c.in-Ok.ensures in
    rw (kept_beside _ c.turn_serving-served.result c.in_ok-entry.entry c.in_ok-shown.shown _ c.in_ok-shown.ensures c.turn_serving-served.ensures.ok).0 (met-goes inside now c.turn_serving-served.new.self c.args.k c.args.n c.args.act c.in-Ok.reply c.in_ok-entry.entry c.self.view_is c.self.invariant.0 (kept_beside _ c.turn_serving-served.result c.in_ok-entry.entry c.in_ok-shown.shown _ c.in_ok-shown.ensures c.turn_serving-served.ensures.ok).1 c.requires replies c.in_ok-entry.ensures).0

pub invariant_of-self : goal.invariant_of-self
invariant_of-self c = (same-erased (record { script = c.self.inside.script; longest = c.self.inside.longest; observer = c.self.inside.observer; holders = c.self.inside.config }) c.turn_serving-served.new.self (none_beside _ c.turn_serving-served.result c.in_ok-entry.entry _ c.in_err-shown.ensures c.turn_serving-served.ensures.err) c.self.invariant.0, c.turn_serving-served.ensures.kept c.self.invariant.1)

pub returns-in_err-shown-clause-err : goal.returns-in_err-shown-clause-err
returns-in_err-shown-clause-err c = on_err _ c.from_residual-in_err-shown.result (same-low_of (record { script = c.self.inside.script; longest = c.self.inside.longest; observer = c.self.inside.observer; holders = c.self.inside.config }) c.args.self.now c.turn_serving-served.new.self c.self.view_is (none_beside _ c.turn_serving-served.result c.in_ok-entry.entry _ c.in_err-shown.ensures c.turn_serving-served.ensures.err))

pub returns-in_err-shown-clause-ok : goal.returns-in_err-shown-clause-ok
returns-in_err-shown-clause-ok c = IfOk-from_err c.from_residual-in_err-shown.result _ c.from_residual-in_err-shown.ensures.0
