use Rattle.std.proofs.Common.{◌≡◌, ◌∙◌, sym, ap, subst}
use Rattle.std.proofs.lemmas.Result.{IfOk-from_err}
use Rattle.lio_calculus.specs.Step.{blank, met_after}
use Rattle.lio_task_turns.specs.StateOf.{program_of}
use Rattle.lio_task.specs.Births.{CanBear}
use Rattle.lio_erasure.specs.Low.{low_cell_of, seen_cell}
use Rattle.lio_erasure.specs.LowParts.{LowParts}
use Rattle.lio_erasure.proofs.low.Low.made.Goals as goal

pub made-requires-clause-makes : goal.made-requires-clause-makes
made-requires-clause-makes c = c.requires.makes

pub made-requires-clause-bears : goal.made-requires-clause-bears
made-requires-clause-bears c = subst (λ (parts : LowParts). CanBear parts.script c.args.entry.now.at c.args.entry.now.act) (sym c.self.view_is) c.requires.bears

pub returns-in_err-holder-clause-seen : goal.returns-in_err-holder-clause-seen
returns-in_err-holder-clause-seen c = IfOk-from_err c.from_residual.result _ c.from_residual.ensures.0

pub returns-in_err-holder-clause-kept : goal.returns-in_err-holder-clause-kept
returns-in_err-holder-clause-kept c = IfOk-from_err c.from_residual.result _ c.from_residual.ensures.0

pub returns-clause-seen : goal.returns-clause-seen
returns-clause-seen c =
    subst (λ (parts : LowParts). low_cell_of parts.script c.seen.result ≡ seen_cell parts.observer (met_after (program_of parts.script parts.longest) c.args.entry.now.at c.args.entry.now.act blank)) c.self.view_is
    (c.seen.ensures.seen c.self.inside.script ∙ ap (seen_cell c.self.inside.observer) (c.in_ok-holder.ensures c.self.inside.longest))

pub returns-clause-kept : goal.returns-clause-kept
returns-clause-kept c = c.seen.ensures.kept
