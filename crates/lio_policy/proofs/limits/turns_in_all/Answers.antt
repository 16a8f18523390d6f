use Rattle.std.proofs.Common.{◌∙◌, ◌+◌, sym, ap, arith, take}
use Rattle.std.proofs.lemmas.List.Sums.{sum_by_more}
use Rattle.lio_policy_draft.specs.declared.draft.TaskDraft.{TaskDraft}
use Rattle.lio_policy.specs.Rules.{turns_in_all}
use Rattle.lio_policy.proofs.limits.turns_in_all.Goals as goal

pub loop-task-preserved : goal.loop-task-preserved
loop-task-preserved c =
    let tasks = c.args.tasks.now in
    let i = c.loop-task.task-index in
    let t = c.task-item.result in (
      ap (λ n. n + t.turns) c.loop-task.invariant.0 ∙ ap (λ (x : TaskDraft). turns_in_all (take i tasks) + x.turns) c.task-item.is
          ∙ sym (sum_by_more (λ (x : TaskDraft). x.turns) tasks i t c.loop-task-test.true),
      omega arith,
    )
