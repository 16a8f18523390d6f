use Rattle.std.proofs.Common.{◌≡◌, ◌∙◌, ◌<◌, ◌≤◌, ◌+◌, sym, ap, arith, true, length, take, []}
use Rattle.std.proofs.lemmas.List.{length-take-le}
use Rattle.std.specs.Prelude.{slice_get}
use Rattle.lio_policy.specs.Rules.{behind, lists_fail, task_fails, turns_in_all, cells_in_all}
use Rattle.lio_policy.specs.declared.limits.TheConstants.{RULE}
use Rattle.lio_policy.proofs.RuleLemmas.{fails_now, none_now, task_fails_by}
use Rattle.lio_policy_draft.proofs.FailingLemmas.{fault_from, first_from_none}
use Rattle.lio_policy.proofs.limits.check_tasks.Goals as goal

pub returns-then-task_fails : goal.returns-then-task_fails
returns-then-task_fails c =
    let tasks = c.args.tasks.now in
    let i = c.loop-place.place in
    let before = take i tasks in
    let t = c.index-tasks-place.result in
    let inv = c.loop-place.invariant in
    let within : i < length tasks = omega arith in
    let place : i ≡ length before = sym (length-take-le i tasks (omega arith)) in
    let turns : c.loop-place.turns + t.turns ≡ turns_in_all before + t.turns = ap (λ n. n + t.turns) inv.0 in
    let cells : c.loop-place.cells + t.cells ≡ cells_in_all before + t.cells = ap (λ n. n + t.cells) inv.2 in
    let large = c.lists_fail-large.ensures ∙ ap (λ n. lists_fail c.args.limits c.args.longest c.args.inputs.now (slice_get c.args.entries.now n)) place in
    let fails : task_fails c.args.limits c.args.longest c.args.inputs.now c.args.entries.now before t ≡ true =
    sym (task_fails_by c.args.limits c.args.longest c.args.inputs.now c.args.entries.now before t _ _ _ _ place turns cells large) ∙ sym c.task_fails.ensures ∙ c.if-task_fails.true in
    let here = sym inv.4 ∙ fails_now (task_fails c.args.limits c.args.longest c.args.inputs.now c.args.entries.now) before tasks i t within c.index-tasks-place.is fails in
    fault_from RULE c.args.first i (behind (task_fails c.args.limits c.args.longest c.args.inputs.now c.args.entries.now) [] tasks) c.fault_at.result c.fault_at.ensures here

pub returns : goal.returns
returns c =
    let tasks = c.args.tasks.now in
    let i = c.loop-place.place in
    let past : length tasks ≤ i = omega arith in
    let none = sym c.loop-place.invariant.4 ∙ none_now (task_fails c.args.limits c.args.longest c.args.inputs.now c.args.entries.now) (take i tasks) tasks i past in
    (first_from_none c.args.first (behind (task_fails c.args.limits c.args.longest c.args.inputs.now c.args.entries.now) [] tasks) none, tt)
