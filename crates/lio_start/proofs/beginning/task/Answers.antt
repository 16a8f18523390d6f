use Rattle.std.proofs.Common.{◌≡◌, ◌∙◌, ℕ}
use Rattle.std.proofs.lemmas.Result.{IfOk-weaker}
use Rattle.lio_calculus.specs.Step.{child_of}
use Rattle.lio_task_turns.specs.StateOf.{program_of}
use Rattle.lio_task.specs.declared.task.Task.{Task}
use Rattle.lio_task.specs.StateOf.{state_in}
use Rattle.lio_start.specs.Start.{task_of}
use Rattle.lio_start.proofs.beginning.task.Goals as goal

pub returns : goal.returns
returns c =
    IfOk-weaker c.of_birth-task.result
    (λ (task : Task). (longest : ℕ) → state_in c.args.script.now task ≡ child_of (program_of c.args.script.now longest) c.args.entry.now.label c.in_ok-birth.birth)
    (λ (task : Task). state_in c.args.script.now task ≡ task_of c.args.script.now c.args.inputs.now c.args.first c.args.entry.now)
    (λ task is. is 0 ∙ c.in_ok-birth.ensures.child 0) c.of_birth-task.ensures
