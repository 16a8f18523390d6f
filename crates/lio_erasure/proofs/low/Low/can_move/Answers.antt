use Rattle.std.proofs.Common.{◌≡◌, ◌∙◌, sym, ap, Bool, Some, None}
use Rattle.std.specs.Option.{option_copied}
use Rattle.lio_calculus.specs.Plan.{plan}
use Rattle.lio_calculus.proofs.EnabledLemmas.{can-absent, can-task}
use Rattle.lio_task.specs.StateOf.{state_in}
use Rattle.lio_task.specs.declared.task.Task.{Task}
use Rattle.lio_task_turns.specs.StateOf.{program_of}
use Rattle.lio_erasure.specs.Low.{low_configuration_of, low_task_in}
use Rattle.lio_erasure.specs.LowParts.{LowParts}
use Rattle.lio_erasure.specs.Moves.{moves_at}
use Rattle.lio_erasure.proofs.HolderLemmas.{task-low}
use Rattle.lio_erasure.proofs.low.Low.can_move.Goals as goal

pub returns-in-None : goal.returns-in-None
returns-in-None c =
    let parts : LowParts = c.args.self.now in
    let found : low_task_in parts.holders c.args.k ≡ None = sym (ap (λ (p : LowParts). low_task_in p.holders c.args.k) c.self.view_is) ∙ sym c.task.ensures ∙ ap option_copied c.in-None.is in
    sym (can-absent (low_configuration_of parts.script parts.longest parts.holders) c.args.k (task-low parts.script parts.longest parts.holders c.args.k None found))

pub returns-in-Some : goal.returns-in-Some
returns-in-Some c =
    let parts : LowParts = c.args.self.now in
    let task : Task = c.in-Some.task.now in
    let found : low_task_in parts.holders c.args.k ≡ Some task = sym (ap (λ (p : LowParts). low_task_in p.holders c.args.k) c.self.view_is) ∙ sym c.task.ensures ∙ ap option_copied c.in-Some.is in
    let moves : LowParts → Bool = λ p. moves_at (low_configuration_of p.script p.longest p.holders) (plan (program_of p.script p.longest) (state_in p.script task)) in
    c.can_go_on.ensures c.self.inside.longest ∙ ap moves c.self.view_is
    ∙ sym (can-task (low_configuration_of parts.script parts.longest parts.holders) c.args.k (state_in parts.script task) (task-low parts.script parts.longest parts.holders c.args.k (Some task) found))
