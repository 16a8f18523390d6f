use Rattle.std.proofs.Common.{◌≡◌, ◌∙◌, refl, sym, ap, subst, false, List, Option, Some}
use Rattle.std.specs.Option.{option_map}
use Rattle.std.proofs.lemmas.Result.{on_err_weaker, on_ok_weaker}
use Rattle.lio_syntax.specs.Statements.{Procedure}
use Rattle.lio_calculus.specs.Task.{TaskState}
use Rattle.lio_calculus.specs.Hiding.{hide_task}
use Rattle.lio_calculus.specs.Step.{Cell}
use Rattle.lio_task_turns.specs.StateOf.{program_of}
use Rattle.lio_task.specs.declared.task.Task.{Task}
use Rattle.lio_task.specs.Next.{resumed}
use Rattle.lio_task.specs.StateOf.{state_in}
use Rattle.lio_erasure.specs.Acts.{hides}
use Rattle.lio_erasure.proofs.gone.advance.Goals as goal

-- the state of the task that was found
found : (script : List Procedure) {task : Task} {there : Option Task} {state : TaskState} → there ≡ Some task → option_map (state_in script) there ≡ Some state → state_in script task ≡ state
found script at is = let same = sym (ap (option_map (state_in script)) at) ∙ is in cc

pub unreachable-requires : goal.unreachable-requires
unreachable-requires c = let none = sym (ap (option_map (state_in c.args.script.now)) c.in_default.is) ∙ c.requires.is in cc

pub unreachable-unreachable : goal.unreachable-unreachable
unreachable-unreachable c = c.unreachable.result

pub go_on-requires : goal.go_on-requires
go_on-requires c =
    let entry = c.args.entry.now in
    subst (λ (task : TaskState). let went : TaskState = resumed (program_of c.args.script.now c.args.longest) task entry.act entry.reply in hides c.args.observer.now entry.act ≡ false → hide_task c.args.observer.now went ≡ went)
    (sym (found c.args.script.now c.in-Some.is c.requires.is)) c.requires.stays

pub returns-clause-ok : goal.returns-clause-ok
returns-clause-ok c =
    let script = c.args.script.now in
    let entry = c.args.entry.now in
    on_ok_weaker c.go_on.result
    (λ is task at. ap (λ (t : TaskState). let cell : Cell = record { state = c.args.holder.now.node.state; task = Some t } in cell)
    (is ∙ ap (λ (t : TaskState). hide_task c.args.observer.now (resumed (program_of script c.args.longest) t entry.act entry.reply)) (found c.args.script.now c.in-Some.is at))) c.go_on.ensures.ok

pub returns-clause-err : goal.returns-clause-err
returns-clause-err c =
    let script = c.args.script.now in
    let cell : Option TaskState → Cell = λ task. record { state = c.args.holder.now.node.state; task = task } in
    on_err_weaker c.go_on.result (λ same. ap (λ (t : TaskState). cell (Some t)) same ∙ ap (λ (t : Option Task). cell (option_map (state_in script) t)) (sym c.in-Some.is)) c.go_on.ensures.err

pub returns-clause-node : goal.returns-clause-node
returns-clause-node c = refl

pub returns-clause-there : goal.returns-clause-there
returns-clause-there c = refl
