use Rattle.std.proofs.Common.{◌≡◌, ◌∙◌, sym, ap, subst, ℕ, Option}
use Rattle.std.specs.Option.{option_map}
use Rattle.std.proofs.lemmas.Result.{IfOk-weaker}
use Rattle.lio_labels.specs.declared.label.Label.{Label}
use Rattle.lio_calculus.specs.Step.{born}
use Rattle.lio_task.specs.declared.task.Task.{Task}
use Rattle.lio_task.specs.Births.{CanBear}
use Rattle.lio_task.specs.StateOf.{state_in}
use Rattle.lio_task_turns.specs.StateOf.{program_of}
use Rattle.lio_task.specs.Turns.{IsChild}
use Rattle.lio_task.proofs.LentLemmas.{found-same}
use Rattle.lio_task.proofs.config.Holder.born.Goals as goal

pub bear-requires : goal.bear-requires
bear-requires c =
    subst (λ (label : Label). CanBear c.args.script.now label c.args.act.now) (sym (ap (λ (t : Task). t.label) (found-same (sym c.in-Some.is) c.requires.is))) c.requires.bears

pub returns : goal.returns
returns c =
    let script = c.args.script.now in
    IfOk-weaker c.bear.result (λ (child : Option Task). (longest : ℕ) → option_map (state_in script) child ≡ born (program_of script longest) c.in-Some.task.label c.args.act.now)
    (IsChild script c.args.self.now c.args.act.now)
    (λ child bears task is longest.
    bears longest ∙ ap (λ (l : Label). born (program_of script longest) l c.args.act.now) (ap (λ (t : Task). t.label) (found-same (sym c.in-Some.is) is)))
    c.bear.ensures
