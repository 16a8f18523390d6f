use Rattle.std.proofs.Common.{◌≡◌, ◌∙◌, sym, ap, ℕ, ◌==◌, Bool, false, true, inl, inr, []}
use Rattle.std.specs.Prelude.{◌||◌}
use Rattle.lio_cells.specs.State.{grants}
use Rattle.lio_calculus.specs.Step.{cell_at}
use Rattle.lio_task.specs.Configuration.{configuration_of}
use Rattle.lio_task.specs.StateOf.{state_in}
use Rattle.lio_task.proofs.HolderLemmas.{task-cell}
use Rattle.lio_task.proofs.PreviewLemmas.{can-by, is-zero, moves_by, not-zero}
use Rattle.lio_task.proofs.config.Config.can_go_on.Goals as goal

pub returns-in-Ended : goal.returns-in-Ended
returns-in-Ended c = λ script k sound is stands.
    let here = configuration_of script c.args.self.now in let state = state_in script c.args.task.now in
    sym (can-by here k state sound (task-cell script c.args.self.now k c.args.task.now is) ∙ ap (moves_by here (state.turns == 0)) (sym stands ∙ c.in-Ended.is))

pub returns-in-Running : goal.returns-in-Running
returns-in-Running c = λ script k sound is stands.
    let here = configuration_of script c.args.self.now in let state = state_in script c.args.task.now in
    let can_is = can-by here k state sound (task-cell script c.args.self.now k c.args.task.now is) in
    elim c.in-Running.is [
      | inl e ↦ sym (can_is ∙ ap (moves_by here (state.turns == 0)) (sym stands ∙ e))
      | inr e ↦ sym (can_is ∙ ap (moves_by here (state.turns == 0)) (sym stands ∙ e.1))
    ]

pub returns-then-turns_left-eq0 : goal.returns-then-turns_left-eq0
returns-then-turns_left-eq0 c = λ script k sound is stands.
    let here = configuration_of script c.args.self.now in let state = state_in script c.args.task.now in
    let spent : (state.turns == 0) ≡ true = ap (λ (n : ℕ). n == 0) (sym (c.turns_left.ensures [])) ∙ is-zero c.turns_left.result c.if-turns_left-eq0.true in
    is-zero c.turns_left.result c.if-turns_left-eq0.true
    ∙ sym (can-by here k state sound (task-cell script c.args.self.now k c.args.task.now is) ∙ ap (moves_by here (state.turns == 0)) (sym stands ∙ c.in-Access.is)
    ∙ ap (λ (b : Bool). b || grants (cell_at here c.in-Access.n).state c.in-Access.wish) spent)

pub returns-else-turns_left-eq0 : goal.returns-else-turns_left-eq0
returns-else-turns_left-eq0 c = λ script k sound is stands.
    let here = configuration_of script c.args.self.now in let state = state_in script c.args.task.now in
    let spent : (state.turns == 0) ≡ false = ap (λ (n : ℕ). n == 0) (sym (c.turns_left.ensures [])) ∙ not-zero c.turns_left.result c.if-turns_left-eq0.false in
    c.grants.ensures script
    ∙ sym (can-by here k state sound (task-cell script c.args.self.now k c.args.task.now is) ∙ ap (moves_by here (state.turns == 0)) (sym stands ∙ c.in-Access.is)
    ∙ ap (λ (b : Bool). b || grants (cell_at here c.in-Access.n).state c.in-Access.wish) spent)
