use Rattle.std.proofs.Common.{◌∙◌, sym, ap, List}
use Rattle.lio_syntax.specs.Lines.{script_lines}
use Rattle.lio_syntax.specs.Items.{Item}
use Rattle.lio_calculus.specs.Plan.{plan_items}
use Rattle.lio_task.specs.StateOf.{state_in}
use Rattle.lio_task_turns.specs.StateOf.{program_of}
use Rattle.lio_task.proofs.PreviewLemmas.{is-zero, not-zero}
use Rattle.lio_erasure.specs.Low.{low_configuration_of}
use Rattle.lio_erasure.specs.Moves.{moves_at}
use Rattle.lio_erasure.proofs.MoveLemmas.{ended-stays, front-other, going-moves, spent-moves, unless-access}
use Rattle.lio_erasure.proofs.cells.LowConfig.can_go_on.Goals as goal

pub returns-then-has_ended : goal.returns-then-has_ended
returns-then-has_ended c = λ longest.
    let script = c.args.script.now in
    sym (ended-stays (low_configuration_of script longest c.args.self.now) (program_of script longest) (state_in script c.args.task.now) (sym (c.has_ended.ensures (script_lines script)) ∙ c.if-has_ended.true))

pub returns-then-turns_left-eq0 : goal.returns-then-turns_left-eq0
returns-then-turns_left-eq0 c = λ longest.
    let script = c.args.script.now in
    sym (spent-moves (low_configuration_of script longest c.args.self.now) (program_of script longest) (state_in script c.args.task.now) (sym (c.has_ended.ensures (script_lines script)) ∙ c.if-has_ended.false)
    (is-zero _ (sym (c.turns_left.ensures (script_lines script)) ∙ c.if-turns_left-eq0.true)))

pub returns-in-Access : goal.returns-in-Access
returns-in-Access c = λ longest.
    let script = c.args.script.now in
    let here = low_configuration_of script longest c.args.self.now in
    let program = program_of script longest in
    let state = state_in script c.args.task.now in
    c.allows.ensures script longest state (sym (c.environment.ensures (script_lines script)))
    ∙ ap (λ (items : List Item). moves_at here (plan_items program state items)) (sym c.in-Access.ensures)
    ∙ sym (going-moves here program state (sym (c.has_ended.ensures (script_lines script)) ∙ c.if-has_ended.false) (not-zero _ (λ e. c.if-turns_left-eq0.false (c.turns_left.ensures (script_lines script) ∙ e))))

pub returns-in_default : goal.returns-in_default
returns-in_default c = λ longest.
    let script = c.args.script.now in
    let here = low_configuration_of script longest c.args.self.now in
    let program = program_of script longest in
    let state = state_in script c.args.task.now in
    sym (going-moves here program state (sym (c.has_ended.ensures (script_lines script)) ∙ c.if-has_ended.false) (not-zero _ (λ e. c.if-turns_left-eq0.false (c.turns_left.ensures (script_lines script) ∙ e)))
    ∙ unless-access here program state state.items (front-other c.front.result state.items c.front.ensures c.in_default.not-Access))
