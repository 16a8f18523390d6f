use Rattle.std.proofs.Common.{◌≡◌, ◌∙◌, sym, ap, Bool, not, false, true, is_some}
use Rattle.std.specs.Prelude.{◌||◌}
use Rattle.lio_cells.specs.declared.wish.Wish.TheVariants as wish
use Rattle.lio_syntax_lines.specs.declared.line.Simple.{Simple}
use Rattle.lio_syntax.specs.Environment.{Environment}
use Rattle.lio_calculus.specs.Operands.{bound, seen_as, reference_of, variable_of, result_of}
use Rattle.lio_calculus.specs.Plan.{plan_access}
use Rattle.lio_erasure.specs.Low.{low_configuration_of}
use Rattle.lio_erasure.specs.Moves.{gives, moves_at, shows_reference}
use Rattle.lio_erasure.proofs.MoveLemmas.{fault-allowed, put-allowed, read-allowed, take-allowed, wait-allowed}
use Rattle.lio_erasure.proofs.cells.LowConfig.allows.Goals as goal

pub returns-in-Read : goal.returns-in-Read
returns-in-Read c = λ script longest task same.
    let here = low_configuration_of script longest c.args.self.now in
    let operand = c.in-Read.operand in
    c.shows_reference.ensures script longest ∙ ap (shows_reference here) (c.reference.ensures ∙ ap (λ (e : Environment). seen_as reference_of e operand) (sym same))
    ∙ sym (read-allowed here task c.in-Read.field-0 operand) ∙ ap (λ (s : Simple). moves_at here (plan_access task s)) (sym c.in-Read.is)

pub returns-in-Take : goal.returns-in-Take
returns-in-Take c = λ script longest task same.
    let here = low_configuration_of script longest c.args.self.now in
    let operand = c.in-Take.operand in
    c.gives.ensures script longest ∙ ap (gives here wish.Take) (c.variable.ensures ∙ ap (λ (e : Environment). seen_as variable_of e operand) (sym same))
    ∙ sym (take-allowed here task c.in-Take.field-0 operand) ∙ ap (λ (s : Simple). moves_at here (plan_access task s)) (sym c.in-Take.is)

pub returns-in-Wait : goal.returns-in-Wait
returns-in-Wait c = λ script longest task same.
    let here = low_configuration_of script longest c.args.self.now in
    let operand = c.in-Wait.operand in
    c.gives-in-Wait.ensures script longest ∙ ap (gives here wish.Wait) (c.task_result.ensures ∙ ap (λ (e : Environment). seen_as result_of e operand) (sym same))
    ∙ sym (wait-allowed here task c.in-Wait.field-0 operand) ∙ ap (λ (s : Simple). moves_at here (plan_access task s)) (sym c.in-Wait.is)

pub returns-then-not-is_bound : goal.returns-then-not-is_bound
returns-then-not-is_bound c = λ script longest task same.
    let here = low_configuration_of script longest c.args.self.now in
    let variable = c.in-Put.variable in
    let operand = c.in-Put.operand in
    let none : not (is_some (bound task.environment operand)) ≡ true =
    ap (λ (e : Environment). not (is_some (bound e operand))) same ∙ ap not (sym c.is_bound.ensures) ∙ ap not c.if-not-is_bound.true in
    ap not c.if-not-is_bound.true ∙ sym (ap (λ (b : Bool). b || gives here wish.Put (seen_as variable_of task.environment variable)) none) ∙ sym (put-allowed here task variable operand)
    ∙ ap (λ (s : Simple). moves_at here (plan_access task s)) (sym c.in-Put.is)

pub returns-else-not-is_bound : goal.returns-else-not-is_bound
returns-else-not-is_bound c = λ script longest task same.
    let here = low_configuration_of script longest c.args.self.now in
    let variable = c.in-Put.variable in
    let operand = c.in-Put.operand in
    let some : not (is_some (bound task.environment operand)) ≡ false =
    ap (λ (e : Environment). not (is_some (bound e operand))) same ∙ ap not (sym c.is_bound.ensures) ∙ ap not c.if-not-is_bound.false in
    c.gives-else-not-is_bound.ensures script longest ∙ ap (gives here wish.Put) (c.variable-else-not-is_bound.ensures ∙ ap (λ (e : Environment). seen_as variable_of e variable) (sym same))
    ∙ sym (ap (λ (b : Bool). b || gives here wish.Put (seen_as variable_of task.environment variable)) some) ∙ sym (put-allowed here task variable operand)
    ∙ ap (λ (s : Simple). moves_at here (plan_access task s)) (sym c.in-Put.is)

pub returns-in_default : goal.returns-in_default
returns-in_default c = λ script longest task same.
    sym (fault-allowed (low_configuration_of script longest c.args.self.now) task c.args.access.now c.in_default.not-Read c.in_default.not-Take c.in_default.not-Put c.in_default.not-Wait)
