use Rattle.std.proofs.Common.{◌∙◌, ap, sym}
use Rattle.std.specs.Option.{is_some}
use Rattle.lio_syntax_lines.specs.declared.line.Operand.{Operand}
use Rattle.lio_calculus.specs.Operands.{bound}
use Rattle.lio_task_turns.proofs.OperandLemmas.{copied-some}
use Rattle.lio_task_turns.proofs.operands.is_bound.Goals as goal

pub returns-in-Name : goal.returns-in-Name
returns-in-Name c =
    let same = copied-some c.get.result ∙ ap is_some c.get.ensures ∙ ap (λ (o : Operand). is_some (bound c.args.environment.now o)) (sym c.in-Name.is) in
    rw (← same) (assumption)
