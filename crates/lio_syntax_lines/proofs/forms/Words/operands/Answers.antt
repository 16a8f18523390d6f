use Rattle.std.proofs.Common.{◌≡◌, None, rules}
use Rattle.std.proofs.lemmas.List.Elements.{All-push}
use Rattle.lio_syntax_lines.specs.declared.fault.LineFault.TheVariants.{Invalid}
use Rattle.lio_syntax_lines.specs.Forms.{operands}
use Rattle.lio_syntax_lines.specs.Operands.{IsOperand}
use Rattle.lio_syntax_lines.proofs.FormLemmas.{operands-more, operands-invalid, operands-end}
use Rattle.lio_syntax_lines.proofs.forms.Words.operands.Goals as goal

pub returns-in_err-read_operand-clause-invalid : goal.returns-in_err-read_operand-clause-invalid
returns-in_err-read_operand-clause-invalid c =
    let none : c.in_err-read_operand.field-0.0 ≡ Invalid → operands c.args.names.now c.args.self.now ≡ None =
    λ e. operands-invalid c.args.names.now c.words.operands _ _ _ _ c.words.invariant.so_far c.in-Some.ensures (c.in_err-read_operand.ensures.invalid e) in
    search rules

pub words-preserved : goal.words-preserved
words-preserved c = record {
  so_far = rw c.in_ok-push.ensures.ok (operands-more c.args.names.now c.words.operands _ _ _ _ _ c.words.invariant.so_far c.in-Some.ensures c.in_ok-read_operand.ensures.ok);
  sound = rw c.in_ok-push.ensures.ok (All-push (IsOperand c.args.names.now) c.words.operands _ c.words.invariant.sound c.in_ok-read_operand.ensures.sound);
}

pub returns-clause-ok : goal.returns-clause-ok
returns-clause-ok c = operands-end c.args.names.now c.words.operands _ _ c.words.invariant.so_far c.in_default.ensures
