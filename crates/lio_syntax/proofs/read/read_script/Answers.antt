use Rattle.std.proofs.Common.{All, sym, subst, arith, rules}
use Rattle.lio_syntax_lines.specs.Line.{IsLine}
use Rattle.lio_syntax_lines.proofs.SaidLemmas.{lines_said}
use Rattle.lio_syntax.specs.Refusal.{Refuses}
use Rattle.lio_syntax.specs.Verdict.{parsed_lines, script_fault}
use Rattle.lio_syntax.proofs.ReadLemmas.{Reached, reached-step, reached-fault, reached-unclosed, reached-keeps, reached-script, parsed-split, parsed-none, too_long, over-script}
use Rattle.lio_syntax.proofs.read.read_script.Goals as goal

pub returns-then-bytes-gt-MOST_BYTES-clause-fault : goal.returns-then-bytes-gt-MOST_BYTES-clause-fault
returns-then-bytes-gt-MOST_BYTES-clause-fault c = too_long c.args.names.now c.args.bytes.now c.if-bytes-gt-MOST_BYTES.true

pub returns-in_err-take-clause-fault : goal.returns-in_err-take-clause-fault
returns-in_err-take-clause-fault c =
    let names = c.args.names.now in
    let all = parsed_lines names c.args.bytes.now in
    let reached = subst (Reached all c.lines.progress) (parsed-split names c.lines.rest.now c.in-Some.line.now c.in-Some.behind.now c.in_ok-parsed.parsed c.in-Some.ensures.0 c.in_ok-parsed.ensures.ok) c.lines.invariant.reached in
    let refused : Refuses (script_fault c.args.names.now c.args.bytes.now) c.in_err-take.field-0.0 =
    reached-fault names c.args.bytes.now c.lines.progress c.in_ok-parsed.parsed (parsed_lines names c.in-Some.behind.now) _ (omega arith) reached
    (c.in_err-take.ensures.fault all reached.before (c.in_ok-headers.ensures names) reached.stands) in
    search rules

pub lines-preserved : goal.lines-preserved
lines-preserved c =
    let names = c.args.names.now in
    let all = parsed_lines names c.args.bytes.now in
    let reached = subst (Reached all c.lines.progress) (parsed-split names c.lines.rest.now c.in-Some.line.now c.in-Some.behind.now c.in_ok-parsed.parsed c.in-Some.ensures.0 c.in_ok-parsed.ensures.ok) c.lines.invariant.reached in
    record {
      reached = reached-step all c.lines.progress _ c.in_ok-parsed.parsed (parsed_lines names c.in-Some.behind.now) reached
          (c.in_ok-take.ensures.step all reached.before (c.in_ok-headers.ensures names) reached.stands);
      sound = c.in_ok-take.ensures.sound names c.lines.invariant.sound c.in_ok-parsed.ensures.sound;
    }

pub returns-in_err-end-clause-fault : goal.returns-in_err-end-clause-fault
returns-in_err-end-clause-fault c =
    let names = c.args.names.now in
    let all = parsed_lines names c.args.bytes.now in
    let reached = subst (Reached all c.lines.progress) (parsed-none names c.lines.rest.now c.in_default.ensures) c.lines.invariant.reached in
    let refused : Refuses (script_fault c.args.names.now c.args.bytes.now) c.in_err-end.field-0.0 =
    reached-unclosed names c.args.bytes.now c.lines.progress _ (omega arith) reached (c.in_err-end.ensures.fault reached.before reached.stands) in
    search rules

pub of-requires : goal.of-requires
of-requires c =
    let names = c.args.names.now in
    let all = parsed_lines names c.args.bytes.now in
    let reached = subst (Reached all c.lines.progress) (parsed-none names c.lines.rest.now c.in_default.ensures) c.lines.invariant.reached in
    record {
      rules = reached-keeps all c.lines.progress _ reached c.in_ok-end.ensures.ok.0 (c.in_ok-end.ensures.ok.1 reached.before reached.stands);
      literals = lines_said names _ (subst (All (IsLine names)) (sym c.in_ok-end.ensures.ok.0) c.lines.invariant.sound);
    }

pub returns-clause-script : goal.returns-clause-script
returns-clause-script c =
    let names = c.args.names.now in
    let all = parsed_lines names c.args.bytes.now in
    let reached = subst (Reached all c.lines.progress) (parsed-none names c.lines.rest.now c.in_default.ensures) c.lines.invariant.reached in
    reached-script names c.args.bytes.now c.lines.progress _ _ (omega arith) reached c.in_ok-end.ensures.ok.0 (c.in_ok-end.ensures.ok.1 reached.before reached.stands) c.in_ok-of.ensures

pub returns-clause-over : goal.returns-clause-over
returns-clause-over c =
    let names = c.args.names.now in
    let all = parsed_lines names c.args.bytes.now in
    let reached = subst (Reached all c.lines.progress) (parsed-none names c.lines.rest.now c.in_default.ensures) c.lines.invariant.reached in
    over-script names _ _ (reached-keeps all c.lines.progress _ reached c.in_ok-end.ensures.ok.0 (c.in_ok-end.ensures.ok.1 reached.before reached.stands)) c.in_ok-of.ensures
    (subst (All (IsLine names)) (sym c.in_ok-end.ensures.ok.0) c.lines.invariant.sound)
