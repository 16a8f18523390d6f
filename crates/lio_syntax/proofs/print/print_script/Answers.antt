use Rattle.std.proofs.Common.{◌≤◌, ◌++◌, ℕ, List, length, sym, ap, subst, ◌∙◌}
use Rattle.lio_syntax.specs.ScriptText.{lines_text}
use Rattle.lio_syntax.specs.Verdict.{IsScript}
use Rattle.lio_syntax.proofs.PrintedScripts.{script_is_read}
use Rattle.lio_syntax.proofs.print.print_script.Goals as goal

pub returns-clause-read : goal.returns-clause-read
returns-clause-read c = λ few.
    let names = c.args.names.now in
    let script = c.args.script.now in
    let is = c.in_ok-print_lines.ensures ∙ ap (λ (t : List ℕ). t ++ lines_text names c.lines.result.now) c.new-text.ensures.items ∙ ap (lines_text names) (sym c.lines.ensures.lines) in
    subst (λ (t : List ℕ). IsScript names t script) (sym is)
    (script_is_read names script c.lines.result.now c.len.ensures.names c.requires c.lines.ensures.lines c.lines.ensures.rules (subst (λ (t : List ℕ). length t ≤ 262144) is few))
