use Rattle.std.proofs.Common.{◌+◌, ◌<◌, List, length, ap, sym, ◌∙◌, arith}
use Rattle.std.proofs.lemmas.Grind.{get_or_default_zero}
use Rattle.lio_syntax_lines.specs.declared.line.Line.{Line}
use Rattle.lio_syntax.specs.Closing.{end_of}
use Rattle.lio_syntax.specs.declared.script.Kept.{Kept}
use Rattle.lio_syntax.specs.Lines.{script_lines}
use Rattle.lio_syntax.proofs.ClosingLemmas.{end_in_table, length-ends_behind}
use Rattle.lio_syntax.proofs.FaultLemmas.{keeps-lines}
use Rattle.lio_syntax.proofs.script.Script.end_behind.Goals as goal

pub index-requires : goal.index-requires
index-requires c =
    let lines = ap script_lines (sym c.self.view_is) ∙ keeps-lines c.self.inside.kept.value.lines.items c.self.invariant.0 in
    let table = ap (λ (kept : Kept). kept.ends.items) c.deref.ensures ∙ c.self.invariant.1 in
    omega (arith, ap length lines, ap length table, length-ends_behind 0 c.self.inside.kept.value.lines.items)

pub returns : goal.returns
returns c =
    let lines = ap script_lines (sym c.self.view_is) ∙ keeps-lines c.self.inside.kept.value.lines.items c.self.invariant.0 in
    let within : c.args.at < length c.self.inside.kept.value.lines.items = omega (arith, ap length lines) in
    let table = ap (λ (kept : Kept). kept.ends.items) c.deref.ensures ∙ c.self.invariant.1 in
    let inside : c.args.at < length c.deref.result.now.ends.items = omega (arith, ap length table, length-ends_behind 0 c.self.inside.kept.value.lines.items) in
    c.index.ensures ∙ get_or_default_zero c.deref.result.now.ends.items c.args.at _ inside
    ∙ end_in_table c.self.inside.kept.value.lines.items c.deref.result.now.ends.items c.args.at table within
    ∙ ap (λ (ls : List Line). end_of ls (c.args.at + 1)) (sym lines)
