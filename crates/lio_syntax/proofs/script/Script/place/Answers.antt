use Rattle.std.proofs.Common.{List, ap, sym, subst, ◌∙◌, length, ◌≡◌, ◌≤◌}
use Rattle.std.specs.Prelude.{MatchOption}
use Rattle.lio_syntax_lines.specs.declared.line.Line.{Line}
use Rattle.lio_syntax.specs.declared.script.Kept.{Kept}
use Rattle.lio_syntax.specs.Lines.{script_lines}
use Rattle.lio_syntax.specs.Places.{place_at}
use Rattle.lio_syntax.proofs.FaultLemmas.{keeps-lines}
use Rattle.lio_syntax.proofs.PlaceTable.{place_in_table}
use Rattle.lio_syntax.proofs.script.Script.place.Goals as goal

pub returns : goal.returns
returns c =
    let all = c.self.inside.kept.value.lines.items in
    let lines = ap script_lines (sym c.self.view_is) ∙ keeps-lines all c.self.invariant.0 in
    let table = c.deref-2.ensures.value ∙ ap (λ (kept : Kept). kept.places.items) c.deref.ensures ∙ c.self.invariant.4 in
    subst (λ (ls : List Line). MatchOption c.get.result (length ls ≤ c.args.at) (λ place. place.now ≡ place_at ls c.args.at)) (sym lines)
    (place_in_table all c.deref-2.result.now c.args.at c.get.result table c.get.ensures.lookup.0 c.get.ensures.lookup.1)
