use Rattle.std.proofs.Common.{◌≡◌, ◌≢◌, ◌∙◌, sym, ap, arith, codes, ◌++◌, map, take, length, get_or, List, ℕ, false-eqb}
use Rattle.std.proofs.lemmas.List.{take_all}
use Rattle.lio_clauses.specs.FormulaPrint.{joined}
use Rattle.lio_clauses.proofs.PrintLemmas.{mask_text, formula_text-False, formula_text-clauses, known-at, Printed-clause}
use Rattle.lio_clauses.proofs.text.print.append_formula.Goals as goal
use Rattle.lio_clauses.proofs.text.print.append_formula.Goals.{else-clauses-eq1-via-then-clauses-eq1+else-clauses-eq0, else-clauses-eq1-via-else-clauses-eq1}

pub returns-then-clauses-eq0-clause-ok : goal.returns-then-clauses-eq0-clause-ok
returns-then-clauses-eq0-clause-ok c =
    rw (formula_text-False c.args.names.now c.clauses-clauses.result.now c.args.formula.now c.clauses-clauses.ensures.masks c.if-clauses-eq1.true c.if-clauses-eq0.true)
    c.append-then-clauses-eq0.ensures.ok

pub append_clause-requires : goal.append_clause-requires
append_clause-requires c =
    known-at c.args.names.now c.clauses-clauses.result.now c.args.formula.now c.loop-place.place c.clauses-clauses.ensures.masks c.loop-place-test.true c.requires

pub loop-place-preserved : goal.loop-place-preserved
loop-place-preserved c =
    Printed-clause c.args.names.now (codes " /\\ ") c.args.text.now.items c.loop-place.text.items c.append_sign.new.text.items c.append_clause.new.text.items c.clauses-clauses.result.now
    c.loop-place.place c.loop-place-test.true c.loop-place.invariant c.in_ok-append_sign.ensures.ok c.in_ok-append_clause.ensures.ok

pub returns-clause-ok : goal.returns-clause-ok
returns-clause-ok c =
    let masks : List ℕ = c.clauses-clauses.result.now in
    let some : length masks ≢ 0 = false-eqb (length masks) 0 c.if-is_empty.ensures in
    let not_false : length masks ≡ 1 → get_or masks 0 0 ≢ 0 =
    elim c.else-clauses-eq1.branch [
      | else-clauses-eq1-via-then-clauses-eq1+else-clauses-eq0 w ↦ λ _. w.if-clauses-eq0.false
      | else-clauses-eq1-via-else-clauses-eq1 w ↦ λ one. absurd (w.if-clauses-eq1.false one)
    ] in
    let whole : take c.loop-place.place masks ≡ masks = take_all c.loop-place.place masks (omega arith) in
    c.loop-place.invariant.text ∙ ap (λ ms. c.args.text.now.items ++ joined (codes " /\\ ") (map (mask_text c.args.names.now) ms)) whole
    ∙ ap (λ t. c.args.text.now.items ++ t)
    (sym (formula_text-clauses c.args.names.now masks c.args.formula.now c.clauses-clauses.ensures.masks c.clauses-clauses.ensures.fits some not_false))
