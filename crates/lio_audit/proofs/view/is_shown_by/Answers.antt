use Rattle.std.proofs.Common.{◌≡◌, ◌∙◌, ◌==◌, arith, sym, true, true≢false, length}
use Rattle.std.proofs.lemmas.Bool.Decides.{nat_tests}
use Rattle.std.proofs.lemmas.List.{nil_from_length}
use Rattle.lio_values.proofs.EqualityLemmas.{entry_equality}
use Rattle.lio_audit.proofs.view.is_shown_by.Goals as goal

pub returns-then-eq-clause-yes : goal.returns-then-eq-clause-yes
returns-then-eq-clause-yes c = λ e.
    let test : (length c.args.left.now == 0) ≡ true = sym c.is_empty.ensures ∙ e in
    let zero : length c.args.left.now ≡ 0 = grind (arith, nat_tests, test) in
    ((entry_equality c.args.taken.now c.args.entry.now).0 (sym c.eq.ensures ∙ c.if-eq.true), nil_from_length c.args.left.now zero)

pub returns-else-eq-clause-no : goal.returns-else-eq-clause-no
returns-else-eq-clause-no c = λ _ same none. absurd (true≢false (sym ((entry_equality c.args.taken.now c.args.entry.now).1 same) ∙ sym c.eq.ensures ∙ c.if-eq.false))
