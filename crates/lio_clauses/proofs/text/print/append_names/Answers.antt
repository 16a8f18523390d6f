use Rattle.std.proofs.Common.{◌≡◌, ◌∙◌, sym, ap, subst, arith, codes, ◌++◌, true}
use Rattle.lio_clauses.specs.FormulaPrint.{joined}
use Rattle.lio_clauses.proofs.PrintLemmas.{Extends-after, Printed, Printed-start, Printed-out, Printed-in, names_below, names_below-start, names_below-all, known-in}
use Rattle.lio_clauses.proofs.text.print.append_names.Goals as goal
use Rattle.lio_clauses.proofs.text.print.append_names.Goals.{then-clause-n-eq1+in_ok-append_sign+in_ok-append, else-clause-n-eq1}

pub loop-n-init : goal.loop-n-init
loop-n-init c = subst (λ ts. Printed (codes " \\/ ") ts true c.args.text.now.items c.args.text.now.items) (sym (names_below-start c.args.names.now c.args.clause)) (Printed-start (codes " \\/ ") c.args.text.now.items)

pub name-requires : goal.name-requires
name-requires c = known-in c.args.names.now c.args.clause c.loop-n.n c.loop-n-test.true c.if-clause-n-eq1.true c.requires

pub returns-in_err-append-clause-kept : goal.returns-in_err-append-clause-kept
returns-in_err-append-clause-kept c =
    let signed = Extends-after c.args.text.now.items c.loop-n.text.items c.append_sign.new.text.items _ c.loop-n.invariant.text c.append_sign.ensures.kept in
    Extends-after c.args.text.now.items c.append_sign.new.text.items c.append.new.text.items signed.more signed.appended c.append.ensures.kept

pub loop-n-preserved : goal.loop-n-preserved
loop-n-preserved c =
    elim c.if-clause-n-eq1.branch [
      | then-clause-n-eq1+in_ok-append_sign+in_ok-append w ↦
          Printed-in c.args.names.now c.args.clause (codes " \\/ ") w.name.result.now c.args.text.now.items c.loop-n.text.items w.append_sign.new.text.items w.append.new.text.items
          c.if-clause-n-eq1.text.items c.loop-n.n c.loop-n.first c.if-clause-n-eq1.first w.if-clause-n-eq1.true c.loop-n.invariant w.in_ok-append_sign.ensures.ok w.in_ok-append.ensures.ok
          w.name.ensures w.first-is (ap (λ v. v.items) w.text-is)
      | else-clause-n-eq1 w ↦
          Printed-out c.args.names.now c.args.clause (codes " \\/ ") c.args.text.now.items c.loop-n.text.items c.if-clause-n-eq1.text.items c.loop-n.n c.loop-n.first c.if-clause-n-eq1.first
          w.if-clause-n-eq1.false c.loop-n.invariant w.first-is (ap (λ v. v.items) w.text-is)
    ]

pub returns-clause-ok : goal.returns-clause-ok
returns-clause-ok c =
    let end : c.loop-n.n ≡ 64 = omega arith in
    c.loop-n.invariant.text ∙ ap (λ n. c.args.text.now.items ++ joined (codes " \\/ ") (names_below c.args.names.now c.args.clause n)) end
    ∙ ap (λ ts. c.args.text.now.items ++ joined (codes " \\/ ") ts) (names_below-all c.args.names.now c.args.clause)
