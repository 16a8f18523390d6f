use Rattle.std.proofs.Common.{◌≡◌, List, ℕ, OnOk, subst, arith}
use Rattle.std.proofs.Math.Facts.{Fits-lt-pow}
use Rattle.lio_clauses.proofs.PrintLemmas.{lone, lone-known, clause_text-lone, appended-several}
use Rattle.lio_clauses.proofs.text.print.append_clause.Goals as goal
use Rattle.lio_clauses.proofs.text.print.append_clause.Goals.{else-first-lt64-via-then-first-lt64+else-clause-first, else-first-lt64-via-else-first-lt64}

pub name-requires : goal.name-requires
name-requires c =
    lone-known c.args.names.now c.args.clause _ (lone c.args.clause _ c.if-first-lt64.true c.if-clause-first.true) c.requires

pub returns-then-clause-first-clause-ok : goal.returns-then-clause-first-clause-ok
returns-then-clause-first-clause-ok c =
    rw (clause_text-lone c.args.names.now c.args.clause _ c.name.result.now (lone c.args.clause _ c.if-first-lt64.true c.if-clause-first.true) c.name.ensures) c.append.ensures.ok

pub returns-clause-ok : goal.returns-clause-ok
returns-clause-ok c =
    let P : List ℕ → Type 0 = λ bytes. OnOk c.append-3.result (c.append-3.new.text.items ≡ bytes) in
    subst P
    (appended-several c.args.names.now c.args.clause c.args.text.now.items c.append-2.new.text.items c.append_names.new.text.items
    (Fits-lt-pow c.ranges.clause)
    (elim c.else-first-lt64.branch [
      | else-first-lt64-via-then-first-lt64+else-clause-first w ↦ λ _. w.if-clause-first.false
      | else-first-lt64-via-else-first-lt64 w ↦ λ below. absurd (omega (arith, below, w.if-first-lt64.false))
    ])
    c.in_ok-append.ensures.ok c.in_ok-append_names.ensures.ok)
    c.append-3.ensures.ok
