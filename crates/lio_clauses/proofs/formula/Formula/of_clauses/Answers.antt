use Rattle.std.proofs.Common.{◌≡◌, ℕ, List, [], ◌∷◌, map, refl, ap, ◌∙◌}
use Rattle.lio_clauses.specs.Principals.{principals}
use Rattle.lio_clauses.specs.Satisfaction.{sat}
use Rattle.lio_clauses.specs.Canonical.{canonical}
use Rattle.lio_clauses.specs.Bits.{unions}
use Rattle.lio_clauses.proofs.Forms.{sat-canonical}
use Rattle.lio_clauses.proofs.Answered.{IfOk-same, IfOk-sets, IsWideExactly-same}
use Rattle.lio_clauses.proofs.MaskLemmas.{or_nothing}
use Rattle.lio_clauses.proofs.formula.Formula.of_clauses.Goals as goal

-- the unions with the empty clause are the clauses themselves
with_empty : (cs : List ℕ) → unions cs (0 ∷ []) ≡ cs
with_empty [] = refl
with_empty (c ∷ cs) = ap (λ v. v ∷ unions cs (0 ∷ [])) (or_nothing c) ∙ ap (λ v. c ∷ v) (with_empty cs)

pub returns-clause-ok : goal.returns-clause-ok
returns-clause-ok c = IfOk-same c.of_unions.result _ _ (ap (λ v. canonical (map principals v)) (with_empty c.args.clauses.now)) c.of_unions.ensures.ok

pub returns-clause-sets : goal.returns-clause-sets
returns-clause-sets c =
    let A : List (List ℕ) = map principals c.args.clauses.now in
    IfOk-sets c.of_unions.result (canonical A) (λ who. sat who A) (λ who. sat-canonical who A) (returns-clause-ok c)

pub returns-clause-wide : goal.returns-clause-wide
returns-clause-wide c = IsWideExactly-same c.of_unions.result _ _ (ap (λ v. canonical (map principals v)) (with_empty c.args.clauses.now)) c.of_unions.ensures.wide
