use Rattle.std.proofs.Common.{◌≡◌, ℕ, List, ◌++◌, ◌&&◌, map, sym, ◌∙◌, ap, IsTrue}
use Rattle.std.proofs.lemmas.List.{map-append}
use Rattle.lio_clauses.specs.Principals.{principals}
use Rattle.lio_clauses.specs.Satisfaction.{sat}
use Rattle.lio_clauses.specs.Implication.{implies}
use Rattle.lio_clauses.specs.Canonical.{IsCanonical, canonical, and}
use Rattle.lio_clauses.proofs.Algebra.{conjunction_with_implied, conjunction_is_commutative}
use Rattle.lio_clauses.proofs.Forms.{and-is, sat-and}
use Rattle.lio_clauses.proofs.ClauseBits.{principals-clauses}
use Rattle.lio_clauses.proofs.Answered.{IfOk-same, IfOk-sets, IsWideExactly-same}
use Rattle.lio_clauses.proofs.formula.Formula.and.Goals as goal

joined : (ms ns : List ℕ) (A B : List (List ℕ)) → map principals ms ≡ A → map principals ns ≡ B → canonical (map principals (ms ++ ns)) ≡ and A B
joined ms ns A B f g =
    ap canonical (map-append principals ms ns)
    ∙ sym (and-is (map principals ms) (map principals ns) (principals-clauses ms) (principals-clauses ns))
    ∙ ap (λ v. and v (map principals ns)) f ∙ ap (and A) g

-- the right one, where it implies the left one
right : (A B : List (List ℕ)) → IsCanonical A → IsCanonical B → IsTrue (implies B A) → B ≡ and A B
right A B a b h = conjunction_with_implied B A b a h ∙ conjunction_is_commutative B A b.clauses a.clauses

pub returns-then-implies-clause-ok : goal.returns-then-implies-clause-ok
returns-then-implies-clause-ok c =
    IfOk-same c.copy_narrow.result _ _
    (conjunction_with_implied c.args.self.now c.args.other.now c.clauses-left.ensures.canonical c.clauses-right.ensures.canonical (sym c.implies.ensures.test ∙ c.if-implies.true))
    c.copy_narrow.ensures.ok

pub returns-then-implies-clause-wide : goal.returns-then-implies-clause-wide
returns-then-implies-clause-wide c =
    IsWideExactly-same c.copy_narrow.result _ _
    (conjunction_with_implied c.args.self.now c.args.other.now c.clauses-left.ensures.canonical c.clauses-right.ensures.canonical (sym c.implies.ensures.test ∙ c.if-implies.true))
    c.copy_narrow.ensures.wide

pub returns-then-implies-2-clause-ok : goal.returns-then-implies-2-clause-ok
returns-then-implies-2-clause-ok c =
    IfOk-same c.copy_narrow-then-implies-2.result _ _
    (right c.args.self.now c.args.other.now c.clauses-left.ensures.canonical c.clauses-right.ensures.canonical (sym c.implies-2.ensures.test ∙ c.if-implies-2.true))
    c.copy_narrow-then-implies-2.ensures.ok

pub returns-then-implies-2-clause-wide : goal.returns-then-implies-2-clause-wide
returns-then-implies-2-clause-wide c =
    IsWideExactly-same c.copy_narrow-then-implies-2.result _ _
    (right c.args.self.now c.args.other.now c.clauses-left.ensures.canonical c.clauses-right.ensures.canonical (sym c.implies-2.ensures.test ∙ c.if-implies-2.true))
    c.copy_narrow-then-implies-2.ensures.wide

pub returns-clause-ok : goal.returns-clause-ok
returns-clause-ok c =
    IfOk-same c.of_both.result _ _
    (joined c.clauses-left.result.now c.clauses-right.result.now c.args.self.now c.args.other.now c.clauses-left.ensures.masks c.clauses-right.ensures.masks)
    c.of_both.ensures.ok

pub returns-clause-sets : goal.returns-clause-sets
returns-clause-sets c =
    IfOk-sets c.of_both.result (and c.args.self.now c.args.other.now) (λ who. sat who c.args.self.now && sat who c.args.other.now)
    (λ who. sat-and who c.args.self.now c.args.other.now) (returns-clause-ok c)

pub returns-clause-wide : goal.returns-clause-wide
returns-clause-wide c =
    IsWideExactly-same c.of_both.result _ _
    (joined c.clauses-left.result.now c.clauses-right.result.now c.args.self.now c.args.other.now c.clauses-left.ensures.masks c.clauses-right.ensures.masks)
    c.of_both.ensures.wide
