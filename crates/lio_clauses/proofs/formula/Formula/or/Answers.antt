use Rattle.std.proofs.Common.{◌≡◌, ℕ, List, ◌||◌, map, sym, ◌∙◌, ap, IsTrue}
use Rattle.lio_clauses.specs.Principals.{principals}
use Rattle.lio_clauses.specs.Satisfaction.{sat}
use Rattle.lio_clauses.specs.Implication.{implies}
use Rattle.lio_clauses.specs.Canonical.{IsCanonical, canonical, or}
use Rattle.lio_clauses.specs.Bits.{unions}
use Rattle.lio_clauses.proofs.Algebra.{disjunction_with_implied, disjunction_is_commutative}
use Rattle.lio_clauses.proofs.Forms.{or-is, sat-or}
use Rattle.lio_clauses.proofs.ClauseBits.{principals-clauses, sat-unions}
use Rattle.lio_clauses.proofs.Answered.{IfOk-same, IfOk-sets, IsWideExactly-same}
use Rattle.lio_clauses.proofs.formula.Formula.or.Goals as goal

joined : (ms ns : List ℕ) (A B : List (List ℕ)) → map principals ms ≡ A → map principals ns ≡ B → canonical (map principals (unions ms ns)) ≡ or A B
joined ms ns A B e f =
    sym (or-is (map principals ms) (map principals ns) (map principals (unions ms ns)) (principals-clauses ms) (principals-clauses ns)
    (principals-clauses (unions ms ns)) (sat-unions ms ns))
    ∙ ap (λ v. or v (map principals ns)) e ∙ ap (or A) f

-- the left one, where the right one implies it
left : (A B : List (List ℕ)) → IsCanonical A → IsCanonical B → IsTrue (implies B A) → A ≡ or A B
left A B a b h = disjunction_with_implied B A b a h ∙ disjunction_is_commutative B A b.clauses a.clauses

pub returns-then-implies-clause-ok : goal.returns-then-implies-clause-ok
returns-then-implies-clause-ok c =
    IfOk-same c.copy_narrow.result _ _
    (disjunction_with_implied c.args.self.now c.args.other.now c.clauses-left.ensures.canonical c.clauses-right.ensures.canonical (sym c.implies.ensures.test ∙ c.if-implies.true))
    c.copy_narrow.ensures.ok

pub returns-then-implies-clause-wide : goal.returns-then-implies-clause-wide
returns-then-implies-clause-wide c =
    IsWideExactly-same c.copy_narrow.result _ _
    (disjunction_with_implied c.args.self.now c.args.other.now c.clauses-left.ensures.canonical c.clauses-right.ensures.canonical (sym c.implies.ensures.test ∙ c.if-implies.true))
    c.copy_narrow.ensures.wide

pub returns-then-implies-2-clause-ok : goal.returns-then-implies-2-clause-ok
returns-then-implies-2-clause-ok c =
    IfOk-same c.copy_narrow-then-implies-2.result _ _
    (left c.args.self.now c.args.other.now c.clauses-left.ensures.canonical c.clauses-right.ensures.canonical (sym c.implies-2.ensures.test ∙ c.if-implies-2.true))
    c.copy_narrow-then-implies-2.ensures.ok

pub returns-then-implies-2-clause-wide : goal.returns-then-implies-2-clause-wide
returns-then-implies-2-clause-wide c =
    IsWideExactly-same c.copy_narrow-then-implies-2.result _ _
    (left c.args.self.now c.args.other.now c.clauses-left.ensures.canonical c.clauses-right.ensures.canonical (sym c.implies-2.ensures.test ∙ c.if-implies-2.true))
    c.copy_narrow-then-implies-2.ensures.wide

pub returns-clause-ok : goal.returns-clause-ok
returns-clause-ok c =
    IfOk-same c.of_unions.result _ _
    (joined c.clauses-left.result.now c.clauses-right.result.now c.args.self.now c.args.other.now c.clauses-left.ensures.masks c.clauses-right.ensures.masks)
    c.of_unions.ensures.ok

pub returns-clause-sets : goal.returns-clause-sets
returns-clause-sets c =
    IfOk-sets c.of_unions.result (or c.args.self.now c.args.other.now) (λ who. sat who c.args.self.now || sat who c.args.other.now)
    (λ who. sat-or who c.args.self.now c.args.other.now) (returns-clause-ok c)

pub returns-clause-wide : goal.returns-clause-wide
returns-clause-wide c =
    IsWideExactly-same c.of_unions.result _ _
    (joined c.clauses-left.result.now c.clauses-right.result.now c.args.self.now c.args.other.now c.clauses-left.ensures.masks c.clauses-right.ensures.masks)
    c.of_unions.ensures.wide
