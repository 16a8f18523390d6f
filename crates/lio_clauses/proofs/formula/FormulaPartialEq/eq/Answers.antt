use Rattle.std.proofs.Common.{◌≡◌, ◌<◌, ◌^◌, true, inl, inr, map, sym, ◌∙◌, ap}
use Rattle.std.specs.Prelude.{nat_eq}
use Rattle.std.specs.Cmp.Lexicographic.{pointwise, pointwise_decides, bytes_decides, same_text, other_text}
use Rattle.std.proofs.lemmas.Bool.{cases_Bool}
use Rattle.lio_clauses.specs.Principals.{principals}
use Rattle.lio_clauses.proofs.Members.{All-In, same_tests}
use Rattle.lio_clauses.proofs.ClauseBits.{principals-equal}
use Rattle.lio_clauses.proofs.formula.FormulaPartialEq.eq.Goals as goal

same : (c : goal.After-eq) → c.eq.result ≡ true → c.args.self.now ≡ c.args.other.now
same c t =
    sym c.clauses.ensures.masks ∙ ap (map principals) (same_text c.clauses.result.now c.clauses-2.result.now (sym t ∙ c.eq.ensures)) ∙ c.clauses-2.ensures.masks

back : (c : goal.After-eq) → c.args.self.now ≡ c.args.other.now → c.eq.result ≡ true
back c e =
    elim (cases_Bool c.eq.result) [
      | inl t ↦ t
      | inr f ↦
          absurd (other_text c.clauses.result.now c.clauses-2.result.now (sym f ∙ c.eq.ensures)
          (principals-equal c.clauses.result.now c.clauses-2.result.now
          (All-In (λ m. m < 2 ^ 64) c.clauses.result.now c.clauses.ensures.fits)
          (All-In (λ m. m < 2 ^ 64) c.clauses-2.result.now c.clauses-2.ensures.fits)
          (c.clauses.ensures.masks ∙ e ∙ sym c.clauses-2.ensures.masks)))
    ]

pub returns-clause-test : goal.returns-clause-test
returns-clause-test c =
    same_tests c.eq.result (pointwise (pointwise nat_eq) c.args.self.now c.args.other.now)
    (λ t. (pointwise_decides bytes_decides c.args.self.now c.args.other.now).1 (same c t))
    (λ t. back c ((pointwise_decides bytes_decides c.args.self.now c.args.other.now).0 t))

pub returns-clause-same : goal.returns-clause-same
returns-clause-same c = (same c, back c)
