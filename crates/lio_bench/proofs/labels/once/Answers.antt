use Rattle.std.proofs.Common.{◌≡◌, ◌∙◌, IfOk, List, ℕ, ap, subst}
use Rattle.lio_clauses.proofs.Algebra.{conjunction_is_idempotent, disjunction_is_idempotent}
use Rattle.lio_clauses.specs.Canonical.{or}
use Rattle.lio_labels.specs.Bounds.{join}
use Rattle.lio_labels.specs.IsLabel.{IsLabel}
use Rattle.lio_labels.specs.declared.label.Label.{Label}
use Rattle.lio_bench.proofs.labels.once.Goals as goal

-- a label joined with itself
join_itself : (l : Label) → IsLabel l → join l l ≡ l
unfolding join
join_itself l h =
    let label : List (List ℕ) → List (List ℕ) → Label = λ s i. record { secrecy = s; integrity = i } in
    ap (λ s. label s (or l.integrity l.integrity)) (conjunction_is_idempotent l.secrecy h.secrecy) ∙ ap (label l.secrecy) (disjunction_is_idempotent l.integrity h.integrity)

pub returns-in-Join : goal.returns-in-Join
returns-in-Join c =
    let l = c.args.label.now in
    subst (λ x. IfOk c.join.result (λ made. made ≡ x)) (ap (join l) c.requires.equal ∙ join_itself l c.requires.canonical) c.join.ensures.ok
