use Rattle.std.proofs.Common.{◌≡◌, ◌∙◌, ap, subst, IfOk, List, [], ℕ}
use Rattle.lio_outside.specs.Taken.{first_taken}
use Rattle.lio_front.specs.Clash.{clash, is_read, names_written}
use Rattle.lio_front.proofs.clashes.clash.Goals as goal

pub returns : goal.returns
unfolding clash
returns c =
    subst (λ (names : List (List ℕ)). IfOk c.first_taken.result (λ name. name ≡ first_taken (is_read c.args.read.now c.args.policy.now) [] names))
    (c.as_slice-2.ensures ∙ c.in_ok-names.ensures ∙ ap (names_written c.args.policy.now) c.as_slice.ensures)
    (subst (λ (read : List (List ℕ)). IfOk c.first_taken.result (λ name. name ≡ first_taken (is_read read c.args.policy.now) [] c.as_slice-2.result.now)) c.as_slice-3.ensures c.first_taken.ensures)
