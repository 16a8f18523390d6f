use Rattle.std.proofs.Common.{◌≡◌, ℕ, ◌+◌, ◌-◌, [], Some, inr, ap, sym, ◌∙◌, arith}
use Rattle.lio_policy_draft.specs.Failing.{fault_at}
use Rattle.lio_policy.specs.declared.limits.TheConstants.{RULE}
use Rattle.lio_policy.proofs.RuleLemmas.{none_past, first_past}
use Rattle.lio_policy.proofs.limits.check_count.Goals as goal

pub returns-then-files-most : goal.returns-then-files-most
returns-then-files-most c =
    let most : ℕ = c.args.most in
    let first : ℕ = c.args.first in
    let all : most - 0 ≡ most = omega arith in
    inr (ap (fault_at RULE) (first_past most first [] c.args.files.now (omega arith) (omega arith) ∙ ap (λ n. Some (first + n)) all) ∙ ap Some (sym c.fault_at.ensures))

pub returns : goal.returns
returns c = (none_past c.args.most c.args.first [] c.args.files.now (omega arith), tt)
