use Rattle.std.proofs.Common.{◌≡◌, ◌∙◌, ◌<◌, ◌≤◌, ◌++◌, ◌∷◌, sym, ap, arith, true, false, Ok, length, []}
use Rattle.std.proofs.lemmas.List.{append-nil, at_drop_all}
use Rattle.lio_policy.specs.Rules.{behind, principal_fails}
use Rattle.lio_policy.specs.declared.names.TheConstants.{RULE}
use Rattle.lio_policy.proofs.RuleLemmas.{fails_now, none_now, goes_on}
use Rattle.lio_policy_draft.proofs.FailingLemmas.{fault_from, first_from_none}
use Rattle.lio_policy.proofs.names.add_all.Goals as goal

pub returns-then-branch : goal.returns-then-branch
returns-then-branch c =
    let names = c.args.principals.now in
    let i = c.loop-place.place in
    let fails : principal_fails c.loop-place.names c.index-principals-place.result ≡ true =
    ap (principal_fails c.loop-place.names) (sym c.bytes.ensures) ∙ sym c.in_ok-add_name.ensures.fails ∙ c.if-branch.true in
    let within : i < length names = omega arith in
    let here = sym c.loop-place.invariant.1 ∙ fails_now principal_fails c.loop-place.names names i c.index-principals-place.result within c.index-principals-place.is fails in
    fault_from RULE c.args.first i (behind principal_fails [] names) c.fault_at.result c.fault_at.ensures here

pub returns : goal.returns
returns c =
    let names = c.args.principals.now in
    let i = c.loop-place.place in
    let past : length names ≤ i = omega arith in
    let none = sym c.loop-place.invariant.1 ∙ none_now principal_fails c.loop-place.names names i past in
    let all = sym (append-nil c.loop-place.names) ∙ sym (at_drop_all (λ xs. c.loop-place.names ++ xs) names i past) ∙ c.loop-place.invariant.0 in
    (first_from_none c.args.first (behind principal_fails [] names) none, all)

pub loop-place-preserved : goal.loop-place-preserved
loop-place-preserved c =
    let names = c.args.principals.now in
    let i = c.loop-place.place in
    let before = c.loop-place.names in
    let x = c.index-principals-place.result in
    let fine : principal_fails before x ≡ false =
    ap (principal_fails before) (sym c.bytes.ensures) ∙ sym c.in_ok-add_name.ensures.fails ∙ c.if-branch.false in
    let added : c.add_name.new.names ≡ before ++ x ∷ [] =
    c.in_ok-add_name.ensures.added (ap (λ b. Ok b) c.if-branch.false) ∙ ap (λ n. before ++ n ∷ []) c.bytes.ensures in
    goes_on principal_fails before c.add_name.new.names names names i x (omega arith) c.index-principals-place.is fine added c.loop-place.invariant
