use Rattle.std.proofs.Common.{◌≡◌, ◌∙◌, ◌+◌, refl, sym, ap, map, length, position, Some, None}
use Rattle.lio_clauses.specs.FormulaText.{shown}
use Rattle.lio_policy.specs.Rules.{flow_fails, is_above, tasks_of}
use Rattle.lio_policy.specs.declared.labels.TheConstants.{FLOW}
use Rattle.lio_policy_draft.specs.declared.fault.PolicyFault.TheVariants.{Bad}
use Rattle.lio_policy_draft.proofs.FailingLemmas.{fault_in_tasks, fault_from, none_in_all, first_from_none}
use Rattle.lio_policy.proofs.RuleLemmas.{flow_lengths, first_none_of, first_of_map}
use Rattle.lio_policy.proofs.labels.check_flow.Goals as goal

pub returns-in-Some : goal.returns-in-Some
returns-in-Some c =
    let d = c.args.draft.now in
    let same : position is_above (tasks_of d) ≡ Some c.in-Some.place = ap (position is_above) (sym c.requires) ∙ sym c.in-Some.ensures in
    let first = sym (first_of_map is_above (tasks_of d)) ∙ same in
    let at = ap (λ n. Bad FLOW (shown (n + c.in-Some.place))) c.first_task.ensures.number in
    let h = fault_from FLOW _ c.in-Some.place (map is_above (tasks_of d)) c.fault_at.result (c.fault_at.ensures ∙ at) first in
    fault_in_tasks FLOW (length d.principals) (length d.channels) (length d.inputs) (flow_fails d) c.fault_at.result (flow_lengths d) refl (first_none_of 1 d.principals)
    (first_none_of _ d.channels) (first_none_of _ d.inputs) h

pub returns-in-None : goal.returns-in-None
returns-in-None c =
    let d = c.args.draft.now in
    let same : position is_above (tasks_of d) ≡ None = ap (position is_above) (sym c.requires) ∙ sym c.in-None.ensures in
    let first = sym (first_of_map is_above (tasks_of d)) ∙ same in (
      none_in_all (length d.principals) (length d.channels) (length d.inputs) (flow_fails d) (flow_lengths d) refl (first_none_of 1 d.principals)
          (first_none_of _ d.channels) (first_none_of _ d.inputs) (first_from_none _ (map is_above (tasks_of d)) first),
      tt,
    )
