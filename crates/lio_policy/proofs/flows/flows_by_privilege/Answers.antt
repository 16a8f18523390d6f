use Rattle.std.proofs.Common.{◌≡◌, ◌∙◌, ◌&&◌, ℕ, List, ap, sym}
use Rattle.std.specs.List.{flat_map}
use Rattle.lio_clauses.specs.Implication.{implies}
use Rattle.lio_clauses.specs.Without.{without}
use Rattle.lio_labels.proofs.FlowLemmas.{after-both, after-first}
use Rattle.lio_policy.specs.Flows.{clauses_of, together}
use Rattle.lio_policy.specs.Policy.{PolicyParts}
use Rattle.lio_policy.specs.Powers.{powers_of, task_powers}
use Rattle.lio_policy.specs.declared.policy.TaskEntry.{TaskEntry}
use Rattle.lio_policy.proofs.FlowLemmas.{flows_beyond}
use Rattle.lio_policy.proofs.flows.flows_by_privilege.Goals.{then-implies, else-implies}
use Rattle.lio_policy.proofs.flows.flows_by_privilege.Goals as goal

pub returns : goal.returns
returns c =
    let input = c.args.input.now.label in
    let channel = c.args.channel.now.label in
    let beyond : List (List ℕ) → List TaskEntry → List (List ℕ) = λ formula tasks. without formula (clauses_of (flat_map task_powers tasks)) in
    let all = clauses_of (powers_of c.args.policy.now) in
    let secrecy : c.in_ok-secrecy.secrecy ≡ without input.secrecy all =
    c.in_ok-secrecy.ensures ∙ ap (beyond input.secrecy) c.as_slice-tasks.ensures ∙ ap (λ (p : PolicyParts). beyond input.secrecy p.tasks) c.policy.view_is in
    let integrity : c.in_ok-integrity.integrity ≡ without channel.integrity all =
    c.in_ok-integrity.ensures ∙ ap (beyond channel.integrity) c.as_slice-tasks.ensures ∙ ap (λ (p : PolicyParts). beyond channel.integrity p.tasks) c.policy.view_is in
    let learned = c.implies.ensures.test ∙ ap (implies channel.secrecy) secrecy in
    let told : c.if-implies.result ≡ (implies channel.secrecy (without input.secrecy all) && implies input.integrity (without channel.integrity all)) =
    elim c.if-implies.branch [
      | then-implies w ↦
          w.result-is ∙ after-both c.implies.result w.implies-then-implies.result (implies channel.secrecy (without input.secrecy all)) (implies input.integrity (without channel.integrity all))
          w.if-implies.true learned (w.implies-then-implies.ensures.test ∙ ap (implies input.integrity) integrity)
      | else-implies w ↦
          w.result-is ∙ after-first c.implies.result (implies channel.secrecy (without input.secrecy all)) (implies input.integrity (without channel.integrity all)) w.if-implies.false learned
    ] in
    told ∙ sym (flows_beyond (together (powers_of c.args.policy.now)) input channel)
