use Rattle.std.proofs.Common.{None, ◌≡◌, ◌∙◌, ◌+◌, List, [], ℕ, length, ap, sym, subst, arith}
use Rattle.std.proofs.lemmas.List.Elements.{All-nil}
use Rattle.lio_values.specs.declared.value.Value.{Value}
use Rattle.lio_syntax.specs.Statements.{Procedure}
use Rattle.lio_task.specs.declared.config.Holder.{Holder}
use Rattle.lio_task.specs.Logs.{HaveNoLogs}
use Rattle.lio_calculus_runs.specs.WellFormed.{IsWellFormed}
use Rattle.lio_syntax_lines.specs.declared.line.Line.{Line}
use Rattle.lio_syntax.specs.Kept as kept
use Rattle.lio_syntax.specs.Kept.{KeepsRules}
use Rattle.lio_syntax.specs.Lines.{script_lines}
use Rattle.lio_syntax.specs.Verdict.{IsOver}
use Rattle.lio_start.specs.Fits.{fits}
use Rattle.lio_policy.specs.Policy.{IsPolicy, PolicyParts}
use Rattle.lio_policy.specs.declared.policy.FileEntry.{FileEntry}
use Rattle.lio_policy.specs.declared.policy.TaskEntry.{TaskEntry}
use Rattle.lio_policy.proofs.PolicyLemmas.{limits_are_small}
use Rattle.lio_start.specs.Job.{IsJob, JobParts}
use Rattle.lio_start.specs.Making.{CanBeginAll}
use Rattle.lio_start.specs.Start.{cells_in_all, sealed_inputs}
use Rattle.lio_start.proofs.LawLemmas.{literals_are_said, start_is_well_formed}
use Rattle.lio_start.proofs.MakingLemmas.{all-begin, started}
use Rattle.lio_start.proofs.configuration.start_over.Goals as goal

-- the parts are those of a job
is-job : (policy : PolicyParts) (script : List Procedure) (texts : List (List ℕ)) (lines : List Line) → IsPolicy policy → script_lines script ≡ lines → KeepsRules lines → kept.SaysLiterals lines → fits policy.tasks script ≡ None → IsOver policy.names script
    → length texts ≡ length policy.inputs → IsJob (record { policy = policy; script = script; inputs = texts })
is-job policy script texts lines is same rules literals fit over each = record {
  policy = is;
  rules = subst KeepsRules (sym same) rules;
  literals = literals_are_said script (subst kept.SaysLiterals (sym same) literals);
  fits = fit;
  over = over;
  each = each;
}

pub overflow_cast-first : goal.overflow_cast-first
overflow_cast-first c =
    omega (
      arith,
      c.policy.invariant.limits.channels,
      c.policy.invariant.limits.tasks,
      (limits_are_small c.policy.inside.version).entries,
      ap (length {A = FileEntry}) c.as_slice-channels.ensures,
      ap (length {A = TaskEntry}) c.as_slice-tasks.ensures,
    )

pub cells_in_all-requires : goal.cells_in_all-requires
cells_in_all-requires c =
    omega (arith, c.policy.invariant.limits.cells, (limits_are_small c.policy.inside.version).cells, ap cells_in_all c.as_slice-tasks.ensures)

pub add_jobs-requires : goal.add_jobs-requires
add_jobs-requires c =
    let job : JobParts = record { policy = c.args.policy.now; script = c.args.script.now; inputs = c.args.texts.now } in
    let is : IsJob job = is-job c.args.policy.now c.args.script.now c.args.texts.now c.lines.result.now c.policy_keeps_rules.ensures c.lines.ensures.lines c.lines.ensures.rules c.lines.ensures.literals c.requires.fits c.requires.over c.requires.each in
    let policy_is = c.policy.view_is in
    let channels = c.as_slice-channels.result.now in
    let tasks = c.as_slice-tasks.result.now in
    let longest = c.policy.inside.longest in
    let inputs =
    c.in_ok-inputs.ensures
    ∙ ap (λ (inputs : List FileEntry). sealed_inputs longest inputs job.inputs) c.as_slice.ensures
    ∙ ap (λ (p : PolicyParts). sealed_inputs p.longest p.inputs job.inputs) policy_is in
    (subst (λ (values : List Value). CanBeginAll job.script values (length channels + length tasks) tasks) (sym inputs)
    (all-begin job.policy job.script job.inputs channels tasks is.policy is.fits
    (c.as_slice-channels.ensures ∙ ap (λ (p : PolicyParts). p.channels) policy_is)
    (c.as_slice-tasks.ensures ∙ ap (λ (p : PolicyParts). p.tasks) policy_is)))

pub returns : goal.returns
returns c =
    let job : JobParts = record { policy = c.args.policy.now; script = c.args.script.now; inputs = c.args.texts.now } in
    let is : IsJob job = is-job c.args.policy.now c.args.script.now c.args.texts.now c.lines.result.now c.policy_keeps_rules.ensures c.lines.ensures.lines c.lines.ensures.rules c.lines.ensures.literals c.requires.fits c.requires.over c.requires.each in
    let policy_is = c.policy.view_is in
    let tasks = c.as_slice-tasks.result.now in
    let channels = c.as_slice-channels.result.now in
    let longest = c.policy.inside.longest in
    let jobs = c.in_ok-add_jobs.ensures.adds in
    let made =
    started job.policy job.script job.inputs longest c.cells_in_all.result channels tasks c.in_ok-inputs.inputs
    c.new-holders.result.items c.add_channels.new.holders.items c.add_jobs.new.holders.items c.add_free.new.holders.items
    (ap (λ (p : PolicyParts). p.longest) policy_is)
    (c.as_slice-channels.ensures ∙ ap (λ (p : PolicyParts). p.channels) policy_is) (c.as_slice-tasks.ensures ∙ ap (λ (p : PolicyParts). p.tasks) policy_is)
    (c.in_ok-inputs.ensures
    ∙ ap (λ (inputs : List FileEntry). sealed_inputs longest inputs job.inputs) c.as_slice.ensures
    ∙ ap (λ (p : PolicyParts). sealed_inputs p.longest p.inputs job.inputs) policy_is)
    c.cells_in_all.ensures c.new-holders.ensures.items (c.in_ok-add_channels.ensures.adds job.script) jobs (c.in_ok-add_free.ensures.adds job.script) in
    record { config = made; well_formed = subst IsWellFormed (sym made) (start_is_well_formed job.policy job.script job.inputs is.policy is.literals is.rules); fresh = c.in_ok-add_free.ensures.fresh (c.in_ok-add_jobs.ensures.fresh (c.in_ok-add_channels.ensures.fresh (subst HaveNoLogs (sym c.new-holders.ensures.items) (All-nil (λ (h : Holder). h.node.log ≡ []))))) }
