use Rattle.std.proofs.Common.{refl, length}
use Rattle.lio_policy.specs.Rules.{arguments_fail}
use Rattle.lio_policy.specs.declared.arguments.TheConstants.{RULE}
use Rattle.lio_policy.proofs.RuleLemmas.{passes_in_tasks, arguments_lengths, first_none_of}
use Rattle.lio_policy.proofs.arguments.read_arguments.Goals as goal

pub returns : goal.returns
returns c =
    let d = c.args.draft.now in
    let h = rw (c.requires.same, c.requires.labelled, c.first_task.ensures.number) at c.each_entry.ensures in
    passes_in_tasks RULE (length d.principals) (length d.channels) (length d.inputs) (arguments_fail d) c.each_entry.result _ (arguments_lengths d) refl (first_none_of 1 d.principals)
    (first_none_of _ d.channels) (first_none_of _ d.inputs) h
