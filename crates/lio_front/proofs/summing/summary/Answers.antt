use Rattle.std.proofs.Common.{◌∙◌, ap, sym, length}
use Rattle.lio_task.specs.Configuration.{cell_of, configuration_of}
use Rattle.lio_front.specs.Summary.{has_ended, has_task}
use Rattle.lio_front.proofs.SumLemmas.{count-map, summary-is}
use Rattle.lio_front.proofs.summing.summary.Goals as goal

pub returns : goal.returns
returns c = λ script.
    let holders = c.args.config.now.holders.items in
    summary-is c.args.policy.now (configuration_of script c.args.config.now) c.args.journal.now c.new-out.result.items c.print_line.new.out.items c.print_line-2.new.out.items c.print_line-3.new.out.items c.print_channels.new.out.items
    c.task_count.result c.ended_count.result (length c.entries.result.now) c.new-out.ensures.items c.in_ok-print_line.ensures c.in_ok-print_line-2.ensures c.in_ok-print_line-3.ensures c.in_ok-print_channels.ensures
    (c.task_count.ensures script ∙ sym (count-map has_task (cell_of script) holders)) (c.ended_count.ensures script ∙ sym (count-map has_ended (cell_of script) holders)) (ap length c.entries.ensures.entries)
