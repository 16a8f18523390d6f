use Rattle.std.proofs.Common.{◌∙◌, ap, sym, length}
use Rattle.lio_calculus.specs.Run.{Ran}
use Rattle.lio_task.specs.Configuration.{cell_of, configuration_of}
use Rattle.lio_ask_main.specs.Troubles.{has_failed, is_waiting}
use Rattle.lio_ask_main.proofs.CountLemmas.{count-map, counts-are}
use Rattle.lio_ask_main.proofs.tell.tell_audit.Goals as goal

pub returns-clause-ok : goal.returns-clause-ok
returns-clause-ok c =
    let script = c.args.past.now.job.script in
    let config = c.in_ok-journal.config in
    let holders = config.holders.items in
    let ran : Ran = record { entries = c.in_ok-journal.journal; last = configuration_of script config } in (
      ran,
      c.in_ok-journal.ensures.ok,
      counts-are ran c.in_ok-text.text.items c.are_some-troubled.result (length c.entries.result.now) c.failed_count-failed.result c.waiting_count-waiting.result (ap length c.entries.ensures.entries)
          (c.failed_count-failed.ensures script ∙ sym (count-map has_failed (cell_of script) holders)) (c.waiting_count-waiting.ensures script ∙ sym (count-map is_waiting (cell_of script) holders))
          c.in_ok-text.ensures c.are_some-troubled.ensures,
    )
