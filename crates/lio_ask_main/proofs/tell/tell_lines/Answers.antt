use Rattle.std.proofs.Common.{◌∙◌, ap, refl, length, List, ℕ}
use Rattle.lio_calculus.specs.Run.{Ran}
use Rattle.lio_task.specs.Configuration.{configuration_of}
use Rattle.lio_ask_main.proofs.tell.tell_lines.Goals as goal

pub returns-clause-ok : goal.returns-clause-ok
returns-clause-ok c =
    let ran : Ran = record { entries = c.in_ok-journal.journal; last = configuration_of c.args.past.now.job.script c.in_ok-journal.config } in (
      ran,
      c.in_ok-journal.ensures.ok,
      (
        record {
          numbers = c.as_slice.result.now;
          each = ap (λ (ns : List ℕ). length ns) c.as_slice.ensures.value ∙ c.in_ok-numbers.ensures;
          text_is = c.in_ok-text.ensures;
        },
        refl,
      ),
    )
