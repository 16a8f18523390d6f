-- A complete run is the merge of logs.
use Rattle.std.proofs.Common.{◌∙◌, refl, sym, ap}
use Rattle.lio_calculus.specs.Journals.{actors}
use Rattle.lio_calculus.specs.Run.{Ran}
use Rattle.lio_calculus.specs.Step.{Configuration}
use Rattle.lio_calculus.proofs.JournalLemmas.{parts-merged}
use Rattle.lio_rounds.specs.Runs.{IsCompleteRun, IsMergeOfLogs}
use Rattle.lio_table.specs.Rule.{AreTurns}
use Rattle.lio_table.proofs.RunTurns.{last-or, runs_are_turns}
use Rattle.lio_table.proofs.Turns.{logs-of, turns-logged, turns-run}

pub complete-merge : (c : Configuration) (ran : Ran) → IsCompleteRun c ran → IsMergeOfLogs c ran
complete-merge c ran complete =
    let turns : AreTurns c ran.entries = runs_are_turns c (actors ran.entries) ran complete.first.sound complete.is_run in
    record {
      logs = logs-of ran.entries;
      logged = turns-logged c ran.entries turns;
      merged = parts-merged (logs-of ran.entries) ran.entries (λ n. refl) turns.numbered;
      last = ap (last-or c) (sym complete.is_run ∙ (turns-run c ran.entries turns).is_run);
    }
