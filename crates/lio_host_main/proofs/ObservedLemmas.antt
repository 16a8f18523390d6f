-- What each observer can check of a run of a job.
use Rattle.std.proofs.Common.{◌≡◌, subst, All, List, ℕ, Some}
use Rattle.lio_events.specs.Printable.{IsPrintable}
use Rattle.lio_events_reading.specs.Fits.{EntryFits}
use Rattle.lio_events_reading.specs.Over.{IsEntryOver}
use Rattle.lio_calculus.specs.Run.{Ran, run}
use Rattle.lio_calculus.specs.Journals.{actors}
use Rattle.lio_rounds.specs.Headline.{IsRunOf}
use Rattle.lio_start.specs.Job.{JobParts, first_of}
use Rattle.lio_audit.proofs.RunViewLemmas.{complete_run_is_seen, rounds_are_rerun, view_releases_the_same}
use Rattle.lio_host_main.specs.Answers.{RanBy}
use Rattle.lio_host_main.specs.Observed.{IsRerunByEach, IsSeenByEach}
use Rattle.lio_host_main.specs.Order.{Order, Way, InRounds, ByWorkers, AsTold}

-- its entries can be printed and read again
over-all : (names : List (List ℕ)) (ran : Ran) → All (IsPrintable names) ran.entries → All EntryFits ran.entries → All (IsEntryOver names) ran.entries
over-all names ran printable fits = λ k entry within. record { printable = printable k entry within; fits = fits k entry within }

pub seen-by-each : (job : JobParts) (ran : Ran) → IsRunOf job ran → All EntryFits ran.entries → IsSeenByEach job.policy.names (first_of job) ran
seen-by-each job ran is fits =
    let ran_is = is.is_run in
    record {
      released = λ observer. view_releases_the_same observer (first_of job) (actors ran.entries) ran ran_is.first.sound ran_is.is_run;
      views = λ observer few.
          complete_run_is_seen job.policy.names observer (first_of job) (actors ran.entries) ran ran_is.first.sound ran_is.is_run ran_is.complete
          (over-all job.policy.names ran is.keeps.printable fits) few;
    }

pub rerun-by-each : (order : Order) (ran : Ran) (way : Way) → IsRunOf order.job ran → RanBy way order ran → IsRerunByEach way (first_of order.job) ran
rerun-by-each order ran InRounds is by = λ observer.
    rounds_are_rerun observer (first_of order.job) ran is.is_run.first.sound
    (subst (λ (ks : List ℕ). run 0 (first_of order.job) ks ≡ Some ran) by.order is.is_run.is_run)
rerun-by-each order ran (ByWorkers count) is by = tt
rerun-by-each order ran (AsTold bytes) is by = tt
