-- What each observer can check of a run by what it holds, and compute of a run in rounds (the erasure of the concurrent calculus of LIO, ICFP 2012).
use Rattle.std.specs.Prelude.{◌≡◌, ℕ, ◌≤◌, List, length}
use Rattle.lio_labels.specs.declared.label.Label.{Label}
use Rattle.lio_events.specs.Views.{releases, view}
use Rattle.lio_calculus.specs.Erased.{erase}
use Rattle.lio_calculus.specs.Run.{Ran}
use Rattle.lio_calculus.specs.Step.{Configuration}
use Rattle.lio_audit.specs.History.{most_history_bytes}
use Rattle.lio_audit.specs.RunLaws.{IsRerun, seen_of, seen_text}
use Rattle.lio_audit.specs.View.{IsViewOf}
use Rattle.lio_host_main.specs.Order.{Way, InRounds, ByWorkers, AsTold}

-- A run from a configuration is seen by each observer.
pub record IsSeenByEach (names : List (List ℕ)) (c : Configuration) (ran : Ran) : Type 0 where
  -- its view releases to it what the run does
  pub released : (observer : Label) → releases observer ran.entries ≡ releases observer (view observer 0 ran.entries)
  -- and the text of its view, where it isn't too long, is the view of a complete run from what it sees of the configuration
  pub views : (observer : Label) → length (seen_text names observer ran) ≤ most_history_bytes → IsViewOf names observer (erase observer c) (seen_text names observer ran) (seen_of observer ran)

-- in rounds each observer computes its view from what the run releases to it
abbrev pub IsRerunByEach : Way → Configuration → Ran → Type 0
IsRerunByEach InRounds c ran = (observer : Label) → IsRerun observer c ran
IsRerunByEach (ByWorkers count) c ran = Unit {0}
IsRerunByEach (AsTold bytes) c ran = Unit {0}
