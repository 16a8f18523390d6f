-- Two views that are the same.
use Rattle.std.proofs.Common.{◌≡◌, ◌∙◌, sym, ap, false, Some}
use Rattle.lio_events.specs.JournalText.{journal_text}
use Rattle.lio_events.specs.Views.{releases}
use Rattle.lio_calculus.specs.Erased.{erase}
use Rattle.lio_calculus.specs.Run.{LowRan}
use Rattle.lio_calculus.specs.Step.{Configuration}
use Rattle.lio_calculus_runs.specs.LowRounds.{low_run_by_rounds}
use Rattle.lio_host_main.specs.Laws.{ViewFilesAreAlike}

same_Some : {A : Type 0} (x y : A) → Some x ≡ Some y → x ≡ y
same_Some x y same = cc

pub view_files_are_alike : ViewFilesAreAlike
view_files_are_alike names observer c d one two first second alike released =
    let there : low_run_by_rounds observer (erase observer c) (releases observer one.entries) ≡ low_run_by_rounds observer (erase observer d) (releases observer two.entries) =
    ap (λ (e : Configuration). low_run_by_rounds observer e (releases observer one.entries)) alike ∙ ap (low_run_by_rounds observer (erase observer d)) released in
    ap (λ (ran : LowRan). journal_text names false ran.entries) (same_Some _ _ (sym (first.seen observer).erased ∙ there ∙ (second.seen observer).erased))
