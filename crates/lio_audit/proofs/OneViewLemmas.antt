-- The answers of a check of a view, once it ends.
use Rattle.std.proofs.Common.{◌≡◌, ◌∙◌, sym, ap, subst, ℕ, ◌+◌, ◌-◌, ◌<◌, ◌≤◌, List, [], length, drop, append-nil, false, arith}
use Rattle.std.proofs.lemmas.List.{length-drop}
use Rattle.std.proofs.Math.ListN.{drop_of_length-le}
use Rattle.std.proofs.lemmas.List.Elements.{All-weaker}
use Rattle.lio_clauses.specs.Names.{AreNames}
use Rattle.lio_labels.specs.declared.label.Label.{Label}
use Rattle.lio_events.specs.JournalText.{journal_text}
use Rattle.lio_events.specs.Printable.{IsPrintable}
use Rattle.lio_events_reading.specs.Lines.{line_ends}
use Rattle.lio_events_reading.specs.Over.{IsEntryOver}
use Rattle.lio_events_reading.proofs.EndLemmas.{lines_are_entries}
use Rattle.lio_calculus.specs.Erased.{erase}
use Rattle.lio_calculus.specs.Run.{LowRan}
use Rattle.lio_calculus.specs.Step.{Configuration}
use Rattle.lio_calculus.proofs.ConfigLemmas.{erase-twice}
use Rattle.lio_calculus_runs.specs.Rounds.{IsComplete}
use Rattle.lio_erasure.specs.Low.{IsSeenOfSound}
use Rattle.lio_erasure.specs.LowParts.{ErasedState}
use Rattle.lio_audit.specs.History.{CanGoOn, most_history_bytes}
use Rattle.lio_audit.specs.View.{AreLinesOf, AreTooMany, BeginsSeenTurn, IsOneViewOfTurns, IsViewOf, SeenStopsAt, SeenStopsAtOne}
use Rattle.lio_audit.proofs.ViewLineLemmas.{AreOfOne}
use Rattle.lio_audit.proofs.SeenLemmas.{stops-seen}
use Rattle.lio_audit.proofs.SeenMeetLemmas.{stopped-no_view, stopped-once, view-of_one, view-stops_nowhere}
use Rattle.lio_audit.proofs.ViewLemmas.{IsSeenSoFar}

-- what an observer sees of a configuration is as the observer sees it
seen-erased : (observer : Label) (c : Configuration) → IsSeenOfSound observer c → erase observer c ≡ c
seen-erased observer c seen = ap (erase observer) seen.seen ∙ erase-twice observer seen.whole ∙ sym seen.seen

-- nothing is left
at-end : (bytes : List ℕ) (at : ℕ) → length bytes ≤ at → drop at bytes ≡ []
at-end bytes at over = drop_of_length-le bytes over

pub seen-whole : (names : List (List ℕ)) (observer : Label) (c : Configuration) (bytes : List ℕ) (state : ErasedState) (at count : ℕ) → AreNames names → IsSeenOfSound observer c
    → IsSeenSoFar names observer c bytes state at count → length bytes ≤ at → length bytes ≤ most_history_bytes → IsComplete state.configuration → IsOneViewOfTurns names observer c bytes count
seen-whole names observer c bytes state at count known seen so_far over few complete = record {
  ran = ran;
  is_view = is_view;
  count_is = so_far.count_is;
  lines =
      ap line_ends (is_view.lines.text ∙ append-nil (journal_text names false so_far.entries))
      ∙ lines_are_entries names false so_far.entries known (All-weaker (IsEntryOver names) (IsPrintable names) (λ e over. over.printable) so_far.entries so_far.lines.over) ∙ sym so_far.count_is;
  only = λ other is. view-of_one names observer c bytes ran other so_far.of_one (seen-erased observer c seen) is_view is;
  nowhere = λ line stop. view-stops_nowhere names observer c bytes ran line so_far.of_one (seen-erased observer c seen) is_view stop;
}
  where
    ran : LowRan
    ran = record { entries = so_far.entries; last = state.configuration; left = [] }

    is_view : IsViewOf names observer c bytes ran
    is_view = record {
      few = few;
      lines = subst (AreLinesOf names so_far.entries bytes) (at-end bytes at over) so_far.lines;
      is_run = so_far.is_run;
      complete = complete;
    }

-- bytes whose lines up to this one are of one entry each stop at it alone
one-line : (names : List (List ℕ)) (observer : Label) (c : Configuration) (bytes : List ℕ) (line : ℕ) (stop : SeenStopsAt names observer c bytes line) → IsSeenOfSound observer c → AreOfOne names stop.ran.entries bytes
    → SeenStopsAtOne names observer c bytes line
one-line names observer c bytes line stop seen lines = record {
  stops_at = stop;
  none = λ ran is. stopped-no_view names observer c bytes line ran stop lines (seen-erased observer c seen) is;
  only = λ other at. stopped-once names observer c bytes line other stop lines (seen-erased observer c seen) at;
}

pub seen-short : (names : List (List ℕ)) (observer : Label) (c : Configuration) (bytes : List ℕ) (state : ErasedState) (at count : ℕ) → IsSeenOfSound observer c → IsSeenSoFar names observer c bytes state at count → length bytes ≤ at
    → length bytes ≤ most_history_bytes → CanGoOn state.configuration → SeenStopsAtOne names observer c bytes (count + 1)
seen-short names observer c bytes state at count seen so_far over few goes = one-line names observer c bytes (count + 1) (record {
  few = few;
  ran = record { entries = so_far.entries; last = state.configuration; left = [] };
  rest = [];
  lines = subst (AreLinesOf names so_far.entries bytes) (at-end bytes at over) so_far.lines;
  is_run = so_far.is_run;
  line_is = ap (λ (n : ℕ). n + 1) so_far.count_is;
  stops = goes;
}) seen so_far.of_one

-- a line is none
pub seen-stops : (names : List (List ℕ)) (observer : Label) (c : Configuration) (bytes : List ℕ) (state : ErasedState) (at count : ℕ) → IsSeenOfSound observer c → IsSeenSoFar names observer c bytes state at count → at < length bytes
    → length bytes ≤ most_history_bytes → (BeginsSeenTurn names observer state.configuration (drop at bytes) → ⊥) → SeenStopsAtOne names observer c bytes (count + 1)
seen-stops names observer c bytes state at count seen so_far within few none =
    let left : length (drop at bytes) ≡ length bytes - at = length-drop at bytes in
    let some : 0 < length (drop at bytes) = omega arith in
    one-line names observer c bytes (count + 1) (record {
      few = few;
      ran = record { entries = so_far.entries; last = state.configuration; left = [] };
      rest = drop at bytes;
      lines = so_far.lines;
      is_run = so_far.is_run;
      line_is = ap (λ (n : ℕ). n + 1) so_far.count_is;
      stops = stops-seen names observer state.configuration (drop at bytes) some none;
    }) seen so_far.of_one

-- there are too many bytes
pub too-many : (names : List (List ℕ)) (observer : Label) (c : Configuration) (bytes : List ℕ) → most_history_bytes < length bytes → AreTooMany names observer c bytes
too-many names observer c bytes many = record {
  many = many;
  none = λ ran is. omega (arith, many, is.few);
  nowhere = λ line stop. omega (arith, many, stop.few);
}
