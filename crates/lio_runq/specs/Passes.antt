-- What contracts see of a pass.
use Rattle.std.specs.Prelude.{ℕ, List, Option}
use Rattle.atomic_blocks.specs.declared.web.Seat.{Seat}
use Rattle.crossbeam_queue.specs.declared.seg_queue.Going.{Going}
use Rattle.crossbeam_queue.specs.SegTies.{SegId, IsSegPassOf}
use Rattle.lio_runq.specs.declared.rule.PassView.{PassView}

module _ {A : Type 0} where
  -- what a pass has done
  abbrev pub done_by : Seat (Option ℕ) (Going ℕ PassView) A → PassView
  done_by seat = seat.me.view.client

  abbrev pub pushed_of : Seat (Option ℕ) (Going ℕ PassView) A → List ℕ
  pushed_of seat = (done_by seat).pushed

  abbrev pub left_of : Seat (Option ℕ) (Going ℕ PassView) A → ℕ
  left_of seat = (done_by seat).left

  abbrev pub popped_of : Seat (Option ℕ) (Going ℕ PassView) A → List ℕ
  popped_of seat = (done_by seat).popped

  -- it is a pass of this queue
  abbrev pub IsPassOf : SegId A → Seat (Option ℕ) (Going ℕ PassView) A → Type 0
  IsPassOf queue seat = IsSegPassOf queue seat
