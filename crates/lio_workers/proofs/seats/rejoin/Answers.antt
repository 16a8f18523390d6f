use Rattle.std.proofs.Common.{◌≡◌, ◌∙◌, ap, arith, ◌+◌, ◌^◌, cond, ◌++◌, ◌∷◌, [], count_by, length, length-append, Some}
use Rattle.std.specs.Prelude.{Vec}
use Rattle.std.specs.declared.alloc.Global.{Global}
use Rattle.std.proofs.lemmas.List.Elements.{All-pop}
use Rattle.std.proofs.lemmas.List.Sums.{sum_by-append}
use Rattle.lio_values.specs.declared.entry.Entry.{Entry}
use Rattle.lio_table.specs.declared.seat.LioSeat.{LioSeat}
use Rattle.lio_table.specs.Tables.{view_of}
use Rattle.lio_table.specs.declared.view.View.{View}
use Rattle.lio_table.specs.Cuts.{joined}
use Rattle.lio_workers.specs.Seated.{IsWorkerAt}
use Rattle.lio_workers.proofs.SeatLemmas.{joined-rights}
use Rattle.lio_workers.proofs.seats.rejoin.Goals as goal

pub loop-worker-preserved : goal.loop-worker-preserved
loop-worker-preserved g c =
    let worker = c.in-Some.worker in
    let first = c.loop-worker.first in
    let left = All-pop (IsWorkerAt c.args.shared.now) c.loop-worker.workers.items c.pop.new.self.items (Some worker) c.in-Some.ensures.items c.loop-worker.invariant.workers in
    let seated : IsWorkerAt c.args.shared.now worker = left.1 in
    let is : view_of c.join.new.seat ≡ joined (view_of first) (view_of worker.seat) =
    c.join.ensures.joined ∙ ap (λ (parts : LioSeat × Vec Entry Global). joined (view_of first) (view_of parts.0)) c.into_parts-seat.ensures in
    let rest = c.loop-worker.invariant.rest in
    let sum = rest.1 in
    let many : length c.loop-worker.workers.items ≡ length (c.pop.new.self.items ++ worker ∷ []) = ap (λ ws. length ws) c.in-Some.ensures.items in
    let one_more = length-append c.pop.new.self.items (worker ∷ []) in
    record {
      workers = left.0;
      rest = (rest.0 + 2 ^ 40, omega (arith, sum, many, one_more), joined-rights c.args.shared.now.table rest.0 (2 ^ 40) first worker.seat c.join.new.seat rest.2 seated.seated c.join.ensures.seat is);
      entries = λ p.
          let own = worker.entries.items in
          let its = (view_of worker.seat).drawn in
          let so_far = (view_of first).drawn in
          let gathered : count_by p c.gather.new.entries.items ≡ count_by p (c.loop-worker.entries.items ++ own) =
          ap (count_by p) (c.in_ok-gather.ensures ∙ ap (λ (parts : LioSeat × Vec Entry Global). c.loop-worker.entries.items ++ parts.1.items) c.into_parts-seat.ensures) in
          let drawn : count_by p (view_of c.join.new.seat).drawn ≡ count_by p (its ++ so_far) = ap (λ (v : View). count_by p v.drawn) is in
          let one = sum_by-append (λ (e : Entry). cond (p e) 1 0) c.loop-worker.entries.items own in
          let two = sum_by-append (λ (e : Entry). cond (p e) 1 0) its so_far in
          let before = c.loop-worker.invariant.entries p in
          let here = seated.entries p in omega (arith, gathered, drawn, one, two, before, here);
    }
