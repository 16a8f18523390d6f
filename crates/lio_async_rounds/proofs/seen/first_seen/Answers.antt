use Rattle.std.proofs.Common.{rules, ◌≡◌, ◌<◌, ◌∙◌, sym, arith, false, get_or, length}
use Rattle.lio_labels.specs.Flow.{flows}
use Rattle.lio_async_rounds.proofs.ViewLemmas.{unseen-past}
use Rattle.lio_async_rounds.proofs.seen.first_seen.Goals as goal

pub loop-entry-preserved : goal.loop-entry-preserved
loop-entry-preserved c =
    let entries = c.args.entries.now in
    let entry = c.in-Some.entry.now in
    let place = c.loop-entry.place in
    let before = c.loop-entry.invariant in
    let below : place < length entries = search rules in
    let at : entry ≡ get_or entries place entry = search rules in
    let unseen : flows entry.at c.args.observer.now ≡ false = sym c.flows.ensures.test ∙ c.if-flows.false in
    record {
      from = omega (arith, before.from);
      most = omega (arith, below);
      same = λ ticket. unseen-past c.args.observer.now ticket place entries entry below at unseen ∙ before.same ticket;
    }
