use Rattle.std.proofs.Common.{◌≡◌, ◌+◌, ◌<◌, ◌++◌, [], ◌∷◌, length, All, sym, ap, subst, arith, length-append}
use Rattle.std.proofs.lemmas.List.Elements.{All-push, All-weaker}
use Rattle.lio_events.specs.Printable.{IsPrintable}
use Rattle.lio_bench.proofs.journals.journal_of.Goals as goal

pub loop-ticket-preserved : goal.loop-ticket-preserved
loop-ticket-preserved c =
    let old = c.loop-ticket.journal in
    let n = c.loop-ticket.ticket in
    let entry = c.in_ok-entry_of.field-0 in
    let pushed : c.push.new.self ≡ old ++ entry ∷ [] = c.in_ok-push.ensures.ok in
    let longer : length (old ++ entry ∷ []) ≡ length old + 1 = length-append old (entry ∷ []) in
    let count = c.loop-ticket.invariant.0 in
    let same : length c.push.new.self ≡ length (old ++ entry ∷ []) = ap length pushed in
    let own = c.in_ok-entry_of.ensures.ticket in
    let before = All-weaker (λ e. e.ticket < n) (λ e. e.ticket < n + 1) (λ e h. omega arith) old c.loop-ticket.invariant.1 in (
      omega arith,
      subst (All (λ e. e.ticket < n + 1)) (sym pushed) (All-push (λ e. e.ticket < n + 1) old entry before (omega arith)),
      subst (All (IsPrintable [])) (sym pushed) (All-push (IsPrintable []) old entry c.loop-ticket.invariant.2 c.in_ok-entry_of.ensures.printable),
    )
