use Rattle.std.proofs.Common.{◌-◌, ◌<◌, subst, ℕ, inr, arith, List, length, take, drop}
use Rattle.lio_erasure.specs.LowParts.{ErasedState, low_of}
use Rattle.lio_audit.specs.Seen.{TakesSeenLine}
use Rattle.lio_audit.specs.View.{BeginsSeenTurn}
use Rattle.lio_audit.proofs.OneViewLemmas.{seen-short, seen-stops, seen-whole}
use Rattle.lio_audit.proofs.ViewLemmas.{rest-is, seen-line-some, seen-next, seen-none}
use Rattle.lio_audit.proofs.view.follow_lines.Goals as goal

pub loop-at-init : goal.loop-at-init
loop-at-init c = seen-none c.args.names.now c.args.observer.now c.args.bytes.now (low_of c.args.low.now) c.requires.observer c.requires.cells

pub returns-in_default-clause-err : goal.returns-in_default-clause-err
returns-in_default-clause-err c =
    let bytes : List ℕ = c.args.bytes.now in
    let s : ErasedState = low_of c.loop-at.low in
    let none : BeginsSeenTurn c.args.names.now c.args.observer.now s.configuration (take (length bytes - c.loop-at.at) (drop c.loop-at.at bytes)) → ⊥ = rw c.in_default.is at c.in_ok-len.ensures in
    inr (seen-stops c.args.names.now c.args.observer.now (low_of c.args.low.now).configuration bytes s c.loop-at.at c.loop-at.lines c.requires.seen c.loop-at.invariant c.loop-at-test.true c.requires.few
    (subst (λ (bs : List ℕ). BeginsSeenTurn c.args.names.now c.args.observer.now s.configuration bs → ⊥) (rest-is bytes c.loop-at.at) none))

pub loop-at-smaller : goal.loop-at-smaller
loop-at-smaller c =
    let bytes : List ℕ = c.args.bytes.now in
    let takes : TakesSeenLine c.args.names.now (low_of c.loop-at.low) (low_of c.take_line.new.low) (take (length bytes - c.loop-at.at) (drop c.loop-at.at bytes)) c.in-Some.len = rw c.in-Some.is at c.in_ok-len.ensures in
    let some : 0 < c.in-Some.len = seen-line-some c.args.names.now (low_of c.loop-at.low) (low_of c.take_line.new.low) (take (length bytes - c.loop-at.at) (drop c.loop-at.at bytes)) c.in-Some.len takes in
    omega (arith, some, c.loop-at-test.true)

pub loop-at-preserved : goal.loop-at-preserved
loop-at-preserved c =
    let bytes : List ℕ = c.args.bytes.now in
    let old : ErasedState = low_of c.loop-at.low in
    let new : ErasedState = low_of c.take_line.new.low in
    let takes : TakesSeenLine c.args.names.now old new (take (length bytes - c.loop-at.at) (drop c.loop-at.at bytes)) c.in-Some.len = rw c.in-Some.is at c.in_ok-len.ensures in
    seen-next c.args.names.now c.args.observer.now (low_of c.args.low.now).configuration bytes old new c.loop-at.at c.in-Some.len c.loop-at.lines c.requires.few c.loop-at.invariant
    (subst (λ (bs : List ℕ). TakesSeenLine c.args.names.now old new bs c.in-Some.len) (rest-is bytes c.loop-at.at) takes)

pub returns-then-is_complete-clause-ok : goal.returns-then-is_complete-clause-ok
returns-then-is_complete-clause-ok c =
    seen-whole c.args.names.now c.args.observer.now (low_of c.args.low.now).configuration c.args.bytes.now (low_of c.loop-at.low) c.loop-at.at c.loop-at.lines c.len.ensures.names c.requires.seen c.loop-at.invariant
    (omega (arith, c.loop-at-test.false)) c.requires.few (c.is_complete.ensures.yes c.if-is_complete.true)

pub returns-else-is_complete-clause-err : goal.returns-else-is_complete-clause-err
returns-else-is_complete-clause-err c =
    inr (seen-short c.args.names.now c.args.observer.now (low_of c.args.low.now).configuration c.args.bytes.now (low_of c.loop-at.low) c.loop-at.at c.loop-at.lines c.requires.seen c.loop-at.invariant (omega (arith, c.loop-at-test.false)) c.requires.few
    (c.is_complete.ensures.no c.if-is_complete.false))
