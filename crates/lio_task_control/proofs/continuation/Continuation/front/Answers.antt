use Rattle.std.proofs.Common.{[], ◌<◌, length, ◌≡◌, ◌∙◌, sym, subst, arith}
use Rattle.lio_syntax.specs.Lines.{script_lines}
use Rattle.lio_task_control.specs.Continuation.{place_of}
use Rattle.lio_task_control.proofs.ContinuationLemmas.{below, items_over, no_calls, none_left, back_below}
use Rattle.std.proofs.lemmas.Bool.Decides.{nat_tests}
use Rattle.lio_task_control.specs.Front.{IsBack}
use Rattle.lio_task_control.proofs.continuation.Continuation.front.Goals as goal

pub returns-in-Some : goal.returns-in-Some
unfolding place_of
returns-in-Some c = c.in-Some.ensures (below (script_lines c.args.script.now) c.args.self.now.calls.items)

pub returns-then-is_empty : goal.returns-then-is_empty
unfolding place_of
returns-then-is_empty c =
    let ls = script_lines c.args.script.now in
    let calls = c.args.self.now.calls.items in
    let none : length calls ≡ 0 = grind (arith, nat_tests, c.if-is_empty.ensures) in
    items_over ls c.args.self.now.frame [] (below ls calls) c.in_default.ensures ∙ no_calls ls calls (none_left calls none)

pub returns-else-is_empty : goal.returns-else-is_empty
unfolding place_of
returns-else-is_empty c =
    let ls = script_lines c.args.script.now in
    let calls = c.args.self.now.calls.items in
    let some : 0 < length calls = grind (arith, nat_tests, c.if-is_empty.ensures) in
    subst IsBack (sym (items_over ls c.args.self.now.frame [] (below ls calls) c.in_default.ensures)) (back_below ls calls some)
