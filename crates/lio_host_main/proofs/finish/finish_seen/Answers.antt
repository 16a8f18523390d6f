use Rattle.std.proofs.Common.{◌≡◌, ◌∙◌, ap, subst, sym, Err, ℕ, List, Option, All}
use Rattle.std.specs.Option.{option_map}
use Rattle.std.proofs.lemmas.Result.{err_from_is_err_and}
use Rattle.lio_events.specs.Printable.{IsPrintable}
use Rattle.lio_policy.specs.Policy.{PolicyParts}
use Rattle.lio_outside.specs.Call.{Outside, outside}
use Rattle.lio_outside.specs.Outputs.{kept}
use Rattle.lio_outside.specs.Said.{SaidPartly, said_with}
use Rattle.lio_rounds.specs.Runs.{ran_of}
use Rattle.lio_front.specs.Outputs.{outputs}
use Rattle.lio_calculus.specs.Run.{Ran}
use Rattle.lio_host_main.specs.Order.{Order, order_of, written}
use Rattle.lio_host_main.specs.Answers.{summary_of}
use Rattle.lio_host_main.proofs.Finishes.{finishes-unsaid, seen-printable, summary-is, written-is}
use Rattle.lio_host_main.proofs.finish.finish_seen.Goals as goal

pub write_out-requires-clause-seen : goal.write_out-requires-clause-seen
write_out-requires-clause-seen g c =
    let names = c.args.order.now.job.policy.names in
    let printable : All (IsPrintable names) c.args.seen.now =
    subst (All (IsPrintable names)) (sym c.requires.seen) (seen-printable names c.args.order.now.observer c.args.ran.now.journal c.requires.printable) in
    subst (λ (p : PolicyParts). All (IsPrintable p.names) c.args.seen.now) (sym c.policy-policy.ensures.policy) printable

pub returns-in_err-say-clause-err : goal.returns-in_err-say-clause-err
returns-in_err-say-clause-err g c =
    let p = err_from_is_err_and c.from_residual-in_err-say.result c.from_residual-in_err-say.ensures.1 in
    let order : Order = order_of c.args.order.now in
    let ran : Ran = ran_of c.args.order.now.job.script c.args.ran.now in
    let told = g.S.Store.holds c.args.store.now in
    let file : Option (List ℕ) = option_map (λ name. name.now) c.view_of-file.result in
    let same : outputs c.policy-policy.result.now ran.entries order.command.history file c.args.seen.now ≡ written order ran.entries =
    written-is order ran.entries c.policy-policy.result.now file c.args.seen.now c.policy-policy.ensures.policy c.view_of-file.ensures c.requires.seen in
    let text : c.as_slice.result.now ≡ summary_of order ran =
    summary-is order ran c.policy-policy.result.now c.in_ok-text.text.items c.as_slice.result.now c.policy-policy.ensures.policy (c.in_ok-text.ensures c.args.order.now.job.script) c.as_slice.ensures.value in
    let before : Outside = outside g.S.Store.holds g.S.Store.faults g.W.Say.said g.W.Say.faults c.args.store.now c.args.say.now in
    let after : Outside = outside g.S.Store.holds g.S.Store.faults g.W.Say.said g.W.Say.faults c.write_out.new.store c.say.new.self in
    rw (p.1, p.2) (finishes-unsaid order ran before after c.in_err-say.field-0.0 (c.in_ok-write_out.ensures.ok ∙ ap (kept told) same)
    (λ is. subst (λ (bytes : List ℕ). SaidPartly (g.W.Say.said c.args.say.now) (g.W.Say.said c.say.new.self) bytes) text (c.in_err-say.ensures.failed_partly (ap Err is)))
    (λ is. c.in_err-say.ensures.failed_counted (ap Err is))
    (λ is. c.in_err-say.ensures.no_memory (ap Err is)))

pub returns-clause-ok : goal.returns-clause-ok
returns-clause-ok g c =
    let order : Order = order_of c.args.order.now in
    let ran : Ran = ran_of c.args.order.now.job.script c.args.ran.now in
    let told = g.S.Store.holds c.args.store.now in
    let said = g.W.Say.said c.args.say.now in
    let file : Option (List ℕ) = option_map (λ name. name.now) c.view_of-file.result in
    let same : outputs c.policy-policy.result.now ran.entries order.command.history file c.args.seen.now ≡ written order ran.entries =
    written-is order ran.entries c.policy-policy.result.now file c.args.seen.now c.policy-policy.ensures.policy c.view_of-file.ensures c.requires.seen in
    let text : c.as_slice.result.now ≡ summary_of order ran =
    summary-is order ran c.policy-policy.result.now c.in_ok-text.text.items c.as_slice.result.now c.policy-policy.ensures.policy (c.in_ok-text.ensures c.args.order.now.job.script) c.as_slice.ensures.value in
    (c.in_ok-write_out.ensures.ok ∙ ap (kept told) same, c.in_ok-say.ensures.ok ∙ ap (said_with said) text)
