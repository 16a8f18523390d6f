use Rattle.std.proofs.Common.{◌∙◌, sym, ap, List, length}
use Rattle.lio_values.specs.declared.entry.Entry.{Entry}
use Rattle.lio_values.specs.Erasure.{erase_entry}
use Rattle.lio_events.proofs.ViewLemmas.{view-one, view-no}
use Rattle.lio_events.proofs.seen.append_seen.Goals as goal

pub returns-in_ok-push-clause-view : goal.returns-in_ok-push-clause-view
returns-in_ok-push-clause-view c =
    view-one c.args.observer.now c.args.view.now c.push.new.self c.args.entry.now c.in_ok-seen.field-0 (sym c.if-flows.ensures.test) c.in_ok-push.ensures.ok
    (c.in_ok-seen.ensures ∙ ap (λ (entries : List Entry). erase_entry c.args.observer.now (record c.args.entry.now { ticket = length entries })) c.entries.ensures.entries)

pub returns-else-flows-clause-view : goal.returns-else-flows-clause-view
returns-else-flows-clause-view c = view-no c.args.observer.now c.args.view.now c.args.entry.now (sym c.if-flows.ensures.test)
