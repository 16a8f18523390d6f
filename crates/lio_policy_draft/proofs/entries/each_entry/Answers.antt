use Rattle.std.proofs.Common.{sym, ◌∙◌}
use Rattle.lio_policy_draft.specs.Converted.{unmade}
use Rattle.lio_policy_draft.proofs.FailingLemmas.{converted_ok, converted_err, first_from_none, fault_from}
use Rattle.lio_policy_draft.proofs.entries.each_entry.Goals as goal

pub returns-in-Ok : goal.returns-in-Ok
returns-in-Ok g c =
    let gives = g.C.Conversion.gives c.args.by.now in
    let made = converted_ok gives c.args.items.now c.in-Ok.made (sym c.in-Ok.is ∙ c.in_ok-made.ensures) in
    (first_from_none c.args.first (unmade gives c.args.items.now) made.0, made.1)

pub returns-in-Err : goal.returns-in-Err
returns-in-Err g c =
    let gives = g.C.Conversion.gives c.args.by.now in
    let at = converted_err gives c.args.items.now c.in-Err.place (sym c.in-Err.is ∙ c.in_ok-made.ensures) in
    fault_from c.args.rule c.args.first c.in-Err.place (unmade gives c.args.items.now) c.fault_at.result c.fault_at.ensures at
