use Rattle.std.proofs.Common.{◌≡◌, ◌∙◌, ap, sym, true, false}
use Rattle.std.proofs.lemmas.List.Elements.{All-append}
use Rattle.lio_events_reading.specs.Births.{begins_argument}
use Rattle.lio_events_reading.specs.Over.{IsValueOver}
use Rattle.lio_events_reading.proofs.BirthLemmas.{none_left, one_less, one_is_over}
use Rattle.lio_events_reading.proofs.births.args.Goals as goal

pub arguments-preserved : goal.arguments-preserved
arguments-preserved c =
    let begins : begins_argument c.arguments.text ≡ true = sym (c.begins_argument.ensures ∙ ap begins_argument c.rest.ensures) ∙ c.arguments-test.true in
    rw c.in_ok-push.ensures.ok (
      λ all rest o is. one_less c.args.names.now c.arguments.args c.arguments.text c.skip.new.self c.in_ok-value.field-0 c.value.new.text all rest begins c.skip.ensures.left c.in_ok-value.ensures.finds
          (c.arguments.invariant.0 all rest o is),
      All-append (IsValueOver c.args.names.now) c.arguments.args _ c.arguments.invariant.1 (one_is_over c.args.names.now c.in_ok-value.field-0 c.in_ok-value.ensures.over),
    )

pub returns-clause-finds : goal.returns-clause-finds
returns-clause-finds c = λ all rest o is.
    let begins : begins_argument c.arguments.text ≡ false = sym (c.begins_argument.ensures ∙ ap begins_argument c.rest.ensures) ∙ c.arguments-test.false in
    none_left c.args.names.now c.arguments.args c.arguments.text all rest begins (c.arguments.invariant.0 all rest o is)
