use Rattle.std.proofs.Common.{◌≡◌, ◌<◌, ◌≤◌, length, Some, slice_get, refl, sym, ap, ◌∙◌}
use Rattle.std.specs.List.{list_any}
use Rattle.std.proofs.lemmas.Bool.{ltb-true, ltb-false}
use Rattle.std.proofs.lemmas.Option.{slice_get_past, slice_get_read}
use Rattle.lio_policy.specs.Lists.{extent}
use Rattle.lio_policy.specs.Rules.{is_large, lists_fail}
use Rattle.lio_policy.proofs.limits.lists_fail.Goals as goal

pub returns-in-Some : goal.returns-in-Some
returns-in-Some c =
    let entries = c.args.entries.now in
    let place = c.args.place in
    let entry = c.in-Some.entry.now in
    let within : place < length entries = ltb-true place (length entries) (sym c.in-Some.ensures.lookup.0) in
    let at : slice_get entries place ≡ Some entry = slice_get_read entries (length entries) place entry refl within c.in-Some.ensures.lookup.1 in
    c.has_large.ensures
    ∙ ap (list_any (λ a. is_large c.args.limits c.args.longest (extent c.args.inputs.now a))) c.as_slice.ensures
    ∙ ap (lists_fail c.args.limits c.args.longest c.args.inputs.now) (sym at)

pub returns-in-None : goal.returns-in-None
returns-in-None c =
    let entries = c.args.entries.now in
    let past : length entries ≤ c.args.place = ltb-false c.args.place (length entries) (sym c.in-None.ensures.lookup.0) in
    ap (lists_fail c.args.limits c.args.longest c.args.inputs.now) (sym (slice_get_past entries c.args.place past))
