use Rattle.std.proofs.Common.{◌≡◌, ◌≤◌, ◌<◌, length, get_or, ltb, Some, None, option_map, option_and_then, slice_get, refl, sym, ap, ◌∙◌}
use Rattle.std.proofs.lemmas.Bool.{ltb-true, ltb-false}
use Rattle.std.proofs.lemmas.Option.{slice_get_past, slice_get_read}
use Rattle.lio_clauses.specs.Names.{number_of}
use Rattle.lio_clauses.specs.FormulaText.{shown}
use Rattle.lio_values.specs.declared.value.Plain.TheVariants as plain
use Rattle.lio_policy.specs.Rules.{channel_arg}
use Rattle.lio_policy.specs.declared.policy.Arg.TheVariants as arg
use Rattle.lio_policy.proofs.ArgumentLemmas.{entry-channel}
use Rattle.lio_policy.proofs.arguments.Known.channel.Goals as goal

pub returns-in_default : goal.returns-in_default
returns-in_default c =
    let k = c.args.self.now in
    let none : None ≡ number_of k.channel_names c.args.name.now = c.in_default.ensures ∙ ap (number_of k.channel_names) c.bytes.ensures in
    ap (option_and_then (λ n. option_map (channel_arg n) (slice_get k.channels n))) none ∙ sym (entry-channel k c.args.name.now)

pub returns-in_default-get : goal.returns-in_default-get
returns-in_default-get c =
    let k = c.args.self.now in
    let n = c.in-Some.number in
    let found : Some n ≡ number_of k.channel_names c.args.name.now = c.in-Some.ensures ∙ ap (number_of k.channel_names) c.bytes.ensures in
    let past : length k.channels ≤ n = ltb-false n (length k.channels) (ap (λ cs. ltb n (length cs)) (sym c.as_slice.ensures) ∙ sym c.in_default-get.ensures.lookup.0) in
    ap (option_map (channel_arg n)) (sym (slice_get_past k.channels n past)) ∙ ap (option_and_then (λ i. option_map (channel_arg i) (slice_get k.channels i))) found
    ∙ sym (entry-channel k c.args.name.now)

pub returns : goal.returns
returns c =
    let k = c.args.self.now in
    let n = c.in-Some.number in
    let channel = c.in-Some-get.channel.now in
    let found : Some n ≡ number_of k.channel_names c.args.name.now = c.in-Some.ensures ∙ ap (number_of k.channel_names) c.bytes.ensures in
    let within : n < length k.channels = ltb-true n (length k.channels) (ap (λ cs. ltb n (length cs)) (sym c.as_slice.ensures) ∙ sym c.in-Some-get.ensures.lookup.0) in
    let read : channel ≡ get_or k.channels n channel = c.in-Some-get.ensures.lookup.1 ∙ ap (λ cs. get_or cs n channel) c.as_slice.ensures in
    let made = ap Some (ap (λ number. arg.Fixed (plain.ChanOf (record { number = number; label = c.in_ok-label.label }))) c.shown-number.ensures
    ∙ ap (λ label. arg.Fixed (plain.ChanOf (record { number = shown n; label = label }))) c.in_ok-label.ensures.ok) in
    made ∙ ap (option_map (channel_arg n)) (sym (slice_get_read k.channels (length k.channels) n channel refl within read))
    ∙ ap (option_and_then (λ i. option_map (channel_arg i) (slice_get k.channels i))) found ∙ sym (entry-channel k c.args.name.now)
