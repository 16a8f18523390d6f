use Rattle.std.proofs.Common.{◌≡◌, ◌∙◌, sym, ap, subst, false, List, [], ◌∷◌, ◌++◌, get_or}
use Rattle.lio_labels.specs.declared.label.Label.{Label}
use Rattle.lio_values.specs.declared.entry.Entry.{Entry}
use Rattle.lio_events.specs.Views.{released_to, releases}
use Rattle.lio_events_reading.specs.Lines.{IsOnlySeen}
use Rattle.lio_events_reading.specs.declared.fault.EntryFault.TheVariants.{NotAnEntry}
use Rattle.lio_erasure.specs.LowParts.{ErasedState, low_of}
use Rattle.lio_audit.specs.Seen.{Follows}
use Rattle.lio_audit.proofs.SeenLemmas.{none-seen, other-seen}
use Rattle.lio_audit.proofs.ViewLemmas.{releases-one}
use Rattle.lio_audit.proofs.view.take_line.Goals as goal

pub returns-in-Err-NotAnEntry : goal.returns-in-Err-NotAnEntry
returns-in-Err-NotAnEntry c =
    let fault : c.in-Err-NotAnEntry.field-0 ≡ NotAnEntry = c.in-Err-NotAnEntry.field-0-is in
    none-seen c.args.names.now c.args.observer.now (low_of c.args.low.now).configuration c.args.bytes.now (c.in-Err-NotAnEntry.ensures.none (cc))

pub follow-requires-clause-released : goal.follow-requires-clause-released
follow-requires-clause-released c =
    let read : Entry = c.in-Ok.found.0 in
    let line : c.push.new.self ≡ read ∷ [] = c.in_ok-push.ensures.ok ∙ ap (λ (es : List Entry). es ++ read ∷ []) c.new-line.ensures in
    let entry : c.index-entries-0.result ≡ read = c.index-entries-0.is ∙ ap (λ (es : List Entry). get_or es 0 c.index-entries-0.result) (c.entries.ensures.entries ∙ line) in
    c.in_ok-released.ensures ∙ ap (releases c.args.observer.now) line ∙ releases-one c.args.observer.now read
    ∙ ap (λ (o : Label). released_to o read.act read.reply) (sym c.requires)
    ∙ ap (λ (e : Entry). released_to (low_of c.args.low.now).observer e.act e.reply) (sym entry)

pub returns : goal.returns
returns c =
    let read : Entry = c.in-Ok.found.0 in
    let s : ErasedState = low_of c.args.low.now in
    let line : c.push.new.self ≡ read ∷ [] = c.in_ok-push.ensures.ok ∙ ap (λ (es : List Entry). es ++ read ∷ []) c.new-line.ensures in
    let entry : c.index-entries-0.result ≡ read = c.index-entries-0.is ∙ ap (λ (es : List Entry). get_or es 0 c.index-entries-0.result) (c.entries.ensures.entries ∙ line) in
    let none : Follows s (low_of c.follow.new.low) c.index-entries-0.result false = subst (Follows s (low_of c.follow.new.low) c.index-entries-0.result) c.if-branch.false c.in_ok-follow.ensures in
    other-seen c.args.names.now c.args.observer.now s (low_of c.follow.new.low) c.args.bytes.now c.index-entries-0.result c.requires
    (subst (IsOnlySeen c.args.names.now 0 c.args.bytes.now) (sym entry) c.in-Ok.ensures.only) none
