-- What a journal that can be printed releases to an observer can be printed.
use Rattle.std.proofs.Common.{ℕ, Bool, true, false, not, ◌&&◌, if◌then◌else◌, List, [], ◌∷◌, All}
use Rattle.std.proofs.lemmas.List.Elements.{All-nil, All-head, All-tail, All-cons, All-append}
use Rattle.lio_labels.specs.declared.label.Label.{Label}
use Rattle.lio_labels.specs.Flow.{flows}
use Rattle.lio_values.specs.declared.value.Content.{Content}
use Rattle.lio_values.specs.declared.act.Act.{Act}
use Rattle.lio_values.specs.declared.act.Act.TheVariants as act
use Rattle.lio_values.specs.declared.act.Reply.{Reply}
use Rattle.lio_values.specs.declared.act.Reply.TheVariants.{Done}
use Rattle.lio_events.specs.Printable.{IsActNamed, ActKeepsPure, IsPrintable}
use Rattle.lio_events.specs.Views.{released_to, releases}
use Rattle.lio_calculus_runs.specs.NameLaws.{IsContentPrintable, ReleasesArePrintable}

if-printable : (names : List (List ℕ)) (shown : Bool) (content : Content) → IsContentPrintable names content → All (IsContentPrintable names) (if shown then content ∷ [] else [])
if-printable names true content p = All-cons (IsContentPrintable names) content [] p (All-nil (IsContentPrintable names))
if-printable names false content p = All-nil (IsContentPrintable names)

entry-printable : (names : List (List ℕ)) (observer : Label) (asked : Act) (reply : Reply) → IsActNamed names asked → ActKeepsPure asked → All (IsContentPrintable names) (released_to observer asked reply)
unfolding released_to
entry-printable names observer (act.Release source target power content) Done named pure = if-printable names (not (flows source observer) && flows target observer) content (named.3, pure)
entry-printable names observer (act.Expose source target power content) Done named pure = if-printable names (not (flows source observer) && flows target observer) content (named.3, pure)
entry-printable names observer asked reply named pure = All-nil (IsContentPrintable names)

pub releases_are_printable : ReleasesArePrintable
unfolding releases
releases_are_printable names observer [] all = All-nil (IsContentPrintable names)
releases_are_printable names observer (entry ∷ entries) all =
    let first : IsPrintable names entry = All-head (IsPrintable names) entry entries all in
    All-append (IsContentPrintable names) (released_to observer entry.act entry.reply) (releases observer entries) (entry-printable names observer entry.act entry.reply first.act first.pure.0)
    (releases_are_printable names observer entries (All-tail (IsPrintable names) entry entries all))
