-- The laws of views.
use Rattle.std.proofs.Common.{◌≡◌, ◌∙◌, refl, sym, ap, subst, ℕ, ◌+◌, Bool, true, false, not, ◌&&◌, if◌then◌else◌, IsTrue, List, [], ◌∷◌, All}
use Rattle.std.proofs.lemmas.List.Elements.{All-nil, All-cons, All-head, All-tail, All-append}
use Rattle.lio_labels.specs.declared.label.Label.{Label}
use Rattle.lio_labels.specs.Flow.{flows}
use Rattle.lio_labels.proofs.FlowLemmas.{flow_is_transitive}
use Rattle.lio_values.specs.declared.act.Act.{Act}
use Rattle.lio_values.specs.declared.act.Act.TheVariants as act
use Rattle.lio_values.specs.declared.act.Reply.{Reply}
use Rattle.lio_values.specs.declared.act.Reply.TheVariants.{Done}
use Rattle.lio_values.specs.declared.entry.Entry.{Entry}
use Rattle.lio_values.specs.Erasure.{erase_entry}
use Rattle.lio_values.proofs.ErasureLemmas.{entry_erased_below}
use Rattle.lio_values.specs.declared.value.Content.{Content}
use Rattle.lio_values.specs.Named.{IsContentNamed}
use Rattle.lio_events.specs.Printable.{IsActNamed, IsPrintable}
use Rattle.lio_events.proofs.PrintableLemmas.{erased_is_printable}
use Rattle.lio_events.specs.Views.{released_to}
use Rattle.lio_events.specs.Views.{releases, view}
use Rattle.lio_events.specs.ViewLaws.{ReleasesAreNamed, ViewIsPrintable, ViewOfView}
use Rattle.lio_events.proofs.ViewLemmas.{view-seen, view-unseen, view-none, releases-none, releases-step}

below-one : (lower upper : Label) (ticket other : ℕ) (entry : Entry) (entries : List Entry) → IsTrue (flows lower upper) → ((mine theirs : ℕ) → view lower mine (view upper theirs entries) ≡ view lower mine entries)
    → (high low : Bool) → flows entry.at upper ≡ high → flows entry.at lower ≡ low → view lower ticket (view upper other (entry ∷ entries)) ≡ view lower ticket (entry ∷ entries)
below-one lower upper ticket other entry entries below rest true true high low =
    ap (view lower ticket) (view-seen upper other entry entries high)
    ∙ view-seen lower ticket (erase_entry upper (record entry { ticket = other })) (view upper (other + 1) entries) low
    ∙ ap (λ (e : Entry). e ∷ view lower (ticket + 1) (view upper (other + 1) entries)) (entry_erased_below lower upper (record entry { ticket = ticket }) below)
    ∙ ap (λ (es : List Entry). erase_entry lower (record entry { ticket = ticket }) ∷ es) (rest (ticket + 1) (other + 1))
    ∙ sym (view-seen lower ticket entry entries low)
below-one lower upper ticket other entry entries below rest true false high low =
    ap (view lower ticket) (view-seen upper other entry entries high)
    ∙ view-unseen lower ticket (erase_entry upper (record entry { ticket = other })) (view upper (other + 1) entries) low
    ∙ rest ticket (other + 1)
    ∙ sym (view-unseen lower ticket entry entries low)
below-one lower upper ticket other entry entries below rest false false high low =
    ap (view lower ticket) (view-unseen upper other entry entries high) ∙ rest ticket other ∙ sym (view-unseen lower ticket entry entries low)
below-one lower upper ticket other entry entries below rest false true high low = let up : IsTrue (flows entry.at upper) = flow_is_transitive entry.at lower upper low below in absurd (cc)

pub view_of_view : ViewOfView
view_of_view lower upper ticket other [] below = ap (view lower ticket) (view-none upper other)
view_of_view lower upper ticket other (entry ∷ entries) below =
    below-one lower upper ticket other entry entries below (λ mine theirs. view_of_view lower upper mine theirs entries below) (flows entry.at upper) (flows entry.at lower) refl refl

printable-one : (names : List (List ℕ)) (observer : Label) (ticket : ℕ) (entry : Entry) (entries : List Entry) → IsPrintable names entry → ((next : ℕ) → All (IsPrintable names) (view observer next entries))
    → (seen : Bool) → flows entry.at observer ≡ seen → All (IsPrintable names) (view observer ticket (entry ∷ entries))
printable-one names observer ticket entry entries first rest true seen =
    let numbered : IsPrintable names (record entry { ticket = ticket }) = record { at = first.at; act = first.act; raise = first.raise; reply = first.reply; pure = first.pure } in
    subst (All (IsPrintable names)) (sym (view-seen observer ticket entry entries seen))
    (All-cons (IsPrintable names) (erase_entry observer (record entry { ticket = ticket })) (view observer (ticket + 1) entries)
    (erased_is_printable names observer (record entry { ticket = ticket }) numbered) (rest (ticket + 1)))
printable-one names observer ticket entry entries first rest false seen = subst (All (IsPrintable names)) (sym (view-unseen observer ticket entry entries seen)) (rest ticket)

pub view_is_printable : ViewIsPrintable
view_is_printable names observer ticket [] all = subst (All (IsPrintable names)) (sym (view-none observer ticket)) (All-nil (IsPrintable names))
view_is_printable names observer ticket (entry ∷ entries) all =
    printable-one names observer ticket entry entries (All-head (IsPrintable names) entry entries all)
    (λ next. view_is_printable names observer next entries (All-tail (IsPrintable names) entry entries all)) (flows entry.at observer) refl

shown-named : (names : List (List ℕ)) (shown : Bool) (content : Content) → IsContentNamed names content → All (IsContentNamed names) (if shown then content ∷ [] else [])
shown-named names true content named = All-cons (IsContentNamed names) content [] named (All-nil (IsContentNamed names))
shown-named names false content named = All-nil (IsContentNamed names)

released-named : (names : List (List ℕ)) (observer : Label) (asked : Act) (reply : Reply) → IsActNamed names asked → All (IsContentNamed names) (released_to observer asked reply)
unfolding released_to
released-named names observer (act.Release source target power content) Done named = shown-named names (not (flows source observer) && flows target observer) content named.3
released-named names observer (act.Expose source target power content) Done named = shown-named names (not (flows source observer) && flows target observer) content named.3
released-named names observer asked reply named = All-nil (IsContentNamed names)

pub releases_are_named : ReleasesAreNamed
releases_are_named names observer [] all = subst (All (IsContentNamed names)) (sym (releases-none observer)) (All-nil (IsContentNamed names))
releases_are_named names observer (entry ∷ entries) all =
    subst (All (IsContentNamed names)) (sym (releases-step observer entry entries))
    (All-append (IsContentNamed names) (released_to observer entry.act entry.reply) (releases observer entries)
    (released-named names observer entry.act entry.reply (All-head (IsPrintable names) entry entries all).act)
    (releases_are_named names observer entries (All-tail (IsPrintable names) entry entries all)))
