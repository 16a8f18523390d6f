-- Views and releases, entry by entry.
use Rattle.std.proofs.Common.{◌≡◌, ◌∙◌, refl, sym, ap, ℕ, suc, ◌+◌, ◌<◌, ◌≤◌, arith, Bool, true, false, List, [], ◌∷◌, ◌++◌, length, get_or, drop, drop-cons, add-one, append_assoc, length-append}
use Rattle.std.proofs.Math.ListN.{drop_of_length-le}
use Rattle.std.proofs.lemmas.List.{append-nil}
use Rattle.std.proofs.lemmas.List.Elements.{All-push}
use Rattle.lio_labels.specs.declared.label.Label.{Label}
use Rattle.lio_labels.specs.Flow.{flows}
use Rattle.lio_values.specs.declared.entry.Entry.{Entry}
use Rattle.lio_values.specs.declared.value.Content.{Content}
use Rattle.lio_values.specs.Erasure.{erase_entry}
use Rattle.lio_events.specs.Views.{released_to}
use Rattle.lio_events.specs.Views.{releases, view}
use Rattle.lio_events.specs.Tickets.{AreBelow}

pub view-seen : (observer : Label) (ticket : ℕ) (entry : Entry) (entries : List Entry) → flows entry.at observer ≡ true
    → view observer ticket (entry ∷ entries) ≡ erase_entry observer (record entry { ticket = ticket }) ∷ view observer (ticket + 1) entries
unfolding view
view-seen observer ticket entry entries is = rw is refl

pub view-unseen : (observer : Label) (ticket : ℕ) (entry : Entry) (entries : List Entry) → flows entry.at observer ≡ false → view observer ticket (entry ∷ entries) ≡ view observer ticket entries
unfolding view
view-unseen observer ticket entry entries is = rw is refl

pub view-none : (observer : Label) (ticket : ℕ) → view observer ticket [] ≡ []
unfolding view
view-none observer ticket = refl

pub releases-step : (observer : Label) (entry : Entry) (entries : List Entry) → releases observer (entry ∷ entries) ≡ released_to observer entry.act entry.reply ++ releases observer entries
unfolding releases
releases-step observer entry entries = refl

pub releases-none : (observer : Label) → releases observer [] ≡ []
unfolding releases
releases-none observer = refl

-- the entries from a place on
from-place : (entries : List Entry) (i : ℕ) (entry : Entry) → i < length entries → entry ≡ get_or entries i entry → drop i entries ≡ entry ∷ drop (i + 1) entries
from-place entries i entry below is = drop-cons entries i entry below ∙ ap (λ (e : Entry). e ∷ drop (suc i) entries) (sym is) ∙ ap (λ (n : ℕ). entry ∷ drop n entries) (sym (add-one i))

view-cons : (observer : Label) (ticket : ℕ) (entry : Entry) (rest : List Entry) → view observer ticket (entry ∷ rest) ≡ view observer ticket (entry ∷ []) ++ view observer (ticket + length (view observer ticket (entry ∷ []))) rest
view-cons observer ticket entry rest = by (flows entry.at observer) refl
  where
    by : (seen : Bool) → flows entry.at observer ≡ seen → view observer ticket (entry ∷ rest) ≡ view observer ticket (entry ∷ []) ++ view observer (ticket + length (view observer ticket (entry ∷ []))) rest
    by true seen = rw (view-seen observer ticket entry rest seen, view-seen observer ticket entry [] seen, view-none observer (ticket + 1)) refl
    by false seen = rw (view-unseen observer ticket entry rest seen, view-unseen observer ticket entry [] seen, view-none observer ticket) (ap (λ (n : ℕ). view observer n rest) (omega arith))

-- one entry more
pub view-next : (observer : Label) (i : ℕ) (entries so_far after whole : List Entry) (entry : Entry) → i < length entries → entry ≡ get_or entries i entry
    → after ≡ so_far ++ view observer (length so_far) (entry ∷ []) → so_far ++ view observer (length so_far) (drop i entries) ≡ whole → after ++ view observer (length after) (drop (i + 1) entries) ≡ whole
view-next observer i entries so_far after whole entry below at more before =
    let rest : List Entry = drop (i + 1) entries in
    let one : List Entry = view observer (length so_far) (entry ∷ []) in
    ap (λ (xs : List Entry). xs ++ view observer (length xs) rest) more
    ∙ append_assoc so_far one (view observer (length (so_far ++ one)) rest)
    ∙ ap (λ (n : ℕ). so_far ++ (one ++ view observer n rest)) (length-append so_far one)
    ∙ ap (λ (xs : List Entry). so_far ++ xs) (sym (view-cons observer (length so_far) entry rest))
    ∙ ap (λ (xs : List Entry). so_far ++ view observer (length so_far) xs) (sym (from-place entries i entry below at))
    ∙ before

-- nothing is left
pub view-end : (observer : Label) (i : ℕ) (entries so_far whole : List Entry) → length entries ≤ i → so_far ++ view observer (length so_far) (drop i entries) ≡ whole → so_far ≡ whole
view-end observer i entries so_far whole past before =
    sym (append-nil so_far) ∙ ap (λ (rest : List Entry). so_far ++ rest) (sym (ap (view observer (length so_far)) (drop_of_length-le entries past) ∙ view-none observer (length so_far))) ∙ before

-- the view of one entry that is visible, and of one that isn't
pub view-one : (observer : Label) (so_far after : List Entry) (entry seen : Entry) → flows entry.at observer ≡ true → after ≡ so_far ++ seen ∷ [] → seen ≡ erase_entry observer (record entry { ticket = length so_far })
    → after ≡ so_far ++ view observer (length so_far) (entry ∷ [])
view-one observer so_far after entry seen visible pushed is =
    pushed ∙ ap (λ (e : Entry). so_far ++ e ∷ []) is
    ∙ sym (ap (λ (xs : List Entry). so_far ++ xs) (view-seen observer (length so_far) entry [] visible ∙ ap (λ (xs : List Entry). erase_entry observer (record entry { ticket = length so_far }) ∷ xs) (view-none observer (length so_far + 1))))

pub view-no : (observer : Label) (so_far : List Entry) (entry : Entry) → flows entry.at observer ≡ false → so_far ≡ so_far ++ view observer (length so_far) (entry ∷ [])
view-no observer so_far entry unseen = sym (ap (λ (xs : List Entry). so_far ++ xs) (view-unseen observer (length so_far) entry [] unseen ∙ view-none observer (length so_far)) ∙ append-nil so_far)

-- tickets stay below where one is added that is the next
pub below-next : (entries : List Entry) (entry : Entry) → AreBelow (length entries) entries → entry.ticket ≡ length entries → AreBelow (length (entries ++ entry ∷ [])) (entries ++ entry ∷ [])
below-next entries entry all is =
    let more : length (entries ++ entry ∷ []) ≡ length entries + 1 = length-append entries (entry ∷ []) in
    All-push (λ e. e.ticket < length (entries ++ entry ∷ [])) entries entry (λ k d within. omega (arith, more, all k d within)) (omega (arith, more, is))

-- the contents that one entry more releases
pub releases-next : (observer : Label) (i : ℕ) (entries : List Entry) (so_far after whole : List Content) (entry : Entry) → i < length entries → entry ≡ get_or entries i entry
    → after ≡ so_far ++ released_to observer entry.act entry.reply → so_far ++ releases observer (drop i entries) ≡ whole → after ++ releases observer (drop (i + 1) entries) ≡ whole
releases-next observer i entries so_far after whole entry below at more before =
    ap (λ (cs : List Content). cs ++ releases observer (drop (i + 1) entries)) more
    ∙ append_assoc so_far (released_to observer entry.act entry.reply) (releases observer (drop (i + 1) entries))
    ∙ sym (ap (λ (rest : List Content). so_far ++ rest) (ap (releases observer) (from-place entries i entry below at) ∙ releases-step observer entry (drop (i + 1) entries)))
    ∙ before

pub releases-end : (observer : Label) (i : ℕ) (entries : List Entry) (so_far whole : List Content) → length entries ≤ i → so_far ++ releases observer (drop i entries) ≡ whole → so_far ≡ whole
releases-end observer i entries so_far whole past before =
    sym (append-nil so_far) ∙ ap (λ (rest : List Content). so_far ++ rest) (sym (ap (releases observer) (drop_of_length-le entries past) ∙ releases-none observer)) ∙ before
