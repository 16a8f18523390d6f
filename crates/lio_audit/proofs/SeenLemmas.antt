-- Which erased turn's line stands at the front of bytes.
use Rattle.std.proofs.Common.{◌≡◌, ◌∙◌, refl, sym, ap, subst, ℕ, ◌<◌, ◌^◌, Bool, true, false, true≢false, IsTrue, List, [], ◌∷◌, ◌++◌, length, length-append, Option, Some, is_some, arith, All, codes}
use Rattle.std.specs.Prelude.{decimal}
use Rattle.lio_labels.specs.declared.label.Label.{Label}
use Rattle.lio_values.specs.declared.value.Content.{Content}
use Rattle.lio_values.specs.declared.entry.Entry.{Entry}
use Rattle.lio_values.specs.PlainText.{label_in_brackets}
use Rattle.lio_events.specs.EntryText.{act_text, line_text, reply_text, target_text}
use Rattle.lio_events.specs.JournalText.{entry_text}
use Rattle.lio_events.specs.Views.{released_to}
use Rattle.lio_events_reading.specs.Lines.{HasNoneSeen, IsOnlySeen}
use Rattle.lio_events_reading.specs.Over.{IsEntryOver}
use Rattle.lio_calculus.specs.Erased.{LowTurn, low}
use Rattle.lio_calculus.specs.Laws.{IsShownContent}
use Rattle.lio_calculus.specs.Step.{Configuration, can}
use Rattle.lio_calculus.proofs.EnabledLemmas.{low_turns_where_enabled}
use Rattle.lio_calculus_runs.proofs.LowTurnLemmas.{low_ticket_stands_in_the_entry, low_with_ticket}
use Rattle.lio_erasure.specs.LowParts.{ErasedState}
use Rattle.lio_erasure.specs.Turn.{TakesTurn}
use Rattle.lio_audit.specs.Seen.{Follows}
use Rattle.lio_audit.specs.View.{BeginsSeenTurn, IsSeenTurn, SeenStops}

-- an entry with another ticket is over the names, and has the same text without it
pub over-ticket : (names : List (List ℕ)) (entry : Entry) (ticket : ℕ) → ticket < 2 ^ 64 → IsEntryOver names entry → IsEntryOver names (record entry { ticket = ticket })
over-ticket names entry ticket wide over = record {
  printable = record { at = over.printable.at; act = over.printable.act; raise = over.printable.raise; reply = over.printable.reply; pure = over.printable.pure };
  fits = record { ticket = wide; actor = over.fits.actor; target = over.fits.target; at = over.fits.at; act = over.fits.act; reply = over.fits.reply };
}

pub text-ticket : (names : List (List ℕ)) (entry : Entry) (ticket : ℕ) → entry_text names false (record entry { ticket = ticket }) ≡ entry_text names false entry
unfolding entry_text line_text
text-ticket names entry ticket = refl

-- a line has a byte
pub seen-some : (names : List (List ℕ)) (entry : Entry) → 0 < length (entry_text names false entry)
unfolding entry_text line_text
seen-some names entry =
    let front : List ℕ = decimal entry.actor ++ codes " " ++ target_text entry.target ++ codes " " ++ label_in_brackets names entry.at ++ codes " " ++ act_text names entry.act ++ codes " : " ++ reply_text names entry.reply in
    omega (arith, length-append front (codes "\n"))

-- a turn that is seen is seen with each other ticket
pub seen-ticket : (observer : Label) (c : Configuration) (ticket : ℕ) (turn : LowTurn) → IsSeenTurn observer c turn → IsSeenTurn observer c (low_with_ticket ticket turn)
seen-ticket observer c ticket turn seen = record {
  is_step = low_ticket_stands_in_the_entry observer turn.entry.ticket ticket c turn.entry.actor (released_to observer turn.entry.act turn.entry.reply) turn seen.is_step;
  shown = seen.shown;
  none_left = seen.none_left;
}

-- where an entry's actor takes no turn that shows it, with the contents that it releases, there is none
pub not-followed : (s new : ErasedState) (entry : Entry) (contents : List Content) → contents ≡ released_to s.observer entry.act entry.reply → entry.ticket ≡ 0
    → ((turn : LowTurn) → low s.observer 0 s.configuration entry.actor contents ≡ Some turn → turn.entry ≡ entry → turn.left ≡ [] → All IsShownContent contents → ⊥) → Follows s new entry false
not-followed s new entry contents is ticket none turn shows seen =
    let taken : (e : Entry) → turn.entry ≡ e → low s.observer e.ticket s.configuration e.actor (released_to s.observer e.act e.reply) ≡ Some turn =
    λ e same. subst (λ (x : Entry). low s.observer x.ticket s.configuration x.actor (released_to s.observer x.act x.reply) ≡ Some turn) same seen.is_step in
    let at_zero : low s.observer 0 s.configuration entry.actor (released_to s.observer entry.act entry.reply) ≡ Some turn =
    subst (λ (n : ℕ). low s.observer n s.configuration entry.actor (released_to s.observer entry.act entry.reply) ≡ Some turn) ticket (taken entry shows) in
    none turn (subst (λ (cs : List Content). low s.observer 0 s.configuration entry.actor cs ≡ Some turn) (sym is) at_zero) shows seen.none_left
    (subst (All IsShownContent) (sym is) (subst (λ (x : Entry). All IsShownContent (released_to s.observer x.act x.reply)) shows seen.shown))

-- one that takes a turn shows the entry where the two are the same
pub follows-took : (old new : ErasedState) (entry taken : Entry) (before left : List Content) (same : Bool) → before ≡ released_to old.observer entry.act entry.reply → entry.ticket ≡ 0 → All IsShownContent before
    → TakesTurn old new entry.actor before left taken → (same ≡ true → (taken ≡ entry) × (left ≡ [])) → (same ≡ false → taken ≡ entry → left ≡ [] → ⊥) → Follows old new entry same
follows-took old new entry taken before left true is ticket shown takes agrees differs = (
  record {
    is_step = subst (λ (n : ℕ). low old.observer n old.configuration entry.actor (released_to old.observer entry.act entry.reply) ≡ Some (record { entry = entry; next = new.configuration; left = [] })) (sym ticket)
        (ap (low old.observer 0 old.configuration entry.actor) (sym is) ∙ takes.turn
        ∙ ap (λ (e : Entry). let turn : LowTurn = record { entry = e; next = new.configuration; left = left } in Some turn) (agrees refl).0
        ∙ ap (λ (cs : List Content). let turn : LowTurn = record { entry = entry; next = new.configuration; left = cs } in Some turn) (agrees refl).1);
    shown = subst (All IsShownContent) is shown;
    none_left = refl;
  },
  takes.observer,
)
follows-took old new entry taken before left false is ticket shown takes agrees differs =
    not-followed old new entry before is ticket (λ turn goes shows nothing all.
    let both : Some turn ≡ Some (record { entry = taken; next = new.configuration; left = left }) = sym goes ∙ takes.turn in
    let one : turn ≡ record { entry = taken; next = new.configuration; left = left } = cc in
    differs refl (sym (ap (λ (t : LowTurn). t.entry) one) ∙ shows) (sym (ap (λ (t : LowTurn). t.left) one) ∙ nothing))

-- one that can't take a turn takes none, whatever is released
pub still-low : (observer : Label) (c : Configuration) (k : ℕ) (contents : List Content) (turn : LowTurn) → can c k ≡ false → low observer 0 c k contents ≡ Some turn → ⊥
still-low observer c k contents turn still takes =
    let moves : IsTrue (can c k) = (low_turns_where_enabled observer 0 c k).alone contents (ap (λ (t : Option LowTurn). is_some t) takes) in
    true≢false (sym moves ∙ still)

-- no turn's line stands at the front where that of no entry stands there
pub none-seen : (names : List (List ℕ)) (observer : Label) (c : Configuration) (bytes : List ℕ) → HasNoneSeen names 0 bytes → BeginsSeenTurn names observer c bytes → ⊥
none-seen names observer c bytes none begins =
    none (record begins.turn.entry { ticket = 0 }) begins.rest (over-ticket names begins.turn.entry 0 (omega arith) begins.over) refl
    (begins.stands ∙ ap (λ (text : List ℕ). text ++ begins.rest) (sym (text-ticket names begins.turn.entry 0)))

-- nor where that of an entry stands there which no turn shows
pub other-seen : (names : List (List ℕ)) (observer : Label) (s new : ErasedState) (bytes : List ℕ) (entry : Entry) → s.observer ≡ observer → IsOnlySeen names 0 bytes entry → Follows s new entry false → BeginsSeenTurn names observer s.configuration bytes → ⊥
other-seen names observer s new bytes entry same only none begins =
    let turn : LowTurn = low_with_ticket 0 begins.turn in
    let shows : turn.entry ≡ entry = only turn.entry begins.rest (over-ticket names begins.turn.entry 0 (omega arith) begins.over) refl
    (begins.stands ∙ ap (λ (text : List ℕ). text ++ begins.rest) (sym (text-ticket names begins.turn.entry 0))) in
    none turn shows (subst (λ (o : Label). IsSeenTurn o s.configuration turn) (sym same) (seen-ticket observer s.configuration 0 begins.turn begins.is_turn))

-- bytes that are there, and at whose front no erased turn's line stands, stop a view
pub stops-seen : (names : List (List ℕ)) (observer : Label) (c : Configuration) (bytes : List ℕ) → 0 < length bytes → (BeginsSeenTurn names observer c bytes → ⊥) → SeenStops names observer c bytes
stops-seen names observer c [] some none = absurd (omega arith)
stops-seen names observer c (byte ∷ bytes) some none = none
