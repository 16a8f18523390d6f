-- Lines are found.
use Rattle.std.proofs.Common.{◌≡◌, ℕ, ◌^◌, ◌<◌, arith, List, [], ◌++◌, take, drop, refl, ap, sym, ◌∙◌, append_assoc, append-nil, codes, Option, true, false}
use Rattle.std.specs.Prelude.{decimal}
use Rattle.std.specs.List.{prefix_len}
use Rattle.std.proofs.lemmas.Fmt.{decimal_injective}
use Rattle.std.proofs.lemmas.List.{append_cancel_left}
use Rattle.lio_labels.specs.declared.label.Label.{Label}
use Rattle.lio_values.specs.declared.act.Act.{Act}
use Rattle.lio_values.specs.declared.act.Reply.{Reply}
use Rattle.lio_values.specs.declared.entry.Entry.{Entry}
use Rattle.lio_values.specs.PlainText.{label_in_brackets}
use Rattle.lio_events.specs.EntryText.{act_text, reply_text, target_text, line_text}
use Rattle.lio_events.specs.JournalText.{entry_text}
use Rattle.lio_events_reading.specs.Fits.{TargetFits}
use Rattle.lio_events_reading.specs.Lines.{turn_text, IsActorOf, IsTurnOver}
use Rattle.lio_events_reading.specs.Cut.{IsWord}
use Rattle.lio_events_reading.specs.Over.{IsLabelOver, IsEntryOver}
use Rattle.lio_events_reading.specs.Reading.{Finds, is_word_byte}
use Rattle.lio_events_reading.proofs.ActLemmas.{colon}
use Rattle.lio_events_reading.proofs.CutLemmas.{finds_word}
use Rattle.lio_events_reading.proofs.NumberLemmas.{digits_word}

behind_actor : (d s t l a c r n e : List ℕ) → (((((((((d ++ s) ++ t) ++ s) ++ l) ++ s) ++ a) ++ c) ++ r) ++ n) ++ e ≡ d ++ (s ++ (t ++ (s ++ (l ++ (s ++ ((((a ++ c) ++ r) ++ n) ++ e))))))
behind_actor d s t l a c r n e = simp append_assoc

pub finds_line : (names : List (List ℕ)) (ticket : ℕ) (old : List ℕ) (actor : ℕ) (one two : List ℕ) (target : Option ℕ) (three four : List ℕ) (at : Label) (five six : List ℕ) (act : Act) (reply : Reply) (left : List ℕ)
    → Finds decimal (λ n. n < 2 ^ 32) old actor one → two ≡ drop 1 one → Finds target_text TargetFits two target three → four ≡ drop 1 three → Finds (label_in_brackets names) (IsLabelOver names) four at five → six ≡ drop 1 five
    → Finds (turn_text names) (IsTurnOver names) six (act, reply) left
    → (entry : Entry) (rest : List ℕ) → IsEntryOver names entry → entry.ticket ≡ ticket → old ≡ line_text names entry ++ rest → record { ticket = ticket; actor = actor; target = target; at = at; act = act; reply = reply } ≡ entry
unfolding line_text
finds_line names ticket old actor one two target three four at five six act reply left fa da ft dt fl dl fr entry rest o same is =
    let blank : List ℕ = codes " " in
    let end : List ℕ = codes "\n" in
    let taken : List ℕ = (act_text names entry.act ++ colon) ++ reply_text names entry.reply in
    let turn : List ℕ = (taken ++ end) ++ rest in
    let here : old ≡ decimal entry.actor ++ (blank ++ (target_text entry.target ++ (blank ++ (label_in_brackets names entry.at ++ (blank ++ turn))))) =
    is ∙ behind_actor (decimal entry.actor) blank (target_text entry.target) (label_in_brackets names entry.at) (act_text names entry.act) colon (reply_text names entry.reply) end rest in
    let ga = fa entry.actor _ o.fits.actor refl here in
    let gt = ft entry.target _ o.fits.target refl (da ∙ ap (λ bytes. drop 1 bytes) ga.1) in
    let gl = fl entry.at _ (o.printable.at, o.fits.at) refl (dt ∙ ap (λ bytes. drop 1 bytes) gt.1) in
    let gr = fr (entry.act, entry.reply) (end ++ rest) ((o.printable.act, o.printable.raise, o.fits.act, o.printable.pure.0), (o.printable.reply, o.fits.reply, o.printable.pure.1)) refl (dl ∙ ap (λ bytes. drop 1 bytes) gl.1 ∙ append_assoc taken end rest) in
    let make : ℕ → ℕ → Option ℕ → Label → Act × Reply → Entry = λ k a t l r. record { ticket = k; actor = a; target = t; at = l; act = r.0; reply = r.1 } in
    ap (λ k. make k actor target at (act, reply)) (sym same) ∙ ap (λ a. make entry.ticket a target at (act, reply)) ga.0 ∙ ap (λ t. make entry.ticket entry.actor t at (act, reply)) gt.0
    ∙ ap (λ l. make entry.ticket entry.actor entry.target l (act, reply)) gl.0 ∙ ap (λ r. make entry.ticket entry.actor entry.target entry.at r) gr.0

-- with a ticket in front
pub finds_ticket : (names : List (List ℕ)) (old : List ℕ) (ticket : ℕ) (mid next : List ℕ) → Finds decimal (λ n. n < 2 ^ 64) old ticket mid → next ≡ drop 1 mid
    → (entry : Entry) → IsEntryOver names entry → old ≡ entry_text names true entry → (entry.ticket ≡ ticket) × (next ≡ line_text names entry)
unfolding entry_text
finds_ticket names old ticket mid next finds d entry o is =
    let blank : List ℕ = codes " " in
    let g = finds entry.ticket (blank ++ line_text names entry) o.fits.ticket refl (is ∙ append_assoc (decimal entry.ticket) blank (line_text names entry)) in
    (sym g.0, d ∙ ap (λ bytes. drop 1 bytes) g.1)

-- what was read of bytes is the entry whose text, without its ticket, stands at their front
abbrev pub GivesEntry : List (List ℕ) → ℕ → List ℕ → Entry → Type 0
GivesEntry names ticket old found = (entry : Entry) (rest : List ℕ) → IsEntryOver names entry → entry.ticket ≡ ticket → old ≡ line_text names entry ++ rest → found ≡ entry

-- and with its ticket
pub is_read : (names : List (List ℕ)) (line start : List ℕ) (ticket : ℕ) (mid next : List ℕ) (found : Entry) → start ≡ line → Finds decimal (λ n. n < 2 ^ 64) start ticket mid → next ≡ drop 1 mid → GivesEntry names ticket next found
    → (entry : Entry) → IsEntryOver names entry → entry_text names true entry ≡ line → found ≡ entry
is_read names line start ticket mid next found all finds d gives entry o is =
    let g = finds_ticket names start ticket mid next finds d entry o (all ∙ sym is) in
    gives entry [] o g.0 (g.1 ∙ sym (append-nil (line_text names entry)))

pub is_seen : (names : List (List ℕ)) (bytes start : List ℕ) (ticket : ℕ) (found : Entry) → start ≡ bytes → GivesEntry names ticket start found
    → (entry : Entry) (rest : List ℕ) → IsEntryOver names entry → entry.ticket ≡ ticket → bytes ≡ entry_text names false entry ++ rest → found ≡ entry
unfolding entry_text
is_seen names bytes start ticket found all gives entry rest o same is = gives entry rest o same (all ∙ is)

-- a line's ticket and actor in front of what stands behind the line
behind_ticket : (d s l r : List ℕ) → ((d ++ s) ++ l) ++ r ≡ d ++ (s ++ (l ++ r))
behind_ticket d s l r = simp append_assoc

pub finds_actor : (bytes word mid next : List ℕ) (actor : ℕ) (left : List ℕ) → Finds (λ word. word) IsWord bytes word mid → next ≡ drop 1 mid → Finds decimal (λ n. n < 2 ^ 32) next actor left → IsActorOf bytes actor
finds_actor bytes word mid next actor left finds d number ticket n rest wide short ends is =
    let blank : List ℕ = codes " " in
    let w = finds (decimal ticket) (blank ++ (decimal n ++ rest)) (digits_word ticket wide) refl is in
    (number n rest short ends (d ∙ ap (λ bytes. drop 1 bytes) w.1)).0

-- so it is the actor of the entry whose line stands there
pub actor_of_line : (bytes : List ℕ) (actor : ℕ) → IsActorOf bytes actor → (names : List (List ℕ)) (entry : Entry) (rest : List ℕ) → entry.ticket < 2 ^ 64 → entry.actor < 2 ^ 32 → bytes ≡ entry_text names true entry ++ rest
    → actor ≡ entry.actor
unfolding entry_text line_text
actor_of_line bytes actor finds names entry rest wide short is =
    let blank : List ℕ = codes " " in
    let end : List ℕ = codes "\n" in
    finds entry.ticket entry.actor _ wide short refl (is ∙ behind_ticket (decimal entry.ticket) blank (line_text names entry) rest
    ∙ ap (λ (bytes : List ℕ). decimal entry.ticket ++ (blank ++ bytes)) (behind_actor (decimal entry.actor) blank (target_text entry.target) (label_in_brackets names entry.at) (act_text names entry.act) colon (reply_text names entry.reply) end rest))

-- so lines with the same ticket at the front of the same bytes are of one actor
pub same_actor : (names : List (List ℕ)) (one two : Entry) (r s : List ℕ) → one.ticket ≡ two.ticket → one.actor < 2 ^ 32 → two.actor < 2 ^ 32 → entry_text names true one ++ r ≡ entry_text names true two ++ s → one.actor ≡ two.actor
unfolding entry_text line_text
same_actor names one two r s tickets near far is =
    let blank : List ℕ = codes " " in
    let end : List ℕ = codes "\n" in
    let tail : Entry → List ℕ → List ℕ = λ e q. blank ++ (target_text e.target ++ (blank ++ (label_in_brackets names e.at ++ (blank ++ ((((act_text names e.act ++ colon) ++ reply_text names e.reply) ++ end) ++ q))))) in
    let front : (e : Entry) (q : List ℕ) → entry_text names true e ++ q ≡ decimal e.ticket ++ (blank ++ (line_text names e ++ q)) = λ e q. behind_ticket (decimal e.ticket) blank (line_text names e) q in
    let behind : (e : Entry) (q : List ℕ) → line_text names e ++ q ≡ decimal e.actor ++ tail e q =
    λ e q. behind_actor (decimal e.actor) blank (target_text e.target) (label_in_brackets names e.at) (act_text names e.act) colon (reply_text names e.reply) end q in
    let whole : decimal one.ticket ++ (blank ++ (line_text names one ++ r)) ≡ decimal one.ticket ++ (blank ++ (line_text names two ++ s)) =
    sym (front one r) ∙ is ∙ front two s ∙ ap (λ (n : ℕ). decimal n ++ (blank ++ (line_text names two ++ s))) (sym tickets) in
    let lines : line_text names one ++ r ≡ line_text names two ++ s = append_cancel_left blank _ _ (append_cancel_left (decimal one.ticket) _ _ whole) in
    let bytes : List ℕ = line_text names one ++ r in
    let words = finds_word bytes (take (prefix_len is_word_byte bytes) bytes) (drop (prefix_len is_word_byte bytes) bytes) refl refl in
    let a = words (decimal one.actor) (tail one r) (digits_word one.actor (omega arith)) refl (behind one r) in
    let b = words (decimal two.actor) (tail two s) (digits_word two.actor (omega arith)) refl (lines ∙ behind two s) in
    decimal_injective one.actor two.actor (omega arith) (omega arith) (sym a.0 ∙ b.0)
