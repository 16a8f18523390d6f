-- A view that is checked, so far.
use Rattle.std.proofs.Common.{◌≡◌, ◌∙◌, refl, sym, ap, subst, ℕ, ◌+◌, ◌-◌, ◌<◌, ◌≤◌, ◌^◌, false, List, [], ◌∷◌, ◌++◌, length, length-append, drop, take, take-append-drop, append_assoc, append-nil, Some, arith, All}
use Rattle.std.proofs.lemmas.List.{drop-drop, length-drop}
use Rattle.std.proofs.lemmas.List.Elements.{All-append, All-cons, All-nil}
use Rattle.std.proofs.lemmas.Grind.{flat_map-append}
use Rattle.std.proofs.Math.ListN.{drop_of_length-le}
use Rattle.lio_labels.specs.declared.label.Label.{Label}
use Rattle.lio_values.specs.declared.value.Content.{Content}
use Rattle.lio_values.specs.declared.entry.Entry.{Entry}
use Rattle.lio_events.specs.JournalText.{entry_text, journal_text}
use Rattle.lio_events.specs.Views.{released_to, releases}
use Rattle.lio_events_reading.specs.Over.{IsEntryOver}
use Rattle.lio_calculus.specs.Laws.{IsShownContent}
use Rattle.lio_calculus.specs.Run.{LowRan, low_run}
use Rattle.lio_calculus.specs.Step.{Configuration}
use Rattle.lio_calculus.specs.Journals.{actors}
use Rattle.lio_erasure.specs.LowParts.{ErasedState}
use Rattle.lio_audit.specs.History.{most_history_bytes}
use Rattle.lio_audit.specs.Seen.{TakesSeenLine}
use Rattle.lio_audit.specs.View.{AreLinesOf, IsLowRunFrom, IsSeenTurn}
use Rattle.lio_audit.proofs.LowRunLemmas.{low-size, low_run-append, low_run-more, low_run-nothing, low_run-one}
use Rattle.lio_audit.proofs.ViewLineLemmas.{AreOfOne, of_one-push, only-of_one}
use Rattle.lio_audit.proofs.SeenLemmas.{over-ticket, seen-some, seen-ticket, text-ticket}

pub releases-nothing : (observer : Label) → releases observer [] ≡ []
unfolding releases
releases-nothing observer = refl

pub releases-first : (observer : Label) (entry : Entry) (entries : List Entry) → releases observer (entry ∷ entries) ≡ released_to observer entry.act entry.reply ++ releases observer entries
unfolding releases
releases-first observer entry entries = refl

pub releases-one : (observer : Label) (entry : Entry) → releases observer (entry ∷ []) ≡ released_to observer entry.act entry.reply
releases-one observer entry =
    releases-first observer entry [] ∙ ap (λ (cs : List Content). released_to observer entry.act entry.reply ++ cs) (releases-nothing observer) ∙ append-nil (released_to observer entry.act entry.reply)

releases-push : (observer : Label) (entries : List Entry) (entry : Entry) → releases observer (entries ++ entry ∷ []) ≡ releases observer entries ++ released_to observer entry.act entry.reply
releases-push observer [] entry = releases-one observer entry ∙ ap (λ (cs : List Content). cs ++ released_to observer entry.act entry.reply) (sym (releases-nothing observer))
releases-push observer (e ∷ entries) entry =
    releases-first observer e (entries ++ entry ∷ []) ∙ ap (λ (cs : List Content). released_to observer e.act e.reply ++ cs) (releases-push observer entries entry)
    ∙ sym (append_assoc (released_to observer e.act e.reply) (releases observer entries) (released_to observer entry.act entry.reply))
    ∙ ap (λ (cs : List Content). cs ++ released_to observer entry.act entry.reply) (sym (releases-first observer e entries))

actors-push : (entries : List Entry) (entry : Entry) → actors (entries ++ entry ∷ []) ≡ actors entries ++ entry.actor ∷ []
actors-push [] entry = refl
actors-push (e ∷ entries) entry = ap (λ (ks : List ℕ). e.actor ∷ ks) (actors-push entries entry)

-- a run that its entries tell, and a turn more that its entry tells
pub low_run-push : (observer : Label) (c : Configuration) (entries : List Entry) (last next : Configuration) (entry : Entry)
    → IsLowRunFrom observer c (record { entries = entries; last = last; left = [] }) → IsSeenTurn observer last (record { entry = entry; next = next; left = [] })
    → IsLowRunFrom observer c (record { entries = entries ++ record entry { ticket = length entries } ∷ []; last = next; left = [] })
low_run-push observer c entries last next entry so_far seen = record {
  is_run = subst (λ (cs : List Content). low_run observer 0 c (actors (entries ++ placed ∷ [])) cs ≡ Some whole) (sym (releases-push observer entries placed))
      (subst (λ (ks : List ℕ). low_run observer 0 c ks (releases observer entries ++ released) ≡ Some whole) (sym (actors-push entries placed))
      (low_run-append observer 0 c (actors entries) (entry.actor ∷ []) (releases observer entries ++ released) (record { entries = entries; last = last; left = released })
      (record { entries = placed ∷ []; last = next; left = [] })
      (low_run-more observer 0 c (actors entries) (releases observer entries) released (record { entries = entries; last = last; left = [] }) so_far.is_run) one));
  shown = subst (All IsShownContent) (sym (releases-push observer entries placed)) (All-append IsShownContent (releases observer entries) released so_far.shown seen.shown);
  none_left = refl;
}
  where
    placed : Entry
    placed = record entry { ticket = length entries }

    released : List Content
    released = released_to observer entry.act entry.reply

    whole : LowRan
    whole = record { entries = entries ++ placed ∷ []; last = next; left = [] }

    one : low_run observer (0 + length entries) last (entry.actor ∷ []) released ≡ Some (record { entries = placed ∷ []; last = next; left = [] })
    one =
        let zero_more : length entries ≡ 0 + length entries = omega arith in
        subst (λ (n : ℕ). low_run observer n last (entry.actor ∷ []) released ≡ Some (record { entries = placed ∷ []; last = next; left = [] })) zero_more
        (low_run-one observer (length entries) last entry.actor released (record { entry = placed; next = next; left = [] })
        (seen-ticket observer last (length entries) (record { entry = entry; next = next; left = [] }) seen).is_step)

-- the lines so far are those of an erased run that they tell
pub record IsSeenSoFar (names : List (List ℕ)) (observer : Label) (c : Configuration) (bytes : List ℕ) (state : ErasedState) (at count : ℕ) : Type 0 where
  pub entries : List Entry
  pub is_run : IsLowRunFrom observer c (record { entries = entries; last = state.configuration; left = [] })
  pub lines : AreLinesOf names entries bytes (drop at bytes)
  pub of_one : AreOfOne names entries bytes
  pub count_is : count ≡ length entries
  pub within : at ≤ length bytes
  pub few : count ≤ at
  pub observer_is : state.observer ≡ observer
  pub cells : length state.configuration.cells < 2 ^ 31

pub seen-none : (names : List (List ℕ)) (observer : Label) (bytes : List ℕ) (state : ErasedState) → state.observer ≡ observer → length state.configuration.cells < 2 ^ 31
    → IsSeenSoFar names observer state.configuration bytes state 0 0
seen-none names observer bytes state same cells = record {
  entries = [];
  is_run = record {
    is_run = subst (λ (cs : List Content). low_run observer 0 state.configuration [] cs ≡ Some (record { entries = []; last = state.configuration; left = [] })) (sym (releases-nothing observer)) (low_run-nothing observer 0 state.configuration []);
    shown = subst (All IsShownContent) (sym (releases-nothing observer)) (All-nil IsShownContent);
    none_left = refl;
  };
  lines = record { over = All-nil (IsEntryOver names); text = refl };
  of_one = tt;
  count_is = refl;
  within = omega arith;
  few = omega arith;
  observer_is = same;
  cells = cells;
}

pub seen-next : (names : List (List ℕ)) (observer : Label) (c : Configuration) (bytes : List ℕ) (old new : ErasedState) (at len count : ℕ) → length bytes ≤ most_history_bytes → IsSeenSoFar names observer c bytes old at count
    → TakesSeenLine names old new (drop at bytes) len → IsSeenSoFar names observer c bytes new (at + len) (count + 1)
seen-next names observer c bytes old new at len count most so_far takes =
    let placed : Entry = record takes.entry { ticket = length so_far.entries } in
    let line : List ℕ = entry_text names false takes.entry in
    let same : old.observer ≡ observer = so_far.observer_is in
    let seen : IsSeenTurn observer old.configuration (record { entry = takes.entry; next = new.configuration; left = [] }) =
    subst (λ (o : Label). IsSeenTurn o old.configuration (record { entry = takes.entry; next = new.configuration; left = [] })) same takes.is_turn in
    let behind : drop at bytes ≡ line ++ drop (at + len) bytes = takes.line.splits ∙ ap (λ (r : List ℕ). line ++ r) (drop-drop len at bytes) in
    let texts : journal_text names false (so_far.entries ++ placed ∷ []) ≡ journal_text names false so_far.entries ++ line =
    flat_map-append (entry_text names false) so_far.entries (placed ∷ [])
    ∙ ap (λ (r : List ℕ). journal_text names false so_far.entries ++ r) (append-nil (entry_text names false placed) ∙ text-ticket names takes.entry (length so_far.entries)) in
    let left : length (drop at bytes) ≡ length bytes - at = length-drop at bytes in
    let some : 0 < len = subst (λ (n : ℕ). 0 < n) (sym takes.line.len_is) (seen-some names takes.entry) in
    let counted : length (so_far.entries ++ placed ∷ []) ≡ length so_far.entries + 1 = length-append so_far.entries (placed ∷ []) in
    let is_count : count ≡ length so_far.entries = so_far.count_is in
    let inside : len ≤ length (drop at bytes) = takes.line.within in
    let until : at ≤ length bytes = so_far.within in
    let few : count ≤ at = so_far.few in
    let wide : length so_far.entries < 2 ^ 64 = omega arith in
    let size : length new.configuration.cells ≡ length old.configuration.cells =
    low-size observer takes.entry.ticket old.configuration takes.entry.actor (released_to observer takes.entry.act takes.entry.reply) (record { entry = takes.entry; next = new.configuration; left = [] }) seen.is_step in
    let small : length old.configuration.cells < 2 ^ 31 = so_far.cells in
    record {
      entries = so_far.entries ++ placed ∷ [];
      is_run = low_run-push observer c so_far.entries old.configuration new.configuration takes.entry so_far.is_run seen;
      lines = record {
        over = All-append (IsEntryOver names) so_far.entries (placed ∷ []) so_far.lines.over (All-cons (IsEntryOver names) placed [] (over-ticket names takes.entry (length so_far.entries) wide takes.over) (All-nil (IsEntryOver names)));
        text = so_far.lines.text ∙ ap (λ (r : List ℕ). journal_text names false so_far.entries ++ r) behind ∙ sym (append_assoc (journal_text names false so_far.entries) line (drop (at + len) bytes))
            ∙ ap (λ (r : List ℕ). r ++ drop (at + len) bytes) (sym texts);
      };
      of_one = of_one-push names so_far.entries placed bytes (drop at bytes) so_far.lines.text so_far.of_one (only-of_one names (drop at bytes) takes.entry takes.only);
      count_is = omega arith;
      within = omega arith;
      few = omega arith;
      observer_is = takes.observer ∙ same;
      cells = omega arith;
    }

-- what is left of bytes, as a slice of them is seen
pub rest-is : (bytes : List ℕ) (at : ℕ) → take (length bytes - at) (drop at bytes) ≡ drop at bytes
rest-is bytes at =
    let left : length (drop at bytes) ≡ length bytes - at = length-drop at bytes in
    let none : drop (length bytes - at) (drop at bytes) ≡ [] = drop_of_length-le (drop at bytes) (omega arith) in
    sym (append-nil (take (length bytes - at) (drop at bytes))) ∙ ap (λ (r : List ℕ). take (length bytes - at) (drop at bytes) ++ r) (sym none) ∙ take-append-drop (length bytes - at) (drop at bytes)

-- a line was taken, so bytes are left behind it
pub seen-line-some : (names : List (List ℕ)) (old new : ErasedState) (bytes : List ℕ) (len : ℕ) → TakesSeenLine names old new bytes len → 0 < len
seen-line-some names old new bytes len takes = subst (λ (n : ℕ). 0 < n) (sym takes.line.len_is) (seen-some names takes.entry)
