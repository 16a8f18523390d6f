-- A run that is taken again, so far.
use Rattle.std.proofs.Common.{◌≡◌, ◌∙◌, refl, sym, ap, subst, ℕ, ◌+◌, ◌-◌, ◌<◌, ◌≤◌, inr, true, List, [], ◌∷◌, ◌++◌, length, length-append, take, drop, take-append-drop, append_assoc, append-nil, Some, arith, All}
use Rattle.std.proofs.lemmas.List.{drop-drop, length-drop}
use Rattle.std.proofs.lemmas.List.Elements.{All-append, All-cons, All-filter, All-nil, All-weaker}
use Rattle.std.proofs.lemmas.Grind.{flat_map-append}
use Rattle.std.proofs.Math.ListN.{drop_of_length-le}
use Rattle.lio_values.specs.declared.entry.Entry.{Entry}
use Rattle.lio_syntax.specs.Statements.{Procedure}
use Rattle.lio_events.specs.JournalText.{entry_text, journal_text}
use Rattle.lio_events.specs.Rising.{IsLater}
use Rattle.lio_events.specs.Tickets.{AreBelow}
use Rattle.lio_calculus.specs.Effect.{touches}
use Rattle.lio_calculus.specs.Sound.{IsSound}
use Rattle.lio_calculus.specs.Step.{Configuration, Turn, step}
use Rattle.lio_calculus_runs.specs.Configuration.{NamesOnly}
use Rattle.lio_calculus.specs.Run.{Ran, run}
use Rattle.lio_calculus.specs.Journals.{actors, of_cell}
use Rattle.lio_calculus_runs.specs.Rounds.{IsComplete}
use Rattle.lio_task.specs.declared.config.Config.{Config}
use Rattle.lio_task.specs.Configuration.{configuration_of}
use Rattle.lio_task.specs.Takes.{Steps}
use Rattle.lio_task.specs.Logs.{Appends, AreFresh, IsLaterThanLogs, log_in}
use Rattle.lio_task.proofs.LogLemmas.{fresh-log}
use Rattle.lio_audit.specs.declared.fault.AuditFault.{AuditFault}
use Rattle.lio_audit.specs.declared.fault.AuditFault.TheVariants.{NotARun, NoMemory}
use Rattle.lio_audit.specs.History.{CanGoOn, IsOneHistoryOf, IsRunFrom, Says, StopsAtOne, most_history_bytes}
use Rattle.lio_audit.specs.Replay.{LineEndsAt, Refuses, Stands, TakesLine}
use Rattle.lio_calculus.proofs.LocalityLemmas.{step_changes_two_cells}
use Rattle.lio_clauses.specs.Names.{AreNames}
use Rattle.lio_events_reading.specs.Lines.{line_ends}
use Rattle.lio_events_reading.proofs.EndLemmas.{lines_are_entries}
use Rattle.lio_calculus_runs.proofs.NamedTurns.{run_names_only, turn_names_only}
use Rattle.lio_audit.proofs.RunLemmas.{run-nothing, run-push, step-has_ticket}
use Rattle.lio_audit.proofs.LineLemmas.{stops-begins}
use Rattle.lio_audit.proofs.TextLemmas.{text-some}
use Rattle.lio_audit.proofs.LawLemmas.{one-history, one-stop}

-- tickets that are below a number are below the next
below-next : (count : ℕ) (entries : List Entry) → AreBelow count entries → AreBelow (count + 1) entries
below-next count entries below = All-weaker (λ (e : Entry). e.ticket < count) (λ (e : Entry). e.ticket < count + 1) (λ e lt. omega arith) entries below

-- with one entry more
below-push : (count : ℕ) (entries : List Entry) (entry : Entry) → AreBelow count entries → entry.ticket ≡ count → AreBelow (count + 1) (entries ++ entry ∷ [])
below-push count entries entry below is =
    let last : entry.ticket < count + 1 = omega arith in
    let P : Entry → Type 0 = λ e. e.ticket < count + 1 in
    All-append P entries (entry ∷ []) (below-next count entries below) (All-cons P entry [] last (All-nil P))

later-push : (old new : Config) (entry : Entry) (count : ℕ) → IsLaterThanLogs old count → Appends old new entry → entry.ticket ≡ count → IsLaterThanLogs new (count + 1)
later-push old new entry count later got is n =
    let last : entry.ticket < count + 1 = omega arith in
    let P : Entry → Type 0 = λ e. e.ticket < count + 1 in
    subst (All P) (sym (got n)) (All-append P (log_in old n) (of_cell n (entry ∷ [])) (below-next count (log_in old n) (later n))
    (All-filter (touches n) P (entry ∷ []) (All-cons P entry [] last (All-nil P))))

-- where one more turn was taken
pub later-pushed : (old new : Config) (entry : Entry) (before after : List Entry) → IsLaterThanLogs old (length before) → Appends old new entry → entry.ticket ≡ length before → after ≡ before ++ entry ∷ [] → IsLaterThanLogs new (length after)
later-pushed old new entry before after later got is pushed =
    let count : length before + 1 ≡ length after = sym (ap (λ (es : List Entry). length es) pushed ∙ length-append before (entry ∷ [])) in
    subst (IsLaterThanLogs new) count (later-push old new entry (length before) later got is)

pub below-pushed : (entry : Entry) (before after : List Entry) → AreBelow (length before) before → entry.ticket ≡ length before → after ≡ before ++ entry ∷ [] → AreBelow (length after) after
below-pushed entry before after below is pushed =
    let count : length before + 1 ≡ length after = sym (ap (λ (es : List Entry). length es) pushed ∙ length-append before (entry ∷ [])) in
    subst (λ (n : ℕ). AreBelow n after) count (subst (AreBelow (length before + 1)) (sym pushed) (below-push (length before) before entry below is))

-- the lines so far are those of a run, from which turns can be taken again
pub record IsSoFar (names : List (List ℕ)) (script : List Procedure) (c : Configuration) (bytes : List ℕ) (config : Config) (journal : List Entry) (at : ℕ) : Type 0 where
  pub stands : Stands names script config journal
  pub is_run : IsRunFrom c (record { entries = journal; last = configuration_of script config })
  pub text : bytes ≡ journal_text names true journal ++ drop at bytes
  pub within : at ≤ length bytes
  pub few : length journal ≤ at

pub so_far-none : (names : List (List ℕ)) (script : List Procedure) (bytes : List ℕ) (config : Config) (journal : List Entry) → Stands names script config journal → journal ≡ []
    → IsSoFar names script (configuration_of script config) bytes config journal 0
so_far-none names script bytes config journal stands none =
    subst (λ (es : List Entry). IsSoFar names script (configuration_of script config) bytes config es 0) (sym none) (record {
      stands = subst (Stands names script config) none stands;
      is_run = run-nothing 0 (configuration_of script config);
      text = refl;
      within = omega arith;
      few = omega arith;
    })

-- a run and the turn of one line more
run-line : (c : Configuration) (names : List (List ℕ)) (script : List Procedure) (old new : Config) (before after : List Entry) (entry : Entry) → IsRunFrom c (record { entries = before; last = configuration_of script old })
    → step (length before) (configuration_of script old) entry.actor ≡ Some (record { entry = entry; next = configuration_of script new }) → after ≡ before ++ entry ∷ []
    → IsRunFrom c (record { entries = after; last = configuration_of script new })
run-line c names script old new before after entry is_run steps pushed =
    let turn : Turn = record { entry = entry; next = configuration_of script new } in
    let so_far : Ran = record { entries = before; last = configuration_of script old } in
    let zero_more : length before ≡ 0 + length before = omega arith in
    let here : step (0 + length before) (configuration_of script old) entry.actor ≡ Some turn = subst (λ (n : ℕ). step n (configuration_of script old) entry.actor ≡ Some turn) zero_more steps in
    let went : run 0 c (actors before ++ entry.actor ∷ []) ≡ Some (record { entries = before ++ entry ∷ []; last = configuration_of script new }) = run-push 0 c (actors before) entry.actor so_far turn is_run here in
    let named : actors (before ++ entry ∷ []) ≡ actors before ++ entry.actor ∷ [] = actors-push before entry in
    let whole : IsRunFrom c (record { entries = before ++ entry ∷ []; last = configuration_of script new }) =
    subst (λ (ks : List ℕ). run 0 c ks ≡ Some (record { entries = before ++ entry ∷ []; last = configuration_of script new })) (sym named) went in
    subst (λ (es : List Entry). IsRunFrom c (record { entries = es; last = configuration_of script new })) (sym pushed) whole
  where
    actors-push : (es : List Entry) (e : Entry) → actors (es ++ e ∷ []) ≡ actors es ++ e.actor ∷ []
    actors-push [] e = refl
    actors-push (x ∷ es) e = ap (λ (ks : List ℕ). x.actor ∷ ks) (actors-push es e)

pub so_far-next : (names : List (List ℕ)) (script : List Procedure) (c : Configuration) (bytes : List ℕ) (old new : Config) (before after : List Entry) (at len : ℕ) → IsSoFar names script c bytes old before at
    → TakesLine names script old new before after (drop at bytes) len → IsSoFar names script c bytes new after (at + len)
so_far-next names script c bytes old new before after at len so_far takes =
    let line : List ℕ = entry_text names true takes.entry in
    let behind : drop at bytes ≡ line ++ drop (at + len) bytes = takes.line.text ∙ ap (λ (r : List ℕ). line ++ r) (drop-drop len at bytes) in
    let lines : journal_text names true after ≡ journal_text names true before ++ line =
    ap (journal_text names true) takes.pushed ∙ flat_map-append (entry_text names true) before (takes.entry ∷ []) ∙ ap (λ (r : List ℕ). journal_text names true before ++ r) (append-nil line) in
    let left : length (drop at bytes) ≡ length bytes - at = length-drop at bytes in
    let some : 0 < len = subst (λ (n : ℕ). 0 < n) (sym takes.line.len_is) (text-some names takes.entry) in
    let count : length after ≡ length before + 1 = ap (λ (es : List Entry). length es) takes.pushed ∙ length-append before (takes.entry ∷ []) in
    let inside : len ≤ length (drop at bytes) = takes.line.within in
    let until : at ≤ length bytes = so_far.within in
    let few : length before ≤ at = so_far.few in
    record {
      stands = takes.stands;
      is_run = run-line c names script old new before after takes.entry so_far.is_run takes.is_step takes.pushed;
      text = so_far.text ∙ ap (λ (r : List ℕ). journal_text names true before ++ r) behind ∙ sym (append_assoc (journal_text names true before) line (drop (at + len) bytes))
          ∙ ap (λ (r : List ℕ). r ++ drop (at + len) bytes) (sym lines);
      within = omega arith;
      few = omega arith;
    }

-- nothing is left
pub so_far-end : (names : List (List ℕ)) (script : List Procedure) (c : Configuration) (bytes : List ℕ) (config : Config) (journal : List Entry) (at : ℕ) → IsSoFar names script c bytes config journal at → length bytes ≤ at
    → bytes ≡ journal_text names true journal
so_far-end names script c bytes config journal at so_far over =
    so_far.text ∙ ap (λ (r : List ℕ). journal_text names true journal ++ r) (drop_of_length-le bytes over) ∙ append-nil (journal_text names true journal)

pub is-history : (names : List (List ℕ)) (script : List Procedure) (c : Configuration) (bytes : List ℕ) (config : Config) (journal : List Entry) (at : ℕ) → AreNames names → IsSound c → NamesOnly names c
    → IsSoFar names script c bytes config journal at → length bytes ≤ at → length bytes ≤ most_history_bytes → IsComplete (configuration_of script config) → IsOneHistoryOf names c bytes (record { entries = journal; last = configuration_of script config })
is-history names script c bytes config journal at known sound named so_far over few complete =
    let ran : Ran = record { entries = journal; last = configuration_of script config } in
    let text : bytes ≡ journal_text names true journal = so_far-end names script c bytes config journal at so_far over in
    one-history names c bytes ran sound (record {
      few = few;
      text = text;
      lines = ap line_ends text ∙ lines_are_entries names true journal known (run_names_only names 0 c (actors journal) ran named so_far.is_run).entries;
      is_run = so_far.is_run;
      complete = complete;
    })

-- and a task can go on
pub stops-short : (names : List (List ℕ)) (script : List Procedure) (c : Configuration) (bytes : List ℕ) (config : Config) (journal : List Entry) (at line : ℕ) → IsSound c → IsSoFar names script c bytes config journal at
    → length bytes ≤ at → length bytes ≤ most_history_bytes → CanGoOn (configuration_of script config) → line ≡ length journal + 1 → StopsAtOne names c bytes line
stops-short names script c bytes config journal at line sound so_far over few goes is =
    one-stop names c bytes line sound (record {
      few = few;
      ran = record { entries = journal; last = configuration_of script config };
      rest = [];
      text = so_far-end names script c bytes config journal at so_far over ∙ sym (append-nil (journal_text names true journal));
      is_run = so_far.is_run;
      line_is = is;
      stops = goes;
    })

-- a line is none
pub stops-at : (names : List (List ℕ)) (script : List Procedure) (c : Configuration) (bytes : List ℕ) (config : Config) (journal : List Entry) (at : ℕ) (fault : AuditFault) → IsSound c
    → IsSoFar names script c bytes config journal at → at < length bytes → length bytes ≤ most_history_bytes → Refuses names (configuration_of script config) journal (drop at bytes) fault → Says names c bytes fault
stops-at names script c bytes config journal at (NotARun line) sound so_far within few refuses =
    let left : length (drop at bytes) ≡ length bytes - at = length-drop at bytes in
    let some : 0 < length (drop at bytes) = omega arith in
    inr (one-stop names c bytes line sound (record {
      few = few;
      ran = record { entries = journal; last = configuration_of script config };
      rest = drop at bytes;
      text = so_far.text;
      is_run = so_far.is_run;
      line_is = refuses.0;
      stops = stops-begins names (length journal) (configuration_of script config) (drop at bytes) some refuses.1;
    }))
stops-at names script c bytes config journal at NoMemory sound so_far within few refuses = tt

-- a configuration in which no node has served a turn
pub stands-first : (names : List (List ℕ)) (script : List Procedure) (config : Config) → IsSound (configuration_of script config) → NamesOnly names (configuration_of script config) → AreFresh config → Stands names script config []
stands-first names script config sound named fresh = record {
  sound = sound;
  named = named;
  later = λ n. subst (All (λ (e : Entry). e.ticket < 0)) (sym (fresh-log config n fresh)) (All-nil (λ (e : Entry). e.ticket < 0));
  below = All-nil (λ (e : Entry). e.ticket < 0);
}

-- a line was taken, so bytes are left behind it
pub line-some : (names : List (List ℕ)) (script : List Procedure) (old new : Config) (before after : List Entry) (bytes : List ℕ) (len : ℕ) → TakesLine names script old new before after bytes len → 0 < len
line-some names script old new before after bytes len takes = subst (λ (n : ℕ). 0 < n) (sym takes.line.len_is) (text-some names takes.entry)

pub smaller : (all at len : ℕ) → 0 < len → at < all → all - (at + len) < all - at
smaller all at len some within = omega arith

-- what is left of bytes, as a slice of them is seen
pub rest-is : (bytes : List ℕ) (at : ℕ) → take (length bytes - at) (drop at bytes) ≡ drop at bytes
rest-is bytes at =
    let left : length (drop at bytes) ≡ length bytes - at = length-drop at bytes in
    let none : drop (length bytes - at) (drop at bytes) ≡ [] = drop_of_length-le (drop at bytes) (omega arith) in
    sym (append-nil (take (length bytes - at) (drop at bytes))) ∙ ap (λ (r : List ℕ). take (length bytes - at) (drop at bytes) ++ r) (sym none) ∙ take-append-drop (length bytes - at) (drop at bytes)

-- where one more turn was taken, of a configuration from which turns could be taken
pub takes-line : (names : List (List ℕ)) (script : List Procedure) (old new : Config) (before after : List Entry) (bytes : List ℕ) (len k ticket : ℕ) (entry : Entry) → Stands names script old before → ticket ≡ length before
    → Steps (configuration_of script old) (configuration_of script new) k ticket entry → Appends old new entry → IsSound (configuration_of script new) → after ≡ before ++ entry ∷ [] → LineEndsAt (entry_text names true entry) bytes len
    → TakesLine names script old new before after bytes len
takes-line names script old new before after bytes len k ticket entry stands count steps got sound pushed line =
    let turn : Turn = record { entry = entry; next = configuration_of script new } in
    let here : step (length before) (configuration_of script old) k ≡ Some turn = subst (λ (n : ℕ). step n (configuration_of script old) k ≡ Some turn) count steps in
    let actor : entry.actor ≡ k = (step_changes_two_cells (length before) (configuration_of script old) k turn here).actor in
    let has : entry.ticket ≡ length before = step-has_ticket (length before) (configuration_of script old) k turn here in
    record {
      entry = entry;
      is_step = subst (λ (j : ℕ). step (length before) (configuration_of script old) j ≡ Some turn) (sym actor) here;
      pushed = pushed;
      line = line;
      stands = record {
        sound = sound;
        named = (turn_names_only names (length before) (configuration_of script old) k turn stands.named here).next;
        later = later-pushed old new entry before after stands.later got has pushed;
        below = below-pushed entry before after stands.below has pushed;
      };
    }

-- so the entry of a turn may come last
pub later-entry : (names : List (List ℕ)) (script : List Procedure) (old new : Config) (before : List Entry) (k ticket : ℕ) (entry : Entry) → Stands names script old before → ticket ≡ length before
    → Steps (configuration_of script old) (configuration_of script new) k ticket entry → IsLater before entry
later-entry names script old new before k ticket entry stands count steps =
    let turn : Turn = record { entry = entry; next = configuration_of script new } in
    let has : entry.ticket ≡ ticket = step-has_ticket ticket (configuration_of script old) k turn steps in
    subst (λ (n : ℕ). All (λ (e : Entry). e.ticket < n) before) (sym (has ∙ count)) stands.below
