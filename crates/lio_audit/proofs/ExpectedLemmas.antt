-- The line with which a history could go on.
use Rattle.std.proofs.Common.{◌≡◌, ◌⊎◌, ◌∙◌, sym, refl, subst, inl, inr, ℕ, ◌+◌, ◌<◌, ◌≤◌, true, false, true≢false, List, [], ◌∷◌, length, drop, Option, Some, None, arith}
use Rattle.std.specs.Prelude.{MatchOption}
use Rattle.std.proofs.Math.ListN.{drop_of_length-le}
use Rattle.std.specs.Option.{option_map}
use Rattle.lio_values.specs.declared.entry.Entry.{Entry}
use Rattle.lio_syntax.specs.Statements.{Procedure}
use Rattle.lio_events.specs.JournalText.{entry_text}
use Rattle.lio_events.specs.Printable.{IsPrintable}
use Rattle.lio_events_reading.specs.Lines.{IsActorOf}
use Rattle.lio_calculus.specs.Step.{Configuration, Turn, can, step}
use Rattle.lio_calculus_runs.specs.Rounds.{IsComplete}
use Rattle.lio_calculus_runs.specs.Configuration.{NamesOnly}
use Rattle.lio_calculus_runs.proofs.NamedTurns.{turn_names_only}
use Rattle.lio_task.specs.declared.config.Config.{Config}
use Rattle.lio_task.specs.Configuration.{configuration_of}
use Rattle.lio_task.specs.Takes.{WouldShow}
use Rattle.lio_audit.specs.Expected.{CouldGoOn, CouldNotGoOn, IsLineOf, IsNext, NoneIsNext}
use Rattle.lio_audit.specs.History.{BeginsTurn}
use Rattle.lio_audit.proofs.LawLemmas.{none-begins}
use Rattle.lio_audit.proofs.ReplayLemmas.{IsSoFar}

-- the turn whose entry a step would show
would-turn : (c : Configuration) (k ticket : ℕ) (entry : Entry) → WouldShow c k ticket entry → (turn : Turn) × (step ticket c k ≡ Some turn) × (turn.entry ≡ entry)
would-turn c k ticket entry shows = by (step ticket c k) refl shows
  where
    by : (taken : Option Turn) → step ticket c k ≡ taken → option_map (λ turn. turn.entry) taken ≡ Some entry → (turn : Turn) × (step ticket c k ≡ Some turn) × (turn.entry ≡ entry)
    by None is shown = absurd (cc)
    by (Some turn) is shown = let same : turn.entry ≡ entry = cc in (turn, is, same)

pub would-be_printable : (names : List (List ℕ)) (c : Configuration) (k ticket : ℕ) (entry : Entry) → NamesOnly names c → WouldShow c k ticket entry → IsPrintable names entry
would-be_printable names c k ticket entry named shows =
    let it = would-turn c k ticket entry shows in
    subst (IsPrintable names) it.2 (turn_names_only names ticket c k it.0 named it.1).entry

pub would-be_line : (names : List (List ℕ)) (c : Configuration) (k ticket : ℕ) (entry : Entry) (text : List ℕ) → WouldShow c k ticket entry → text ≡ entry_text names true entry → IsLineOf names c k ticket text
would-be_line names c k ticket entry text shows is =
    let it = would-turn c k ticket entry shows in
    (it.0, it.1, subst (λ (e : Entry). text ≡ entry_text names true e) (sym it.2) is)

next-shown : (c : Configuration) (bytes : List ℕ) (k : ℕ) → IsNext c bytes k → (bytes ≡ []) ⊎ IsActorOf bytes k
next-shown c [] k next = inl refl
next-shown c (byte ∷ bytes) k next = inr next

-- it stands behind the lines so far
pub could-go_on : (names : List (List ℕ)) (script : List Procedure) (c : Configuration) (bytes : List ℕ) (config : Config) (journal : List Entry) (at k ticket number : ℕ) (text : List ℕ) → IsSoFar names script c bytes config journal at
    → ticket ≡ length journal → number ≡ length journal + 1 → IsNext (configuration_of script config) (drop at bytes) k → IsLineOf names (configuration_of script config) k ticket text → CouldGoOn names c bytes number text
could-go_on names script c bytes config journal at k ticket number text so_far count number_is next line = record {
  ran = record { entries = journal; last = configuration_of script config };
  rest = drop at bytes;
  task = k;
  turn = line.0;
  lines = so_far.text;
  is_run = so_far.is_run;
  line_is = number_is;
  shown = next-shown (configuration_of script config) (drop at bytes) k next;
  is_step = subst (λ (n : ℕ). step n (configuration_of script config) k ≡ Some line.0) count line.1;
  is_line = line.2;
}

-- a task whose turn comes next, and that can't take one
still-next : (c : Configuration) (bytes : List ℕ) (k : ℕ) → IsNext c bytes k → can c k ≡ false → NoneIsNext c bytes
still-next c [] k next still = absurd (true≢false (sym next ∙ still))
still-next c (byte ∷ bytes) k next still = (k, next, still)

-- the line is reached, and no turn comes next
pub none-comes : (names : List (List ℕ)) (script : List Procedure) (c : Configuration) (bytes : List ℕ) (config : Config) (journal : List Entry) (at line : ℕ) → IsSoFar names script c bytes config journal at → line ≡ length journal + 1
    → NoneIsNext (configuration_of script config) (drop at bytes) → CouldNotGoOn names c bytes line
none-comes names script c bytes config journal at line so_far is none = record {
  ran = record { entries = journal; last = configuration_of script config };
  rest = drop at bytes;
  lines = so_far.text;
  is_run = so_far.is_run;
  ends = inr (is, none);
}

pub still-comes : (names : List (List ℕ)) (script : List Procedure) (c : Configuration) (bytes : List ℕ) (config : Config) (journal : List Entry) (at line k : ℕ) → IsSoFar names script c bytes config journal at → line ≡ length journal + 1
    → IsNext (configuration_of script config) (drop at bytes) k → can (configuration_of script config) k ≡ false → CouldNotGoOn names c bytes line
still-comes names script c bytes config journal at line k so_far is next still = none-comes names script c bytes config journal at line so_far is (still-next (configuration_of script config) (drop at bytes) k next still)

-- no line of a turn stands there, so that the line isn't reached
pub line-missed : (names : List (List ℕ)) (script : List Procedure) (c : Configuration) (bytes : List ℕ) (config : Config) (journal : List Entry) (at line : ℕ) → IsSoFar names script c bytes config journal at → length journal + 1 < line
    → (BeginsTurn names (length journal) (configuration_of script config) (drop at bytes) → ⊥) → CouldNotGoOn names c bytes line
line-missed names script c bytes config journal at line so_far before none = record {
  ran = record { entries = journal; last = configuration_of script config };
  rest = drop at bytes;
  lines = so_far.text;
  is_run = so_far.is_run;
  ends = inl (before, none);
}

-- nor where nothing is left
pub line-behind_end : (names : List (List ℕ)) (script : List Procedure) (c : Configuration) (bytes : List ℕ) (config : Config) (journal : List Entry) (at line : ℕ) → IsSoFar names script c bytes config journal at → length journal + 1 < line
    → length bytes ≤ at → CouldNotGoOn names c bytes line
line-behind_end names script c bytes config journal at line so_far before over =
    line-missed names script c bytes config journal at line so_far before
    (λ begins. none-begins names (length journal) (configuration_of script config) (subst (BeginsTurn names (length journal) (configuration_of script config)) (drop_of_length-le bytes over) begins))

-- which task comes next, by its first and by what bytes show
pub first-next : (c : Configuration) (bytes : List ℕ) (found : Option ℕ) → bytes ≡ [] → MatchOption found (IsComplete c) (λ k. can c k ≡ true) → MatchOption found (NoneIsNext c bytes) (IsNext c bytes)
first-next c bytes None none is = subst (NoneIsNext c) (sym none) is
first-next c bytes (Some k) none is = subst (λ (bs : List ℕ). IsNext c bs k) (sym none) is

pub shown-next : (c : Configuration) (bytes : List ℕ) (k : ℕ) → 0 < length bytes → IsActorOf bytes k → IsNext c bytes k
shown-next c [] k some is = absurd (omega arith)
shown-next c (byte ∷ bytes) k some is = is

-- what follows of either
pub match-weaker : {X : Type 0} (found : Option X) (P R : Type 0) (Q S : X → Type 0) → (P → R) → ((x : X) → Q x → S x) → MatchOption found P Q → MatchOption found R S
match-weaker None P R Q S none some is = none is
match-weaker (Some x) P R Q S none some is = some x is
