-- Which bytes are the history of a run.
use Rattle.std.proofs.Common.{◌≡◌, ◌∙◌, sym, ap, subst, ℕ, ◌+◌, ◌<◌, ◌^◌, inl, inr, true, true≢false, List, [], ◌∷◌, ◌++◌, length, length-append, append-nil, arith}
use Rattle.lio_events.specs.JournalText.{entry_text, journal_text}
use Rattle.lio_calculus.specs.Run.{Ran}
use Rattle.lio_calculus.specs.Step.{Configuration, can}
use Rattle.lio_calculus.specs.Sound.{IsSound}
use Rattle.lio_audit.specs.History.{BeginsTurn, CanGoOn, HaveTooMany, IsHistoryOf, IsOneHistoryOf, Stops, StopsAt, StopsAtOne, most_history_bytes}
use Rattle.lio_audit.specs.Laws.{HistoryIsOfOneRun, HistoryStopsNowhere, StopsAtOneLine}
use Rattle.lio_audit.proofs.MeetLemmas.{Meets, meet}
use Rattle.lio_audit.proofs.TextLemmas.{text-some}

-- no line stands at the front of nothing
pub none-begins : (names : List (List ℕ)) (ticket : ℕ) (c : Configuration) → BeginsTurn names ticket c [] → ⊥
none-begins names ticket c b =
    let some : 0 < length (entry_text names true b.turn.entry) = text-some names b.turn.entry in
    let long : 0 ≡ length (entry_text names true b.turn.entry) + length b.rest = ap (λ (q : List ℕ). length q) b.stands ∙ length-append (entry_text names true b.turn.entry) b.rest in
    absurd (omega arith)

stops-not : (names : List (List ℕ)) (ticket : ℕ) (c : Configuration) (rest : List ℕ) → Stops names ticket c rest → BeginsTurn names (0 + ticket) c rest → ⊥
stops-not names ticket c rest stops b = by rest stops (subst (λ (n : ℕ). BeginsTurn names n c rest) zero_more b)
  where
    zero_more : 0 + ticket ≡ ticket
    zero_more = omega arith

    by : (rest : List ℕ) → Stops names ticket c rest → BeginsTurn names ticket c rest → ⊥
    by [] s b = none-begins names ticket c b
    by (byte ∷ bytes) s b = s b

-- two readings of the same bytes
abbrev Read : List (List ℕ) → List ℕ → Ran → List ℕ → Type 0
Read names bytes ran rest = bytes ≡ journal_text names true ran.entries ++ rest

whole : (names : List (List ℕ)) (bytes : List ℕ) (ran : Ran) → bytes ≡ journal_text names true ran.entries → Read names bytes ran []
whole names bytes ran is = is ∙ sym (append-nil (journal_text names true ran.entries))

wide : (names : List (List ℕ)) (bytes : List ℕ) (ran : Ran) (rest : List ℕ) → length bytes < 2 ^ 63 → Read names bytes ran rest → 0 + length (journal_text names true ran.entries ++ rest) < 2 ^ 64
wide names bytes ran rest few is = let same : length bytes ≡ length (journal_text names true ran.entries ++ rest) = ap (λ (q : List ℕ). length q) is in omega arith

pub history_is_of_one_run : HistoryIsOfOneRun
history_is_of_one_run names c bytes one two sound a b =
    by (meet names 0 c one.entries two.entries one.last two.last [] [] sound.few (wide names bytes one [] (omega (arith, a.few)) (whole names bytes one a.text)) a.is_run b.is_run (sym (whole names bytes one a.text) ∙ whole names bytes two b.text))
  where
    by : Meets names 0 one two [] [] → one ≡ two
    by (inl both) = both.0
    by (inr (inl b)) = absurd (none-begins names (0 + length one.entries) one.last b)
    by (inr (inr b)) = absurd (none-begins names (0 + length two.entries) two.last b)

pub history_stops_nowhere : HistoryStopsNowhere
history_stops_nowhere names c bytes ran line sound h stop =
    by (meet names 0 c ran.entries stop.ran.entries ran.last stop.ran.last [] stop.rest sound.few (wide names bytes ran [] (omega (arith, h.few)) (whole names bytes ran h.text)) h.is_run stop.is_run (sym (whole names bytes ran h.text) ∙ stop.text))
  where
    still : ran ≡ stop.ran → [] ≡ stop.rest → ⊥
    still same none =
        let goes : CanGoOn stop.ran.last = subst (λ (r : List ℕ). Stops names (length stop.ran.entries) stop.ran.last r) (sym none) stop.stops in
        absurd (true≢false (sym goes.1 ∙ ap (λ (q : Ran). can q.last goes.0) (sym same) ∙ h.complete goes.0))

    by : Meets names 0 ran stop.ran [] stop.rest → ⊥
    by (inl both) = still both.0 both.1
    by (inr (inl b)) = none-begins names (0 + length ran.entries) ran.last b
    by (inr (inr b)) = stops-not names (length stop.ran.entries) stop.ran.last stop.rest stop.stops b

pub stops_at_one_line : StopsAtOneLine
stops_at_one_line names c bytes one two sound a b =
    by (meet names 0 c a.ran.entries b.ran.entries a.ran.last b.ran.last a.rest b.rest sound.few (wide names bytes a.ran a.rest (omega (arith, a.few)) a.text) a.is_run b.is_run (sym a.text ∙ b.text))
  where
    by : Meets names 0 a.ran b.ran a.rest b.rest → one ≡ two
    by (inl both) = a.line_is ∙ ap (λ (q : Ran). length q.entries + 1) both.0 ∙ sym b.line_is
    by (inr (inl t)) = absurd (stops-not names (length a.ran.entries) a.ran.last a.rest a.stops t)
    by (inr (inr t)) = absurd (stops-not names (length b.ran.entries) b.ran.last b.rest b.stops t)

-- a history is that of its run alone
pub one-history : (names : List (List ℕ)) (c : Configuration) (bytes : List ℕ) (ran : Ran) → IsSound c → IsHistoryOf names c bytes ran → IsOneHistoryOf names c bytes ran
one-history names c bytes ran sound history = record {
  is_history = history;
  only = λ other is. history_is_of_one_run names c bytes other ran sound is history;
  nowhere = λ line stop. history_stops_nowhere names c bytes ran line sound history stop;
}

-- bytes that stop at a line stop there alone
pub one-stop : (names : List (List ℕ)) (c : Configuration) (bytes : List ℕ) (line : ℕ) → IsSound c → StopsAt names c bytes line → StopsAtOne names c bytes line
one-stop names c bytes line sound stop = record {
  stops_at = stop;
  none = λ ran history. history_stops_nowhere names c bytes ran line sound history stop;
  only = λ other at. stops_at_one_line names c bytes other line sound at stop;
}

pub too-many : (names : List (List ℕ)) (c : Configuration) (bytes : List ℕ) → most_history_bytes < length bytes → HaveTooMany names c bytes
too-many names c bytes many = record {
  many = many;
  none = λ ran history. let few = history.few in absurd (omega arith);
  nowhere = λ line stop. let few = stop.few in absurd (omega arith);
}
