-- The laws of histories: which bytes are one is told by the configuration and the bytes alone.
use Rattle.std.specs.Prelude.{◌≡◌, ℕ, List}
use Rattle.lio_calculus.specs.Run.{Ran}
use Rattle.lio_calculus.specs.Sound.{IsSound}
use Rattle.lio_calculus.specs.Step.{Configuration}
use Rattle.lio_audit.specs.History.{IsHistoryOf, StopsAt}

-- bytes are the history of one complete run at most
abbrev pub HistoryIsOfOneRun : Type 0
HistoryIsOfOneRun = (names : List (List ℕ)) (c : Configuration) (bytes : List ℕ) (one two : Ran) → IsSound c → IsHistoryOf names c bytes one → IsHistoryOf names c bytes two → one ≡ two

-- and stop at no line where they are one
abbrev pub HistoryStopsNowhere : Type 0
HistoryStopsNowhere = (names : List (List ℕ)) (c : Configuration) (bytes : List ℕ) (ran : Ran) (line : ℕ) → IsSound c → IsHistoryOf names c bytes ran → StopsAt names c bytes line → ⊥

-- other bytes stop at one line at most
abbrev pub StopsAtOneLine : Type 0
StopsAtOneLine = (names : List (List ℕ)) (c : Configuration) (bytes : List ℕ) (one two : ℕ) → IsSound c → StopsAt names c bytes one → StopsAt names c bytes two → one ≡ two
