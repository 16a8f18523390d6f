-- What is told of a run that is taken again.
use Rattle.std.specs.Prelude.{◌≡◌, ℕ, Bool, false, List, length}
use Rattle.lio_calculus.specs.Run.{Ran}
use Rattle.lio_ask_main.specs.Past.{IsOf, Past}
use Rattle.lio_ask_main.specs.Troubles.{audit_text, is_troubled}
use Rattle.lio_ask_main.specs.Turns.{turn_lines}

-- The lines of a run, one for each turn, in which each turn has some line of the script.
pub record AreLines (ran : Ran) (text : List ℕ) : Type 0 where
  pub numbers : List ℕ
  pub each : length numbers ≡ length ran.entries
  pub text_is : text ≡ turn_lines numbers 0 ran.entries

-- a run is told by its counts
abbrev pub IsCounted : Ran → List ℕ → Bool → Type 0
IsCounted ran text troubled = (text ≡ audit_text ran) × (troubled ≡ is_troubled ran)

-- a run is told by its lines, which tell of no trouble
abbrev pub IsListed : Ran → List ℕ → Bool → Type 0
IsListed ran text troubled = AreLines ran text × (troubled ≡ false)

-- the history is that of one complete run, which is told by its counts
abbrev pub TellsCounts : Past → List ℕ → Bool → Type 0
TellsCounts past text troubled = (ran : Ran) × IsOf past ran × IsCounted ran text troubled

-- or by its lines
abbrev pub TellsLines : Past → List ℕ → Bool → Type 0
TellsLines past text troubled = (ran : Ran) × IsOf past ran × IsListed ran text troubled
