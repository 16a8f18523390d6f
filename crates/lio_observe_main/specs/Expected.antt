-- With which line a view could go on.
use Rattle.std.specs.Prelude.{◌≡◌, ℕ, zero, suc, ◌-◌, false, List, Some}
use Rattle.lio_labels.specs.declared.label.Label.{Label}
use Rattle.lio_values.specs.declared.value.Content.{Content}
use Rattle.lio_values.specs.declared.entry.Entry.{Entry}
use Rattle.lio_events.specs.JournalText.{entry_text}
use Rattle.lio_calculus.specs.Erased.{LowTurn, low}
use Rattle.lio_calculus.specs.Step.{Configuration}
use Rattle.lio_observe_main.specs.Claim.{Claim, seen_first}

-- A turn of the erased calculus, with some contents, shows this entry and leads from a configuration to another.
pub record IsTurn (observer : Label) (before after : Configuration) (entry : Entry) : Type 0 where
  pub task : ℕ
  pub contents : List Content
  pub turn : LowTurn
  pub is_step : low observer 0 before task contents ≡ Some turn
  pub shows : turn.entry ≡ entry
  pub leads : turn.next ≡ after

-- such a turn leads from a configuration to another
pub record MovesOn (observer : Label) (before after : Configuration) : Type 0 where
  pub entry : Entry
  pub turn : IsTurn observer before after entry

-- so many such turns, one after another, do
abbrev pub AreTurns : Label → ℕ → Configuration → Configuration → Type 0
AreTurns observer zero before after = after ≡ before
AreTurns observer (suc count) before after = (middle : Configuration) × AreTurns observer count before middle × MovesOn observer middle after

-- a text is the line of such a turn
pub record IsLine (names : List (List ℕ)) (observer : Label) (c : Configuration) (text : List ℕ) : Type 0 where
  pub after : Configuration
  pub entry : Entry
  pub turn : IsTurn observer c after entry
  pub text_is : text ≡ entry_text names false entry

-- a text is the line with this number, from 1: that of a turn behind as many turns as lines stand before it
pub record CouldFollow (names : List (List ℕ)) (observer : Label) (c : Configuration) (line : ℕ) (text : List ℕ) : Type 0 where
  pub before : Configuration
  pub turns : AreTurns observer (line - 1) c before
  pub is_line : IsLine names observer before text

-- it could be that line of the view, by what the observer sees of the first configuration over these texts
abbrev pub CouldStand : Claim → List (List ℕ) → ℕ → List ℕ → Type 0
CouldStand claim texts line text = CouldFollow claim.job.policy.names claim.observer (seen_first claim texts) line text
