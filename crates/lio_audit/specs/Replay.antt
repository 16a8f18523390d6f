-- Words for the contracts of a run that is taken again, line by line.
use Rattle.std.specs.Prelude.{◌≡◌, ℕ, ◌+◌, ◌≤◌, true, List, [], ◌∷◌, ◌++◌, drop, length}
use Rattle.lio_values.specs.declared.entry.Entry.{Entry}
use Rattle.lio_syntax.specs.Statements.{Procedure}
use Rattle.lio_events.specs.JournalText.{entry_text}
use Rattle.lio_events.specs.Tickets.{AreBelow}
use Rattle.lio_calculus.specs.Sound.{IsSound}
use Rattle.lio_calculus.specs.Step.{Configuration}
use Rattle.lio_calculus_runs.specs.Configuration.{NamesOnly}
use Rattle.lio_task.specs.declared.config.Config.{Config}
use Rattle.lio_task.specs.Configuration.{configuration_of}
use Rattle.lio_task.specs.Logs.{IsLaterThanLogs}
use Rattle.lio_task.specs.Takes.{Steps}
use Rattle.lio_audit.specs.declared.fault.AuditFault.{AuditFault}
use Rattle.lio_audit.specs.declared.fault.AuditFault.TheVariants.{NotARun, NoMemory}
use Rattle.lio_audit.specs.History.{BeginsTurn}

-- A configuration after the entries of a journal, from which turns can be taken again.
pub record Stands (names : List (List ℕ)) (script : List Procedure) (config : Config) (journal : List Entry) : Type 0 where
  pub sound : IsSound (configuration_of script config)
  pub named : NamesOnly names (configuration_of script config)
  pub later : IsLaterThanLogs config (length journal)
  pub below : AreBelow (length journal) journal

-- a line stands at the front of bytes, and ends at a place
pub record LineEndsAt (line bytes : List ℕ) (len : ℕ) : Type 0 where
  pub text : bytes ≡ line ++ drop len bytes
  pub len_is : len ≡ length line
  pub within : len ≤ length bytes

-- The line at the front of bytes was that of a turn, and the turn was taken: the entry comes last in the journal.
pub record TakesLine (names : List (List ℕ)) (script : List Procedure) (old new : Config) (before after : List Entry) (bytes : List ℕ) (len : ℕ) : Type 0 where
  pub entry : Entry
  pub is_step : Steps (configuration_of script old) (configuration_of script new) entry.actor (length before) entry
  pub pushed : after ≡ before ++ entry ∷ []
  pub line : LineEndsAt (entry_text names true entry) bytes len
  pub stands : Stands names script new after

-- no line of a turn stands at the front of bytes, after a journal; or memory is wanting
abbrev pub Refuses : List (List ℕ) → Configuration → List Entry → List ℕ → AuditFault → Type 0
Refuses names c journal bytes (NotARun line) = (line ≡ length journal + 1) × (BeginsTurn names (length journal) c bytes → ⊥)
Refuses names c journal bytes NoMemory = Unit {0}
