-- The laws of logs: entries that are each local to two logs make a run together (the small step of the concurrent calculus of LIO, ICFP 2012, changes
-- two cells and looks at them alone).
use Rattle.std.specs.Prelude.{◌≡◌, ℕ, List, length, Contains, Some}
use Rattle.lio_values.specs.declared.entry.Entry.{Entry}
use Rattle.lio_calculus.specs.Step.{Configuration}
use Rattle.lio_calculus.specs.Run.{run}
use Rattle.lio_calculus.specs.Sound.{IsSound}
use Rattle.lio_calculus.specs.Logs.{IsLocal, Logs, folded}
use Rattle.lio_calculus.specs.Journals.{AreMergeable, AreNumberedFrom, ArePartsOf, IsLogged, IsMerged, actors}

-- A journal is a run from a configuration: its actors take their turns in its order, and the turns give the journal. In the last configuration each
-- cell is the fold of its log, and the last configuration is sound.
pub record IsRunOfLogs (c : Configuration) (logs : Logs) (journal : List Entry) : Type 0 where
  pub is_run : run 0 c (actors journal) ≡ Some (record { entries = journal; last = folded c logs })
  pub sound : IsSound (folded c logs)

-- logs in which each ticket below a number stands in one entry, and no other ticket does, have a merge
abbrev pub LogsHaveAMerge : Type 0
LogsHaveAMerge = (c : Configuration) (logs : Logs) (count : ℕ) → IsLogged c logs count → (journal : List Entry) × IsMerged logs journal

-- logs whose entries are each local have a merge, and it is a run
abbrev pub LocalEntriesMakeARun : Type 0
LocalEntriesMakeARun = (c : Configuration) (logs : Logs) (count : ℕ) → IsSound c → IsLogged c logs count → (journal : List Entry) × IsMerged logs journal × IsRunOfLogs c logs journal

-- the parts of a journal with the tickets from 0 on are such logs, where each of its entries is local
abbrev pub PartsOfAJournalAreLogged : Type 0
PartsOfAJournalAreLogged = (c : Configuration) (logs : Logs) (journal : List Entry) → ArePartsOf journal logs → AreNumberedFrom 0 journal
    → ((entry : Entry) → Contains journal entry → IsLocal c logs entry) → IsLogged c logs (length journal)

-- logs have one merge at most
abbrev pub LogsHaveOneMerge : Type 0
LogsHaveOneMerge = (logs : Logs) (one other : List Entry) → IsMerged logs one → IsMerged logs other → one ≡ other

-- the parts of a journal with the tickets from 0 on can be merged, and it is their merge
abbrev pub PartsMergeToTheJournal : Type 0
PartsMergeToTheJournal = (logs : Logs) (journal : List Entry) → ArePartsOf journal logs → AreNumberedFrom 0 journal → AreMergeable logs × IsMerged logs journal
