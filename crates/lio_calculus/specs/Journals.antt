-- Logs and journals: which logs can be merged into one journal, which journal is their merge, and the parts of a journal that cells have.
use Rattle.std.specs.Prelude.{◌≡◌, ℕ, ◌+◌, ◌<◌, Bool, true, List, [], ◌∷◌, Contains, filter, map, Some}
use Rattle.std.specs.List.{count_by}
use Rattle.lio_values.specs.declared.entry.Entry.{Entry}
use Rattle.lio_events.specs.Rising.{AreRising}
use Rattle.lio_calculus.specs.Step.{Configuration}
use Rattle.lio_calculus.specs.Effect.{touches}
use Rattle.lio_calculus.specs.Logs.{IsLocal, Logs}

-- the tasks that took the turns of a journal, in order
abbrev pub actors : List Entry → List ℕ
actors entries = map (λ entry. entry.actor) entries

-- the entries of a journal that show a cell
abbrev pub of_cell : ℕ → List Entry → List Entry
of_cell n entries = filter (touches n) entries

-- the logs are the parts of a journal
abbrev pub ArePartsOf : List Entry → Logs → Type 0
ArePartsOf journal logs = (n : ℕ) → logs n ≡ of_cell n journal

-- lists have the same entries, each as often
abbrev pub HaveSameEntries : List Entry → List Entry → Type 0
HaveSameEntries one other = (p : Entry → Bool) → count_by p one ≡ count_by p other

-- the entries have the tickets from a first one on, each in its place
abbrev pub AreNumberedFrom : ℕ → List Entry → Type 0
AreNumberedFrom ticket [] = Unit {0}
AreNumberedFrom ticket (entry ∷ entries) = (entry.ticket ≡ ticket) × AreNumberedFrom (ticket + 1) entries

-- Logs can be merged.
pub record AreMergeable (logs : Logs) : Type 0 where
  -- each entry stands in its actor's log, in its target's if it has a target, and in no other
  pub actor : (n : ℕ) (entry : Entry) → Contains (logs n) entry → Contains (logs entry.actor) entry
  pub target : (n m : ℕ) (entry : Entry) → Contains (logs n) entry → entry.target ≡ Some m → Contains (logs m) entry
  pub no_other : (n : ℕ) (entry : Entry) → Contains (logs n) entry → touches n entry ≡ true
  -- entries with the same ticket are one
  pub one : (m n : ℕ) (one other : Entry) → Contains (logs m) one → Contains (logs n) other → one.ticket ≡ other.ticket → one ≡ other

-- A journal is the merge of logs: it has all entries that stand in the logs and no other, each once, in rising order of tickets.
pub record IsMerged (logs : Logs) (journal : List Entry) : Type 0 where
  pub all : (n : ℕ) (entry : Entry) → Contains (logs n) entry → Contains journal entry
  pub no_other : (entry : Entry) → Contains journal entry → (n : ℕ) × Contains (logs n) entry
  pub rising : AreRising journal

-- an entry of the logs has this ticket
pub record HasTicket (logs : Logs) (ticket : ℕ) : Type 0 where
  pub log : ℕ
  pub entry : Entry
  pub stands : Contains (logs log) entry
  pub is : entry.ticket ≡ ticket

-- Logs of the cells of a configuration, with so many entries in all: they can be merged, each ticket below that number stands in an entry and no
-- other ticket does, tickets rise in each log, and each entry is local.
pub record IsLogged (c : Configuration) (logs : Logs) (count : ℕ) : Type 0 where
  pub mergeable : AreMergeable logs
  pub each : (ticket : ℕ) → ticket < count → HasTicket logs ticket
  pub no_more : (n : ℕ) (entry : Entry) → Contains (logs n) entry → entry.ticket < count
  pub rising : (n : ℕ) → AreRising (logs n)
  pub local : (n : ℕ) (entry : Entry) → Contains (logs n) entry → IsLocal c logs entry
