-- The logs of a configuration's nodes, and what a turn makes of them.
use Rattle.std.specs.Prelude.{◌≡◌, ◌<◌, ℕ, List, [], ◌∷◌, ◌++◌, All, map, slice_index_or}
use Rattle.lio_values.specs.declared.entry.Entry.{Entry}
use Rattle.lio_calculus.specs.Journals.{of_cell}
use Rattle.lio_cells.specs.Node.{NodeState}
use Rattle.lio_task.specs.declared.config.Holder.{Holder}
use Rattle.lio_task.specs.declared.config.Config.{Config}

-- the nodes, by number
abbrev pub nodes_of : Config → List NodeState
nodes_of config = map (λ holder. holder.node) config.holders.items

-- the logs of the nodes, by number
abbrev pub logs_of : List Holder → List (List Entry)
logs_of holders = map (λ holder. holder.node.log) holders

-- the log of the node with a number; beyond the list there is none
abbrev pub log_in : Config → ℕ → List Entry
log_in config n = slice_index_or (logs_of config.holders.items) n []

-- no node has served a turn
abbrev pub HaveNoLogs : List Holder → Type 0
HaveNoLogs holders = All (λ holder. holder.node.log ≡ []) holders

abbrev pub AreFresh : Config → Type 0
AreFresh config = HaveNoLogs config.holders.items

-- a ticket is greater than all in the logs
abbrev pub IsLaterThanLogs : Config → ℕ → Type 0
IsLaterThanLogs config ticket = (n : ℕ) → All (λ before. before.ticket < ticket) (log_in config n)

-- all logs are as before
abbrev pub HasSameLogs : Config → Config → Type 0
HasSameLogs old new = (n : ℕ) → log_in new n ≡ log_in old n

-- an entry has come last in the log of each node that it shows: of its actor's, and of its target's, if it has one
abbrev pub Appends : Config → Config → Entry → Type 0
Appends old new entry = (n : ℕ) → log_in new n ≡ log_in old n ++ of_cell n (entry ∷ [])
