-- The entries of logs by their actors.
use Rattle.std.specs.Prelude.{ℕ, ◌+◌, ◌==◌, List, [], ◌∷◌, ◌++◌, filter, map}
use Rattle.std.specs.Borrow.{Bor}
use Rattle.lio_values.specs.declared.entry.Entry.{Entry}
use Rattle.lio_task.specs.declared.config.Holder.{Holder}

-- entries that are lent
abbrev pub lent : List (Bor Entry) → List Entry
lent entries = map (λ entry. entry.now) entries

-- the entries of a log whose actor is the node with a number
abbrev pub acted_in : ℕ → List Entry → List Entry
acted_in n log = filter (λ entry. entry.actor == n) log

-- the entries of the logs of holders with numbers from a first one, each out of its actor's log
abbrev pub acted_from : ℕ → List Holder → List Entry
acted_from n [] = []
acted_from n (holder ∷ holders) = acted_in n holder.node.log ++ acted_from (n + 1) holders
