-- What a run writes.
use Rattle.std.specs.Prelude.{ℕ, ◌+◌, Bool, true, false, List, [], ◌∷◌, ◌++◌, Option, Some, None}
use Rattle.lio_outside.specs.FileMap.{FileMap}
use Rattle.lio_outside.specs.Outputs.{Output, KeepsFirst, StopsAt}
use Rattle.lio_outside.specs.Count.{Faults, FailedAt}
use Rattle.lio_values.specs.declared.entry.Entry.{Entry}
use Rattle.lio_events.specs.ChannelBytes.{channel_bytes}
use Rattle.lio_events.specs.JournalText.{journal_text}
use Rattle.lio_policy.specs.declared.policy.Policy.{Policy}
use Rattle.lio_policy.specs.declared.policy.FileEntry.{FileEntry}
use Rattle.lio_front.specs.declared.status.Status.{Status}
use Rattle.lio_front.specs.declared.status.Status.TheVariants.{WriteFault, NoMemory}

-- the file of the channel with a number: the texts that were sent to it, one after another
abbrev pub output_of : List Entry → ℕ → FileEntry → Output
output_of journal number channel = record { name = channel.file; bytes = channel_bytes journal number }

-- the files of channels, the first of which has the number
abbrev pub outputs_from : List Entry → ℕ → List FileEntry → List Output
outputs_from journal number [] = []
outputs_from journal number (channel ∷ channels) = output_of journal number channel ∷ outputs_from journal (number + 1) channels

-- the file of a journal's lines, with their tickets or without, where it has a name
abbrev pub journal_output : List (List ℕ) → Bool → List Entry → Option (List ℕ) → List Output
journal_output names ticket journal None = []
journal_output names ticket journal (Some file) = record { name = file; bytes = journal_text names ticket journal } ∷ []

-- the files that a run writes, in their order: each channel's, the history with its tickets, and the view without
abbrev pub outputs : Policy → List Entry → Option (List ℕ) → Option (List ℕ) → List Entry → List Output
outputs policy journal history view seen =
    outputs_from journal 0 policy.channels ++ (journal_output policy.names true journal history ++ journal_output policy.names false seen view)

-- why the files aren't all written, and what then holds
abbrev pub OutSays : Option FileMap → Option FileMap → List Output → Faults → Faults → Status → Type 0
OutSays told now files before after (WriteFault name) = StopsAt told now files name × FailedAt name before after
OutSays told now files before after NoMemory = KeepsFirst told now files
OutSays told now files before after other = ⊥
