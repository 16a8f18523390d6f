-- The summary of a run, as it is said.
use Rattle.std.specs.Prelude.{ℕ, ◌+◌, Bool, false, List, [], ◌∷◌, ◌++◌, length, codes, decimal, is_some}
use Rattle.std.specs.List.{count_by}
use Rattle.std.specs.Option.{option_map_or}
use Rattle.lio_values.specs.declared.entry.Entry.{Entry}
use Rattle.lio_events.specs.ChannelBytes.{channel_bytes}
use Rattle.lio_calculus.specs.Step.{Cell, Configuration}
use Rattle.lio_policy.specs.Policy.{PolicyParts}
use Rattle.lio_policy.specs.declared.policy.FileEntry.{FileEntry}

-- whether a cell has a task
abbrev pub has_task : Cell → Bool
has_task cell = is_some cell.task

-- whether a cell has a task that has ended
abbrev pub has_ended : Cell → Bool
has_ended cell = option_map_or (λ task. task.ended) cell.task false

-- a line: a word and a number
abbrev pub line_of : List ℕ → ℕ → List ℕ
line_of word number = word ++ codes " " ++ decimal number ++ codes "\n"

-- the line of a channel: its name, and how many bytes were sent to it
abbrev pub channel_line : List Entry → ℕ → FileEntry → List ℕ
channel_line journal number channel = codes "channel " ++ line_of channel.name (length (channel_bytes journal number))

-- the lines of channels, the first of which has the number
abbrev pub channel_lines : List Entry → ℕ → List FileEntry → List ℕ
channel_lines journal number [] = []
channel_lines journal number (channel ∷ channels) = channel_line journal number channel ++ channel_lines journal (number + 1) channels

-- how many tasks there are after a run, how many of them have ended, how many turns were taken, and how many bytes were sent to each channel
unfoldable pub summary_text : PolicyParts → Configuration → List Entry → List ℕ
summary_text policy last journal =
    line_of (codes "tasks") (count_by has_task last.cells) ++ line_of (codes "ended") (count_by has_ended last.cells)
    ++ line_of (codes "turns") (length journal) ++ channel_lines journal 0 policy.channels
