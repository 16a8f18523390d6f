-- What a channel has received, by a journal.
use Rattle.std.specs.Prelude.{ℕ, List, [], ◌==◌, Option, Some, None, if◌then◌else◌}
use Rattle.std.specs.List.{flat_map}
use Rattle.lio_values.specs.declared.act.Act.{Act}
use Rattle.lio_values.specs.declared.act.Act.TheVariants.{Send}
use Rattle.lio_values.specs.declared.act.Reply.{Reply}
use Rattle.lio_values.specs.declared.act.Reply.TheVariants.{Done}
use Rattle.lio_values.specs.declared.entry.Entry.{Entry}

-- the text of a send that was carried out
abbrev pub sent : Act → Reply → List ℕ
sent (Send text) Done = text
sent act reply = []

-- what a turn with this target sends to a channel
abbrev pub sent_to : ℕ → Option ℕ → Act → Reply → List ℕ
sent_to channel None act reply = []
sent_to channel (Some target) act reply = if target == channel then sent act reply else []

-- the texts of the sends to a channel, one after another
abbrev pub channel_bytes : List Entry → ℕ → List ℕ
channel_bytes entries channel = flat_map (λ entry. sent_to channel entry.target entry.act entry.reply) entries
