-- What the channels have received, one after another.
use Rattle.std.specs.Prelude.{ℕ, List, map, Vec}
use Rattle.std.specs.List.{range_with_len}
use Rattle.std.specs.declared.alloc.Global.{Global}
use Rattle.lio_values.specs.declared.entry.Entry.{Entry}
use Rattle.lio_events.specs.ChannelBytes.{channel_bytes}

-- what each channel has received, of so many channels, in the order of their numbers
unfoldable pub received : List Entry → ℕ → List (List ℕ)
received journal count = map (channel_bytes journal) (range_with_len 0 count)

-- the bytes of each list
abbrev pub bytes_of_lists : List (Vec ℕ Global) → List (List ℕ)
bytes_of_lists lists = map (λ list. list.items) lists
