-- What a value or a content begins with.
use Rattle.std.specs.Prelude.{ℕ, ◌==◌, ◌&&◌, List, get_or, if◌then◌else◌}
use Rattle.lio_events_reading.specs.declared.start.Start.{Start}
use Rattle.lio_events_reading.specs.declared.start.Start.TheVariants.{Text, Label, List as list, Hidden, Sealed, Empty, Fault, Word}

-- by its first byte and its third: `fault` and `false` differ in that one
abbrev pub start_at : ℕ → ℕ → Start
start_at first third =
    if first == 34 then Text
    else (if first == 60 then Label
    else (if first == 91 then list
    else (if first == 104 then Hidden
    else (if first == 115 then Sealed
    else (if first == 101 then Empty
    else (if first == 102 && third == 117 then Fault else Word))))))

abbrev pub start_of : List ℕ → Start
start_of bytes = start_at (get_or bytes 0 0) (get_or bytes 2 0)
