use Rattle.std.proofs.Common.{◌≡◌, ℕ, List, ◌++◌, length}
use Rattle.lio_values.specs.declared.value.Value.{Value}
use Rattle.lio_events.specs.EntryText.{args_text}
use Rattle.lio_events_reading.specs.Over.{AreValuesOver}
use Rattle.lio_events_reading.proofs.ActLemmas.{colon}
use Rattle.lio_events_reading.proofs.BirthLemmas.{Left}
use Rattle.lio_events_reading.proofs.births.args.Given as goal

-- the arguments so far, and those that are left, wherever the bytes are the text of arguments before the colon
abbrev pub invariant-arguments : goal.invariant-arguments
invariant-arguments l =
    ((all : List Value) (rest : List ℕ) → AreValuesOver l.names all → l.fn.text ≡ args_text l.names all ++ (colon ++ rest) → Left l.names l.args l.text all rest) × AreValuesOver l.names l.args

abbrev pub decreases-arguments : goal.decreases-arguments
decreases-arguments l = length l.text
