-- What a channel has received, in pieces of which the last stands first.
use Rattle.std.specs.Prelude.{ℕ, List, [], ◌++◌}
use Rattle.lio_cells.specs.declared.bytes.Pieces.{Pieces, Nothing, Last'}

abbrev pub bytes_of : Pieces → List ℕ
bytes_of Nothing = []
bytes_of (Last' shared text before) = bytes_of before ++ text
