-- Interrupted writes append nothing.
use Rattle.std.specs.Io.KnownBytes.{Keeps}
use Rattle.lio_system.proofs.pieces.write_piece.Given as goal

abbrev pub invariant-loop : goal.invariant-loop
invariant-loop g l = Keeps (g.F.Write.contents l.initial.file) (g.F.Write.contents l.file)
