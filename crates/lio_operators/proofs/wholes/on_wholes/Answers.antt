-- The comparison of the bits is that of the wholes.
use Rattle.std.proofs.Common.{refl, w64}
use Rattle.std.proofs.lemmas.Int.{to_z-of_z}
use Rattle.lio_operators.proofs.wholes.on_wholes.Goals as goal

pub returns-in-Le : goal.returns-in-Le
returns-in-Le c = rw (to_z-of_z w64 c.args.a c.ranges.a, to_z-of_z w64 c.args.b c.ranges.b, c.in-Le.is) refl
