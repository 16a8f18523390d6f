-- What operations do with their targets (LIO, ICFP 2012).
use Rattle.lio_values.specs.declared.act.Op.{Op}
use Rattle.lio_values.specs.declared.act.Op.TheVariants as op
use Rattle.lio_guards.specs.declared.class.Class.{Class}
use Rattle.lio_guards.specs.declared.class.Class.TheVariants.{Write, Raise, Exchange}

-- an operation makes its target or writes to it, or learns from it, or does both
abbrev pub class_of : Op → Class
class_of op.Seal = Write
class_of op.NewRef = Write
class_of op.NewVar = Write
class_of op.Write = Write
class_of op.Send = Write
class_of op.Fork = Write
class_of op.Lower = Write
class_of op.Unlabel = Raise
class_of op.Taint = Raise
class_of op.Read = Raise
class_of op.Wait = Raise
class_of op.Take = Exchange
class_of op.Put = Exchange
