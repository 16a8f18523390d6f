use Rattle.std.proofs.Common.{◌≡◌, IfOk, subst}
use Rattle.lio_guards.specs.declared.class.Class.{Class}
use Rattle.lio_guards.specs.Guard.{guarded, guarded_as}
use Rattle.lio_guards.proofs.guards.guard.Goals as goal

pub returns-in-Exchange : goal.returns-in-Exchange
unfolding guarded
returns-in-Exchange c =
    let P : Class → Type 0 = λ class. IfOk c.write-in-Exchange.result (λ verdict. verdict ≡ guarded_as class c.args.current.now c.args.clearance.now c.args.target.now) in
    subst P c.in-Exchange.ensures c.write-in-Exchange.ensures
