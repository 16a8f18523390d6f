use Rattle.lio_outside.proofs.StepsLemmas.{give-asked}
use Rattle.lio_front.specs.declared.status.Status.TheVariants.{Missing}
use Rattle.lio_front.proofs.loading.fetch.Goals as goal

pub returns-in-Ok-clause-ok : goal.returns-in-Ok-clause-ok
returns-in-Ok-clause-ok g c = give-asked (g.S.Store.holds c.args.store.now) (Missing c.args.name.now) c.args.name.now c.args.limit c.in-Ok.bytes.items c.in-Ok.ensures.ok
