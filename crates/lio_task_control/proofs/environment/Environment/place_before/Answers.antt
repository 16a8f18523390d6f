use Rattle.std.proofs.Common.{◌∙◌, sym}
use Rattle.std.proofs.lemmas.Option.{none-some}
use Rattle.lio_values.specs.declared.value.Plain.TheVariants.{Unit}
use Rattle.lio_values.specs.declared.value.Value.TheVariants.{Bare}
use Rattle.lio_task_control.proofs.environment.Environment.place_before.Goals as goal

pub unreachable-requires : goal.unreachable-requires
unreachable-requires c = none-some _ (sym c.requires ∙ c.in-Ok.ensures.value (record { name = c.args.name.now; value = Bare Unit }))
