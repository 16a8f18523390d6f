use Rattle.std.proofs.Common.{◌∙◌, sym}
use Rattle.serde_json.specs.View.{view}
use Rattle.lio_policy_draft.proofs.ShapeLemmas.{no_texts}
use Rattle.lio_policy_draft.proofs.shape.task_draft.Goals as goal

pub returns-in_default : goal.returns-in_default
returns-in_default c = no_texts c.args.version (view c.args.value.now) (sym c.in_default.is ∙ c.in_ok-texts.ensures)
