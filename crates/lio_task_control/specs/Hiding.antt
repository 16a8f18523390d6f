-- What an observer sees of a frame.
use Rattle.std.specs.Prelude.{◌≡◌}
use Rattle.lio_labels.specs.declared.label.Label.{Label}
use Rattle.lio_syntax.specs.Hiding.{hide_environment}
use Rattle.lio_task_control.specs.declared.frame.Frame.{Frame}

-- a frame that stands for another one, with its values hidden; its place and its stage hold none
pub record HidesFrame (observer : Label) (old new : Frame) : Type 0 where
  pub environment : new.environment ≡ hide_environment observer old.environment
  pub at : new.at ≡ old.at
  pub stage : new.stage ≡ old.stage
