-- What the words of the observer's program name.
use Rattle.std.specs.Prelude.{ℕ, ◌&&◌, List, [], ◌∷◌, Option, None, Some, if◌then◌else◌}
use Rattle.lio_front.specs.Command.{is_name}
use Rattle.lio_observe_main.specs.declared.words.Command as declared

-- the files of the policy, of the script and of a view, and the text of the observer's label
pub record Command : Type 0 where
  pub policy : List ℕ
  pub script : List ℕ
  pub view : List ℕ
  pub label : List ℕ

-- the command that words give: there are four, and none of them is empty or begins with `-`
abbrev pub command_of : List (List ℕ) → Option Command
command_of (policy ∷ script ∷ view ∷ label ∷ []) =
    if is_name policy && is_name script && is_name view && is_name label
    then Some (record { policy = policy; script = script; view = view; label = label })
    else None
command_of words = None

-- the command that the code's stands for
abbrev pub named : declared.Command → Command
named command = record { policy = command.policy.now; script = command.script.now; view = command.view.now; label = command.label.now }
