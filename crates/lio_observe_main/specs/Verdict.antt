-- What an observer's check is over, as its words and the files say: the answer that refuses it, or what is checked.
use Rattle.std.specs.Prelude.{◌≡◌, ℕ, Bool, true, false, List, [], ◌∷◌, Option, None, Some, Result, Ok, Err}
use Rattle.lio_outside.specs.FileMap.{FileMap}
use Rattle.lio_outside.specs.Fetch.{given}
use Rattle.lio_outside.specs.Steps.{Steps, Over, ◌>>=◌, asked, or_refused, outcome}
use Rattle.lio_outside.specs.Asking.{Give}
use Rattle.lio_labels.specs.Flow.{flows}
use Rattle.lio_labels.specs.declared.label.Label.{Label}
use Rattle.lio_policy.specs.declared.policy.FileEntry.{FileEntry}
use Rattle.lio_policy.specs.declared.policy.Policy.{Policy}
use Rattle.lio_audit.specs.History.{most_history_bytes}
use Rattle.lio_front.specs.declared.status.Status.{Status}
use Rattle.lio_front.specs.declared.status.Status.TheVariants.{BadWords, Missing}
use Rattle.lio_front.specs.Loading.{loading}
use Rattle.lio_observe_main.specs.Claim.{Claim}
use Rattle.lio_observe_main.specs.Words.{Command, command_of}

-- the text of an input that the observer sees, at most one byte more than the limit; of another input nothing is asked, and the empty text stands for its own
abbrev pub text_by : Bool → ℕ → FileEntry → Steps (List ℕ) Status
text_by true longest input = asked (Missing input.file) input.file longest
text_by false longest input = Over (Ok [])

-- an observer sees an input whose label flows to its own
abbrev pub text_seen : Label → ℕ → FileEntry → Steps (List ℕ) Status
text_seen observer longest input = text_by (flows input.label observer) longest input

-- the texts of inputs, as far as an observer sees them
abbrev pub texts_seen : Label → ℕ → List FileEntry → Steps (List (List ℕ)) Status
texts_seen observer longest [] = Over (Ok [])
texts_seen observer longest (input ∷ inputs) = do
  text ← text_seen observer longest input
  others ← texts_seen observer longest inputs
  Over (Ok (text ∷ others))

-- what an observer holds beside the policy and the script: the texts of the inputs that it sees, and the bytes that are to be its view, at most one more than views may have
abbrev pub holding : Label → Policy → List ℕ → Steps (List (List ℕ) × List ℕ) Status
holding observer policy view = do
  texts ← texts_seen observer policy.longest policy.inputs
  bytes ← asked (Missing view) view most_history_bytes
  Over (Ok (texts, bytes))

-- what is checked by a command, or the refusal of the first step that is refused: the policy, the observer's label, the script, the inputs that the observer sees, the view
abbrev pub claiming : Command → Steps Claim Status
claiming command = do
  front ← loading command.policy command.script (Some command.label)
  observer ← Over (or_refused BadWords front.observer)
  held ← holding observer front.policy command.view
  Over (Ok (record { job = record { policy = front.policy; script = front.script; inputs = held.0 }; observer = observer; view = held.1 }))

-- what a check is over by its command, over files
abbrev pub verdict_by : FileMap → Option Command → Result Claim Status
verdict_by files None = Err BadWords
verdict_by files (Some command) = outcome (given files) (claiming command)

-- what a check with these words is over, over files
abbrev pub verdict : FileMap → List (List ℕ) → Result Claim Status
verdict files words = verdict_by files (command_of words)

-- a claim is the verdict on a call with these words, over what the store gave
pub record IsVerdict (told : Option FileMap) (words : List (List ℕ)) (claim : Claim) : Type 0 where
  pub command : Command
  pub named : command_of words ≡ Some command
  pub given : Give told (claiming command) (Ok claim)
