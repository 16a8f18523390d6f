-- How the steps before a run is taken again stand together.
use Rattle.std.proofs.Common.{refl, ℕ, ◌≤◌, List, Option, None, Ok}
use Rattle.lio_outside.specs.FileMap.{FileMap}
use Rattle.lio_outside.specs.Count.{Faults}
use Rattle.lio_outside.specs.Steps.{Steps, Over, ◌>>=◌, asked}
use Rattle.lio_outside.specs.Asking.{Give}
use Rattle.lio_outside.proofs.StepsLemmas.{give-then, refuse-behind, refuse-first}
use Rattle.lio_audit.specs.History.{most_history_bytes}
use Rattle.lio_policy.specs.declared.policy.Policy.{Policy}
use Rattle.lio_front.specs.declared.status.Status.{Status}
use Rattle.lio_front.specs.declared.status.Status.TheVariants.{Missing}
use Rattle.lio_front.specs.declared.loading.Front.{Front}
use Rattle.lio_front.specs.Status.{Says, cause_of}
use Rattle.lio_front.specs.Loading.{loading, texts}
use Rattle.lio_ask_main.specs.Past.{Past, holding, recalling}
use Rattle.lio_ask_main.specs.Words.{Files}

abbrev Held : Type 0
Held = List (List ℕ) × List ℕ

-- the history, and the steps behind the inputs
abbrev history_of : List ℕ → Steps (List ℕ) Status
history_of history = asked (Missing history) history most_history_bytes

abbrev with_history : List (List ℕ) → List ℕ → Steps Held Status
with_history inputs bytes = Over (Ok (inputs, bytes))

abbrev behind_inputs : List ℕ → List (List ℕ) → Steps Held Status
behind_inputs history inputs = history_of history >>= with_history inputs

-- the inputs and the history are there
pub give-held : (told : Option FileMap) (policy : Policy) (history : List ℕ) (inputs : List (List ℕ)) (bytes : List ℕ) → Give told (texts policy.longest policy.inputs) (Ok inputs)
    → Give told (history_of history) (Ok bytes) → Give told (holding policy history) (Ok (inputs, bytes))
give-held told policy history inputs bytes first second =
    give-then told (texts policy.longest policy.inputs) (behind_inputs history) inputs (Ok (inputs, bytes)) first
    (give-then told (history_of history) (with_history inputs) bytes (Ok (inputs, bytes)) second refl)

-- an input isn't
pub refuse-inputs : (told : Option FileMap) (policy : Policy) (history : List ℕ) (before after : Faults) (fault : Status) → Says told (texts policy.longest policy.inputs) before after fault
    → Says told (holding policy history) before after fault
refuse-inputs told policy history before after fault says =
    refuse-first (cause_of fault) told (texts policy.longest policy.inputs) (behind_inputs history) before after fault says

-- the history isn't
pub refuse-history : (told : Option FileMap) (policy : Policy) (history : List ℕ) (inputs : List (List ℕ)) (before middle after : Faults) (fault : Status) → before.count ≤ middle.count
    → Give told (texts policy.longest policy.inputs) (Ok inputs) → Says told (history_of history) middle after fault → Says told (holding policy history) before after fault
refuse-history told policy history inputs before middle after fault first gave says =
    refuse-behind (cause_of fault) told (texts policy.longest policy.inputs) (behind_inputs history) inputs before middle after fault first gave
    (refuse-first (cause_of fault) told (history_of history) (with_history inputs) middle after fault says)

-- the steps of a question, and those behind its parts
abbrev front_steps : Files → Steps Front Status
front_steps files = loading files.policy files.script None

abbrev held_steps : Files → Front → Steps Held Status
held_steps files read = holding read.policy files.history

abbrev past_with : Front → Held → Past
past_with read held = record { job = record { policy = read.policy; script = read.script; inputs = held.0 }; history = held.1 }

abbrev with_held : Front → Held → Steps Past Status
with_held read held = Over (Ok (past_with read held))

abbrev behind_front : Files → Front → Steps Past Status
behind_front files read = held_steps files read >>= with_held read

-- the policy or the script isn't read
pub refuse-front : (told : Option FileMap) (files : Files) (before after : Faults) (fault : Status) → Says told (loading files.policy files.script None) before after fault → Says told (recalling files) before after fault
refuse-front told files before after fault says = refuse-first (cause_of fault) told (front_steps files) (behind_front files) before after fault says

-- an input or the history isn't there
pub refuse-held : (told : Option FileMap) (files : Files) (read : Front) (before middle after : Faults) (fault : Status) → before.count ≤ middle.count → Give told (loading files.policy files.script None) (Ok read)
    → Says told (holding read.policy files.history) middle after fault → Says told (recalling files) before after fault
refuse-held told files read before middle after fault first gave says =
    refuse-behind (cause_of fault) told (front_steps files) (behind_front files) read before middle after fault first gave
    (refuse-first (cause_of fault) told (held_steps files read) (with_held read) middle after fault says)

-- all is there
pub give-past : (told : Option FileMap) (files : Files) (read : Front) (held : Held) → Give told (loading files.policy files.script None) (Ok read) → Give told (holding read.policy files.history) (Ok held)
    → Give told (recalling files) (Ok (past_with read held))
give-past told files read held gave holds =
    give-then told (front_steps files) (behind_front files) read (Ok (past_with read held)) gave
    (give-then told (held_steps files read) (with_held read) held (Ok (past_with read held)) holds refl)
