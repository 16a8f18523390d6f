-- How the steps of a command stand together.
use Rattle.std.proofs.Common.{◌≡◌, refl, sym, ap, subst, ℕ, ◌≤◌, arith, List, Option, Some, None, Result, Ok, Err, inr}
use Rattle.std.specs.Prelude.{IfOk, IfErr}
use Rattle.lio_outside.specs.FileMap.{FileMap}
use Rattle.lio_outside.specs.Count.{Faults, Rose, no_faults}
use Rattle.lio_outside.specs.Steps.{Steps, Over, ◌>>=◌, asked, unless}
use Rattle.lio_outside.specs.Asking.{Cause, IsNotThere, IsNotRead, IsWanting, IsSaid, IsNever, Give, Refuse}
use Rattle.lio_outside.proofs.StepsLemmas.{give-parts, give-refused, give-then, refuse-behind, refuse-first, refuse-in_part}
use Rattle.lio_policy.specs.declared.policy.Policy.{Policy}
use Rattle.lio_front.specs.declared.status.Status.{Status}
use Rattle.lio_front.specs.declared.status.Status.TheVariants.{Clash, Missing}
use Rattle.lio_front.specs.declared.loading.Front.{Front}
use Rattle.lio_front.specs.Status.{Says}
use Rattle.lio_front.specs.Clash.{clash}
use Rattle.lio_front.specs.Loading.{loading as front_loading, texts}
use Rattle.lio_front.specs.Command.{Command, Replay, Source, Files, Made}
use Rattle.lio_audit.specs.History.{most_history_bytes}
use Rattle.lio_host_main.specs.declared.order.Loaded.{Loaded}
use Rattle.lio_host_main.specs.Order.{Order, Way, AsTold, label_text, names_added, names_read}
use Rattle.lio_host_main.specs.Verdict.{AreGiven, IsRefusedBy, cause_of, loading, loading_from, of_source, ordering, policy_file, script_file, taking, told_of}
use Rattle.lio_host_main.specs.Workload.{made_files, policy_name, script_name}

-- a step that reads is refused
refuse-read : {A : Type 0} → (told : Option FileMap) (steps : Steps A Status) (before after : Faults) (status : Status) → Says told steps before after status → Refuse (cause_of status) told steps before after status
refuse-read told steps before after (Clash name) says = absurd says
refuse-read told steps before after status says = says

-- no file is taken
abbrev free : Command → Policy → Steps Policy Status
free command policy = Over (unless Clash (clash policy (names_added command) (names_read command)) policy)

abbrev inputs_of : Policy → Steps (List (List ℕ)) Status
inputs_of policy = texts policy.longest policy.inputs

is-free : (told : Option FileMap) (command : Command) (policy : Policy) → clash policy (names_added command) (names_read command) ≡ None → Give told (free command policy) (Ok policy)
is-free told command policy none = ap (λ (name : Option (List ℕ)). unless Clash name policy) none

-- the inputs are there
pub give-taking : (told : Option FileMap) (command : Command) (policy : Policy) (inputs : List (List ℕ)) → clash policy (names_added command) (names_read command) ≡ None → Give told (texts policy.longest policy.inputs) (Ok inputs)
    → Give told (taking command policy) (Ok inputs)
give-taking told command policy inputs none gave =
    give-then told (free command policy) inputs_of policy (Ok inputs) (is-free told command policy none) gave

-- a file that is written is taken
pub give-clash : (told : Option FileMap) (command : Command) (policy : Policy) (name : List ℕ) → clash policy (names_added command) (names_read command) ≡ Some name → Give told (taking command policy) (Err (Clash name))
give-clash told command policy name taken =
    give-refused told (free command policy) inputs_of (Clash name) (ap (λ (n : Option (List ℕ)). unless Clash n policy) taken)

-- an input isn't fetched
pub refuse-input : (told : Option FileMap) (command : Command) (policy : Policy) (before after : Faults) (status : Status) → clash policy (names_added command) (names_read command) ≡ None
    → Says told (texts policy.longest policy.inputs) before after status → Refuse (cause_of status) told (taking command policy) before after status
refuse-input told command policy before after status none says =
    refuse-behind (cause_of status) told (free command policy) inputs_of policy before before after status (omega arith) (is-free told command policy none)
    (refuse-read told (texts policy.longest policy.inputs) before after status says)

-- the steps behind the policy and the script
abbrev loaded_from : Front → List (List ℕ) → Steps Loaded Status
loaded_from front inputs = Over (Ok (record { job = record { policy = front.policy; script = front.script; inputs = inputs }; observer = front.observer }))

abbrev behind_front : Command → Front → Steps Loaded Status
behind_front command front = taking command front.policy >>= loaded_from front

abbrev front_steps : List ℕ → List ℕ → Command → Steps Front Status
front_steps policy script command = front_loading policy script (label_text command)

-- nothing is loaded
pub refuse-load : (told : Option FileMap) (policy script : List ℕ) (command : Command) (before after : Faults) (status : Status)
    → Says told (front_loading policy script (label_text command)) before after status → Refuse (cause_of status) told (loading_from policy script command) before after status
refuse-load told policy script command before after status says =
    refuse-first (cause_of status) told (front_steps policy script command) (behind_front command) before after status
    (refuse-read told (front_loading policy script (label_text command)) before after status says)

-- the inputs aren't there
pub refuse-inputs : (told : Option FileMap) (policy script : List ℕ) (command : Command) (read : Front) (before middle after : Faults) (status : Status) → before.count ≤ middle.count
    → Give told (front_loading policy script (label_text command)) (Ok read) → Refuse (cause_of status) told (taking command read.policy) middle after status
    → Refuse (cause_of status) told (loading_from policy script command) before after status
refuse-inputs told policy script command read before middle after status first gave says =
    refuse-behind (cause_of status) told (front_steps policy script command) (behind_front command) read before middle after status first gave
    (refuse-first (cause_of status) told (taking command read.policy) (loaded_from read) middle after status says)

-- all is there
pub give-loaded : (told : Option FileMap) (policy script : List ℕ) (command : Command) (read : Front) (inputs : List (List ℕ)) (loaded : Loaded)
    → loaded ≡ record { job = record { policy = read.policy; script = read.script; inputs = inputs }; observer = read.observer }
    → Give told (front_loading policy script (label_text command)) (Ok read) → Give told (taking command read.policy) (Ok inputs) → Give told (loading_from policy script command) (Ok loaded)
give-loaded told policy script command read inputs loaded is gave taken =
    subst (λ (l : Loaded). Give told (loading_from policy script command) (Ok l)) (sym is)
    (give-then told (front_steps policy script command) (behind_front command) read (Ok _) gave
    (give-then told (taking command read.policy) (loaded_from read) inputs (Ok _) taken refl))

-- what a store without faults refuses of a workload is refused whatever another one counts
pub refuse-sure : {A E : Type 0} → (cause : Cause) (size : ℕ) (files : FileMap) (steps : Steps A E) (before after : Faults) (fault : E) → Refuse cause (Some files) steps no_faults no_faults fault → Refuse (of_source (Made size) cause) (Some files) steps before after fault
refuse-sure (IsNotThere name) size files steps before after fault says = says
refuse-sure (IsNotRead name) size files steps before after fault (asks, failed) = never failed.0
  where
    never : Rose 0 0 → ⊥
    never rose = grind arith
refuse-sure IsWanting size files steps before after fault says = tt
refuse-sure IsSaid size files steps before after fault says = says
refuse-sure IsNever size files steps before after fault says = absurd says

-- what a command gives is what its source gives
abbrev by_source : Source → Command → Steps Loaded Status
by_source source command = loading_from (policy_file source) (script_file source) command

pub give-source : (told : Option FileMap) (source : Source) (command : Command) (is : Result Loaded Status) → command.source ≡ source → Give (told_of source told) (by_source source command) is → Give (told_of command.source told) (loading command) is
give-source told source command is same gave = subst (λ (s : Source). Give (told_of s told) (by_source s command) is) (sym same) gave

pub refuse-source : (cause : Cause) (told : Option FileMap) (source : Source) (command : Command) (before after : Faults) (status : Status) → command.source ≡ source → Refuse (of_source source cause) (told_of source told) (by_source source command) before after status
    → Refuse (of_source command.source cause) (told_of command.source told) (loading command) before after status
refuse-source cause told source command before after status same says = subst (λ (s : Source). Refuse (of_source s cause) (told_of s told) (by_source s command) before after status) (sym same) says

-- two files
of-files : (policy script : List ℕ) (cause : Cause) → of_source (Files policy script) cause ≡ cause
of-files policy script (IsNotThere name) = refl
of-files policy script (IsNotRead name) = refl
of-files policy script IsWanting = refl
of-files policy script IsSaid = refl
of-files policy script IsNever = refl

pub refuse-files : (told : Option FileMap) (policy script : List ℕ) (command : Command) (before after : Faults) (r : Result Loaded Status) → command.source ≡ Files policy script
    → IfErr r (λ status. Refuse (cause_of status) told (loading_from policy script command) before after status) → IfErr r (λ status. Refuse (of_source command.source (cause_of status)) (told_of command.source told) (loading command) before after status)
refuse-files told policy script command before after (Ok loaded) same says = says
refuse-files told policy script command before after (Err status) same says =
    refuse-source (cause_of status) told (Files policy script) command before after status same
    (subst (λ (cause : Cause). Refuse cause told (loading_from policy script command) before after status) (sym (of-files policy script (cause_of status))) says)

-- a generated workload
pub give-made : (told : Option FileMap) (size : ℕ) (files : FileMap) (command : Command) (r : Result Loaded Status) → command.source ≡ Made size → files ≡ made_files size
    → IfOk r (λ loaded. Give (Some files) (loading_from policy_name script_name command) (Ok loaded)) → IfOk r (λ loaded. Give (told_of command.source told) (loading command) (Ok loaded))
give-made told size files command (Err status) same made gave = gave
give-made told size files command (Ok loaded) same made gave =
    give-source told (Made size) command (Ok loaded) same (subst (λ (f : FileMap). Give (Some f) (loading_from policy_name script_name command) (Ok loaded)) made gave)

pub refuse-made : (told : Option FileMap) (size : ℕ) (files : FileMap) (command : Command) (before after : Faults) (r : Result Loaded Status) → command.source ≡ Made size → files ≡ made_files size
    → IfErr r (λ status. Refuse (cause_of status) (Some files) (loading_from policy_name script_name command) no_faults no_faults status) → IfErr r (λ status. Refuse (of_source command.source (cause_of status)) (told_of command.source told) (loading command) before after status)
refuse-made told size files command before after (Ok loaded) same made says = says
refuse-made told size files command before after (Err status) same made says =
    refuse-source (cause_of status) told (Made size) command before after status same
    (refuse-sure (cause_of status) size (made_files size) (by_source (Made size) command) before after status
    (subst (λ (f : FileMap). Refuse (cause_of status) (Some f) (loading_from policy_name script_name command) no_faults no_faults status) made says))

-- a history isn't fetched
pub refuse-history : (told : Option FileMap) (file : List ℕ) (before after : Faults) (status : Status) → Says told (asked (Missing file) file most_history_bytes) before after status
    → Refuse (cause_of status) told (ordering (Replay file)) before after status
refuse-history told file before after status says =
    refuse-first (cause_of status) told (asked (Missing file) file most_history_bytes) told_as_way before after status
    (refuse-read told (asked (Missing file) file most_history_bytes) before after status says)
  where
    told_as_way : List ℕ → Steps Way Status
    told_as_way bytes = Over (Ok (AsTold bytes))

-- how the turns are taken isn't given, once what is run was
pub refused-way : (command : Command) (told : Option FileMap) (before middle after : Faults) (loaded : Loaded) (status : Status) → before.count ≤ middle.count → Give (told_of command.source told) (loading command) (Ok loaded)
    → Refuse (cause_of status) told (ordering command.mode) middle after status → IsRefusedBy command told before after status
refused-way command told before middle after loaded status first gave says = inr (loaded, gave, refuse-in_part (cause_of status) told (ordering command.mode) before middle after status first says)

-- no name is there
pub no-name : (name : Option (List ℕ)) → ((file : List ℕ) → name ≡ Some file → ⊥) → name ≡ None
no-name None never = refl
no-name (Some file) never = absurd (never file refl)

abbrev given : Loaded → Result Loaded Status
given loaded = Ok loaded

the-ok : (one two : Loaded) → given one ≡ given two → one ≡ two
the-ok one two same = cc

no-clash : (name : Option (List ℕ)) (policy other : Policy) → unless Clash name policy ≡ Ok other → name ≡ None
no-clash None policy other is = refl
no-clash (Some file) policy other is = absurd (cc)

-- where an order is given, no file that is written is taken
pub none-taken : (told : Option FileMap) (order : Order) → AreGiven told order → clash order.job.policy (names_added order.command) (names_read order.command) ≡ None
none-taken told order are_given =
    let command = order.command in
    let policy = policy_file command.source in
    let script = script_file command.source in
    let from : Option FileMap = told_of command.source told in
    let of_order : Loaded = record { job = order.job; observer = order.observer } in
    let read = give-parts from (front_steps policy script command) (behind_front command) of_order are_given.loaded in
    let front : Front = read.0 in
    let taken = give-parts from (taking command front.policy) (loaded_from front) of_order read.2 in
    let allowed = give-parts from (free command front.policy) inputs_of taken.0 taken.1 in
    let same : record { job = record { policy = front.policy; script = front.script; inputs = taken.0 }; observer = front.observer } ≡ of_order = the-ok _ of_order taken.2 in
    subst (λ (l : Loaded). clash l.job.policy (names_added command) (names_read command) ≡ None) same (no-clash (clash front.policy (names_added command) (names_read command)) front.policy allowed.0 allowed.1)
