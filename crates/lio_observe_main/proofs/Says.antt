-- How the answers of the steps make the answer of the call.
use Rattle.std.proofs.Common.{◌≡◌, ◌∙◌, sym, ap, subst, refl, ℕ, List, Option, Some, None, Ok, Err, inl, inr}
use Rattle.std.specs.Prelude.{IfSome}
use Rattle.lio_outside.specs.FileMap.{FileMap}
use Rattle.lio_outside.specs.Fetch.{given}
use Rattle.lio_outside.specs.Call.{Call}
use Rattle.lio_outside.specs.Count.{Faults, Rose}
use Rattle.lio_outside.specs.Said.{SaidPartly}
use Rattle.lio_outside.specs.Asking.{Give, Refuse}
use Rattle.lio_outside.proofs.StepsLemmas.{give-outcome}
use Rattle.lio_outside.specs.declared.say.SayFault as say
use Rattle.lio_outside.specs.declared.say.SayFault.TheVariants as say_fault
use Rattle.lio_front.specs.declared.status.Status.{Status}
use Rattle.lio_front.specs.declared.status.Status.TheVariants.{Done, BadWords, Missing, ReadFault, BadPolicy, BadScript, BadStart, WriteFault, SayFault, NoMemory, NotAView}
use Rattle.lio_front.specs.Status.{answer_of, cause_of, of_say}
use Rattle.lio_observe_main.specs.Claim.{Agrees, Claim, IsRight, IsViewFrom}
use Rattle.lio_observe_main.specs.Verdict.{IsVerdict, claiming, verdict, verdict_by}
use Rattle.lio_observe_main.specs.Words.{Command, command_of}
use Rattle.lio_observe_main.specs.Answers.{Accepts, Completes, Follows, IsFault, IsRefused, IsUnsaid, Says, StopsTheCheck, view_text}
use Rattle.lio_observe_main.proofs.CheckLemmas.{agrees-itself, none-of}
use Rattle.lio_observe_main.proofs.ClaimLemmas.{claim-whole, the-claim}

-- a view was found
pub accepts : (told : Option FileMap) (words : List (List ℕ)) (command : Command) (claim : Claim) (count : ℕ) → command_of words ≡ Some command → Give told (claiming command) (Ok claim) → IsRight claim count → Accepts told words count
accepts told words command claim count named given right = record {
  claim = claim;
  verdict = record { command = command; named = named; given = given };
  right = right;
  whole = λ files is.
      let view : IsViewFrom claim claim.job.inputs count = right claim.job.inputs (agrees-itself claim) in
      claim-whole files command claim (subst (λ (t : Option FileMap). Give t (claiming command) (Ok claim)) is given) view.is_view.few;
}

-- none was
pub refused-check : (told : Option FileMap) (words : List (List ℕ)) (before after : Faults) (command : Command) (claim : Claim) (status : Status) → command_of words ≡ Some command → Give told (claiming command) (Ok claim) → StopsTheCheck claim status
    → IsRefused told words before after status
refused-check told words before after command claim NoMemory named given stops = (command, named)
refused-check told words before after command claim (NotAView line) named given stops = record { claim = claim; verdict = record { command = command; named = named; given = given }; wrong = stops }
refused-check told words before after command claim other named given stops = absurd stops

-- the steps are refused
pub refused-steps : (told : Option FileMap) (words : List (List ℕ)) (before after : Faults) (command : Command) (status : Status) → command_of words ≡ Some command → Refuse (cause_of status) told (claiming command) before after status
    → IsRefused told words before after status
refused-steps told words before after command BadWords named refuse = inr (record { command = command; named = named; refuse = refuse })
refused-steps told words before after command (Missing name) named refuse = record { command = command; named = named; refuse = refuse }
refused-steps told words before after command (ReadFault name) named refuse = record { command = command; named = named; refuse = refuse }
refused-steps told words before after command (BadPolicy rule entry) named refuse = record { command = command; named = named; refuse = refuse }
refused-steps told words before after command (BadScript line rule) named refuse = record { command = command; named = named; refuse = refuse }
refused-steps told words before after command (BadStart place cause) named refuse = record { command = command; named = named; refuse = refuse }
refused-steps told words before after command NoMemory named refuse = (command, named)
refused-steps told words before after command other named refuse = absurd refuse

-- the lines aren't said
pub unsaid : (said now : Option (List ℕ)) (before after count : ℕ) (fault : say.SayFault) → (fault ≡ say_fault.Failed → SaidPartly said now (view_text count)) → (fault ≡ say_fault.Failed → Rose before after) → (fault ≡ say_fault.NoMemory → now ≡ said)
    → IsUnsaid said now before after count (of_say fault)
unsaid said now before after count say_fault.Failed partly rose same = (partly refl, rose refl)
unsaid said now before after count say_fault.NoMemory partly rose same = same refl

-- a refusal
pub says-refused : (call : Call) (status : Status) → IsRefused call.before.told call.words call.before.faults call.after.faults status → call.after.said ≡ call.before.said → Says call status
says-refused call BadWords refused same = (refused, same)
says-refused call (Missing name) refused same = (refused, same)
says-refused call (ReadFault name) refused same = (refused, same)
says-refused call (BadPolicy rule entry) refused same = (refused, same)
says-refused call (BadScript line rule) refused same = (refused, same)
says-refused call (BadStart place cause) refused same = (refused, same)
says-refused call NoMemory refused same = (refused, same)
says-refused call (NotAView line) refused same = (refused, same)
says-refused call other refused same = absurd refused

-- a view whose lines aren't said
pub says-unsaid : (call : Call) (count : ℕ) (status : Status) → Accepts call.before.told call.words count → IsUnsaid call.before.said call.after.said call.before.say_faults call.after.say_faults count status → Says call status
says-unsaid call count SayFault accepts unsaid = (count, accepts, unsaid.0, unsaid.1)
says-unsaid call count NoMemory accepts unsaid = ((accepts.verdict.command, accepts.verdict.named), unsaid)
says-unsaid call count other accepts unsaid = absurd unsaid

-- the verdict over the files of a store that tells
verdict-claim : (files : FileMap) (words : List (List ℕ)) (claim : Claim) → IsVerdict (Some files) words claim → verdict files words ≡ Ok claim
verdict-claim files words claim is = ap (verdict_by files) is.named ∙ give-outcome files (claiming is.command) (Ok claim) is.given

verdict-refusal : (files : FileMap) (words : List (List ℕ)) (command : Command) (status : Status) → command_of words ≡ Some command → Give (Some files) (claiming command) (Err status) → verdict files words ≡ Err status
verdict-refusal files words command status named given = ap (verdict_by files) named ∙ give-outcome files (claiming command) (Err status) given

-- a refusal that the steps give
given-follows : (files : FileMap) (call : Call) (command : Command) (status : Status) → command_of call.words ≡ Some command → Give (Some files) (claiming command) (Err status) → Follows call status files
given-follows files call command status named given = inl (sym (ap answer_of (verdict-refusal files call.words command status named given)))

-- a call over files of which the store tells
abbrev over : Call → FileMap → Call
over call files = record call { before = record call.before { told = Some files } }

follows-over : (call : Call) (status : Status) (files : FileMap) → Says (over call files) status → Follows (over call files) status files
follows-over call Done files (count, accepts, said) = inl (sym (ap answer_of (verdict-claim files call.words accepts.claim accepts.verdict)))
follows-over call BadWords files (inl none, same) = inl (sym (ap answer_of (ap (verdict_by files) none)))
follows-over call BadWords files (inr refused, same) = given-follows files (over call files) refused.command BadWords refused.named refused.refuse
follows-over call (Missing name) files (refused, same) = given-follows files (over call files) refused.command (Missing name) refused.named refused.refuse.0
follows-over call (ReadFault name) files (refused, same) = inr (inr refused.refuse.1)
follows-over call (BadPolicy rule entry) files (refused, same) = given-follows files (over call files) refused.command (BadPolicy rule entry) refused.named refused.refuse
follows-over call (BadScript line rule) files (refused, same) = given-follows files (over call files) refused.command (BadScript line rule) refused.named refused.refuse
follows-over call (BadStart place cause) files (refused, same) = given-follows files (over call files) refused.command (BadStart place cause) refused.named refused.refuse
follows-over call SayFault files (count, accepts, partly, rose) = inr (inr rose)
follows-over call NoMemory files says = inr (inl refl)
follows-over call (NotAView line) files (none, same) = inr (inr none)
follows-over call other files says = absurd says

-- a fault is none of a right view where no count rose
no-fault : (call : Call) (files : FileMap) (status : Status) (claim : Claim) (count : ℕ) → verdict files call.words ≡ Ok claim → IsRight claim count → (Rose call.before.faults.count call.after.faults.count → ⊥) → (Rose call.before.say_faults call.after.say_faults → ⊥)
    → IsFault (over call files) status → ⊥
no-fault call files (ReadFault name) claim count is right files_read lines_said fault = files_read fault.0
no-fault call files (WriteFault name) claim count is right files_read lines_said fault = files_read fault.0
no-fault call files SayFault claim count is right files_read lines_said fault = lines_said fault
no-fault call files (NotAView line) claim count is right files_read lines_said fault =
    let there : verdict files call.words ≡ Ok fault.claim = verdict-claim files call.words fault.claim fault.verdict in
    let same : claim ≡ fault.claim = the-claim claim fault.claim (sym is ∙ there) in
    let right_there : IsRight fault.claim count = subst (λ (c : Claim). IsRight c count) same right in
    let texts = fault.claim.job.inputs in
    let agrees : Agrees fault.claim texts = agrees-itself fault.claim in
    none-of fault.claim texts line count (fault.wrong texts agrees) (right_there texts agrees)
no-fault call files other claim count is right files_read lines_said fault = fault

completes-over : (call : Call) (status : Status) (files : FileMap) → Follows (over call files) status files → Completes (over call files) status files
completes-over call status files (inl same) claim count is right files_read lines_said = inl (same ∙ ap answer_of is)
completes-over call status files (inr (inl none)) claim count is right files_read lines_said = inr none
completes-over call status files (inr (inr fault)) claim count is right files_read lines_said = absurd (no-fault call files status claim count is right files_read lines_said fault)

-- a store that tells its files, told so by an equation
abbrev told_by : Call → Option FileMap → Call
told_by call told = record call { before = record call.before { told = told } }

follows-told : (call : Call) (status : Status) (files : FileMap) → call.before.told ≡ Some files → Says call status → Follows call status files
follows-told call status files same says =
    subst (λ (t : Option FileMap). Follows (told_by call t) status files) (sym same)
    (follows-over call status files (subst (λ (t : Option FileMap). Says (told_by call t) status) same says))

completes-told : (call : Call) (status : Status) (files : FileMap) → call.before.told ≡ Some files → Says call status → Completes call status files
completes-told call status files same says =
    subst (λ (t : Option FileMap). Completes (told_by call t) status files) (sym same)
    (completes-over call status files (follows-over call status files (subst (λ (t : Option FileMap). Says (told_by call t) status) same says)))

pub follows_verdict : (call : Call) (status : Status) (told : Option FileMap) → call.before.told ≡ told → Says call status → IfSome told (Follows call status)
follows_verdict call status None same says = tt
follows_verdict call status (Some files) same says = follows-told call status files same says

pub completes_verdict : (call : Call) (status : Status) (told : Option FileMap) → call.before.told ≡ told → Says call status → IfSome told (Completes call status)
completes_verdict call status None same says = tt
completes_verdict call status (Some files) same says = completes-told call status files same says

no-command : (words : List (List ℕ)) (command : Command) → command_of words ≡ None → command_of words ≡ Some command → ⊥
no-command words command none some = absurd (cc)

-- words that give no command are wrong words
pub bad_words : (call : Call) (status : Status) → Says call status → command_of call.words ≡ None → status ≡ BadWords
bad_words call Done (count, accepts, said) none = absurd (no-command call.words accepts.verdict.command none accepts.verdict.named)
bad_words call BadWords says none = refl
bad_words call (Missing name) (refused, same) none = absurd (no-command call.words refused.command none refused.named)
bad_words call (ReadFault name) (refused, same) none = absurd (no-command call.words refused.command none refused.named)
bad_words call (BadPolicy rule entry) (refused, same) none = absurd (no-command call.words refused.command none refused.named)
bad_words call (BadScript line rule) (refused, same) none = absurd (no-command call.words refused.command none refused.named)
bad_words call (BadStart place cause) (refused, same) none = absurd (no-command call.words refused.command none refused.named)
bad_words call SayFault (count, accepts, partly, rose) none = absurd (no-command call.words accepts.verdict.command none accepts.verdict.named)
bad_words call NoMemory ((command, named), same) none = absurd (no-command call.words command none named)
bad_words call (NotAView line) (view, same) none = absurd (no-command call.words view.verdict.command none view.verdict.named)
bad_words call other says none = absurd says
