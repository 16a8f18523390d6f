-- How the answers of the steps make the answer of the call.
use Rattle.std.proofs.Common.{◌≡◌, ◌∙◌, sym, ap, subst, refl, ℕ, List, [], All, Option, Some, None, Result, Ok, Err, inl, inr}
use Rattle.std.specs.Prelude.{IfSome, ◌⊎◌}
use Rattle.lio_outside.specs.FileMap.{FileMap}
use Rattle.lio_outside.specs.Fetch.{given}
use Rattle.lio_outside.specs.Steps.{Steps, outcome}
use Rattle.lio_outside.specs.Asking.{Cause, IsNotThere, IsNotRead, IsWanting, IsSaid, IsNever, Give, Refuse}
use Rattle.lio_outside.specs.Count.{Faults, FailedAt, Rose}
use Rattle.lio_outside.specs.Outputs.{kept}
use Rattle.lio_outside.proofs.StepsLemmas.{give-outcome}
use Rattle.lio_front.proofs.WriteLemmas.{outputs_hold_each_file}
use Rattle.lio_values.specs.declared.entry.Entry.{Entry}
use Rattle.lio_events_reading.specs.Fits.{EntryFits}
use Rattle.lio_calculus.specs.Run.{Ran}
use Rattle.lio_calculus.specs.Step.{Configuration}
use Rattle.lio_rounds.specs.Headline.{IsRunOf}
use Rattle.lio_rounds.proofs.FlowLemmas.{releases-nothing}
use Rattle.lio_front.specs.Command.{Command, Source, Files, Made, command_of}
use Rattle.lio_front.specs.declared.status.Status.{Status}
use Rattle.lio_front.specs.declared.status.Status.TheVariants.{Done, BadWords, Missing, ReadFault, BadPolicy, BadScript, BadStart, WriteFault, SayFault, NoMemory, NotARun, Clash}
use Rattle.lio_front.specs.Status.{answer_of}
use Rattle.lio_host_main.specs.declared.order.Loaded.{Loaded}
use Rattle.lio_host_main.specs.Order.{Order, Way, AsTold, names_read, seen_by, view_file, written}
use Rattle.lio_host_main.specs.Workload.{made_files}
use Rattle.lio_host_main.specs.Verdict.{AreGiven, IsRefusedBy, IsVerdict, cause_of, files_of, loading, of_source, order_by, ordering, told_of, verdict, verdict_by}
use Rattle.lio_host_main.specs.Answers.{Call, CanBeRun, Completes, FlowsAs, IsFault, NothingDone, RanAs, Refused, RunsOrder, Finishes, Ends, SaysBadWords, SaysDone, SaysNoMemory, StopsBy, StopsTheRun, Says, Follows, journal_with}
use Rattle.lio_host_main.proofs.ObservedLemmas.{rerun-by-each, seen-by-each}
use Rattle.lio_host_main.proofs.Prepares.{none-taken}

-- what is given over the files of a store that tells
outcome-source : (source : Source) (files : FileMap) (steps : Steps Loaded Status) (is : Result Loaded Status) → Give (told_of source (Some files)) steps is → outcome (given (files_of source files)) steps ≡ is
outcome-source (Files policy script) files steps is gave = give-outcome files steps is gave
outcome-source (Made size) files steps is gave = give-outcome (made_files size) steps is gave

-- the verdict over the files of a store that tells: an order
verdict-order : (files : FileMap) (words : List (List ℕ)) (order : Order) → IsVerdict (Some files) words order → verdict files words ≡ Ok order
verdict-order files words order is =
    let command = order.command in
    let loaded : Loaded = record { job = order.job; observer = order.observer } in
    ap (verdict_by files) is.command
    ∙ ap (λ (l : Result Loaded Status). order_by command l (outcome (given files) (ordering command.mode))) (outcome-source command.source files (loading command) (Ok loaded) is.given.loaded)
    ∙ ap (order_by command (Ok loaded)) (give-outcome files (ordering command.mode) (Ok order.way) is.given.way)

-- or a refusal
verdict-unloaded : (files : FileMap) (words : List (List ℕ)) (command : Command) (status : Status) → command_of words ≡ Some command → Give (told_of command.source (Some files)) (loading command) (Err status) → verdict files words ≡ Err status
verdict-unloaded files words command status named gave =
    ap (verdict_by files) named
    ∙ ap (λ (l : Result Loaded Status). order_by command l (outcome (given files) (ordering command.mode))) (outcome-source command.source files (loading command) (Err status) gave)

verdict-unordered : (files : FileMap) (words : List (List ℕ)) (command : Command) (loaded : Loaded) (status : Status) → command_of words ≡ Some command → Give (told_of command.source (Some files)) (loading command) (Ok loaded)
    → Give (Some files) (ordering command.mode) (Err status) → verdict files words ≡ Err status
verdict-unordered files words command loaded status named gave way =
    ap (verdict_by files) named
    ∙ ap (λ (l : Result Loaded Status). order_by command l (outcome (given files) (ordering command.mode))) (outcome-source command.source files (loading command) (Ok loaded) gave)
    ∙ ap (order_by command (Ok loaded)) (give-outcome files (ordering command.mode) (Err status) way)

-- what is refused by its steps, by the cause of the answer
abbrev WhatIsSaid : Cause → Type 0
WhatIsSaid (IsNotThere name) = Unit {0}
WhatIsSaid (IsNotRead name) = ⊥
WhatIsSaid IsWanting = ⊥
WhatIsSaid IsSaid = Unit {0}
WhatIsSaid IsNever = ⊥

said-of : (source : Source) (cause : Cause) → WhatIsSaid cause → WhatIsSaid (of_source source cause)
said-of (Files policy script) (IsNotThere name) is = tt
said-of (Files policy script) IsSaid is = tt
said-of (Made size) (IsNotThere name) is = tt
said-of (Made size) IsSaid is = tt
said-of source (IsNotRead name) is = absurd is
said-of source IsWanting is = absurd is
said-of source IsNever is = absurd is

said-steps : {A E : Type 0} → (cause : Cause) → WhatIsSaid cause → (told : Option FileMap) (steps : Steps A E) (before after : Faults) (fault : E) → Refuse cause told steps before after fault → Give told steps (Err fault)
said-steps (IsNotThere name) is told steps before after fault says = says.0
said-steps (IsNotRead name) is told steps before after fault says = absurd is
said-steps IsWanting is told steps before after fault says = absurd is
said-steps IsSaid is told steps before after fault says = says
said-steps IsNever is told steps before after fault says = absurd is

verdict-refused : (files : FileMap) (words : List (List ℕ)) (command : Command) (before after : Faults) (status : Status) → WhatIsSaid (cause_of status) → command_of words ≡ Some command → IsRefusedBy command (Some files) before after status
    → verdict files words ≡ Err status
verdict-refused files words command before after status is named (inl says) =
    verdict-unloaded files words command status named (said-steps (of_source command.source (cause_of status)) (said-of command.source (cause_of status) is) (told_of command.source (Some files)) (loading command) before after status says)
verdict-refused files words command before after status is named (inr (loaded, gave, says)) =
    verdict-unordered files words command loaded status named gave (said-steps (cause_of status) is (Some files) (ordering command.mode) before after status says)

follows-refused : (call : Call) (status : Status) (files : FileMap) → WhatIsSaid (cause_of status) → call.before.told ≡ Some files → Refused call status → Follows call status files
follows-refused call status files is told refused =
    let says = subst (λ (t : Option FileMap). IsRefusedBy refused.command t call.before.faults call.after.faults status) told refused.refuse in
    record { answer = inl (sym (ap answer_of (verdict-refused files call.words refused.command call.before.faults call.after.faults status is refused.words says))) }

follows-none : (call : Call) (files : FileMap) → command_of call.words ≡ None → Follows call BadWords files
follows-none call files none = record { answer = inl (sym (ap answer_of (ap (verdict_by files) none))) }

follows-bad_words : (call : Call) (files : FileMap) → call.before.told ≡ Some files → SaysBadWords call → Follows call BadWords files
follows-bad_words call files told (inl says) = follows-none call files says.0
follows-bad_words call files told (inr says) = follows-refused call BadWords files tt told says

-- a file couldn't be read
unread : (call : Call) (name : List ℕ) → Refused call (ReadFault name) → FailedAt name call.before.faults call.after.faults
unread call name refused = by refused.refuse
  where
    by : IsRefusedBy refused.command call.before.told call.before.faults call.after.faults (ReadFault name) → FailedAt name call.before.faults call.after.faults
    by (inl says) = by_files refused.command.source says
      where
        by_files : (source : Source) → Refuse (of_source source (IsNotRead name)) (told_of refused.command.source call.before.told) (loading refused.command) call.before.faults call.after.faults (ReadFault name) → FailedAt name call.before.faults call.after.faults
        by_files (Files policy script) says = says.1
        by_files (Made size) says = absurd says
    by (inr (loaded, gave, says)) = says.1

-- a call of a store that tells its files follows its verdict
follows : (call : Call) (status : Status) (files : FileMap) → call.before.told ≡ Some files → Says call status → Follows call status files
follows call Done files told says =
    record { answer = inl (sym (ap answer_of (verdict-order files call.words says.ends.order (subst (λ (t : Option FileMap). IsVerdict t call.words says.ends.order) told says.ends.ran.verdict)))) }
follows call BadWords files told says = follows-bad_words call files told says
follows call (Missing name) files told says = follows-refused call (Missing name) files tt told says
follows call (ReadFault name) files told says = record { answer = inr (inr (unread call name says)) }
follows call (BadPolicy rule entry) files told says = follows-refused call (BadPolicy rule entry) files tt told says
follows call (BadScript line rule) files told says = follows-refused call (BadScript line rule) files tt told says
follows call (BadStart place cause) files told says = follows-refused call (BadStart place cause) files tt told says
follows call (WriteFault name) files told says = record { answer = inr (inr says.finishes.1) }
follows call SayFault files told says = record { answer = inr (inr says.finishes.2) }
follows call NoMemory files told says = record { answer = inr (inl refl) }
follows call (NotARun line) files told says = record { answer = inr (inr says) }
follows call (Clash name) files told says = follows-refused call (Clash name) files tt told says
follows call other files told says = absurd says

pub follows_verdict : (call : Call) (status : Status) (told : Option FileMap) → call.before.told ≡ told → Says call status → IfSome told (Follows call status)
follows_verdict call status None is says = tt
follows_verdict call status (Some files) is says = follows call status files is says

-- the turns of an order can't be taken as it says where its history stops
stops-not : (way : Way) (order : Order) (line : ℕ) → CanBeRun way order → StopsBy way order line → ⊥
stops-not (AsTold bytes) order line can stops = by stops
  where
    by : StopsBy (AsTold bytes) order line → ⊥
    by (inl stops) = stops.1.none can.0 can.1
    by (inr stops) = stops.none can.0 can.1
stops-not other order line can stops = absurd stops

abbrev ordered : Order → Result Order Status
ordered order = Ok order

same-order : (one two : Order) → ordered one ≡ ordered two → one ≡ two
same-order one two same = cc

-- a fault is none of an order that can be run where no count rose
no-fault : (call : Call) (status : Status) (files : FileMap) (order : Order) → call.before.told ≡ Some files → verdict files call.words ≡ Ok order → CanBeRun order.way order → (Rose call.before.faults.count call.after.faults.count → ⊥)
    → (Rose call.before.say_faults call.after.say_faults → ⊥) → IsFault call status → ⊥
no-fault call (ReadFault name) files order told is can files_stay lines_said fault = files_stay fault.0
no-fault call (WriteFault name) files order told is can files_stay lines_said fault = files_stay fault.0
no-fault call SayFault files order told is can files_stay lines_said fault = lines_said fault
no-fault call (NotARun line) files order told is can files_stay lines_said fault =
    let there : verdict files call.words ≡ Ok fault.order = verdict-order files call.words fault.order (subst (λ (t : Option FileMap). IsVerdict t call.words fault.order) told fault.verdict) in
    stops-not fault.order.way fault.order line (subst (λ (o : Order). CanBeRun o.way o) (same-order order fault.order (sym is ∙ there)) can) fault.stops
no-fault call other files order told is can files_stay lines_said fault = fault

completes : (call : Call) (status : Status) (files : FileMap) → call.before.told ≡ Some files → Follows call status files → Completes call status files
completes call status files told follows order is can files_stay lines_said = by follows.answer
  where
    by : (status ≡ answer_of (verdict files call.words)) ⊎ ((status ≡ NoMemory) ⊎ IsFault call status) → (status ≡ Done) ⊎ (status ≡ NoMemory)
    by (inl same) = inl (same ∙ ap answer_of is)
    by (inr (inl none)) = inr none
    by (inr (inr fault)) = absurd (no-fault call status files order told is can files_stay lines_said fault)

pub completes_verdict : (call : Call) (status : Status) (told : Option FileMap) → call.before.told ≡ told → Says call status → IfSome told (Completes call status)
completes_verdict call status None is says = tt
completes_verdict call status (Some files) is says = completes call status files is (follows call status files is says)

-- words that give no command have one verdict
verdict-none : (told : Option FileMap) (words : List (List ℕ)) (order : Order) → command_of words ≡ None → IsVerdict told words order → ⊥
verdict-none told words order none is = let some = is.command in absurd (cc)

ends-none : (call : Call) (journal : List Entry) (status : Status) → command_of call.words ≡ None → Ends call journal status → ⊥
ends-none call journal status none ends = verdict-none call.before.told call.words ends.order none ends.ran.verdict

refused-none : (call : Call) (status : Status) → command_of call.words ≡ None → Refused call status → ⊥
refused-none call status none refused = let some = refused.words in absurd (cc)

pub bad_words : (call : Call) (status : Status) → Says call status → command_of call.words ≡ None → status ≡ BadWords
bad_words call Done says none = absurd (ends-none call call.journal Done none says.ends)
bad_words call BadWords says none = refl
bad_words call (Missing name) says none = absurd (refused-none call (Missing name) none says)
bad_words call (ReadFault name) says none = absurd (refused-none call (ReadFault name) none says)
bad_words call (BadPolicy rule entry) says none = absurd (refused-none call (BadPolicy rule entry) none says)
bad_words call (BadScript line rule) says none = absurd (refused-none call (BadScript line rule) none says)
bad_words call (BadStart place cause) says none = absurd (refused-none call (BadStart place cause) none says)
bad_words call (WriteFault name) says none = absurd (ends-none call call.journal (WriteFault name) none says)
bad_words call SayFault says none = absurd (ends-none call call.journal SayFault none says)
bad_words call NoMemory says none = let some = says.words in absurd (cc)
bad_words call (NotARun line) says none = absurd (verdict-none call.before.told call.words says.order none says.verdict)
bad_words call (Clash name) says none = absurd (refused-none call (Clash name) none says)
bad_words call other says none = absurd says

-- why the steps before the run were refused
never : (call : Call) (status : Status) → cause_of status ≡ IsNever → Refused call status → ⊥
never call status is refused = by refused.refuse
  where
    by : IsRefusedBy refused.command call.before.told call.before.faults call.after.faults status → ⊥
    by (inl says) = by_source refused.command.source (subst (λ (cause : Cause). Refuse (of_source refused.command.source cause) (told_of refused.command.source call.before.told) (loading refused.command) call.before.faults call.after.faults status) is says)
      where
        by_source : (source : Source) → Refuse (of_source source IsNever) (told_of refused.command.source call.before.told) (loading refused.command) call.before.faults call.after.faults status → ⊥
        by_source (Files policy script) says = says
        by_source (Made size) says = says
    by (inr (loaded, gave, says)) = subst (λ (cause : Cause). Refuse cause call.before.told (ordering refused.command.mode) call.before.faults call.after.faults status) is says

pub says-refused : (call : Call) (status : Status) → Refused call status → Says call status
says-refused call BadWords refused = inr refused
says-refused call (Missing name) refused = refused
says-refused call (ReadFault name) refused = refused
says-refused call (BadPolicy rule entry) refused = refused
says-refused call (BadScript line rule) refused = refused
says-refused call (BadStart place cause) refused = refused
says-refused call NoMemory refused = record { command = refused.command; words = refused.words; done = inl refused.nothing; journal = refused.nothing.journal }
says-refused call (Clash name) refused = refused
says-refused call other refused = absurd (never call other refl refused)

-- why no run was made of an order
pub says-stopped : (call : Call) (command : Command) (order : Order) (status : Status) → command_of call.words ≡ Some command → IsVerdict call.before.told call.words order → NothingDone call → StopsTheRun order status → Says call status
says-stopped call command order NoMemory named is nothing stops = record { command = command; words = named; done = inl nothing; journal = nothing.journal }
says-stopped call command order (NotARun line) named is nothing stops = record { order = order; verdict = is; stops = stops; nothing = nothing }
says-stopped call command order other named is nothing stops = absurd stops

-- a run was made of what the command gives
pub runs-order : (call : Call) (order : Order) (ran : Ran) (command : Command) → command_of call.words ≡ Some command → order.command ≡ command → AreGiven call.before.told order → IsRunOf order.job ran → RanAs order ran → FlowsAs order ran → All EntryFits ran.entries
    → RunsOrder call order ran
runs-order call order ran command named same given is_run ran_as flows fits = record {
  verdict = record { command = named ∙ ap Some (sym same); given = given };
  is_run = is_run;
  ran_as = ran_as;
  seen = seen-by-each order.job ran is_run fits;
  rerun = rerun-by-each order ran order.way is_run ran_as;
  flows = flows;
  releases = releases-nothing order.job.policy ran is_run.keeps.powers.entries;
}

-- its files are written, and its summary was said
pub says-done : (call : Call) (order : Order) (last : Configuration) → RunsOrder call order (record { entries = call.journal; last = last })
    → Finishes order (record { entries = call.journal; last = last }) call.before call.after Done → SaysDone call
says-done call order last ran finishes = record {
  ends = record { order = order; last = last; ran = ran; finishes = finishes };
  files = λ before now told_is now_is.
      outputs_hold_each_file order.job.policy call.journal order.command.history (view_file order.command) (seen_by order.observer call.journal) (names_read order.command) before now
      (none-taken call.before.told order ran.verdict.given)
      (sym (ap (λ (t : Option FileMap). kept t (written order call.journal)) told_is) ∙ sym finishes.0 ∙ now_is);
}

-- memory was wanting while its files were written or its summary was said
says-granted : (call : Call) (order : Order) (ran : Ran) → call.journal ≡ [] → RunsOrder call order ran → Finishes order ran call.before call.after NoMemory → SaysNoMemory call
says-granted call order ran none made finishes =
    record { command = order.command; words = made.verdict.command; done = inr (ran.entries, record { order = order; last = ran.last; ran = made; finishes = finishes }); journal = none }

-- an answer that gives the run's journal
ends-with : (call : Call) (order : Order) (ran : Ran) (status : Status) → RunsOrder call order ran → call.journal ≡ ran.entries → Finishes order ran call.before call.after status → Ends call call.journal status
ends-with call order ran status made same finishes =
    subst (λ (entries : List Entry). Ends call entries status) (sym same) (record { order = order; last = ran.last; ran = made; finishes = finishes })

done-with : (call : Call) (order : Order) (ran : Ran) → RunsOrder call order ran → call.journal ≡ ran.entries → Finishes order ran call.before call.after Done → SaysDone call
done-with call order ran made same finishes =
    says-done call order ran.last (subst (λ (entries : List Entry). RunsOrder call order (record { entries = entries; last = ran.last })) (sym same) made)
    (subst (λ (entries : List Entry). Finishes order (record { entries = entries; last = ran.last }) call.before call.after Done) (sym same) finishes)

-- a run was made, and its files and its summary were dealt with so
pub says-unfinished : (call : Call) (order : Order) (ran : Ran) (status : Status) → RunsOrder call order ran → call.journal ≡ journal_with status ran.entries → Finishes order ran call.before call.after status → Says call status
says-unfinished call order ran Done made same finishes = done-with call order ran made same finishes
says-unfinished call order ran (WriteFault name) made same finishes = ends-with call order ran (WriteFault name) made same finishes
says-unfinished call order ran SayFault made same finishes = ends-with call order ran SayFault made same finishes
says-unfinished call order ran NoMemory made same finishes = says-granted call order ran same made finishes
says-unfinished call order ran other made same finishes = absurd finishes

-- an answer that is equal to one says the same
pub says-same : (call : Call) (status got : Status) → got ≡ status → Says call status → Says call got
says-same call status got is says = subst (λ (s : Status). Says call s) (sym is) says
