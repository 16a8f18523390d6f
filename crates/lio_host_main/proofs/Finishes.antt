-- What is written and said of a run, as far as it comes.
use Rattle.std.proofs.Common.{◌≡◌, ◌∙◌, ap, refl, subst, sym, ℕ, ◌≤◌, List, [], Option, Some, None, All}
use Rattle.std.proofs.lemmas.List.{append-nil}
use Rattle.std.proofs.lemmas.List.Elements.{All-nil}
use Rattle.lio_labels.specs.declared.label.Label.{Label}
use Rattle.lio_values.specs.declared.entry.Entry.{Entry}
use Rattle.lio_events.specs.Printable.{IsPrintable}
use Rattle.lio_events.proofs.ViewLaws.{view_is_printable}
use Rattle.lio_outside.specs.FileMap.{FileMap}
use Rattle.lio_outside.specs.Call.{Outside}
use Rattle.lio_outside.specs.Count.{Faults, Rose}
use Rattle.lio_outside.proofs.CountLemmas.{FailedAt-in_part}
use Rattle.lio_outside.specs.Said.{SaidPartly}
use Rattle.lio_outside.specs.Outputs.{kept, KeepsFirst, StopsAt}
use Rattle.lio_outside.specs.declared.say.SayFault as say
use Rattle.lio_outside.specs.declared.say.SayFault.TheVariants as say_fault
use Rattle.lio_calculus.specs.Run.{Ran}
use Rattle.lio_policy.specs.Policy.{PolicyParts}
use Rattle.lio_front.specs.Outputs.{OutSays, outputs}
use Rattle.lio_front.specs.Summary.{summary_text}
use Rattle.lio_front.specs.declared.status.Status.{Status}
use Rattle.lio_front.specs.declared.status.Status.TheVariants.{Done, WriteFault, SayFault, NoMemory}
use Rattle.lio_front.specs.Status.{of_say}
use Rattle.lio_host_main.specs.Order.{Order, seen_by, view_file, written}
use Rattle.lio_host_main.specs.Answers.{Finishes, summary_of}

-- what is seen of a journal that can be printed can be printed
pub seen-printable : (names : List (List ℕ)) (observer : Option Label) (journal : List Entry) → All (IsPrintable names) journal → All (IsPrintable names) (seen_by observer journal)
seen-printable names None journal all = All-nil (IsPrintable names)
seen-printable names (Some observer) journal all = view_is_printable names observer 0 journal all

-- memory is wanting before a file is written
pub finishes-nothing : (order : Order) (ran : Ran) (before after : Outside) → after.told ≡ before.told → after.said ≡ before.said → Finishes order ran before after NoMemory
finishes-nothing order ran before after told said = (record { before = []; after = written order ran.entries; files_are = refl; first = told }, said)

-- the files aren't all written
pub finishes-files : (order : Order) (ran : Ran) (before after : Outside) (status : Status) → OutSays before.told after.told (written order ran.entries) before.faults after.faults status → after.said ≡ before.said
    → Finishes order ran before after status
finishes-files order ran before after (WriteFault name) says said = (says.0, says.1, said)
finishes-files order ran before after NoMemory says said = (says, said)
finishes-files order ran before after other says said = absurd says

-- the files are written, and the summary isn't said
pub finishes-unsaid : (order : Order) (ran : Ran) (before after : Outside) (fault : say.SayFault) → after.told ≡ kept before.told (written order ran.entries)
    → (fault ≡ say_fault.Failed → SaidPartly before.said after.said (summary_of order ran)) → (fault ≡ say_fault.Failed → Rose before.say_faults after.say_faults) → (fault ≡ say_fault.NoMemory → after.said ≡ before.said)
    → Finishes order ran before after (of_say fault)
finishes-unsaid order ran before after say_fault.Failed whole partly rose same = (whole, partly refl, rose refl)
finishes-unsaid order ran before after say_fault.NoMemory whole partly rose same = (record { before = written order ran.entries; after = []; files_are = sym (append-nil (written order ran.entries)); first = whole }, same refl)

-- what is written and said, by what its parts are
pub written-is : (order : Order) (journal : List Entry) (policy : PolicyParts) (file : Option (List ℕ)) (seen : List Entry) → policy ≡ order.job.policy → file ≡ view_file order.command → seen ≡ seen_by order.observer journal
    → outputs policy journal order.command.history file seen ≡ written order journal
written-is order journal policy file seen first second third =
    ap (λ (p : PolicyParts). outputs p journal order.command.history file seen) first
    ∙ ap (λ (f : Option (List ℕ)). outputs order.job.policy journal order.command.history f seen) second
    ∙ ap (λ (s : List Entry). outputs order.job.policy journal order.command.history (view_file order.command) s) third

pub summary-is : (order : Order) (ran : Ran) (policy : PolicyParts) (text bytes : List ℕ) → policy ≡ order.job.policy → text ≡ summary_text policy ran.last ran.entries → bytes ≡ text → bytes ≡ summary_of order ran
summary-is order ran policy text bytes first second third = third ∙ second ∙ ap (λ (p : PolicyParts). summary_text p ran.last ran.entries) first

-- the steps before the run left the files, and their faults were counted
pub finishes-from : (order : Order) (ran : Ran) (before after : Outside) (told : Option FileMap) (faults : Faults) (status : Status) → told ≡ before.told → before.faults.count ≤ faults.count
    → Finishes order ran (record before { told = told; faults = faults }) after status → Finishes order ran before after status
finishes-from order ran before after told faults Done same first says = (subst (λ (t : Option FileMap). after.told ≡ kept t (written order ran.entries)) same says.0, says.1)
finishes-from order ran before after told faults (WriteFault name) same first says =
    (subst (λ (t : Option FileMap). StopsAt t after.told (written order ran.entries) name) same says.0, FailedAt-in_part name before.faults faults after.faults first says.1, says.2)
finishes-from order ran before after told faults SayFault same first says = (subst (λ (t : Option FileMap). after.told ≡ kept t (written order ran.entries)) same says.0, says.1, says.2)
finishes-from order ran before after told faults NoMemory same first says = (subst (λ (t : Option FileMap). KeepsFirst t after.told (written order ran.entries)) same says.0, says.1)
finishes-from order ran before after told faults other same first says = absurd says
