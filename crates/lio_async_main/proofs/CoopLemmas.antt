-- What the run of an order in rounds says, and what its answers say.
use Rattle.std.proofs.Common.{◌≡◌, ◌∙◌, ap, refl, sym, subst, ℕ, Bool, true, false, ◌&&◌, List, [], ◌∷◌, Option, None, Some, Ok}
use Rattle.lio_outside.specs.FileMap.{FileMap}
use Rattle.lio_outside.specs.Asking.{Give}
use Rattle.lio_calculus.specs.Run.{Ran, run}
use Rattle.lio_start.specs.Job.{IsJob, JobParts, first_of}
use Rattle.lio_rounds.specs.Headline.{IsRunOf}
use Rattle.lio_rounds.specs.Runs.{IsByRounds, RunsRounds}
use Rattle.lio_rounds.proofs.FlowLemmas.{job_goes_by_flows}
use Rattle.lio_rounds.proofs.RunLemmas.{run-by_rounds, run-of_job}
use Rattle.lio_front.specs.Command.{Command, Mode, Rounds, command_by, command_of, is_name}
use Rattle.lio_host_main.specs.Answers.{Call, Ends, FlowsAs, FlowsBy, RanAs, RanBy, Says, StopsBy}
use Rattle.lio_host_main.specs.Order.{InRounds, Order, Way}
use Rattle.lio_host_main.specs.Verdict.{AreGiven, ordering}
use Rattle.lio_host_main.proofs.Says.{bad_words}
use Rattle.lio_async_main.specs.Answers.{GivesRounds, RanByRounds}
use Rattle.lio_async_main.specs.Words.{host_words}
use Rattle.lio_front.specs.declared.status.Status.{Status}
use Rattle.lio_front.specs.declared.status.Status.TheVariants.{Done, BadWords, NotARun, SayFault, WriteFault}
use Rattle.lio_async_main.proofs.WordLemmas.{command-of_four, command-of_two, first-of_both, none-of_four, none-of_two, second-of_both, some-of_four, some-of_two}

-- an order whose command asks for rounds runs in rounds
way-in_rounds : (told : Option FileMap) (order : Order) → AreGiven told order → order.command.mode ≡ Rounds → order.way ≡ InRounds
way-in_rounds told order given rounds =
    let over : Ok InRounds ≡ Ok order.way = subst (λ (mode : Mode). Give told (ordering mode) (Ok order.way)) rounds given.way in
    let same : InRounds ≡ order.way = cc in
    sym same

-- the run of its rounds is made as it asks for
pub ran-as : (told : Option FileMap) (order : Order) (ran : Ran) → AreGiven told order → order.command.mode ≡ Rounds → RunsRounds (first_of order.job) ran → RanAs order ran
ran-as told order ran given rounds runs =
    subst (λ (way : Way). RanBy way order ran) (sym (way-in_rounds told order given rounds)) (run-by_rounds (first_of order.job) ran runs)

-- and no input that never flows to a channel changes a byte of it
pub flows-as : (told : Option FileMap) (order : Order) (ran : Ran) → AreGiven told order → order.command.mode ≡ Rounds → IsJob order.job → RunsRounds (first_of order.job) ran → FlowsAs order ran
flows-as told order ran given rounds is runs =
    subst (λ (way : Way). FlowsBy way order.job ran) (sym (way-in_rounds told order given rounds))
    (job_goes_by_flows order.job ran is (run-of_job order.job ran is runs).is_run (run-by_rounds (first_of order.job) ran runs))

pub run-of : (job : JobParts) (ran : Ran) → IsJob job → RunsRounds (first_of job) ran → IsRunOf job ran
run-of job ran is runs = run-of_job job ran is runs

-- no words give no command
no-command : command_of [] ≡ None
unfolding command_by
no-command = refl

pub none-commanded : (words : List (List ℕ)) → words ≡ [] → command_of words ≡ None
none-commanded words none = ap command_of none ∙ no-command

rounds-none : (command : Command) → command_of [] ≡ Some command → command.mode ≡ Rounds
rounds-none command is = let none = no-command in absurd (cc)

rounds-some : (one two : Command) → Some one ≡ Some two → one.mode ≡ Rounds → two.mode ≡ Rounds
rounds-some one two is rounds =
    let same : one ≡ two = cc in
    subst (λ (command : Command). command.mode ≡ Rounds) same rounds

-- the words of the host ask for rounds
in-rounds : (words : List (List ℕ)) (command : Command) → command_of (host_words words) ≡ Some command → command.mode ≡ Rounds
in-rounds [] command is = rounds-none command is
in-rounds (a ∷ []) command is = rounds-none command is
in-rounds (policy ∷ script ∷ []) command is = by (is_name policy && is_name script) refl
  where
    by : (b : Bool) → (is_name policy && is_name script) ≡ b → command.mode ≡ Rounds
    by true named =
        rounds-some _ command (sym (command-of_two policy script (first-of_both (is_name policy) (is_name script) named) (second-of_both (is_name policy) (is_name script) named))
        ∙ ap command_of (sym (some-of_two policy script named)) ∙ is) refl
    by false named = rounds-none command (ap command_of (sym (none-of_two policy script named)) ∙ is)
in-rounds (a ∷ b ∷ c ∷ []) command is = rounds-none command is
in-rounds (policy ∷ script ∷ file ∷ label ∷ []) command is = by (is_name policy && is_name script && is_name file && is_name label) refl
  where
    by : (b : Bool) → (is_name policy && is_name script && is_name file && is_name label) ≡ b → command.mode ≡ Rounds
    by true named =
        let three = first-of_both (is_name policy && is_name script && is_name file) (is_name label) named in
        let two = first-of_both (is_name policy && is_name script) (is_name file) three in
        rounds-some _ command (sym (command-of_four policy script file label (first-of_both (is_name policy) (is_name script) two) (second-of_both (is_name policy) (is_name script) two)
        (second-of_both (is_name policy && is_name script) (is_name file) three) (second-of_both (is_name policy && is_name script && is_name file) (is_name label) named))
        ∙ ap command_of (sym (some-of_four policy script file label named)) ∙ is) refl
    by false named = rounds-none command (ap command_of (sym (none-of_four policy script file label named)) ∙ is)
in-rounds (a ∷ b ∷ c ∷ d ∷ e ∷ rest) command is = rounds-none command is

-- so what was run by them was run by rounds, to the end
ran-by : (call : Call) (words : List (List ℕ)) (status : Status) → call.words ≡ host_words words → Ends call call.journal status → RanByRounds call
ran-by call words status are ends =
    let ran : Ran = record { entries = call.journal; last = ends.last } in
    let rounds : ends.order.command.mode ≡ Rounds = in-rounds words ends.order.command (ap command_of (sym are) ∙ ends.ran.verdict.command) in
    let by : IsByRounds (first_of ends.order.job) ran = subst (λ (way : Way). RanBy way ends.order ran) (way-in_rounds call.before.told ends.order ends.ran.verdict.given rounds) ends.ran.ran_as in
    let is = ends.ran.is_run.is_run in
    record {
      order = ends.order;
      verdict = ends.ran.verdict;
      last = ends.last;
      rounds = record {
        is_run = subst (λ (ks : List ℕ). run 0 (first_of ends.order.job) ks ≡ Some ran) by.order is.is_run;
        complete = is.complete;
        first = is.first;
        last = is.last;
      };
    }

-- no history is taken again
no-history : (call : Call) (words : List (List ℕ)) (line : ℕ) → call.words ≡ host_words words → Says call (NotARun line) → ⊥
no-history call words line are says =
    let rounds : says.order.command.mode ≡ Rounds = in-rounds words says.order.command (ap command_of (sym are) ∙ says.verdict.command) in
    subst (λ (way : Way). StopsBy way says.order line) (way-in_rounds call.before.told says.order says.verdict.given rounds) says.stops

pub gives-rounds : (call : Call) (words : List (List ℕ)) (status : Status) → call.words ≡ host_words words → Says call status → GivesRounds call status
gives-rounds call words Done are says = ran-by call words Done are says.ends
gives-rounds call words (WriteFault name) are says = ran-by call words (WriteFault name) are says
gives-rounds call words SayFault are says = ran-by call words SayFault are says
gives-rounds call words (NotARun line) are says = no-history call words line are says
gives-rounds call words other are says = tt

-- words that ask for nothing are answered so
pub bad-words : (call : Call) (status : Status) → Says call status → call.words ≡ [] → status ≡ BadWords
bad-words call status says none = bad_words call status says (none-commanded call.words none)
