use Rattle.std.proofs.Common.{◌≡◌, ◌∙◌, sym, ap, subst, ℕ, ◌+◌, List, [], ◌∷◌, Bool, drop, drop-cons, add-one, arith}
use Rattle.std.specs.Prelude.{slice_index_or}
use Rattle.std.proofs.Math.ListN.{drop_of_length-le}
use Rattle.lio_values.specs.declared.entry.Entry.{Entry}
use Rattle.lio_syntax.specs.Statements.{Procedure}
use Rattle.lio_calculus.specs.Step.{Configuration}
use Rattle.lio_calculus_runs.specs.WellFormed.{IsWellFormed}
use Rattle.lio_calculus_runs.specs.Rounds.{tasks}
use Rattle.lio_start.specs.Job.{first_of}
use Rattle.lio_task.specs.Configuration.{configuration_of}
use Rattle.lio_rounds.specs.MachineState.{MachineState}
use Rattle.lio_rounds.specs.MachineParts.{machine_of}
use Rattle.lio_rounds.specs.Schedule.{ScheduledRun}
use Rattle.lio_rounds.proofs.ScheduleLemmas.{IsSoFar, so_far-end, so_far-next, so_far-none}
use Rattle.lio_rounds.proofs.by_schedule.run_schedule.Goals as goal

pub new-requires-clause-well_formed : goal.new-requires-clause-well_formed
new-requires-clause-well_formed c =
    let same = c.in_ok-script.ensures ∙ c.script.ensures.script in
    subst (λ (script : List Procedure). IsWellFormed (configuration_of script c.in_ok-config.config)) (sym same) c.in_ok-config.ensures.well_formed

pub loop-k-init : goal.loop-k-init
loop-k-init c =
    let job = c.args.job.now in
    let same = c.in_ok-script.ensures ∙ c.script.ensures.script in
    let start : Configuration = first_of job in
    let made : List Procedure → Configuration → MachineState = λ script d. record { script = script; configuration = d; entries = []; order = tasks d } in
    let first : machine_of c.in_ok-machine.machine ≡ made job.script start =
    c.in_ok-machine.ensures ∙ ap (λ (script : List Procedure). made script (configuration_of script c.in_ok-config.config)) same ∙ ap (made job.script) c.in_ok-config.ensures.config in
    subst (λ (t : List Bool). IsSoFar job.script start c.args.schedule.now c.args.schedule.now (machine_of c.in_ok-machine.machine) t) (sym c.new-taken.ensures.items)
    (subst (λ (m : MachineState). IsSoFar job.script start c.args.schedule.now c.args.schedule.now m []) (sym first) (so_far-none job.script start c.args.schedule.now (tasks start)))

pub loop-k-preserved : goal.loop-k-preserved
loop-k-preserved c =
    let job = c.args.job.now in
    let start : Configuration = first_of job in
    let ks : List ℕ = c.args.schedule.now in
    let i : ℕ = c.loop-k.k-index in
    let k : ℕ = slice_index_or ks i 0 in
    let rest : drop i ks ≡ k ∷ drop (i + 1) ks = drop-cons ks i 0 c.loop-k-test.true ∙ ap (λ (n : ℕ). k ∷ drop n ks) (sym (add-one i)) in
    let before : IsSoFar job.script start ks (k ∷ drop (i + 1) ks) (machine_of c.loop-k.machine) c.loop-k.taken.items =
    subst (λ (r : List ℕ). IsSoFar job.script start ks r (machine_of c.loop-k.machine) c.loop-k.taken.items) rest c.loop-k.invariant in
    subst (λ (t : List Bool). IsSoFar job.script start ks (drop (i + 1) ks) (machine_of c.take.new.machine) t) (sym c.in_ok-push.ensures.items)
    (so_far-next job.script start ks (drop (i + 1) ks) k (machine_of c.loop-k.machine) (machine_of c.take.new.machine) c.loop-k.taken.items c.in_ok-moved.moved before c.in_ok-moved.ensures)

pub returns-clause-well_formed : goal.returns-clause-well_formed
returns-clause-well_formed c =
    let job = c.args.job.now in
    let start : Configuration = first_of job in
    let ks : List ℕ = c.args.schedule.now in
    let machine : MachineState = machine_of c.loop-k.machine in
    let none : drop c.loop-k.k-index ks ≡ [] = drop_of_length-le ks (omega (arith, c.loop-k-test.false)) in
    let so_far : IsSoFar job.script start ks [] machine c.loop-k.taken.items = subst (λ (r : List ℕ). IsSoFar job.script start ks r machine c.loop-k.taken.items) none c.loop-k.invariant in
    subst IsWellFormed (sym (ap (λ (script : List Procedure). configuration_of script c.finish-journal.result.1) (sym so_far.script_is) ∙ c.finish-journal.ensures.configuration)) c.finish-journal.ensures.well_formed

pub returns-clause-run : goal.returns-clause-run
returns-clause-run c =
    let job = c.args.job.now in
    let start : Configuration = first_of job in
    let ks : List ℕ = c.args.schedule.now in
    let machine : MachineState = machine_of c.loop-k.machine in
    let none : drop c.loop-k.k-index ks ≡ [] = drop_of_length-le ks (omega (arith, c.loop-k-test.false)) in
    let so_far : IsSoFar job.script start ks [] machine c.loop-k.taken.items = subst (λ (r : List ℕ). IsSoFar job.script start ks r machine c.loop-k.taken.items) none c.loop-k.invariant in
    let made : List Entry → Configuration → ScheduledRun = λ es d. record { entries = es; last = d; taken = c.loop-k.taken.items } in
    ap (λ (es : List Entry). made es (configuration_of job.script c.finish-journal.result.1)) c.finish-journal.ensures.journal
    ∙ ap (made machine.entries) (ap (λ (script : List Procedure). configuration_of script c.finish-journal.result.1) (sym so_far.script_is) ∙ c.finish-journal.ensures.configuration)
    ∙ so_far-end job.script start ks machine c.loop-k.taken.items so_far
