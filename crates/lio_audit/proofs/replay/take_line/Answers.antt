use Rattle.std.proofs.Common.{◌≡◌, ap, subst, ℕ, ◌<◌, ◌^◌, arith, List, ◌++◌, length, Some, true}
use Rattle.lio_values.specs.declared.entry.Entry.{Entry}
use Rattle.lio_calculus.specs.Step.{Configuration, Turn, step}
use Rattle.lio_events.specs.JournalText.{entry_text}
use Rattle.lio_task.specs.Configuration.{configuration_of}
use Rattle.lio_task.specs.Takes.{Stays}
use Rattle.lio_task.specs.declared.config.StepFault.TheVariants.{Still}
use Rattle.lio_calculus_runs.proofs.NamedTurns.{turn_names_only}
use Rattle.lio_audit.specs.Replay.{LineEndsAt}
use Rattle.lio_audit.proofs.LineLemmas.{other-begins, still-begins}
use Rattle.lio_audit.proofs.ReplayLemmas.{later-entry, takes-line}
use Rattle.lio_audit.proofs.replay.take_line.Goals as goal

pub returns-in-Err-Still-clause-err : goal.returns-in-Err-Still-clause-err
returns-in-Err-Still-clause-err c =
    let count : ℕ = length c.args.journal.now in
    let wide : count < 2 ^ 64 = omega (arith, c.requires.few) in
    let here : Configuration = configuration_of c.args.script.now c.args.config.now in
    let stays : Stays here c.actor_of.result (Still c.in-Err-Still.field-0-0) = rw c.in-Err-Still.field-0-is at c.in-Err-Still.ensures.fault in
    (c.next_line-line.ensures, still-begins c.args.names.now count here c.args.bytes.now c.actor_of.result c.requires.stands.sound wide c.actor_of.ensures stays.1)

pub line_len-requires : goal.line_len-requires
line_len-requires c =
    let here : Configuration = configuration_of c.args.script.now c.args.config.now in
    let turn : Turn = record { entry = c.in-Ok.entry; next = configuration_of c.args.script.now c.step.new.self } in
    (turn_names_only c.args.names.now (length c.entries.result.now) here c.actor_of.result turn c.requires.stands.named c.in-Ok.ensures.ok).entry

pub push-requires : goal.push-requires
push-requires c =
    let ticket : length c.entries.result.now ≡ length c.args.journal.now = ap (λ (es : List Entry). length es) c.entries.ensures.entries in
    later-entry c.args.names.now c.args.script.now c.args.config.now c.step.new.self c.args.journal.now c.actor_of.result (length c.entries.result.now) c.in-Ok.entry c.requires.stands ticket c.in-Ok.ensures.ok

pub returns-in_ok-push-in-Ok-Some-clause-ok : goal.returns-in_ok-push-in-Ok-Some-clause-ok
returns-in_ok-push-in-Ok-Some-clause-ok c =
    let ticket : length c.entries.result.now ≡ length c.args.journal.now = ap (λ (es : List Entry). length es) c.entries.ensures.entries in
    let line : LineEndsAt (entry_text c.args.names.now true c.in-Ok.entry) c.args.bytes.now c.in-Ok-Some.len = rw c.in-Ok-Some.field-0-is at c.in-Ok-Some.ensures in
    takes-line c.args.names.now c.args.script.now c.args.config.now c.step.new.self c.args.journal.now c.push.new.self c.args.bytes.now c.in-Ok-Some.len c.actor_of.result (length c.entries.result.now) c.in-Ok.entry c.requires.stands ticket
    c.in-Ok.ensures.ok c.in-Ok.ensures.logs c.in-Ok.ensures.sound c.in_ok-push-in-Ok-Some.ensures.ok line

pub returns-in-Ok-None-clause-err : goal.returns-in-Ok-None-clause-err
returns-in-Ok-None-clause-err c =
    let count : ℕ = length c.args.journal.now in
    let here : Configuration = configuration_of c.args.script.now c.args.config.now in
    let wide : count < 2 ^ 64 = omega (arith, c.requires.few) in
    let ticket : length c.entries.result.now ≡ count = ap (λ (es : List Entry). length es) c.entries.ensures.entries in
    let turn : Turn = record { entry = c.in-Ok.entry; next = configuration_of c.args.script.now c.step.new.self } in
    let steps : step count here c.actor_of.result ≡ Some turn = subst (λ (n : ℕ). step n here c.actor_of.result ≡ Some turn) ticket c.in-Ok.ensures.ok in
    let other : (rest : List ℕ) → c.args.bytes.now ≡ entry_text c.args.names.now true c.in-Ok.entry ++ rest → ⊥ = rw c.in-Ok-None.field-0-is at c.in-Ok-None.ensures in
    (c.next_line-line.ensures, other-begins c.args.names.now count here c.args.bytes.now c.actor_of.result turn c.requires.stands.sound wide c.actor_of.ensures steps other)
