use Rattle.std.proofs.Common.{◌≡◌, ◌∙◌, ap, sym, subst, arith, ℕ, ◌+◌, ◌-◌, ◌<◌, ◌≤◌, List, [], ◌∷◌, length, length-append, drop, take}
use Rattle.std.proofs.lemmas.Result.{IfOk-weaker}
use Rattle.lio_audit.specs.declared.fault.AuditFault.TheVariants.{NotARun}
use Rattle.lio_values.specs.declared.entry.Entry.{Entry}
use Rattle.lio_task.specs.Configuration.{configuration_of}
use Rattle.lio_audit.specs.Expected.{IsNext, NoneIsNext}
use Rattle.lio_audit.specs.History.{BeginsTurn}
use Rattle.lio_audit.specs.Replay.{Refuses, TakesLine}
use Rattle.lio_audit.proofs.ExpectedLemmas.{could-go_on, line-behind_end, line-missed, match-weaker, none-comes, still-comes}
use Rattle.lio_audit.proofs.ReplayLemmas.{rest-is, so_far-next, so_far-none}
use Rattle.lio_audit.proofs.expected.line_behind.Goals as goal

pub loop-number-init : goal.loop-number-init
loop-number-init c = record {
  so_far = so_far-none c.args.names.now c.args.script.now c.args.bytes.now c.args.config.now c.args.journal.now c.requires.stands c.requires.nothing;
  number = sym (ap (λ (es : List Entry). length es + 1) c.requires.nothing);
  within = c.requires.first;
}

pub loop-number-preserved : goal.loop-number-preserved
loop-number-preserved c =
    let takes : TakesLine c.args.names.now c.args.script.now c.loop-number.config c.take_line.new.config c.loop-number.journal c.take_line.new.journal (drop c.loop-number.at c.args.bytes.now) c.in-Ok.len =
    subst (λ (bs : List ℕ). TakesLine c.args.names.now c.args.script.now c.loop-number.config c.take_line.new.config c.loop-number.journal c.take_line.new.journal bs c.in-Ok.len) (rest-is c.args.bytes.now c.loop-number.at) c.in-Ok.ensures.ok in
    let count : length c.take_line.new.journal ≡ length c.loop-number.journal + 1 = ap (λ (es : List Entry). length es) takes.pushed ∙ length-append c.loop-number.journal (takes.entry ∷ []) in
    record {
      so_far = so_far-next c.args.names.now c.args.script.now (configuration_of c.args.script.now c.args.config.now) c.args.bytes.now c.loop-number.config c.take_line.new.config c.loop-number.journal c.take_line.new.journal c.loop-number.at
          c.in-Ok.len c.loop-number.invariant.so_far takes;
      number = ap (λ (n : ℕ). n + 1) (c.loop-number.invariant.number ∙ sym count);
      within = omega (arith, c.loop-number-test.true);
    }

pub returns-in-Some : goal.returns-in-Some
returns-in-Some c =
    let names = c.args.names.now in
    let first = configuration_of c.args.script.now c.args.config.now in
    let bytes : List ℕ = c.args.bytes.now in
    let at : ℕ = c.loop-number.at in
    let here = configuration_of c.args.script.now c.loop-number.config in
    let count : c.args.line ≡ length c.loop-number.journal + 1 = omega (arith, c.if-number-line.false, c.loop-number.invariant.number, c.loop-number.invariant.within) in
    let ticket : length c.entries.result.now ≡ length c.loop-number.journal = ap (λ (es : List Entry). length es) c.entries.ensures.entries in
    let next : IsNext here (drop at bytes) c.in-Some.k = subst (λ (bs : List ℕ). IsNext here bs c.in-Some.k) (rest-is bytes at) c.in-Some.ensures in
    IfOk-weaker c.line_of.result _ _
    (λ text is. match-weaker text _ _ _ _
    (λ still. still-comes names c.args.script.now first bytes c.loop-number.config c.loop-number.journal at c.args.line c.in-Some.k c.loop-number.invariant.so_far count next still)
    (λ t line. could-go_on names c.args.script.now first bytes c.loop-number.config c.loop-number.journal at c.in-Some.k (length c.entries.result.now) c.args.line t.items c.loop-number.invariant.so_far ticket count next line) is)
    c.line_of.ensures

pub returns-in-None : goal.returns-in-None
returns-in-None c =
    let bytes : List ℕ = c.args.bytes.now in
    let at : ℕ = c.loop-number.at in
    let here = configuration_of c.args.script.now c.loop-number.config in
    let count : c.args.line ≡ length c.loop-number.journal + 1 = omega (arith, c.if-number-line.false, c.loop-number.invariant.number, c.loop-number.invariant.within) in
    none-comes c.args.names.now c.args.script.now (configuration_of c.args.script.now c.args.config.now) bytes c.loop-number.config c.loop-number.journal at c.args.line c.loop-number.invariant.so_far count
    (subst (NoneIsNext here) (rest-is bytes at) c.in-None.ensures)

pub returns-in-Err-NotARun : goal.returns-in-Err-NotARun
returns-in-Err-NotARun c =
    let bytes : List ℕ = c.args.bytes.now in
    let at : ℕ = c.loop-number.at in
    let here = configuration_of c.args.script.now c.loop-number.config in
    let refuses : Refuses c.args.names.now here c.loop-number.journal (take (length bytes - at) (drop at bytes)) (NotARun c.in-Err-NotARun.field-0-0) = rw c.in-Err-NotARun.field-0-is at c.in-Err-NotARun.ensures.err in
    let before : length c.loop-number.journal + 1 < c.args.line = omega (arith, c.loop-number-test.true, c.loop-number.invariant.number) in
    line-missed c.args.names.now c.args.script.now (configuration_of c.args.script.now c.args.config.now) bytes c.loop-number.config c.loop-number.journal at c.args.line c.loop-number.invariant.so_far before
    (subst (λ (bs : List ℕ). BeginsTurn c.args.names.now (length c.loop-number.journal) here bs → ⊥) (rest-is bytes at) refuses.1)

pub returns-then-number-line : goal.returns-then-number-line
returns-then-number-line c =
    let bytes : List ℕ = c.args.bytes.now in
    let before : length c.loop-number.journal + 1 < c.args.line = omega (arith, c.if-number-line.true, c.loop-number.invariant.number) in
    let over : length bytes ≤ c.loop-number.at = omega (arith, c.if-number-line.true) in
    line-behind_end c.args.names.now c.args.script.now (configuration_of c.args.script.now c.args.config.now) bytes c.loop-number.config c.loop-number.journal c.loop-number.at c.args.line c.loop-number.invariant.so_far before over
