use Rattle.std.proofs.Common.{◌≡◌, ◌<◌, ◌+◌, sym, subst, arith, Bool, true, if◌then◌else◌, length, get_or}
use Rattle.std.proofs.lemmas.List.{get_or_read}
use Rattle.std.proofs.lemmas.Result.{err_from_is_err_and}
use Rattle.lio_audit.specs.Asking.{RerunState, rerun_of}
use Rattle.lio_audit.proofs.AskLemmas.{WalkedTo, walked-asked, walked-inside, walked-lacks, walked-none}
use Rattle.lio_audit.proofs.rerun.Rerun.round.Goals.{then-branch, else-branch}
use Rattle.lio_audit.proofs.rerun.Rerun.round.Goals as goal

pub loop-i-init : goal.loop-i-init
loop-i-init c = record { walked = walked-none (rerun_of c.args.self.now) c.requires.below; pure = c.requires.pure }

pub returns-in_err-moved-clause-err : goal.returns-in_err-moved-clause-err
returns-in_err-moved-clause-err c =
    let old : RerunState = rerun_of c.args.self.now in
    let now : RerunState = rerun_of c.loop-i.self in
    let within : c.loop-i.i < length old.order = omega (arith, c.len-count.ensures, c.loop-i-test.true) in
    let inside : c.loop-i.i < length now.order = walked-inside old now c.loop-i.moved c.loop-i.i c.loop-i.invariant.walked within in
    let k : c.index-k.result.now ≡ get_or now.order c.loop-i.i 0 = get_or_read now.order c.loop-i.i c.index-k.result.now inside c.index-k.ensures 0 in
    let p = err_from_is_err_and c.from_residual.result c.from_residual.ensures.1 in
    rw (p.1, p.2) (walked-lacks old now c.loop-i.moved c.loop-i.i c.index-k.result.now c.in_err-moved.field-0.0 c.loop-i.invariant.walked within k c.in_err-moved.ensures.err)

pub loop-i-preserved : goal.loop-i-preserved
loop-i-preserved c =
    let old : RerunState = rerun_of c.args.self.now in
    let now : RerunState = rerun_of c.loop-i.self in
    let new : RerunState = rerun_of c.ask.new.self in
    let within : c.loop-i.i < length old.order = omega (arith, c.len-count.ensures, c.loop-i-test.true) in
    let inside : c.loop-i.i < length now.order = walked-inside old now c.loop-i.moved c.loop-i.i c.loop-i.invariant.walked within in
    let k : c.index-k.result.now ≡ get_or now.order c.loop-i.i 0 = get_or_read now.order c.loop-i.i c.index-k.result.now inside c.index-k.ensures 0 in
    let asked : WalkedTo old new (if c.in_ok-moved.moved then true else c.loop-i.moved) (c.loop-i.i + 1) =
    walked-asked old now new c.loop-i.moved c.in_ok-moved.moved c.loop-i.i c.index-k.result.now c.loop-i.invariant.walked within k c.in_ok-moved.ensures.ok c.in_ok-moved.ensures.below in
    record {
      walked = elim c.if-branch.branch [
        | then-branch w ↦
            subst (λ (b : Bool). WalkedTo old new b (c.loop-i.i + 1)) (sym w.moved-is)
            (subst (λ (b : Bool). WalkedTo old new b (c.loop-i.i + 1)) (sym w.if-branch.true)
            (subst (λ (b : Bool). WalkedTo old new (if b then true else c.loop-i.moved) (c.loop-i.i + 1)) w.if-branch.true asked))
        | else-branch w ↦
            subst (λ (b : Bool). WalkedTo old new b (c.loop-i.i + 1)) (sym w.moved-is)
            (subst (λ (b : Bool). WalkedTo old new (if b then true else c.loop-i.moved) (c.loop-i.i + 1)) w.if-branch.false asked)
      ];
      pure = c.ask.ensures.pure;
    }
