use Rattle.std.proofs.Common.{refl, sym, ap, subst, Bool, if◌then◌else◌, List, Option, Some, None}
use Rattle.lio_calculus.specs.Step.{blank}
use Rattle.lio_task.specs.declared.config.Holder.{Holder}
use Rattle.lio_task.specs.Configuration.{cell_of}
use Rattle.lio_erasure.specs.Turn.{Settles}
use Rattle.lio_erasure.proofs.HolderLemmas.{settles-seen, settles-unseen}
use Rattle.lio_erasure.proofs.KeptLemmas.{set-kept}
use Rattle.lio_erasure.proofs.cells.LowConfig.settle.Goals as goal

pub returns-in_default-clause-settles : goal.returns-in_default-clause-settles
returns-in_default-clause-settles c = λ script longest. settles-seen c.args.observer.now script longest c.args.self.now c.args.k None (sym c.in_default.ensures) refl

pub returns-in_default-clause-kept : goal.returns-in_default-clause-kept
returns-in_default-clause-kept c = λ all. all

pub returns-then-not-is_seen-clause-settles : goal.returns-then-not-is_seen-clause-settles
returns-then-not-is_seen-clause-settles c = λ script longest.
    let holder = c.in-Some.holder.now in
    subst (λ (hs : List (Option Holder)). Settles c.args.observer.now script longest c.args.self.now hs c.args.k) (sym c.put.ensures)
    (settles-unseen c.args.observer.now script longest c.args.self.now c.args.k (Some holder) (sym c.in-Some.ensures) (ap (λ (b : Bool). if b then cell_of script holder else blank) (sym (c.if-not-is_seen.ensures script))))

pub returns-then-not-is_seen-clause-kept : goal.returns-then-not-is_seen-clause-kept
returns-then-not-is_seen-clause-kept c = λ all. set-kept c.args.self.now c.put.new.self c.args.k None c.put.ensures refl all

pub returns-else-not-is_seen-clause-settles : goal.returns-else-not-is_seen-clause-settles
returns-else-not-is_seen-clause-settles c = λ script longest.
    let holder = c.in-Some.holder.now in
    settles-seen c.args.observer.now script longest c.args.self.now c.args.k (Some holder) (sym c.in-Some.ensures) (ap (λ (b : Bool). if b then cell_of script holder else blank) (sym (c.if-not-is_seen.ensures script)))

pub returns-else-not-is_seen-clause-kept : goal.returns-else-not-is_seen-clause-kept
returns-else-not-is_seen-clause-kept c = λ all. all
