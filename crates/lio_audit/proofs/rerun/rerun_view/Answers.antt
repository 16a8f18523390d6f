use Rattle.std.proofs.Common.{refl, ap}
use Rattle.lio_calculus.specs.Step.{Configuration}
use Rattle.lio_erasure.specs.Low.{low_configuration_of}
use Rattle.lio_erasure.specs.LowParts.{ErasedState}
use Rattle.lio_audit.specs.Asking.{rerun_of}
use Rattle.lio_audit.specs.declared.rerun.Rerun.{Rerun}
use Rattle.lio_audit.proofs.NameLemmas.{rounds-printable}
use Rattle.lio_audit.proofs.RerunLemmas.{come-rounds, says-rounds}
use Rattle.lio_audit.proofs.rerun.rerun_view.Goals as goal

pub returns-in-Ok-clause-ok : goal.returns-in-Ok-clause-ok
returns-in-Ok-clause-ok c =
    let here : Configuration = low_configuration_of c.args.script.now c.args.longest c.args.start in
    let begun : Rerun = record { low = c.in_ok-low.low; releases = c.args.releases; journal = c.new.result; order = c.in_ok-order.order } in
    come-rounds c.args.observer.now here c.args.releases (rerun_of begun) (rerun_of c.run.new.self) c.in-Ok.ensures.ok (ap (λ (s : ErasedState). s.observer) c.in_ok-low.ensures) (ap (λ (s : ErasedState). s.configuration) c.in_ok-low.ensures) refl
    c.new.ensures (c.in_ok-order.ensures c.args.script.now c.args.longest)

pub returns-in-Ok-clause-printable : goal.returns-in-Ok-clause-printable
returns-in-Ok-clause-printable c =
    let here : Configuration = low_configuration_of c.args.script.now c.args.longest c.args.start in
    let begun : Rerun = record { low = c.in_ok-low.low; releases = c.args.releases; journal = c.new.result; order = c.in_ok-order.order } in
    rounds-printable c.args.observer.now here c.args.releases c.run.new.self.journal c.run.new.self.releases
    (come-rounds c.args.observer.now here c.args.releases (rerun_of begun) (rerun_of c.run.new.self) c.in-Ok.ensures.ok (ap (λ (s : ErasedState). s.observer) c.in_ok-low.ensures) (ap (λ (s : ErasedState). s.configuration) c.in_ok-low.ensures) refl
    c.new.ensures (c.in_ok-order.ensures c.args.script.now c.args.longest)) c.requires.pure

pub returns-in-Err-clause-err : goal.returns-in-Err-clause-err
returns-in-Err-clause-err c =
    let here : Configuration = low_configuration_of c.args.script.now c.args.longest c.args.start in
    let begun : Rerun = record { low = c.in_ok-low.low; releases = c.args.releases; journal = c.new.result; order = c.in_ok-order.order } in
    says-rounds c.args.observer.now here c.args.releases (rerun_of begun) c.in-Err.fault c.in-Err.ensures.err (ap (λ (s : ErasedState). s.observer) c.in_ok-low.ensures) (ap (λ (s : ErasedState). s.configuration) c.in_ok-low.ensures) refl
    c.new.ensures (c.in_ok-order.ensures c.args.script.now c.args.longest)
