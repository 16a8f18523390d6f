use Rattle.std.proofs.Common.{◌≡◌, ◌∙◌, ℕ, ◌<◌, length, Option, ap, sym, subst}
use Rattle.std.specs.Prelude.{IfSome, slice_get}
use Rattle.lio_syntax.specs.Beginnings.{number_of}
use Rattle.lio_policy.specs.declared.policy.Arg.{Arg}
use Rattle.lio_start.specs.Fits.{parameter_count}
use Rattle.lio_start.proofs.FitsLemmas.{fault_of-absent, fault_of-fits, fault_of-arity}
use Rattle.lio_start.proofs.fitting.fault_of.Goals as goal

pub returns-in-None : goal.returns-in-None
returns-in-None c =
    sym (fault_of-absent c.args.script.now c.args.place c.args.task.now (ap (number_of c.args.script.now) (sym c.bytes.ensures) ∙ sym c.procedure_number.ensures.number ∙ c.in-None.is))

pub returns-then-parameter_count-as_slice : goal.returns-then-parameter_count-as_slice
returns-then-parameter_count-as_slice c =
    let within = subst (λ (o : Option ℕ). IfSome o (λ n. n < length c.args.script.now)) c.in-Some.is c.procedure_number.ensures.within in
    let number = ap (number_of c.args.script.now) (sym c.bytes.ensures) ∙ sym c.procedure_number.ensures.number ∙ c.in-Some.is in
    sym (fault_of-fits c.args.script.now c.args.place c.in-Some.number c.args.task.now number within
    (sym c.parameter_count.ensures ∙ c.if-parameter_count-as_slice.true ∙ ap (length {A = Arg}) c.as_slice.ensures))

pub returns-else-parameter_count-as_slice : goal.returns-else-parameter_count-as_slice
returns-else-parameter_count-as_slice c =
    let within = subst (λ (o : Option ℕ). IfSome o (λ n. n < length c.args.script.now)) c.in-Some.is c.procedure_number.ensures.within in
    let number = ap (number_of c.args.script.now) (sym c.bytes.ensures) ∙ sym c.procedure_number.ensures.number ∙ c.in-Some.is in
    sym (fault_of-arity c.args.script.now c.args.place c.in-Some.number c.args.task.now number within
    (λ (e : parameter_count (slice_get c.args.script.now c.in-Some.number) ≡ length c.args.task.now.args).
    c.if-parameter_count-as_slice.false (c.parameter_count.ensures ∙ e ∙ sym (ap (length {A = Arg}) c.as_slice.ensures))))
