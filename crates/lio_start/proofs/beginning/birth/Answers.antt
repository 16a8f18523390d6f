use Rattle.std.proofs.Common.{◌∙◌, ◌<◌, ℕ, length, Option, sym, ap, subst}
use Rattle.std.specs.Prelude.{IfSome, map}
use Rattle.lio_syntax.specs.Beginnings.{number_of}
use Rattle.lio_start.specs.Start.{argument_of}
use Rattle.lio_start.proofs.MakingLemmas.{bears}
use Rattle.lio_start.proofs.beginning.birth.Goals as goal

pub returns : goal.returns
returns c =
    bears c.args.script.now c.args.inputs.now c.args.first c.in-Some.number c.args.entry.now c.in_ok-args.args c.in_ok-result.result c.in_ok-clearance.clearance c.requires
    (ap (number_of c.args.script.now) (sym c.bytes.ensures) ∙ sym c.procedure_number.ensures.number ∙ c.in-Some.is)
    (subst (λ (o : Option ℕ). IfSome o (λ n. n < length c.args.script.now)) c.in-Some.is c.procedure_number.ensures.within)
    (c.in_ok-args.ensures ∙ ap (map (argument_of c.args.inputs.now)) c.as_slice.ensures) c.in_ok-clearance.ensures.ok
