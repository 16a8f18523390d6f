use Rattle.std.proofs.Common.{Some, sym}
use Rattle.lio_syntax.proofs.BeginningLemmas.{number_of-within, few_procedures}
use Rattle.lio_syntax.proofs.script.Script.procedure_named.Goals as goal

pub returns-then-is_named-clause-within : goal.returns-then-is_named-clause-within
returns-then-is_named-clause-within c = number_of-within c.args.self.now c.args.name.now (Some c.rank-number.result) (sym (c.is_named.ensures c.if-is_named.true))

pub returns-then-is_named-clause-few : goal.returns-then-is_named-clause-few
returns-then-is_named-clause-few c = few_procedures c.self.inside.kept.value.lines.items c.args.self.now c.self.inside.kept.value.procedures c.self.invariant.0 c.self.view_is c.self.invariant.3
