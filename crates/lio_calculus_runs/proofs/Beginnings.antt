-- A call, a fork or a spawn in a well-formed configuration begins its procedure.
use Rattle.std.proofs.Common.{◌≡◌, ◌∙◌, refl, ap, subst, ℕ, suc, List, [], ◌∷◌, length, All, Option, Some, None}
use Rattle.std.specs.Prelude.{option_and_then, slice_get}
use Rattle.std.specs.Option.{option_map}
use Rattle.std.proofs.lemmas.List.Elements.{All-head}
use Rattle.lio_values.specs.declared.value.Value.{Value}
use Rattle.lio_syntax_lines.specs.declared.line.Operand.{Operand}
use Rattle.lio_syntax_lines.specs.declared.line.Simple.{Simple}
use Rattle.lio_syntax_lines.specs.declared.line.Simple.TheVariants as line
use Rattle.lio_syntax.specs.Statements as statement
use Rattle.lio_syntax.specs.Environment.{Environment}
use Rattle.lio_syntax.specs.Items.{Do}
use Rattle.lio_calculus.specs.Operands.{bound, all_bound, seen_as, label_of, count_of}
use Rattle.lio_calculus.specs.Task.{TaskState}
use Rattle.lio_calculus.specs.Plan.{Plan, with_seen, procedure_at, calling, plan_simple, plan_items}
use Rattle.lio_calculus.specs.Step.{Configuration}
use Rattle.lio_calculus_runs.specs.Calls.{SimpleFits, StatementFits, ItemFits}
use Rattle.lio_calculus_runs.specs.WellFormedLaws.{IsNext, CallBeginsProcedure, ForkBeginsProcedure, SpawnBeginsProcedure}

-- what is next fits
next-fits : (c : Configuration) (k : ℕ) (task : TaskState) (simple : Simple) → IsNext c k task simple → SimpleFits c.program.procedures simple
unfolding StatementFits
next-fits c k task simple next =
    All-head (ItemFits c.program.procedures) (Do (statement.Do simple)) next.later (subst (All (ItemFits c.program.procedures)) next.items (next.well_formed.calls.items k task next.is))

-- as many values as operands
values-count : (environment : Environment) (operands : List Operand) (values : List Value) → all_bound environment operands ≡ Some values → length operands ≡ length values
unfolding all_bound
values-count environment [] values e = let none : List Value = [] in let is : none ≡ values = cc in ap length is
values-count environment (operand ∷ operands) values e = by (bound environment operand) (all_bound environment operands) e (λ others f. values-count environment operands others f)
  where
    by : (first : Option Value) (rest : Option (List Value)) → option_and_then (λ value. option_map (λ values. value ∷ values) rest) first ≡ Some values
        → ((others : List Value) → rest ≡ Some others → length operands ≡ length others) → suc (length operands) ≡ length values
    by None rest f each = absurd (cc)
    by (Some value) None f each = absurd (cc)
    by (Some value) (Some others) f each = let all : List Value = value ∷ others in let is : all ≡ values = cc in ap suc (each others refl) ∙ ap length is

-- what is looked up is there
seen : {X : Type 0} (task : TaskState) (found : Option X) (x : X) (next : X → Plan) → found ≡ Some x → with_seen task found next ≡ next x
seen {X} task found x next e = ap (λ (o : Option X). with_seen task o next) e

pub call_begins_procedure : CallBeginsProcedure
unfolding plan_simple
call_begins_procedure c k task x p arguments values next e =
    let fits = next-fits c k task (line.Call x p arguments) next in
    record {
      place = fits.place;
      procedure = fits.procedure;
      number = fits.number;
      is = fits.is;
      arity = fits.arity ∙ values-count task.environment arguments values e;
      plan = ap (plan_items c.program task) next.items ∙ seen task (all_bound task.environment arguments) values _ e
          ∙ ap (λ (at : Option ℕ). calling task x values (option_and_then (slice_get c.program.procedures) at)) fits.number ∙ ap (calling task x values) fits.is;
    }

pub fork_begins_procedure : ForkBeginsProcedure
unfolding plan_simple
fork_begins_procedure c k task x l t n p arguments label turns cells values next is_label is_turns is_cells e =
    let fits = next-fits c k task (line.Fork x l t n p arguments) next in
    record {
      place = fits.place;
      procedure = fits.procedure;
      number = fits.number;
      is = fits.is;
      arity = fits.arity ∙ values-count task.environment arguments values e;
      plan = ap (plan_items c.program task) next.items ∙ seen task (seen_as label_of task.environment l) label _ is_label ∙ seen task (seen_as count_of task.environment t) turns _ is_turns
          ∙ seen task (seen_as count_of task.environment n) cells _ is_cells ∙ seen task (procedure_at c.program p) fits.place _ fits.number ∙ seen task (all_bound task.environment arguments) values _ e;
    }

pub spawn_begins_procedure : SpawnBeginsProcedure
unfolding plan_simple
spawn_begins_procedure c k task t n p arguments turns cells values next is_turns is_cells e =
    let fits = next-fits c k task (line.Spawn t n p arguments) next in
    record {
      place = fits.place;
      procedure = fits.procedure;
      number = fits.number;
      is = fits.is;
      arity = fits.arity ∙ values-count task.environment arguments values e;
      plan = ap (plan_items c.program task) next.items ∙ seen task (seen_as count_of task.environment t) turns _ is_turns ∙ seen task (seen_as count_of task.environment n) cells _ is_cells
          ∙ seen task (procedure_at c.program p) fits.place _ fits.number ∙ seen task (all_bound task.environment arguments) values _ e;
    }
