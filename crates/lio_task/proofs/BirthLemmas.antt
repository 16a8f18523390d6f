-- Tasks as they are born.
use Rattle.std.proofs.Common.{◌≡◌, ◌∙◌, sym, ap, subst, ℕ, false, List, [], Option, Some}
use Rattle.lio_labels.specs.declared.label.Label.{Label}
use Rattle.lio_values.specs.declared.value.Value.{Value}
use Rattle.lio_values.specs.declared.act.Birth.{Birth}
use Rattle.lio_syntax.specs.Statements.{Statements, Procedure}
use Rattle.lio_syntax.specs.Lines.{script_lines}
use Rattle.lio_syntax.specs.Environment.{Environment, bind_all}
use Rattle.lio_syntax.specs.Items.{enter}
use Rattle.lio_task_control.specs.Continuation.{body_at}
use Rattle.lio_syntax.specs.Throwing.{Place}
use Rattle.lio_calculus.specs.Task.{TaskState}
use Rattle.lio_calculus.specs.Step.{child_of, parameters_of, body_of}
use Rattle.lio_task_turns.specs.Procedure.{IsNumbered}
use Rattle.lio_task_turns.specs.StateOf.{program_of}

-- a task at a place, with what a birth gives it
abbrev pub placed : Place → Label → Birth → TaskState
placed place label birth = record {
  environment = place.environment;
  items = place.items;
  label = label;
  clearance = birth.clearance;
  turns = birth.turns;
  first = birth.first;
  cells = birth.cells;
  ended = false;
}

before : List Value → Option Procedure → Place
before values procedure = record { environment = bind_all [] (parameters_of procedure) values; items = enter (body_of procedure) [] }

named : (lines : List (List ℕ)) (values : List Value) (block : Statements) (procedure : Procedure) → lines ≡ procedure.parameters → block ≡ procedure.body
    → record { environment = bind_all [] lines values; items = enter block [] } ≡ before values (Some procedure)
unfolding before
named parameters values block procedure p b =
    ap (λ (ps : List (List ℕ)). record { environment = bind_all [] ps values; items = enter block [] }) p
    ∙ ap (λ (body : Statements). record { environment = bind_all [] procedure.parameters values; items = enter body [] }) b

pub child_is : (script : List Procedure) (longest : ℕ) (label : Label) (birth : Birth) (parameters : List (List ℕ)) (at : ℕ) (place : Place) → IsNumbered script birth.proc_at parameters at
    → place ≡ record { environment = bind_all [] parameters birth.args; items = enter (body_at (script_lines script) at) [] }
    → placed place label birth ≡ child_of (program_of script longest) label birth
unfolding child_of before
child_is script longest label birth parameters at place is e =
    ap (λ (p : Place). placed p label birth)
    (e ∙ named parameters birth.args (body_at (script_lines script) at) is.procedure is.parameters_are is.body_is ∙ ap (before birth.args) (sym is.is))

pub child_with : (script : List Procedure) (longest : ℕ) (label here clearance : Label) (birth : Birth) (number : ℕ) (parameters : List (List ℕ)) (at : ℕ) (environment : Environment) (place : Place)
    → number ≡ birth.proc_at → IsNumbered script number parameters at → environment ≡ bind_all [] parameters birth.args
    → place ≡ record { environment = environment; items = enter (body_at (script_lines script) at) [] } → here ≡ label → clearance ≡ birth.clearance
    → record (placed place here birth) { clearance = clearance } ≡ child_of (program_of script longest) label birth
child_with script longest label here clearance birth number parameters at environment place is numbered bound stands is_label is_clearance =
    ap (λ (c : Label). record (placed place here birth) { clearance = c }) is_clearance
    ∙ ap (λ (l : Label). placed place l birth) is_label
    ∙ child_is script longest label birth parameters at place (subst (λ (n : ℕ). IsNumbered script n parameters at) is numbered)
    (stands ∙ ap (λ (e : Environment). record { environment = e; items = enter (body_at (script_lines script) at) [] }) bound)
