-- The first configuration of a policy and a script, over the texts of the inputs: the channels, then the tasks, then the numbers that the tasks own.
use Rattle.std.specs.Prelude.{ℕ, ◌+◌, nat_le, Bool, true, false, List, [], ◌∷◌, ◌++◌, map, length, sum_by, replicate, Option, Some, None, slice_index_or}
use Rattle.lio_values.specs.declared.fault.FaultKind.TheVariants.{TooLong}
use Rattle.lio_values.specs.declared.value.Plain.TheVariants.{Unit as unit, Bytes, Items}
use Rattle.lio_values.specs.Views.{forest_of}
use Rattle.lio_values.specs.declared.value.Content.{Content}
use Rattle.lio_values.specs.declared.value.Content.TheVariants.{Kept, Faulted}
use Rattle.lio_values.specs.declared.value.Value.{Value}
use Rattle.lio_values.specs.declared.value.Value.TheVariants.{Bare, Sealed}
use Rattle.lio_labels.specs.declared.label.Label.{Label}
use Rattle.lio_syntax.specs.Statements.{Procedure}
use Rattle.lio_cells.specs.declared.state.State.TheVariants.{Chan, Job}
use Rattle.lio_syntax.specs.Environment.{bind_all}
use Rattle.lio_syntax.specs.Items.{enter}
use Rattle.lio_calculus.specs.Task.{TaskState}
use Rattle.lio_calculus.specs.Step.{Cell, Configuration, blank, body_of, parameters_of}
use Rattle.lio_policy.specs.Policy.{PolicyParts}
use Rattle.lio_policy.specs.declared.policy.FileEntry.{FileEntry}
use Rattle.lio_policy.specs.declared.policy.TaskEntry.{TaskEntry}
use Rattle.lio_policy.specs.declared.policy.Arg.{Arg}
use Rattle.lio_policy.specs.declared.policy.Arg.TheOpen.{Arg-F}
use Rattle.lio_policy.specs.declared.policy.Arg.TheFolds.{fold-Arg}
use Rattle.lio_start.specs.Fits.{procedure_of}

-- what is in an input: its text where that fits, else a fault at the input's label
abbrev pub content_by : Bool → Label → List ℕ → Content
content_by true label text = Kept (Bytes text)
content_by false label text = Faulted (record { kind = TooLong; at = label })

-- it fits where it isn't longer than texts may be
abbrev pub input_content : ℕ → Label → List ℕ → Content
input_content longest label text = content_by (nat_le (length text) longest) label text

-- an input with its text, sealed under its label
abbrev pub sealed_input : ℕ → FileEntry → List ℕ → Value
sealed_input longest input text = Sealed input.label (input_content longest input.label text)

-- the inputs with their texts, each sealed under its label
abbrev pub sealed_inputs : ℕ → List FileEntry → List (List ℕ) → List Value
sealed_inputs longest [] texts = []
sealed_inputs longest (input ∷ inputs) [] = []
sealed_inputs longest (input ∷ inputs) (text ∷ texts) = sealed_input longest input text ∷ sealed_inputs longest inputs texts

-- the inputs of a policy
abbrev pub inputs_of : PolicyParts → List (List ℕ) → List Value
inputs_of policy texts = sealed_inputs policy.longest policy.inputs texts

-- what an argument is, over the sealed inputs, with what the arguments in it are; each input that a policy names is there
abbrev pub argument_step : List Value → Arg-F Value → Value
argument_step inputs (Arg-F.Input place) = slice_index_or inputs place (Bare unit)
argument_step inputs (Arg-F.Fixed plain) = Bare plain
argument_step inputs (Arg-F.Items values) = Bare (Items (forest_of values))

abbrev pub argument_of : List Value → Arg → Value
argument_of inputs = fold-Arg Value (argument_step inputs)

-- a task as it begins, with a range of numbers from the given one on
unfoldable pub task_of : List Procedure → List Value → ℕ → TaskEntry → TaskState
task_of script inputs first task =
    let procedure : Option Procedure = procedure_of script task.proc_name
    in record {
      environment = bind_all [] (parameters_of procedure) (map (argument_of inputs) task.args);
      items = enter (body_of procedure) [];
      label = task.label;
      clearance = task.clearance;
      turns = task.turns;
      first = first;
      cells = task.cells;
      ended = false;
    }

-- a channel that has received nothing
abbrev pub channel_cell : FileEntry → Cell
channel_cell channel = record { state = Chan channel.label []; task = None }

-- a job with its task, whose result has the task's clearance as its label
abbrev pub job_cell : List Procedure → List Value → ℕ → TaskEntry → Cell
job_cell script inputs first task = record { state = Job task.clearance None; task = Some (task_of script inputs first task) }

-- the jobs of tasks: the range of the first begins at a number, and each other one's behind the range before it
unfoldable pub job_cells : List Procedure → List Value → ℕ → List TaskEntry → List Cell
job_cells script inputs first [] = []
job_cells script inputs first (task ∷ tasks) = job_cell script inputs first task ∷ job_cells script inputs (first + task.cells) tasks

-- how many numbers tasks own together
abbrev pub cells_in_all : List TaskEntry → ℕ
cells_in_all tasks = sum_by (λ task. task.cells) tasks

-- the first number behind the channels and the tasks
abbrev pub ranges_from : PolicyParts → ℕ
ranges_from policy = length policy.channels + length policy.tasks

-- the first configuration, over the texts of the inputs
unfoldable pub start_of : PolicyParts → List Procedure → List (List ℕ) → Configuration
start_of policy script texts = record {
  program = record { procedures = script; longest = policy.longest };
  cells = map channel_cell policy.channels
      ++ (job_cells script (inputs_of policy texts) (ranges_from policy) policy.tasks
      ++ replicate (cells_in_all policy.tasks) blank);
}
