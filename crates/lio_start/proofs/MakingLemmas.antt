-- The lists that the functions make which make a first configuration, one element further and at the end.
use Rattle.std.proofs.Common.{◌≡◌, ◌∙◌, refl, sym, ap, subst, ℕ, false, ◌+◌, ◌<◌, ◌≤◌, List, [], ◌∷◌, ◌++◌, length, map, take, drop, get_or, IsTrue, Option, Some, None, arith, append_assoc, append-nil}
use Rattle.std.specs.Prelude.{option_and_then, replicate, slice_get}
use Rattle.std.proofs.lemmas.List.{drop_all, map-append, take_all, take_more, replicate_more}
use Rattle.std.proofs.lemmas.List.Elements.{All-head, All-push, All-tail}
use Rattle.std.proofs.lemmas.List.Sums.{sum_by-cons}
use Rattle.lio_labels.specs.declared.label.Label.{Label}
use Rattle.lio_labels.specs.Flow.{flows}
use Rattle.lio_values.specs.declared.value.Value.{Value}
use Rattle.lio_syntax.specs.Statements.{Procedure}
use Rattle.lio_syntax.specs.Beginnings.{number_of}
use Rattle.lio_syntax.specs.Environment.{bind_all}
use Rattle.lio_syntax.specs.Items.{enter}
use Rattle.lio_task_control.proofs.EnvironmentLemmas.{drop_at}
use Rattle.lio_calculus.specs.Task.{TaskState}
use Rattle.lio_calculus.specs.Step.{Cell, blank, body_of, child_of, parameters_of}
use Rattle.lio_task_turns.specs.StateOf.{program_of}
use Rattle.lio_task.specs.declared.config.Holder.{Holder}
use Rattle.lio_task.specs.Configuration.{cell_of}
use Rattle.lio_task.specs.Logs.{HaveNoLogs}
use Rattle.lio_policy.proofs.PolicyLemmas.{limits_are_small}
use Rattle.lio_policy.specs.Policy.{PolicyParts, IsPolicy}
use Rattle.lio_policy.specs.declared.policy.FileEntry.{FileEntry}
use Rattle.lio_policy.specs.declared.policy.TaskEntry.{TaskEntry}
use Rattle.lio_start.specs.Fits.{Fits, fits}
use Rattle.lio_start.specs.Start.{argument_of, cells_in_all, channel_cell, inputs_of, job_cell, job_cells, sealed_input, sealed_inputs, start_of, task_of}
use Rattle.lio_start.specs.Making.{Adds, AreShallow, Bears, CanBegin, CanBeginAll}
use Rattle.lio_start.proofs.ShallowLemmas.{policy-shallow}
use Rattle.lio_start.proofs.FitsLemmas.{each_task_fits}

-- one element between two lists
between : {X : Type 0} (xs ys : List X) (x : X) → (xs ++ x ∷ []) ++ ys ≡ xs ++ x ∷ ys
between xs ys x = append_assoc xs (x ∷ []) ys

-- the sealed inputs, behind one with its text, where the texts have ended, and where the inputs have
pub inputs-next : (longest i : ℕ) (inputs : List FileEntry) (texts : List (List ℕ)) (values whole : List Value) (input : FileEntry) (text : List ℕ) (value : Value) → i < length inputs → input ≡ get_or inputs i input
    → i < length texts → text ≡ get_or texts i text → value ≡ sealed_input longest input text → values ++ sealed_inputs longest (drop i inputs) (drop i texts) ≡ whole
    → (values ++ value ∷ []) ++ sealed_inputs longest (drop (i + 1) inputs) (drop (i + 1) texts) ≡ whole
inputs-next longest i inputs texts values whole input text value within is there has e so_far =
    between values (sealed_inputs longest (drop (i + 1) inputs) (drop (i + 1) texts)) value
    ∙ ap (λ (v : Value). values ++ v ∷ sealed_inputs longest (drop (i + 1) inputs) (drop (i + 1) texts)) e
    ∙ sym (ap (λ (ins : List FileEntry). values ++ sealed_inputs longest ins (text ∷ drop (i + 1) texts)) (drop_at inputs i input within is))
    ∙ sym (ap (λ (ts : List (List ℕ)). values ++ sealed_inputs longest (drop i inputs) ts) (drop_at texts i text there has))
    ∙ so_far

no-texts : (longest : ℕ) (inputs : List FileEntry) → sealed_inputs longest inputs [] ≡ []
no-texts longest [] = refl
no-texts longest (input ∷ inputs) = refl

pub inputs-short : (longest i : ℕ) (inputs : List FileEntry) (texts : List (List ℕ)) (values whole : List Value) → length texts ≤ i
    → values ++ sealed_inputs longest (drop i inputs) (drop i texts) ≡ whole → values ≡ whole
inputs-short longest i inputs texts values whole ended so_far =
    sym (ap (λ (ts : List (List ℕ)). values ++ sealed_inputs longest (drop i inputs) ts) (drop_all i texts ended)
    ∙ ap (λ (vs : List Value). values ++ vs) (no-texts longest (drop i inputs)) ∙ append-nil values)
    ∙ so_far

pub inputs-end : (longest i : ℕ) (inputs : List FileEntry) (texts : List (List ℕ)) (values whole : List Value) → length inputs ≤ i
    → values ++ sealed_inputs longest (drop i inputs) (drop i texts) ≡ whole → values ≡ whole
inputs-end longest i inputs texts values whole behind so_far =
    sym (ap (λ (ins : List FileEntry). values ++ sealed_inputs longest ins (drop i texts)) (drop_all i inputs behind) ∙ append-nil values) ∙ so_far

-- a birth whose child is a task as it begins
pub bears : (script : List Procedure) (inputs : List Value) (first number : ℕ) (entry : TaskEntry) (args : List Value) (result clearance : Label) → CanBegin script inputs first entry
    → number_of script entry.proc_name ≡ Some number → number < length script → args ≡ map (argument_of inputs) entry.args → clearance ≡ entry.clearance
    → Bears script inputs first entry (record { proc_at = number; args = args; result = result; clearance = clearance; turns = entry.turns; first = first; cells = entry.cells })
unfolding child_of task_of
bears script inputs first number entry args result clearance can found within are cleared = record {
  can = record {
    procedure = within;
    range = can.range;
    cleared = rw cleared can.cleared;
  };
  child = λ longest.
      let made : Option Procedure → List Value → Label → TaskState = λ procedure values limit. record {
        environment = bind_all [] (parameters_of procedure) values;
        items = enter (body_of procedure) [];
        label = entry.label;
        clearance = limit;
        turns = entry.turns;
        first = first;
        cells = entry.cells;
        ended = false;
      } in
      ap (λ (values : List Value). made (slice_get script number) values clearance) are
      ∙ ap (λ (limit : Label). made (slice_get script number) (map (argument_of inputs) entry.args) limit) cleared
      ∙ ap (λ (n : Option ℕ). made (option_and_then (slice_get script) n) (map (argument_of inputs) entry.args) entry.clearance) (sym found);
}

-- one holder more
pub adds-one : (script : List Procedure) (before after : List Holder) (cells : List Cell) (holder : Holder) (cell : Cell) → Adds script before after cells → cell_of script holder ≡ cell
    → Adds script before (after ++ holder ∷ []) (cells ++ cell ∷ [])
adds-one script before after cells holder cell adds is =
    map-append (cell_of script) after (holder ∷ [])
    ∙ ap (λ (cs : List Cell). cs ++ cell_of script holder ∷ []) adds
    ∙ ap (λ (c : Cell). (map (cell_of script) before ++ cells) ++ c ∷ []) is
    ∙ append_assoc (map (cell_of script) before) cells (cell ∷ [])

pub adds-none : (script : List Procedure) (before : List Holder) → Adds script before before []
adds-none script before = sym (append-nil (map (cell_of script) before))

-- one channel more
pub channels-next : (script : List Procedure) (before after : List Holder) (channels : List FileEntry) (i : ℕ) (channel : FileEntry) (holder : Holder) → i < length channels → channel ≡ get_or channels i channel
    → cell_of script holder ≡ channel_cell channel → Adds script before after (map channel_cell (take i channels)) → Adds script before (after ++ holder ∷ []) (map channel_cell (take (i + 1) channels))
channels-next script before after channels i channel holder within is e adds =
    adds-one script before after (map channel_cell (take i channels)) holder (channel_cell channel) adds e
    ∙ ap (λ (cs : List Cell). map (cell_of script) before ++ cs)
    (sym (ap (map channel_cell) (take_more channels i channel within ∙ ap (λ (c : FileEntry). take i channels ++ c ∷ []) (sym is)) ∙ map-append channel_cell (take i channels) (channel ∷ [])))

pub channels-end : (script : List Procedure) (before after : List Holder) (channels : List FileEntry) (i : ℕ) → length channels ≤ i → Adds script before after (map channel_cell (take i channels))
    → Adds script before after (map channel_cell channels)
channels-end script before after channels i behind adds = adds ∙ ap (λ (cs : List FileEntry). map (cell_of script) before ++ map channel_cell cs) (take_all i channels behind)

-- one number more that holds nothing
pub free-next : (script : List Procedure) (before after : List Holder) (n : ℕ) (holder : Holder) → cell_of script holder ≡ blank → Adds script before after (replicate n blank)
    → Adds script before (after ++ holder ∷ []) (replicate (n + 1) blank)
free-next script before after n holder e adds =
    adds-one script before after (replicate n blank) holder blank adds e ∙ ap (λ (cs : List Cell). map (cell_of script) before ++ cs) (replicate_more n blank)

-- the numbers of the tasks that are left
pub cells-next : (tasks : List TaskEntry) (i : ℕ) (task : TaskEntry) → i < length tasks → task ≡ get_or tasks i task → cells_in_all (drop i tasks) ≡ task.cells + cells_in_all (drop (i + 1) tasks)
cells-next tasks i task within is = ap cells_in_all (drop_at tasks i task within is) ∙ sum_by-cons (λ (t : TaskEntry). t.cells) task (drop (i + 1) tasks)

pub cells-end : (tasks : List TaskEntry) (i : ℕ) → length tasks ≤ i → cells_in_all (drop i tasks) ≡ 0
cells-end tasks i behind = ap cells_in_all (drop_all i tasks behind)

-- of the tasks that are left the first can begin, and so can those behind it
first-begins : (script : List Procedure) (inputs : List Value) (first : ℕ) (task : TaskEntry) (tasks : List TaskEntry) → CanBeginAll script inputs first (task ∷ tasks) → CanBegin script inputs first task
first-begins script inputs first task tasks can = record {
  fits = All-head (Fits script) task tasks can.fits;
  range = omega (arith, can.range, sum_by-cons (λ (t : TaskEntry). t.cells) task tasks);
  cleared = All-head (λ (t : TaskEntry). IsTrue (flows t.label t.clearance)) task tasks can.cleared;
  shallow = All-head (AreShallow inputs) task tasks can.shallow;
}

others-begin : (script : List Procedure) (inputs : List Value) (first : ℕ) (task : TaskEntry) (tasks : List TaskEntry) → CanBeginAll script inputs first (task ∷ tasks) → CanBeginAll script inputs (first + task.cells) tasks
others-begin script inputs first task tasks can = record {
  fits = All-tail (Fits script) task tasks can.fits;
  range = omega (arith, can.range, sum_by-cons (λ (t : TaskEntry). t.cells) task tasks);
  cleared = All-tail (λ (t : TaskEntry). IsTrue (flows t.label t.clearance)) task tasks can.cleared;
  shallow = All-tail (AreShallow inputs) task tasks can.shallow;
}

pub begins-here : (script : List Procedure) (inputs : List Value) (first i : ℕ) (tasks : List TaskEntry) (task : TaskEntry) → i < length tasks → task ≡ get_or tasks i task → CanBeginAll script inputs first (drop i tasks) → CanBegin script inputs first task
begins-here script inputs first i tasks task within is can = first-begins script inputs first task (drop (i + 1) tasks) (subst (CanBeginAll script inputs first) (drop_at tasks i task within is) can)

pub begins-next : (script : List Procedure) (inputs : List Value) (first i : ℕ) (tasks : List TaskEntry) (task : TaskEntry) → i < length tasks → task ≡ get_or tasks i task → CanBeginAll script inputs first (drop i tasks)
    → CanBeginAll script inputs (first + task.cells) (drop (i + 1) tasks)
begins-next script inputs first i tasks task within is can = others-begin script inputs first task (drop (i + 1) tasks) (subst (CanBeginAll script inputs first) (drop_at tasks i task within is) can)

-- one job more, and no more jobs
pub jobs-next : (script : List Procedure) (inputs : List Value) (after : List Holder) (whole : List Cell) (first i : ℕ) (tasks : List TaskEntry) (task : TaskEntry) (holder : Holder) → i < length tasks → task ≡ get_or tasks i task
    → cell_of script holder ≡ job_cell script inputs first task → map (cell_of script) after ++ job_cells script inputs first (drop i tasks) ≡ whole
    → map (cell_of script) (after ++ holder ∷ []) ++ job_cells script inputs (first + task.cells) (drop (i + 1) tasks) ≡ whole
unfolding job_cells
jobs-next script inputs after whole first i tasks task holder within is e so_far =
    let rest : List Cell = job_cells script inputs (first + task.cells) (drop (i + 1) tasks) in
    ap (λ (cs : List Cell). cs ++ rest) (map-append (cell_of script) after (holder ∷ []))
    ∙ between (map (cell_of script) after) rest (cell_of script holder)
    ∙ ap (λ (c : Cell). map (cell_of script) after ++ c ∷ rest) e
    ∙ sym (ap (λ (ts : List TaskEntry). map (cell_of script) after ++ job_cells script inputs first ts) (drop_at tasks i task within is))
    ∙ so_far

pub jobs-end : (script : List Procedure) (inputs : List Value) (after : List Holder) (whole : List Cell) (first i : ℕ) (tasks : List TaskEntry) → length tasks ≤ i
    → map (cell_of script) after ++ job_cells script inputs first (drop i tasks) ≡ whole → map (cell_of script) after ≡ whole
unfolding job_cells
jobs-end script inputs after whole first i tasks behind so_far =
    sym (ap (λ (ts : List TaskEntry). map (cell_of script) after ++ job_cells script inputs first ts) (drop_all i tasks behind) ∙ append-nil (map (cell_of script) after)) ∙ so_far

-- the tasks of a policy that fit a script can begin
pub all-begin : (policy : PolicyParts) (script : List Procedure) (texts : List (List ℕ)) (channels : List FileEntry) (tasks : List TaskEntry) → IsPolicy policy → fits policy.tasks script ≡ None → channels ≡ policy.channels → tasks ≡ policy.tasks
    → CanBeginAll script (inputs_of policy texts) (length channels + length tasks) tasks
all-begin policy script texts channels tasks is none same_channels same_tasks =
    let small = limits_are_small policy.version in
    let here : CanBeginAll script (inputs_of policy texts) (length channels + length tasks) policy.tasks = record {
      fits = (each_task_fits script policy.tasks).0 none;
      range = omega (arith, small.entries, small.cells, is.limits.channels, is.limits.tasks, is.limits.cells, ap (length {A = FileEntry}) same_channels, ap (length {A = TaskEntry}) same_tasks);
      cleared = is.flow;
      shallow = policy-shallow policy texts is;
    } in
    subst (CanBeginAll script (inputs_of policy texts) (length channels + length tasks)) (sym same_tasks) here

-- the three parts of a first configuration
pub started : (policy : PolicyParts) (script : List Procedure) (texts : List (List ℕ)) (longest count : ℕ) (channels : List FileEntry) (tasks : List TaskEntry) (inputs : List Value) (none with_channels with_jobs holders : List Holder)
    → longest ≡ policy.longest → channels ≡ policy.channels → tasks ≡ policy.tasks → inputs ≡ inputs_of policy texts → count ≡ cells_in_all tasks → none ≡ []
    → Adds script none with_channels (map channel_cell channels) → Adds script with_channels with_jobs (job_cells script inputs (length channels + length tasks) tasks) → Adds script with_jobs holders (replicate count blank)
    → record { program = program_of script longest; cells = map (cell_of script) holders } ≡ start_of policy script texts
unfolding start_of
started policy script texts longest count channels tasks inputs none with_channels with_jobs holders same_longest same_channels same_tasks same_inputs same_count empty one two three =
    let parts : List FileEntry → List TaskEntry → List Value → ℕ → List Cell =
    λ cs ts vs n. map channel_cell cs ++ (job_cells script vs (length cs + length ts) ts ++ replicate n blank) in
    let made : map (cell_of script) holders ≡ parts channels tasks inputs count =
    three
    ∙ ap (λ (cells : List Cell). cells ++ replicate count blank) two
    ∙ ap (λ (cells : List Cell). (cells ++ job_cells script inputs (length channels + length tasks) tasks) ++ replicate count blank)
    (one ∙ ap (λ (hs : List Holder). map (cell_of script) hs ++ map channel_cell channels) empty)
    ∙ append_assoc (map channel_cell channels) (job_cells script inputs (length channels + length tasks) tasks) (replicate count blank) in
    ap (λ (cells : List Cell). record { program = program_of script longest; cells = cells })
    (made
    ∙ ap (parts channels tasks inputs) same_count
    ∙ ap (λ (vs : List Value). parts channels tasks vs (cells_in_all tasks)) same_inputs
    ∙ ap (λ (ts : List TaskEntry). parts channels ts (inputs_of policy texts) (cells_in_all ts)) same_tasks
    ∙ ap (λ (cs : List FileEntry). parts cs policy.tasks (inputs_of policy texts) (cells_in_all policy.tasks)) same_channels)
    ∙ ap (λ (n : ℕ). record { program = program_of script n; cells = parts policy.channels policy.tasks (inputs_of policy texts) (cells_in_all policy.tasks) }) same_longest

-- holders whose nodes have served nothing, with one more
pub no-logs-push : (holders : List Holder) (holder : Holder) (after : List Holder) → after ≡ holders ++ holder ∷ [] → HaveNoLogs holders → holder.node.log ≡ [] → HaveNoLogs after
no-logs-push holders holder after is none new =
    subst HaveNoLogs (sym is) (All-push (λ (h : Holder). h.node.log ≡ []) holders holder none new)
