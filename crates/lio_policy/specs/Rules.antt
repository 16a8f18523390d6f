-- The rules of a policy, over its draft: for each rule, which entries fail it. Entry 0 is the document; principals, channels, inputs and tasks
-- follow from 1, in this order.
use Rattle.std.specs.Prelude.{ℕ, ◌+◌, ◌*◌, ◌==◌, ◌&&◌, ◌||◌, not, nat_lt, nat_le, Bool, false, List, [], ◌∷◌, ◌++◌, map, length, sum_by, Option, Some, None, option_map, option_and_then, is_some, unwrap_or, slice_get}
use Rattle.std.specs.List.{filter_map, list_any}
use Rattle.std.specs.Result.{result_ok}
use Rattle.lio_clauses.specs.Names.{name_fault, number_of}
use Rattle.lio_clauses.specs.Refusal.{refusal}
use Rattle.lio_clauses.specs.FormulaText as formula
use Rattle.lio_clauses.specs.FormulaText.{shown}
use Rattle.lio_labels.specs.LabelText as label
use Rattle.lio_labels.specs.Flow.{flows}
use Rattle.lio_labels.specs.declared.label.Label.{Label}
use Rattle.lio_values.specs.declared.value.Plain.TheVariants as plain
use Rattle.lio_policy_draft.specs.Failing.{Failing}
use Rattle.lio_policy_draft.specs.Limits.{limits_of}
use Rattle.lio_policy_draft.specs.declared.limits.Limits.{Limits}
use Rattle.lio_policy_draft.specs.Converted.{converted, unmade}
use Rattle.lio_policy_draft.specs.declared.draft.FileDraft.{FileDraft}
use Rattle.lio_policy_draft.specs.declared.draft.ArgDraft.{ArgDraft}
use Rattle.lio_policy_draft.specs.declared.draft.ArgDraft.TheOpen.{ArgDraft-F}
use Rattle.lio_policy_draft.specs.declared.draft.ArgDraft.TheFolds.{fold-ArgDraft}
use Rattle.lio_policy_draft.specs.declared.draft.ArgDraft.TheVariants as draft
use Rattle.lio_policy_draft.specs.declared.draft.TaskDraft.{TaskDraft}
use Rattle.lio_policy_draft.specs.declared.draft.Draft.{Draft}
use Rattle.lio_policy.specs.declared.labelled.LabelledArg.{LabelledArg}
use Rattle.lio_policy.specs.declared.labelled.LabelledArg.TheOpen.{LabelledArg-F}
use Rattle.lio_policy.specs.declared.labelled.LabelledArg.TheFolds.{fold-LabelledArg}
use Rattle.lio_policy.specs.declared.labelled.LabelledArg.TheVariants as labelled
use Rattle.lio_policy.specs.declared.labelled.LabelledTask.{LabelledTask}
use Rattle.lio_policy.specs.declared.policy.FileEntry.{FileEntry}
use Rattle.lio_policy.specs.declared.policy.Arg.{Arg}
use Rattle.lio_policy.specs.declared.policy.Arg.TheVariants as arg
use Rattle.lio_policy.specs.declared.policy.TaskEntry.{TaskEntry}
use Rattle.lio_policy.specs.declared.arguments.Known.{Known}
use Rattle.lio_policy.specs.declared.lists.ArgExtent.{ArgExtent}
use Rattle.lio_policy.specs.Lists.{extent}

-- all that is in a list, if nothing is missing
abbrev pub all_there : {X : Type 0} → List (Option X) → Option (List X)
all_there [] = Some []
all_there (None ∷ rest) = None
all_there (Some x ∷ rest) = option_map (λ xs. x ∷ xs) (all_there rest)

-- no item of a list fails
abbrev pub none_of : {X : Type 0} → List X → List Bool
none_of xs = map (λ _. false) xs

-- for each item, whether it fails behind those before it
abbrev pub behind : {X : Type 0} → (List X → X → Bool) → List X → List X → List Bool
behind fails before [] = []
behind fails before (x ∷ xs) = fails before x ∷ behind fails (before ++ x ∷ []) xs

-- rule 3: the version is 1 or 2
abbrev pub is_version : Option ℕ → Bool
is_version None = false
is_version (Some n) = n == 1 || n == 2

abbrev pub version_fails : Draft → Failing
version_fails d = record { document = not (is_version d.version); principals = none_of d.principals; channels = none_of d.channels; inputs = none_of d.inputs; tasks = none_of d.tasks }

-- rule 4: a principal is a name, is not there before, and is not the 65th; a channel's, an input's or a task's name is a name, and is not there
-- before in its list
abbrev pub principal_fails : List (List ℕ) → List ℕ → Bool
principal_fails before name = is_some (refusal before name)

abbrev pub key_fails : (List ℕ → Bool) → List (List ℕ) → List ℕ → Bool
key_fails bad before key = bad key || is_some (number_of before key)

abbrev pub no_name : List ℕ → Bool
no_name name = is_some (name_fault name)

abbrev pub file_names : List FileDraft → List (List ℕ)
file_names files = map (λ f. f.name) files

abbrev pub task_names : List TaskDraft → List (List ℕ)
task_names tasks = map (λ t. t.name) tasks

abbrev pub names_fail : Draft → Failing
names_fail d = record {
  document = false;
  principals = behind principal_fails [] d.principals;
  channels = behind (key_fails no_name) [] (file_names d.channels);
  inputs = behind (key_fails no_name) [] (file_names d.inputs);
  tasks = behind (key_fails no_name) [] (task_names d.tasks);
}

-- rule 5: each label and each formula is read over the principals
abbrev pub label_of : List (List ℕ) → List ℕ → Option Label
label_of names text = result_ok (label.reading names text)

abbrev pub file_entry : List (List ℕ) → FileDraft → Option FileEntry
file_entry names f = option_map (λ l. record { name = f.name; label = l; file = f.file }) (label_of names f.label)

-- one level of an argument, with the arguments in it already read
abbrev pub labelled_step : List (List ℕ) → ArgDraft-F (Option LabelledArg) → Option LabelledArg
labelled_step names (ArgDraft-F.Input name) = Some (labelled.Input name)
labelled_step names (ArgDraft-F.Channel name) = Some (labelled.Channel name)
labelled_step names (ArgDraft-F.Label text) = option_map (λ l. labelled.Fixed (plain.Lab l)) (label_of names text)
labelled_step names (ArgDraft-F.Power text) = option_map (λ a. labelled.Fixed (plain.Power (record { power = a }))) (result_ok (formula.reading names text))
labelled_step names (ArgDraft-F.Bytes text) = Some (labelled.Fixed (plain.Bytes text))
labelled_step names (ArgDraft-F.Whole n) = Some (labelled.Fixed (plain.Whole n))
labelled_step names (ArgDraft-F.Flag b) = Some (labelled.Fixed (plain.Flag b))
labelled_step names ArgDraft-F.Unit = Some (labelled.Fixed plain.Unit)
labelled_step names (ArgDraft-F.Items args) = option_map labelled.Items (all_there args)

abbrev pub labelled_arg : List (List ℕ) → ArgDraft → Option LabelledArg
labelled_arg names = fold-ArgDraft (Option LabelledArg) (labelled_step names)

abbrev pub labels_of : List (List ℕ) → TaskDraft → Option (Label × Label)
labels_of names t = option_and_then (λ l. option_map (λ clearance. (l, clearance)) (label_of names t.clearance)) (label_of names t.label)

abbrev pub with_args : TaskDraft → Label → Label → List LabelledArg → LabelledTask
with_args t l clearance args = record { name = t.name; proc_name = t.proc_name; label = l; clearance = clearance; turns = t.turns; cells = t.cells; args = args }

unfoldable pub labelled_task : List (List ℕ) → TaskDraft → Option LabelledTask
labelled_task names t =
    option_and_then (λ l. option_and_then (λ clearance. option_map (with_args t l clearance) (result_ok (converted (labelled_arg names) t.args))) (label_of names t.clearance)) (label_of names t.label)

abbrev pub labels_fail : Draft → Failing
labels_fail d = record {
  document = false;
  principals = none_of d.principals;
  channels = unmade (file_entry d.principals) d.channels;
  inputs = unmade (file_entry d.principals) d.inputs;
  tasks = unmade (labelled_task d.principals) d.tasks;
}

-- the tasks with their labels, where rule 5 does not fail
abbrev pub tasks_of : Draft → List LabelledTask
tasks_of d = filter_map (labelled_task d.principals) d.tasks

-- rule 6: a task's label flows to its clearance
abbrev pub is_above : LabelledTask → Bool
is_above t = not (flows t.label t.clearance)

abbrev pub flow_fails : Draft → Failing
flow_fails d = record { document = false; principals = none_of d.principals; channels = none_of d.channels; inputs = none_of d.inputs; tasks = map is_above (tasks_of d) }

-- rule 7: an argument that names an input or a channel names one that is there
abbrev pub known : Draft → Known
known d = record { channel_names = file_names d.channels; channels = filter_map (file_entry d.principals) d.channels; input_names = file_names d.inputs }

abbrev pub channel_arg : ℕ → FileEntry → Arg
channel_arg n channel = arg.Fixed (plain.ChanOf (record { number = shown n; label = channel.label }))

-- one level of an argument, with the arguments in it already looked up
abbrev pub entry_step : Known → LabelledArg-F (Option Arg) → Option Arg
entry_step k (LabelledArg-F.Input name) = option_map (λ n. arg.Input (shown n)) (number_of k.input_names name)
entry_step k (LabelledArg-F.Channel name) = option_and_then (λ n. option_map (channel_arg n) (slice_get k.channels n)) (number_of k.channel_names name)
entry_step k (LabelledArg-F.Fixed value) = Some (arg.Fixed value)
entry_step k (LabelledArg-F.Items args) = option_map arg.Items (all_there args)

abbrev pub arg_entry : Known → LabelledArg → Option Arg
arg_entry k = fold-LabelledArg (Option Arg) (entry_step k)

unfoldable pub task_entry : Known → LabelledTask → Option TaskEntry
task_entry k t =
    option_map (λ args. record { name = t.name; proc_name = t.proc_name; label = t.label; clearance = t.clearance; turns = t.turns; cells = t.cells; args = args })
    (result_ok (converted (arg_entry k) t.args))

abbrev pub arguments_fail : Draft → Failing
arguments_fail d = record { document = false; principals = none_of d.principals; channels = none_of d.channels; inputs = none_of d.inputs; tasks = unmade (task_entry (known d)) (tasks_of d) }

-- the inputs, and the tasks with their arguments, where rules 5 and 7 do not fail
abbrev pub inputs_of : Draft → List FileEntry
inputs_of d = filter_map (file_entry d.principals) d.inputs

abbrev pub entries_of : Draft → List TaskEntry
entries_of d = filter_map (task_entry (known d)) (tasks_of d)

-- rule 8, by the limits of the version: the longest text is within them, and with the turns in all makes at most 1,073,741,824; so are the channels,
-- the inputs and the tasks, and the turns and the cells up to each task; a task has at most 8 arguments, no text that is too long,
-- and no list that is too deep, larger than the longest text, or has more than four inputs
abbrev pub is_longest : Limits → ℕ → Bool
is_longest limits n = nat_le 1 n && nat_le n limits.longest

-- a negative one counts as 0, and so does a negative version
abbrev pub longest_of : Draft → ℕ
longest_of d = unwrap_or d.longest 0

abbrev pub version_of : Draft → ℕ
version_of d = unwrap_or d.version 0

abbrev pub turns_in_all : List TaskDraft → ℕ
turns_in_all tasks = sum_by (λ t. t.turns) tasks

abbrev pub cells_in_all : List TaskDraft → ℕ
cells_in_all tasks = sum_by (λ t. t.cells) tasks

abbrev pub work_fails : Limits → ℕ → List TaskDraft → Bool
work_fails limits longest tasks = not (is_longest limits longest && nat_le (turns_in_all tasks * longest) 1073741824)

abbrev pub is_past : {X : Type 0} → ℕ → List X → X → Bool
is_past most before x = nat_le most (length before)

abbrev pub is_too_long : ℕ → ArgDraft → Bool
is_too_long longest (draft.Bytes text) = nat_lt longest (length text)
is_too_long longest _ = false

abbrev pub args_fail : ℕ → TaskDraft → Bool
args_fail longest t = nat_lt 8 (length t.args) || list_any (is_too_long longest) t.args

abbrev pub is_large : Limits → ℕ → ArgExtent → Bool
is_large limits longest e = nat_lt limits.depth e.depth || nat_lt 4 e.inputs || (nat_lt 0 e.depth && nat_lt longest e.size)

abbrev pub lists_fail : Limits → ℕ → List FileEntry → Option TaskEntry → Bool
lists_fail limits longest inputs None = false
lists_fail limits longest inputs (Some entry) = list_any (λ a. is_large limits longest (extent inputs a)) entry.args

-- a task behind others, with the entries of all
abbrev pub task_fails : Limits → ℕ → List FileEntry → List TaskEntry → List TaskDraft → TaskDraft → Bool
task_fails limits longest inputs entries before t =
    is_past limits.entries before t || nat_lt limits.turns (turns_in_all before + t.turns) || nat_lt limits.cells (cells_in_all before + t.cells) || args_fail longest t
    || lists_fail limits longest inputs (slice_get entries (length before))

abbrev pub limits_fail : Draft → Failing
limits_fail d =
    let limits = limits_of (version_of d) in record {
      document = work_fails limits (longest_of d) d.tasks;
      principals = none_of d.principals;
      channels = behind (is_past limits.entries) [] d.channels;
      inputs = behind (is_past limits.entries) [] d.inputs;
      tasks = behind (task_fails limits (longest_of d) (inputs_of d) (entries_of d)) [] d.tasks;
    }

-- rule 9: a file's name has 1 to 255 bytes, no zero byte, and does not begin with `-`; it is not there before among the files of channels and inputs
abbrev pub begins_with_dash : List ℕ → Bool
begins_with_dash [] = false
begins_with_dash (b ∷ bs) = b == 45

abbrev pub no_file : List ℕ → Bool
no_file name = length name == 0 || nat_lt 255 (length name) || begins_with_dash name || list_any (λ b. b == 0) name

abbrev pub files_of : List FileDraft → List (List ℕ)
files_of files = map (λ f. f.file) files

abbrev pub files_fail : Draft → Failing
files_fail d = record {
  document = false;
  principals = none_of d.principals;
  channels = behind (key_fails no_file) [] (files_of d.channels);
  inputs = behind (key_fails no_file) (files_of d.channels) (files_of d.inputs);
  tasks = none_of d.tasks;
}
