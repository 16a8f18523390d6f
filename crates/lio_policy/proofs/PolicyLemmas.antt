-- A draft that breaks no rule makes a policy.
use Rattle.std.proofs.Common.{◌≡◌, ◌∙◌, ℕ, ◌+◌, ◌*◌, ◌<◌, ◌≤◌, Bool, true, false, ◌||◌, ◌&&◌, not, nat_lt, nat_le, IsTrue, List, [], ◌∷◌, ◌++◌, length, map, sum_by, All, Option, Some, None, unwrap_or, ◌==◌, if◌then◌else◌, option_map, option_and_then, slice_get, refl, sym, ap, subst, arith, append_assoc, length-append}
use Rattle.std.specs.List.{filter_map, list_any}
use Rattle.std.specs.Result.{result_ok}
use Rattle.std.proofs.lemmas.List.{append-nil, length-map}
use Rattle.std.proofs.lemmas.List.Elements.{All-nil, All-cons, All-push, All-weaker}
use Rattle.std.proofs.lemmas.List.Sums.{sum_by-append}
use Rattle.std.proofs.lemmas.Option.{slice_get-get_or}
use Rattle.std.proofs.lemmas.Bool.{and_parts}
use borrow.Author.Count.{below_more}
use borrow.Author.Tests.{leb-true}
use Rattle.lio_labels.specs.Flow.{flows}
use Rattle.lio_labels.specs.LabelPrint.{AreNamed}
use Rattle.lio_labels.specs.declared.label.Label.{Label}
use Rattle.lio_policy_draft.specs.Converted.{converted, unmade}
use Rattle.lio_policy_draft.specs.Limits.{first_limits, second_limits, limits_of}
use Rattle.lio_policy_draft.specs.declared.limits.Limits.{Limits}
use Rattle.lio_policy.specs.Policy.{IsSmallArgument, PolicyParts, AreKeys, IsFile, IsArgument, HasNames, KeepsLimits, HasFiles, IsPolicy}
use Rattle.lio_policy.specs.Lists.{extent}
use Rattle.lio_policy.specs.Rules.{lists_fail, is_large, inputs_of, entries_of, behind, key_fails, no_name, no_file, label_of, file_entry, file_names, task_names, files_of, labelled_arg, labelled_task, with_args, tasks_of, is_above, known, arg_entry, task_entry, is_version, is_longest, longest_of, version_of, turns_in_all, cells_in_all, work_fails, is_past, is_too_long, args_fail, task_fails, version_fails, names_fail, labels_fail, flow_fails, arguments_fail, limits_fail, files_fail}
use Rattle.lio_policy.specs.declared.arguments.Known.{Known}
use Rattle.lio_policy_draft.specs.declared.draft.Draft.{Draft}
use Rattle.lio_policy_draft.specs.declared.draft.FileDraft.{FileDraft}
use Rattle.lio_policy_draft.specs.declared.draft.TaskDraft.{TaskDraft}
use Rattle.lio_policy_draft.specs.declared.draft.ArgDraft.{ArgDraft}
use Rattle.lio_policy.specs.declared.labelled.LabelledArg.{LabelledArg}
use Rattle.lio_policy.specs.declared.labelled.LabelledTask.{LabelledTask}
use Rattle.lio_policy.specs.declared.policy.FileEntry.{FileEntry}
use Rattle.lio_policy.specs.declared.policy.TaskEntry.{TaskEntry}
use Rattle.lio_policy.specs.declared.policy.Arg.{Arg}
use Rattle.lio_policy_draft.proofs.FailingLemmas.{converted_ok}
use Rattle.lio_policy.proofs.NamedLemmas.{read_result, label_is_named}
use Rattle.lio_policy.proofs.SingleLemmas.{IsKnownOf, is_argument, is_small}
use Rattle.lio_policy.proofs.MadeLemmas.{NoneFails, NothingFails, none_fails, mapped, chained, neither, made_all, made_map, made_length, made_sum, none_map, keys_behind, no_keys, few_behind, names_behind, no_names}

-- ---- channels and inputs

pub record IsFileOf (names : List (List ℕ)) (f : FileDraft) (e : FileEntry) : Type 0 where
  pub name : e.name ≡ f.name
  pub file : e.file ≡ f.file
  pub label : AreNamed names e.label

file_of : (names : List (List ℕ)) (f : FileDraft) (e : FileEntry) → file_entry names f ≡ Some e → IsFileOf names f e
file_of names f e h =
    let p = mapped (λ l. record { name = f.name; label = l; file = f.file }) (label_of names f.label) e h in
    record { name = ap (λ x. x.name) (sym p.2); file = ap (λ x. x.file) (sym p.2); label = subst (AreNamed names) (ap (λ x. x.label) p.2) (label_is_named names f.label p.0 p.1) }

-- ---- tasks

none_any : {X : Type 0} (q : X → Bool) (xs : List X) → list_any q xs ≡ false → All (λ x. q x ≡ false) xs
none_any q [] h = All-nil (λ x. q x ≡ false)
none_any q (x ∷ xs) h = let p = neither (q x) (list_any q xs) h in All-cons (λ x. q x ≡ false) x xs p.0 (none_any q xs p.1)

not_false : (b : Bool) → not b ≡ false → b ≡ true
not_false true h = refl
not_false false h = absurd (cc)

-- a task with its labels comes of a draft
record LabelledOf (names : List (List ℕ)) (t : TaskDraft) (l : LabelledTask) : Type 0 where
  label : Label
  clearance : Label
  args : List LabelledArg
  label_named : AreNamed names label
  clearance_named : AreNamed names clearance
  none : NoneFails (unmade (labelled_arg names) t.args)
  args_are : args ≡ filter_map (labelled_arg names) t.args
  is : with_args t label clearance args ≡ l

labelled_of : (names : List (List ℕ)) (t : TaskDraft) (l : LabelledTask) → labelled_task names t ≡ Some l → LabelledOf names t l
unfolding labelled_task
labelled_of names t l h =
    let args = result_ok (converted (labelled_arg names) t.args) in
    let a = chained (λ l. option_and_then (λ clearance. option_map (with_args t l clearance) args) (label_of names t.clearance)) (label_of names t.label) l h in
    let b = chained (λ clearance. option_map (with_args t a.0 clearance) args) (label_of names t.clearance) l a.2 in
    let m = mapped (with_args t a.0 b.0) args l b.2 in
    let e = converted_ok (labelled_arg names) t.args m.0 (sym (read_result (converted (labelled_arg names) t.args) m.0 m.1)) in record {
      label = a.0;
      clearance = b.0;
      args = m.0;
      label_named = label_is_named names t.label a.0 a.1;
      clearance_named = label_is_named names t.clearance b.0 b.1;
      none = none_fails 0 (unmade (labelled_arg names) t.args) e.0;
      args_are = e.1;
      is = m.2;
    }

-- a task with its arguments comes of one with its labels
record EntryOf (k : Known) (l : LabelledTask) (e : TaskEntry) : Type 0 where
  none : NoneFails (unmade (arg_entry k) l.args)
  name : e.name ≡ l.name
  label : e.label ≡ l.label
  clearance : e.clearance ≡ l.clearance
  turns : e.turns ≡ l.turns
  cells : e.cells ≡ l.cells
  args : e.args ≡ filter_map (arg_entry k) l.args

entry_of : (k : Known) (l : LabelledTask) (e : TaskEntry) → task_entry k l ≡ Some e → EntryOf k l e
unfolding task_entry
entry_of k l e h =
    let m = mapped (λ args. record { name = l.name; proc_name = l.proc_name; label = l.label; clearance = l.clearance; turns = l.turns; cells = l.cells; args = args }) (result_ok (converted (arg_entry k) l.args)) e h in
    let c = converted_ok (arg_entry k) l.args m.0 (sym (read_result (converted (arg_entry k) l.args) m.0 m.1)) in record {
      none = none_fails 0 (unmade (arg_entry k) l.args) c.0;
      name = ap (λ x. x.name) (sym m.2);
      label = ap (λ x. x.label) (sym m.2);
      clearance = ap (λ x. x.clearance) (sym m.2);
      turns = ap (λ x. x.turns) (sym m.2);
      cells = ap (λ x. x.cells) (sym m.2);
      args = ap (λ x. x.args) (sym m.2) ∙ c.1;
    }

-- a task with its labels comes of a draft whose arguments are few, and none of them a text that is too long
record IsOfDraft (longest : ℕ) (names : List (List ℕ)) (l : LabelledTask) : Type 0 where
  draft : TaskDraft
  fine : args_fail longest draft ≡ false
  is : labelled_task names draft ≡ Some l

-- and so does an argument with its labels
record IsOfArg (longest : ℕ) (names : List (List ℕ)) (b : LabelledArg) : Type 0 where
  draft : ArgDraft
  fine : is_too_long longest draft ≡ false
  is : labelled_arg names draft ≡ Some b

-- a task of a policy
pub record IsTask (p : PolicyParts) (e : TaskEntry) : Type 0 where
  pub label : AreNamed p.names e.label
  pub clearance : AreNamed p.names e.clearance
  pub flow : IsTrue (flows e.label e.clearance)
  pub count : length e.args ≤ 8
  pub args : All (IsArgument p) e.args
  pub lists : All (IsSmallArgument p) e.args

is_true : (b : Bool) → b ≡ true → IsTrue b
is_true b h = h

both_of : {X : Type 0} (P Q : X → Type 0) (xs : List X) → All (λ x. P x → Q x) xs → All P xs → All Q xs
both_of P Q xs f h = λ k d lt. f k d lt (h k d lt)

entry_is_fine : (k : Known) (p : PolicyParts) → IsKnownOf k p → (l : LabelledTask) (e : TaskEntry) → IsOfDraft p.longest p.names l × (is_above l ≡ false) → task_entry k l ≡ Some e
    → lists_fail (limits_of p.version) p.longest p.inputs (Some e) ≡ false → IsTask p e
entry_is_fine k p known l e fine h keeps =
    let of = entry_of k l e h in
    let t = fine.0.draft in
    let from = labelled_of p.names t l fine.0.is in
    let ok = neither (nat_lt 8 (length t.args)) (list_any (is_too_long p.longest) t.args) fine.0.fine in
    let few : length t.args ≤ 8 = grind (arith, ok.0) in
    let args : l.args ≡ filter_map (labelled_arg p.names) t.args = ap (λ x. x.args) (sym from.is) ∙ from.args_are in
    let count : length e.args ≡ length t.args =
    ap length of.args ∙ made_length (arg_entry k) l.args of.none ∙ ap length args ∙ made_length (labelled_arg p.names) t.args from.none in
    let flow : flows e.label e.clearance ≡ true = ap (λ x. flows x e.clearance) of.label ∙ ap (flows l.label) of.clearance ∙ not_false (flows l.label l.clearance) fine.1 in
    let limits : Limits = limits_of p.version in
    let small : Arg → Type 0 = IsSmallArgument p in
    let lists : All small e.args = All-weaker (λ a. is_large limits p.longest (extent p.inputs a) ≡ false) small (λ a. is_small limits p.longest (extent p.inputs a)) e.args
    (none_any (λ a. is_large limits p.longest (extent p.inputs a)) e.args keeps) in
    let drafts = subst (All (IsOfArg p.longest p.names)) (sym args)
    (made_all (labelled_arg p.names) (λ a. is_too_long p.longest a ≡ false) (IsOfArg p.longest p.names) (λ a b not_long is. record { draft = a; fine = not_long; is = is }) t.args
    (none_any (is_too_long p.longest) t.args ok.1)) in
    let made = subst (All (λ a. small a → IsArgument p a)) (sym of.args)
    (made_all (arg_entry k) (IsOfArg p.longest p.names) (λ a. small a → IsArgument p a) (λ b a from is. is_argument k p limits known from.draft b a from.is is from.fine) l.args drafts) in record {
      label = subst (AreNamed p.names) (sym (of.label ∙ ap (λ x. x.label) (sym from.is))) from.label_named;
      clearance = subst (AreNamed p.names) (sym (of.clearance ∙ ap (λ x. x.clearance) (sym from.is))) from.clearance_named;
      flow = is_true (flows e.label e.clearance) flow;
      count = omega arith;
      args = both_of small (IsArgument p) e.args made lists;
      lists = lists;
    }

-- ---- limits

-- the limits of each version are small
pub record AreSmall (limits : Limits) : Type 0 where
  pub longest : limits.longest ≤ 262144
  pub entries : limits.entries ≤ 1024
  pub turns : limits.turns ≤ 4194304
  pub cells : limits.cells ≤ 262144
  pub depth : limits.depth ≤ 8

pub limits_are_small : (version : ℕ) → AreSmall (limits_of version)
unfolding limits_of
limits_are_small version = by (version == 2)
  where
    by : (b : Bool) → AreSmall (if b then second_limits else first_limits)
    by true = record { longest = omega arith; entries = omega arith; turns = omega arith; cells = omega arith; depth = omega arith }
    by false = record { longest = omega arith; entries = omega arith; turns = omega arith; cells = omega arith; depth = omega arith }

-- tasks keep to the limits, by the entries of all
record TasksKeep (limits : Limits) (longest : ℕ) (inputs : List FileEntry) (entries : List TaskEntry) (ts : List TaskDraft) : Type 0 where
  count : length ts ≤ limits.entries
  turns : turns_in_all ts ≤ limits.turns
  cells : cells_in_all ts ≤ limits.cells
  args : All (λ t. args_fail longest t ≡ false) ts
  lists : (i : ℕ) → i < length ts → lists_fail limits longest inputs (slice_get entries i) ≡ false

sum_push : (f : TaskDraft → ℕ) (ts : List TaskDraft) (t : TaskDraft) → sum_by f (ts ++ t ∷ []) ≡ sum_by f ts + f t
sum_push f ts t = let one : sum_by f (t ∷ []) ≡ f t = omega arith in sum_by-append f ts (t ∷ []) ∙ ap (λ n. sum_by f ts + n) one

module _ (limits : Limits) (longest : ℕ) (inputs : List FileEntry) (entries : List TaskEntry) where
  abbrev Keep : List TaskDraft → Type 0
  Keep = TasksKeep limits longest inputs entries

  abbrev NoLists : ℕ → Type 0
  NoLists i = lists_fail limits longest inputs (slice_get entries i) ≡ false

  tasks_behind : (before ts : List TaskDraft) → NoneFails (behind (task_fails limits longest inputs entries) before ts) → Keep before → Keep (before ++ ts)
  tasks_behind before [] none old = subst Keep (sym (append-nil before)) old
  tasks_behind before (t ∷ ts) none old =
      let room = nat_le limits.entries (length before) in
      let many = nat_lt limits.turns (turns_in_all before + t.turns) in
      let large = nat_lt limits.cells (cells_in_all before + t.cells) in
      let l = neither (room || many || large || args_fail longest t) (lists_fail limits longest inputs (slice_get entries (length before))) none.0 in
      let a = neither (room || many || large) (args_fail longest t) l.0 in
      let b = neither (room || many) large a.0 in
      let c = neither room many b.0 in
      let few : length before < limits.entries = grind (arith, c.0) in
      let turns : turns_in_all before + t.turns ≤ limits.turns = grind (arith, c.1) in
      let cells : cells_in_all before + t.cells ≤ limits.cells = grind (arith, b.1) in
      let one : length before + 1 ≡ length (before ++ t ∷ []) = omega (arith, length-append before (t ∷ [])) in
      let more : Keep (before ++ t ∷ []) = record {
        count = omega (arith, length-append before (t ∷ []));
        turns = subst (λ n. n ≤ limits.turns) (sym (sum_push (λ t. t.turns) before t)) turns;
        cells = subst (λ n. n ≤ limits.cells) (sym (sum_push (λ t. t.cells) before t)) cells;
        args = All-push (λ t. args_fail longest t ≡ false) before t old.args a.1;
        lists = subst (λ n. (i : ℕ) → i < n → NoLists i) one (below_more NoLists (length before) old.lists l.1);
      } in
      subst Keep (append_assoc before (t ∷ []) ts) (tasks_behind (before ++ t ∷ []) ts none.1 more)

  no_tasks : Keep []
  no_tasks = record {
    count = omega arith;
    turns = omega arith;
    cells = omega arith;
    args = All-nil (λ t. args_fail longest t ≡ false);
    lists = λ i within. absurd (omega arith);
  }

record WorkKeeps (limits : Limits) (longest : ℕ) (ts : List TaskDraft) : Type 0 where
  some : 1 ≤ longest
  most : longest ≤ limits.longest
  work : turns_in_all ts * longest ≤ 1073741824

work_keeps : (limits : Limits) (longest : ℕ) (ts : List TaskDraft) → work_fails limits longest ts ≡ false → WorkKeeps limits longest ts
work_keeps limits longest ts h =
    let work = nat_le (turns_in_all ts * longest) 1073741824 in
    let a = and_parts (is_longest limits longest) work (not_false (is_longest limits longest && work) h) in
    let b = and_parts (nat_le 1 longest) (nat_le longest limits.longest) a.0 in
    record { some = grind (arith, b.0); most = grind (arith, b.1); work = leb-true (turns_in_all ts * longest) 1073741824 a.1 }

-- ---- a policy

keys_of : (bad : List ℕ → Bool) (keys named : List (List ℕ)) → named ≡ keys → NoneFails (behind (key_fails bad) [] keys) → AreKeys (λ key. bad key ≡ false) named
keys_of bad keys named same none = subst (AreKeys (λ key. bad key ≡ false)) (sym same) (keys_behind bad [] keys none (no_keys (λ key. bad key ≡ false)))

few_of : {X Y : Type 0} (most : ℕ) (xs : List X) (ys : List Y) → length ys ≡ length xs → NoneFails (behind (is_past most) [] xs) → length ys ≤ most
few_of most xs ys same none = let few : length xs ≤ most = few_behind most [] xs none (omega arith) in omega arith

-- what the rules say of a draft that breaks none
pub record BreaksNone (d : Draft) : Type 0 where
  pub version : NothingFails (version_fails d)
  pub names : NothingFails (names_fail d)
  pub labels : NothingFails (labels_fail d)
  pub flow : NothingFails (flow_fails d)
  pub arguments : NothingFails (arguments_fail d)
  pub limits : NothingFails (limits_fail d)
  pub files : NothingFails (files_fail d)

-- the parts of the policy that it makes
abbrev pub parts : Draft → PolicyParts
parts d = record {
  version = version_of d;
  longest = longest_of d;
  names = d.principals;
  channels = filter_map (file_entry d.principals) d.channels;
  inputs = filter_map (file_entry d.principals) d.inputs;
  tasks = filter_map (task_entry (known d)) (tasks_of d);
}

names_of : (names : List (List ℕ)) (fs : List FileDraft) → NoneFails (unmade (file_entry names) fs) → map (λ f. f.name) (filter_map (file_entry names) fs) ≡ file_names fs
names_of names fs none = made_map (file_entry names) (λ e. e.name) (λ f. f.name) (λ f e h. (file_of names f e h).name) fs none

paths_of : (names : List (List ℕ)) (fs : List FileDraft) → NoneFails (unmade (file_entry names) fs) → map (λ f. f.file) (filter_map (file_entry names) fs) ≡ files_of fs
paths_of names fs none = made_map (file_entry names) (λ e. e.file) (λ f. f.file) (λ f e h. (file_of names f e h).file) fs none

files_named : (names : List (List ℕ)) (fs : List FileDraft) → All (λ e. AreNamed names e.label) (filter_map (file_entry names) fs)
files_named names fs = made_all (file_entry names) (λ f. Unit {0}) (λ e. AreNamed names e.label) (λ f e q h. (file_of names f e h).label) fs (λ k f h. tt)

-- something that a task's draft, its labelled form and its entry have alike
task_field : {Z : Type 0} (d : Draft) → BreaksNone d → (f : TaskEntry → Z) (g : LabelledTask → Z) (h : TaskDraft → Z)
    → ((l : LabelledTask) (e : TaskEntry) → task_entry (known d) l ≡ Some e → f e ≡ g l) → ((t : TaskDraft) (l : LabelledTask) → labelled_task d.principals t ≡ Some l → g l ≡ h t)
    → map f (parts d).tasks ≡ map h d.tasks
task_field d ok f g h of to =
    made_map (task_entry (known d)) f g of (tasks_of d) ok.arguments.tasks ∙ made_map (labelled_task d.principals) g h to d.tasks ok.labels.tasks

task_sum : (d : Draft) → BreaksNone d → (f : TaskEntry → ℕ) (g : LabelledTask → ℕ) (h : TaskDraft → ℕ)
    → ((l : LabelledTask) (e : TaskEntry) → task_entry (known d) l ≡ Some e → f e ≡ g l) → ((t : TaskDraft) (l : LabelledTask) → labelled_task d.principals t ≡ Some l → g l ≡ h t)
    → sum_by f (parts d).tasks ≡ sum_by h d.tasks
task_sum d ok f g h of to =
    made_sum (task_entry (known d)) f g of (tasks_of d) ok.arguments.tasks ∙ made_sum (labelled_task d.principals) g h to d.tasks ok.labels.tasks

has_names : (d : Draft) → BreaksNone d → HasNames (parts d)
has_names d ok = record {
  principals = names_behind [] d.principals ok.names.principals no_names;
  channels = keys_of no_name (file_names d.channels) _ (names_of d.principals d.channels ok.labels.channels) ok.names.channels;
  inputs = keys_of no_name (file_names d.inputs) _ (names_of d.principals d.inputs ok.labels.inputs) ok.names.inputs;
  tasks = keys_of no_name (task_names d.tasks) _
      (task_field d ok (λ e. e.name) (λ l. l.name) (λ t. t.name) (λ l e h. (entry_of (known d) l e h).name) (λ t l h. ap (λ x. x.name) (sym (labelled_of d.principals t l h).is)))
      ok.names.tasks;
}

has_files : (d : Draft) → BreaksNone d → HasFiles (parts d)
has_files d ok =
    let channels = paths_of d.principals d.channels ok.labels.channels in
    let inputs = paths_of d.principals d.inputs ok.labels.inputs in
    let first = keys_behind no_file [] (files_of d.channels) ok.files.channels (no_keys IsFile) in
    let both = keys_behind no_file (files_of d.channels) (files_of d.inputs) ok.files.inputs first in
    subst (AreKeys IsFile) (sym (ap (λ xs. xs ++ map (λ f. f.file) (parts d).inputs) channels ∙ ap (λ xs. files_of d.channels ++ xs) inputs)) both

tasks_keep : (d : Draft) → BreaksNone d → TasksKeep (limits_of (version_of d)) (longest_of d) (inputs_of d) (entries_of d) d.tasks
tasks_keep d ok =
    let limits : Limits = limits_of (version_of d) in
    tasks_behind limits (longest_of d) (inputs_of d) (entries_of d) [] d.tasks ok.limits.tasks (no_tasks limits (longest_of d) (inputs_of d) (entries_of d))

-- there are as many tasks as drafts of them
task_count : (d : Draft) → BreaksNone d → length (parts d).tasks ≡ length d.tasks
task_count d ok = made_length (task_entry (known d)) (tasks_of d) ok.arguments.tasks ∙ made_length (labelled_task d.principals) d.tasks ok.labels.tasks

keeps_limits : (d : Draft) → BreaksNone d → All (IsTask (parts d)) (parts d).tasks → KeepsLimits (parts d)
keeps_limits d ok all =
    let keep = tasks_keep d ok in
    let limits : Limits = limits_of (version_of d) in
    let work = work_keeps limits (longest_of d) d.tasks ok.limits.document in
    let turns = task_sum d ok (λ e. e.turns) (λ l. l.turns) (λ t. t.turns) (λ l e h. (entry_of (known d) l e h).turns) (λ t l h. ap (λ x. x.turns) (sym (labelled_of d.principals t l h).is)) in
    let cells = task_sum d ok (λ e. e.cells) (λ l. l.cells) (λ t. t.cells) (λ l e h. (entry_of (known d) l e h).cells) (λ t l h. ap (λ x. x.cells) (sym (labelled_of d.principals t l h).is)) in
    let entries = task_count d ok in
    let count = keep.count in record {
      some = work.some;
      longest = work.most;
      work = subst (λ n. n * longest_of d ≤ 1073741824) (sym turns) work.work;
      turns = subst (λ n. n ≤ limits.turns) (sym turns) keep.turns;
      cells = subst (λ n. n ≤ limits.cells) (sym cells) keep.cells;
      channels = few_of limits.entries d.channels (parts d).channels (made_length (file_entry d.principals) d.channels ok.labels.channels) ok.limits.channels;
      inputs = few_of limits.entries d.inputs (parts d).inputs (made_length (file_entry d.principals) d.inputs ok.labels.inputs) ok.limits.inputs;
      tasks = omega arith;
      args = All-weaker (IsTask (parts d)) (λ e. length e.args ≤ 8) (λ e t. t.count) (parts d).tasks all;
      lists = All-weaker (IsTask (parts d)) (λ e. All (IsSmallArgument (parts d)) e.args) (λ e t. t.lists) (parts d).tasks all;
    }

are_tasks : (d : Draft) → BreaksNone d → All (IsTask (parts d)) (parts d).tasks
are_tasks d ok =
    let keep = tasks_keep d ok in
    let most = (limits_of (version_of d)).entries in
    let few : length (parts d).channels ≤ most = few_of most d.channels (parts d).channels (made_length (file_entry d.principals) d.channels ok.labels.channels) ok.limits.channels in
    let all : most ≤ 1024 = (limits_are_small (version_of d)).entries in
    let known_of : IsKnownOf (known d) (parts d) = record {
      inputs = length-map d.inputs (λ f. f.name) ∙ sym (made_length (file_entry d.principals) d.inputs ok.labels.inputs);
      channels = refl;
      few = omega arith;
    } in
    let limits : Limits = limits_of (version_of d) in
    let longest = longest_of d in
    let p = parts d in
    let labelled = made_all (labelled_task d.principals) (λ t. args_fail longest t ≡ false) (IsOfDraft longest d.principals) (λ t l fine is. record { draft = t; fine = fine; is = is }) d.tasks keep.args in
    let flow = none_map is_above (tasks_of d) ok.flow.tasks in
    let fits = λ (e : TaskEntry). lists_fail limits longest (inputs_of d) (Some e) ≡ false in
    let made = made_all (task_entry (known d)) (λ l. IsOfDraft longest d.principals l × (is_above l ≡ false)) (λ e. fits e → IsTask p e) (entry_is_fine (known d) p known_of) (tasks_of d)
    (λ k l h. (labelled k l h, flow k l h)) in
    let count = task_count d ok in
    let lists : All fits p.tasks = λ k e within. subst (λ o. lists_fail limits longest (inputs_of d) o ≡ false) (slice_get-get_or p.tasks k e within) (keep.lists k (omega arith)) in
    both_of fits (IsTask p) p.tasks made lists

-- a version that a draft has by the rules is one
version_is : (v : Option ℕ) → not (is_version v) ≡ false → IsTrue (is_version (Some (unwrap_or v 0)))
version_is None h = absurd (cc)
version_is (Some n) h = is_true (is_version (Some n)) (not_false (is_version (Some n)) h)

pub is_policy : (d : Draft) → BreaksNone d → IsPolicy (parts d)
is_policy d ok =
    let tasks = are_tasks d ok in
    let at = λ (P : TaskEntry → Type 0) (of : (e : TaskEntry) → IsTask (parts d) e → P e). All-weaker (IsTask (parts d)) P of (parts d).tasks tasks in record {
      version = version_is d.version ok.version.document;
      names = has_names d ok;
      labels = record {
        channels = files_named d.principals d.channels;
        inputs = files_named d.principals d.inputs;
        labels = at (λ e. AreNamed d.principals e.label) (λ e t. t.label);
        clearances = at (λ e. AreNamed d.principals e.clearance) (λ e t. t.clearance);
      };
      flow = at (λ e. IsTrue (flows e.label e.clearance)) (λ e t. t.flow);
      arguments = at (λ e. All (IsArgument (parts d)) e.args) (λ e t. t.args);
      limits = keeps_limits d ok tasks;
      files = has_files d ok;
    }
