-- On the lists of the rules, and the first entry that fails in them.
use Rattle.std.proofs.Common.{◌≡◌, ℕ, suc, ◌+◌, ◌-◌, ◌<◌, ◌≤◌, Bool, true, false, ◌||◌, nat_le, nat_lt, List, [], ◌∷◌, ◌++◌, length, get_or, drop, map, if◌then◌else◌, position, slice_get, Option, Some, None, option_map, option_and_then, Result, Ok, Err, refl, sym, ap, ◌∙◌, arith, length-append, append_assoc}
use Rattle.std.specs.List.{position_from}
use Rattle.std.proofs.lemmas.List.{length-map, at_drop_more, at_drop_all, drop_more}
use Rattle.std.proofs.lemmas.Iterator.Adapters.{position_from-zero}
use Rattle.lio_labels.specs.declared.label.Label.{Label}
use Rattle.lio_policy_draft.specs.Converted.{first_failing}
use Rattle.lio_policy_draft.specs.Failing.{Failing, entries, Passes}
use Rattle.lio_policy_draft.specs.declared.draft.Draft.{Draft}
use Rattle.lio_policy_draft.specs.declared.draft.TaskDraft.{TaskDraft}
use Rattle.lio_policy_draft.specs.declared.fault.PolicyFault.{PolicyFault}
use Rattle.lio_policy_draft.proofs.FailingLemmas.{HasLengths, length_unmade, none_in_all, fault_in_tasks}
use Rattle.lio_policy_draft.specs.Limits.{limits_of}
use Rattle.lio_policy_draft.specs.declared.limits.Limits.{Limits}
use Rattle.lio_policy.specs.Rules.{label_of, labels_of, labelled_task, behind, none_of, is_past, version_of, task_fails, args_fail, lists_fail, turns_in_all, cells_in_all, version_fails, names_fail, labels_fail, flow_fails, arguments_fail, limits_fail, files_fail, principal_fails, key_fails, no_name, no_file, file_names, files_of, file_entry}
use Rattle.lio_policy.specs.declared.labelled.LabelledTask.{LabelledTask}
use Rattle.lio_policy.specs.declared.policy.FileEntry.{FileEntry}
use Rattle.lio_policy.specs.declared.policy.TaskEntry.{TaskEntry}

-- ---- lists in which nothing fails, and their lengths

pub first_none_of : {X : Type 0} (k : ℕ) (xs : List X) → first_failing k (none_of xs) ≡ None
first_none_of k [] = refl
first_none_of k (x ∷ xs) = first_none_of (k + 1) xs

pub length_none_of : {X : Type 0} (xs : List X) → length (none_of xs) ≡ length xs
length_none_of xs = length-map xs (λ _. false)

pub length_behind : {X : Type 0} (fails : List X → X → Bool) (before xs : List X) → length (behind fails before xs) ≡ length xs
length_behind fails before [] = refl
length_behind fails before (x ∷ xs) = ap (λ n. suc n) (length_behind fails (before ++ x ∷ []) xs)

-- ---- a loop over items that stops at the first that fails

-- at an item that fails behind those before it
pub fails_here : {X Y : Type 0} (fails : List Y → Y → Bool) (key : X → Y) (before : List Y) (xs : List X) (i : ℕ) (x : X) → i < length xs → x ≡ get_or xs i x → fails before (key x) ≡ true
    → first_failing i (behind fails before (map key (drop i xs))) ≡ Some i
fails_here fails key before xs i x within is h =
    at_drop_more (λ ys. first_failing i (behind fails before (map key ys))) xs i x within
    ∙ ap (λ y. first_failing i (behind fails before (key y ∷ map key (drop (i + 1) xs)))) (sym is)
    ∙ ap (λ b. first_failing i (b ∷ behind fails (before ++ key x ∷ []) (map key (drop (i + 1) xs)))) h

-- and past the last item
pub none_left : {X Y : Type 0} (fails : List Y → Y → Bool) (key : X → Y) (before : List Y) (xs : List X) (i : ℕ) → length xs ≤ i → first_failing i (behind fails before (map key (drop i xs))) ≡ None
none_left fails key before xs i past = at_drop_all (λ ys. first_failing i (behind fails before (map key ys))) xs i past

-- the same for items as they are
pub fails_now : {X : Type 0} (fails : List X → X → Bool) (before xs : List X) (i : ℕ) (x : X) → i < length xs → x ≡ get_or xs i x → fails before x ≡ true → first_failing i (behind fails before (drop i xs)) ≡ Some i
fails_now fails before xs i x within is h =
    at_drop_more (λ ys. first_failing i (behind fails before ys)) xs i x within
    ∙ ap (λ y. first_failing i (behind fails before (y ∷ drop (i + 1) xs))) (sym is)
    ∙ ap (λ b. first_failing i (b ∷ behind fails (before ++ x ∷ []) (drop (i + 1) xs))) h

pub none_now : {X : Type 0} (fails : List X → X → Bool) (before xs : List X) (i : ℕ) → length xs ≤ i → first_failing i (behind fails before (drop i xs)) ≡ None
none_now fails before xs i past = at_drop_all (λ ys. first_failing i (behind fails before ys)) xs i past

-- ---- limits

-- at most so many entries, or the first past them
pub none_past : {X : Type 0} (most k : ℕ) (before xs : List X) → length before + length xs ≤ most → first_failing k (behind (is_past most) before xs) ≡ None
none_past most k before [] h = refl
none_past most k before (x ∷ xs) h =
    let few : nat_le most (length before) ≡ false = grind arith in
    ap (λ b. first_failing k (b ∷ behind (is_past most) (before ++ x ∷ []) xs)) few
    ∙ none_past most (k + 1) (before ++ x ∷ []) xs (omega (arith, length-append before (x ∷ [])))

pub first_past : {X : Type 0} (most k : ℕ) (before xs : List X) → length before ≤ most → most < length before + length xs → first_failing k (behind (is_past most) before xs) ≡ Some (k + (most - length before))
first_past most k before [] h more = absurd (omega arith)
first_past most k before (x ∷ xs) h more = by (nat_le most (length before)) refl (first_past most (k + 1) (before ++ x ∷ []) xs)
  where
    by : (b : Bool) → nat_le most (length before) ≡ b
        → (length (before ++ x ∷ []) ≤ most → most < length (before ++ x ∷ []) + length xs → first_failing (k + 1) (behind (is_past most) (before ++ x ∷ []) xs) ≡ Some (k + 1 + (most - length (before ++ x ∷ []))))
        → first_failing k (behind (is_past most) before (x ∷ xs)) ≡ Some (k + (most - length before))
    by true e rest =
        let full : most ≤ length before = grind arith in
        let here : k ≡ k + (most - length before) = omega arith in
        ap (λ b. first_failing k (b ∷ behind (is_past most) (before ++ x ∷ []) xs)) e ∙ ap Some here
    by false e rest =
        let few : length before < most = grind arith in
        let len : length (before ++ x ∷ []) ≡ length before + 1 = length-append before (x ∷ []) in
        let there : k + 1 + (most - length (before ++ x ∷ [])) ≡ k + (most - length before) = omega arith in
        ap (λ b. first_failing k (b ∷ behind (is_past most) (before ++ x ∷ []) xs)) e ∙ rest (omega arith) (omega arith) ∙ ap Some there

-- a task by the numbers of those before it
pub task_fails_by : (limits : Limits) (longest : ℕ) (inputs : List FileEntry) (entries : List TaskEntry) (before : List TaskDraft) (t : TaskDraft) (place turns cells : ℕ) (large : Bool)
    → place ≡ length before → turns ≡ turns_in_all before + t.turns → cells ≡ cells_in_all before + t.cells
    → large ≡ lists_fail limits longest inputs (slice_get entries (length before))
    → (nat_le limits.entries place || nat_lt limits.turns turns || nat_lt limits.cells cells || args_fail longest t || large) ≡ task_fails limits longest inputs entries before t
task_fails_by limits longest inputs entries before t place turns cells large p q r l =
    ap (λ n. nat_le limits.entries n || nat_lt limits.turns turns || nat_lt limits.cells cells || args_fail longest t || large) p
    ∙ ap (λ n. nat_le limits.entries (length before) || nat_lt limits.turns n || nat_lt limits.cells cells || args_fail longest t || large) q
    ∙ ap (λ n. nat_le limits.entries (length before) || nat_lt limits.turns (turns_in_all before + t.turns) || nat_lt limits.cells n || args_fail longest t || large) r
    ∙ ap (λ b. nat_le limits.entries (length before) || nat_lt limits.turns (turns_in_all before + t.turns) || nat_lt limits.cells (cells_in_all before + t.cells) || args_fail longest t || b) l

-- ---- rules on tasks alone

-- where only the tasks may fail, they decide
pub passes_in_tasks : {A : Type 0} (rule p c i : ℕ) (f : Failing) (r : Result A PolicyFault) (Holds : A → Type 0) → HasLengths f p c i → f.document ≡ false → first_failing 1 f.principals ≡ None
    → first_failing (1 + p) f.channels ≡ None → first_failing (1 + p + c) f.inputs ≡ None → Passes rule (1 + p + c + i) f.tasks r Holds → Passes rule 0 (entries f) r Holds
passes_in_tasks rule p c i f (Ok x) Holds lens d np nc ni h = (none_in_all p c i f lens d np nc ni h.0, h.1)
passes_in_tasks rule p c i f (Err fault) Holds lens d np nc ni h = fault_in_tasks rule p c i f fault lens d np nc ni h

-- the first that passes a test, as the first of the tests' answers
first_of_map_from : {X : Type 0} (p : X → Bool) (k : ℕ) (xs : List X) → position_from p k xs ≡ first_failing k (map p xs)
first_of_map_from p k [] = refl
first_of_map_from p k (x ∷ xs) = ap (λ o. if p x then Some k else o) (first_of_map_from p (k + 1) xs)

pub first_of_map : {X : Type 0} (p : X → Bool) (xs : List X) → position p xs ≡ first_failing 0 (map p xs)
first_of_map p xs = position_from-zero p xs ∙ first_of_map_from p 0 xs

-- ---- the lists of each rule

pub version_lengths : (d : Draft) → HasLengths (version_fails d) (length d.principals) (length d.channels) (length d.inputs)
version_lengths d = record { principals = length_none_of d.principals; channels = length_none_of d.channels; inputs = length_none_of d.inputs }

pub names_lengths : (d : Draft) → HasLengths (names_fail d) (length d.principals) (length d.channels) (length d.inputs)
names_lengths d = record {
  principals = length_behind principal_fails [] d.principals;
  channels = length_behind (key_fails no_name) [] (file_names d.channels) ∙ length-map d.channels (λ f. f.name);
  inputs = length_behind (key_fails no_name) [] (file_names d.inputs) ∙ length-map d.inputs (λ f. f.name);
}

pub labels_lengths : (d : Draft) → HasLengths (labels_fail d) (length d.principals) (length d.channels) (length d.inputs)
labels_lengths d = record { principals = length_none_of d.principals; channels = length_unmade (file_entry d.principals) d.channels; inputs = length_unmade (file_entry d.principals) d.inputs }

pub flow_lengths : (d : Draft) → HasLengths (flow_fails d) (length d.principals) (length d.channels) (length d.inputs)
flow_lengths d = record { principals = length_none_of d.principals; channels = length_none_of d.channels; inputs = length_none_of d.inputs }

pub arguments_lengths : (d : Draft) → HasLengths (arguments_fail d) (length d.principals) (length d.channels) (length d.inputs)
arguments_lengths d = record { principals = length_none_of d.principals; channels = length_none_of d.channels; inputs = length_none_of d.inputs }

pub limits_lengths : (d : Draft) → HasLengths (limits_fail d) (length d.principals) (length d.channels) (length d.inputs)
limits_lengths d = record { principals = length_none_of d.principals; channels = length_behind (is_past (limits_of (version_of d)).entries) [] d.channels; inputs = length_behind (is_past (limits_of (version_of d)).entries) [] d.inputs }

pub files_lengths : (d : Draft) → HasLengths (files_fail d) (length d.principals) (length d.channels) (length d.inputs)
files_lengths d = record {
  principals = length_none_of d.principals;
  channels = length_behind (key_fails no_file) [] (files_of d.channels) ∙ length-map d.channels (λ f. f.file);
  inputs = length_behind (key_fails no_file) (files_of d.channels) (files_of d.inputs) ∙ length-map d.inputs (λ f. f.file);
}

-- ---- tasks with their labels

-- without a label or a clearance there is no task
abbrev both : Option Label → Option Label → Option (Label × Label)
both l c = option_and_then (λ x. option_map (λ y. (x, y)) c) l

no_labels_by : (l c : Option Label) (rest : Label → Label → Option LabelledTask) → None ≡ both l c → None ≡ option_and_then (λ x. option_and_then (λ y. rest x y) c) l
no_labels_by None c rest h = refl
no_labels_by (Some x) None rest h = refl
no_labels_by (Some x) (Some y) rest h = absurd (cc)

pub no_labels : (names : List (List ℕ)) (t : TaskDraft) → None ≡ labels_of names t → None ≡ labelled_task names t
unfolding labelled_task
no_labels names t h = no_labels_by (label_of names t.label) (label_of names t.clearance) _ h

-- a loop goes on past an item that does not fail
pub goes_on : {X : Type 0} (fails : List X → X → Bool) (before now xs all : List X) (i : ℕ) (x : X) → i < length xs → x ≡ get_or xs i x → fails before x ≡ false → now ≡ before ++ x ∷ []
    → (before ++ drop i xs ≡ all) × (first_failing i (behind fails before (drop i xs)) ≡ first_failing 0 (behind fails [] all))
    → (now ++ drop (i + 1) xs ≡ all) × (first_failing (i + 1) (behind fails now (drop (i + 1) xs)) ≡ first_failing 0 (behind fails [] all))
goes_on fails before now xs all i x within is fine added inv =
    let split : drop i xs ≡ x ∷ drop (i + 1) xs = drop_more xs i x within ∙ ap (λ y. y ∷ drop (i + 1) xs) (sym is) in (
      ap (λ ys. ys ++ drop (i + 1) xs) added ∙ append_assoc before (x ∷ []) (drop (i + 1) xs) ∙ ap (λ ys. before ++ ys) (sym split) ∙ inv.0,
      ap (λ ys. first_failing (i + 1) (behind fails ys (drop (i + 1) xs))) added
          ∙ sym (ap (λ b. first_failing i (b ∷ behind fails (before ++ x ∷ []) (drop (i + 1) xs))) fine)
          ∙ ap (λ ys. first_failing i (behind fails before ys)) (sym split) ∙ inv.1,
    )
