-- The shape of a policy's document: which JSON values are which parts of it. A part that has not exactly its keys, or of which a value is
-- not of its kind, is no part.
use Rattle.std.specs.Prelude.{ℕ, ◌==◌, ℤ, pos, negsuc, Bool, true, false, ◌&&◌, nat_le, if◌then◌else◌, List, [], ◌∷◌, codes, bytes_eq, Option, Some, None, option_map, option_and_then, unwrap_or}
use Rattle.serde_json.specs.Data.{Data, null, boolean, number, string, array, object, Items, no_items, item, Members, no_members, member}
use Rattle.serde_json.specs.Find.{get, as_null, as_bool, as_number, as_str, as_array, as_object, as_u64, as_i64, as_integer}
use Rattle.lio_policy_draft.specs.declared.draft.FileDraft.{FileDraft}
use Rattle.lio_policy_draft.specs.declared.draft.TaskDraft.{TaskDraft}
use Rattle.lio_policy_draft.specs.declared.draft.ArgDraft.{ArgDraft}
use Rattle.lio_policy_draft.specs.declared.shape.TaskTexts.{TaskTexts}
use Rattle.lio_policy_draft.specs.declared.draft.ArgDraft.TheVariants.{Input, Channel, Label, Power, Bytes, Whole, Flag, Unit as unit, Items as listed}

-- one part after another
infixl 10 ◌>>=◌
abbrev pub ◌>>=◌ : {A B : Type 0} → Option A → (A → Option B) → Option B
part >>= next = option_and_then next part

-- the items of an array
abbrev pub list_of : Items → List Data
list_of no_items = []
list_of (item d ds) = d ∷ list_of ds

-- whether the members have exactly these keys, in this order
abbrev pub are_keys : List (List ℕ) → Members → Bool
are_keys [] no_members = true
are_keys [] (member l d ms) = false
are_keys (k ∷ ks) no_members = false
are_keys (k ∷ ks) (member l d ms) = bytes_eq l k && are_keys ks ms

-- whether a value is an object with exactly these keys, given in rising order
abbrev pub has_keys : List (List ℕ) → Data → Bool
has_keys keys d = unwrap_or (option_map (are_keys keys) (as_object d)) false

-- the text, the items, the whole number (none for a negative one), and the whole number of 32 bits without sign at a key
abbrev pub text_at : List ℕ → Data → Option (List ℕ)
text_at key d = option_and_then as_str (get key d)

abbrev pub items_at : List ℕ → Data → Option (List Data)
items_at key d = option_map list_of (option_and_then as_array (get key d))

abbrev pub natural : ℤ → Option ℕ
natural (pos n) = Some n
natural (negsuc n) = None

abbrev pub whole_at : List ℕ → Data → Option (Option ℕ)
whole_at key d = option_map natural (option_and_then as_integer (option_and_then as_number (get key d)))

unfoldable pub of_32_bits : ℕ → Option ℕ
of_32_bits n = if nat_le n 4294967295 then Some n else None

abbrev pub count_at : List ℕ → Data → Option ℕ
count_at key d = option_and_then of_32_bits (option_and_then as_u64 (option_and_then as_number (get key d)))

-- a channel or an input
abbrev pub file_parts : Data → Option FileDraft
file_parts d = do
  name ← text_at (codes "name") d
  label ← text_at (codes "label") d
  file ← text_at (codes "file") d
  Some (record { name = name; label = label; file = file })

unfoldable pub file_of : Data → Option FileDraft
file_of d = if has_keys (codes "file" ∷ codes "label" ∷ codes "name" ∷ []) d then file_parts d else None

-- an argument that is a number, a truth value or nothing
unfoldable pub plain_arg_of : Data → Option ArgDraft
plain_arg_of d =
    if has_keys (codes "whole" ∷ []) d then option_map Whole (option_and_then as_i64 (option_and_then as_number (get (codes "whole") d)))
    else (if has_keys (codes "flag" ∷ []) d then option_map Flag (option_and_then as_bool (get (codes "flag") d))
    else (if has_keys (codes "unit" ∷ []) d then option_map (λ _. unit) (option_and_then as_null (get (codes "unit") d)) else None))

-- an argument that is no list: an object with one key, which says what it is
unfoldable pub single_arg_of : Data → Option ArgDraft
single_arg_of d =
    if has_keys (codes "input" ∷ []) d then option_map Input (text_at (codes "input") d)
    else (if has_keys (codes "channel" ∷ []) d then option_map Channel (text_at (codes "channel") d)
    else (if has_keys (codes "label" ∷ []) d then option_map Label (text_at (codes "label") d)
    else (if has_keys (codes "power" ∷ []) d then option_map Power (text_at (codes "power") d)
    else (if has_keys (codes "text" ∷ []) d then option_map Bytes (text_at (codes "text") d) else plain_arg_of d))))

-- whether an argument may be a list of arguments: in the second version alone
abbrev pub has_lists : Option ℕ → Bool
has_lists None = false
has_lists (Some version) = version == 2

-- one argument more, where there is one and the others are arguments
abbrev pub before_args : Option ArgDraft → Option (List ArgDraft) → Option (List ArgDraft)
before_args first others = option_and_then (λ arg. option_map (λ args. arg ∷ args) others) first

-- an argument of a version: a list of arguments at the one key `items` where the version has lists, or none; where it has not, that key is unknown
abbrev mutual
  pub arg_of : Option ℕ → Data → Option ArgDraft
  arg_of version null = None
  arg_of version (boolean b) = None
  arg_of version (number n) = None
  arg_of version (string s) = None
  arg_of version (array ds) = None
  arg_of version (object ms) =
      if has_lists version && are_keys (codes "items" ∷ []) ms then option_map listed (args_in version ms) else single_arg_of (object ms)

  -- the arguments in the first member
  pub args_in : Option ℕ → Members → Option (List ArgDraft)
  args_in version no_members = None
  args_in version (member key d ms) = args_of version d

  -- the arguments in an array
  pub args_of : Option ℕ → Data → Option (List ArgDraft)
  args_of version null = None
  args_of version (boolean b) = None
  args_of version (number n) = None
  args_of version (string s) = None
  args_of version (array ds) = each_arg version ds
  args_of version (object ms) = None

  -- items, each of which has to be an argument
  pub each_arg : Option ℕ → Items → Option (List ArgDraft)
  each_arg version no_items = Some []
  each_arg version (item d ds) = before_args (arg_of version d) (each_arg version ds)

-- the arguments at a key
abbrev pub args_at : Option ℕ → List ℕ → Data → Option (List ArgDraft)
args_at version key d = option_and_then (args_of version) (get key d)

-- the texts at two keys, and those of a task
abbrev pub texts_at : List ℕ → List ℕ → Data → Option (List ℕ × List ℕ)
texts_at first second d = do
  a ← text_at first d
  b ← text_at second d
  Some (a, b)

abbrev pub task_texts : Data → Option TaskTexts
task_texts d = do
  names ← texts_at (codes "name") (codes "proc") d
  labels ← texts_at (codes "label") (codes "clearance") d
  Some (record { name = names.0; proc_name = names.1; label = labels.0; clearance = labels.1 })

-- a task of a version
abbrev pub task_parts : Option ℕ → Data → Option TaskDraft
task_parts version d = do
  name ← text_at (codes "name") d
  proc ← text_at (codes "proc") d
  label ← text_at (codes "label") d
  clearance ← text_at (codes "clearance") d
  turns ← count_at (codes "turns") d
  cells ← count_at (codes "cells") d
  args ← args_at version (codes "args") d
  Some (record { name = name; proc_name = proc; label = label; clearance = clearance; turns = turns; cells = cells; args = args })

unfoldable pub task_of : Option ℕ → Data → Option TaskDraft
task_of version d =
    if has_keys (codes "args" ∷ codes "cells" ∷ codes "clearance" ∷ codes "label" ∷ codes "name" ∷ codes "proc" ∷ codes "turns" ∷ []) d then task_parts version d else None

-- what the document has: its version and its longest text, and the values in its four lists
pub record Parts : Type 0 where
  pub version : Option ℕ
  pub longest : Option ℕ
  pub principals : List Data
  pub channels : List Data
  pub inputs : List Data
  pub tasks : List Data

abbrev pub document_parts : Data → Option Parts
document_parts d = do
  version ← whole_at (codes "version") d
  longest ← whole_at (codes "longest") d
  principals ← items_at (codes "principals") d
  channels ← items_at (codes "channels") d
  inputs ← items_at (codes "inputs") d
  tasks ← items_at (codes "tasks") d
  Some (record { version = version; longest = longest; principals = principals; channels = channels; inputs = inputs; tasks = tasks })

unfoldable pub parts_of : Data → Option Parts
parts_of d =
    if has_keys (codes "channels" ∷ codes "inputs" ∷ codes "longest" ∷ codes "principals" ∷ codes "tasks" ∷ codes "version" ∷ []) d then document_parts d else None
