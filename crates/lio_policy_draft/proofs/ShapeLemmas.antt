-- On the shape of JSON values.
use Rattle.std.proofs.Common.{◌≡◌, ℕ, List, [], ◌∷◌, length, map, ◌==◌, Bor, Bool, true, false, codes, Option, Some, None, if◌then◌else◌, refl, ap, arith}
use Rattle.serde_json.specs.Data.{Data, no_members}
use Rattle.serde_json.specs.View.{items_of}
use Rattle.lio_policy_draft.specs.Shape.{list_of, are_keys, ◌>>=◌, text_at, texts_at, file_parts, file_of, task_texts, task_parts, task_of}
use Rattle.lio_policy_draft.specs.declared.draft.FileDraft.{FileDraft}
use Rattle.lio_policy_draft.specs.declared.draft.TaskDraft.{TaskDraft}
use Rattle.lio_policy_draft.specs.declared.shape.TaskTexts.{TaskTexts}

-- the items of an array are the list that it was made of
pub list_of_items : (ds : List Data) → list_of (items_of ds) ≡ ds
list_of_items [] = refl
list_of_items (d ∷ ds) = ap (λ es. d ∷ es) (list_of_items ds)

-- without members, the keys agree exactly where none is left
pub are_keys_end : (keys : List (Bor (List ℕ))) → are_keys (map (λ key. key.now) keys) no_members ≡ (length keys == 0)
are_keys_end [] = refl
are_keys_end (key ∷ keys) = grind arith

-- without the texts of a task there is no task
abbrev both : Option (List ℕ) → Option (List ℕ) → Option (List ℕ × List ℕ)
both n p = n >>= λ a. p >>= λ b. Some (a, b)

abbrev texts_of : List ℕ × List ℕ → List ℕ × List ℕ → TaskTexts
texts_of names labels = record { name = names.0; proc_name = names.1; label = labels.0; clearance = labels.1 }

either : {A : Type 0} (b : Bool) (o : Option A) → None ≡ o → None ≡ (if b then o else None)
either true o h = h
either false o h = refl

no_texts_by : (n p l c : Option (List ℕ)) (rest : List ℕ → List ℕ → List ℕ → List ℕ → Option TaskDraft)
    → None ≡ (both n p >>= λ names. both l c >>= λ labels. Some (texts_of names labels))
    → None ≡ (n >>= λ name. p >>= λ proc. l >>= λ label. c >>= λ clearance. rest name proc label clearance)
no_texts_by None p l c rest h = refl
no_texts_by (Some n) None l c rest h = refl
no_texts_by (Some n) (Some p) None c rest h = refl
no_texts_by (Some n) (Some p) (Some l) None rest h = refl
no_texts_by (Some n) (Some p) (Some l) (Some c) rest h = absurd (cc)

pub no_texts : (version : Option ℕ) (d : Data) → None ≡ task_texts d → None ≡ task_of version d
unfolding task_of
no_texts version d h = either _ (task_parts version d) (no_texts_by (text_at (codes "name") d) (text_at (codes "proc") d) (text_at (codes "label") d) (text_at (codes "clearance") d) _ h)

-- without the name and the label of a channel or an input there is none
no_file_by : (n l f : Option (List ℕ)) (rest : List ℕ → List ℕ → List ℕ → Option FileDraft) → None ≡ both n l → None ≡ (n >>= λ name. l >>= λ label. f >>= λ file. rest name label file)
no_file_by None l f rest h = refl
no_file_by (Some n) None f rest h = refl
no_file_by (Some n) (Some l) f rest h = absurd (cc)

pub no_file : (d : Data) → None ≡ texts_at (codes "name") (codes "label") d → None ≡ file_of d
unfolding file_of
no_file d h = either _ (file_parts d) (no_file_by (text_at (codes "name") d) (text_at (codes "label") d) (text_at (codes "file") d) _ h)
