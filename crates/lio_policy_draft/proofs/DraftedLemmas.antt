-- What a document is drafted to.
use Rattle.std.proofs.Common.{◌≡◌, ◌∙◌, ◌⊎◌, inl, inr, ℕ, List, length, map, Option, Some, None, Result, Ok, Err, IfOk, IfErr, sym, ap, subst}
use Rattle.std.specs.List.{filter_map}
use Rattle.serde_json.specs.Data.{Data}
use Rattle.serde_json.specs.Find.{as_str}
use Rattle.serde_json.specs.View.{view}
use Rattle.serde_json.specs.declared.value.Value.{Value}
use Rattle.lio_policy_draft.specs.Converted.{first_failing, unmade}
use Rattle.lio_policy_draft.specs.Shape.{Parts, parts_of, file_of, task_of}
use Rattle.lio_policy_draft.specs.Failing.{entries, unless_fault}
use Rattle.lio_policy_draft.specs.Drafted.{shape_fails, drafted, made_of, draft_of, document_of, from_document, from_parts}
use Rattle.lio_policy_draft.specs.declared.draft.Draft.{Draft}
use Rattle.lio_policy_draft.specs.declared.draft.FileDraft.{FileDraft}
use Rattle.lio_policy_draft.specs.declared.draft.TaskDraft.{TaskDraft}
use Rattle.lio_policy_draft.specs.declared.fault.PolicyFault.{PolicyFault}
use Rattle.lio_policy_draft.specs.declared.fault.PolicyFault.TheVariants.{Bad, NoMemory}
use Rattle.lio_policy_draft.proofs.ConvertedLemmas.{unmade_of_map, filter_map_of_map}
use Rattle.lio_policy_draft.proofs.FailingLemmas.{Blames, HasLengths, length_unmade, not_blamed}

-- the values of a document, seen as their data
pub seen_none : {Z : Type 0} (make : Data → Option Z) (k : ℕ) (vs : List Value) → first_failing k (unmade (λ v. make (view v)) vs) ≡ None → first_failing k (unmade make (map view vs)) ≡ None
seen_none make k vs h = ap (first_failing k) (unmade_of_map make view vs) ∙ h

pub seen_blames : {Z : Type 0} (make : Data → Option Z) (rule k : ℕ) (vs : List Value) (fault : PolicyFault) → Blames rule (first_failing k (unmade (λ v. make (view v)) vs)) fault → Blames rule (first_failing k (unmade make (map view vs))) fault
seen_blames make rule k vs fault h = subst (λ fs. Blames rule (first_failing k fs) fault) (sym (unmade_of_map make view vs)) h

pub seen_made : {Z : Type 0} (make : Data → Option Z) (vs : List Value) (made : List Z) → made ≡ filter_map (λ v. make (view v)) vs → made ≡ filter_map make (map view vs)
seen_made make vs made h = h ∙ sym (filter_map_of_map make view vs)

pub shape_lengths : (p : Parts) (a b c : ℕ) → a ≡ length p.principals → b ≡ length p.channels → c ≡ length p.inputs → HasLengths (shape_fails p) a b c
shape_lengths p a b c h i j = record { principals = length_unmade as_str p.principals ∙ sym h; channels = length_unmade file_of p.channels ∙ sym i; inputs = length_unmade file_of p.inputs ∙ sym j }

-- the draft of a document's parts, or the fault of its shape
pub drafted_fault : (p : Parts) (fault : PolicyFault) → Blames 2 (first_failing 0 (entries (shape_fails p))) fault → (fault ≡ NoMemory) ⊎ (drafted p ≡ Err fault)
drafted_fault p fault (inl e) = inl e
drafted_fault p fault (inr e) = inr (ap (λ o. unless_fault o (Ok (made_of p))) e)

pub drafted_ok : (p : Parts) (ps : List (List ℕ)) (cs is : List FileDraft) (ts : List TaskDraft) → first_failing 0 (entries (shape_fails p)) ≡ None
    → ps ≡ filter_map as_str p.principals → cs ≡ filter_map file_of p.channels → is ≡ filter_map file_of p.inputs → ts ≡ filter_map (task_of p.version) p.tasks
    → drafted p ≡ Ok (record { version = p.version; longest = p.longest; principals = ps; channels = cs; inputs = is; tasks = ts })
drafted_ok p ps cs is ts none e f g h =
    ap (λ o. unless_fault o (Ok (made_of p))) (not_blamed 2 (shape_fails p) none)
    ∙ sym (
    ap (λ x. Ok (record { version = p.version; longest = p.longest; principals = x; channels = cs; inputs = is; tasks = ts })) e
    ∙ ap (λ x. Ok (record { version = p.version; longest = p.longest; principals = filter_map as_str p.principals; channels = x; inputs = is; tasks = ts })) f
    ∙ ap (λ x. Ok (record { version = p.version; longest = p.longest; principals = filter_map as_str p.principals; channels = filter_map file_of p.channels; inputs = x; tasks = ts })) g
    ∙ ap (λ x. Ok (record { version = p.version; longest = p.longest; principals = filter_map as_str p.principals; channels = filter_map file_of p.channels; inputs = filter_map file_of p.inputs; tasks = x })) h
    )

-- ---- the text

pub no_document : (bytes : List ℕ) (fault : PolicyFault) → (fault ≡ NoMemory) ⊎ ((fault ≡ Bad 1 0) × (document_of bytes ≡ None)) → (fault ≡ NoMemory) ⊎ (draft_of bytes ≡ Err fault)
unfolding draft_of
no_document bytes fault (inl e) = inl e
no_document bytes fault (inr e) = inr (ap from_document e.1 ∙ ap (λ f. Err f) (sym e.0))

is_from : (bytes : List ℕ) (document : Data) → document_of bytes ≡ Some document → draft_of bytes ≡ from_parts (parts_of document)
unfolding draft_of
is_from bytes document is = ap from_document is

-- what a document gives, its text gives
pub gives_ok : (r : Result Draft PolicyFault) (bytes : List ℕ) (document : Data) → document_of bytes ≡ Some document → IfOk r (λ draft. from_parts (parts_of document) ≡ Ok draft) → IfOk r (λ draft. draft_of bytes ≡ Ok draft)
gives_ok r bytes document is h = subst (λ e. IfOk r (λ draft. e ≡ Ok draft)) (sym (is_from bytes document is)) h

pub gives_fault : (r : Result Draft PolicyFault) (bytes : List ℕ) (document : Data) → document_of bytes ≡ Some document → IfErr r (λ fault. (fault ≡ NoMemory) ⊎ (from_parts (parts_of document) ≡ Err fault))
    → IfErr r (λ fault. (fault ≡ NoMemory) ⊎ (draft_of bytes ≡ Err fault))
gives_fault r bytes document is h = subst (λ e. IfErr r (λ fault. (fault ≡ NoMemory) ⊎ (e ≡ Err fault))) (sym (is_from bytes document is)) h
