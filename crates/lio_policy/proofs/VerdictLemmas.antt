-- What the rules decide.
use Rattle.std.proofs.Common.{◌≡◌, ◌∙◌, ◌⊎◌, inl, inr, ℕ, List, [], ◌∷◌, Option, Some, None, Result, Ok, Err, IfOk, IfErr, refl, sym, ap, subst}
use Rattle.std.specs.List.{filter_map}
use Rattle.lio_policy_draft.specs.Converted.{first_failing}
use Rattle.lio_policy_draft.specs.Failing.{Failing, entries, fault_at, blamed, unless_fault}
use Rattle.lio_policy_draft.specs.Drafted.{draft_of}
use Rattle.lio_policy_draft.specs.declared.draft.Draft.{Draft}
use Rattle.lio_policy_draft.specs.declared.fault.PolicyFault.{PolicyFault}
use Rattle.lio_policy_draft.specs.declared.fault.PolicyFault.TheVariants.{NoMemory}
use Rattle.lio_policy_draft.proofs.FailingLemmas.{Blames, not_blamed}
use Rattle.lio_policy.specs.Rules.{version_fails, names_fail, labels_fail, flow_fails, arguments_fail, limits_fail, files_fail, file_entry, task_entry, known, tasks_of, longest_of, version_of}
use Rattle.lio_policy.specs.Verdict.{Gives, first_fault, declarations_fault, uses_fault, least, made, judged, from_draft, policy_of}
use Rattle.lio_policy.specs.Policy.{PolicyParts, IsPolicy}
use Rattle.lio_policy.specs.declared.policy.Policy.{Policy}
use Rattle.lio_policy.specs.declared.policy.FileEntry.{FileEntry}
use Rattle.lio_policy.specs.declared.policy.TaskEntry.{TaskEntry}
use Rattle.lio_policy.proofs.MadeLemmas.{nothing_fails}
use Rattle.lio_policy.proofs.PolicyLemmas.{BreaksNone, parts, is_policy}

blames_none : (rule : ℕ) (f : Failing) → blamed rule f ≡ None → first_failing 0 (entries f) ≡ None
blames_none rule f h = by (first_failing 0 (entries f)) h
  where
    by : (o : Option ℕ) → fault_at rule o ≡ None → o ≡ None
    by None e = refl
    by (Some n) e = absurd (cc)

skip : (o : Option PolicyFault) (more : List (Option PolicyFault)) → o ≡ None → first_fault (o ∷ more) ≡ first_fault more
skip o more h = ap (λ p. first_fault (p ∷ more)) h

stop : (o : Option PolicyFault) (more : List (Option PolicyFault)) (fault : PolicyFault) → o ≡ Some fault → first_fault (o ∷ more) ≡ Some fault
stop o more fault h = ap (λ p. first_fault (p ∷ more)) h

none_first : (o : Option PolicyFault) (more : List (Option PolicyFault)) → first_fault (o ∷ more) ≡ None → (o ≡ None) × (first_fault more ≡ None)
none_first None more h = (refl, h)
none_first (Some fault) more h = absurd (cc)

-- no entry of a draft fails a rule
abbrev pub Clean : Failing → Type 0
Clean f = first_failing 0 (entries f) ≡ None

-- want of memory, or the fault that there is
abbrev pub Faults : Option PolicyFault → PolicyFault → Type 0
Faults least fault = (fault ≡ NoMemory) ⊎ (least ≡ Some fault)

rests : (rule : ℕ) (f : Failing) (least : Option PolicyFault) (fault : PolicyFault) → (blamed rule f ≡ Some fault → least ≡ Some fault) → Blames rule (first_failing 0 (entries f)) fault → Faults least fault
rests rule f least fault then (inl e) = inl e
rests rule f least fault then (inr e) = inr (then e)

-- the rules in their order: those before one pass, and it decides
pub version_decides : (d : Draft) (fault : PolicyFault) → Blames 3 (first_failing 0 (entries (version_fails d))) fault → Faults (declarations_fault d) fault
unfolding declarations_fault
version_decides d fault h = rests 3 (version_fails d) (declarations_fault d) fault (λ e. stop _ _ fault e) h

pub names_decide : (d : Draft) (fault : PolicyFault) → Clean (version_fails d) → Blames 4 (first_failing 0 (entries (names_fail d))) fault → Faults (declarations_fault d) fault
unfolding declarations_fault
names_decide d fault a h = rests 4 (names_fail d) (declarations_fault d) fault (λ e. skip _ _ (not_blamed 3 (version_fails d) a) ∙ stop _ _ fault e) h

pub labels_decide : (d : Draft) (fault : PolicyFault) → Clean (version_fails d) → Clean (names_fail d) → Blames 5 (first_failing 0 (entries (labels_fail d))) fault → Faults (declarations_fault d) fault
unfolding declarations_fault
labels_decide d fault a b h =
    rests 5 (labels_fail d) (declarations_fault d) fault (λ e. skip _ _ (not_blamed 3 (version_fails d) a) ∙ skip _ _ (not_blamed 4 (names_fail d) b) ∙ stop _ _ fault e) h

pub flow_decides : (d : Draft) (fault : PolicyFault) → Clean (version_fails d) → Clean (names_fail d) → Clean (labels_fail d) → Blames 6 (first_failing 0 (entries (flow_fails d))) fault → Faults (declarations_fault d) fault
unfolding declarations_fault
flow_decides d fault a b c h =
    rests 6 (flow_fails d) (declarations_fault d) fault
    (λ e. skip _ _ (not_blamed 3 (version_fails d) a) ∙ skip _ _ (not_blamed 4 (names_fail d) b) ∙ skip _ _ (not_blamed 5 (labels_fail d) c) ∙ stop _ _ fault e) h

pub declarations_pass : (d : Draft) → Clean (version_fails d) → Clean (names_fail d) → Clean (labels_fail d) → Clean (flow_fails d) → declarations_fault d ≡ None
unfolding declarations_fault
declarations_pass d a b c g = skip _ _ (not_blamed 3 (version_fails d) a) ∙ skip _ _ (not_blamed 4 (names_fail d) b) ∙ skip _ _ (not_blamed 5 (labels_fail d) c) ∙ skip _ _ (not_blamed 6 (flow_fails d) g)

pub arguments_decide : (d : Draft) (fault : PolicyFault) → Blames 7 (first_failing 0 (entries (arguments_fail d))) fault → Faults (uses_fault d) fault
unfolding uses_fault
arguments_decide d fault h = rests 7 (arguments_fail d) (uses_fault d) fault (λ e. stop _ _ fault e) h

pub limits_decide : (d : Draft) (fault : PolicyFault) → Clean (arguments_fail d) → Blames 8 (first_failing 0 (entries (limits_fail d))) fault → Faults (uses_fault d) fault
unfolding uses_fault
limits_decide d fault a h = rests 8 (limits_fail d) (uses_fault d) fault (λ e. skip _ _ (not_blamed 7 (arguments_fail d) a) ∙ stop _ _ fault e) h

pub files_decide : (d : Draft) (fault : PolicyFault) → Clean (arguments_fail d) → Clean (limits_fail d) → Blames 9 (first_failing 0 (entries (files_fail d))) fault → Faults (uses_fault d) fault
unfolding uses_fault
files_decide d fault a b h =
    rests 9 (files_fail d) (uses_fault d) fault (λ e. skip _ _ (not_blamed 7 (arguments_fail d) a) ∙ skip _ _ (not_blamed 8 (limits_fail d) b) ∙ stop _ _ fault e) h

pub uses_pass : (d : Draft) → Clean (arguments_fail d) → Clean (limits_fail d) → Clean (files_fail d) → uses_fault d ≡ None
unfolding uses_fault
uses_pass d a b c = skip _ _ (not_blamed 7 (arguments_fail d) a) ∙ skip _ _ (not_blamed 8 (limits_fail d) b) ∙ skip _ _ (not_blamed 9 (files_fail d) c)

-- a fault of the declarations is that of the draft, and without one the fault of the uses is
judged_by : (d : Draft) (fault : PolicyFault) → least d ≡ Some fault → judged d ≡ Err fault
judged_by d fault h = ap (λ o. unless_fault o (Ok (made d))) h

pub judged_by_declarations : (d : Draft) (fault : PolicyFault) → Faults (declarations_fault d) fault → (fault ≡ NoMemory) ⊎ (judged d ≡ Err fault)
judged_by_declarations d fault (inl e) = inl e
judged_by_declarations d fault (inr e) = inr (judged_by d fault (stop (declarations_fault d) (uses_fault d ∷ []) fault e))

pub judged_by_uses : (d : Draft) (fault : PolicyFault) → declarations_fault d ≡ None → Faults (uses_fault d) fault → (fault ≡ NoMemory) ⊎ (judged d ≡ Err fault)
judged_by_uses d fault none (inl e) = inl e
judged_by_uses d fault none (inr e) = inr (judged_by d fault (skip (declarations_fault d) (uses_fault d ∷ []) none ∙ stop (uses_fault d) [] fault e))

-- where all pass, the draft makes its policy
pub judged_ok : (d : Draft) → declarations_fault d ≡ None → uses_fault d ≡ None → judged d ≡ Ok (made d)
judged_ok d a b = ap (λ o. unless_fault o (Ok (made d))) (skip (declarations_fault d) (uses_fault d ∷ []) a ∙ skip (uses_fault d) [] b)

-- the same of what was read part by part
pub parts_are : (d : Draft) (version longest : ℕ) (names : List (List ℕ)) (channels inputs : List FileEntry) (tasks : List TaskEntry) → version ≡ version_of d → longest ≡ longest_of d → names ≡ d.principals
    → channels ≡ filter_map (file_entry d.principals) d.channels → inputs ≡ filter_map (file_entry d.principals) d.inputs → tasks ≡ filter_map (task_entry (known d)) (tasks_of d)
    → parts d ≡ record { version = version; longest = longest; names = names; channels = channels; inputs = inputs; tasks = tasks }
parts_are d version longest names channels inputs tasks v e f g h i =
    let with : ℕ → ℕ → List (List ℕ) → List FileEntry → List FileEntry → List TaskEntry → PolicyParts =
    λ v l n c i t. record { version = v; longest = l; names = n; channels = c; inputs = i; tasks = t } in
    sym (
    ap (λ x. with x longest names channels inputs tasks) v
    ∙ ap (λ x. with (version_of d) x names channels inputs tasks) e
    ∙ ap (λ x. with (version_of d) (longest_of d) x channels inputs tasks) f
    ∙ ap (λ x. with (version_of d) (longest_of d) d.principals x inputs tasks) g
    ∙ ap (λ x. with (version_of d) (longest_of d) d.principals (filter_map (file_entry d.principals) d.channels) x tasks) h
    ∙ ap (λ x. with (version_of d) (longest_of d) d.principals (filter_map (file_entry d.principals) d.channels) (filter_map (file_entry d.principals) d.inputs) x) i
    )

pub made_is : (d : Draft) (p : PolicyParts) → parts d ≡ p → made d ≡ p
unfolding made
made_is d p e = e

breaks_none : (d : Draft) → declarations_fault d ≡ None → uses_fault d ≡ None → BreaksNone d
unfolding declarations_fault uses_fault
breaks_none d h k =
    let version = blamed 3 (version_fails d) in
    let names = blamed 4 (names_fail d) in
    let labels = blamed 5 (labels_fail d) in
    let flow = blamed 6 (flow_fails d) in
    let limits = blamed 8 (limits_fail d) in
    let files = blamed 9 (files_fail d) in
    let a = none_first version (names ∷ labels ∷ flow ∷ []) h in
    let b = none_first names (labels ∷ flow ∷ []) a.1 in
    let c = none_first labels (flow ∷ []) b.1 in
    let g = none_first flow [] c.1 in
    let i = none_first (blamed 7 (arguments_fail d)) (limits ∷ files ∷ []) k in
    let j = none_first limits (files ∷ []) i.1 in
    let l = none_first files [] j.1 in record {
      version = nothing_fails (version_fails d) (blames_none 3 (version_fails d) a.0);
      names = nothing_fails (names_fail d) (blames_none 4 (names_fail d) b.0);
      labels = nothing_fails (labels_fail d) (blames_none 5 (labels_fail d) c.0);
      flow = nothing_fails (flow_fails d) (blames_none 6 (flow_fails d) g.0);
      arguments = nothing_fails (arguments_fail d) (blames_none 7 (arguments_fail d) i.0);
      limits = nothing_fails (limits_fail d) (blames_none 8 (limits_fail d) j.0);
      files = nothing_fails (files_fail d) (blames_none 9 (files_fail d) l.0);
    }

-- where all pass, the parts are those of a policy
pub passes_all : (d : Draft) (p : PolicyParts) → parts d ≡ p → declarations_fault d ≡ None → uses_fault d ≡ None → IsPolicy p
passes_all d p is a b = subst IsPolicy is (is_policy d (breaks_none d a b))

-- ---- the text

pub no_draft : (bytes : List ℕ) (fault : PolicyFault) → (fault ≡ NoMemory) ⊎ (draft_of bytes ≡ Err fault) → (fault ≡ NoMemory) ⊎ (policy_of bytes ≡ Err fault)
unfolding policy_of
no_draft bytes fault (inl e) = inl e
no_draft bytes fault (inr e) = inr (ap from_draft e)

pub is_judged : (bytes : List ℕ) (d : Draft) → draft_of bytes ≡ Ok d → policy_of bytes ≡ judged d
unfolding policy_of
is_judged bytes d e = ap from_draft e

-- so what a draft gives, its text gives
pub gives_ok : (r : Result Policy PolicyFault) (d : Draft) (bytes : List ℕ) → policy_of bytes ≡ judged d → Gives (judged d) r → IfOk r (λ policy. policy_of bytes ≡ Ok policy)
gives_ok (Ok policy) d bytes same h = same ∙ h
gives_ok (Err fault) d bytes same h = tt

pub gives_fault : (r : Result Policy PolicyFault) (d : Draft) (bytes : List ℕ) → policy_of bytes ≡ judged d → Gives (judged d) r → IfErr r (λ fault. (fault ≡ NoMemory) ⊎ (policy_of bytes ≡ Err fault))
gives_fault (Ok policy) d bytes same h = tt
gives_fault (Err fault) d bytes same (inl e) = inl e
gives_fault (Err fault) d bytes same (inr e) = inr (same ∙ e)
