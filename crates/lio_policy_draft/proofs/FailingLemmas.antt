-- On the first entry that fails.
use Rattle.std.proofs.Common.{◌≡◌, ◌⊎◌, inl, inr, ℕ, ◌+◌, Bool, true, false, List, [], ◌∷◌, ◌++◌, length, Option, Some, None, option_map, is_none, Ok, Err, refl, sym, ap, subst, ◌∙◌, arith}
use Rattle.std.specs.List.{filter_map}
use Rattle.std.proofs.lemmas.List.{length-map}
use Rattle.lio_clauses.specs.FormulaText.{shown}
use Rattle.lio_policy_draft.specs.Converted.{first_failing, unless_at, converted, unmade}
use Rattle.lio_policy_draft.specs.Failing.{Failing, entries, fault_at, blamed}
use Rattle.lio_policy_draft.specs.declared.fault.PolicyFault.{PolicyFault}
use Rattle.lio_policy_draft.specs.declared.fault.PolicyFault.TheVariants.{Bad, NoMemory}

first_shift : (k n : ℕ) (bs : List Bool) → first_failing (k + n) bs ≡ option_map (λ i. k + i) (first_failing n bs)
first_shift k n [] = refl
first_shift k n (true ∷ bs) = refl
first_shift k n (false ∷ bs) = let e : (k + n) + 1 ≡ k + (n + 1) = omega arith in ap (λ m. first_failing m bs) e ∙ first_shift k (n + 1) bs

first_from : (k : ℕ) (bs : List Bool) → first_failing k bs ≡ option_map (λ i. k + i) (first_failing 0 bs)
first_from k bs = let e : k ≡ k + 0 = omega arith in ap (λ m. first_failing m bs) e ∙ first_shift k 0 bs

-- where nothing fails counted from 0, nothing does counted from another number
pub first_from_none : (k : ℕ) (bs : List Bool) → first_failing 0 bs ≡ None → first_failing k bs ≡ None
first_from_none k bs h = first_from k bs ∙ ap (option_map (λ i. k + i)) h

pub first_from_some : (k i : ℕ) (bs : List Bool) → first_failing 0 bs ≡ Some i → first_failing k bs ≡ Some (k + i)
first_from_some k i bs h = first_from k bs ∙ ap (option_map (λ i. k + i)) h

ok_unless : {A : Type 0} (made result : A) (o : Option ℕ) → Ok result ≡ unless_at o made → (o ≡ None) × (result ≡ made)
ok_unless made result None h = (refl, cc)
ok_unless made result (Some i) h = absurd (cc)

err_unless : {A : Type 0} (made : A) (i : ℕ) (o : Option ℕ) → Err i ≡ unless_at o made → o ≡ Some i
err_unless made i None h = absurd (cc)
err_unless made i (Some j) h = cc

-- what a conversion of all gives, read off
pub converted_ok : {X Y : Type 0} (make : X → Option Y) (xs : List X) (ys : List Y) → Ok ys ≡ converted make xs → (first_failing 0 (unmade make xs) ≡ None) × (ys ≡ filter_map make xs)
converted_ok make xs ys h = ok_unless (filter_map make xs) ys (first_failing 0 (unmade make xs)) h

pub converted_err : {X Y : Type 0} (make : X → Option Y) (xs : List X) (i : ℕ) → Err i ≡ converted make xs → first_failing 0 (unmade make xs) ≡ Some i
converted_err make xs i h = err_unless (filter_map make xs) i (first_failing 0 (unmade make xs)) h

-- the fault of a rule at the place at which it first fails
pub fault_from : (rule k i : ℕ) (bs : List Bool) (fault : PolicyFault) → fault ≡ Bad rule (shown (k + i)) → first_failing 0 bs ≡ Some i
    → (fault ≡ NoMemory) ⊎ (fault_at rule (first_failing k bs) ≡ Some fault)
fault_from rule k i bs fault is h = inr (ap (fault_at rule) (first_from_some k i bs h) ∙ ap Some (sym is))

-- ---- entries one list after another

first_append : (k : ℕ) (xs ys : List Bool) → first_failing k xs ≡ None → first_failing k (xs ++ ys) ≡ first_failing (k + length xs) ys
first_append k [] ys h = let e : k ≡ k + 0 = omega arith in ap (λ m. first_failing m ys) e
first_append k (true ∷ xs) ys h = absurd (cc)
first_append k (false ∷ xs) ys h = let e : (k + 1) + length xs ≡ k + length (false ∷ xs) = omega arith in first_append (k + 1) xs ys h ∙ ap (λ m. first_failing m ys) e

first_found : (k : ℕ) (xs ys : List Bool) (n : ℕ) → first_failing k xs ≡ Some n → first_failing k (xs ++ ys) ≡ Some n
first_found k [] ys n h = absurd (cc)
first_found k (true ∷ xs) ys n h = h
first_found k (false ∷ xs) ys n h = first_found (k + 1) xs ys n h

-- want of memory, or the fault of a rule at an entry
abbrev pub Blames : ℕ → Option ℕ → PolicyFault → Type 0
Blames rule entry fault = (fault ≡ NoMemory) ⊎ (fault_at rule entry ≡ Some fault)

fault_found : (rule k : ℕ) (xs ys : List Bool) (fault : PolicyFault) → Blames rule (first_failing k xs) fault → Blames rule (first_failing k (xs ++ ys)) fault
fault_found rule k xs ys fault (inl e) = inl e
fault_found rule k xs ys fault (inr e) = inr (by (first_failing k xs) refl)
  where
    by : (o : Option ℕ) → first_failing k xs ≡ o → fault_at rule (first_failing k (xs ++ ys)) ≡ Some fault
    by None h = let no : None ≡ Some fault = sym (ap (fault_at rule) h) ∙ e in absurd (cc)
    by (Some n) h = ap (fault_at rule) (first_found k xs ys n h) ∙ sym (ap (fault_at rule) h) ∙ e

fault_later : (rule k m : ℕ) (xs ys : List Bool) (fault : PolicyFault) → first_failing k xs ≡ None → m ≡ k + length xs → Blames rule (first_failing m ys) fault → Blames rule (first_failing k (xs ++ ys)) fault
fault_later rule k m xs ys fault none at h = subst (λ o. Blames rule o fault) (ap (λ n. first_failing n ys) at ∙ sym (first_append k xs ys none)) h

past_document : (rule : ℕ) (f : Failing) (fault : PolicyFault) → f.document ≡ false → Blames rule (first_failing 1 (f.principals ++ (f.channels ++ (f.inputs ++ f.tasks)))) fault → Blames rule (first_failing 0 (entries f)) fault
past_document rule f fault none h = subst (λ b. Blames rule (first_failing 0 (b ∷ (f.principals ++ (f.channels ++ (f.inputs ++ f.tasks))))) fault) (sym none) h

-- a fault in one of the lists, where nothing fails before, is the fault of all entries
pub fault_at_document : (rule : ℕ) (f : Failing) (fault : PolicyFault) → f.document ≡ true → fault ≡ Bad rule 0 → Blames rule (first_failing 0 (entries f)) fault
fault_at_document rule f fault fails is = inr (ap (λ b. fault_at rule (first_failing 0 (b ∷ (f.principals ++ (f.channels ++ (f.inputs ++ f.tasks)))))) fails ∙ ap Some (sym is))

pub fault_at_principals : (rule : ℕ) (f : Failing) (fault : PolicyFault) → f.document ≡ false → Blames rule (first_failing 1 f.principals) fault → Blames rule (first_failing 0 (entries f)) fault
fault_at_principals rule f fault d h = past_document rule f fault d (fault_found rule 1 f.principals _ fault h)

pub fault_at_channels : (rule k : ℕ) (f : Failing) (fault : PolicyFault) → f.document ≡ false → first_failing 1 f.principals ≡ None → k ≡ 1 + length f.principals
    → Blames rule (first_failing k f.channels) fault → Blames rule (first_failing 0 (entries f)) fault
fault_at_channels rule k f fault d p at h =
    past_document rule f fault d (fault_later rule 1 k f.principals _ fault p at (fault_found rule k f.channels _ fault h))

pub fault_at_inputs : (rule k m : ℕ) (f : Failing) (fault : PolicyFault) → f.document ≡ false → first_failing 1 f.principals ≡ None → k ≡ 1 + length f.principals
    → first_failing k f.channels ≡ None → m ≡ k + length f.channels → Blames rule (first_failing m f.inputs) fault → Blames rule (first_failing 0 (entries f)) fault
fault_at_inputs rule k m f fault d p at c at' h =
    past_document rule f fault d (fault_later rule 1 k f.principals _ fault p at (fault_later rule k m f.channels _ fault c at' (fault_found rule m f.inputs _ fault h)))

pub fault_at_tasks : (rule k m n : ℕ) (f : Failing) (fault : PolicyFault) → f.document ≡ false → first_failing 1 f.principals ≡ None → k ≡ 1 + length f.principals
    → first_failing k f.channels ≡ None → m ≡ k + length f.channels → first_failing m f.inputs ≡ None → n ≡ m + length f.inputs
    → Blames rule (first_failing n f.tasks) fault → Blames rule (first_failing 0 (entries f)) fault
fault_at_tasks rule k m n f fault d p at c at' i at'' h =
    past_document rule f fault d
    (fault_later rule 1 k f.principals _ fault p at (fault_later rule k m f.channels _ fault c at' (fault_later rule m n f.inputs f.tasks fault i at'' h)))

none_later : (k m : ℕ) (xs ys : List Bool) → first_failing k xs ≡ None → m ≡ k + length xs → first_failing m ys ≡ None → first_failing k (xs ++ ys) ≡ None
none_later k m xs ys none at h = first_append k xs ys none ∙ ap (λ n. first_failing n ys) (sym at) ∙ h

-- where nothing fails in each list, no entry fails
pub none_fails : (k m n : ℕ) (f : Failing) → f.document ≡ false → first_failing 1 f.principals ≡ None → k ≡ 1 + length f.principals
    → first_failing k f.channels ≡ None → m ≡ k + length f.channels → first_failing m f.inputs ≡ None → n ≡ m + length f.inputs
    → first_failing n f.tasks ≡ None → first_failing 0 (entries f) ≡ None
none_fails k m n f d p at c at' i at'' t =
    ap (λ b. first_failing 0 (b ∷ (f.principals ++ (f.channels ++ (f.inputs ++ f.tasks))))) d
    ∙ none_later 1 k f.principals _ p at (none_later k m f.channels _ c at' (none_later m n f.inputs f.tasks i at'' t))

-- ---- the lists of a draft with this many principals, channels and inputs

pub length_unmade : {X Y : Type 0} (make : X → Option Y) (xs : List X) → length (unmade make xs) ≡ length xs
length_unmade make xs = length-map xs (λ x. is_none (make x))

pub record HasLengths (f : Failing) (p c i : ℕ) : Type 0 where
  pub principals : length f.principals ≡ p
  pub channels : length f.channels ≡ c
  pub inputs : length f.inputs ≡ i

pub fault_in_channels : (rule p c i : ℕ) (f : Failing) (fault : PolicyFault) → HasLengths f p c i → f.document ≡ false → first_failing 1 f.principals ≡ None
    → Blames rule (first_failing (1 + p) f.channels) fault → Blames rule (first_failing 0 (entries f)) fault
fault_in_channels rule p c i f fault lens d np h = fault_at_channels rule (1 + p) f fault d np (ap (λ n. 1 + n) (sym lens.principals)) h

pub fault_in_inputs : (rule p c i : ℕ) (f : Failing) (fault : PolicyFault) → HasLengths f p c i → f.document ≡ false → first_failing 1 f.principals ≡ None → first_failing (1 + p) f.channels ≡ None
    → Blames rule (first_failing (1 + p + c) f.inputs) fault → Blames rule (first_failing 0 (entries f)) fault
fault_in_inputs rule p c i f fault lens d np nc h =
    fault_at_inputs rule (1 + p) (1 + p + c) f fault d np (ap (λ n. 1 + n) (sym lens.principals)) nc (ap (λ n. 1 + p + n) (sym lens.channels)) h

pub fault_in_tasks : (rule p c i : ℕ) (f : Failing) (fault : PolicyFault) → HasLengths f p c i → f.document ≡ false → first_failing 1 f.principals ≡ None → first_failing (1 + p) f.channels ≡ None
    → first_failing (1 + p + c) f.inputs ≡ None → Blames rule (first_failing (1 + p + c + i) f.tasks) fault → Blames rule (first_failing 0 (entries f)) fault
fault_in_tasks rule p c i f fault lens d np nc ni h =
    fault_at_tasks rule (1 + p) (1 + p + c) (1 + p + c + i) f fault d np (ap (λ n. 1 + n) (sym lens.principals)) nc (ap (λ n. 1 + p + n) (sym lens.channels)) ni (ap (λ n. 1 + p + c + n) (sym lens.inputs)) h

pub none_in_all : (p c i : ℕ) (f : Failing) → HasLengths f p c i → f.document ≡ false → first_failing 1 f.principals ≡ None → first_failing (1 + p) f.channels ≡ None
    → first_failing (1 + p + c) f.inputs ≡ None → first_failing (1 + p + c + i) f.tasks ≡ None → first_failing 0 (entries f) ≡ None
none_in_all p c i f lens d np nc ni nt =
    none_fails (1 + p) (1 + p + c) (1 + p + c + i) f d np (ap (λ n. 1 + n) (sym lens.principals)) nc (ap (λ n. 1 + p + n) (sym lens.channels)) ni (ap (λ n. 1 + p + c + n) (sym lens.inputs)) nt

-- where no entry fails, the rule blames none
pub not_blamed : (rule : ℕ) (f : Failing) → first_failing 0 (entries f) ≡ None → blamed rule f ≡ None
not_blamed rule f h = ap (fault_at rule) h
