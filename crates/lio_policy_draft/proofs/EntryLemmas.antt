-- On the entries of a text by their numbers.
use Rattle.std.proofs.Common.{◌≡◌, ◌∙◌, ◌⊎◌, inl, inr, ℕ, zero, suc, ◌+◌, ◌-◌, ◌<◌, ◌≤◌, List, [], ◌∷◌, ◌++◌, length, map, codes, Option, Some, None, Result, IfOk, slice_get, refl, sym, ap, subst, arith}
use Rattle.std.proofs.lemmas.List.{length-map}
use Rattle.lio_clauses.specs.declared.faults.NoMemory.{NoMemory}
use Rattle.serde_json.specs.View.{view}
use Rattle.serde_json.specs.declared.value.Value.{Value}
use Rattle.lio_policy_draft.specs.Failing.{entries}
use Rattle.serde_json.specs.Data.{Data}
use Rattle.lio_policy_draft.specs.Entries.{list_at, placed, name_in, whole_document, things, entry_at}
use Rattle.lio_policy_draft.specs.Drafted.{document_of}
use Rattle.lio_policy_draft.specs.declared.fault.PolicyFault.{PolicyFault}
use Rattle.lio_policy_draft.specs.declared.fault.PolicyFault.TheVariants.{Bad, NoMemory as NoRoom}
use Rattle.lio_policy_draft.specs.declared.numbering.EntryAt.{EntryAt}
use Rattle.lio_policy_draft.specs.declared.numbering.EntryKind.{EntryKind}
use Rattle.lio_policy_draft.specs.declared.numbering.EntryKind.TheVariants.{Principal, Channel, Input, Task}

pub length_placed : (kind : EntryKind) (place : ℕ) (ds : List Data) → length (placed kind place ds) ≡ length ds
length_placed kind place [] = refl
length_placed kind place (d ∷ ds) = ap (λ n. suc n) (length_placed kind (place + 1) ds)

-- the entry of an item
pub placed_at : (kind : EntryKind) (place : ℕ) (ds : List Data) (i : ℕ) (d : Data) → slice_get ds i ≡ Some d → Some (record { kind = kind; place = place + i; name = name_in kind d }) ≡ slice_get (placed kind place ds) i
placed_at kind place [] i d h = absurd (cc)
placed_at kind place (e ∷ ds) zero d h =
    let is : d ≡ e = cc in
    let here : place + 0 ≡ place = omega arith in
    let entry : ℕ → Data → EntryAt = λ n x. record { kind = kind; place = n; name = name_in kind x } in
    ap (λ n. Some (entry n d)) here ∙ ap (λ x. Some (entry place x)) is
placed_at kind place (e ∷ ds) (suc i) d h =
    let there : place + suc i ≡ place + 1 + i = omega arith in
    let entry : ℕ → EntryAt = λ n. record { kind = kind; place = n; name = name_in kind d } in
    ap (λ n. Some (entry n)) there ∙ placed_at kind (place + 1) ds i d h

-- a place in two lists is one in the first, or one in the second
pub slice_get_first : {X : Type 0} (xs ys : List X) (i : ℕ) → i < length xs → slice_get (xs ++ ys) i ≡ slice_get xs i
slice_get_first [] ys i h = absurd (omega arith)
slice_get_first (x ∷ xs) ys zero h = refl
slice_get_first (x ∷ xs) ys (suc i) h = slice_get_first xs ys i (omega arith)

pub slice_get_second : {X : Type 0} (xs ys : List X) (i : ℕ) → length xs ≤ i → slice_get (xs ++ ys) i ≡ slice_get ys (i - length xs)
slice_get_second [] ys i h = let e : i ≡ i - 0 = omega arith in ap (slice_get ys) e
slice_get_second (x ∷ xs) ys zero h = absurd (omega arith)
slice_get_second (x ∷ xs) ys (suc i) h =
    let e : i - length xs ≡ suc i - length (x ∷ xs) = omega arith in
    slice_get_second xs ys i (omega arith) ∙ ap (slice_get ys) e

-- ---- the entries of a document, by how many stand before an item's list

module _ (d : Data) where
  abbrev pub principals : List Data
  principals = list_at (codes "principals") d

  abbrev pub channels : List Data
  channels = list_at (codes "channels") d

  abbrev pub inputs : List Data
  inputs = list_at (codes "inputs") d

  abbrev pub tasks : List Data
  tasks = list_at (codes "tasks") d

  behind_document : (n : ℕ) → slice_get (placed Principal 1 principals ++ (placed Channel 1 channels ++ (placed Input 1 inputs ++ placed Task 1 tasks))) n ≡ slice_get (entries (things (Some d))) (n + 1)
  unfolding things
  behind_document n =
      let e : suc n ≡ n + 1 = omega arith in
      ap (slice_get (entries (things (Some d)))) e

  behind_principals : (n i : ℕ) → i + length principals ≡ n → slice_get (placed Channel 1 channels ++ (placed Input 1 inputs ++ placed Task 1 tasks)) i ≡ slice_get (entries (things (Some d))) (n + 1)
  behind_principals n i at =
      let len = length_placed Principal 1 principals in
      let e : i ≡ n - length (placed Principal 1 principals) = omega (arith, len) in
      ap (slice_get (placed Channel 1 channels ++ (placed Input 1 inputs ++ placed Task 1 tasks))) e
      ∙ sym (slice_get_second (placed Principal 1 principals) _ n (omega (arith, len))) ∙ behind_document n

  behind_channels : (n i : ℕ) → i + length channels + length principals ≡ n → slice_get (placed Input 1 inputs ++ placed Task 1 tasks) i ≡ slice_get (entries (things (Some d))) (n + 1)
  behind_channels n i at =
      let len = length_placed Channel 1 channels in
      let e : i ≡ (i + length channels) - length (placed Channel 1 channels) = omega (arith, len) in
      ap (slice_get (placed Input 1 inputs ++ placed Task 1 tasks)) e
      ∙ sym (slice_get_second (placed Channel 1 channels) _ (i + length channels) (omega (arith, len))) ∙ behind_principals n (i + length channels) at

  behind_inputs : (n i : ℕ) → i + length inputs + length channels + length principals ≡ n → slice_get (placed Task 1 tasks) i ≡ slice_get (entries (things (Some d))) (n + 1)
  behind_inputs n i at =
      let len = length_placed Input 1 inputs in
      let e : i ≡ (i + length inputs) - length (placed Input 1 inputs) = omega (arith, len) in
      ap (slice_get (placed Task 1 tasks)) e
      ∙ sym (slice_get_second (placed Input 1 inputs) _ (i + length inputs) (omega (arith, len))) ∙ behind_channels n (i + length inputs) at

  pub principal_at : (n : ℕ) → n < length principals → slice_get (placed Principal 1 principals) n ≡ slice_get (entries (things (Some d))) (n + 1)
  principal_at n h = sym (slice_get_first (placed Principal 1 principals) _ n (omega (arith, length_placed Principal 1 principals))) ∙ behind_document n

  pub channel_at : (n i : ℕ) → i + length principals ≡ n → i < length channels → slice_get (placed Channel 1 channels) i ≡ slice_get (entries (things (Some d))) (n + 1)
  channel_at n i at h = sym (slice_get_first (placed Channel 1 channels) _ i (omega (arith, length_placed Channel 1 channels))) ∙ behind_principals n i at

  pub input_at : (n i : ℕ) → i + length channels + length principals ≡ n → i < length inputs → slice_get (placed Input 1 inputs) i ≡ slice_get (entries (things (Some d))) (n + 1)
  input_at n i at h = sym (slice_get_first (placed Input 1 inputs) _ i (omega (arith, length_placed Input 1 inputs))) ∙ behind_channels n i at

  pub task_at : (n i : ℕ) → i + length inputs + length channels + length principals ≡ n → slice_get (placed Task 1 tasks) i ≡ slice_get (entries (things (Some d))) (n + 1)
  task_at = behind_inputs

-- the answer for one list is that for all
pub answers : (r : Result (Option EntryAt) NoMemory) (kind : EntryKind) (vs : List Value) (ds : List Data) (i : ℕ) (all : Option EntryAt) → map view vs ≡ ds → slice_get (placed kind 1 ds) i ≡ all
    → IfOk r (λ found. found ≡ slice_get (placed kind 1 (map view vs)) i) → IfOk r (λ found. found ≡ all)
answers r kind vs ds i all is same h = subst (λ o. IfOk r (λ found. found ≡ o)) (ap (λ es. slice_get (placed kind 1 es) i) is ∙ same) h

pub lengths : (vs : List Value) (ds : List Data) → map view vs ≡ ds → length vs ≡ length ds
lengths vs ds is = sym (length-map vs view) ∙ ap length is

-- ---- the document, and a text that is none

document_first : (o : Option Data) → Some whole_document ≡ slice_get (entries (things o)) 0
unfolding things
document_first None = refl
document_first (Some d) = refl

pub document_at : (bytes : List ℕ) (n : ℕ) → n ≡ 0 → Some whole_document ≡ entry_at bytes n
document_at bytes n e = document_first (document_of bytes) ∙ ap (entry_at bytes) (sym e)

nothing_more : (n : ℕ) → 1 ≤ n → None ≡ slice_get (entries (things None)) n
unfolding things
nothing_more zero h = absurd (omega arith)
nothing_more (suc n) h = refl

pub no_entry : (bytes : List ℕ) (n rule entry : ℕ) (fault : PolicyFault) → 1 ≤ n → fault ≡ Bad rule entry → (fault ≡ NoRoom) ⊎ ((fault ≡ Bad 1 0) × (document_of bytes ≡ None)) → None ≡ entry_at bytes n
no_entry bytes n rule entry fault h is (inl e) = absurd (cc)
no_entry bytes n rule entry fault h is (inr e) = nothing_more n h ∙ ap (λ o. slice_get (entries (things o)) n) (sym e.1)

pub entry_of : (r : Result (Option EntryAt) NoMemory) (bytes : List ℕ) (d : Data) (n : ℕ) → 1 ≤ n → document_of bytes ≡ Some d → IfOk r (λ found. found ≡ slice_get (entries (things (Some d))) (n - 1 + 1)) → IfOk r (λ found. found ≡ entry_at bytes n)
entry_of r bytes d n h is found =
    let e : n - 1 + 1 ≡ n = omega arith in
    subst (λ o. IfOk r (λ found. found ≡ o)) (ap (slice_get (entries (things (Some d)))) e ∙ ap (λ o. slice_get (entries (things o)) n) (sym is)) found
