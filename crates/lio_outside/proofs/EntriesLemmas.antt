-- The files that a map keeps, at a look-up and at an insertion.
use Rattle.std.proofs.Common.{◌≡◌, ℕ, List, [], ◌∷◌, true, false, cond, Some, ◌∙◌, ap, sym, refl, Vec}
use Rattle.std.specs.Option.{option_map}
use Rattle.std.proofs.lemmas.Cmp.{nat_list_cmp_total}
use Rattle.std.specs.Ordering.{nat_cmp, is_eq, match_ordering}
use Rattle.std.specs.declared.cmp.Ordering.TheVariants.{Less, Equal, Greater}
use Rattle.std.specs.Cmp.Lexicographic.{slice_cmp}
use Rattle.std.specs.Map.{lookup}
use Rattle.std.specs.BTreeMap.{BTreeMap, get_by, is_at, insert_entry}
use Rattle.std.specs.FinMap as finite
use Rattle.std.specs.FinMap.Entries.{put, find-put, by_order}
use Rattle.lio_outside.specs.FileMap.{bytes_of, with_file}
use Rattle.lio_outside.specs.Entries.{names_and_bytes, files_of}
use Rattle.lio_outside.proofs.FileMapLemmas.{same_files}

module _ {A B : Type 0} where
  find-names_and_bytes : (q : List ℕ) (es : List (Vec ℕ A × Vec ℕ B)) → finite.find (slice_cmp nat_cmp) q (names_and_bytes es) ≡ option_map (λ v. v.items) (lookup (is_at (λ (k : Vec ℕ A). slice_cmp nat_cmp q k.items)) es)
  find-names_and_bytes q [] = refl
  find-names_and_bytes q (e ∷ es) =
      elim (is_eq (slice_cmp nat_cmp q e.0.items)) as (λ b. cond b (Some e.1.items) (finite.find (slice_cmp nat_cmp) q (names_and_bytes es)) ≡ option_map (λ v. v.items) (cond b (Some e.1) (lookup (is_at (λ (k : Vec ℕ A). slice_cmp nat_cmp q k.items)) es))) [
        | true ↦ refl
        | false ↦ find-names_and_bytes q es
      ]

  pub bytes_of-files_of : (m : BTreeMap (Vec ℕ A) (Vec ℕ B)) (q : List ℕ) → bytes_of (files_of m) q ≡ option_map (λ v. v.items) (get_by (λ (k : Vec ℕ A). slice_cmp nat_cmp q k.items) m)
  bytes_of-files_of m q = finite.get-from_entries nat_list_cmp_total (names_and_bytes m.entries) q ∙ find-names_and_bytes q m.entries

  names_and_bytes-insert_entry : (es : List (Vec ℕ A × Vec ℕ B)) (k : Vec ℕ A) (v : Vec ℕ B) → names_and_bytes (insert_entry (λ x y. slice_cmp nat_cmp x.items y.items) es k v) ≡ put (slice_cmp nat_cmp) k.items v.items (names_and_bytes es)
  names_and_bytes-insert_entry [] k v = refl
  names_and_bytes-insert_entry (e ∷ es) k v =
      elim (slice_cmp nat_cmp k.items e.0.items) as (λ r. names_and_bytes (match_ordering r ((k, v) ∷ e ∷ es) ((e.0, v) ∷ es) (e ∷ insert_entry (λ x y. slice_cmp nat_cmp x.items y.items) es k v)) ≡ by_order r ((k.items, v.items) ∷ names_and_bytes (e ∷ es)) ((e.0.items, v.items) ∷ names_and_bytes es) ((e.0.items, e.1.items) ∷ put (slice_cmp nat_cmp) k.items v.items (names_and_bytes es))) [
        | Less ↦ refl
        | Equal ↦ refl
        | Greater ↦ ap (λ rest. (e.0.items, e.1.items) ∷ rest) (names_and_bytes-insert_entry es k v)
      ]

  -- an insertion into the map keeps a file
  pub files_of-insert_entry : (old new : BTreeMap (Vec ℕ A) (Vec ℕ B)) (k : Vec ℕ A) (v : Vec ℕ B) → new.entries ≡ insert_entry (λ x y. slice_cmp nat_cmp x.items y.items) old.entries k v → files_of new ≡ with_file (files_of old) k.items v.items
  files_of-insert_entry old new k v is =
      same_files _ _ (λ q.
      finite.get-from_entries nat_list_cmp_total (names_and_bytes new.entries) q
      ∙ ap (finite.find (slice_cmp nat_cmp) q) (ap names_and_bytes is ∙ names_and_bytes-insert_entry old.entries k v)
      ∙ find-put (slice_cmp nat_cmp) nat_list_cmp_total q k.items v.items (names_and_bytes old.entries)
      ∙ ap (cond (is_eq (slice_cmp nat_cmp q k.items)) (Some v.items)) (sym (finite.get-from_entries nat_list_cmp_total (names_and_bytes old.entries) q))
      ∙ sym (finite.get-insert nat_list_cmp_total (files_of old) k.items v.items q))
