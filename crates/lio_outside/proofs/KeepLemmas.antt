-- What stands under the names after a refused keep.
use Rattle.std.proofs.Common.{◌≡◌, Some, inl, inr, ap, ◌∙◌, take}
use Rattle.lio_outside.specs.FileMap.{bytes_of, with_file}
use Rattle.lio_outside.specs.Keep.{LeavesFirstPart}
use Rattle.lio_outside.proofs.FileMapLemmas.{bytes_of-with_file_same, bytes_of-with_file_other}

same_Some : {A : Type 0} (x y : A) → Some x ≡ Some y → x ≡ y
same_Some x y same = cc

pub PartlyKept-first_part : LeavesFirstPart
PartlyKept-first_part old new name bytes (inl same) =
    let files : new ≡ old = same_Some new old same in
    (inl (ap (λ m. bytes_of m name) files), λ other apart. ap (λ m. bytes_of m other) files)
PartlyKept-first_part old new name bytes (inr (n, same)) =
    let files : new ≡ with_file old name (take n bytes) = same_Some new _ same in (
      inr (n, ap (λ m. bytes_of m name) files ∙ bytes_of-with_file_same old name (take n bytes)),
      λ other apart. ap (λ m. bytes_of m other) files ∙ bytes_of-with_file_other old name (take n bytes) other apart,
    )
