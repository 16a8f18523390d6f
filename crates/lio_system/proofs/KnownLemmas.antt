-- Files that are added to those that are known.
use Rattle.std.proofs.Common.{◌≡◌, Bool, true, false, ◌||◌, ◌==◌, bytes_eq, List, [], ◌∷◌, ◌++◌, ◌∙◌, refl, arith}
use Rattle.std.proofs.lemmas.Grind.{common_steps}
use Rattle.std.proofs.lemmas.Bool.{eq-eqb}
use Rattle.std.proofs.lemmas.List.Folds.{list_any-append}
use Rattle.std.proofs.lemmas.Slice.Eq.{bytes_eq-Decides}
use Rattle.std.specs.List.{list_any}
use Rattle.lio_system.specs.KnownFiles.{is_file, is_known}
use Rattle.lio_system.specs.declared.known.KnownFile.{KnownFile}

-- a file is the one with its number under its name
is_file-itself : (file : KnownFile) → is_file file.number file.name.items file ≡ true
is_file-itself file =
    let device : (file.number.device == file.number.device) ≡ true = eq-eqb file.number.device file.number.device refl in
    let inode : (file.number.inode == file.number.inode) ≡ true = eq-eqb file.number.inode file.number.inode refl in
    let name : bytes_eq file.name.items file.name.items ≡ true = (bytes_eq-Decides file.name.items file.name.items).1 refl in
    grind (arith, common_steps)

or-true : (a b : Bool) → b ≡ true → (a || (b || false)) ≡ true
or-true true b is = refl
or-true false true is = refl
or-true false false is = is

-- a file that was added is known
pub is_known-added : (old : List KnownFile) (file : KnownFile) → is_known (old ++ file ∷ []) file.number file.name.items ≡ true
is_known-added old file =
    list_any-append (is_file file.number file.name.items) old (file ∷ [])
    ∙ or-true (list_any (is_file file.number file.name.items) old) (is_file file.number file.name.items file) (is_file-itself file)
