-- Why bytes are no words and no files, step by step.
use Rattle.std.proofs.Common.{◌≡◌, ◌∙◌, ℕ, ◌+◌, ◌<◌, ◌≤◌, Bool, true, false, List, [], ◌∷◌, length, drop, drop-cons, get_or, refl, ap, sym, subst, arith, suc, if◌then◌else◌, Option, None, Some, Ok, Err, Bor}
use Rattle.std.proofs.Math.ListN.{drop_of_length-le}
use Rattle.std.specs.Option.{is_some, option_copied}
use Rattle.lio_outside.specs.FileMap.{FileMap, bytes_of, with_file}
use Rattle.lio_c.specs.Bundle.{FilesRefuse, IsRefusal, WordsRefuse, filed}
use Rattle.lio_c.specs.Netstrings.{netstrings}
use Rattle.lio_c.specs.declared.refusal.Refusal.{Refusal}
use Rattle.lio_c.specs.declared.refusal.Refusal.TheVariants.{FileAlone, FileTwice, FilesBroken, NoMemory, WordNotText, WordsBroken}

-- words that aren't text, as bytes
pub words-refuse : (bytes files : List ℕ) (items : List (List ℕ)) (refusal : Refusal) → bytes ≡ netstrings items → WordsRefuse items refusal → IsRefusal bytes files refusal
words-refuse bytes files items (WordsBroken place) are refuse = absurd refuse
words-refuse bytes files items (WordNotText number) are refuse = (items, are, refuse)
words-refuse bytes files items (FilesBroken place) are refuse = absurd refuse
words-refuse bytes files items (FileAlone number) are refuse = absurd refuse
words-refuse bytes files items (FileTwice number) are refuse = absurd refuse
words-refuse bytes files items NoMemory are refuse = tt

-- names and bytes in turn that aren't files, as bytes
pub files-refuse : (words bytes : List ℕ) (items : List (List ℕ)) (refusal : Refusal) → bytes ≡ netstrings items → FilesRefuse items refusal → IsRefusal words bytes refusal
files-refuse words bytes items (WordsBroken place) are refuse = absurd refuse
files-refuse words bytes items (WordNotText number) are refuse = absurd refuse
files-refuse words bytes items (FilesBroken place) are refuse = absurd refuse
files-refuse words bytes items (FileAlone number) are refuse = (items, are, refuse)
files-refuse words bytes items (FileTwice number) are refuse = (items, are, refuse)
files-refuse words bytes items NoMemory are refuse = tt

-- whether a value is borrowed doesn't tell whether it is there
pub copied-some : {T : Type 0} (o : Option (Bor T)) → is_some (option_copied o) ≡ is_some o
copied-some None = refl
copied-some (Some b) = refl

-- the last name has no bytes behind it
pub alone : (items : List (List ℕ)) (number : ℕ) (files : FileMap) → number < length items → length items ≤ number + 1 → filed number files (drop number items) ≡ Err (FileAlone number)
alone items number files below last =
    let past : length items ≤ suc number = omega arith in
    let none : drop (suc number) items ≡ [] = drop_of_length-le items past in
    ap (filed number files) (drop-cons items number [] below ∙ ap (λ more. get_or items number [] ∷ more) none)

-- the name and the bytes that come next
abbrev next-two : List (List ℕ) → ℕ → List (List ℕ)
next-two items number = get_or items number [] ∷ get_or items (number + 1) [] ∷ drop (number + 2) items

two : (items : List (List ℕ)) (number : ℕ) → number + 1 < length items → drop number items ≡ next-two items number
two items number below =
    let first : number < length items = omega arith in
    let second : suc number < length items = omega arith in
    let one : suc number ≡ number + 1 = omega arith in
    let three : suc (suc number) ≡ number + 2 = omega arith in
    drop-cons items number [] first
    ∙ ap (λ more. get_or items number [] ∷ more) (drop-cons items (suc number) [] second ∙ ap (λ n. get_or items n [] ∷ drop (suc (suc number)) items) one ∙ ap (λ n. get_or items (number + 1) [] ∷ drop n items) three)

by-test : (items : List (List ℕ)) (number : ℕ) (files : FileMap) (b : Bool) → number + 1 < length items → is_some (bytes_of files (get_or items number [])) ≡ b
    → filed number files (drop number items) ≡ (if b then Err (FileTwice number) else filed (number + 2) (with_file files (get_or items number []) (get_or items (number + 1) [])) (drop (number + 2) items))
by-test items number files b below is =
    ap (filed number files) (two items number below)
    ∙ ap (λ (t : Bool). if t then Err (FileTwice number) else filed (number + 2) (with_file files (get_or items number []) (get_or items (number + 1) [])) (drop (number + 2) items)) is

-- the next name stands before it too
pub twice : (items : List (List ℕ)) (number : ℕ) (files : FileMap) (name : List ℕ) → number + 1 < length items → name ≡ get_or items number [] → is_some (bytes_of files name) ≡ true → filed number files (drop number items) ≡ Err (FileTwice number)
twice items number files name below named is = by-test items number files true below (subst (λ (n : List ℕ). is_some (bytes_of files n) ≡ true) named is)

-- the next file is put among the others
pub one-more : (items : List (List ℕ)) (number : ℕ) (files now : FileMap) (name bytes : List ℕ) → number + 1 < length items → name ≡ get_or items number [] → bytes ≡ get_or items (number + 1) [] → is_some (bytes_of files name) ≡ false
    → now ≡ with_file files name bytes → filed number files (drop number items) ≡ filed (number + 2) now (drop (number + 2) items)
one-more items number files now name bytes below named are is put =
    by-test items number files false below (subst (λ (n : List ℕ). is_some (bytes_of files n) ≡ false) named is)
    ∙ ap (λ (f : FileMap). filed (number + 2) f (drop (number + 2) items)) (sym (put ∙ ap (λ (n : List ℕ). with_file files n bytes) named ∙ ap (λ (b : List ℕ). with_file files (get_or items number []) b) are))

-- nothing is left
pub all-filed : (items : List (List ℕ)) (number : ℕ) (files : FileMap) → length items ≤ number → filed number files (drop number items) ≡ Ok files
all-filed items number files end = ap (filed number files) (drop_of_length-le items end)
