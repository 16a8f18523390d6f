-- What a store tells of files that are kept one after another.
use Rattle.std.proofs.Common.{◌≡◌, ◌≢◌, ◌∙◌, sym, ap, refl, subst, ℕ, arith, Bool, true, false, ◌||◌, if◌then◌else◌, List, [], ◌∷◌, ◌++◌, map, Option, Some, None, inl, inr, append_assoc, bytes_eq}
use Rattle.std.specs.Prelude.{◌⊎◌}
use Rattle.std.proofs.lemmas.Slice.Eq.{bytes_eq-Decides}
use Rattle.lio_outside.specs.FileMap.{FileMap, bytes_of, with_file}
use Rattle.lio_outside.specs.Keep.{PartlyKept}
use Rattle.lio_outside.specs.Outputs.{Output, kept, kept_one, KeepsFirst, StopsAt}
use Rattle.lio_outside.specs.Taken.{first_taken, is_among}
use Rattle.lio_outside.proofs.FileMapLemmas.{bytes_of-with_file_same, bytes_of-with_file_other}

pub kept-append : (told : Option FileMap) (xs ys : List Output) → kept told (xs ++ ys) ≡ kept (kept told xs) ys
kept-append told [] ys = refl
kept-append told (x ∷ xs) ys = kept-append (kept_one told x) xs ys

-- files behind others that are whole
pub stops-behind : (told middle now : Option FileMap) (xs ys : List Output) (name : List ℕ) → middle ≡ kept told xs → StopsAt middle now ys name → StopsAt told now (xs ++ ys) name
stops-behind told middle now xs ys name is stops = record {
  before = xs ++ stops.before;
  output = stops.output;
  after = stops.after;
  files_are = ap (λ zs. xs ++ zs) stops.files_are ∙ sym (append_assoc xs stops.before (stops.output ∷ stops.after));
  name_is = stops.name_is;
  partly = subst (λ (t : Option FileMap). PartlyKept t now stops.output.name stops.output.bytes) (ap (λ (t : Option FileMap). kept t stops.before) is ∙ sym (kept-append told xs stops.before)) stops.partly;
}

pub keeps-behind : (told middle now : Option FileMap) (xs ys : List Output) → middle ≡ kept told xs → KeepsFirst middle now ys → KeepsFirst told now (xs ++ ys)
keeps-behind told middle now xs ys is keeps = record {
  before = xs ++ keeps.before;
  after = keeps.after;
  files_are = ap (λ zs. xs ++ zs) keeps.files_are ∙ sym (append_assoc xs keeps.before keeps.after);
  first = keeps.first ∙ ap (λ (t : Option FileMap). kept t keeps.before) is ∙ sym (kept-append told xs keeps.before);
}

-- files before others that aren't reached
pub stops-before : (told now : Option FileMap) (xs ys : List Output) (name : List ℕ) → StopsAt told now xs name → StopsAt told now (xs ++ ys) name
stops-before told now xs ys name stops = record {
  before = stops.before;
  output = stops.output;
  after = stops.after ++ ys;
  files_are = ap (λ zs. zs ++ ys) stops.files_are ∙ append_assoc stops.before (stops.output ∷ stops.after) ys;
  name_is = stops.name_is;
  partly = stops.partly;
}

pub keeps-before : (told now : Option FileMap) (xs ys : List Output) → KeepsFirst told now xs → KeepsFirst told now (xs ++ ys)
keeps-before told now xs ys keeps = record {
  before = keeps.before;
  after = keeps.after ++ ys;
  files_are = ap (λ zs. zs ++ ys) keeps.files_are ∙ append_assoc keeps.before keeps.after ys;
  first = keeps.first;
}

-- all files are whole, or none is
pub keeps-all : (told now : Option FileMap) (xs : List Output) → now ≡ kept told xs → KeepsFirst told now xs
keeps-all told now xs is = record { before = xs; after = []; files_are = nothing-behind xs; first = is }
  where
    nothing-behind : (zs : List Output) → zs ≡ zs ++ []
    nothing-behind [] = refl
    nothing-behind (z ∷ zs) = ap (λ rest. z ∷ rest) (nothing-behind zs)

pub keeps-none : (told now : Option FileMap) (xs : List Output) → now ≡ told → KeepsFirst told now xs
keeps-none told now xs is = record { before = []; after = xs; files_are = refl; first = is }

-- none of these files has the name
abbrev pub AreOthers : List ℕ → List Output → Type 0
AreOthers name [] = Unit {0}
AreOthers name (output ∷ outputs) = (output.name ≢ name) × AreOthers name outputs

-- no two of these files have the same name
abbrev pub AreApart : List Output → Type 0
AreApart [] = Unit {0}
AreApart (output ∷ outputs) = AreOthers output.name outputs × AreApart outputs

-- a file is one of these
abbrev pub IsOneOf : Output → List Output → Type 0
IsOneOf file [] = ⊥
IsOneOf file (output ∷ outputs) = (output ≡ file) ⊎ IsOneOf file outputs

pub one-before : (file : Output) (xs ys : List Output) → IsOneOf file xs → IsOneOf file (xs ++ ys)
one-before file [] ys is = absurd is
one-before file (x ∷ xs) ys (inl same) = inl same
one-before file (x ∷ xs) ys (inr is) = inr (one-before file xs ys is)

pub one-behind : (file : Output) (xs ys : List Output) → IsOneOf file ys → IsOneOf file (xs ++ ys)
one-behind file [] ys is = is
one-behind file (x ∷ xs) ys is = inr (one-behind file xs ys is)

pub others-append : (name : List ℕ) (xs ys : List Output) → AreOthers name xs → AreOthers name ys → AreOthers name (xs ++ ys)
others-append name [] ys first second = second
others-append name (x ∷ xs) ys first second = (first.0, others-append name xs ys first.1 second)

-- a name that none of the files has stays as it is
pub others-stay : (outputs : List Output) (before now : FileMap) (name : List ℕ) → AreOthers name outputs → kept (Some before) outputs ≡ Some now → bytes_of now name ≡ bytes_of before name
others-stay [] before now name others is = let same : before ≡ now = cc in ap (λ (files : FileMap). bytes_of files name) (sym same)
others-stay (o ∷ outputs) before now name others is =
    others-stay outputs (with_file before o.name o.bytes) now name others.1 is ∙ bytes_of-with_file_other before o.name o.bytes name (λ same. others.0 (sym same))

-- each file holds its bytes, where no two have the same name
pub each-holds : (outputs : List Output) (before now : FileMap) (file : Output) → AreApart outputs → kept (Some before) outputs ≡ Some now → IsOneOf file outputs → bytes_of now file.name ≡ Some file.bytes
each-holds [] before now file apart is one = absurd one
each-holds (o ∷ outputs) before now file apart is (inl same) =
    subst (λ (f : Output). bytes_of now f.name ≡ Some f.bytes) same
    (others-stay outputs (with_file before o.name o.bytes) now o.name apart.0 is ∙ bytes_of-with_file_same before o.name o.bytes)
each-holds (o ∷ outputs) before now file apart is (inr one) = each-holds outputs (with_file before o.name o.bytes) now file apart.1 is one

-- a name is among names
abbrev IsIn : List ℕ → List (List ℕ) → Type 0
IsIn name [] = ⊥
IsIn name (other ∷ others) = (name ≡ other) ⊎ IsIn name others

same-bytes : (xs ys : List ℕ) → xs ≡ ys → bytes_eq xs ys ≡ true
same-bytes xs ys same = grind (arith, bytes_eq-Decides)

in-among : (name : List ℕ) (names : List (List ℕ)) → IsIn name names → is_among names name ≡ true
in-among name [] is = absurd is
in-among name (other ∷ others) (inl same) = first (bytes_eq name other) (is_among others name) (same-bytes name other same)
  where
    first : (a b : Bool) → a ≡ true → (a || b) ≡ true
    first a b is = rw is refl
in-among name (other ∷ others) (inr is) = second (bytes_eq name other) (is_among others name) (in-among name others is)
  where
    second : (a b : Bool) → b ≡ true → (a || b) ≡ true
    second true b is = refl
    second false b is = is

in-last : (name : List ℕ) (names : List (List ℕ)) → IsIn name (names ++ name ∷ [])
in-last name [] = inl refl
in-last name (other ∷ others) = inr (in-last name others)

in-more : (name last : List ℕ) (names : List (List ℕ)) → IsIn name names → IsIn name (names ++ last ∷ [])
in-more name last [] is = absurd is
in-more name last (other ∷ others) (inl same) = inl same
in-more name last (other ∷ others) (inr is) = inr (in-more name last others is)

-- a search that finds nothing passes each name
passes : (a b : Bool) (name : List ℕ) (rest : Option (List ℕ)) → (if a || b then Some name else rest) ≡ None → (b ≡ false) × (rest ≡ None)
passes true b name rest is = absurd (cc)
passes false true name rest is = absurd (cc)
passes false false name rest is = (refl, is)

others-of : (read : List ℕ → Bool) (before : List (List ℕ)) (outputs : List Output) (name : List ℕ) → IsIn name before → first_taken read before (map (λ (o : Output). o.name) outputs) ≡ None → AreOthers name outputs
others-of read before [] name is none = tt
others-of read before (o ∷ outputs) name is none =
    let step = passes (read o.name) (is_among before o.name) o.name (first_taken read (before ++ o.name ∷ []) (map (λ (x : Output). x.name) outputs)) none in (
      λ same. let taken : is_among before o.name ≡ true = subst (λ (n : List ℕ). is_among before n ≡ true) (sym same) (in-among name before is) in let free = step.0 in absurd (cc),
      others-of read (before ++ o.name ∷ []) outputs name (in-more name o.name before is) step.1,
    )

-- files none of which is taken have different names
pub apart-free : (read : List ℕ → Bool) (before : List (List ℕ)) (outputs : List Output) → first_taken read before (map (λ (o : Output). o.name) outputs) ≡ None → AreApart outputs
apart-free read before [] none = tt
apart-free read before (o ∷ outputs) none =
    let step = passes (read o.name) (is_among before o.name) o.name (first_taken read (before ++ o.name ∷ []) (map (λ (x : Output). x.name) outputs)) none in
    (others-of read (before ++ o.name ∷ []) outputs o.name (in-last o.name before) step.1, apart-free read (before ++ o.name ∷ []) outputs step.1)
