-- A derived `==` compares the variants and then the fields. Where the test of each field is exact, so is it.
use Rattle.std.proofs.Common.{◌≡◌, Bool, true, false, ◌&&◌, List, [], ◌∷◌, Option, Some, None, ◌⊎◌, inl, inr, nat_eq, refl, sym, ap, subst, ◌∙◌}
use Rattle.std.specs.Cmp.{first_so, second_so, unsigned_Decides, signed_Decides}
use Rattle.std.specs.Cmp.Lexicographic.{pointwise, pointwise_decides}
use Rattle.std.specs.Option.{option_eq}
use Rattle.std.specs.Ordering.{int_eq}
use mathlib.Core.Bool.{beq, true≢false}
use mathlib.Core.Logic.{⊎_elim}
use denote.Struct.Field.{Field}
use denote.Enum.Declared.{Record, Declared, values_one}
use denote.Enum.Compared.{Each, by}
use denote.Enum.Bare.{Bare, sameb, same_true, true_same}
use Rattle.lio_values.specs.Equality.{IsEquality}

-- a test is true where its values are equal, and nowhere else
pub record IsExact {K : Type 0} (test : K → K → Bool) : Type 0 where
  pub same : (x y : K) → test x y ≡ true → x ≡ y
  pub itself : (x : K) → test x x ≡ true

pub exact_equality : {K : Type 0} {test : K → K → Bool} → IsExact test → IsEquality test
exact_equality {K} {test} e x y = (e.same x y, λ p. subst (λ z. test x z ≡ true) p (e.itself x))

-- ---- the fields

-- a variant without fields
pub exact_point : IsExact {K = Unit {0}} (λ x y. true)
exact_point = record { same = λ x y h. refl; itself = λ x. refl }

module _ {A : Type 0} {E : A → A → Bool} (e : IsExact E) where
  -- the last field of a variant
  pub exact_last : IsExact {K = A × Unit {0}} (λ x y. E x.0 y.0)
  exact_last = record { same = λ x y h i. (e.same x.0 y.0 h i, tt); itself = λ x. e.itself x.0 }

  -- a field, and those after it
  pub exact_more : {B : Type 0} {F : B → B → Bool} → IsExact F → IsExact {K = A × B} (λ x y. E x.0 y.0 && F x.1 y.1)
  exact_more {B} {F} f = record {
    same = λ x y h i. (e.same x.0 y.0 (first_so (E x.0 y.0) (F x.1 y.1) h) i, f.same x.1 y.1 (second_so (E x.0 y.0) (F x.1 y.1) h) i);
    itself = λ x i. e.itself x.0 i && f.itself x.1 i;
  }

  -- a struct, by its fields
  pub exact_fields : {K : Type 0} (fields : K → A) (whole : A → K) → ((x : K) → whole (fields x) ≡ x) → IsExact (λ (x y : K). E (fields x) (fields y))
  exact_fields fields whole back = record {
    same = λ x y h. sym (back x) ∙ ap whole (e.same (fields x) (fields y) h) ∙ back y;
    itself = λ x. e.itself (fields x);
  }

  pub exact_lists : IsExact (pointwise E)
  exact_lists =
      let both = pointwise_decides {E = E} (λ x y. (e.same x y, λ p. subst (λ z. E x z ≡ true) p (e.itself x))) in
      record { same = λ x y. (both x y).0; itself = λ x. (both x x).1 refl }

  pub exact_options : IsExact (option_eq E)
  exact_options = record { same = same; itself = itself }
    where
      same : (x y : Option A) → option_eq E x y ≡ true → x ≡ y
      same None None h = refl
      same None (Some y) h = absurd (true≢false (sym h))
      same (Some x) None h = absurd (true≢false (sym h))
      same (Some x) (Some y) h = ap Some (e.same x y h)

      itself : (x : Option A) → option_eq E x x ≡ true
      itself None = refl
      itself (Some x) = e.itself x

pub exact_numbers : IsExact nat_eq
exact_numbers = record { same = λ x y. (unsigned_Decides x y).0; itself = λ x. (unsigned_Decides x x).1 refl }

pub exact_wholes : IsExact int_eq
exact_wholes = record { same = λ x y. (signed_Decides x y).0; itself = λ x. (signed_Decides x x).1 refl }

pub exact_flags : IsExact beq
exact_flags = record { same = same; itself = itself }
  where
    same : (x y : Bool) → beq x y ≡ true → x ≡ y
    same true true h = refl
    same true false h = absurd (true≢false (sym h))
    same false true h = absurd (true≢false (sym h))
    same false false h = refl

    itself : (x : Bool) → beq x x ≡ true
    itself true = refl
    itself false = refl

-- an enum without fields
pub exact_bare : (D : Declared) → Bare D.parts → IsExact (sameb D)
exact_bare D bare = record { same = λ x y. same_true D bare x y; itself = λ x. true_same D x x refl }

-- ---- the variants

abbrev sides : {A B : Type 0} → (A → A → Bool) → (B → B → Bool) → A ⊎ B → A ⊎ B → Bool
sides E F c d = ⊎_elim (λ x. ⊎_elim (λ y. E x y) (λ _. false) d) (λ x. ⊎_elim (λ _. false) (λ y. F x y) d) c

exact_sides : {A B : Type 0} {E : A → A → Bool} {F : B → B → Bool} → IsExact E → IsExact F → IsExact (sides E F)
exact_sides {A} {B} {E} {F} e f = record { same = same; itself = itself }
  where
    same : (c d : A ⊎ B) → sides E F c d ≡ true → c ≡ d
    same (inl x) (inl y) h = ap inl (e.same x y h)
    same (inl x) (inr y) h = absurd (true≢false (sym h))
    same (inr x) (inl y) h = absurd (true≢false (sym h))
    same (inr x) (inr y) h = ap inr (f.same x y h)

    itself : (c : A ⊎ B) → sides E F c c ≡ true
    itself (inl x) = e.itself x
    itself (inr x) = f.itself x

-- the test of each variant's fields is exact
abbrev pub AreExact : (Fss : List (List Field)) → Each Bool Fss → Type 0
AreExact [] tests = Unit {0}
AreExact (Fs ∷ Fss) tests = IsExact tests.0 × AreExact Fss tests.1

exact_choices : (Fss : List (List Field)) (tests : Each Bool Fss) → AreExact Fss tests → IsExact (by false false Fss tests)
exact_choices [] tests all = record { same = λ x y h. absurd x; itself = λ x. absurd x }
exact_choices (Fs ∷ Fss) tests all = exact_sides all.0 (exact_choices Fss tests.1 all.1)

-- an enum, by its variants
pub exact_variants : (N : Record) (tests : Each Bool N.parts) → AreExact N.parts tests
    → IsExact (λ x y. by false false N.parts tests (N.as_values x) (N.as_values y))
exact_variants N tests all =
    let e = exact_choices N.parts tests all in
    record { same = λ x y h. values_one N x y (e.same (N.as_values x) (N.as_values y) h); itself = λ x. e.itself (N.as_values x) }
