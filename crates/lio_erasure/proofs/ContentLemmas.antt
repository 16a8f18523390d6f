-- The front of a list of contents.
use Rattle.std.proofs.Common.{◌≡◌, ◌∙◌, refl, sym, ap, List, [], ◌∷◌, Option, Some, None}
use Rattle.std.specs.Prelude.{MatchOption, slice_get}
use Rattle.lio_values.specs.declared.value.Content.{Content}

pub front-taken : (old new : List Content) (taken : Option Content) (content : Content) → slice_get old 0 ≡ Some content → MatchOption taken ((old ≡ []) × (new ≡ [])) (λ (x : Content). old ≡ x ∷ new) → old ≡ content ∷ new
front-taken old new None content at (is, left) = let none : None ≡ Some content = sym (ap (λ (xs : List Content). slice_get xs 0) is) ∙ at in absurd (cc)
front-taken old new (Some x) content at is =
    let found : Some x ≡ Some content = sym (ap (λ (xs : List Content). slice_get xs 0) is) ∙ at in
    let same : x ≡ content = cc in
    is ∙ ap (λ (y : Content). y ∷ new) same

pub none-left : (contents : List Content) → slice_get contents 0 ≡ None → contents ≡ []
none-left [] none = refl
none-left (content ∷ contents) none = absurd (cc)
