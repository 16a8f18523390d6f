-- On what is made of lists.
use Rattle.std.proofs.Common.{◌≡◌, List, [], ◌∷◌, map, Option, is_none, refl, ap, ◌∙◌}
use Rattle.std.specs.List.{filter_map, cons_option}
use Rattle.lio_policy_draft.specs.Converted.{converted, unmade, unless_at, first_failing}

pub unmade_of_map : {X Y Z : Type 0} (make : Y → Option Z) (of : X → Y) (xs : List X) → unmade make (map of xs) ≡ unmade (λ x. make (of x)) xs
unmade_of_map make of [] = refl
unmade_of_map make of (x ∷ xs) = ap (λ fs. is_none (make (of x)) ∷ fs) (unmade_of_map make of xs)

pub filter_map_of_map : {X Y Z : Type 0} (make : Y → Option Z) (of : X → Y) (xs : List X) → filter_map make (map of xs) ≡ filter_map (λ x. make (of x)) xs
filter_map_of_map make of [] = refl
filter_map_of_map make of (x ∷ xs) = ap (cons_option (make (of x))) (filter_map_of_map make of xs)

-- what is made of things that stand for others is what is made of the others
pub converted_of_map : {X Y Z : Type 0} (make : Y → Option Z) (of : X → Y) (xs : List X) → converted make (map of xs) ≡ converted (λ x. make (of x)) xs
converted_of_map make of xs =
    ap (λ fs. unless_at (first_failing 0 fs) (filter_map make (map of xs))) (unmade_of_map make of xs)
    ∙ ap (unless_at (first_failing 0 (unmade (λ x. make (of x)) xs))) (filter_map_of_map make of xs)
