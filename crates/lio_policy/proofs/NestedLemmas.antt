-- Lists of which nothing is missing, and how large the arguments in a list are.
use Rattle.std.proofs.Common.{◌≡◌, ◌∙◌, ℕ, ◌+◌, ◌-◌, ◌^◌, ◌<◌, ◌≤◌, max, min, List, [], ◌∷◌, ◌++◌, length, map, take, drop, get_or, Option, Some, None, option_map, refl, sym, ap, subst, arith, append_assoc}
use Rattle.std.proofs.lemmas.List.{append-nil, map-append, take_more, at_drop_more, at_drop_all}
use Rattle.lio_policy.specs.Rules.{all_there}
use Rattle.lio_policy.specs.Lists.{in_all, IsExtent}
use Rattle.lio_policy.specs.declared.lists.ArgExtent.{ArgExtent}

-- what stands before the rest
abbrev pub before : {X : Type 0} → List X → Option (List X) → Option (List X)
before xs rest = option_map (λ more. xs ++ more) rest

before_one : {X : Type 0} (xs : List X) (x : X) (rest : Option (List X)) → before xs (option_map (λ more. x ∷ more) rest) ≡ before (xs ++ x ∷ []) rest
before_one xs x None = refl
before_one xs x (Some more) = ap Some (sym (append_assoc xs (x ∷ []) more))

none_before : {X : Type 0} (rest : Option (List X)) → rest ≡ before [] rest
none_before None = refl
none_before (Some more) = refl

pub begins : {X Y : Type 0} (f : X → Option Y) (xs : List X) → all_there (map f xs) ≡ before [] (all_there (map f (drop 0 xs)))
begins f xs = none_before (all_there (map f xs))

-- a loop that makes each thing, at one that is made
pub goes_on : {X Y : Type 0} (f : X → Option Y) (made : List Y) (xs : List X) (i : ℕ) (x : X) (y : Y) (all : Option (List Y)) → i < length xs → x ≡ get_or xs i x → Some y ≡ f x
    → all ≡ before made (all_there (map f (drop i xs))) → all ≡ before (made ++ y ∷ []) (all_there (map f (drop (i + 1) xs)))
goes_on f made xs i x y all within is there inv =
    inv ∙ at_drop_more (λ ys. before made (all_there (map f ys))) xs i x within
    ∙ ap (λ z. before made (all_there (f z ∷ map f (drop (i + 1) xs)))) (sym is)
    ∙ ap (λ o. before made (all_there (o ∷ map f (drop (i + 1) xs)))) (sym there)
    ∙ before_one made y (all_there (map f (drop (i + 1) xs)))

-- at one that isn't
pub stops : {X Y : Type 0} (f : X → Option Y) (made : List Y) (xs : List X) (i : ℕ) (x : X) (all : Option (List Y)) → i < length xs → x ≡ get_or xs i x → None ≡ f x
    → all ≡ before made (all_there (map f (drop i xs))) → None ≡ all
stops f made xs i x all within is missing inv =
    sym (
    inv ∙ at_drop_more (λ ys. before made (all_there (map f ys))) xs i x within
    ∙ ap (λ z. before made (all_there (f z ∷ map f (drop (i + 1) xs)))) (sym is)
    ∙ ap (λ o. before made (all_there (o ∷ map f (drop (i + 1) xs)))) (sym missing)
    )

-- and behind the last
pub ends : {X Y : Type 0} (f : X → Option Y) (made : List Y) (xs : List X) (i : ℕ) (all : Option (List Y)) → length xs ≤ i → all ≡ before made (all_there (map f (drop i xs))) → Some made ≡ all
ends f made xs i all past inv =
    sym (inv ∙ at_drop_all (λ ys. before made (all_there (map f ys))) xs i past ∙ ap Some (append-nil made))

-- ---- extents

pub depth_push : (es : List ArgExtent) (e : ArgExtent) → (in_all (es ++ e ∷ [])).depth ≡ max (in_all es).depth e.depth
depth_push [] e = omega arith
depth_push (x ∷ es) e = omega (arith, depth_push es e)

pub size_push : (es : List ArgExtent) (e : ArgExtent) → (in_all (es ++ e ∷ [])).size ≡ (in_all es).size + e.size
size_push [] e = omega arith
size_push (x ∷ es) e = omega (arith, size_push es e)

pub inputs_push : (es : List ArgExtent) (e : ArgExtent) → (in_all (es ++ e ∷ [])).inputs ≡ (in_all es).inputs + e.inputs
inputs_push [] e = omega arith
inputs_push (x ∷ es) e = omega (arith, inputs_push es e)

-- what is counted of some, with what is counted of one more
counted_more : (all one : ArgExtent) (es : List ArgExtent) (e : ArgExtent) (next : ArgExtent) → IsExtent (in_all es) all → IsExtent e one
    → next.depth ≡ max all.depth one.depth → next.size ≡ min (all.size + one.size) (2 ^ 64 - 1) → next.inputs ≡ min (all.inputs + one.inputs) (2 ^ 64 - 1)
    → IsExtent (in_all (es ++ e ∷ [])) next
counted_more all one es e next so_far here depth size inputs = record {
  depth = omega (arith, so_far.depth, here.depth, depth_push es e);
  size = omega (arith, so_far.size, here.size, size_push es e);
  inputs = omega (arith, so_far.inputs, here.inputs, inputs_push es e);
}

pub extent_more : {X : Type 0} (of : X → ArgExtent) (xs : List X) (i : ℕ) (x : X) → i < length xs → x ≡ get_or xs i x → (all one next : ArgExtent)
    → IsExtent (in_all (map of (take i xs))) all → IsExtent (of x) one
    → next.depth ≡ max all.depth one.depth → next.size ≡ min (all.size + one.size) (2 ^ 64 - 1) → next.inputs ≡ min (all.inputs + one.inputs) (2 ^ 64 - 1)
    → IsExtent (in_all (map of (take (i + 1) xs))) next
extent_more of xs i x within is all one next so_far here depth size inputs =
    let more : map of (take (i + 1) xs) ≡ map of (take i xs) ++ of x ∷ [] = ap (map of) (take_more xs i x within) ∙ map-append of (take i xs) (get_or xs i x ∷ []) ∙ ap (λ y. map of (take i xs) ++ of y ∷ []) (sym is) in
    subst (λ es. IsExtent (in_all es) next) (sym more) (counted_more all one (map of (take i xs)) (of x) next so_far here depth size inputs)
