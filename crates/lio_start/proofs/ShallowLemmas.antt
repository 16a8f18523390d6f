-- An argument of a policy's tasks is no deeper and no larger than is counted of it: an input is sealed and a value of the policy is no list, so both have depth 0.
use Rattle.std.proofs.Common.{◌≡◌, ◌∙◌, ℕ, zero, suc, ◌+◌, ◌<◌, ◌≤◌, List, [], ◌∷◌, ◌++◌, length, take, get_or, All, arith, map, ap, sym, subst}
use Rattle.std.specs.Prelude.{slice_index_or}
use Rattle.std.proofs.lemmas.List.Elements.{All-nil, All-cons, All-head}
use Rattle.std.proofs.lemmas.List.{map-append, take_more}
use Rattle.lio_values.specs.Forest.{Forest, deepest}
use Rattle.lio_values.specs.Measures.{tree_size, items_size, value_depth, value_size}
use Rattle.lio_values.specs.Views.{tree_of, forest_of, values_of, values_of-forest_of}
use Rattle.lio_values.specs.declared.value.Plain.{Plain}
use Rattle.lio_values.specs.declared.value.Plain.TheVariants.{Unit as unit, Flag, Whole, Bytes, Lab, Power, RefOf, VarOf, ResultOf, ChanOf, Items as listed}
use Rattle.lio_values.specs.declared.value.Value.{Value}
use Rattle.lio_values.specs.declared.value.Value.TheVariants.{Bare}
use Rattle.lio_policy.specs.Lists.{singles, input_size, extent, in_all}
use Rattle.lio_policy.specs.Policy.{PolicyParts, IsFixed, IsSingle, IsArgument, IsPolicy}
use Rattle.lio_policy.specs.declared.policy.FileEntry.{FileEntry}
use Rattle.lio_policy.specs.declared.policy.Arg.{Arg, map-Arg, roll-Arg}
use Rattle.lio_policy.specs.declared.policy.Arg.TheVariants as arg
use Rattle.lio_policy.specs.declared.policy.Arg.TheOpen.{Arg-F}
use Rattle.lio_policy.specs.declared.policy.Arg.TheFolds.{ind-Arg}
use Rattle.lio_policy.proofs.ArgumentLemmas.{singles-input, singles-fixed, singles-items, extent-input, extent-fixed, extent-items}
use Rattle.lio_policy.proofs.SingleLemmas.{all_singles, all_left, all_right}
use Rattle.lio_policy.proofs.PolicyLemmas.{limits_are_small}
use Rattle.lio_start.specs.Start.{sealed_inputs, inputs_of, argument_of}
use Rattle.lio_start.specs.Making.{AreShallow}
use Rattle.lio_start.proofs.ArgumentLemmas.{argument-input, argument-fixed, argument-items}

-- a value is no deeper and no larger than is counted
pub record IsWithin (value : Value) (depth size : ℕ) : Type 0 where
  pub deep : value_depth value ≤ depth
  pub large : value_size value ≤ size

-- sealed inputs, and what stands for a text that isn't there
input-within : (longest : ℕ) (inputs : List FileEntry) (texts : List (List ℕ)) (place : ℕ) → place < length inputs
    → IsWithin (slice_index_or (sealed_inputs longest inputs texts) place (Bare unit)) 0 (input_size inputs place)
input-within longest [] texts place within = absurd (omega arith)
input-within longest (input ∷ inputs) (text ∷ texts) zero within = record { deep = omega arith; large = omega arith }
input-within longest (input ∷ inputs) (text ∷ texts) (suc place) within = input-within longest inputs texts place (omega arith)
input-within longest (input ∷ inputs) [] place within = record { deep = omega arith; large = some (input ∷ inputs) place within }
  where
    some : (inputs : List FileEntry) (place : ℕ) → place < length inputs → 1 ≤ input_size inputs place
    some [] place within = absurd (omega arith)
    some (input ∷ inputs) zero within = omega arith
    some (input ∷ inputs) (suc place) within = some inputs place (omega arith)

-- a value of the policy
fixed-within : (policy : PolicyParts) (plain : Plain) → IsFixed policy plain → IsWithin (Bare plain) 0 (tree_size (tree_of plain))
fixed-within policy unit is = record { deep = omega arith; large = omega arith }
fixed-within policy (Flag flag) is = record { deep = omega arith; large = omega arith }
fixed-within policy (Whole number) is = record { deep = omega arith; large = omega arith }
fixed-within policy (Bytes text) is = record { deep = omega arith; large = omega arith }
fixed-within policy (Lab label) is = record { deep = omega arith; large = omega arith }
fixed-within policy (Power power) is = record { deep = omega arith; large = omega arith }
fixed-within policy (RefOf handle) is = absurd is
fixed-within policy (VarOf handle) is = absurd is
fixed-within policy (ResultOf handle) is = absurd is
fixed-within policy (ChanOf handle) is = record { deep = omega arith; large = omega arith }
fixed-within policy (listed items) is = absurd is

module _ (policy : PolicyParts) (texts : List (List ℕ)) where
  abbrev inputs : List Value
  inputs = inputs_of policy texts

  abbrev pub Fits : Arg → Type 0
  Fits a = IsArgument policy a → IsWithin (argument_of inputs a) (extent policy.inputs a).depth (extent policy.inputs a).size

  alone : (a : Arg) → singles a ≡ a ∷ [] → IsArgument policy a → IsSingle policy a
  alone a is all = All-head (IsSingle policy) a [] (subst (All (IsSingle policy)) is all)

  record AreWithin (values : List Value) (depth size : ℕ) : Type 0 where
    deep : deepest (forest_of values) ≤ depth
    large : items_size (forest_of values) ≤ size

  each-fits : (es : List ((a : Arg) × Fits a)) → All (IsSingle policy) (all_singles (map (λ e. e.0) es))
      → AreWithin (map (argument_of inputs) (map (λ e. e.0) es)) (in_all (map (extent policy.inputs) (map (λ e. e.0) es))).depth (in_all (map (extent policy.inputs) (map (λ e. e.0) es))).size
  each-fits [] all = record { deep = omega arith; large = omega arith }
  each-fits (e ∷ es) all =
      let rest = all_singles (map (λ e. e.0) es) in
      let here = e.1 (all_left (IsSingle policy) (singles e.0) rest all) in
      let others = each-fits es (all_right (IsSingle policy) (singles e.0) rest all) in
      record { deep = omega (arith, here.deep, others.deep); large = omega (arith, here.large, others.large) }

  fits-by : (y : Arg-F ((a : Arg) × Fits a)) → Fits (roll-Arg (map-Arg ((a : Arg) × Fits a) Arg (λ e. e.0) y))
  fits-by (Arg-F.Input place) = subst Fits (sym (arg.rolls-Input place)) (λ all.
      let is = argument-input inputs place in
      let counted = extent-input policy.inputs place in
      let within = input-within policy.longest policy.inputs texts place (alone (arg.Input place) (singles-input place) all) in
      record { deep = omega (arith, within.deep, ap value_depth is, ap (λ e. e.depth) counted); large = omega (arith, within.large, ap value_size is, ap (λ e. e.size) counted) })
  fits-by (Arg-F.Fixed plain) = subst Fits (sym (arg.rolls-Fixed plain)) (λ all.
      let is = argument-fixed inputs plain in
      let counted = extent-fixed policy.inputs plain in
      let within = fixed-within policy plain (alone (arg.Fixed plain) (singles-fixed plain) all) in
      record { deep = omega (arith, within.deep, ap value_depth is, ap (λ e. e.depth) counted); large = omega (arith, within.large, ap value_size is, ap (λ e. e.size) counted) })
  fits-by (Arg-F.Items es) =
      let args = map (λ e. e.0) es in
      subst Fits (sym (arg.rolls-Items args)) (λ all.
      let items = each-fits es (subst (All (IsSingle policy)) (singles-items args) all) in
      let is = argument-items inputs args in
      let counted = extent-items policy.inputs args in
      record { deep = omega (arith, items.deep, ap value_depth is, ap (λ e. e.depth) counted); large = omega (arith, items.large, ap value_size is, ap (λ e. e.size) counted) })

  pub argument-fits : (a : Arg) → Fits a
  argument-fits = ind-Arg Fits (λ x y is. subst (λ z. Fits (roll-Arg z)) is (fits-by y))

  -- so the arguments of a policy's tasks aren't too deep
  pub policy-shallow : IsPolicy policy → All (AreShallow (inputs_of policy texts)) policy.tasks
  policy-shallow is = λ k task within j argument there.
      let arguments = is.arguments k task within j argument there in
      let small = is.limits.lists k task within j argument there in
      let fits = argument-fits _ arguments in
      let deep = (limits_are_small policy.version).depth in
      omega (arith, fits.deep, small.depth, deep)

-- the items of a list that isn't too deep are less deep
each-shallow : (inputs : List Value) (args : List Arg) → deepest (forest_of (map (argument_of inputs) args)) < 8 → All (λ a. value_depth (argument_of inputs a) < 8) args
each-shallow inputs [] deep = All-nil (λ a. value_depth (argument_of inputs a) < 8)
each-shallow inputs (a ∷ args) deep = All-cons (λ a. value_depth (argument_of inputs a) < 8) a args (omega (arith, deep)) (each-shallow inputs args (omega (arith, deep)))

pub items-shallow : (inputs : List Value) (args : List Arg) → value_depth (argument_of inputs (arg.Items args)) ≤ 8 → All (λ a. value_depth (argument_of inputs a) < 8) args
items-shallow inputs args deep = each-shallow inputs args (omega (arith, deep, ap value_depth (argument-items inputs args)))

-- a list of what the arguments so far are, with what the next one is
pub items-next : (of : Arg → Value) (args : List Arg) (i : ℕ) (a : Arg) → i < length args → a ≡ get_or args i a → (so_far next : Forest) (value : Value)
    → so_far ≡ forest_of (map of (take i args)) → value ≡ of a → next ≡ forest_of (values_of so_far ++ value ∷ []) → next ≡ forest_of (map of (take (i + 1) args))
items-next of args i a within is so_far next value so_far_is value_is made =
    let front : values_of so_far ≡ map of (take i args) = ap values_of so_far_is ∙ values_of-forest_of (map of (take i args)) in
    let last : value ≡ of (get_or args i a) = value_is ∙ ap of is in
    made ∙ ap forest_of ((λ j. front j ++ last j ∷ []) ∙ sym (ap (map of) (take_more args i a within) ∙ map-append of (take i args) (get_or args i a ∷ [])))

-- an argument is no deeper than the deepest of its list
pub deepest-item : (inputs : List FileEntry) (args : List Arg) (i : ℕ) (a : Arg) → i < length args → a ≡ get_or args i a → (extent inputs a).depth ≤ (in_all (map (extent inputs) args)).depth
deepest-item inputs [] i a within is = absurd (omega arith)
deepest-item inputs (x ∷ args) zero a within is = omega (arith, ap (λ (y : Arg). (extent inputs y).depth) is)
deepest-item inputs (x ∷ args) (suc i) a within is = omega (arith, deepest-item inputs args i a (omega arith) is)
