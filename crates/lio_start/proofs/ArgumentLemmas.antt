-- What an argument is, by what stands in it.
use Rattle.std.proofs.Common.{◌≡◌, ◌∙◌, ℕ, List, [], ◌∷◌, map, All, sym, ap, subst}
use Rattle.std.specs.Prelude.{slice_index_or}
use Rattle.std.proofs.lemmas.List.Elements.{All-nil, All-cons, All-head, All-tail}
use Rattle.lio_values.specs.Views.{forest_of}
use Rattle.lio_values.specs.declared.value.Plain.{Plain}
use Rattle.lio_values.specs.declared.value.Plain.TheVariants.{Unit as unit, Items}
use Rattle.lio_values.specs.declared.value.Value.{Value}
use Rattle.lio_values.specs.declared.value.Value.TheVariants.{Bare}
use Rattle.lio_policy.specs.Lists.{singles}
use Rattle.lio_policy.specs.declared.policy.Arg.{Arg, map-Arg, roll-Arg}
use Rattle.lio_policy.specs.declared.policy.Arg.TheVariants as arg
use Rattle.lio_policy.specs.declared.policy.Arg.TheOpen.{Arg-F}
use Rattle.lio_policy.specs.declared.policy.Arg.TheFolds.{fold-roll-Arg, ind-Arg}
use Rattle.lio_policy.proofs.ArgumentLemmas.{singles-input, singles-fixed, singles-items}
use Rattle.lio_policy.proofs.SingleLemmas.{all_singles, all_left, all_right}
use Rattle.lio_start.specs.Start.{argument_step, argument_of}

pub argument-input : (inputs : List Value) (place : ℕ) → argument_of inputs (arg.Input place) ≡ slice_index_or inputs place (Bare unit)
argument-input inputs place = ap (argument_of inputs) (sym (arg.rolls-Input place)) ∙ fold-roll-Arg Value (argument_step inputs) (Arg-F.Input place)

pub argument-fixed : (inputs : List Value) (plain : Plain) → argument_of inputs (arg.Fixed plain) ≡ Bare plain
argument-fixed inputs plain = ap (argument_of inputs) (sym (arg.rolls-Fixed plain)) ∙ fold-roll-Arg Value (argument_step inputs) (Arg-F.Fixed plain)

pub argument-items : (inputs : List Value) (args : List Arg) → argument_of inputs (arg.Items args) ≡ Bare (Items (forest_of (map (argument_of inputs) args)))
argument-items inputs args = ap (argument_of inputs) (sym (arg.rolls-Items args)) ∙ fold-roll-Arg Value (argument_step inputs) (Arg-F.Items args)

-- A property of values that lists have of which each item has it: an argument has it, if it follows of what stands in the argument.
module _ (Q : Arg → Type 0) (P : Value → Type 0) (inputs : List Value)
    (placed : (place : ℕ) → Q (arg.Input place) → P (slice_index_or inputs place (Bare unit)))
    (fixed : (plain : Plain) → Q (arg.Fixed plain) → P (Bare plain))
    (listed : (values : List Value) → All P values → P (Bare (Items (forest_of values)))) where
  abbrev pub Has : Arg → Type 0
  Has a = All Q (singles a) → P (argument_of inputs a)

  each-has : (es : List ((a : Arg) × Has a)) → All Q (all_singles (map (λ e. e.0) es)) → All P (map (argument_of inputs) (map (λ e. e.0) es))
  each-has [] all = All-nil P
  each-has (e ∷ es) all =
      let others = all_singles (map (λ e. e.0) es) in
      All-cons P (argument_of inputs e.0) (map (argument_of inputs) (map (λ e. e.0) es)) (e.1 (all_left Q (singles e.0) others all)) (each-has es (all_right Q (singles e.0) others all))

  alone : (a : Arg) → singles a ≡ a ∷ [] → All Q (singles a) → Q a
  alone a is all = All-head Q a [] (subst (All Q) is all)

  has-by : (y : Arg-F ((a : Arg) × Has a)) → Has (roll-Arg (map-Arg ((a : Arg) × Has a) Arg (λ e. e.0) y))
  has-by (Arg-F.Input place) =
      subst Has (sym (arg.rolls-Input place)) (λ all. subst P (sym (argument-input inputs place)) (placed place (alone (arg.Input place) (singles-input place) all)))
  has-by (Arg-F.Fixed plain) =
      subst Has (sym (arg.rolls-Fixed plain)) (λ all. subst P (sym (argument-fixed inputs plain)) (fixed plain (alone (arg.Fixed plain) (singles-fixed plain) all)))
  has-by (Arg-F.Items es) =
      let args = map (λ e. e.0) es in
      subst Has (sym (arg.rolls-Items args)) (λ all. subst P (sym (argument-items inputs args)) (listed (map (argument_of inputs) args) (each-has es (subst (All Q) (singles-items args) all))))

  pub argument-has : (a : Arg) → Has a
  argument-has = ind-Arg Has (λ x y is. subst (λ z. Has (roll-Arg z)) is (has-by y))

  pub arguments-have : (arguments : List Arg) → All (λ a. All Q (singles a)) arguments → All P (map (argument_of inputs) arguments)
  arguments-have [] are = All-nil P
  arguments-have (a ∷ arguments) are =
      All-cons P (argument_of inputs a) (map (argument_of inputs) arguments) (argument-has a (All-head (λ a. All Q (singles a)) a arguments are))
      (arguments-have arguments (All-tail (λ a. All Q (singles a)) a arguments are))
