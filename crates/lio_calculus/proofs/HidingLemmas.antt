-- Hiding and plans.
use Rattle.std.proofs.Common.{◌≡◌, ◌∙◌, refl, ap, sym, Bool, ℕ, ◌+◌, true, false, if◌then◌else◌, List, [], ◌∷◌, map, Option, Some, None, option_and_then}
use Rattle.std.specs.Prelude.{bytes_eq, option_map}
use Rattle.lio_labels.specs.declared.label.Label.{Label}
use Rattle.lio_values.specs.declared.value.Value.{Value}
use Rattle.lio_values.specs.declared.value.Value.TheVariants.{Bare, Sealed}
use Rattle.lio_values.specs.declared.value.Plain.{Plain}
use Rattle.lio_values.specs.declared.value.Plain.TheVariants.{Items}
use Rattle.lio_values.specs.Forest.{Forest}
use Rattle.lio_values.specs.Measures.{is_pure}
use Rattle.lio_values.specs.Erasure.{erase_forest, erase_plain, erase_value}
use Rattle.lio_values.proofs.ErasedMeasures.{plain-pure, pure-shown}
use Rattle.lio_syntax_lines.specs.declared.line.Operand.{Operand}
use Rattle.lio_syntax_lines.specs.declared.line.Operand.TheVariants.{Name, Literal}
use Rattle.std.specs.Ordering.{nat_cmp}
use Rattle.std.specs.Cmp.Lexicographic.{slice_cmp}
use Rattle.std.specs.declared.cmp.Ordering.{Ordering}
use Rattle.std.specs.declared.cmp.Ordering.TheVariants.{Less, Equal, Greater}
use Rattle.lio_syntax.specs.declared.binding.Binding.{Binding}
use Rattle.lio_syntax.specs.Environment.{Environment, bind_before, bind, bind_all, value_of}
use Rattle.lio_calculus.specs.Operands.{bound, all_bound, bare_of, pure_of, seen_as}
use Rattle.lio_syntax.specs.Items.{Item, Do, Access, Mark, Back, Fail, open_calls}
use Rattle.lio_syntax.specs.Hiding.{hide_binding, hide_environment, hide_item}

-- what a name is bound to in a hidden environment
pub value_of-hidden : (observer : Label) (environment : Environment) (name : List ℕ) → value_of (hide_environment observer environment) name ≡ option_map (erase_value observer) (value_of environment name)
unfolding value_of
value_of-hidden observer [] name = refl
value_of-hidden observer (first ∷ rest) name =
    elim (bytes_eq first.name name) as (λ b. (if b then Some (erase_value observer first.value) else value_of (hide_environment observer rest) name) ≡ option_map (erase_value observer) (if b then Some first.value else value_of rest name)) [
      | true ↦ refl
      | false ↦ value_of-hidden observer rest name
    ]

-- what an operand stands for in a hidden environment
pub bound-hidden : (observer : Label) (environment : Environment) (operand : Operand) → bound (hide_environment observer environment) operand ≡ option_map (erase_value observer) (bound environment operand)
bound-hidden observer environment (Name name) = value_of-hidden observer environment name
bound-hidden observer environment (Literal plain) = by (is_pure plain) refl
  where
    by : (pure : Bool) → is_pure plain ≡ pure → option_map Bare (if pure then Some plain else None) ≡ option_map (erase_value observer) (option_map Bare (if pure then Some plain else None))
    by true is = ap (λ (p : Plain). Some (Bare p)) (sym (pure-shown observer plain is))
    by false is = refl

-- a view that sees of a value what an observer sees of it
abbrev pub IsBlind : {X : Type 0} → (Plain → Option X) → Type 0
IsBlind view = (observer : Label) (plain : Plain) → view (erase_plain observer plain) ≡ view plain

-- a view that sees no list
pub blind-at-lists : {X : Type 0} (view : Plain → Option X) → ((items : Forest) → view (Items items) ≡ None) → IsBlind view
blind-at-lists view none observer (Items items) = none (erase_forest observer items) ∙ sym (none items)
blind-at-lists view none observer plain = refl

-- the view of pure values: they hold nothing that an observer doesn't see
pub pure-blind : IsBlind pure_of
pure-blind observer plain = by (is_pure plain) refl
  where
    impure : (p : Plain) → is_pure p ≡ false → pure_of p ≡ None
    impure p is = rw is refl

    by : (pure : Bool) → is_pure plain ≡ pure → pure_of (erase_plain observer plain) ≡ pure_of plain
    by true is = ap pure_of (pure-shown observer plain is)
    by false is = impure (erase_plain observer plain) (plain-pure observer plain ∙ is) ∙ sym (impure plain is)

-- what such a view sees of a bare value isn't hidden
bare-seen : {X : Type 0} (view : Plain → Option X) → IsBlind view → (observer : Label) (value : Option Value) → option_and_then (λ v. option_and_then view (bare_of v)) (option_map (erase_value observer) value) ≡ option_and_then (λ v. option_and_then view (bare_of v)) value
bare-seen view blind observer None = refl
bare-seen view blind observer (Some (Bare plain)) = blind observer plain
bare-seen view blind observer (Some (Sealed label content)) = refl

pub seen_as-hidden : {X : Type 0} (view : Plain → Option X) → IsBlind view → (observer : Label) (environment : Environment) (operand : Operand) → seen_as view (hide_environment observer environment) operand ≡ seen_as view environment operand
seen_as-hidden view blind observer environment operand = ap (λ (v : Option Value). option_and_then (λ w. option_and_then view (bare_of w)) v) (bound-hidden observer environment operand) ∙ bare-seen view blind observer (bound environment operand)

-- how many calls are open doesn't depend on values
pub open_calls-hidden : (observer : Label) (items : List Item) → open_calls (map (hide_item observer) items) ≡ open_calls items
unfolding open_calls
open_calls-hidden observer [] = refl
open_calls-hidden observer (Back caller name ∷ items) = ap (λ (n : ℕ). n + 1) (open_calls-hidden observer items)
open_calls-hidden observer (Do statement ∷ items) = open_calls-hidden observer items
open_calls-hidden observer (Access statement ∷ items) = open_calls-hidden observer items
open_calls-hidden observer (Mark code payload handler ∷ items) = open_calls-hidden observer items
open_calls-hidden observer (Fail fault ∷ items) = open_calls-hidden observer items

-- several operands
pub all_bound-hidden : (observer : Label) (environment : Environment) (operands : List Operand) → all_bound (hide_environment observer environment) operands ≡ option_map (map (erase_value observer)) (all_bound environment operands)
unfolding all_bound
all_bound-hidden observer environment [] = refl
all_bound-hidden observer environment (operand ∷ operands) =
    rw (bound-hidden observer environment operand) (rw (all_bound-hidden observer environment operands) (both (bound environment operand) (all_bound environment operands)))
  where
    both : (first : Option Value) (rest : Option (List Value))
        → option_and_then (λ value. option_map (λ values. value ∷ values) (option_map (map (erase_value observer)) rest)) (option_map (erase_value observer) first)
        ≡ option_map (map (erase_value observer)) (option_and_then (λ value. option_map (λ values. value ∷ values) rest) first)
    both None rest = refl
    both (Some value) None = refl
    both (Some value) (Some values) = refl

-- a binding in a hidden environment
bind_before-hidden : (observer : Label) (order : Ordering) (new first : Binding) (rest behind : Environment)
    → bind_before order (hide_binding observer new) (hide_binding observer first) (hide_environment observer rest) (hide_environment observer behind) ≡ hide_environment observer (bind_before order new first rest behind)
bind_before-hidden observer Less new first rest behind = refl
bind_before-hidden observer Equal new first rest behind = refl
bind_before-hidden observer Greater new first rest behind = refl

pub bind-hidden : (observer : Label) (environment : Environment) (name : List ℕ) (value : Value) → bind (hide_environment observer environment) name (erase_value observer value) ≡ hide_environment observer (bind environment name value)
unfolding bind
bind-hidden observer [] name value = refl
bind-hidden observer (first ∷ rest) name value =
    rw (bind-hidden observer rest name value) (bind_before-hidden observer (slice_cmp nat_cmp name first.name) (record { name = name; value = value }) first rest (bind rest name value))

pub bind_all-hidden : (observer : Label) (environment : Environment) (names : List (List ℕ)) (values : List Value) → bind_all (hide_environment observer environment) names (map (erase_value observer) values) ≡ hide_environment observer (bind_all environment names values)
unfolding bind_all
bind_all-hidden observer environment [] values = refl
bind_all-hidden observer environment (name ∷ names) [] = refl
bind_all-hidden observer environment (name ∷ names) (value ∷ values) =
    rw (bind-hidden observer environment name value) (bind_all-hidden observer (bind environment name value) names values)
