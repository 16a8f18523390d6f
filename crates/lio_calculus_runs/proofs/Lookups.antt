-- Each principal in what an operand stands for has a name.
use Rattle.std.proofs.Common.{◌≡◌, refl, subst, ℕ, Bool, true, false, if◌then◌else◌, List, [], ◌∷◌, All, Option, Some, None}
use Rattle.std.specs.Prelude.{option_and_then}
use Rattle.std.specs.Option.{option_map}
use Rattle.std.proofs.lemmas.List.Elements.{All-nil, All-head, All-tail, All-cons}
use Rattle.lio_labels.specs.declared.label.Label.{Label}
use Rattle.lio_labels.specs.declared.privilege.Priv.{Priv}
use Rattle.lio_labels.specs.LabelPrint.{AreNamed}
use Rattle.lio_values.specs.declared.value.Handle.{Handle}
use Rattle.lio_values.specs.declared.value.Plain.{Plain}
use Rattle.lio_values.specs.declared.value.Plain.TheVariants.{Lab, Power, RefOf, VarOf, ResultOf, ChanOf}
use Rattle.lio_values.specs.declared.value.Value.{Value}
use Rattle.lio_values.specs.declared.value.Value.TheVariants.{Bare, Sealed}
use Rattle.lio_values.specs.PlainText.{IsPowerNamed, IsPlainNamed}
use Rattle.lio_values.specs.Measures.{is_pure}
use Rattle.lio_values.specs.Named.{IsContentNamed, IsValueNamed}
use Rattle.lio_syntax_lines.specs.declared.line.Operand.{Operand}
use Rattle.lio_syntax_lines.specs.declared.line.Operand.TheVariants.{Name, Literal}
use Rattle.lio_syntax.specs.Environment.{Environment}
use Rattle.lio_calculus.specs.Operands.{bound, all_bound, Labelled, sealed_of, seen_as, label_of, power_of, reference_of, variable_of, result_of, channel_of}
use Rattle.lio_calculus.specs.Sound.{EachBound}
use Rattle.lio_calculus.proofs.SoundLemmas.{value_of-each, seen-plain}
use Rattle.lio_calculus_runs.specs.Script.{IsOperandNamed}

-- an operand
pub bound_named : (names : List (List ℕ)) (environment : Environment) (operand : Operand) (value : Value) → EachBound (IsValueNamed names) environment → IsOperandNamed names operand → bound environment operand ≡ Some value → IsValueNamed names value
bound_named names environment (Name name) value each said e = value_of-each (IsValueNamed names) environment name value each e
bound_named names environment (Literal plain) value each said e = by (is_pure plain) e
  where
    by : (pure : Bool) → option_map Bare (if pure then Some plain else None) ≡ Some value → IsValueNamed names value
    by true f = let is : Bare plain ≡ value = cc in subst (IsValueNamed names) is said
    by false f = absurd (cc)

-- several operands
pub all_bound_named : (names : List (List ℕ)) (environment : Environment) (operands : List Operand) (vs : List Value) → EachBound (IsValueNamed names) environment → All (IsOperandNamed names) operands
    → all_bound environment operands ≡ Some vs → All (IsValueNamed names) vs
unfolding all_bound
all_bound_named names environment [] vs each said e = let none : List Value = [] in let is : none ≡ vs = cc in subst (All (IsValueNamed names)) is (All-nil (IsValueNamed names))
all_bound_named names environment (operand ∷ operands) vs each said e =
    by (bound environment operand) (all_bound environment operands) e
    (λ v f. bound_named names environment operand v each (All-head (IsOperandNamed names) operand operands said) f)
    (λ ws f. all_bound_named names environment operands ws each (All-tail (IsOperandNamed names) operand operands said) f)
  where
    by : (first : Option Value) (others : Option (List Value)) → option_and_then (λ value. option_map (λ values. value ∷ values) others) first ≡ Some vs
        → ((v : Value) → first ≡ Some v → IsValueNamed names v) → ((ws : List Value) → others ≡ Some ws → All (IsValueNamed names) ws) → All (IsValueNamed names) vs
    by None others f here there = absurd (cc)
    by (Some v) None f here there = absurd (cc)
    by (Some v) (Some ws) f here there = let all : List Value = v ∷ ws in let is : all ≡ vs = cc in subst (All (IsValueNamed names)) is (All-cons (IsValueNamed names) v ws (here v refl) (there ws refl))

-- a sealed value
abbrev pub IsLabelledNamed : List (List ℕ) → Labelled → Type 0
IsLabelledNamed names s = AreNamed names s.label × IsContentNamed names s.content

pub sealed_named : (names : List (List ℕ)) (v : Option Value) (s : Labelled) → option_and_then sealed_of v ≡ Some s → ((value : Value) → v ≡ Some value → IsValueNamed names value) → IsLabelledNamed names s
sealed_named names None s e each = absurd (cc)
sealed_named names (Some (Bare plain)) s e each = absurd (cc)
sealed_named names (Some (Sealed label content)) s e each =
    let made : Labelled = record { label = label; content = content } in
    let is : made ≡ s = cc in
    subst (IsLabelledNamed names) is (each (Sealed label content) refl)

-- a view of a bare value
abbrev pub Shows : {X : Type 0} → List (List ℕ) → (Plain → Option X) → (X → Type 0) → Type 0
Shows {X} names view Q = (plain : Plain) (x : X) → view plain ≡ Some x → IsPlainNamed names plain → Q x

pub seen_named : {X : Type 0} (names : List (List ℕ)) (view : Plain → Option X) (Q : X → Type 0) → Shows names view Q → (environment : Environment) (operand : Operand) (x : X)
    → EachBound (IsValueNamed names) environment → IsOperandNamed names operand → seen_as view environment operand ≡ Some x → Q x
seen_named names view Q shows environment operand x each said e =
    let seen = seen-plain view environment operand x e in
    shows seen.0 x seen.2 (bound_named names environment operand (Bare seen.0) each said seen.1)

-- the views
pub plain_shown : (names : List (List ℕ)) (plain other : Plain) → Some plain ≡ Some other → IsPlainNamed names plain → IsPlainNamed names other
plain_shown names plain other e named = let is : plain ≡ other = cc in subst (IsPlainNamed names) is named

pub label_shown : (names : List (List ℕ)) (plain : Plain) (label : Label) → label_of plain ≡ Some label → IsPlainNamed names plain → AreNamed names label
label_shown names (Lab held) label e named = let is : held ≡ label = cc in subst (AreNamed names) is named
label_shown names plain label e named = absurd (cc)

pub power_shown : (names : List (List ℕ)) (plain : Plain) (power : Priv) → power_of plain ≡ Some power → IsPlainNamed names plain → IsPowerNamed names power
power_shown names (Power held) power e named = let is : held ≡ power = cc in subst (IsPowerNamed names) is named
power_shown names plain power e named = absurd (cc)

-- each principal in the label of a handle has a name
abbrev pub IsHandleNamed : List (List ℕ) → Handle → Type 0
IsHandleNamed names handle = AreNamed names handle.label

pub reference_shown : (names : List (List ℕ)) (plain : Plain) (handle : Handle) → reference_of plain ≡ Some handle → IsPlainNamed names plain → IsHandleNamed names handle
reference_shown names (RefOf held) handle e named = let is : held ≡ handle = cc in subst (IsHandleNamed names) is named
reference_shown names plain handle e named = absurd (cc)

pub variable_shown : (names : List (List ℕ)) (plain : Plain) (handle : Handle) → variable_of plain ≡ Some handle → IsPlainNamed names plain → IsHandleNamed names handle
variable_shown names (VarOf held) handle e named = let is : held ≡ handle = cc in subst (IsHandleNamed names) is named
variable_shown names plain handle e named = absurd (cc)

pub result_shown : (names : List (List ℕ)) (plain : Plain) (handle : Handle) → result_of plain ≡ Some handle → IsPlainNamed names plain → IsHandleNamed names handle
result_shown names (ResultOf held) handle e named = let is : held ≡ handle = cc in subst (IsHandleNamed names) is named
result_shown names plain handle e named = absurd (cc)

pub channel_shown : (names : List (List ℕ)) (plain : Plain) (handle : Handle) → channel_of plain ≡ Some handle → IsPlainNamed names plain → IsHandleNamed names handle
channel_shown names (ChanOf held) handle e named = let is : held ≡ handle = cc in subst (IsHandleNamed names) is named
channel_shown names plain handle e named = absurd (cc)
