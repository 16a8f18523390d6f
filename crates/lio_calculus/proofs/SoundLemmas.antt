-- What the parts of a well-formed configuration give: of looked-up values, and of the cells that handles name.
use Rattle.std.proofs.Common.{◌≡◌, ◌∙◌, refl, sym, ap, subst, ℕ, ◌<◌, ◌≤◌, ◌⊎◌, inl, inr, Bool, true, false, if◌then◌else◌, IsTrue, List, [], ◌∷◌, length, bytes_eq, Option, Some, None, is_some, true≢false, arith}
use Rattle.std.specs.Prelude.{option_and_then, nat_lt}
use Rattle.std.specs.Option.{option_map, option_map_or}
use Rattle.std.specs.List.{list_all}
use Rattle.std.proofs.lemmas.Bool.{and_parts}
use Rattle.std.proofs.lemmas.Bool.Decides.{Decides-eqb, nat_tests}
use Rattle.std.proofs.lemmas.List.{get_or_past}
use Rattle.std.proofs.lemmas.List.Elements.{All-head, All-tail}
use Rattle.std.proofs.lemmas.Slice.Eq.{slice_eq-Decides}
use Rattle.lio_labels.specs.declared.label.Label.{Label}
use Rattle.lio_labels.specs.Equality.{same_formula, same_label}
use Rattle.lio_labels.proofs.FlowLemmas.{same-label}
use Rattle.lio_values.specs.declared.value.Handle.{Handle}
use Rattle.lio_values.specs.declared.value.Plain.{Plain}
use Rattle.lio_values.specs.declared.value.Plain.TheVariants.{Unit as unit, Flag, Whole, Bytes, Lab, Power, RefOf, VarOf, ResultOf, ChanOf, Items}
use Rattle.lio_values.specs.declared.value.Value.{Value}
use Rattle.lio_values.specs.Forest.{Nothing, Then}
use Rattle.lio_values.specs.Measures.{is_pure}
use Rattle.lio_values.specs.declared.value.Value.TheVariants.{Bare, Sealed}
use Rattle.lio_syntax_lines.specs.declared.line.Operand.{Operand}
use Rattle.lio_syntax_lines.specs.declared.line.Operand.TheVariants.{Name, Literal}
use Rattle.lio_syntax_lines.specs.Operands.{is_said, can_be_said}
use Rattle.lio_cells.specs.declared.state.State.{State}
use Rattle.lio_cells.specs.declared.state.State.TheVariants.{Absent}
use Rattle.lio_cells.specs.State.{Kind, Reference, Variable, Channel, Result, is_job, is_of, label_of}
use Rattle.lio_syntax.specs.declared.binding.Binding.{Binding}
use Rattle.lio_syntax.specs.Environment.{Environment, value_of}
use Rattle.lio_calculus.specs.Operands.{bound, bare_of, seen_as, reference_of, variable_of, result_of, channel_of}
use Rattle.lio_calculus.specs.Task.{TaskState}
use Rattle.lio_calculus.specs.Step.{Cell, Configuration, blank, cell_at, has_label, is_named}
use Rattle.lio_calculus.specs.Sound.{Names, PlainNames, ValueNames, IsOpen, EachBound, IsTaskOf, IsSound}

-- labels that are the same by the test
pub same_label-same : (a b : Label) → same_label a b ≡ true → a ≡ b
same_label-same a b e =
    let parts = and_parts (same_formula a.secrecy b.secrecy) (same_formula a.integrity b.integrity) e in
    same-label a b (formulas a.secrecy b.secrecy parts.0) (formulas a.integrity b.integrity parts.1)
  where
    formulas : (x y : List (List ℕ)) → same_formula x y ≡ true → x ≡ y
    formulas x y same = (slice_eq-Decides (λ (p q : List ℕ). slice_eq-Decides Decides-eqb p q _ refl) x y (same_formula x y) refl).0 same

-- the first operands of a list are said, and so are those behind the first
pub first-said : (a : Operand) (operands : List Operand) → IsTrue (list_all is_said (a ∷ operands)) → IsTrue (is_said a)
first-said a operands said = (and_parts (is_said a) (list_all is_said operands) said).0

pub rest-said : (a : Operand) (operands : List Operand) → IsTrue (list_all is_said (a ∷ operands)) → IsTrue (list_all is_said operands)
rest-said a operands said = (and_parts (is_said a) (list_all is_said operands) said).1

pub second-said : (a b : Operand) (operands : List Operand) → IsTrue (list_all is_said (a ∷ b ∷ operands)) → IsTrue (is_said b)
second-said a b operands said = first-said b operands (rest-said a (b ∷ operands) said)

-- what a name is bound to has what each bound value has
pub value_of-each : (P : Value → Type 0) (environment : Environment) (name : List ℕ) (value : Value) → EachBound P environment → value_of environment name ≡ Some value → P value
unfolding value_of
value_of-each P [] name value each e = absurd (cc)
value_of-each P (first ∷ rest) name value each e =
    found-each (bytes_eq first.name name) (value_of rest name) first.value e (All-head (λ (b : Binding). P b.value) first rest each) (value_of-each P rest name value (All-tail (λ (b : Binding). P b.value) first rest each))
  where
    found-each : (here : Bool) (behind : Option Value) (v : Value) → (if here then Some v else behind) ≡ Some value → P v → (behind ≡ Some value → P value) → P value
    found-each true behind v found p next = let is : v ≡ value = cc in subst P is p
    found-each false behind v found p next = next found

-- and so has what an operand stands for, if a said literal has it
pub bound-each : (P : Value → Type 0) (environment : Environment) (operand : Operand) (value : Value) → ((plain : Plain) → IsTrue (can_be_said plain) → P (Bare plain))
    → EachBound P environment → IsTrue (is_said operand) → bound environment operand ≡ Some value → P value
bound-each P environment (Name name) value literal each said e = value_of-each P environment name value each e
bound-each P environment (Literal plain) value literal each said e = by (is_pure plain) e
  where
    by : (pure : Bool) → option_map Bare (if pure then Some plain else None) ≡ Some value → P value
    by true f = let is : Bare plain ≡ value = cc in subst P is (literal plain said)
    by false f = absurd (cc)

-- a said literal is no handle
pub said-names : (c : Configuration) (plain : Plain) → IsTrue (can_be_said plain) → ValueNames c (Bare plain)
said-names c unit said = tt
said-names c (Flag flag) said = tt
said-names c (Whole number) said = tt
said-names c (Bytes text) said = tt
said-names c (Lab label) said = tt
said-names c (Power power) said = tt
said-names c (RefOf handle) said = absurd (true≢false (sym said))
said-names c (VarOf handle) said = absurd (true≢false (sym said))
said-names c (ResultOf handle) said = absurd (true≢false (sym said))
said-names c (ChanOf handle) said = absurd (true≢false (sym said))
said-names c (Items Nothing) said = tt
said-names c (Items (Then item items)) said = absurd (true≢false (sym said))

pub said-open : (plain : Plain) → IsTrue (can_be_said plain) → IsOpen (Bare plain)
said-open unit said = tt
said-open (Flag flag) said = tt
said-open (Whole number) said = tt
said-open (Bytes text) said = tt
said-open (Lab label) said = tt
said-open (Items Nothing) said = tt
said-open plain said = absurd (true≢false (sym said))

-- the plain value that a view is of
plain-seen : {X : Type 0} (view : Plain → Option X) (v : Option Value) (x : X) → option_and_then (λ w. option_and_then view (bare_of w)) v ≡ Some x → (plain : Plain) × (v ≡ Some (Bare plain)) × (view plain ≡ Some x)
plain-seen view None x e = absurd (cc)
plain-seen view (Some (Bare plain)) x e = (plain, refl, e)
plain-seen view (Some (Sealed label content)) x e = absurd (cc)

pub seen-plain : {X : Type 0} (view : Plain → Option X) (environment : Environment) (operand : Operand) (x : X) → seen_as view environment operand ≡ Some x
    → (plain : Plain) × (bound environment operand ≡ Some (Bare plain)) × (view plain ≡ Some x)
seen-plain view environment operand x e = plain-seen view (bound environment operand) x e

-- handles that are looked up name cells
reference-is : (plain : Plain) (handle : Handle) → reference_of plain ≡ Some handle → plain ≡ RefOf handle
reference-is (RefOf h) handle e = let is : h ≡ handle = cc in ap RefOf is
reference-is unit handle e = absurd (cc)
reference-is (Flag flag) handle e = absurd (cc)
reference-is (Whole number) handle e = absurd (cc)
reference-is (Bytes text) handle e = absurd (cc)
reference-is (Lab label) handle e = absurd (cc)
reference-is (Power power) handle e = absurd (cc)
reference-is (VarOf h) handle e = absurd (cc)
reference-is (ResultOf h) handle e = absurd (cc)
reference-is (ChanOf h) handle e = absurd (cc)
reference-is (Items items) handle e = absurd (cc)

variable-is : (plain : Plain) (handle : Handle) → variable_of plain ≡ Some handle → plain ≡ VarOf handle
variable-is (VarOf h) handle e = let is : h ≡ handle = cc in ap VarOf is
variable-is unit handle e = absurd (cc)
variable-is (Flag flag) handle e = absurd (cc)
variable-is (Whole number) handle e = absurd (cc)
variable-is (Bytes text) handle e = absurd (cc)
variable-is (Lab label) handle e = absurd (cc)
variable-is (Power power) handle e = absurd (cc)
variable-is (RefOf h) handle e = absurd (cc)
variable-is (ResultOf h) handle e = absurd (cc)
variable-is (ChanOf h) handle e = absurd (cc)
variable-is (Items items) handle e = absurd (cc)

result-is : (plain : Plain) (handle : Handle) → result_of plain ≡ Some handle → plain ≡ ResultOf handle
result-is (ResultOf h) handle e = let is : h ≡ handle = cc in ap ResultOf is
result-is unit handle e = absurd (cc)
result-is (Flag flag) handle e = absurd (cc)
result-is (Whole number) handle e = absurd (cc)
result-is (Bytes text) handle e = absurd (cc)
result-is (Lab label) handle e = absurd (cc)
result-is (Power power) handle e = absurd (cc)
result-is (RefOf h) handle e = absurd (cc)
result-is (VarOf h) handle e = absurd (cc)
result-is (ChanOf h) handle e = absurd (cc)
result-is (Items items) handle e = absurd (cc)

channel-is : (plain : Plain) (handle : Handle) → channel_of plain ≡ Some handle → plain ≡ ChanOf handle
channel-is (ChanOf h) handle e = let is : h ≡ handle = cc in ap ChanOf is
channel-is unit handle e = absurd (cc)
channel-is (Flag flag) handle e = absurd (cc)
channel-is (Whole number) handle e = absurd (cc)
channel-is (Bytes text) handle e = absurd (cc)
channel-is (Lab label) handle e = absurd (cc)
channel-is (Power power) handle e = absurd (cc)
channel-is (RefOf h) handle e = absurd (cc)
channel-is (VarOf h) handle e = absurd (cc)
channel-is (ResultOf h) handle e = absurd (cc)
channel-is (Items items) handle e = absurd (cc)

seen-each : {X : Type 0} (c : Configuration) (view : Plain → Option X) (into : X → Plain) → ((plain : Plain) (x : X) → view plain ≡ Some x → plain ≡ into x)
    → (environment : Environment) (operand : Operand) (x : X) → EachBound (ValueNames c) environment → IsTrue (is_said operand) → seen_as view environment operand ≡ Some x → PlainNames c (into x)
seen-each c view into is environment operand x each said e =
    let seen = seen-plain view environment operand x e in
    subst (PlainNames c) (is seen.0 x seen.2) (bound-each (ValueNames c) environment operand (Bare seen.0) (said-names c) each said seen.1)

pub reference-names : (c : Configuration) (environment : Environment) (operand : Operand) (handle : Handle) → EachBound (ValueNames c) environment → IsTrue (is_said operand) → seen_as reference_of environment operand ≡ Some handle → Names c Reference handle
reference-names c = seen-each c reference_of RefOf reference-is

pub variable-names : (c : Configuration) (environment : Environment) (operand : Operand) (handle : Handle) → EachBound (ValueNames c) environment → IsTrue (is_said operand) → seen_as variable_of environment operand ≡ Some handle → Names c Variable handle
variable-names c = seen-each c variable_of VarOf variable-is

pub result-names : (c : Configuration) (environment : Environment) (operand : Operand) (handle : Handle) → EachBound (ValueNames c) environment → IsTrue (is_said operand) → seen_as result_of environment operand ≡ Some handle → Names c Result handle
result-names c = seen-each c result_of ResultOf result-is

pub channel-names : (c : Configuration) (environment : Environment) (operand : Operand) (handle : Handle) → EachBound (ValueNames c) environment → IsTrue (is_said operand) → seen_as channel_of environment operand ≡ Some handle → Names c Channel handle
channel-names c = seen-each c channel_of ChanOf channel-is

-- a cell that a handle names has its label
pub named-label : (kind : Kind) (handle : Handle) (state : State) → IsTrue (is_named kind handle state) → label_of state ≡ Some handle.label
named-label kind handle state named = has (label_of state) (and_parts (is_of kind state) (has_label state handle.label) named).1
  where
    has : (l : Option Label) → option_map_or (λ (x : Label). same_label x handle.label) l false ≡ true → l ≡ Some handle.label
    has None e = absurd (true≢false (sym e))
    has (Some label) e = ap Some (same_label-same label handle.label e)

pub named-kind : (kind : Kind) (handle : Handle) (state : State) → IsTrue (is_named kind handle state) → IsTrue (is_of kind state)
named-kind kind handle state named = (and_parts (is_of kind state) (has_label state handle.label) named).0

-- a task's own cell is a job
pub task-job : (c : Configuration) (k : ℕ) (task : TaskState) → IsSound c → IsTaskOf c k task → is_job (cell_at c k).state ≡ true
task-job c k task sound is = sym (sound.jobs k) ∙ ap is_some is

lt_or : (a b : ℕ) → (a < b) ⊎ (b ≤ a)
lt_or a b = by (nat_lt a b) refl
  where
    by : (t : Bool) → nat_lt a b ≡ t → (a < b) ⊎ (b ≤ a)
    by true e = inl (grind (arith, nat_tests))
    by false e = inr (grind (arith, nat_tests))

-- a cell that isn't blank lies in the list
pub inside : (c : Configuration) (n : ℕ) → (cell_at c n ≡ blank → ⊥) → n < length c.cells
inside c n there = by (lt_or n (length c.cells))
  where
    by : (n < length c.cells) ⊎ (length c.cells ≤ n) → n < length c.cells
    by (inl p) = p
    by (inr p) = absurd (there (get_or_past c.cells n blank p))

-- a task's own cell, and one that a handle names, isn't blank
pub task-there : (c : Configuration) (k : ℕ) (task : TaskState) → IsTaskOf c k task → cell_at c k ≡ blank → ⊥
task-there c k task is empty = let none : Some task ≡ None = sym is ∙ ap (λ (y : Cell). y.task) empty in cc

pub absent-unnamed : (kind : Kind) (handle : Handle) → IsTrue (is_named kind handle Absent) → ⊥
absent-unnamed Reference handle e = true≢false (sym e)
absent-unnamed kind handle e = true≢false (sym e)

pub named-there : (c : Configuration) (kind : Kind) (handle : Handle) → Names c kind handle → cell_at c handle.number ≡ blank → ⊥
named-there c kind handle names empty = absent-unnamed kind handle (subst (λ (x : Cell). IsTrue (is_named kind handle x.state)) empty names)
