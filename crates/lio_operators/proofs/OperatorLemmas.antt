-- The laws of operators.
use Rattle.std.proofs.Common.{◌≡◌, ◌≤◌, ℕ, ℤ, List, Bool, true, false, if◌then◌else◌, nat_le, length, take, drop, refl, ap, sym, subst, ◌∙◌, inl, inr, [], ◌∷◌, All, arith, zero, suc, Result, Ok, Err, Option, Some, None}
use Rattle.std.specs.Ordering.{int_eq}
use Rattle.std.specs.Prelude.{pos, negsuc, slice_get, ◌++◌, ◌+ℤ◌, ◌-ℤ◌, ◌*ℤ◌, neg_ℤ, int_div, int_rem, codes}
use Rattle.std.specs.Fmt.{signed_decimal}
use Rattle.std.proofs.lemmas.Bool.{leb-true}
use Rattle.std.proofs.lemmas.List.Elements.{All-nil, All-cons, All-append, All-take, All-drop, Contains-get_or}
use Rattle.std.specs.List.{Contains}
use lib.ListN.{length-map}
use Rattle.lio_labels.specs.declared.label.Label.{Label}
use Rattle.lio_labels.specs.Bounds.{join, meet}
use Rattle.lio_values.specs.declared.value.Plain.{Plain}
use Rattle.lio_values.specs.declared.value.Plain.TheVariants.{Unit as unit, Flag, Whole, Bytes, Lab, RefOf, VarOf, ResultOf, ChanOf, Items}
use Rattle.lio_values.specs.declared.value.Value.{Value}
use Rattle.lio_values.specs.declared.value.Value.TheVariants.{Bare, Sealed}
use Rattle.lio_values.specs.Forest.{Forest}
use Rattle.lio_values.specs.Erasure.{erase_forest, erase_plain, erase_value}
use Rattle.lio_values.specs.Views.{forest_of, values_of, values_of-forest_of}
use Rattle.lio_values.proofs.ErasedMeasures.{erased-values}
use Rattle.lio_values.specs.declared.fault.FaultKind.{FaultKind}
use Rattle.lio_values.specs.declared.fault.FaultKind.TheVariants.{Overflow, DivZero, TooLong, LabelWide}
use Rattle.lio_syntax_lines.specs.declared.operators.One.{One}
use Rattle.lio_syntax_lines.specs.declared.operators.One.TheVariants.{Not, Neg, Len, Num, Str, LabelOf}
use Rattle.lio_syntax_lines.specs.declared.operators.Two.{Two}
use Rattle.lio_syntax_lines.specs.declared.operators.Two.TheVariants.{Add, Sub, Mul, Div, Rem, Eq, Join, Meet, From, Upto, Push, At}
use Rattle.lio_syntax_lines.specs.Literals.{whole_of, is_whole}
use Rattle.lio_operators.specs.Wholes.{fitting, divided, on_wholes}
use Rattle.lio_operators.specs.Texts.{made, place_at, on_texts, on_text_at}
use Rattle.lio_operators.specs.Labels.{is_wide, bounded, on_labels}
use Rattle.lio_operators.specs.Flags.{on_flags, on_units}
use Rattle.lio_operators.specs.Operators.{bare, not_of, neg_of, len_of, whole_read, num_of, flag_text, str_of, label_of, on_plain, on_sealed, operate1, flag_and, unit_and, whole_and, text_and, label_and, on_plains, operate2}
use Rattle.lio_operators.specs.Lists.{list, may_be_made, made_list, found, value_at, list_and}
use Rattle.lio_operators.proofs.ListLemmas.{pushed-hidden, joined-hidden, taken-hidden, dropped-hidden, found-hidden}
use Rattle.lio_operators.specs.Laws.{hide_result, HiddenFromOne, HiddenFromTwo, IsPublic, OneGivesSimple, IsPartOf, IsMadeOf, TwoGiveParts, GivesShort, OneGivesShort, TwoGiveShort, IsUnthrown}

-- what a table gives: a flag, whole, text or label, and no text of more than so many bytes
abbrev Gives : ℕ → Result Plain FaultKind → Type 0
Gives limit (Ok (Flag flag)) = Unit {0}
Gives limit (Ok (Whole number)) = Unit {0}
Gives limit (Ok (Bytes text)) = length text ≤ limit
Gives limit (Ok (Lab label)) = Unit {0}
Gives limit (Ok plain) = ⊥
Gives limit (Err kind) = IsUnthrown kind

simple_of : (limit : ℕ) (given : Result Plain FaultKind) → Gives limit given → IsPublic (bare given)
simple_of limit (Ok (Flag flag)) gives = tt
simple_of limit (Ok (Whole number)) gives = tt
simple_of limit (Ok (Bytes text)) gives = tt
simple_of limit (Ok (Lab label)) gives = tt
simple_of limit (Ok plain) gives = gives
simple_of limit (Err kind) gives = gives

short_of : (limit : ℕ) (given : Result Plain FaultKind) → Gives limit given → GivesShort limit (bare given)
short_of limit (Ok (Bytes text)) gives = gives
short_of limit (Ok plain) gives = tt
short_of limit (Err kind) gives = tt

fitting_gives : (limit : ℕ) (number : ℤ) → Gives limit (fitting number)
fitting_gives limit number = by (is_whole number)
  where
    by : (b : Bool) → Gives limit (if b then Ok (Whole number) else Err Overflow)
    by true = tt
    by false = tt

divided_gives : (limit : ℕ) (a b number : ℤ) → Gives limit (divided a b number)
divided_gives limit a b number = by (int_eq b (pos 0)) (is_whole (int_div a b))
  where
    by : (zero whole : Bool) → Gives limit (if zero then Err DivZero else (if whole then Ok (Whole number) else Err Overflow))
    by true whole = tt
    by false true = tt
    by false false = tt

made_gives : (longest : ℕ) (text : List ℕ) → Gives longest (made longest text)
made_gives longest text = by (nat_le (length text) longest) refl
  where
    by : (b : Bool) → nat_le (length text) longest ≡ b → Gives longest (if b then Ok (Bytes text) else Err TooLong)
    by true e = leb-true _ _ e
    by false e = tt

bounded_gives : (limit : ℕ) (a b bound : Label) → Gives limit (bounded a b bound)
bounded_gives limit a b bound = by (is_wide bound)
  where
    by : (wide : Bool) → Gives limit (if wide then Err (LabelWide a b) else Ok (Lab bound))
    by true = tt
    by false = tt

-- each table
wholes_give : (limit : ℕ) (op : Two) (a b : ℤ) → Gives limit (on_wholes op a b)
wholes_give limit Add a b = fitting_gives limit (a +ℤ b)
wholes_give limit Sub a b = fitting_gives limit (a -ℤ b)
wholes_give limit Mul a b = fitting_gives limit (a *ℤ b)
wholes_give limit Div a b = divided_gives limit a b (int_div a b)
wholes_give limit Rem a b = divided_gives limit a b (int_rem a b)
wholes_give limit two a b = tt

texts_give : (longest : ℕ) (op : Two) (a b : List ℕ) → Gives longest (on_texts longest op a b)
texts_give longest Add a b = made_gives longest (a ++ b)
texts_give longest two a b = tt

text_at_gives : (longest : ℕ) (op : Two) (text : List ℕ) (at : ℤ) → Gives longest (on_text_at longest op text at)
text_at_gives longest From text at = made_gives longest (drop (place_at at) text)
text_at_gives longest Upto text at = made_gives longest (take (place_at at) text)
text_at_gives longest two text at = tt

labels_give : (limit : ℕ) (op : Two) (a b : Label) → Gives limit (on_labels op a b)
labels_give limit Join a b = bounded_gives limit a b (join a b)
labels_give limit Meet a b = bounded_gives limit a b (meet a b)
labels_give limit two a b = tt

flags_give : (limit : ℕ) (op : Two) (a b : Bool) → Gives limit (on_flags op a b)
flags_give limit Eq a b = tt
flags_give limit two a b = tt

units_give : (limit : ℕ) (op : Two) → Gives limit (on_units op)
units_give limit Eq = tt
units_give limit two = tt

-- by the kinds of both operands
flag_and_gives : (limit : ℕ) (op : Two) (a : Bool) (b : Plain) → Gives limit (flag_and op a b)
flag_and_gives limit op a (Flag b) = flags_give limit op a b
flag_and_gives limit op a b = tt

unit_and_gives : (limit : ℕ) (op : Two) (b : Plain) → Gives limit (unit_and op b)
unit_and_gives limit op unit = units_give limit op
unit_and_gives limit op b = tt

whole_and_gives : (limit : ℕ) (op : Two) (a : ℤ) (b : Plain) → Gives limit (whole_and op a b)
whole_and_gives limit op a (Whole b) = wholes_give limit op a b
whole_and_gives limit op a b = tt

text_and_gives : (longest : ℕ) (op : Two) (a : List ℕ) (b : Plain) → Gives longest (text_and longest op a b)
text_and_gives longest op a (Bytes b) = texts_give longest op a b
text_and_gives longest op a (Whole at) = text_at_gives longest op a at
text_and_gives longest op a b = tt

label_and_gives : (limit : ℕ) (op : Two) (a : Label) (b : Plain) → Gives limit (label_and op a b)
label_and_gives limit op a (Lab b) = labels_give limit op a b
label_and_gives limit op a b = tt

plains_give : (longest : ℕ) (op : Two) (a b : Plain) → Gives longest (on_plains longest op a b)
plains_give longest op unit b = unit_and_gives longest op b
plains_give longest op (Flag a) b = flag_and_gives longest op a b
plains_give longest op (Whole a) b = whole_and_gives longest op a b
plains_give longest op (Bytes a) b = text_and_gives longest op a b
plains_give longest op (Lab a) b = label_and_gives longest op a b
plains_give longest op a b = tt

-- on one value
not_gives : (limit : ℕ) (a : Plain) → Gives limit (not_of a)
not_gives limit (Flag a) = tt
not_gives limit a = tt

neg_gives : (limit : ℕ) (a : Plain) → Gives limit (neg_of a)
neg_gives limit (Whole a) = fitting_gives limit (neg_ℤ a)
neg_gives limit a = tt

len_gives : (limit : ℕ) (a : Plain) → Gives limit (len_of a)
len_gives limit (Bytes a) = tt
len_gives limit (Items a) = tt
len_gives limit a = tt

read_gives : (limit : ℕ) (read : Option ℤ) → Gives limit (whole_read read)
read_gives limit (Some number) = tt
read_gives limit None = tt

num_gives : (limit : ℕ) (a : Plain) → Gives limit (num_of a)
num_gives limit (Bytes a) = read_gives limit (whole_of a)
num_gives limit a = tt

str_gives : (longest : ℕ) (a : Plain) → Gives longest (str_of longest a)
str_gives longest (Whole a) = made_gives longest (signed_decimal a)
str_gives longest (Flag a) = made_gives longest (flag_text a)
str_gives longest unit = made_gives longest (codes "unit")
str_gives longest a = tt

label_gives : (limit : ℕ) (a : Plain) → Gives limit (label_of a)
label_gives limit (RefOf a) = tt
label_gives limit (VarOf a) = tt
label_gives limit (ResultOf a) = tt
label_gives limit (ChanOf a) = tt
label_gives limit a = tt

plain_gives : (longest : ℕ) (op : One) (a : Plain) → Gives longest (on_plain longest op a)
plain_gives longest Not a = not_gives longest a
plain_gives longest Neg a = neg_gives longest a
plain_gives longest Len a = len_gives longest a
plain_gives longest Num a = num_gives longest a
plain_gives longest Str a = str_gives longest a
plain_gives longest LabelOf a = label_gives longest a

sealed_gives : (limit : ℕ) (op : One) (label : Label) → Gives limit (on_sealed op label)
sealed_gives limit LabelOf label = tt
sealed_gives limit op label = tt

pub one_gives_simple : OneGivesSimple
unfolding operate1
one_gives_simple longest op (Bare a) = simple_of longest (on_plain longest op a) (plain_gives longest op a)
one_gives_simple longest op (Sealed label content) = simple_of longest (on_sealed op label) (sealed_gives longest op label)

pub one_gives_short : OneGivesShort
unfolding operate1
one_gives_short longest op (Bare a) = short_of longest (on_plain longest op a) (plain_gives longest op a)
one_gives_short longest op (Sealed label content) = short_of longest (on_sealed op label) (sealed_gives longest op label)

-- ---- what is hidden isn't seen

-- what a table gives is seen as it is
given-shown : (observer : Label) (given : Result Plain FaultKind) → IsPublic (bare given) → bare given ≡ hide_result observer (bare given)
given-shown observer (Ok (Flag flag)) simple = refl
given-shown observer (Ok (Whole number)) simple = refl
given-shown observer (Ok (Bytes text)) simple = refl
given-shown observer (Ok (Lab label)) simple = refl
given-shown observer (Ok plain) simple = absurd simple
given-shown observer (Err kind) simple = refl

-- an operator on one plain value gives the same on the value as an observer sees it
plain-alike : (observer : Label) (longest : ℕ) (op : One) (a : Plain) → on_plain longest op (erase_plain observer a) ≡ on_plain longest op a
plain-alike observer longest Len (Items items) = ap (λ n. Ok (Whole (pos n))) (ap length (erased-values observer items) ∙ length-map (values_of items) (erase_value observer))
plain-alike observer longest op (Items items) = refl
plain-alike observer longest op a = refl

pub hidden_from_one : HiddenFromOne
unfolding operate1
hidden_from_one observer longest op (Bare a) =
    ap bare (plain-alike observer longest op a) ∙ given-shown observer (on_plain longest op a) (simple_of longest (on_plain longest op a) (plain_gives longest op a))
hidden_from_one observer longest op (Sealed label content) =
    given-shown observer (on_sealed op label) (simple_of longest (on_sealed op label) (sealed_gives longest op label))

-- a table of plain values gives the same on a right value as an observer sees it
right-alike : (observer : Label) (longest : ℕ) (op : Two) (a b : Plain) → on_plains longest op a (erase_plain observer b) ≡ on_plains longest op a b
right-alike observer longest op unit (Items items) = refl
right-alike observer longest op (Flag a) (Items items) = refl
right-alike observer longest op (Whole a) (Items items) = refl
right-alike observer longest op (Bytes a) (Items items) = refl
right-alike observer longest op (Lab a) (Items items) = refl
right-alike observer longest op a (Items items) = refl
right-alike observer longest op a b = refl

-- operators on a list and a plain value
list-alike : (observer : Label) (longest : ℕ) (op : Two) (items : Forest) (b : Plain)
    → list_and longest op (erase_forest observer items) (erase_plain observer b) ≡ hide_result observer (list_and longest op items b)
list-alike observer longest Push items b = pushed-hidden observer longest items (Bare b)
list-alike observer longest Add items (Items others) = joined-hidden observer longest items others
list-alike observer longest At items (Whole at) = found-hidden observer items at
list-alike observer longest From items (Whole at) = dropped-hidden observer (place_at at) items
list-alike observer longest Upto items (Whole at) = taken-hidden observer (place_at at) items
list-alike observer longest op items (Items others) = refl
list-alike observer longest op items (Whole at) = refl
list-alike observer longest op items b = refl

pub hidden_from_two : HiddenFromTwo
unfolding operate2
hidden_from_two observer longest op (Bare (Items items)) (Bare b) = list-alike observer longest op items b
hidden_from_two observer longest op (Bare a) (Bare b) =
    ap bare (right-alike observer longest op a b) ∙ given-shown observer (on_plains longest op a b) (simple_of longest (on_plains longest op a b) (plains_give longest op a b))
hidden_from_two observer longest Push (Bare (Items items)) (Sealed label content) = pushed-hidden observer longest items (Sealed label content)
hidden_from_two observer longest op (Bare (Items items)) (Sealed label content) = refl
hidden_from_two observer longest op (Bare a) (Sealed label content) = refl
hidden_from_two observer longest op (Sealed label content) b = refl

-- ---- what two values give is made of them

simple-made : (a b : Value) (given : Result Plain FaultKind) → IsPublic (bare given) → IsMadeOf a b (bare given)
simple-made a b (Ok plain) simple = inl simple
simple-made a b (Err kind) simple = simple

-- a list of values each of which is a part
list-of-parts : (a b : Value) (values : List Value) → All (IsPartOf a b) values → IsMadeOf a b (list values)
list-of-parts a b values parts = inr (inr (subst (All (IsPartOf a b)) (sym (values_of-forest_of values)) parts))

made-of-parts : (a b : Value) (longest : ℕ) (values : List Value) → All (IsPartOf a b) values → IsMadeOf a b (made_list longest values)
made-of-parts a b longest values parts = by (may_be_made longest (forest_of values))
  where
    by : (t : Bool) → IsMadeOf a b (if t then list values else Err TooLong)
    by true = list-of-parts a b values parts
    by false = tt

-- the items of the left list are parts
left-parts : (items : Forest) (b : Value) → All (IsPartOf (Bare (Items items)) b) (values_of items)
left-parts items b k d within = inl (Contains-get_or (values_of items) k d within)

right-parts : (a : Value) (items : Forest) → All (IsPartOf a (Bare (Items items))) (values_of items)
right-parts a items k d within = inr (inl (Contains-get_or (values_of items) k d within))

pushed-parts : (longest : ℕ) (items : Forest) (b : Value) → IsMadeOf (Bare (Items items)) b (made_list longest (values_of items ++ b ∷ []))
pushed-parts longest items b =
    let a : Value = Bare (Items items) in
    made-of-parts a b longest (values_of items ++ b ∷ [])
    (All-append (IsPartOf a b) (values_of items) (b ∷ []) (left-parts items b) (All-cons (IsPartOf a b) b [] (inr (inr refl)) (All-nil (IsPartOf a b))))

contains-at : (xs : List Value) (place : ℕ) (value : Value) → slice_get xs place ≡ Some value → Contains xs value
contains-at [] place value is = absurd (let none : None ≡ Some value = is in cc)
contains-at (x ∷ xs) zero value is = (0, omega arith, let same : Some x ≡ Some value = is in cc)
contains-at (x ∷ xs) (suc place) value is = let rest = contains-at xs place value is in (suc rest.0, omega (arith, rest.1), rest.2)

-- an item at a place
found-parts : (items : Forest) (b : Value) (at : ℤ) → IsMadeOf (Bare (Items items)) b (found (value_at (values_of items) at))
found-parts items b (negsuc number) = tt
found-parts items b (pos place) = by (slice_get (values_of items) place) refl
  where
    by : (o : Option Value) → slice_get (values_of items) place ≡ o → IsMadeOf (Bare (Items items)) b (found o)
    by (Some value) is = inr (inl (contains-at (values_of items) place value is))
    by None is = tt

list-parts : (longest : ℕ) (op : Two) (items : Forest) (b : Plain) → IsMadeOf (Bare (Items items)) (Bare b) (list_and longest op items b)
list-parts longest Push items b = pushed-parts longest items (Bare b)
list-parts longest Add items (Items others) =
    let a : Value = Bare (Items items) in
    let c : Value = Bare (Items others) in
    made-of-parts a c longest (values_of items ++ values_of others)
    (All-append (IsPartOf a c) (values_of items) (values_of others) (left-parts items c) (right-parts a others))
list-parts longest At items (Whole at) = found-parts items (Bare (Whole at)) at
list-parts longest From items (Whole at) =
    let a : Value = Bare (Items items) in
    let b : Value = Bare (Whole at) in
    list-of-parts a b (drop (place_at at) (values_of items)) (All-drop (IsPartOf a b) (place_at at) (values_of items) (left-parts items b))
list-parts longest Upto items (Whole at) =
    let a : Value = Bare (Items items) in
    let b : Value = Bare (Whole at) in
    list-of-parts a b (take (place_at at) (values_of items)) (All-take (IsPartOf a b) (place_at at) (values_of items) (left-parts items b))
list-parts longest op items (Items others) = tt
list-parts longest op items (Whole at) = tt
list-parts longest op items b = tt

pub two_give_parts : TwoGiveParts
unfolding operate2
two_give_parts longest op (Bare (Items items)) (Bare b) = list-parts longest op items b
two_give_parts longest op (Bare a) (Bare b) = simple-made (Bare a) (Bare b) (on_plains longest op a b) (simple_of longest (on_plains longest op a b) (plains_give longest op a b))
two_give_parts longest Push (Bare (Items items)) (Sealed label content) = pushed-parts longest items (Sealed label content)
two_give_parts longest op (Bare (Items items)) (Sealed label content) = tt
two_give_parts longest op (Bare a) (Sealed label content) = tt
two_give_parts longest op (Sealed label content) b = tt

-- ---- a text that two values give is short, but for an item of a list

made-short : (longest : ℕ) (values : List Value) → GivesShort longest (made_list longest values)
made-short longest values = by (may_be_made longest (forest_of values))
  where
    by : (t : Bool) → GivesShort longest (if t then list values else Err TooLong)
    by true = tt
    by false = tt

list-short : (longest : ℕ) (op : Two) (items : Forest) (b : Plain) → (op ≡ At → ⊥) → GivesShort longest (list_and longest op items b)
list-short longest Push items b other = made-short longest (values_of items ++ Bare b ∷ [])
list-short longest Add items (Items others) other = made-short longest (values_of items ++ values_of others)
list-short longest At items (Whole at) other = absurd (other refl)
list-short longest op items (Items others) other = tt
list-short longest op items (Whole at) other = tt
list-short longest op items b other = tt

pub two_give_short : TwoGiveShort
unfolding operate2
two_give_short longest op (Bare (Items items)) (Bare b) other = list-short longest op items b other
two_give_short longest op (Bare a) (Bare b) other = short_of longest (on_plains longest op a b) (plains_give longest op a b)
two_give_short longest Push (Bare (Items items)) (Sealed label content) other = made-short longest (values_of items ++ Sealed label content ∷ [])
two_give_short longest op (Bare (Items items)) (Sealed label content) other = tt
two_give_short longest op (Bare a) (Sealed label content) other = tt
two_give_short longest op (Sealed label content) b other = tt

-- all of them, for the functions whose contracts they are
pub ruleset laws = (
  hidden_from_one,
  hidden_from_two,
  one_gives_simple,
  two_give_parts,
  one_gives_short,
  two_give_short,
)
