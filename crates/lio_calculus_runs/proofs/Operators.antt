-- Each principal in what an operator gives, or in its fault, has a name where each in the operands has one.
use Rattle.std.proofs.Common.{◌≡◌, refl, sym, subst, ℕ, ℤ, List, [], ◌∷◌, All, Bool, true, false, if◌then◌else◌, nat_le, length, Result, Ok, Err, Option, Some, None}
use Rattle.std.specs.Ordering.{int_eq}
use Rattle.std.specs.Prelude.{pos, negsuc, slice_get, ◌++◌, drop, take, ◌+ℤ◌, ◌-ℤ◌, ◌*ℤ◌, neg_ℤ, int_div, int_rem, codes}
use Rattle.std.specs.Fmt.{signed_decimal}
use Rattle.std.proofs.lemmas.List.Elements.{All-nil, All-head, All-tail, All-cons, All-append, All-take, All-drop}
use Rattle.lio_labels.specs.declared.label.Label.{Label}
use Rattle.lio_labels.specs.Bounds.{join, meet}
use Rattle.lio_labels.specs.LabelPrint.{AreNamed}
use Rattle.lio_labels.proofs.NamedLemmas.{join_is_named, meet_is_named}
use Rattle.lio_values.specs.declared.value.Plain.{Plain}
use Rattle.lio_values.specs.declared.value.Plain.TheVariants.{Unit as unit, Flag, Whole, Bytes, Lab, RefOf, VarOf, ResultOf, ChanOf, Items}
use Rattle.lio_values.specs.declared.value.Value.{Value}
use Rattle.lio_values.specs.declared.value.Value.TheVariants.{Bare, Sealed}
use Rattle.lio_values.specs.declared.fault.FaultKind.{FaultKind}
use Rattle.lio_values.specs.declared.fault.FaultKind.TheVariants.{Overflow, DivZero, TooLong, LabelWide}
use Rattle.lio_values.specs.Forest.{Forest, Nothing, Then}
use Rattle.lio_values.specs.ForestText.{IsItemNamed, AreItemsNamed}
use Rattle.lio_values.specs.PlainText.{IsPlainNamed}
use Rattle.lio_values.specs.Views.{value_of, values_of, forest_of, item_of-value_of}
use Rattle.lio_syntax_lines.specs.declared.operators.One.{One}
use Rattle.lio_syntax_lines.specs.declared.operators.One.TheVariants.{Not, Neg, Len, Num, Str, LabelOf}
use Rattle.lio_syntax_lines.specs.declared.operators.Two.{Two}
use Rattle.lio_syntax_lines.specs.declared.operators.Two.TheVariants.{Add, Sub, Mul, Div, Rem, Eq, From, Upto, Join, Meet, Push, At}
use Rattle.lio_syntax_lines.specs.Literals.{whole_of, is_whole}
use Rattle.lio_values.specs.Named.{IsKindNamed, IsValueNamed}
use Rattle.lio_operators.specs.Wholes.{fitting, divided, on_wholes}
use Rattle.lio_operators.specs.Texts.{made, place_at, on_texts, on_text_at}
use Rattle.lio_operators.specs.Labels.{is_wide, bounded, on_labels}
use Rattle.lio_operators.specs.Flags.{on_flags, on_units}
use Rattle.lio_operators.specs.Lists.{list, may_be_made, made_list, found, value_at, on_last, list_and}
use Rattle.lio_operators.specs.Operators.{bare, not_of, neg_of, len_of, whole_read, num_of, flag_text, str_of, label_of, on_plain, on_sealed, operate1, flag_and, unit_and, whole_and, text_and, label_and, on_plains, operate2}
use Rattle.lio_calculus.proofs.Lists.{All-slice_get}

-- each principal in what an operator gives, or in its fault, has a name
abbrev Named : List (List ℕ) → Result Plain FaultKind → Type 0
Named names (Ok plain) = IsPlainNamed names plain
Named names (Err kind) = IsKindNamed names kind

abbrev pub IsGivenNamed : List (List ℕ) → Result Value FaultKind → Type 0
IsGivenNamed names (Ok value) = IsValueNamed names value
IsGivenNamed names (Err kind) = IsKindNamed names kind

bare_named : (names : List (List ℕ)) (given : Result Plain FaultKind) → Named names given → IsGivenNamed names (bare given)
bare_named names (Ok plain) named = named
bare_named names (Err kind) named = named

fitting_named : (names : List (List ℕ)) (number : ℤ) → Named names (fitting number)
fitting_named names number = by (is_whole number)
  where
    by : (b : Bool) → Named names (if b then Ok (Whole number) else Err Overflow)
    by true = tt
    by false = tt

divided_named : (names : List (List ℕ)) (a b number : ℤ) → Named names (divided a b number)
divided_named names a b number = by (int_eq b (pos 0)) (is_whole (int_div a b))
  where
    by : (zero whole : Bool) → Named names (if zero then Err DivZero else (if whole then Ok (Whole number) else Err Overflow))
    by true whole = tt
    by false true = tt
    by false false = tt

made_named : (names : List (List ℕ)) (longest : ℕ) (text : List ℕ) → Named names (made longest text)
made_named names longest text = by (nat_le (length text) longest)
  where
    by : (b : Bool) → Named names (if b then Ok (Bytes text) else Err TooLong)
    by true = tt
    by false = tt

bounded_named : (names : List (List ℕ)) (a b bound : Label) → AreNamed names a → AreNamed names b → AreNamed names bound → Named names (bounded a b bound)
bounded_named names a b bound left right named = by (is_wide bound)
  where
    by : (wide : Bool) → Named names (if wide then Err (LabelWide a b) else Ok (Lab bound))
    by true = (left, right)
    by false = named

-- each table
wholes_named : (names : List (List ℕ)) (op : Two) (a b : ℤ) → Named names (on_wholes op a b)
wholes_named names Add a b = fitting_named names (a +ℤ b)
wholes_named names Sub a b = fitting_named names (a -ℤ b)
wholes_named names Mul a b = fitting_named names (a *ℤ b)
wholes_named names Div a b = divided_named names a b (int_div a b)
wholes_named names Rem a b = divided_named names a b (int_rem a b)
wholes_named names two a b = tt

texts_named : (names : List (List ℕ)) (longest : ℕ) (op : Two) (a b : List ℕ) → Named names (on_texts longest op a b)
texts_named names longest Add a b = made_named names longest (a ++ b)
texts_named names longest two a b = tt

text_at_named : (names : List (List ℕ)) (longest : ℕ) (op : Two) (text : List ℕ) (at : ℤ) → Named names (on_text_at longest op text at)
text_at_named names longest From text at = made_named names longest (drop (place_at at) text)
text_at_named names longest Upto text at = made_named names longest (take (place_at at) text)
text_at_named names longest two text at = tt

labels_named : (names : List (List ℕ)) (op : Two) (a b : Label) → AreNamed names a → AreNamed names b → Named names (on_labels op a b)
labels_named names Join a b left right = bounded_named names a b (join a b) left right (join_is_named names a b left right)
labels_named names Meet a b left right = bounded_named names a b (meet a b) left right (meet_is_named names a b left right)
labels_named names two a b left right = tt

flags_named : (names : List (List ℕ)) (op : Two) (a b : Bool) → Named names (on_flags op a b)
flags_named names Eq a b = tt
flags_named names two a b = tt

units_named : (names : List (List ℕ)) (op : Two) → Named names (on_units op)
units_named names Eq = tt
units_named names two = tt

-- by the kinds of both operands
flag_and_named : (names : List (List ℕ)) (op : Two) (a : Bool) (b : Plain) → Named names (flag_and op a b)
flag_and_named names op a (Flag b) = flags_named names op a b
flag_and_named names op a b = tt

unit_and_named : (names : List (List ℕ)) (op : Two) (b : Plain) → Named names (unit_and op b)
unit_and_named names op unit = units_named names op
unit_and_named names op b = tt

whole_and_named : (names : List (List ℕ)) (op : Two) (a : ℤ) (b : Plain) → Named names (whole_and op a b)
whole_and_named names op a (Whole b) = wholes_named names op a b
whole_and_named names op a b = tt

text_and_named : (names : List (List ℕ)) (longest : ℕ) (op : Two) (a : List ℕ) (b : Plain) → Named names (text_and longest op a b)
text_and_named names longest op a (Bytes b) = texts_named names longest op a b
text_and_named names longest op a (Whole at) = text_at_named names longest op a at
text_and_named names longest op a b = tt

label_and_named : (names : List (List ℕ)) (op : Two) (a : Label) (b : Plain) → AreNamed names a → IsPlainNamed names b → Named names (label_and op a b)
label_and_named names op a (Lab b) left right = labels_named names op a b left right
label_and_named names op a b left right = tt

plains_named : (names : List (List ℕ)) (longest : ℕ) (op : Two) (a b : Plain) → IsPlainNamed names a → IsPlainNamed names b → Named names (on_plains longest op a b)
plains_named names longest op unit b left right = unit_and_named names op b
plains_named names longest op (Flag a) b left right = flag_and_named names op a b
plains_named names longest op (Whole a) b left right = whole_and_named names op a b
plains_named names longest op (Bytes a) b left right = text_and_named names longest op a b
plains_named names longest op (Lab a) b left right = label_and_named names op a b left right
plains_named names longest op a b left right = tt

-- on one value
not_named : (names : List (List ℕ)) (a : Plain) → Named names (not_of a)
not_named names (Flag a) = tt
not_named names a = tt

neg_named : (names : List (List ℕ)) (a : Plain) → Named names (neg_of a)
neg_named names (Whole a) = fitting_named names (neg_ℤ a)
neg_named names a = tt

len_named : (names : List (List ℕ)) (a : Plain) → Named names (len_of a)
len_named names (Bytes a) = tt
len_named names a = tt

read_named : (names : List (List ℕ)) (read : Option ℤ) → Named names (whole_read read)
read_named names (Some number) = tt
read_named names None = tt

num_named : (names : List (List ℕ)) (a : Plain) → Named names (num_of a)
num_named names (Bytes a) = read_named names (whole_of a)
num_named names a = tt

str_named : (names : List (List ℕ)) (longest : ℕ) (a : Plain) → Named names (str_of longest a)
str_named names longest (Whole a) = made_named names longest (signed_decimal a)
str_named names longest (Flag a) = made_named names longest (flag_text a)
str_named names longest unit = made_named names longest (codes "unit")
str_named names longest a = tt

label_named : (names : List (List ℕ)) (a : Plain) → IsPlainNamed names a → Named names (label_of a)
label_named names (RefOf a) named = named
label_named names (VarOf a) named = named
label_named names (ResultOf a) named = named
label_named names (ChanOf a) named = named
label_named names a named = tt

plain_named : (names : List (List ℕ)) (longest : ℕ) (op : One) (a : Plain) → IsPlainNamed names a → Named names (on_plain longest op a)
plain_named names longest Not a named = not_named names a
plain_named names longest Neg a named = neg_named names a
plain_named names longest Len a named = len_named names a
plain_named names longest Num a named = num_named names a
plain_named names longest Str a named = str_named names longest a
plain_named names longest LabelOf a named = label_named names a named

sealed_named : (names : List (List ℕ)) (op : One) (label : Label) → AreNamed names label → Named names (on_sealed op label)
sealed_named names LabelOf label named = named
sealed_named names op label named = tt

pub one_named : (names : List (List ℕ)) (longest : ℕ) (op : One) (a : Value) → IsValueNamed names a → IsGivenNamed names (operate1 longest op a)
unfolding operate1
one_named names longest op (Bare a) named = bare_named names (on_plain longest op a) (plain_named names longest op a named)
one_named names longest op (Sealed label content) named = bare_named names (on_sealed op label) (sealed_named names op label named.0)

-- lists
listed_named : (names : List (List ℕ)) (values : List Value) → All (IsValueNamed names) values → AreItemsNamed names (forest_of values)
listed_named names [] all = tt
listed_named names (value ∷ values) all = (All-head (IsValueNamed names) value values all, listed_named names values (All-tail (IsValueNamed names) value values all))

items_named : (names : List (List ℕ)) (items : Forest) → AreItemsNamed names items → All (IsValueNamed names) (values_of items)
items_named names Nothing named = All-nil (IsValueNamed names)
items_named names (Then item items) named =
    All-cons (IsValueNamed names) (value_of item) (values_of items) (subst (IsItemNamed names) (sym (item_of-value_of item)) named.0) (items_named names items named.1)

made_list_named : (names : List (List ℕ)) (longest : ℕ) (values : List Value) → All (IsValueNamed names) values → IsGivenNamed names (made_list longest values)
made_list_named names longest values all = by (may_be_made longest (forest_of values))
  where
    by : (b : Bool) → IsGivenNamed names (if b then list values else Err TooLong)
    by true = listed_named names values all
    by false = tt

last_named : (names : List (List ℕ)) (longest : ℕ) (op : Two) (items : Forest) (b : Value) → AreItemsNamed names items → IsValueNamed names b → IsGivenNamed names (on_last longest op items b)
last_named names longest Push items b left right =
    made_list_named names longest (values_of items ++ b ∷ []) (All-append (IsValueNamed names) (values_of items) (b ∷ []) (items_named names items left) (All-cons (IsValueNamed names) b [] right (All-nil (IsValueNamed names))))
last_named names longest op items b left right = tt

found_at_named : (names : List (List ℕ)) (values : List Value) (at : ℤ) → All (IsValueNamed names) values → IsGivenNamed names (found (value_at values at))
found_at_named names values (negsuc number) all = tt
found_at_named names values (pos place) all = by (slice_get values place) refl
  where
    by : (o : Option Value) → slice_get values place ≡ o → IsGivenNamed names (found o)
    by (Some value) is = All-slice_get (IsValueNamed names) values place value all is
    by None is = tt

list_and_named : (names : List (List ℕ)) (longest : ℕ) (op : Two) (items : Forest) (b : Plain) → AreItemsNamed names items → IsPlainNamed names b → IsGivenNamed names (list_and longest op items b)
list_and_named names longest Push items b left right = last_named names longest Push items (Bare b) left right
list_and_named names longest Add items (Items others) left right =
    made_list_named names longest (values_of items ++ values_of others) (All-append (IsValueNamed names) (values_of items) (values_of others) (items_named names items left) (items_named names others right))
list_and_named names longest At items (Whole at) left right = found_at_named names (values_of items) at (items_named names items left)
list_and_named names longest From items (Whole at) left right = listed_named names (drop (place_at at) (values_of items)) (All-drop (IsValueNamed names) (place_at at) (values_of items) (items_named names items left))
list_and_named names longest Upto items (Whole at) left right = listed_named names (take (place_at at) (values_of items)) (All-take (IsValueNamed names) (place_at at) (values_of items) (items_named names items left))
list_and_named names longest op items (Items others) left right = tt
list_and_named names longest op items (Whole at) left right = tt
list_and_named names longest op items b left right = tt

pub two_named : (names : List (List ℕ)) (longest : ℕ) (op : Two) (a b : Value) → IsValueNamed names a → IsValueNamed names b → IsGivenNamed names (operate2 longest op a b)
unfolding operate2
two_named names longest op (Bare (Items items)) (Bare b) left right = list_and_named names longest op items b left right
two_named names longest op (Bare a) (Bare b) left right = bare_named names (on_plains longest op a b) (plains_named names longest op a b left right)
two_named names longest op (Bare (Items items)) (Sealed label content) left right = last_named names longest op items (Sealed label content) left right
two_named names longest op (Bare a) (Sealed label content) left right = tt
two_named names longest op (Sealed label content) b left right = tt
