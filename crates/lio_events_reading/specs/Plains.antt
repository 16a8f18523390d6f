-- Plain values in lines.
use Rattle.std.specs.Prelude.{ℕ, List, [], ◌++◌, codes, decimal, Option, Some, None}
use Rattle.lio_values.specs.declared.value.Handle.{Handle}
use Rattle.lio_values.specs.declared.value.Plain.{Plain}
use Rattle.lio_values.specs.declared.value.Plain.TheVariants.{Unit as unit, Flag, Whole, Bytes, Lab, Power, RefOf, VarOf, ResultOf, ChanOf, Items}
use Rattle.lio_values.specs.PlainText.{label_in_brackets}
use Rattle.lio_events_reading.specs.declared.words.PlainWord.{PlainWord}
use Rattle.lio_events_reading.specs.declared.words.PlainWord.TheVariants as word
use Rattle.lio_events_reading.specs.Labels.{power_inside}
use Rattle.lio_values.specs.Forest.{Forest}
use Rattle.lio_events_reading.specs.Over.{IsPlainOver}

-- a handle behind its kind
abbrev pub handle_behind : List (List ℕ) → Handle → List ℕ
handle_behind names handle = codes "#" ++ decimal handle.number ++ label_in_brackets names handle.label

-- a list as a plain value
abbrev pub list : Forest → Plain
list items = Items items

-- a plain value that is no list
abbrev pub IsSingle : Plain → Type 0
IsSingle (Items items) = ⊥
IsSingle unit = Unit {0}
IsSingle (Flag flag) = Unit {0}
IsSingle (Whole number) = Unit {0}
IsSingle (Bytes text) = Unit {0}
IsSingle (Lab label) = Unit {0}
IsSingle (Power privilege) = Unit {0}
IsSingle (RefOf handle) = Unit {0}
IsSingle (VarOf handle) = Unit {0}
IsSingle (ResultOf handle) = Unit {0}
IsSingle (ChanOf handle) = Unit {0}

abbrev pub IsSingleOver : List (List ℕ) → Plain → Type 0
IsSingleOver names plain = IsPlainOver names plain × IsSingle plain

-- a plain value that begins with a word or a number
abbrev pub IsWorded : Plain → Type 0
IsWorded (Bytes text) = ⊥
IsWorded (Lab label) = ⊥
IsWorded (Items items) = ⊥
IsWorded unit = Unit {0}
IsWorded (Flag flag) = Unit {0}
IsWorded (Whole number) = Unit {0}
IsWorded (Power privilege) = Unit {0}
IsWorded (RefOf handle) = Unit {0}
IsWorded (VarOf handle) = Unit {0}
IsWorded (ResultOf handle) = Unit {0}
IsWorded (ChanOf handle) = Unit {0}

abbrev pub IsWordedOver : List (List ℕ) → Plain → Type 0
IsWordedOver names plain = IsPlainOver names plain × IsWorded plain

-- the first word of a privilege or a handle, and what stands behind it
abbrev pub word_of_plain : Plain → Option PlainWord
word_of_plain (Power privilege) = Some word.Power
word_of_plain (RefOf handle) = Some word.Ref
word_of_plain (VarOf handle) = Some word.Var
word_of_plain (ResultOf handle) = Some word.Result
word_of_plain (ChanOf handle) = Some word.Chan
word_of_plain unit = None
word_of_plain (Flag flag) = None
word_of_plain (Whole number) = None
word_of_plain (Bytes text) = None
word_of_plain (Lab label) = None
word_of_plain (Items items) = None

abbrev pub plain_behind : List (List ℕ) → Plain → List ℕ
plain_behind names (Power privilege) = power_inside names privilege
plain_behind names (RefOf handle) = handle_behind names handle
plain_behind names (VarOf handle) = handle_behind names handle
plain_behind names (ResultOf handle) = handle_behind names handle
plain_behind names (ChanOf handle) = handle_behind names handle
plain_behind names unit = []
plain_behind names (Flag flag) = []
plain_behind names (Whole number) = []
plain_behind names (Bytes text) = []
plain_behind names (Lab label) = []
plain_behind names (Items items) = []
