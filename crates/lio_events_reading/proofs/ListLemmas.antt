-- Lists are found.
use Rattle.std.proofs.Common.{◌≡◌, ℕ, ◌-◌, ◌^◌, ◌<◌, ◌≤◌, ◌==◌, true, false, zero, suc, All, IsTrue, List, [], ◌∷◌, ◌++◌, length, drop, refl, ap, sym, subst, ◌∙◌, arith, append_assoc, codes, true≢false, not, ne_eqb, append-nil, ℤ, pos, negsuc}
use Rattle.std.specs.Prelude.{decimal}
use Rattle.std.specs.Fmt.{signed_decimal}
use Rattle.std.specs.List.{list_all}
use Rattle.std.proofs.lemmas.Bool.{and_parts}
use Rattle.std.proofs.lemmas.Bool.Decides.{nat_tests}
use Rattle.std.proofs.lemmas.Fmt.{digits_decimal, decimal_nonempty}
use Rattle.lio_values.specs.declared.value.Plain.{Plain}
use Rattle.lio_values.specs.declared.value.Plain.TheVariants.{Unit as unit, Flag, Whole, Bytes, Lab, Power, RefOf, VarOf, ResultOf, ChanOf, Items}
use Rattle.lio_values.specs.declared.value.Value.{Value}
use Rattle.lio_values.specs.declared.value.Value.TheVariants.{Bare, Sealed}
use Rattle.lio_values.specs.Forest.{Item, Forest, Nothing, Then, tree_depth, item_depth, deepest}
use Rattle.lio_values.specs.ForestText.{items_text, further_text, IsItemNamed, AreItemsNamed}
use Rattle.lio_values.specs.Measures.{item_is_pure, items_are_pure, value_depth}
use Rattle.lio_values.specs.PlainText.{plain_text}
use Rattle.lio_values.specs.Purity.{KeepsPureItem, KeepPureItems}
use Rattle.lio_values.specs.ValueText.{value_text}
use Rattle.lio_values.specs.Views.{tree_of, item_of, forest_of, values_of, item_of-value_of, forest_of-values_of}
use Rattle.lio_syntax_lines.specs.Literals.{is_digit, is_whole}
use Rattle.lio_syntax_lines.proofs.PrintedLemmas.{own}
use Rattle.lio_events_reading.specs.declared.start.Start.TheVariants as start
use Rattle.lio_events_reading.specs.Start.{start_of}
use Rattle.lio_events_reading.specs.Fits.{PlainFits, ValueFits, ItemFits, ItemsFit}
use Rattle.lio_events_reading.specs.Lists.{is_no_end, begins_item, sign_len}
use Rattle.lio_events_reading.specs.Over.{IsValueWithin, IsPureWithin}
use Rattle.lio_events_reading.specs.Plains.{list, IsSingle, IsSingleOver}
use Rattle.lio_events_reading.specs.Reading.{Ends, Finds}
use Rattle.lio_events_reading.specs.Values.{list_value, IsSealedOver}
use Rattle.lio_events_reading.proofs.PlainLemmas.{start_kind, starts_plain}

-- no value begins with the end of a list
no_end_digit : (byte : ℕ) → is_digit byte ≡ true → not (byte == 93) ≡ true
no_end_digit byte e = let high : byte ≤ 57 = grind (arith, nat_tests) in rw (ne_eqb byte 93 (omega arith)) refl

no_end_digits : (digits rest : List ℕ) → 0 < length digits → list_all is_digit digits ≡ true → is_no_end (digits ++ rest) ≡ true
no_end_digits [] rest some all = absurd (omega arith)
no_end_digits (digit ∷ digits) rest some all = no_end_digit digit (and_parts (is_digit digit) (list_all is_digit digits) all).0

no_end_whole : (z : ℤ) (rest : List ℕ) → is_whole z ≡ true → is_no_end (signed_decimal z ++ rest) ≡ true
no_end_whole (pos n) rest e = let small : n < 2 ^ 64 = grind (arith, nat_tests) in no_end_digits (decimal n) rest (decimal_nonempty n small) (digits_decimal own n small)
no_end_whole (negsuc n) rest e = refl

pub no_end : (names : List (List ℕ)) (value : Value) (rest : List ℕ) → ValueFits value → is_no_end (value_text names value ++ rest) ≡ true
no_end names (Sealed label content) rest fits = refl
no_end names (Bare (Whole z)) rest fits = no_end_whole z rest fits
no_end names (Bare (Flag true)) rest fits = refl
no_end names (Bare (Flag false)) rest fits = refl
no_end names (Bare unit) rest fits = refl
no_end names (Bare plain) rest fits = refl

-- the text of a list behind the items that were found: `[` or what goes on, and the items that are left
abbrev pub left_text : List (List ℕ) → List Value → List Value → List ℕ
left_text names [] more = codes "[" ++ items_text names (forest_of more)
left_text names (value ∷ values) more = further_text names (forest_of more)

-- the items that are left
pub record Left (names : List (List ℕ)) (over : Value → Type 0) (found : List Value) (text : List ℕ) (all : List Value) (rest : List ℕ) : Type 0 where
  pub more : List Value
  pub are : all ≡ found ++ more
  pub over_more : All over more
  pub stands : text ≡ left_text names found more ++ (codes "]" ++ rest)

pub all_left : (names : List (List ℕ)) (over : Value → Type 0) (text : List ℕ) (all : List Value) (rest : List ℕ) → All over all → text ≡ value_text names (list_value (forest_of all)) ++ rest → Left names over [] text all rest
all_left names over text all rest o is = record {
  more = all;
  are = refl;
  over_more = o;
  stands = is ∙ append_assoc (codes "[" ++ items_text names (forest_of all)) (codes "]") rest;
}

-- where no further item begins, all were found, and the end is next
pub none_left : (names : List (List ℕ)) (over : Value → Type 0) → ((value : Value) → over value → ValueFits value) → (found : List Value) (text next : List ℕ) (all : List Value) (rest : List ℕ)
    → begins_item text ≡ false → next ≡ drop (3 - sign_len found) text → Left names over found text all rest → (found ≡ all) × (next ≡ rest)
none_left names over fits found text next all rest e d left = by found left.more left.are left.over_more left.stands d
  where
    by : (found more : List Value) → all ≡ found ++ more → All over more → text ≡ left_text names found more ++ (codes "]" ++ rest) → next ≡ drop (3 - sign_len found) text → (found ≡ all) × (next ≡ rest)
    by [] [] are o stands d = (sym are, d ∙ ap (λ bytes. drop 2 bytes) stands)
    by (first ∷ found) [] are o stands d = (sym (are ∙ append-nil (first ∷ found)), d ∙ ap (λ bytes. drop 1 bytes) stands)
    by [] (value ∷ more) are o stands d =
        let tail : List ℕ = further_text names (forest_of more) ++ (codes "]" ++ rest) in
        let here : text ≡ codes "[" ++ (value_text names value ++ tail) = stands ∙ ap (λ bytes. codes "[" ++ bytes) (append_assoc (value_text names value) (further_text names (forest_of more)) (codes "]" ++ rest)) in
        let yes : begins_item text ≡ true = ap begins_item here ∙ rw (no_end names value tail (fits value (o 0 value (omega arith)))) refl in
        absurd (true≢false (sym yes ∙ e))
    by (first ∷ found) (value ∷ more) are o stands d =
        let yes : begins_item text ≡ true = ap begins_item stands in
        absurd (true≢false (sym yes ∙ e))

-- behind an item a word may end
pub further_end : (names : List (List ℕ)) (more : List Value) (rest : List ℕ) → Ends (further_text names (forest_of more) ++ (codes "]" ++ rest))
further_end names [] rest = refl
further_end names (value ∷ more) rest = refl

-- one item less
pub one_less : (names : List (List ℕ)) (over : Value → Type 0) (found : List Value) (text one : List ℕ) (value : Value) (next : List ℕ) (all : List Value) (rest : List ℕ) → begins_item text ≡ true → one ≡ drop (sign_len found) text
    → Finds (value_text names) over one value next → Left names over found text all rest → Left names over (found ++ value ∷ []) next all rest
one_less names over found text one value next all rest e d finds left = by found left.more left.are left.over_more left.stands d
  where
    go : (found : List Value) (v : Value) (more : List Value) → all ≡ found ++ v ∷ more → All over (v ∷ more) → one ≡ value_text names v ++ (further_text names (forest_of more) ++ (codes "]" ++ rest))
        → ((x : Value) → left_text names (found ++ x ∷ []) more ≡ further_text names (forest_of more)) → Left names over (found ++ value ∷ []) next all rest
    go found v more are o here goes =
        let g = finds v _ (o 0 v (omega arith)) (further_end names more rest) here in
        record {
          more = more;
          are = are ∙ sym (append_assoc found (v ∷ []) more) ∙ ap (λ x. (found ++ x ∷ []) ++ more) (sym g.0);
          over_more = λ k def within. o (suc k) def (omega arith);
          stands = g.1 ∙ ap (λ bytes. bytes ++ (codes "]" ++ rest)) (sym (goes value));
        }

    by : (found more : List Value) → all ≡ found ++ more → All over more → text ≡ left_text names found more ++ (codes "]" ++ rest) → one ≡ drop (sign_len found) text → Left names over (found ++ value ∷ []) next all rest
    by [] [] are o stands d = let no : begins_item text ≡ false = ap begins_item stands in absurd (true≢false (sym e ∙ no))
    by (first ∷ found) [] are o stands d = let no : begins_item text ≡ false = ap begins_item stands in absurd (true≢false (sym e ∙ no))
    by [] (v ∷ more) are o stands d =
        go [] v more are o (d ∙ ap (λ bytes. drop 1 bytes) stands ∙ append_assoc (value_text names v) (further_text names (forest_of more)) (codes "]" ++ rest)) (λ x. refl)
    by (first ∷ found) (v ∷ more) are o stands d =
        go (first ∷ found) v more are o (d ∙ ap (λ bytes. drop 2 bytes) stands ∙ append_assoc (value_text names v) (further_text names (forest_of more)) (codes "]" ++ rest)) (λ x. refl)

-- what holds of each item
abbrev pub each : (Item → Type 0) → Forest → Type 0
each over Nothing = Unit {0}
each over (Then item items) = over item × each over items

pub apart : (over : Item → Type 0) (items : Forest) → each over items → All (λ value. over (item_of value)) (values_of items)
apart over Nothing o k def within = absurd (omega arith)
apart over (Then item items) o zero def within = subst over (sym (item_of-value_of item)) o.0
apart over (Then item items) o (suc k) def within = apart over items o.1 k def (omega arith)

together : (over : Item → Type 0) (values : List Value) → All (λ value. over (item_of value)) values → each over (forest_of values)
together over [] o = tt
together over (value ∷ values) o = (o 0 value (omega arith), together over values (λ k def within. o (suc k) def (omega arith)))

-- an item of a list of this depth
abbrev pub IsItemWithin : List (List ℕ) → (Item → Type 0) → ℕ → Item → Type 0
IsItemWithin names pure depth item = (IsItemNamed names item × ItemFits item × pure item) × (item_depth item ≤ depth)

-- what is known of a list's items, and so of each
record AreWithin (names : List (List ℕ)) (depth : ℕ) (items : Forest) : Type 0 where
  named : AreItemsNamed names items
  fit : ItemsFit items
  deep : deepest items ≤ depth

pub values_each : (names : List (List ℕ)) (depth : ℕ) (items : Forest) → AreItemsNamed names items → ItemsFit items → KeepPureItems items → deepest items ≤ depth → each (IsItemWithin names KeepsPureItem depth) items
values_each names depth Nothing n f p d = tt
values_each names depth (Then item items) n f p d = (((n.0, f.0, p.0), omega (arith, d)), values_each names depth items n.1 f.1 p.1 (omega (arith, d)))

pub pures_each : (names : List (List ℕ)) (depth : ℕ) (items : Forest) → AreItemsNamed names items → ItemsFit items → IsTrue (items_are_pure items) → deepest items ≤ depth
    → each (IsItemWithin names (λ item. IsTrue (item_is_pure item)) depth) items
pures_each names depth Nothing n f p d = tt
pures_each names depth (Then item items) n f p d =
    let parts = and_parts (item_is_pure item) (items_are_pure items) p in
    (((n.0, f.0, parts.0), omega (arith, d)), pures_each names depth items n.1 f.1 parts.1 (omega (arith, d)))

within : (names : List (List ℕ)) (pure : Item → Type 0) (depth : ℕ) (items : Forest) → each (IsItemWithin names pure depth) items → AreWithin names depth items
within names pure depth Nothing o = record { named = tt; fit = tt; deep = omega arith }
within names pure depth (Then item items) o =
    let more = within names pure depth items o.1 in
    let here : item_depth item ≤ depth = o.0.1 in
    record { named = (o.0.0.0, more.named); fit = (o.0.0.1, more.fit); deep = omega (arith, more.deep, here) }

keep : (names : List (List ℕ)) (depth : ℕ) (items : Forest) → each (IsItemWithin names KeepsPureItem depth) items → KeepPureItems items
keep names depth Nothing o = tt
keep names depth (Then item items) o = (o.0.0.2, keep names depth items o.1)

are_pure : (names : List (List ℕ)) (depth : ℕ) (items : Forest) → each (IsItemWithin names (λ item. IsTrue (item_is_pure item)) depth) items → IsTrue (items_are_pure items)
are_pure names depth Nothing o = refl
are_pure names depth (Then item items) o = rw (o.0.0.2) (are_pure names depth items o.1)

-- an item of a pure list
abbrev pub IsPureItem : List (List ℕ) → ℕ → Value → Type 0
IsPureItem names depth value = (IsItemNamed names (item_of value) × ItemFits (item_of value) × IsTrue (item_is_pure (item_of value))) × (item_depth (item_of value) ≤ depth)

pub pure_item : (names : List (List ℕ)) (depth : ℕ) (one : List ℕ) (item : Plain) (next : List ℕ) → Finds (plain_text names) (IsPureWithin names depth) one item next → Finds (value_text names) (IsPureItem names depth) one (Bare item) next
pure_item names depth one item next finds (Bare plain) rest o e is = let g = finds plain rest o e is in (ap Bare g.0, g.1)
pure_item names depth one item next finds (Sealed label content) rest o e is = absurd (true≢false (sym o.0.2))

-- the same items are one list
same_items : (items others : Forest) → values_of items ≡ values_of others → items ≡ others
same_items items others is = sym (forest_of-values_of items) ∙ ap forest_of is ∙ forest_of-values_of others

abbrev FindsValues : List (List ℕ) → (Value → Type 0) → List ℕ → Forest → List ℕ → Type 0
FindsValues names over old items left = (all : List Value) (rest : List ℕ) → All over all → old ≡ value_text names (list_value (forest_of all)) ++ rest → (values_of items ≡ all) × (left ≡ rest)

found_list : (names : List (List ℕ)) (over : Value → Type 0) (old : List ℕ) (items : Forest) (left : List ℕ) → FindsValues names over old items left
    → (f : Forest) (rest : List ℕ) → All over (values_of f) → old ≡ value_text names (list_value f) ++ rest → (items ≡ f) × (left ≡ rest)
found_list names over old items left finds f rest o is =
    let g = finds (values_of f) rest o (is ∙ ap (λ items. value_text names (list_value items) ++ rest) (sym (forest_of-values_of f))) in
    (same_items items f g.0, g.1)

pub finds_values : (names : List (List ℕ)) (depth : ℕ) (old : List ℕ) (items : Forest) (left : List ℕ) → 1 ≤ depth → FindsValues names (IsValueWithin names (depth - 1)) old items left
    → Finds (λ items. value_text names (list_value items)) (λ items. IsValueWithin names depth (list_value items)) old items left
finds_values names depth old items left some finds f rest o e is =
    let few : deepest f ≤ depth - 1 = omega (arith, o.1, some) in
    found_list names (IsValueWithin names (depth - 1)) old items left finds f rest
    (apart (IsItemWithin names KeepsPureItem (depth - 1)) f (values_each names (depth - 1) f o.0.0 o.0.1.1 o.0.2 few)) is

pub finds_pures : (names : List (List ℕ)) (depth : ℕ) (old : List ℕ) (items : Forest) (left : List ℕ) → 1 ≤ depth → FindsValues names (IsPureItem names (depth - 1)) old items left
    → Finds (λ items. plain_text names (list items)) (λ items. IsPureWithin names depth (list items)) old items left
finds_pures names depth old items left some finds f rest o e is =
    let few : deepest f ≤ depth - 1 = omega (arith, o.1, some) in
    found_list names (IsPureItem names (depth - 1)) old items left finds f rest
    (apart (IsItemWithin names (λ item. IsTrue (item_is_pure item)) (depth - 1)) f (pures_each names (depth - 1) f o.0.0 o.0.1.1 o.0.2 few)) is

-- a list whose items are over the names is too
pub values_over : (names : List (List ℕ)) (depth : ℕ) (items : Forest) → 1 ≤ depth → depth ≤ 8 → All (IsValueWithin names (depth - 1)) (values_of items) → IsValueWithin names depth (list_value items)
values_over names depth items some few o =
    let all = subst (each (IsItemWithin names KeepsPureItem (depth - 1))) (forest_of-values_of items) (together (IsItemWithin names KeepsPureItem (depth - 1)) (values_of items) o) in
    let w = within names KeepsPureItem (depth - 1) items all in
    ((w.named, (omega (arith, w.deep, some, few), w.fit), keep names (depth - 1) items all), omega (arith, w.deep, some))

pub pures_over : (names : List (List ℕ)) (depth : ℕ) (items : Forest) → 1 ≤ depth → depth ≤ 8 → All (IsPureItem names (depth - 1)) (values_of items) → IsPureWithin names depth (list items)
pures_over names depth items some few o =
    let pure : Item → Type 0 = λ item. IsTrue (item_is_pure item) in
    let all = subst (each (IsItemWithin names pure (depth - 1))) (forest_of-values_of items) (together (IsItemWithin names pure (depth - 1)) (values_of items) o) in
    let w = within names pure (depth - 1) items all in
    ((w.named, (omega (arith, w.deep, some, few), w.fit), are_pure names (depth - 1) items all), omega (arith, w.deep, some))

pub one_is_over : (over : Value → Type 0) (value : Value) → over value → All over (value ∷ [])
one_is_over over value o zero def within = o
one_is_over over value o (suc k) def within = absurd (omega arith)

-- no list is within depth 0
pub no_list : (names : List (List ℕ)) (items : Forest) → IsPureWithin names 0 (list items) → ⊥
no_list names items o = absurd (omega (arith, o.1))

-- by what a value begins with
pub finds_list : (names : List (List ℕ)) (depth : ℕ) (old : List ℕ) (items : Forest) (left : List ℕ) → start_of old ≡ start.List
    → Finds (λ items. plain_text names (list items)) (λ items. IsPureWithin names depth (list items)) old items left → Finds (plain_text names) (IsPureWithin names depth) old (list items) left
finds_list names depth old items left begins finds (Items f) rest o e is = let g = finds f rest o e is in (ap list g.0, g.1)
finds_list names depth old items left begins finds unit rest o e is = let no : start.List ≡ start.Word = sym begins ∙ ap start_of is in absurd (cc)
finds_list names depth old items left begins finds plain rest o e is =
    let no : start.List ≡ start_kind plain = sym begins ∙ ap start_of is ∙ starts_plain names plain rest o.0.1 in absurd (cc)

pub finds_no_list : (names : List (List ℕ)) (depth : ℕ) (old : List ℕ) (found : Plain) (left : List ℕ) → (start_of old ≡ start.List → depth ≡ 0) → Finds (plain_text names) (IsSingleOver names) old found left
    → Finds (plain_text names) (IsPureWithin names depth) old found left
finds_no_list names depth old found left none finds (Items f) rest o e is =
    let begins : start_of old ≡ start.List = ap start_of is in absurd (omega (arith, none begins, o.1))
finds_no_list names depth old found left none finds unit rest o e is = finds unit rest ((o.0.0, o.0.1), tt) e is
finds_no_list names depth old found left none finds (Flag flag) rest o e is = finds (Flag flag) rest ((o.0.0, o.0.1), tt) e is
finds_no_list names depth old found left none finds (Whole number) rest o e is = finds (Whole number) rest ((o.0.0, o.0.1), tt) e is
finds_no_list names depth old found left none finds (Bytes text) rest o e is = finds (Bytes text) rest ((o.0.0, o.0.1), tt) e is
finds_no_list names depth old found left none finds (Lab label) rest o e is = finds (Lab label) rest ((o.0.0, o.0.1), tt) e is
finds_no_list names depth old found left none finds (Power privilege) rest o e is = finds (Power privilege) rest ((o.0.0, o.0.1), tt) e is
finds_no_list names depth old found left none finds (RefOf handle) rest o e is = finds (RefOf handle) rest ((o.0.0, o.0.1), tt) e is
finds_no_list names depth old found left none finds (VarOf handle) rest o e is = finds (VarOf handle) rest ((o.0.0, o.0.1), tt) e is
finds_no_list names depth old found left none finds (ResultOf handle) rest o e is = finds (ResultOf handle) rest ((o.0.0, o.0.1), tt) e is
finds_no_list names depth old found left none finds (ChanOf handle) rest o e is = finds (ChanOf handle) rest ((o.0.0, o.0.1), tt) e is

-- what is no list is pure, and within each depth
pub single_over : (names : List (List ℕ)) (depth : ℕ) (plain : Plain) → IsSingleOver names plain → IsPureWithin names depth plain
single_over names depth (Items f) o = absurd o.1
single_over names depth unit o = ((o.0.0, o.0.1, refl), omega arith)
single_over names depth (Flag flag) o = ((o.0.0, o.0.1, refl), omega arith)
single_over names depth (Whole number) o = ((o.0.0, o.0.1, refl), omega arith)
single_over names depth (Bytes text) o = ((o.0.0, o.0.1, refl), omega arith)
single_over names depth (Lab label) o = ((o.0.0, o.0.1, refl), omega arith)
single_over names depth (Power privilege) o = ((o.0.0, o.0.1, refl), omega arith)
single_over names depth (RefOf handle) o = ((o.0.0, o.0.1, refl), omega arith)
single_over names depth (VarOf handle) o = ((o.0.0, o.0.1, refl), omega arith)
single_over names depth (ResultOf handle) o = ((o.0.0, o.0.1, refl), omega arith)
single_over names depth (ChanOf handle) o = ((o.0.0, o.0.1, refl), omega arith)

-- each pure value of the code's types is within depth 8
pub within_all : (plain : Plain) → PlainFits plain → tree_depth (tree_of plain) ≤ 8
within_all (Items f) fits = omega (arith, fits.0)
within_all unit fits = omega arith
within_all (Flag flag) fits = omega arith
within_all (Whole number) fits = omega arith
within_all (Bytes text) fits = omega arith
within_all (Lab label) fits = omega arith
within_all (Power privilege) fits = omega arith
within_all (RefOf handle) fits = omega arith
within_all (VarOf handle) fits = omega arith
within_all (ResultOf handle) fits = omega arith
within_all (ChanOf handle) fits = omega arith

pub value_within_all : (value : Value) → ValueFits value → value_depth value ≤ 8
value_within_all (Bare plain) fits = within_all plain fits
value_within_all (Sealed label content) fits = omega arith

-- the same of values
pub finds_list_value : (names : List (List ℕ)) (depth : ℕ) (old : List ℕ) (items : Forest) (left : List ℕ) → start_of old ≡ start.List
    → Finds (λ items. value_text names (list_value items)) (λ items. IsValueWithin names depth (list_value items)) old items left → Finds (value_text names) (IsValueWithin names depth) old (list_value items) left
finds_list_value names depth old items left begins finds (Bare (Items f)) rest o e is = let g = finds f rest o e is in (ap list_value g.0, g.1)
finds_list_value names depth old items left begins finds (Sealed label content) rest o e is = let no : start.List ≡ start.Sealed = sym begins ∙ ap start_of is in absurd (cc)
finds_list_value names depth old items left begins finds (Bare unit) rest o e is = let no : start.List ≡ start.Word = sym begins ∙ ap start_of is in absurd (cc)
finds_list_value names depth old items left begins finds (Bare plain) rest o e is =
    let no : start.List ≡ start_kind plain = sym begins ∙ ap start_of is ∙ starts_plain names plain rest o.0.1 in absurd (cc)

pub finds_sealed_within : (names : List (List ℕ)) (depth : ℕ) (old : List ℕ) (found : Value) (left : List ℕ) → start_of old ≡ start.Sealed → Finds (value_text names) (IsSealedOver names) old found left
    → Finds (value_text names) (IsValueWithin names depth) old found left
finds_sealed_within names depth old found left begins finds (Sealed label content) rest o e is = finds (Sealed label content) rest (o.0, tt) e is
finds_sealed_within names depth old found left begins finds (Bare unit) rest o e is = let no : start.Sealed ≡ start.Word = sym begins ∙ ap start_of is in absurd (cc)
finds_sealed_within names depth old found left begins finds (Bare plain) rest o e is =
    let no : start.Sealed ≡ start_kind plain = sym begins ∙ ap start_of is ∙ starts_plain names plain rest o.0.1 in absurd (no_sealed plain no)
  where
    no_sealed : (plain : Plain) → start.Sealed ≡ start_kind plain → ⊥
    no_sealed (Items f) e = absurd (cc)
    no_sealed unit e = absurd (cc)
    no_sealed (Bytes text) e = absurd (cc)
    no_sealed (Lab label) e = absurd (cc)
    no_sealed (Flag flag) e = absurd (cc)
    no_sealed (Whole number) e = absurd (cc)
    no_sealed (Power privilege) e = absurd (cc)
    no_sealed (RefOf handle) e = absurd (cc)
    no_sealed (VarOf handle) e = absurd (cc)
    no_sealed (ResultOf handle) e = absurd (cc)
    no_sealed (ChanOf handle) e = absurd (cc)

pub sealed_within : (names : List (List ℕ)) (depth : ℕ) (value : Value) → IsSealedOver names value → IsValueWithin names depth value
sealed_within names depth (Sealed label content) o = (o.0, omega arith)
sealed_within names depth (Bare plain) o = absurd o.1

pub finds_bare : (names : List (List ℕ)) (depth : ℕ) (old : List ℕ) (found : Plain) (left : List ℕ) → (start_of old ≡ start.Sealed → ⊥) → (start_of old ≡ start.List → depth ≡ 0)
    → Finds (plain_text names) (IsSingleOver names) old found left → Finds (value_text names) (IsValueWithin names depth) old (Bare found) left
finds_bare names depth old found left unsealed none finds (Sealed label content) rest o e is = absurd (unsealed (ap start_of is))
finds_bare names depth old found left unsealed none finds (Bare plain) rest o e is =
    let g = finds plain rest ((o.0.0, o.0.1), single plain (λ f same. omega (arith, none (ap start_of is ∙ begins plain f same), subst (λ p. tree_depth (tree_of p) ≤ depth) same o.1))) e is in
    (ap Bare g.0, g.1)
  where
    begins : (plain : Plain) (f : Forest) → plain ≡ Items f → start_of (plain_text names plain ++ rest) ≡ start.List
    begins plain f same = rw same refl

    single : (plain : Plain) → ((f : Forest) → plain ≡ Items f → ⊥) → IsSingle plain
    single (Items f) unlisted = unlisted f refl
    single unit unlisted = tt
    single (Flag flag) unlisted = tt
    single (Whole number) unlisted = tt
    single (Bytes text) unlisted = tt
    single (Lab label) unlisted = tt
    single (Power privilege) unlisted = tt
    single (RefOf handle) unlisted = tt
    single (VarOf handle) unlisted = tt
    single (ResultOf handle) unlisted = tt
    single (ChanOf handle) unlisted = tt

pub bare_over : (names : List (List ℕ)) (depth : ℕ) (plain : Plain) → IsSingleOver names plain → IsValueWithin names depth (Bare plain)
bare_over names depth (Items f) o = absurd o.1
bare_over names depth unit o = ((o.0.0, o.0.1, tt), omega arith)
bare_over names depth (Flag flag) o = ((o.0.0, o.0.1, tt), omega arith)
bare_over names depth (Whole number) o = ((o.0.0, o.0.1, tt), omega arith)
bare_over names depth (Bytes text) o = ((o.0.0, o.0.1, tt), omega arith)
bare_over names depth (Lab label) o = ((o.0.0, o.0.1, tt), omega arith)
bare_over names depth (Power privilege) o = ((o.0.0, o.0.1, tt), omega arith)
bare_over names depth (RefOf handle) o = ((o.0.0, o.0.1, tt), omega arith)
bare_over names depth (VarOf handle) o = ((o.0.0, o.0.1, tt), omega arith)
bare_over names depth (ResultOf handle) o = ((o.0.0, o.0.1, tt), omega arith)
bare_over names depth (ChanOf handle) o = ((o.0.0, o.0.1, tt), omega arith)
