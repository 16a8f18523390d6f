-- Bindings in the order of their names.
use Rattle.std.specs.Prelude.{bytes_eq, map, insert, Some, None, Result, Ok, Err, MatchResult, IsSortedBy, if◌then◌else◌}
use Rattle.std.specs.Ordering.{nat_cmp, is_eq, is_lt, is_le, ordering_reverse}
use Rattle.std.specs.List.Sorted.{IsBinarySearchResult, IsSearchInRange}
use Rattle.std.specs.Cmp.{Equal-is}
use Rattle.std.specs.Cmp.Lexicographic.{slice_cmp}
use Rattle.std.specs.declared.cmp.Ordering.{Ordering}
use Rattle.std.specs.declared.cmp.Ordering.TheVariants.{Less, Equal, Greater}
use Rattle.std.proofs.Common.{◌≡◌, ℕ, zero, suc, ◌<◌, ◌≤◌, true, false, List, [], ◌∷◌, length, take, take_all, set, length-set, get_or, refl, ap, sym, subst, ◌∙◌, arith, add-one, inl, inr}
use Rattle.std.proofs.Math.ListN.{get_or-map}
use Rattle.std.proofs.Math.Seq.{map-set_same}
use Rattle.std.proofs.lemmas.Bool.{cases_Bool, cases_lt, true≢false}
use Rattle.std.proofs.lemmas.Cmp.{nat_list_cmp_total}
use Rattle.std.proofs.lemmas.List.Sorted.{searchable_from_sorted}
use Rattle.std.proofs.lemmas.Map.Text.{is_eq-slice_cmp}
use Rattle.std.proofs.lemmas.Slice.Eq.{bytes_eq-Decides}
use Rattle.lio_labels.specs.declared.label.Label.{Label}
use Rattle.lio_values.specs.declared.value.Plain.TheVariants.{Unit}
use Rattle.lio_values.specs.declared.value.Value.{Value}
use Rattle.lio_values.specs.declared.value.Value.TheVariants.{Bare}
use Rattle.lio_syntax.specs.declared.binding.Binding.{Binding}
use Rattle.lio_syntax.specs.Environment.{Environment, bind_before, bind, value_of}
use Rattle.lio_task_control.specs.Bound.{AreInOrder, ComesBefore, IsBoundAt, IsBoundBefore}
use Rattle.lio_syntax.specs.Hiding.{hide_environment}
use Rattle.lio_task_control.proofs.EnvironmentLemmas.{bind-first, get_or-other, same_name}

-- a name after one that comes before it
after : (a b : List ℕ) → slice_cmp nat_cmp a b ≡ Less → slice_cmp nat_cmp b a ≡ Greater
after a b before = nat_list_cmp_total.antisymm b a ∙ ap ordering_reverse before

before : (a b : List ℕ) → slice_cmp nat_cmp a b ≡ Greater → slice_cmp nat_cmp b a ≡ Less
before a b behind = nat_list_cmp_total.antisymm b a ∙ ap ordering_reverse behind

other_name : (a b : List ℕ) → slice_cmp nat_cmp a b ≡ Less → bytes_eq a b ≡ false
other_name a b first = sym (is_eq-slice_cmp a b) ∙ ap is_eq first

-- a name comes before that at a place
before_at : (name : List ℕ) (bindings : Environment) (i : ℕ) (d : Binding) → ComesBefore name bindings → i < length bindings → slice_cmp nat_cmp name (get_or bindings i d).name ≡ Less
before_at name [] i d behind within = absurd (omega (arith, within))
before_at name (first ∷ rest) zero d behind within = behind.0
before_at name (first ∷ rest) (suc i) d behind within = before_at name rest i d behind.1 (omega (arith, within))

-- what comes before a name comes before all that the name comes before
before_all : (a b : List ℕ) (bindings : Environment) → slice_cmp nat_cmp a b ≡ Less → ComesBefore b bindings → ComesBefore a bindings
before_all a b [] less behind = tt
before_all a b (first ∷ rest) less behind = (nat_list_cmp_total.trans a b first.name less behind.0, before_all a b rest less behind.1)

-- a name that is bound too
before_bound_by : (o : Ordering) (name new : List ℕ) (value : Value) (first : Binding) (rest behind : Environment)
    → slice_cmp nat_cmp name new ≡ Less → ComesBefore name (first ∷ rest) → ComesBefore name behind → ComesBefore name (bind_before o (record { name = new; value = value }) first rest behind)
before_bound_by Less name new value first rest behind less all others = (less, all)
before_bound_by Equal name new value first rest behind less all others = (less, all.1)
before_bound_by Greater name new value first rest behind less all others = (all.0, others)

before_bound : (name new : List ℕ) (value : Value) (bindings : Environment) → slice_cmp nat_cmp name new ≡ Less → ComesBefore name bindings → ComesBefore name (bind bindings new value)
unfolding bind
before_bound name new value [] less all = (less, tt)
before_bound name new value (first ∷ rest) less all =
    before_bound_by (slice_cmp nat_cmp new first.name) name new value first rest (bind rest new value) less all (before_bound name new value rest less all.1)

bound_in_order_by : (o : Ordering) (name : List ℕ) (value : Value) (first : Binding) (rest : Environment)
    → slice_cmp nat_cmp name first.name ≡ o → AreInOrder (first ∷ rest) → AreInOrder (bind rest name value) → AreInOrder (bind_before o (record { name = name; value = value }) first rest (bind rest name value))
bound_in_order_by Less name value first rest is all others = ((is, before_all name first.name rest is all.0), all)
bound_in_order_by Equal name value first rest is all others =
    let P : List ℕ → Type 0 = λ n. ComesBefore n rest in (subst P (sym (same_name name first.name is)) all.0, all.1)
bound_in_order_by Greater name value first rest is all others = (before_bound first.name name value rest (before name first.name is) all.0, others)

pub bound_in_order : (bindings : Environment) (name : List ℕ) (value : Value) → AreInOrder bindings → AreInOrder (bind bindings name value)
unfolding bind
bound_in_order [] name value all = (tt, tt)
bound_in_order (first ∷ rest) name value all = bound_in_order_by (slice_cmp nat_cmp name first.name) name value first rest refl all (bound_in_order rest name value all.1)

-- the name at a place isn't that of the first
other_than_first : (first : Binding) (rest : Environment) (name : List ℕ) (i : ℕ) (d : Binding) → AreInOrder (first ∷ rest) → i < length rest → bytes_eq (get_or rest i d).name name ≡ true
    → slice_cmp nat_cmp first.name name ≡ Less
other_than_first first rest name i d all within same =
    ap (slice_cmp nat_cmp first.name) (sym ((bytes_eq-Decides (get_or rest i d).name name).0 same)) ∙ before_at first.name rest i d all.0 within

-- equal names compare as equal
equal_names : (a b : List ℕ) → a ≡ b → slice_cmp nat_cmp a b ≡ Equal
equal_names a b same = (Equal-is (slice_cmp nat_cmp a b)).0 (is_eq-slice_cmp a b ∙ (bytes_eq-Decides a b).1 same)

-- a name that stands at a place is bound to the value there
value_at : (bindings : Environment) (name : List ℕ) (i : ℕ) (d : Binding) → AreInOrder bindings → i < length bindings → bytes_eq (get_or bindings i d).name name ≡ true
    → value_of bindings name ≡ Some (get_or bindings i d).value
unfolding value_of
value_at [] name i d all within same = absurd (omega (arith, within))
value_at (first ∷ rest) name zero d all within same = ap (λ t. if t then Some first.value else value_of rest name) same
value_at (first ∷ rest) name (suc i) d all within same =
    ap (λ t. if t then Some first.value else value_of rest name) (other_name first.name name (other_than_first first rest name i d all (omega (arith, within)) same))
    ∙ value_at rest name i d all.1 (omega (arith, within)) same

-- and is bound there again
bound_there : (bindings : Environment) (name : List ℕ) (value : Value) (i : ℕ) (d : Binding) → AreInOrder bindings → i < length bindings → bytes_eq (get_or bindings i d).name name ≡ true
    → bind bindings name value ≡ set bindings i (record { name = name; value = value })
bound_there [] name value i d all within same = absurd (omega (arith, within))
bound_there (first ∷ rest) name value zero d all within same =
    bind-first first rest name value Equal (equal_names name first.name (sym ((bytes_eq-Decides first.name name).0 same)))
bound_there (first ∷ rest) name value (suc i) d all within same =
    bind-first first rest name value Greater (after first.name name (other_than_first first rest name i d all (omega (arith, within)) same))
    ∙ ap (λ e. first ∷ e) (bound_there rest name value i d all.1 (omega (arith, within)) same)

pub is_bound_at : (bindings : Environment) (name : List ℕ) (i : ℕ) (b : Binding) → AreInOrder bindings → i < length bindings → b ≡ get_or bindings i b → bytes_eq b.name name ≡ true
    → IsBoundAt bindings name i
is_bound_at bindings name i b all within is same =
    let here : bytes_eq (get_or bindings i b).name name ≡ true = ap (λ (x : Binding). bytes_eq x.name name) (sym is) ∙ same in
    record {
      within = within;
      bound = λ value. bound_there bindings name value i b all within here;
      same = λ d. ap (λ (x : Binding). x.name) (get_or-other bindings i d b within ∙ sym is) ∙ (bytes_eq-Decides b.name name).0 same;
      value = λ d. value_at bindings name i b all within here ∙ ap (λ (x : Binding). Some x.value) (get_or-other bindings i b d within);
    }

-- hidden values change no name
hidden_before : (observer : Label) (name : List ℕ) (bindings : Environment) → ComesBefore name bindings → ComesBefore name (hide_environment observer bindings)
hidden_before observer name [] all = tt
hidden_before observer name (first ∷ rest) all = (all.0, hidden_before observer name rest all.1)

pub hidden_in_order : (observer : Label) (bindings : Environment) → AreInOrder bindings → AreInOrder (hide_environment observer bindings)
hidden_in_order observer [] all = tt
hidden_in_order observer (first ∷ rest) all = (hidden_before observer first.name rest all.0, hidden_in_order observer rest all.1)

-- a binding is found at a place
pub found_at : (bindings items : Environment) (name : List ℕ) (i : ℕ) (b : Binding) → items ≡ bindings → AreInOrder bindings → i < length items → b ≡ get_or items i b → bytes_eq b.name name ≡ true
    → IsBoundAt bindings name i
found_at bindings items name i b same all within is here =
    let inside : i < length bindings = omega (arith, ap length same, within) in
    is_bound_at bindings name i b all inside (is ∙ ap (λ e. get_or e i b) same) here

-- a value is put in the place of another one
pub set_is_bound : (bindings items : Environment) (name n : List ℕ) (i : ℕ) (value : Value) → items ≡ bindings → IsBoundAt bindings name i → n ≡ name
    → set items i (record { name = n; value = value }) ≡ bind bindings name value
set_is_bound bindings items name n i value same at is =
    ap (λ e. set e i (record { name = n; value = value })) same ∙ ap (λ m. set bindings i (record { name = m; value = value })) is ∙ sym (at.bound value)

pub set_in_order : (bindings items : Environment) (name n : List ℕ) (i : ℕ) (value : Value) → items ≡ bindings → AreInOrder items → IsBoundAt bindings name i → n ≡ name
    → AreInOrder (set items i (record { name = n; value = value }))
set_in_order bindings items name n i value same all at is =
    let ordered : AreInOrder bindings = subst AreInOrder same all in
    subst AreInOrder (sym (set_is_bound bindings items name n i value same at is)) (bound_in_order bindings name value ordered)

-- each name stays bound where it is, when a value is put in the place of another one
pub still_bound : (bindings : Environment) (first second : List ℕ) (value : Value) (i j : ℕ) → AreInOrder bindings → IsBoundAt bindings first i → IsBoundAt bindings second j
    → IsBoundAt (bind bindings first value) second j
still_bound bindings first second value i j all one other =
    let new : Binding = record { name = first; value = value } in
    let after : Environment = set bindings i new in
    let names : map (λ (b : Binding). b.name) after ≡ map (λ (b : Binding). b.name) bindings = map-set_same (λ (b : Binding). b.name) bindings i new new (sym (one.same new)) in
    let within : j < length after = omega (arith, length-set bindings i new, other.within) in
    let named : (get_or after j new).name ≡ second =
    sym (get_or-map (λ (b : Binding). b.name) after j new) ∙ ap (λ ns. get_or ns j new.name) names ∙ get_or-map (λ (b : Binding). b.name) bindings j new ∙ other.same new in
    let P : Environment → Type 0 = λ e. IsBoundAt e second j in
    subst P (sym (one.bound value))
    (is_bound_at after second j (get_or after j new) (subst AreInOrder (one.bound value) (bound_in_order bindings first value all)) within
    (get_or-other after j new (get_or after j new) within) ((bytes_eq-Decides (get_or after j new).name second).1 named))

-- the name of the binding at a place
pub name_at : (bindings items : Environment) (name : List ℕ) (i : ℕ) (b : Binding) → items ≡ bindings → IsBoundAt bindings name i → b ≡ get_or items i b → b.name ≡ name
name_at bindings items name i b same at is = ap (λ (x : Binding). x.name) (is ∙ ap (λ e. get_or e i b) same) ∙ at.same b

-- two values are put in the places of others, one after the other
pub bound_twice : (bindings items : Environment) (first second : List ℕ) (i j : ℕ) (value other : Value) (x y : Binding) → items ≡ bindings → AreInOrder items
    → IsBoundAt bindings first i → IsBoundAt bindings second j → x ≡ get_or items i x → y ≡ get_or (set items i (record { name = x.name; value = value })) j y
    → set (set items i (record { name = x.name; value = value })) j (record { name = y.name; value = other }) ≡ bind (bind bindings first value) second other
bound_twice bindings items first second i j value other x y same all one two x_is y_is =
    let ordered : AreInOrder bindings = subst AreInOrder same all in
    let once = set_is_bound bindings items first x.name i value same one (name_at bindings items first i x same one x_is) in
    let still = still_bound bindings first second value i j ordered one two in
    set_is_bound (bind bindings first value) (set items i (record { name = x.name; value = value })) second y.name j other once still
    (name_at (bind bindings first value) (set items i (record { name = x.name; value = value })) second j y once still y_is)

pub bound_twice_in_order : (bindings items : Environment) (first second : List ℕ) (i j : ℕ) (value other : Value) (x y : Binding) → items ≡ bindings → AreInOrder items
    → IsBoundAt bindings first i → IsBoundAt bindings second j → x ≡ get_or items i x → y ≡ get_or (set items i (record { name = x.name; value = value })) j y
    → AreInOrder (set (set items i (record { name = x.name; value = value })) j (record { name = y.name; value = other }))
bound_twice_in_order bindings items first second i j value other x y same all one two x_is y_is =
    subst AreInOrder (sym (bound_twice bindings items first second i j value other x y same all one two x_is y_is))
    (bound_in_order (bind bindings first value) second other (bound_in_order bindings first value (subst AreInOrder same all)))

-- an environment that was hidden whole
pub all_hidden_in_order : (observer : Label) (bindings items taken : Environment) (i : ℕ) → items ≡ bindings → AreInOrder bindings → length items ≤ i → taken ≡ hide_environment observer (take i items) → AreInOrder taken
all_hidden_in_order observer bindings items taken i same all whole is =
    let everything : take i items ≡ items = take_all i items whole in
    subst AreInOrder (sym (is ∙ ap (hide_environment observer) (everything ∙ same))) (hidden_in_order observer bindings all)

-- where halving the bindings ends

-- each name comes before the next one
next_after : (bindings : Environment) (k : ℕ) (d : Binding) → AreInOrder bindings → suc k < length bindings
    → slice_cmp nat_cmp (get_or bindings k d).name (get_or bindings (suc k) d).name ≡ Less
next_after [] k d all within = absurd (omega (arith, within))
next_after (first ∷ rest) zero d all within = before_at first.name rest 0 d all.0 (omega (arith, within))
next_after (first ∷ rest) (suc k) d all within = next_after rest k d all.1 (omega (arith, within))

sorted_names : (bindings : Environment) → AreInOrder bindings → IsSortedBy (λ (a b : Binding). is_lt (slice_cmp nat_cmp a.name b.name)) bindings
sorted_names bindings all = λ k d low within.
    ap is_lt (ap (λ (n : ℕ). slice_cmp nat_cmp (get_or bindings n d).name (get_or bindings k d).name) (add-one k)
    ∙ after (get_or bindings k d).name (get_or bindings (suc k) d).name (next_after bindings k d all (omega (arith, within))))

none_bound : (bindings : Environment) (name : List ℕ) → ((k : ℕ) (d : Binding) → k < length bindings → slice_cmp nat_cmp (get_or bindings k d).name name ≡ Equal → ⊥)
    → value_of bindings name ≡ None
unfolding value_of
none_bound [] name none = refl
none_bound (first ∷ rest) name none =
    elim (cases_Bool (bytes_eq first.name name)) [
      | inl t ↦ absurd (none 0 first (omega arith) (equal_names first.name name ((bytes_eq-Decides first.name name).0 t)))
      | inr f ↦ ap (λ t. if t then Some first.value else value_of rest name) f ∙ none_bound rest name (λ k d within. none (suc k) d (omega (arith, within)))
    ]

bound_between : (bindings : Environment) (name : List ℕ) (value : Value) (i : ℕ) → i ≤ length bindings
    → ((k : ℕ) (d : Binding) → k < i → slice_cmp nat_cmp (get_or bindings k d).name name ≡ Less)
    → ((k : ℕ) (d : Binding) → i ≤ k → k < length bindings → slice_cmp nat_cmp (get_or bindings k d).name name ≡ Greater)
    → bind bindings name value ≡ insert bindings i (record { name = name; value = value })
unfolding bind
bound_between [] name value zero within low high = refl
bound_between [] name value (suc i) within low high = absurd (omega (arith, within))
bound_between (first ∷ rest) name value zero within low high =
    bind-first first rest name value Less (before first.name name (high 0 first (omega arith) (omega arith)))
bound_between (first ∷ rest) name value (suc i) within low high =
    bind-first first rest name value Greater (after first.name name (low 0 first (omega arith)))
    ∙ ap (λ (e : Environment). first ∷ e)
    (bound_between rest name value i (omega (arith, within)) (λ k d l. low (suc k) d (omega (arith, l))) (λ k d l m. high (suc k) d (omega (arith, l)) (omega (arith, m))))

-- what a search by halving says of a name
pub halved : (bindings items : Environment) (name : List ℕ) (r : Result ℕ ℕ) → items ≡ bindings → AreInOrder bindings → IsSearchInRange r (length items)
    → IsBinarySearchResult (λ (b : Binding). slice_cmp nat_cmp b.name name) items r
    → MatchResult r (IsBoundAt bindings name) (λ i. (value_of bindings name ≡ None) × IsBoundBefore bindings name i)
halved bindings items name (Ok i) same all range found =
    let any : Binding = record { name = name; value = Bare Unit } in
    let within : i < length bindings = omega (arith, range, ap length same) in
    let P : Environment → Type 0 = λ e. slice_cmp nat_cmp (get_or e i any).name name ≡ Equal in
    let equal : slice_cmp nat_cmp (get_or bindings i any).name name ≡ Equal = subst P same (found any) in
    is_bound_at bindings name i (get_or bindings i any) all within (get_or-other bindings i any (get_or bindings i any) within)
    ((bytes_eq-Decides (get_or bindings i any).name name).1 (same_name (get_or bindings i any).name name equal))
halved bindings items name (Err i) same all range found =
    let ord : Binding → Ordering = λ b. slice_cmp nat_cmp b.name name in
    let P : Environment → Type 0 = λ e. IsBinarySearchResult ord e (Err i) in
    let Q : Environment → Type 0 = λ e. i ≤ length e in
    let inside : i ≤ length bindings = subst Q same range in
    let parts = subst P same found (searchable_from_sorted nat_list_cmp_total (λ (b : Binding). b.name) bindings name (sorted_names bindings all)) in
    let low : (k : ℕ) (d : Binding) → k < i → ord (get_or bindings k d) ≡ Less = λ k d l. parts.0 k d (omega arith) l in
    let high : (k : ℕ) (d : Binding) → i ≤ k → k < length bindings → ord (get_or bindings k d) ≡ Greater = λ k d l m. parts.1 k d l m in (
      none_bound bindings name (λ k d l e.
          elim (cases_lt k i) [
            | inl b ↦ true≢false (ap is_lt (sym (low k d b) ∙ e))
            | inr b ↦ true≢false (sym (ap is_le (sym (high k d b l) ∙ e)))
          ]),
      record { within = inside; bound = λ value. bound_between bindings name value i inside low high },
    )
