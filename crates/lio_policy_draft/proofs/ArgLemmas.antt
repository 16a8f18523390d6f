-- Arguments that are lists of arguments.
use Rattle.std.proofs.Common.{◌≡◌, ◌∙◌, ℕ, zero, suc, ◌+◌, ◌<◌, ◌≤◌, max, length, get_or, ◌&&◌, Bool, true, false, if◌then◌else◌, List, [], ◌∷◌, codes, bytes_eq, Option, Some, None, option_map, option_and_then, Ordering, Less, Equal, Greater, refl, sym, ap, subst, arith}
use Rattle.std.specs.Ordering.{nat_cmp, match_ordering, is_eq}
use Rattle.std.specs.Cmp.Lexicographic.{slice_cmp}
use Rattle.std.proofs.lemmas.Map.Text.{is_eq-slice_cmp}
use Rattle.std.proofs.lemmas.Slice.Eq.{bytes_eq-Decides}
use Rattle.serde_json.specs.Data.{Data, null, boolean, number, string, array, object, Items, no_items, item, Members, no_members, member, depth, items_depth, members_depth}
use Rattle.serde_json.specs.Find.{get, get_member, as_array}
use Rattle.serde_json.specs.View.{view, items_of, items_view}
use Rattle.serde_json.specs.declared.value.Value.{Value}
use Rattle.lio_policy_draft.specs.Shape.{list_of, are_keys, has_keys, items_at, has_lists, arg_of, single_arg_of, plain_arg_of, args_in, args_of, each_arg, args_at}
use Rattle.lio_policy_draft.specs.declared.draft.ArgDraft.TheVariants.{Items as listed}

-- the items that are listed are those of the array
pub items_of-list_of : (ds : Items) → items_of (list_of ds) ≡ ds
items_of-list_of no_items = refl
items_of-list_of (item d ds) = ap (item d) (items_of-list_of ds)

some : {A : Type 0} {a b : A} → Some a ≡ Some b → a ≡ b
some h = cc

-- the arguments at a key are those of the items that are there
args_found_by : (version : Option ℕ) (o : Option Data) (items : List Data) → Some items ≡ option_map list_of (option_and_then as_array o) → each_arg version (items_of items) ≡ option_and_then (args_of version) o
args_found_by version None items h = absurd (cc)
args_found_by version (Some null) items h = absurd (cc)
args_found_by version (Some (boolean b)) items h = absurd (cc)
args_found_by version (Some (number n)) items h = absurd (cc)
args_found_by version (Some (string s)) items h = absurd (cc)
args_found_by version (Some (array ds)) items h = ap (each_arg version) (ap items_of (some h) ∙ items_of-list_of ds)
args_found_by version (Some (object ms)) items h = absurd (cc)

pub args_found : (version : Option ℕ) (key : List ℕ) (d : Data) (items : List Data) → Some items ≡ items_at key d → each_arg version (items_of items) ≡ args_at version key d
args_found version key d items h = args_found_by version (get key d) items h

args_missing_by : (version : Option ℕ) (o : Option Data) → None ≡ option_map list_of (option_and_then as_array o) → None ≡ option_and_then (args_of version) o
args_missing_by version None h = refl
args_missing_by version (Some null) h = refl
args_missing_by version (Some (boolean b)) h = refl
args_missing_by version (Some (number n)) h = refl
args_missing_by version (Some (string s)) h = refl
args_missing_by version (Some (array ds)) h = absurd (cc)
args_missing_by version (Some (object ms)) h = refl

pub args_missing : (version : Option ℕ) (key : List ℕ) (d : Data) → None ≡ items_at key d → None ≡ args_at version key d
args_missing version key d h = args_missing_by version (get key d) h

-- a member is no deeper than all of them, and the items at a key less deep by two than what has the key
member_depth_by : (o : Ordering) (k : List ℕ) (e d : Data) (ms : Members) (rest : (x : Data) → get_member k ms ≡ Some x → depth x ≤ members_depth ms)
    → match_ordering o (get_member k ms) (Some e) (get_member k ms) ≡ Some d → depth d ≤ max (depth e) (members_depth ms)
member_depth_by Less k e d ms rest h = omega (arith, rest d h)
member_depth_by Equal k e d ms rest h = subst (λ x. depth x ≤ max (depth e) (members_depth ms)) (some h) (omega arith)
member_depth_by Greater k e d ms rest h = omega (arith, rest d h)

member_depth : (k : List ℕ) (ms : Members) (d : Data) → get_member k ms ≡ Some d → depth d ≤ members_depth ms
member_depth k no_members d h = absurd (cc)
member_depth k (member l e ms) d h = member_depth_by (slice_cmp nat_cmp k l) k e d ms (member_depth k ms) h

array_depth : (o : Option Data) (items : List Data) (n : ℕ) → Some items ≡ option_map list_of (option_and_then as_array o) → ((d : Data) → o ≡ Some d → depth d ≤ n) → items_depth (items_of items) + 1 ≤ n
array_depth None items n h below = absurd (cc)
array_depth (Some null) items n h below = absurd (cc)
array_depth (Some (boolean b)) items n h below = absurd (cc)
array_depth (Some (number m)) items n h below = absurd (cc)
array_depth (Some (string s)) items n h below = absurd (cc)
array_depth (Some (array ds)) items n h below =
    let same : items_depth (items_of items) ≡ items_depth ds = ap items_depth (ap items_of (some h) ∙ items_of-list_of ds) in
    omega (arith, same, below (array ds) refl)
array_depth (Some (object ms)) items n h below = absurd (cc)

pub items_fall : (key : List ℕ) (d : Data) (items : List Data) → Some items ≡ items_at key d → items_depth (items_of items) + 2 ≤ depth d
items_fall key null items h = absurd (cc)
items_fall key (boolean b) items h = absurd (cc)
items_fall key (number n) items h = absurd (cc)
items_fall key (string s) items h = absurd (cc)
items_fall key (array ds) items h = absurd (cc)
items_fall key (object ms) items h = omega (arith, array_depth (get_member key ms) items (members_depth ms) h (member_depth key ms))

-- an item is no deeper than all of them
pub item_depth : (vs : List Value) (i : ℕ) (v : Value) → i < length vs → v ≡ get_or vs i v → depth (view v) ≤ items_depth (items_view vs)
item_depth [] i v within is = absurd (omega arith)
item_depth (w ∷ vs) zero v within is = let same : depth (view v) ≡ depth (view w) = ap (λ x. depth (view x)) is in omega (arith, same)
item_depth (w ∷ vs) (suc i) v within is = omega (arith, item_depth vs i v (omega arith) is)

-- what has the one key `items` is a list of arguments where there are lists
equal_by : (o : Ordering) → is_eq o ≡ true → o ≡ Equal
equal_by Less h = absurd (cc)
equal_by Equal h = refl
equal_by Greater h = absurd (cc)

first_true : (a b : Bool) → (a && b) ≡ true → a ≡ true
first_true true b h = refl
first_true false b h = h

pub first_false : (a b : Bool) → a ≡ false → (a && b) ≡ false
first_false true b h = absurd (cc)
first_false false b h = refl

pub second_false : (a b : Bool) → b ≡ false → (a && b) ≡ false
second_false true b h = h
second_false false b h = refl

one_key : (version : Option ℕ) (key : List ℕ) (ms : Members) → are_keys (key ∷ []) ms ≡ true → args_in version ms ≡ option_and_then (args_of version) (get_member key ms)
one_key version key no_members h = absurd (cc)
one_key version key (member l d ms) h =
    let same : l ≡ key = (bytes_eq-Decides l key).0 (first_true (bytes_eq l key) (are_keys [] ms) h) in
    let found : slice_cmp nat_cmp key l ≡ Equal = equal_by _ (is_eq-slice_cmp key l ∙ (bytes_eq-Decides key l).1 (sym same)) in
    sym (ap (λ o. option_and_then (args_of version) (match_ordering o (get_member key ms) (Some d) (get_member key ms))) found)

pub arg_is_list : (version : Option ℕ) (d : Data) → has_lists version ≡ true → has_keys (codes "items" ∷ []) d ≡ true → option_map listed (args_at version (codes "items") d) ≡ arg_of version d
arg_is_list version null lists keys = absurd (cc)
arg_is_list version (boolean b) lists keys = absurd (cc)
arg_is_list version (number n) lists keys = absurd (cc)
arg_is_list version (string s) lists keys = absurd (cc)
arg_is_list version (array ds) lists keys = absurd (cc)
arg_is_list version (object ms) lists keys =
    let list = option_map listed (args_in version ms) in
    let single = single_arg_of (object ms) in
    ap (option_map listed) (sym (one_key version (codes "items") ms keys))
    ∙ sym (ap (λ b. if b && are_keys (codes "items" ∷ []) ms then list else single) lists ∙ ap (λ b. if b then list else single) keys)

-- and else it is no list
pub arg_is_single : (version : Option ℕ) (d : Data) → (has_lists version && has_keys (codes "items" ∷ []) d) ≡ false → single_arg_of d ≡ arg_of version d
unfolding single_arg_of plain_arg_of
arg_is_single version null h = refl
arg_is_single version (boolean b) h = refl
arg_is_single version (number n) h = refl
arg_is_single version (string s) h = refl
arg_is_single version (array ds) h = refl
arg_is_single version (object ms) h = sym (ap (λ b. if b then option_map listed (args_in version ms) else single_arg_of (object ms)) h)
