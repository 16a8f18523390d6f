-- What stands in the arguments that a draft's make: each is a policy's, if its texts are not too long, as they aren't where the argument is not too large.
use Rattle.std.proofs.Common.{◌≡◌, ◌∙◌, ◌⊎◌, inl, inr, ℕ, ◌+◌, ◌<◌, ◌≤◌, false, ◌||◌, ◌&&◌, nat_lt, List, [], ◌∷◌, ◌++◌, length, map, All, Option, Some, None, option_map, slice_get, refl, sym, ap, subst, arith}
use Rattle.std.specs.List.{flat_map}
use Rattle.std.specs.Result.{result_ok}
use Rattle.std.specs.Str.{bytes_eq}
use Rattle.std.proofs.lemmas.List.Elements.{All-nil, All-cons, All-head, All-tail, All-append, All-weaker}
use Rattle.std.proofs.lemmas.List.Quantifiers.{position-Some}
use Rattle.std.proofs.lemmas.Bool.{and_cases}
use Rattle.std.proofs.lemmas.Option.{slice_get_within}
use Rattle.lio_clauses.specs.FormulaText as text
use Rattle.lio_clauses.specs.FormulaText.{shown}
use Rattle.lio_clauses.specs.Names.{number_of}
use Rattle.lio_values.specs.Measures.{tree_size}
use Rattle.lio_values.specs.Views.{tree_of}
use Rattle.lio_values.specs.declared.value.Plain.{Plain}
use Rattle.lio_values.specs.declared.value.Plain.TheVariants.{Unit as unit, Flag, Whole, Bytes, Lab, Power, RefOf, VarOf, ResultOf, ChanOf, Items as listed}
use Rattle.lio_policy_draft.specs.declared.limits.Limits.{Limits}
use Rattle.lio_policy_draft.specs.declared.draft.ArgDraft.{ArgDraft, map-ArgDraft, roll-ArgDraft}
use Rattle.lio_policy_draft.specs.declared.draft.ArgDraft.TheVariants as draft
use Rattle.lio_policy_draft.specs.declared.draft.ArgDraft.TheOpen.{ArgDraft-F}
use Rattle.lio_policy_draft.specs.declared.draft.ArgDraft.TheFolds.{fold-roll-ArgDraft, ind-ArgDraft}
use Rattle.lio_policy.specs.Lists.{singles, extent, in_all}
use Rattle.lio_policy.specs.Policy.{PolicyParts, IsFixed, IsSingle, IsArgument, IsSmall}
use Rattle.lio_policy.specs.Rules.{all_there, label_of, labelled_step, labelled_arg, arg_entry, channel_arg, is_too_long, is_large}
use Rattle.lio_policy.specs.declared.arguments.Known.{Known}
use Rattle.lio_policy.specs.declared.lists.ArgExtent.{ArgExtent}
use Rattle.lio_policy.specs.declared.labelled.LabelledArg.{LabelledArg}
use Rattle.lio_policy.specs.declared.labelled.LabelledArg.TheVariants as labelled
use Rattle.lio_policy.specs.declared.policy.FileEntry.{FileEntry}
use Rattle.lio_policy.specs.declared.policy.Arg.{Arg, map-Arg, roll-Arg}
use Rattle.lio_policy.specs.declared.policy.Arg.TheVariants as arg
use Rattle.lio_policy.specs.declared.policy.Arg.TheOpen.{Arg-F}
use Rattle.lio_policy.specs.declared.policy.Arg.TheFolds.{ind-Arg}
use Rattle.lio_policy.proofs.ArgumentLemmas.{labelled-items, entry-input, entry-channel, entry-fixed, entry-items, singles-input, singles-fixed, singles-items, extent-fixed, extent-items}
use Rattle.lio_policy.proofs.MadeLemmas.{mapped, chained, neither}
use Rattle.lio_policy.proofs.NamedLemmas.{label_is_named, formula_is_named}

-- ---- lists

pub all_left : {X : Type 0} (P : X → Type 0) (xs ys : List X) → All P (xs ++ ys) → All P xs
all_left P [] ys h = All-nil P
all_left P (x ∷ xs) ys h = All-cons P x xs (All-head P x (xs ++ ys) h) (all_left P xs ys (All-tail P x (xs ++ ys) h))

pub all_right : {X : Type 0} (P : X → Type 0) (xs ys : List X) → All P (xs ++ ys) → All P ys
all_right P [] ys h = h
all_right P (x ∷ xs) ys h = all_right P xs ys (All-tail P x (xs ++ ys) h)

-- the first of some that are all there, and the others
record Begins {X : Type 0} (o : Option X) (rest : List (Option X)) (all : List X) : Type 0 where
  first : X
  others : List X
  is : o ≡ Some first
  are : all_there rest ≡ Some others
  both : first ∷ others ≡ all

begins_with : {X : Type 0} (o : Option X) (rest : List (Option X)) (all : List X) → all_there (o ∷ rest) ≡ Some all → Begins o rest all
begins_with None rest all h = absurd (cc)
begins_with (Some x) rest all h = let m = mapped (λ xs. x ∷ xs) (all_there rest) all h in record { first = x; others = m.0; is = refl; are = m.1; both = m.2 }

-- ---- what stands in arguments

abbrev pub all_singles : List Arg → List Arg
all_singles args = flat_map (λ (s : List Arg). s) (map singles args)

-- the bytes of an argument that is a text
abbrev bytes_in : Arg → ℕ
bytes_in (arg.Fixed (Bytes t)) = length t
bytes_in _ = 0

abbrev pub IsShort : ℕ → Arg → Type 0
IsShort longest a = bytes_in a ≤ longest

-- what may be named is the policy's
pub record IsKnownOf (k : Known) (p : PolicyParts) : Type 0 where
  pub inputs : length k.input_names ≡ length p.inputs
  pub channels : k.channels ≡ p.channels
  pub few : length p.channels ≤ 1024

number_within : (names : List (List ℕ)) (name : List ℕ) (n : ℕ) → number_of names name ≡ Some n → n < length names
number_within names name n h = (position-Some (bytes_eq name) names n [] h).0

-- one level of what an argument is with its labels
layer : (p : PolicyParts) (x : ArgDraft-F ArgDraft) (b : LabelledArg) → labelled_arg p.names (roll-ArgDraft x) ≡ Some b → labelled_step p.names (map-ArgDraft ArgDraft (Option LabelledArg) (labelled_arg p.names) x) ≡ Some b
layer p x b h = sym (fold-roll-ArgDraft (Option LabelledArg) (labelled_step p.names) x) ∙ h

module _ (k : Known) (p : PolicyParts) (of : IsKnownOf k p) where
  -- what stands in what a labelled argument makes is the policy's, if its texts are not too long
  abbrev pub Fits : LabelledArg → Type 0
  Fits b = (a : Arg) → arg_entry k b ≡ Some a → All (IsShort p.longest) (singles a) → All (IsSingle p) (singles a)

  abbrev pub Makes : ArgDraft → Type 0
  Makes d = (b : LabelledArg) → labelled_arg p.names d ≡ Some b → Fits b

  one_fits : (s a : Arg) → s ≡ a → (bytes_in s ≤ p.longest → IsSingle p s) → singles s ≡ s ∷ [] → All (IsShort p.longest) (singles a) → All (IsSingle p) (singles a)
  one_fits s a is single alone =
      subst (λ x. All (IsShort p.longest) (singles x) → All (IsSingle p) (singles x)) is
      (subst (λ xs. All (IsShort p.longest) xs → All (IsSingle p) xs) (sym alone)
      (λ short. All-cons (IsSingle p) s [] (single (All-head (IsShort p.longest) s [] short)) (All-nil (IsSingle p))))

  input_fits : (name : List ℕ) → Fits (labelled.Input name)
  input_fits name a h =
      let m = mapped (λ n. arg.Input (shown n)) (number_of k.input_names name) a (sym (entry-input k name) ∙ h) in
      let within = number_within k.input_names name m.0 m.1 in
      let there : shown m.0 < length p.inputs = omega (arith, of.inputs) in
      one_fits (arg.Input (shown m.0)) a m.2 (λ short. there) (singles-input (shown m.0))

  channel_fits : (name : List ℕ) → Fits (labelled.Channel name)
  channel_fits name a h =
      let c = chained (λ n. option_map (channel_arg n) (slice_get k.channels n)) (number_of k.channel_names name) a (sym (entry-channel k name) ∙ h) in
      let m = mapped (channel_arg c.0) (slice_get k.channels c.0) a c.2 in
      let at : slice_get p.channels c.0 ≡ Some m.0 = ap (λ cs. slice_get cs c.0) (sym of.channels) ∙ m.1 in
      let within = slice_get_within p.channels c.0 m.0 at in
      let same : shown c.0 ≡ c.0 = omega (arith, of.few) in
      let found : option_map (λ channel. channel.label) (slice_get p.channels (shown c.0)) ≡ Some m.0.label =
      ap (λ n. option_map (λ channel. channel.label) (slice_get p.channels n)) same ∙ ap (option_map (λ channel. channel.label)) at in
      one_fits (channel_arg c.0 m.0) a m.2 (λ short. found) (singles-fixed (ChanOf (record { number = shown c.0; label = m.0.label })))

  fixed_fits : (v : Plain) → (bytes_in (arg.Fixed v) ≤ p.longest → IsFixed p v) → Fits (labelled.Fixed v)
  fixed_fits v fixed a h = let same : Some (arg.Fixed v) ≡ Some a = sym (entry-fixed k v) ∙ h in
      let is : arg.Fixed v ≡ a = cc in
      one_fits (arg.Fixed v) a is fixed (singles-fixed v)

  alike : (b c : LabelledArg) → b ≡ c → Fits b → Fits c
  alike b c is h = subst Fits is h

  fixed_makes : (v : Plain) → (bytes_in (arg.Fixed v) ≤ p.longest → IsFixed p v) → (b : LabelledArg) → Some (labelled.Fixed v) ≡ Some b → Fits b
  fixed_makes v fixed b h = let is : labelled.Fixed v ≡ b = cc in alike (labelled.Fixed v) b is (fixed_fits v fixed)

  -- and so does what a list makes, if each of its items does
  each_makes : (ds : List ((d : ArgDraft) × Makes d)) (bs : List LabelledArg) (args : List Arg) → all_there (map (labelled_arg p.names) (map (λ e. e.0) ds)) ≡ Some bs → all_there (map (arg_entry k) bs) ≡ Some args
      → All (IsShort p.longest) (all_singles args) → All (IsSingle p) (all_singles args)
  each_makes [] bs args h g short =
      let none : [] ≡ bs = cc in
      let nothing : Some [] ≡ Some args = ap (λ xs. all_there (map (arg_entry k) xs)) none ∙ g in
      let empty : [] ≡ args = cc in
      subst (λ xs. All (IsSingle p) (all_singles xs)) empty (All-nil (IsSingle p))
  each_makes (e ∷ ds) bs args h g short =
      let here = begins_with (labelled_arg p.names e.0) (map (labelled_arg p.names) (map (λ e. e.0) ds)) bs h in
      let g' : all_there (map (arg_entry k) (here.first ∷ here.others)) ≡ Some args = ap (λ xs. all_there (map (arg_entry k) xs)) here.both ∙ g in
      let next = begins_with (arg_entry k here.first) (map (arg_entry k) here.others) args g' in
      let all = subst (λ xs. All (IsShort p.longest) (all_singles xs)) (sym next.both) short in
      let one = e.1 here.first here.is next.first next.is (all_left (IsShort p.longest) (singles next.first) (all_singles next.others) all) in
      let more = each_makes ds here.others next.others here.are next.are (all_right (IsShort p.longest) (singles next.first) (all_singles next.others) all) in
      subst (λ xs. All (IsSingle p) (all_singles xs)) next.both (All-append (IsSingle p) (singles next.first) (all_singles next.others) one more)

  items_make : (ds : List ((d : ArgDraft) × Makes d)) → Makes (draft.Items (map (λ e. e.0) ds))
  items_make ds b h a g =
      let m = mapped labelled.Items (all_there (map (labelled_arg p.names) (map (λ e. e.0) ds))) b (sym (labelled-items p.names (map (λ e. e.0) ds)) ∙ h) in
      let g' : arg_entry k (labelled.Items m.0) ≡ Some a = ap (arg_entry k) m.2 ∙ g in
      let n = mapped arg.Items (all_there (map (arg_entry k) m.0)) a (sym (entry-items k m.0) ∙ g') in
      let are : all_singles n.0 ≡ singles a = sym (singles-items n.0) ∙ ap singles n.2 in
      subst (λ xs. All (IsShort p.longest) xs → All (IsSingle p) xs) are (each_makes ds m.0 n.0 m.1 n.1)

  make_by : (y : ArgDraft-F ((d : ArgDraft) × Makes d)) → Makes (roll-ArgDraft (map-ArgDraft ((d : ArgDraft) × Makes d) ArgDraft (λ e. e.0) y))
  make_by (ArgDraft-F.Input name) b h = let e = layer p (ArgDraft-F.Input name) b h in let is : labelled.Input name ≡ b = cc in alike (labelled.Input name) b is (input_fits name)
  make_by (ArgDraft-F.Channel name) b h = let e = layer p (ArgDraft-F.Channel name) b h in let is : labelled.Channel name ≡ b = cc in alike (labelled.Channel name) b is (channel_fits name)
  make_by (ArgDraft-F.Label t) b h =
      let m = mapped (λ l. labelled.Fixed (Lab l)) (label_of p.names t) b (layer p (ArgDraft-F.Label t) b h) in
      alike (labelled.Fixed (Lab m.0)) b m.2 (fixed_fits (Lab m.0) (λ short. label_is_named p.names t m.0 m.1))
  make_by (ArgDraft-F.Power t) b h =
      let m = mapped (λ a. labelled.Fixed (Power (record { power = a }))) (result_ok (text.reading p.names t)) b (layer p (ArgDraft-F.Power t) b h) in
      alike (labelled.Fixed (Power (record { power = m.0 }))) b m.2 (fixed_fits (Power (record { power = m.0 })) (λ short. formula_is_named p.names t m.0 m.1))
  make_by (ArgDraft-F.Bytes t) b h = fixed_makes (Bytes t) (λ short. short) b (layer p (ArgDraft-F.Bytes t) b h)
  make_by (ArgDraft-F.Whole n) b h = fixed_makes (Whole n) (λ short. tt) b (layer p (ArgDraft-F.Whole n) b h)
  make_by (ArgDraft-F.Flag f) b h = fixed_makes (Flag f) (λ short. tt) b (layer p (ArgDraft-F.Flag f) b h)
  make_by ArgDraft-F.Unit b h = fixed_makes unit (λ short. tt) b (layer p ArgDraft-F.Unit b h)
  make_by (ArgDraft-F.Items ds) b h = subst Makes (sym (draft.rolls-Items (map (λ e. e.0) ds))) (items_make ds) b h

  pub makes : (d : ArgDraft) → Makes d
  makes = ind-ArgDraft Makes (λ x y is. subst (λ z. Makes (roll-ArgDraft z)) is (make_by y))

-- ---- texts that are not too long

-- what stands in an argument is no longer than its size
module _ (inputs : List FileEntry) where
  abbrev pub IsWithin : Arg → Type 0
  IsWithin a = All (IsShort (extent inputs a).size) (singles a)

  one_within : (s : Arg) (n : ℕ) → singles s ≡ s ∷ [] → bytes_in s ≤ n → All (IsShort n) (singles s)
  one_within s n alone short = subst (All (IsShort n)) (sym alone) (All-cons (IsShort n) s [] short (All-nil (IsShort n)))

  value_within : (v : Plain) → bytes_in (arg.Fixed v) ≤ tree_size (tree_of v)
  value_within unit = omega arith
  value_within (Flag b) = omega arith
  value_within (Whole n) = omega arith
  value_within (Bytes t) = omega arith
  value_within (Lab l) = omega arith
  value_within (Power a) = omega arith
  value_within (RefOf h) = omega arith
  value_within (VarOf h) = omega arith
  value_within (ResultOf h) = omega arith
  value_within (ChanOf h) = omega arith
  value_within (listed items) = omega arith

  each_within : (es : List ((a : Arg) × IsWithin a)) → All (IsShort (in_all (map (extent inputs) (map (λ e. e.0) es))).size) (all_singles (map (λ e. e.0) es))
  each_within [] = All-nil (IsShort 0)
  each_within (e ∷ es) =
      let here = (extent inputs e.0).size in
      let there = (in_all (map (extent inputs) (map (λ e. e.0) es))).size in
      All-append (IsShort (here + there)) (singles e.0) (all_singles (map (λ e. e.0) es))
      (All-weaker (IsShort here) (IsShort (here + there)) (λ a short. omega (arith, short)) (singles e.0) e.1)
      (All-weaker (IsShort there) (IsShort (here + there)) (λ a short. omega (arith, short)) (all_singles (map (λ e. e.0) es)) (each_within es))

  within_by : (y : Arg-F ((a : Arg) × IsWithin a)) → IsWithin (roll-Arg (map-Arg ((a : Arg) × IsWithin a) Arg (λ e. e.0) y))
  within_by (Arg-F.Input place) = subst IsWithin (sym (arg.rolls-Input place)) (one_within (arg.Input place) _ (singles-input place) (omega arith))
  within_by (Arg-F.Fixed value) =
      let short : bytes_in (arg.Fixed value) ≤ (extent inputs (arg.Fixed value)).size = omega (arith, value_within value, ap (λ e. e.size) (extent-fixed inputs value)) in
      subst IsWithin (sym (arg.rolls-Fixed value)) (one_within (arg.Fixed value) _ (singles-fixed value) short)
  within_by (Arg-F.Items es) =
      let args = map (λ e. e.0) es in
      let size = ap (λ e. e.size) (extent-items inputs args) in
      subst IsWithin (sym (arg.rolls-Items args))
      (subst (All (IsShort (extent inputs (arg.Items args)).size)) (sym (singles-items args))
      (All-weaker (IsShort (in_all (map (extent inputs) args)).size) (IsShort (extent inputs (arg.Items args)).size) (λ a short. omega (arith, short, size)) (all_singles args) (each_within es)))

  pub within : (a : Arg) → IsWithin a
  within = ind-Arg IsWithin (λ x y is. subst (λ z. IsWithin (roll-Arg z)) is (within_by y))

-- the texts in what a draft's argument makes aren't too long, if it is no text that is, and not too large
module _ (k : Known) (p : PolicyParts) (limits : Limits) where
  abbrev IsAllowed : Arg → Type 0
  IsAllowed a = IsSmall limits p.longest (extent p.inputs a)

  abbrev AreShort : Arg → Type 0
  AreShort a = All (IsShort p.longest) (singles a)

  alone_short : (s a : Arg) → s ≡ a → singles s ≡ s ∷ [] → bytes_in s ≤ p.longest → AreShort a
  alone_short s a is alone short = subst AreShort is (one_within p.inputs s p.longest alone short)

  fixed_short : (v : Plain) (b : LabelledArg) (a : Arg) → labelled.Fixed v ≡ b → arg_entry k b ≡ Some a → bytes_in (arg.Fixed v) ≤ p.longest → AreShort a
  fixed_short v b a is h short =
      let same : Some (arg.Fixed v) ≡ Some a = sym (entry-fixed k v) ∙ ap (arg_entry k) is ∙ h in
      let one : arg.Fixed v ≡ a = cc in
      alone_short (arg.Fixed v) a one (singles-fixed v) short

  items_short : (args : List Arg) → IsAllowed (arg.Items args) → AreShort (arg.Items args)
  items_short args small =
      let a = arg.Items args in
      let deep : 0 < (extent p.inputs a).depth = omega (arith, ap (λ e. e.depth) (extent-items p.inputs args)) in
      All-weaker (IsShort (extent p.inputs a).size) (IsShort p.longest) (λ s short. omega (arith, short, small.size deep)) (singles a) (within p.inputs a)

  short_by : (x : ArgDraft-F ArgDraft) (b : LabelledArg) (a : Arg) → labelled_arg p.names (roll-ArgDraft x) ≡ Some b → arg_entry k b ≡ Some a
      → is_too_long p.longest (roll-ArgDraft x) ≡ false → IsAllowed a → AreShort a
  short_by (ArgDraft-F.Input name) b a h g fine small =
      let e = layer p (ArgDraft-F.Input name) b h in
      let is : labelled.Input name ≡ b = cc in
      let m = mapped (λ n. arg.Input (shown n)) (number_of k.input_names name) a (sym (entry-input k name) ∙ ap (arg_entry k) is ∙ g) in
      alone_short (arg.Input (shown m.0)) a m.2 (singles-input (shown m.0)) (omega arith)
  short_by (ArgDraft-F.Channel name) b a h g fine small =
      let e = layer p (ArgDraft-F.Channel name) b h in
      let is : labelled.Channel name ≡ b = cc in
      let c = chained (λ n. option_map (channel_arg n) (slice_get k.channels n)) (number_of k.channel_names name) a (sym (entry-channel k name) ∙ ap (arg_entry k) is ∙ g) in
      let m = mapped (channel_arg c.0) (slice_get k.channels c.0) a c.2 in
      alone_short (channel_arg c.0 m.0) a m.2 (singles-fixed (ChanOf (record { number = shown c.0; label = m.0.label }))) (omega arith)
  short_by (ArgDraft-F.Label t) b a h g fine small =
      let m = mapped (λ l. labelled.Fixed (Lab l)) (label_of p.names t) b (layer p (ArgDraft-F.Label t) b h) in
      fixed_short (Lab m.0) b a m.2 g (omega arith)
  short_by (ArgDraft-F.Power t) b a h g fine small =
      let m = mapped (λ a. labelled.Fixed (Power (record { power = a }))) (result_ok (text.reading p.names t)) b (layer p (ArgDraft-F.Power t) b h) in
      fixed_short (Power (record { power = m.0 })) b a m.2 g (omega arith)
  short_by (ArgDraft-F.Bytes t) b a h g fine small =
      let e = layer p (ArgDraft-F.Bytes t) b h in
      let is : labelled.Fixed (Bytes t) ≡ b = cc in
      let not_long : nat_lt p.longest (length t) ≡ false = ap (is_too_long p.longest) (sym (draft.rolls-Bytes t)) ∙ fine in
      let short : length t ≤ p.longest = grind (arith, not_long) in
      fixed_short (Bytes t) b a is g short
  short_by (ArgDraft-F.Whole n) b a h g fine small =
      let e = layer p (ArgDraft-F.Whole n) b h in
      let is : labelled.Fixed (Whole n) ≡ b = cc in
      fixed_short (Whole n) b a is g (omega arith)
  short_by (ArgDraft-F.Flag f) b a h g fine small =
      let e = layer p (ArgDraft-F.Flag f) b h in
      let is : labelled.Fixed (Flag f) ≡ b = cc in
      fixed_short (Flag f) b a is g (omega arith)
  short_by ArgDraft-F.Unit b a h g fine small =
      let e = layer p ArgDraft-F.Unit b h in
      let is : labelled.Fixed unit ≡ b = cc in
      fixed_short unit b a is g (omega arith)
  short_by (ArgDraft-F.Items ds) b a h g fine small =
      let m = mapped labelled.Items (all_there (map (labelled_arg p.names) ds)) b (sym (labelled-items p.names ds) ∙ ap (labelled_arg p.names) (sym (draft.rolls-Items ds)) ∙ h) in
      let n = mapped arg.Items (all_there (map (arg_entry k) m.0)) a (sym (entry-items k m.0) ∙ ap (arg_entry k) m.2 ∙ g) in
      subst (λ x. IsAllowed x → AreShort x) n.2 (items_short n.0) small

  abbrev HasShort : ArgDraft → Type 0
  HasShort d = (b : LabelledArg) (a : Arg) → labelled_arg p.names d ≡ Some b → arg_entry k b ≡ Some a → is_too_long p.longest d ≡ false → IsAllowed a → AreShort a

  short : (d : ArgDraft) → HasShort d
  short = ind-ArgDraft HasShort (λ x y is. short_by x)

  -- and so it is an argument of the policy
  pub is_argument : IsKnownOf k p → (d : ArgDraft) (b : LabelledArg) (a : Arg) → labelled_arg p.names d ≡ Some b → arg_entry k b ≡ Some a → is_too_long p.longest d ≡ false → IsAllowed a → IsArgument p a
  is_argument of d b a h g fine small = makes k p of d b h a g (short d b a h g fine small)

-- what is not too large by the test is so
pub is_small : (limits : Limits) (longest : ℕ) (e : ArgExtent) → is_large limits longest e ≡ false → IsSmall limits longest e
is_small limits longest e h =
    let heavy = nat_lt 0 e.depth && nat_lt longest e.size in
    let a = neither (nat_lt limits.depth e.depth || nat_lt 4 e.inputs) heavy h in
    let b = neither (nat_lt limits.depth e.depth) (nat_lt 4 e.inputs) a.0 in
    record { depth = grind (arith, b.0); inputs = grind (arith, b.1); size = λ deep. by deep (and_cases (nat_lt 0 e.depth) (nat_lt longest e.size) a.1) }
  where
    by : 0 < e.depth → (nat_lt 0 e.depth ≡ false) ⊎ (nat_lt longest e.size ≡ false) → e.size ≤ longest
    by deep (inl flat) = absurd (grind (arith, deep, flat))
    by deep (inr small) = grind (arith, small)
