-- Erasure leaves no principal that wasn't there, and contents keep pure values as before.
use Rattle.std.proofs.Common.{ℕ, Bool, true, false, List, All, Option, Some, None, map, cond, subst, sym}
use Rattle.std.proofs.lemmas.List.Elements.{All-map}
use Rattle.std.specs.Option.{option_map}
use Rattle.lio_labels.specs.declared.label.Label.{Label}
use Rattle.lio_labels.specs.Flow.{flows}
use Rattle.lio_values.specs.declared.value.Content.{Content}
use Rattle.lio_values.specs.declared.value.Content.TheVariants.{Hidden}
use Rattle.lio_values.specs.declared.value.Value.{Value}
use Rattle.lio_values.specs.declared.value.Value.TheVariants.{Bare, Sealed}
use Rattle.lio_values.specs.declared.act.Act.{Act}
use Rattle.lio_values.specs.declared.act.Act.TheVariants.{Step, Seal, Raise, Lower, Release, Expose, NewRef, NewVar, Fork, Spawn, Read, Write, Take, Put, Wait, Send, Ended}
use Rattle.lio_values.specs.declared.act.Birth.{Birth}
use Rattle.lio_values.specs.declared.act.Reply.{Reply}
use Rattle.lio_values.specs.declared.act.Reply.TheVariants.{Done, Got, Told, Refused}
use Rattle.lio_values.specs.Forest as forest
use Rattle.lio_values.specs.Forest.{Tree, Inner, Item, Forest, Nothing, Then}
use Rattle.lio_values.specs.Views.{tree_of, tree_of-plain_of}
use Rattle.lio_values.specs.Erasure.{erase_content, erase_tree, erase_item, erase_forest, erase_value, erase_birth, erase_act, erase_reply}
use Rattle.lio_values.specs.ForestText.{IsTreeNamed, IsInnerNamed, IsItemNamed, AreItemsNamed}
use Rattle.lio_values.specs.Purity.{IsInnerPure, KeepsPureTree, KeepsPureItem, KeepPureItems, KeepsPure, IsContentPure}
use Rattle.lio_values.specs.Named.{IsContentNamed, IsValueNamed}
use Rattle.lio_events.specs.Printable.{IsOptionNamed, IsBirthNamed, IsActNamed, IsRaiseOf, IsReplyNamed, OptionKeepsPure, ActKeepsPure, ReplyKeepsPure}
use Rattle.lio_events.specs.Laws.{ErasedIsPrintable}

shown : (names : List (List ℕ)) (visible : Bool) (content : Content) → IsContentNamed names content → IsContentNamed names (cond visible content Hidden)
shown names true content named = named
shown names false content named = tt

content_named : (names : List (List ℕ)) (observer label : Label) (content : Content) → IsContentNamed names content → IsContentNamed names (erase_content observer label content)
unfolding erase_content
content_named names observer label content named = shown names (flows label observer) content named

inner-shown : (names : List (List ℕ)) (visible : Bool) (inner : Inner) → IsInnerNamed names inner → IsInnerNamed names (cond visible inner forest.Hidden)
inner-shown names true inner named = named
inner-shown names false inner named = tt

-- the items of a list
mutual
  tree-named : (names : List (List ℕ)) (observer : Label) (tree : Tree) → IsTreeNamed names tree → IsTreeNamed names (erase_tree observer tree)
  tree-named names observer (forest.Items items) named = items-named names observer items named
  tree-named names observer forest.Unit named = named
  tree-named names observer (forest.Flag flag) named = named
  tree-named names observer (forest.Whole number) named = named
  tree-named names observer (forest.Bytes text) named = named
  tree-named names observer (forest.Lab label) named = named
  tree-named names observer (forest.Power privilege) named = named
  tree-named names observer (forest.RefOf handle) named = named
  tree-named names observer (forest.VarOf handle) named = named
  tree-named names observer (forest.ResultOf handle) named = named
  tree-named names observer (forest.ChanOf handle) named = named

  item-named : (names : List (List ℕ)) (observer : Label) (item : Item) → IsItemNamed names item → IsItemNamed names (erase_item observer item)
  item-named names observer (forest.Bare tree) named = tree-named names observer tree named
  item-named names observer (forest.Sealed label inner) named = (named.0, inner-shown names (flows label observer) inner named.1)

  items-named : (names : List (List ℕ)) (observer : Label) (items : Forest) → AreItemsNamed names items → AreItemsNamed names (erase_forest observer items)
  items-named names observer Nothing named = tt
  items-named names observer (Then item items) named = (item-named names observer item named.0, items-named names observer items named.1)

pub value_named : (names : List (List ℕ)) (observer : Label) (value : Value) → IsValueNamed names value → IsValueNamed names (erase_value observer value)
value_named names observer (Bare plain) named =
    subst (IsTreeNamed names) (sym (tree_of-plain_of (erase_tree observer (tree_of plain)))) (tree-named names observer (tree_of plain) named)
value_named names observer (Sealed label content) named = (named.0, content_named names observer label content named.1)

pub option_named : (names : List (List ℕ)) (observer : Label) (value : Option Value) → IsOptionNamed names value → IsOptionNamed names (option_map (erase_value observer) value)
option_named names observer None named = tt
option_named names observer (Some value) named = value_named names observer value named

birth_named : (names : List (List ℕ)) (observer : Label) (birth : Birth) → IsBirthNamed names birth → IsBirthNamed names (erase_birth observer birth)
birth_named names observer birth named =
    let args : All (IsValueNamed names) (map (erase_value observer) birth.args) =
    All-map (IsValueNamed names) (erase_value observer) birth.args (λ k d within. value_named names observer _ (named.2 k d within)) in
    (named.0, named.1, args)

pub act_named : (names : List (List ℕ)) (observer : Label) (act : Act) → IsActNamed names act → IsActNamed names (erase_act observer act)
act_named names observer (Release source target power content) named = (named.0, named.1, named.2, content_named names observer target content named.3)
act_named names observer (Expose source target power content) named = (named.0, named.1, named.2, content_named names observer target content named.3)
act_named names observer (NewRef label value) named = (named.0, value_named names observer value named.1)
act_named names observer (NewVar label value) named = (named.0, option_named names observer value named.1)
act_named names observer (Fork birth) named = birth_named names observer birth named
act_named names observer (Spawn birth) named = birth_named names observer birth named
act_named names observer (Write value) named = value_named names observer value named
act_named names observer (Put value) named = value_named names observer value named
act_named names observer Step named = named
act_named names observer (Seal label) named = named
act_named names observer (Raise op label) named = named
act_named names observer (Lower label) named = named
act_named names observer Read named = named
act_named names observer Take named = named
act_named names observer Wait named = named
act_named names observer (Send text) named = named
act_named names observer (Ended content) named = named

pub raise_of : (observer : Label) (act : Act) → IsRaiseOf act → IsRaiseOf (erase_act observer act)
raise_of observer (Release source target power content) raise = tt
raise_of observer (Expose source target power content) raise = tt
raise_of observer (NewRef label value) raise = tt
raise_of observer (NewVar label value) raise = tt
raise_of observer (Fork birth) raise = tt
raise_of observer (Spawn birth) raise = tt
raise_of observer (Write value) raise = tt
raise_of observer (Put value) raise = tt
raise_of observer Step raise = tt
raise_of observer (Seal label) raise = tt
raise_of observer (Raise op label) raise = raise
raise_of observer (Lower label) raise = tt
raise_of observer Read raise = tt
raise_of observer Take raise = tt
raise_of observer Wait raise = tt
raise_of observer (Send text) raise = tt
raise_of observer (Ended content) raise = tt

pub reply_named : (names : List (List ℕ)) (observer : Label) (reply : Reply) → IsReplyNamed names reply → IsReplyNamed names (erase_reply observer reply)
reply_named names observer Done named = named
reply_named names observer (Got value) named = value_named names observer value named
reply_named names observer (Told content) named = named
reply_named names observer (Refused fault) named = named

-- ---- what contents keep stays pure

content-pure : (visible : Bool) (content : Content) → IsContentPure content → IsContentPure (cond visible content Hidden)
content-pure true content pure = pure
content-pure false content pure = tt

pub erased-content-pure : (observer label : Label) (content : Content) → IsContentPure content → IsContentPure (erase_content observer label content)
unfolding erase_content
erased-content-pure observer label content pure = content-pure (flows label observer) content pure

inner-pure : (visible : Bool) (inner : Inner) → IsInnerPure inner → IsInnerPure (cond visible inner forest.Hidden)
inner-pure true inner pure = pure
inner-pure false inner pure = tt

mutual
  tree-pure : (observer : Label) (tree : Tree) → KeepsPureTree tree → KeepsPureTree (erase_tree observer tree)
  tree-pure observer (forest.Items items) pure = items-pure observer items pure
  tree-pure observer forest.Unit pure = pure
  tree-pure observer (forest.Flag flag) pure = pure
  tree-pure observer (forest.Whole number) pure = pure
  tree-pure observer (forest.Bytes text) pure = pure
  tree-pure observer (forest.Lab label) pure = pure
  tree-pure observer (forest.Power privilege) pure = pure
  tree-pure observer (forest.RefOf handle) pure = pure
  tree-pure observer (forest.VarOf handle) pure = pure
  tree-pure observer (forest.ResultOf handle) pure = pure
  tree-pure observer (forest.ChanOf handle) pure = pure

  item-pure : (observer : Label) (item : Item) → KeepsPureItem item → KeepsPureItem (erase_item observer item)
  item-pure observer (forest.Bare tree) pure = tree-pure observer tree pure
  item-pure observer (forest.Sealed label inner) pure = inner-pure (flows label observer) inner pure

  items-pure : (observer : Label) (items : Forest) → KeepPureItems items → KeepPureItems (erase_forest observer items)
  items-pure observer Nothing pure = tt
  items-pure observer (Then item items) pure = (item-pure observer item pure.0, items-pure observer items pure.1)

pub value-pure : (observer : Label) (value : Value) → KeepsPure value → KeepsPure (erase_value observer value)
value-pure observer (Bare plain) pure = subst KeepsPureTree (sym (tree_of-plain_of (erase_tree observer (tree_of plain)))) (tree-pure observer (tree_of plain) pure)
value-pure observer (Sealed label content) pure = erased-content-pure observer label content pure

option-pure : (observer : Label) (value : Option Value) → OptionKeepsPure value → OptionKeepsPure (option_map (erase_value observer) value)
option-pure observer None pure = tt
option-pure observer (Some value) pure = value-pure observer value pure

args-pure : (observer : Label) (args : List Value) → All KeepsPure args → All KeepsPure (map (erase_value observer) args)
args-pure observer args pure = All-map KeepsPure (erase_value observer) args (λ k d within. value-pure observer _ (pure k d within))

pub act-pure : (observer : Label) (act : Act) → ActKeepsPure act → ActKeepsPure (erase_act observer act)
act-pure observer (Release source target power content) pure = erased-content-pure observer target content pure
act-pure observer (Expose source target power content) pure = erased-content-pure observer target content pure
act-pure observer (NewRef label value) pure = value-pure observer value pure
act-pure observer (NewVar label value) pure = option-pure observer value pure
act-pure observer (Fork birth) pure = args-pure observer birth.args pure
act-pure observer (Spawn birth) pure = args-pure observer birth.args pure
act-pure observer (Write value) pure = value-pure observer value pure
act-pure observer (Put value) pure = value-pure observer value pure
act-pure observer Step pure = pure
act-pure observer (Seal label) pure = pure
act-pure observer (Raise op label) pure = pure
act-pure observer (Lower label) pure = pure
act-pure observer Read pure = pure
act-pure observer Take pure = pure
act-pure observer Wait pure = pure
act-pure observer (Send text) pure = pure
act-pure observer (Ended content) pure = pure

pub reply-pure : (observer : Label) (reply : Reply) → ReplyKeepsPure reply → ReplyKeepsPure (erase_reply observer reply)
reply-pure observer Done pure = pure
reply-pure observer (Got value) pure = value-pure observer value pure
reply-pure observer (Told content) pure = pure
reply-pure observer (Refused fault) pure = pure

pub erased_is_printable : ErasedIsPrintable
erased_is_printable names observer entry printable = record {
  at = printable.at;
  act = act_named names observer entry.act printable.act;
  raise = raise_of observer entry.act printable.raise;
  reply = reply_named names observer entry.reply printable.reply;
  pure = (act-pure observer entry.act printable.pure.0, reply-pure observer entry.reply printable.pure.1);
}
