-- The laws of erasure.
use Rattle.std.proofs.Common.{◌≡◌, Bool, true, false, IsTrue, List, [], ◌∷◌, map, Option, Some, None, refl, ap, cond, ◌∙◌}
use Rattle.std.specs.Option.{option_map}
use Rattle.lio_labels.specs.declared.label.Label.{Label}
use Rattle.lio_labels.specs.Flow.{flows}
use Rattle.lio_labels.proofs.FlowLemmas.{flow_is_reflexive, flow_is_transitive}
use Rattle.lio_values.specs.declared.value.Plain.{Plain}
use Rattle.lio_values.specs.declared.value.Content.{Content}
use Rattle.lio_values.specs.declared.value.Content.TheVariants.{Hidden}
use Rattle.lio_values.specs.declared.value.Value.{Value}
use Rattle.lio_values.specs.declared.value.Value.TheVariants.{Bare, Sealed}
use Rattle.lio_values.specs.declared.act.Act.{Act}
use Rattle.lio_values.specs.declared.act.Act.TheVariants.{Release, Expose, NewRef, NewVar, Fork, Spawn, Write, Put, Step, Seal, Raise, Lower, Read, Take, Wait, Send, Ended}
use Rattle.lio_values.specs.declared.act.Birth.{Birth}
use Rattle.lio_values.specs.declared.act.Reply.{Reply}
use Rattle.lio_values.specs.declared.act.Reply.TheVariants.{Got, Done, Told, Refused}
use Rattle.lio_values.specs.Forest as forest
use Rattle.lio_values.specs.Forest.{Tree, Inner, Item, Forest, Nothing, Then}
use Rattle.lio_values.specs.Views.{tree_of, plain_of, tree_of-plain_of}
use Rattle.lio_values.specs.Erasure.{erase_content, erase_tree, erase_item, erase_forest, erase_plain, erase_value, erase_birth, erase_act, erase_reply}
use Rattle.lio_values.specs.Laws.{ValueErasedTwice, ValueErasedBelow, EntryErasedTwice, EntryErasedBelow}

-- hiding by one test and then by a test that implies it is hiding by the second
hidden : (first second : Bool) (content : Content) → (IsTrue second → IsTrue first)
    → cond second (cond first content Hidden) Hidden ≡ cond second content Hidden
hidden first false content implied = refl
hidden true true content implied = refl
hidden false true content implied = let seen : false ≡ true = implied refl in absurd (cc)

content_erased_below : (lower higher label : Label) (content : Content) → IsTrue (flows lower higher)
    → erase_content lower label (erase_content higher label content) ≡ erase_content lower label content
unfolding erase_content
content_erased_below lower higher label content below =
    hidden (flows label higher) (flows label lower) content (λ seen. flow_is_transitive label lower higher seen below)

-- the same of what stands in a list
inner-hidden : (first second : Bool) (inner : Inner) → (IsTrue second → IsTrue first)
    → cond second (cond first inner forest.Hidden) forest.Hidden ≡ cond second inner forest.Hidden
inner-hidden first false inner implied = refl
inner-hidden true true inner implied = refl
inner-hidden false true inner implied = let seen : false ≡ true = implied refl in absurd (cc)

mutual
  tree_erased_below : (lower higher : Label) (tree : Tree) → IsTrue (flows lower higher) → erase_tree lower (erase_tree higher tree) ≡ erase_tree lower tree
  tree_erased_below lower higher (forest.Items items) below = ap forest.Items (forest_erased_below lower higher items below)
  tree_erased_below lower higher forest.Unit below = refl
  tree_erased_below lower higher (forest.Flag flag) below = refl
  tree_erased_below lower higher (forest.Whole number) below = refl
  tree_erased_below lower higher (forest.Bytes text) below = refl
  tree_erased_below lower higher (forest.Lab label) below = refl
  tree_erased_below lower higher (forest.Power privilege) below = refl
  tree_erased_below lower higher (forest.RefOf handle) below = refl
  tree_erased_below lower higher (forest.VarOf handle) below = refl
  tree_erased_below lower higher (forest.ResultOf handle) below = refl
  tree_erased_below lower higher (forest.ChanOf handle) below = refl

  item_erased_below : (lower higher : Label) (item : Item) → IsTrue (flows lower higher) → erase_item lower (erase_item higher item) ≡ erase_item lower item
  item_erased_below lower higher (forest.Bare tree) below = ap forest.Bare (tree_erased_below lower higher tree below)
  item_erased_below lower higher (forest.Sealed label inner) below =
      ap (forest.Sealed label) (inner-hidden (flows label higher) (flows label lower) inner (λ seen. flow_is_transitive label lower higher seen below))

  forest_erased_below : (lower higher : Label) (items : Forest) → IsTrue (flows lower higher)
      → erase_forest lower (erase_forest higher items) ≡ erase_forest lower items
  forest_erased_below lower higher Nothing below = refl
  forest_erased_below lower higher (Then item items) below = λ i. Then (item_erased_below lower higher item below i) (forest_erased_below lower higher items below i)

plain_erased_below : (lower higher : Label) (plain : Plain) → IsTrue (flows lower higher) → erase_plain lower (erase_plain higher plain) ≡ erase_plain lower plain
plain_erased_below lower higher plain below =
    ap (λ tree. plain_of (erase_tree lower tree)) (tree_of-plain_of (erase_tree higher (tree_of plain))) ∙ ap plain_of (tree_erased_below lower higher (tree_of plain) below)

pub value_erased_below : ValueErasedBelow
value_erased_below lower higher (Bare plain) below = ap Bare (plain_erased_below lower higher plain below)
value_erased_below lower higher (Sealed label content) below = ap (Sealed label) (content_erased_below lower higher label content below)

values_erased_below : (lower higher : Label) (values : List Value) → IsTrue (flows lower higher)
    → map (erase_value lower) (map (erase_value higher) values) ≡ map (erase_value lower) values
values_erased_below lower higher [] below = refl
values_erased_below lower higher (value ∷ values) below =
    let first : erase_value lower (erase_value higher value) ≡ erase_value lower value = value_erased_below lower higher value below in
    let others : map (erase_value lower) (map (erase_value higher) values) ≡ map (erase_value lower) values = values_erased_below lower higher values below in
    cc

option_erased_below : (lower higher : Label) (value : Option Value) → IsTrue (flows lower higher)
    → option_map (erase_value lower) (option_map (erase_value higher) value) ≡ option_map (erase_value lower) value
option_erased_below lower higher None below = refl
option_erased_below lower higher (Some value) below = ap Some (value_erased_below lower higher value below)

birth_erased_below : (lower higher : Label) (birth : Birth) → IsTrue (flows lower higher)
    → erase_birth lower (erase_birth higher birth) ≡ erase_birth lower birth
birth_erased_below lower higher birth below = ap (λ (args : List Value). record birth { args = args }) (values_erased_below lower higher birth.args below)

act_erased_below : (lower higher : Label) (act : Act) → IsTrue (flows lower higher)
    → erase_act lower (erase_act higher act) ≡ erase_act lower act
act_erased_below lower higher (Release source target power content) below = ap (Release source target power) (content_erased_below lower higher target content below)
act_erased_below lower higher (Expose source target power content) below = ap (Expose source target power) (content_erased_below lower higher target content below)
act_erased_below lower higher (NewRef label value) below = ap (NewRef label) (value_erased_below lower higher value below)
act_erased_below lower higher (NewVar label value) below = ap (NewVar label) (option_erased_below lower higher value below)
act_erased_below lower higher (Fork birth) below = ap Fork (birth_erased_below lower higher birth below)
act_erased_below lower higher (Spawn birth) below = ap Spawn (birth_erased_below lower higher birth below)
act_erased_below lower higher (Write value) below = ap Write (value_erased_below lower higher value below)
act_erased_below lower higher (Put value) below = ap Put (value_erased_below lower higher value below)
act_erased_below lower higher Step below = refl
act_erased_below lower higher (Seal label) below = refl
act_erased_below lower higher (Raise op label) below = refl
act_erased_below lower higher (Lower label) below = refl
act_erased_below lower higher Read below = refl
act_erased_below lower higher Take below = refl
act_erased_below lower higher Wait below = refl
act_erased_below lower higher (Send text) below = refl
act_erased_below lower higher (Ended content) below = refl

reply_erased_below : (lower higher : Label) (reply : Reply) → IsTrue (flows lower higher)
    → erase_reply lower (erase_reply higher reply) ≡ erase_reply lower reply
reply_erased_below lower higher (Got value) below = ap Got (value_erased_below lower higher value below)
reply_erased_below lower higher Done below = refl
reply_erased_below lower higher (Told content) below = refl
reply_erased_below lower higher (Refused fault) below = refl

pub entry_erased_below : EntryErasedBelow
entry_erased_below lower higher entry below =
    let act : erase_act lower (erase_act higher entry.act) ≡ erase_act lower entry.act = act_erased_below lower higher entry.act below in
    let reply : erase_reply lower (erase_reply higher entry.reply) ≡ erase_reply lower entry.reply = reply_erased_below lower higher entry.reply below in
    λ i. record entry { act = act i; reply = reply i }

pub value_erased_twice : ValueErasedTwice
value_erased_twice observer value = value_erased_below observer observer value (flow_is_reflexive observer)

pub entry_erased_twice : EntryErasedTwice
entry_erased_twice observer entry = entry_erased_below observer observer entry (flow_is_reflexive observer)
