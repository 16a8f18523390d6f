-- What an observer sees of values and entries: a content under a label that doesn't flow to the observer's is hidden
-- (the erasure of the concurrent calculus of LIO, ICFP 2012).
use Rattle.std.specs.Prelude.{map, if◌then◌else◌}
use Rattle.std.specs.Option.{option_map}
use Rattle.lio_labels.specs.declared.label.Label.{Label}
use Rattle.lio_labels.specs.Flow.{flows}
use Rattle.lio_values.specs.declared.value.Plain.{Plain}
use Rattle.lio_values.specs.declared.value.Content.{Content}
use Rattle.lio_values.specs.declared.value.Content.TheVariants.{Hidden}
use Rattle.lio_values.specs.declared.value.Value.{Value}
use Rattle.lio_values.specs.declared.value.Value.TheVariants.{Bare, Sealed}
use Rattle.lio_values.specs.declared.act.Act.{Act}
use Rattle.lio_values.specs.declared.act.Act.TheVariants.{Step, Seal, Raise, Lower, Release, Expose, NewRef, NewVar, Fork, Spawn, Read, Write, Take, Put, Wait, Send, Ended}
use Rattle.lio_values.specs.declared.act.Birth.{Birth}
use Rattle.lio_values.specs.declared.act.Reply.{Reply}
use Rattle.lio_values.specs.declared.act.Reply.TheVariants.{Done, Got, Told, Refused}
use Rattle.lio_values.specs.declared.entry.Entry.{Entry}
use Rattle.lio_values.specs.Forest as forest
use Rattle.lio_values.specs.Forest.{Tree, Item, Forest, Nothing, Then}
use Rattle.lio_values.specs.Views.{tree_of, plain_of}

-- a content under a label, as the observer sees it
unfoldable pub erase_content : Label → Label → Content → Content
erase_content observer label content = if flows label observer then content else Hidden

-- The items of a list, each as the observer sees it, at every depth. What stands in a content is left as it is.
abbrev mutual
  pub erase_tree : Label → Tree → Tree
  erase_tree observer (forest.Items items) = forest.Items (erase_forest observer items)
  erase_tree observer forest.Unit = forest.Unit
  erase_tree observer (forest.Flag flag) = forest.Flag flag
  erase_tree observer (forest.Whole number) = forest.Whole number
  erase_tree observer (forest.Bytes text) = forest.Bytes text
  erase_tree observer (forest.Lab label) = forest.Lab label
  erase_tree observer (forest.Power privilege) = forest.Power privilege
  erase_tree observer (forest.RefOf handle) = forest.RefOf handle
  erase_tree observer (forest.VarOf handle) = forest.VarOf handle
  erase_tree observer (forest.ResultOf handle) = forest.ResultOf handle
  erase_tree observer (forest.ChanOf handle) = forest.ChanOf handle

  pub erase_item : Label → Item → Item
  erase_item observer (forest.Bare tree) = forest.Bare (erase_tree observer tree)
  erase_item observer (forest.Sealed label inner) = forest.Sealed label (if flows label observer then inner else forest.Hidden)

  pub erase_forest : Label → Forest → Forest
  erase_forest observer Nothing = Nothing
  erase_forest observer (Then item items) = Then (erase_item observer item) (erase_forest observer items)

-- a plain value: each item of a list is erased
abbrev pub erase_plain : Label → Plain → Plain
erase_plain observer plain = plain_of (erase_tree observer (tree_of plain))

-- a value: the content of a sealed one is hidden where its label doesn't flow to the observer's, in a list too
abbrev pub erase_value : Label → Value → Value
erase_value observer (Bare plain) = Bare (erase_plain observer plain)
erase_value observer (Sealed label content) = Sealed label (erase_content observer label content)

-- a birth, with its arguments erased
abbrev pub erase_birth : Label → Birth → Birth
erase_birth observer birth = record birth { args = map (erase_value observer) birth.args }

-- an act, with its values erased; the content of a release or of an exposure is hidden where the label that it comes to doesn't flow to the observer's
abbrev pub erase_act : Label → Act → Act
erase_act observer (Release source target power content) = Release source target power (erase_content observer target content)
erase_act observer (Expose source target power content) = Expose source target power (erase_content observer target content)
erase_act observer (NewRef label value) = NewRef label (erase_value observer value)
erase_act observer (NewVar label value) = NewVar label (option_map (erase_value observer) value)
erase_act observer (Fork birth) = Fork (erase_birth observer birth)
erase_act observer (Spawn birth) = Spawn (erase_birth observer birth)
erase_act observer (Write value) = Write (erase_value observer value)
erase_act observer (Put value) = Put (erase_value observer value)
erase_act observer Step = Step
erase_act observer (Seal label) = Seal label
erase_act observer (Raise op label) = Raise op label
erase_act observer (Lower label) = Lower label
erase_act observer Read = Read
erase_act observer Take = Take
erase_act observer Wait = Wait
erase_act observer (Send text) = Send text
erase_act observer (Ended content) = Ended content

-- a reply, with its value erased
abbrev pub erase_reply : Label → Reply → Reply
erase_reply observer (Got value) = Got (erase_value observer value)
erase_reply observer Done = Done
erase_reply observer (Told content) = Told content
erase_reply observer (Refused fault) = Refused fault

-- an entry, with all its values erased
abbrev pub erase_entry : Label → Entry → Entry
erase_entry observer entry = record entry { act = erase_act observer entry.act; reply = erase_reply observer entry.reply }
