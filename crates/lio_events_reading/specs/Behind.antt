-- What stands behind the first word of a plain value, a kind of fault, an act, a reply and a content.
use Rattle.std.specs.Prelude.{ℕ, List, [], ◌++◌, codes}
use Rattle.lio_labels.specs.declared.label.Label.{Label}
use Rattle.lio_labels.specs.declared.privilege.Priv.{Priv}
use Rattle.lio_values.specs.declared.value.Content.{Content}
use Rattle.lio_values.specs.declared.fault.FaultKind.{FaultKind}
use Rattle.lio_values.specs.declared.fault.FaultKind.TheVariants as fault
use Rattle.lio_values.specs.declared.act.Act.{Act}
use Rattle.lio_values.specs.declared.act.Act.TheVariants as act
use Rattle.lio_values.specs.declared.act.Op.{Op}
use Rattle.lio_values.specs.declared.act.Op.TheVariants as op
use Rattle.lio_values.specs.declared.act.Reply.{Reply}
use Rattle.lio_values.specs.declared.act.Reply.TheVariants as reply
use Rattle.lio_values.specs.Quoted.{quoted}
use Rattle.lio_values.specs.PlainText.{plain_text}
use Rattle.lio_values.specs.ValueText.{labels_text, numbers_text}
use Rattle.lio_events.specs.EntryText.{op_text}
use Rattle.lio_events_reading.specs.declared.words.KindWord.{KindWord}
use Rattle.lio_events_reading.specs.declared.words.KindWord.TheVariants as kind
use Rattle.lio_events_reading.specs.declared.words.ActWord.{ActWord}
use Rattle.lio_events_reading.specs.declared.words.ActWord.TheVariants as do_
use Rattle.lio_events_reading.specs.declared.words.ReplyWord.{ReplyWord}
use Rattle.lio_events_reading.specs.declared.words.ReplyWord.TheVariants as say
use Rattle.lio_events_reading.specs.declared.words.OpWord.{OpWord}
use Rattle.lio_events_reading.specs.declared.words.OpWord.TheVariants as raise
use Rattle.lio_events_reading.specs.Births.{birth_behind}
use Rattle.lio_events_reading.specs.Labels.{blank_power, blank_label}
use Rattle.lio_events_reading.specs.Values.{blank_value_text, blank_content_text, blank_option_text, blank_fault_text}

-- a kind of fault
abbrev pub word_of_kind : FaultKind → KindWord
word_of_kind (fault.FlowCurrent current target) = kind.FlowCurrent
word_of_kind (fault.FlowClearance target clearance) = kind.FlowClearance
word_of_kind (fault.FlowRaise raised clearance) = kind.FlowRaise
word_of_kind (fault.FlowPrivilege power source target) = kind.FlowPrivilege
word_of_kind fault.BadType = kind.BadType
word_of_kind fault.Overflow = kind.Overflow
word_of_kind fault.DivZero = kind.DivZero
word_of_kind fault.TooLong = kind.TooLong
word_of_kind fault.NoTurns = kind.NoTurns
word_of_kind (fault.NoCells asked left) = kind.NoCells
word_of_kind (fault.ChildTurns asked left) = kind.ChildTurns
word_of_kind fault.Depth = kind.Depth
word_of_kind (fault.LabelWide left right) = kind.LabelWide
word_of_kind (fault.User plain) = kind.User

abbrev pub kind_behind : List (List ℕ) → FaultKind → List ℕ
kind_behind names (fault.FlowCurrent current target) = labels_text names current target
kind_behind names (fault.FlowClearance target clearance) = labels_text names target clearance
kind_behind names (fault.FlowRaise raised clearance) = labels_text names raised clearance
kind_behind names (fault.FlowPrivilege power source target) = blank_power names power ++ labels_text names source target
kind_behind names (fault.NoCells asked left) = numbers_text asked left
kind_behind names (fault.ChildTurns asked left) = numbers_text asked left
kind_behind names (fault.LabelWide left right) = labels_text names left right
kind_behind names (fault.User plain) = codes " " ++ plain_text names plain
kind_behind names fault.BadType = []
kind_behind names fault.Overflow = []
kind_behind names fault.DivZero = []
kind_behind names fault.TooLong = []
kind_behind names fault.NoTurns = []
kind_behind names fault.Depth = []

-- an act
abbrev pub word_of_act : Act → ActWord
word_of_act act.Step = do_.Step
word_of_act (act.Seal label) = do_.Seal
word_of_act (act.Raise op label) = do_.Raise
word_of_act (act.Lower label) = do_.Lower
word_of_act (act.Release source target power content) = do_.Release
word_of_act (act.Expose source target power content) = do_.Expose
word_of_act (act.NewRef label value) = do_.NewRef
word_of_act (act.NewVar label value) = do_.NewVar
word_of_act (act.Fork birth) = do_.Fork
word_of_act (act.Spawn birth) = do_.Spawn
word_of_act act.Read = do_.Read
word_of_act (act.Write value) = do_.Write
word_of_act act.Take = do_.Take
word_of_act (act.Put value) = do_.Put
word_of_act act.Wait = do_.Wait
word_of_act (act.Send text) = do_.Send
word_of_act (act.Ended content) = do_.Ended

abbrev pub release_behind : List (List ℕ) → Label → Label → Priv → Content → List ℕ
release_behind names source target power content = labels_text names source target ++ blank_power names power ++ blank_content_text names content

abbrev pub act_behind : List (List ℕ) → Act → List ℕ
act_behind names (act.Seal label) = blank_label names label
act_behind names (act.Raise op label) = codes " " ++ op_text op ++ blank_label names label
act_behind names (act.Lower label) = blank_label names label
act_behind names (act.Release source target power content) = release_behind names source target power content
act_behind names (act.Expose source target power content) = release_behind names source target power content
act_behind names (act.NewRef label value) = blank_label names label ++ blank_value_text names value
act_behind names (act.NewVar label value) = blank_label names label ++ blank_option_text names value
act_behind names (act.Fork birth) = birth_behind names birth
act_behind names (act.Spawn birth) = birth_behind names birth
act_behind names (act.Write value) = blank_value_text names value
act_behind names (act.Put value) = blank_value_text names value
act_behind names (act.Send text) = codes " " ++ quoted text
act_behind names (act.Ended content) = blank_content_text names content
act_behind names act.Step = []
act_behind names act.Read = []
act_behind names act.Take = []
act_behind names act.Wait = []

-- the operation that a word names
abbrev pub op_named : OpWord → Op
op_named raise.Unlabel = op.Unlabel
op_named raise.Taint = op.Taint
op_named raise.Read = op.Read
op_named raise.Wait = op.Wait
op_named raise.Take = op.Take
op_named raise.Put = op.Put

-- a reply
abbrev pub word_of_reply : Reply → ReplyWord
word_of_reply reply.Done = say.Done
word_of_reply (reply.Got value) = say.Got
word_of_reply (reply.Told content) = say.Told
word_of_reply (reply.Refused fault) = say.Refused

abbrev pub reply_behind : List (List ℕ) → Reply → List ℕ
reply_behind names reply.Done = []
reply_behind names (reply.Got value) = blank_value_text names value
reply_behind names (reply.Told content) = blank_content_text names content
reply_behind names (reply.Refused fault) = blank_fault_text names fault
