-- The text of an entry of a journal. One line a kind.
use Rattle.std.specs.Prelude.{ℕ, List, [], ◌++◌, codes, decimal, Option, None, Some}
use Rattle.std.specs.List.{flat_map}
use Rattle.lio_labels.specs.declared.label.Label.{Label}
use Rattle.lio_labels.specs.declared.privilege.Priv.{Priv}
use Rattle.lio_values.specs.declared.value.Content.{Content}
use Rattle.lio_values.specs.declared.value.Value.{Value}
use Rattle.lio_values.specs.declared.act.Op.{Op}
use Rattle.lio_values.specs.declared.act.Op.TheVariants as op
use Rattle.lio_values.specs.declared.act.Act.{Act}
use Rattle.lio_values.specs.declared.act.Act.TheVariants.{Step, Seal, Raise, Lower, Release, Expose, NewRef, NewVar, Fork, Spawn, Read, Write, Take, Put, Wait, Send, Ended}
use Rattle.lio_values.specs.declared.act.Birth.{Birth}
use Rattle.lio_values.specs.declared.act.Reply.{Reply}
use Rattle.lio_values.specs.declared.act.Reply.TheVariants.{Done, Got, Told, Refused}
use Rattle.lio_values.specs.declared.entry.Entry.{Entry}
use Rattle.lio_values.specs.Quoted.{quoted}
use Rattle.lio_values.specs.PlainText.{label_in_brackets, power_text}
use Rattle.lio_values.specs.ValueText.{labels_text, fault_text, content_text, value_text}

-- a value, if there is one
abbrev pub option_text : List (List ℕ) → Option Value → List ℕ
option_text names None = codes "empty"
option_text names (Some value) = value_text names value

-- each argument, after a blank
abbrev pub args_text : List (List ℕ) → List Value → List ℕ
args_text names args = flat_map (λ arg. codes " " ++ value_text names arg) args

-- a birth: the procedure's place, the label of the result, the clearance, turns, first number, how many numbers, and the arguments
abbrev pub birth_text : List (List ℕ) → List ℕ → Birth → List ℕ
birth_text names word birth =
    word ++ codes " " ++ decimal birth.proc_at ++ labels_text names birth.result birth.clearance
    ++ codes " " ++ decimal birth.turns ++ codes " " ++ decimal birth.first ++ codes " " ++ decimal birth.cells ++ args_text names birth.args

-- the operation that a raise names
abbrev pub op_text : Op → List ℕ
op_text op.Unlabel = codes "unlabel"
op_text op.Taint = codes "taint"
op_text op.Read = codes "read"
op_text op.Wait = codes "wait"
op_text op.Take = codes "take"
op_text op.Put = codes "put"
op_text other = []

-- what a release or an exposure shows, behind its word
abbrev pub release_text : List (List ℕ) → List ℕ → Label → Label → Priv → Content → List ℕ
release_text names word source target power content = word ++ labels_text names source target ++ codes " " ++ power_text names power ++ codes " " ++ content_text names content

-- what a task did
abbrev pub act_text : List (List ℕ) → Act → List ℕ
act_text names Step = codes "step"
act_text names (Seal label) = codes "seal " ++ label_in_brackets names label
act_text names (Raise op label) = codes "raise " ++ op_text op ++ codes " " ++ label_in_brackets names label
act_text names (Lower label) = codes "lower " ++ label_in_brackets names label
act_text names (Release source target power content) = release_text names (codes "release") source target power content
act_text names (Expose source target power content) = release_text names (codes "expose") source target power content
act_text names (NewRef label value) = codes "newref " ++ label_in_brackets names label ++ codes " " ++ value_text names value
act_text names (NewVar label value) = codes "newvar " ++ label_in_brackets names label ++ codes " " ++ option_text names value
act_text names (Fork birth) = birth_text names (codes "fork") birth
act_text names (Spawn birth) = birth_text names (codes "spawn") birth
act_text names Read = codes "read"
act_text names (Write value) = codes "write " ++ value_text names value
act_text names Take = codes "take"
act_text names (Put value) = codes "put " ++ value_text names value
act_text names Wait = codes "wait"
act_text names (Send text) = codes "send " ++ quoted text
act_text names (Ended content) = codes "ended " ++ content_text names content

-- what it was answered
abbrev pub reply_text : List (List ℕ) → Reply → List ℕ
reply_text names Done = codes "ok"
reply_text names (Got value) = codes "got " ++ value_text names value
reply_text names (Told content) = codes "told " ++ content_text names content
reply_text names (Refused fault) = codes "no " ++ fault_text names fault

-- the node that it met
abbrev pub target_text : Option ℕ → List ℕ
target_text None = codes "-"
target_text (Some target) = decimal target

-- the line of an entry, without its ticket
unfoldable pub line_text : List (List ℕ) → Entry → List ℕ
line_text names entry =
    decimal entry.actor ++ codes " " ++ target_text entry.target ++ codes " " ++ label_in_brackets names entry.at
    ++ codes " " ++ act_text names entry.act ++ codes " : " ++ reply_text names entry.reply ++ codes "\n"
