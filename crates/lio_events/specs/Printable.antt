-- Which entries can be printed.
use Rattle.std.specs.Prelude.{ℕ, List, All, Option, None, Some}
use Rattle.lio_labels.specs.LabelPrint.{AreNamed}
use Rattle.lio_values.specs.declared.value.Value.{Value}
use Rattle.lio_values.specs.declared.act.Op.{Op}
use Rattle.lio_values.specs.declared.act.Op.TheVariants as op
use Rattle.lio_values.specs.declared.act.Act.{Act}
use Rattle.lio_values.specs.declared.act.Act.TheVariants.{Step, Seal, Raise, Lower, Release, Expose, NewRef, NewVar, Fork, Spawn, Read, Write, Take, Put, Wait, Send, Ended}
use Rattle.lio_values.specs.declared.act.Birth.{Birth}
use Rattle.lio_values.specs.declared.act.Reply.{Reply}
use Rattle.lio_values.specs.declared.act.Reply.TheVariants.{Done, Got, Told, Refused}
use Rattle.lio_values.specs.declared.entry.Entry.{Entry}
use Rattle.lio_values.specs.PlainText.{IsPowerNamed}
use Rattle.lio_values.specs.Purity.{KeepsPure, IsContentPure, IsFaultPure}
use Rattle.lio_values.specs.Named.{IsFaultNamed, IsContentNamed, IsValueNamed}

-- each principal in a value, if there is one, has a name
abbrev pub IsOptionNamed : List (List ℕ) → Option Value → Type 0
IsOptionNamed names None = Unit {0}
IsOptionNamed names (Some value) = IsValueNamed names value

-- each principal in a birth has a name
abbrev pub IsBirthNamed : List (List ℕ) → Birth → Type 0
IsBirthNamed names birth = AreNamed names birth.result × AreNamed names birth.clearance × All (IsValueNamed names) birth.args

-- each principal in an act has a name
abbrev pub IsActNamed : List (List ℕ) → Act → Type 0
IsActNamed names (Seal label) = AreNamed names label
IsActNamed names (Raise op label) = AreNamed names label
IsActNamed names (Lower label) = AreNamed names label
IsActNamed names (Release source target power content) = AreNamed names source × AreNamed names target × IsPowerNamed names power × IsContentNamed names content
IsActNamed names (Expose source target power content) = AreNamed names source × AreNamed names target × IsPowerNamed names power × IsContentNamed names content
IsActNamed names (NewRef label value) = AreNamed names label × IsValueNamed names value
IsActNamed names (NewVar label value) = AreNamed names label × IsOptionNamed names value
IsActNamed names (Fork birth) = IsBirthNamed names birth
IsActNamed names (Spawn birth) = IsBirthNamed names birth
IsActNamed names (Write value) = IsValueNamed names value
IsActNamed names (Put value) = IsValueNamed names value
IsActNamed names (Ended content) = IsContentNamed names content
IsActNamed names Step = Unit {0}
IsActNamed names Read = Unit {0}
IsActNamed names Take = Unit {0}
IsActNamed names Wait = Unit {0}
IsActNamed names (Send text) = Unit {0}

-- each principal in a reply has a name
abbrev pub IsReplyNamed : List (List ℕ) → Reply → Type 0
IsReplyNamed names Done = Unit {0}
IsReplyNamed names (Got value) = IsValueNamed names value
IsReplyNamed names (Told content) = IsContentNamed names content
IsReplyNamed names (Refused fault) = IsFaultNamed names fault

-- an operation that raises the current label
abbrev pub IsRaising : Op → Type 0
IsRaising op.Unlabel = Unit {0}
IsRaising op.Taint = Unit {0}
IsRaising op.Read = Unit {0}
IsRaising op.Wait = Unit {0}
IsRaising op.Take = Unit {0}
IsRaising op.Put = Unit {0}
IsRaising other = ⊥

-- a raise names an operation that raises
abbrev pub IsRaiseOf : Act → Type 0
IsRaiseOf (Raise op label) = IsRaising op
IsRaiseOf act = Unit {0}

-- each content in a value, if there is one, keeps a pure value
abbrev pub OptionKeepsPure : Option Value → Type 0
OptionKeepsPure None = Unit {0}
OptionKeepsPure (Some value) = KeepsPure value

-- each content in an act keeps a pure value, and so does each fault in it that carries one
abbrev pub ActKeepsPure : Act → Type 0
ActKeepsPure (Release source target power content) = IsContentPure content
ActKeepsPure (Expose source target power content) = IsContentPure content
ActKeepsPure (NewRef label value) = KeepsPure value
ActKeepsPure (NewVar label value) = OptionKeepsPure value
ActKeepsPure (Fork birth) = All KeepsPure birth.args
ActKeepsPure (Spawn birth) = All KeepsPure birth.args
ActKeepsPure (Write value) = KeepsPure value
ActKeepsPure (Put value) = KeepsPure value
ActKeepsPure (Ended content) = IsContentPure content
ActKeepsPure Step = Unit {0}
ActKeepsPure (Seal label) = Unit {0}
ActKeepsPure (Raise op label) = Unit {0}
ActKeepsPure (Lower label) = Unit {0}
ActKeepsPure Read = Unit {0}
ActKeepsPure Take = Unit {0}
ActKeepsPure Wait = Unit {0}
ActKeepsPure (Send text) = Unit {0}

-- so does each content in a reply
abbrev pub ReplyKeepsPure : Reply → Type 0
ReplyKeepsPure Done = Unit {0}
ReplyKeepsPure (Got value) = KeepsPure value
ReplyKeepsPure (Told content) = IsContentPure content
ReplyKeepsPure (Refused fault) = IsFaultPure fault

-- an entry can be printed: each principal in it has a name, a raise names an operation that raises, and contents and faults keep pure values
pub record IsPrintable (names : List (List ℕ)) (entry : Entry) : Type 0 where
  pub at : AreNamed names entry.at
  pub act : IsActNamed names entry.act
  pub raise : IsRaiseOf entry.act
  pub reply : IsReplyNamed names entry.reply
  pub pure : ActKeepsPure entry.act × ReplyKeepsPure entry.reply
