-- Which values, acts and replies can be printed: each principal in them has a name, and contents and faults keep pure values.
use Rattle.std.specs.Prelude.{ℕ, List}
use Rattle.lio_values.specs.declared.value.Content.{Content}
use Rattle.lio_values.specs.declared.value.Value.{Value}
use Rattle.lio_values.specs.declared.fault.Fault.{Fault}
use Rattle.lio_values.specs.declared.fault.FaultKind.{FaultKind}
use Rattle.lio_values.specs.declared.act.Act.{Act}
use Rattle.lio_values.specs.declared.act.Reply.{Reply}
use Rattle.lio_values.specs.Named.{IsKindNamed, IsFaultNamed, IsContentNamed, IsValueNamed}
use Rattle.lio_values.specs.Purity.{KeepsPure, IsContentPure, IsFaultPure, IsProblemPure}
use Rattle.lio_values.specs.Views.{problem_of}
use Rattle.lio_events.specs.Printable.{IsActNamed, IsRaiseOf, IsReplyNamed, ActKeepsPure, ReplyKeepsPure}

abbrev pub CanPrintKind : List (List ℕ) → FaultKind → Type 0
CanPrintKind names kind = IsKindNamed names kind × IsProblemPure (problem_of kind)

abbrev pub CanPrintFault : List (List ℕ) → Fault → Type 0
CanPrintFault names fault = IsFaultNamed names fault × IsFaultPure fault

abbrev pub CanPrintContent : List (List ℕ) → Content → Type 0
CanPrintContent names content = IsContentNamed names content × IsContentPure content

abbrev pub CanPrintValue : List (List ℕ) → Value → Type 0
CanPrintValue names value = IsValueNamed names value × KeepsPure value

-- a raise names an operation that raises, too
abbrev pub CanPrint : List (List ℕ) → Act → Type 0
CanPrint names act = IsActNamed names act × IsRaiseOf act × ActKeepsPure act

abbrev pub CanPrintReply : List (List ℕ) → Reply → Type 0
CanPrintReply names reply = IsReplyNamed names reply × ReplyKeepsPure reply
