-- Values, faults, acts, replies and entries over a list of principals: each principal in them has a name, they are values of the code's types, and contents
-- and faults keep pure values.
use Rattle.std.specs.Prelude.{ℕ, ◌≤◌, List, All, Option, IsTrue}
use Rattle.lio_labels.specs.declared.label.Label.{Label}
use Rattle.lio_labels.specs.declared.privilege.Priv.{Priv}
use Rattle.lio_labels.specs.IsLabel.{IsLabel}
use Rattle.lio_labels.specs.LabelPrint.{AreNamed}
use Rattle.lio_values.specs.declared.value.Handle.{Handle}
use Rattle.lio_values.specs.declared.value.Plain.{Plain}
use Rattle.lio_values.specs.declared.value.Content.{Content}
use Rattle.lio_values.specs.declared.value.Value.{Value}
use Rattle.lio_values.specs.declared.fault.Fault.{Fault}
use Rattle.lio_values.specs.declared.fault.FaultKind.{FaultKind}
use Rattle.lio_values.specs.declared.act.Act.{Act}
use Rattle.lio_values.specs.declared.act.Birth.{Birth}
use Rattle.lio_values.specs.declared.act.Reply.{Reply}
use Rattle.lio_values.specs.declared.entry.Entry.{Entry}
use Rattle.lio_values.specs.Forest.{tree_depth}
use Rattle.lio_values.specs.Measures.{is_pure, value_depth}
use Rattle.lio_values.specs.PlainText.{IsPowerNamed, IsPlainNamed}
use Rattle.lio_values.specs.Purity.{KeepsPure, IsContentPure, IsFaultPure, IsProblemPure}
use Rattle.lio_values.specs.Views.{tree_of, problem_of}
use Rattle.lio_values.specs.Named.{IsKindNamed, IsFaultNamed, IsContentNamed, IsValueNamed}
use Rattle.lio_events.specs.Printable.{IsOptionNamed, IsBirthNamed, IsActNamed, IsRaiseOf, IsReplyNamed, OptionKeepsPure, ActKeepsPure, ReplyKeepsPure, IsPrintable}
use Rattle.lio_events_reading.specs.Fits.{PowerFits, HandleFits, PlainFits, KindFits, FaultFits, ContentFits, ValueFits, OptionFits, BirthFits, ActFits, ReplyFits, EntryFits}

abbrev pub IsLabelOver : List (List ℕ) → Label → Type 0
IsLabelOver names label = AreNamed names label × IsLabel label

abbrev pub IsPowerOver : List (List ℕ) → Priv → Type 0
IsPowerOver names privilege = IsPowerNamed names privilege × PowerFits privilege

abbrev pub IsHandleOver : List (List ℕ) → Handle → Type 0
IsHandleOver names handle = AreNamed names handle.label × HandleFits handle

abbrev pub IsPlainOver : List (List ℕ) → Plain → Type 0
IsPlainOver names plain = IsPlainNamed names plain × PlainFits plain

-- what a content keeps, and what a fault carries, is pure
abbrev pub IsPureOver : List (List ℕ) → Plain → Type 0
IsPureOver names plain = IsPlainNamed names plain × PlainFits plain × IsTrue (is_pure plain)

-- it is no list in which others stand deeper than so many
abbrev pub IsPureWithin : List (List ℕ) → ℕ → Plain → Type 0
IsPureWithin names depth plain = IsPureOver names plain × (tree_depth (tree_of plain) ≤ depth)

abbrev pub IsKindOver : List (List ℕ) → FaultKind → Type 0
IsKindOver names kind = IsKindNamed names kind × KindFits kind × IsProblemPure (problem_of kind)

abbrev pub IsFaultOver : List (List ℕ) → Fault → Type 0
IsFaultOver names fault = IsFaultNamed names fault × FaultFits fault × IsFaultPure fault

abbrev pub IsContentOver : List (List ℕ) → Content → Type 0
IsContentOver names content = IsContentNamed names content × ContentFits content × IsContentPure content

abbrev pub IsValueOver : List (List ℕ) → Value → Type 0
IsValueOver names value = IsValueNamed names value × ValueFits value × KeepsPure value

abbrev pub IsValueWithin : List (List ℕ) → ℕ → Value → Type 0
IsValueWithin names depth value = IsValueOver names value × (value_depth value ≤ depth)

abbrev pub IsOptionOver : List (List ℕ) → Option Value → Type 0
IsOptionOver names value = IsOptionNamed names value × OptionFits value × OptionKeepsPure value

abbrev pub AreValuesOver : List (List ℕ) → List Value → Type 0
AreValuesOver names values = All (IsValueOver names) values

abbrev pub IsBirthOver : List (List ℕ) → Birth → Type 0
IsBirthOver names birth = IsBirthNamed names birth × BirthFits birth × All KeepsPure birth.args

-- a raise also names an operation that raises
abbrev pub IsActOver : List (List ℕ) → Act → Type 0
IsActOver names act = IsActNamed names act × IsRaiseOf act × ActFits act × ActKeepsPure act

abbrev pub IsReplyOver : List (List ℕ) → Reply → Type 0
IsReplyOver names reply = IsReplyNamed names reply × ReplyFits reply × ReplyKeepsPure reply

-- an entry that can be printed over the names of principals
pub record IsEntryOver (names : List (List ℕ)) (entry : Entry) : Type 0 where
  pub printable : IsPrintable names entry
  pub fits : EntryFits entry
