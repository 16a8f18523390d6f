-- What the code's types keep of values, faults, acts, replies and entries: numbers have the types' widths, texts are of bytes, labels and formulas
-- are canonical and not wide. So it holds of each value of these types that the code has.
use Rattle.std.specs.Prelude.{ℕ, ◌<◌, ◌^◌, All, IsTrue, Option, None, Some}
use Rattle.std.specs.List.{list_all}
use Rattle.lio_clauses.specs.Canonical.{IsCanonical}
use Rattle.lio_clauses.specs.Width.{IsWide}
use Rattle.lio_labels.specs.declared.privilege.Priv.{Priv}
use Rattle.lio_labels.specs.IsLabel.{IsLabel}
use Rattle.lio_values.specs.declared.value.Handle.{Handle}
use Rattle.lio_values.specs.declared.value.Plain.{Plain}
use Rattle.lio_values.specs.declared.value.Content.{Content}
use Rattle.lio_values.specs.declared.value.Value.{Value}
use Rattle.lio_values.specs.declared.fault.Fault.{Fault}
use Rattle.lio_values.specs.declared.fault.FaultKind.{FaultKind}
use Rattle.lio_values.specs.Forest.{Tree, Problem, Inner, Item, Forest, deepest, Unit as unit, Flag, Whole, Bytes, Lab, Power, RefOf, VarOf, ResultOf, ChanOf, Items, FlowCurrent, FlowClearance, FlowRaise, FlowPrivilege, BadType, Overflow, DivZero, TooLong, NoTurns, NoCells, ChildTurns, Depth, LabelWide, User, Kept, Faulted, Hidden, Bare, Sealed, Nothing, Then}
use Rattle.lio_values.specs.Views.{tree_of, problem_of, inner_of, item_of}
use Rattle.lio_values.specs.declared.act.Act.{Act}
use Rattle.lio_values.specs.declared.act.Act.TheVariants.{Step, Seal, Raise, Lower, Release, Expose, NewRef, NewVar, Fork, Spawn, Read, Write, Take, Put, Wait, Send, Ended}
use Rattle.lio_values.specs.declared.act.Birth.{Birth}
use Rattle.lio_values.specs.declared.act.Reply.{Reply}
use Rattle.lio_values.specs.declared.act.Reply.TheVariants.{Done, Got, Told, Refused}
use Rattle.lio_values.specs.declared.entry.Entry.{Entry}
use Rattle.lio_syntax_lines.specs.Literals.{is_byte, is_whole}

-- a privilege's formula is canonical and not wide
abbrev pub PowerFits : Priv → Type 0
PowerFits privilege = IsCanonical privilege.power × (¬ IsWide privilege.power)

-- a handle's number has 32 bits
abbrev pub HandleFits : Handle → Type 0
HandleFits handle = (handle.number < 2 ^ 32) × IsLabel handle.label

abbrev mutual
  -- a whole has 64 bits with sign, and a list is of depth at most 8
  pub TreeFits : Tree → Type 0
  TreeFits unit = Unit {0}
  TreeFits (Flag flag) = Unit {0}
  TreeFits (Whole number) = IsTrue (is_whole number)
  TreeFits (Bytes text) = IsTrue (list_all is_byte text)
  TreeFits (Lab label) = IsLabel label
  TreeFits (Power privilege) = PowerFits privilege
  TreeFits (RefOf handle) = HandleFits handle
  TreeFits (VarOf handle) = HandleFits handle
  TreeFits (ResultOf handle) = HandleFits handle
  TreeFits (ChanOf handle) = HandleFits handle
  TreeFits (Items items) = (deepest items < 8) × ItemsFit items

  -- what is asked and what is left have 64 bits
  pub ProblemFits : Problem → Type 0
  ProblemFits (FlowCurrent current target) = IsLabel current × IsLabel target
  ProblemFits (FlowClearance target clearance) = IsLabel target × IsLabel clearance
  ProblemFits (FlowRaise raised clearance) = IsLabel raised × IsLabel clearance
  ProblemFits (FlowPrivilege power source target) = PowerFits power × IsLabel source × IsLabel target
  ProblemFits (LabelWide left right) = IsLabel left × IsLabel right
  ProblemFits (User tree) = TreeFits tree
  ProblemFits (NoCells asked left) = (asked < 2 ^ 64) × (left < 2 ^ 64)
  ProblemFits (ChildTurns asked left) = (asked < 2 ^ 64) × (left < 2 ^ 64)
  ProblemFits BadType = Unit {0}
  ProblemFits Overflow = Unit {0}
  ProblemFits DivZero = Unit {0}
  ProblemFits TooLong = Unit {0}
  ProblemFits NoTurns = Unit {0}
  ProblemFits Depth = Unit {0}

  pub InnerFits : Inner → Type 0
  InnerFits (Kept tree) = TreeFits tree
  InnerFits (Faulted problem at) = ProblemFits problem × IsLabel at
  InnerFits Hidden = Unit {0}

  pub ItemFits : Item → Type 0
  ItemFits (Bare tree) = TreeFits tree
  ItemFits (Sealed label inner) = IsLabel label × InnerFits inner

  pub ItemsFit : Forest → Type 0
  ItemsFit Nothing = Unit {0}
  ItemsFit (Then item items) = ItemFits item × ItemsFit items

abbrev pub PlainFits : Plain → Type 0
PlainFits plain = TreeFits (tree_of plain)

abbrev pub KindFits : FaultKind → Type 0
KindFits kind = ProblemFits (problem_of kind)

abbrev pub FaultFits : Fault → Type 0
FaultFits fault = KindFits fault.kind × IsLabel fault.at

abbrev pub ContentFits : Content → Type 0
ContentFits content = InnerFits (inner_of content)

abbrev pub ValueFits : Value → Type 0
ValueFits value = ItemFits (item_of value)

abbrev pub OptionFits : Option Value → Type 0
OptionFits None = Unit {0}
OptionFits (Some value) = ValueFits value

-- a birth's numbers have 32 bits
pub record BirthFits (birth : Birth) : Type 0 where
  pub proc_at : birth.proc_at < 2 ^ 32
  pub result : IsLabel birth.result
  pub clearance : IsLabel birth.clearance
  pub turns : birth.turns < 2 ^ 32
  pub first : birth.first < 2 ^ 32
  pub cells : birth.cells < 2 ^ 32
  pub args : All ValueFits birth.args

abbrev pub ActFits : Act → Type 0
ActFits Step = Unit {0}
ActFits (Seal label) = IsLabel label
ActFits (Raise op label) = IsLabel label
ActFits (Lower label) = IsLabel label
ActFits (Release source target power content) = IsLabel source × IsLabel target × PowerFits power × ContentFits content
ActFits (Expose source target power content) = IsLabel source × IsLabel target × PowerFits power × ContentFits content
ActFits (NewRef label value) = IsLabel label × ValueFits value
ActFits (NewVar label value) = IsLabel label × OptionFits value
ActFits (Fork birth) = BirthFits birth
ActFits (Spawn birth) = BirthFits birth
ActFits Read = Unit {0}
ActFits (Write value) = ValueFits value
ActFits Take = Unit {0}
ActFits (Put value) = ValueFits value
ActFits Wait = Unit {0}
ActFits (Send text) = IsTrue (list_all is_byte text)
ActFits (Ended content) = ContentFits content

abbrev pub ReplyFits : Reply → Type 0
ReplyFits Done = Unit {0}
ReplyFits (Got value) = ValueFits value
ReplyFits (Told content) = ContentFits content
ReplyFits (Refused fault) = FaultFits fault

abbrev pub TargetFits : Option ℕ → Type 0
TargetFits None = Unit {0}
TargetFits (Some target) = target < 2 ^ 32

-- a ticket has 64 bits, the numbers of nodes have 32
pub record EntryFits (entry : Entry) : Type 0 where
  pub ticket : entry.ticket < 2 ^ 64
  pub actor : entry.actor < 2 ^ 32
  pub target : TargetFits entry.target
  pub at : IsLabel entry.at
  pub act : ActFits entry.act
  pub reply : ReplyFits entry.reply
