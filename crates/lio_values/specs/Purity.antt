-- Values whose contents keep pure values alone: each plain value that a content keeps, and each value that a fault carries, is pure.
use Rattle.std.specs.Prelude.{IsTrue}
use Rattle.lio_values.specs.declared.value.Content.{Content}
use Rattle.lio_values.specs.declared.value.Value.{Value}
use Rattle.lio_values.specs.declared.fault.Fault.{Fault}
use Rattle.lio_values.specs.Forest as forest
use Rattle.lio_values.specs.Forest.{Tree, Problem, Inner, Item, Forest, Nothing, Then}
use Rattle.lio_values.specs.Measures.{tree_is_pure}
use Rattle.lio_values.specs.Views.{problem_of, inner_of, item_of}

-- the value that a fault carries, if it does, is pure
abbrev pub IsProblemPure : Problem → Type 0
IsProblemPure (forest.User tree) = IsTrue (tree_is_pure tree)
IsProblemPure (forest.FlowCurrent current target) = Unit {0}
IsProblemPure (forest.FlowClearance target clearance) = Unit {0}
IsProblemPure (forest.FlowRaise raised clearance) = Unit {0}
IsProblemPure (forest.FlowPrivilege power source target) = Unit {0}
IsProblemPure forest.BadType = Unit {0}
IsProblemPure forest.Overflow = Unit {0}
IsProblemPure forest.DivZero = Unit {0}
IsProblemPure forest.TooLong = Unit {0}
IsProblemPure forest.NoTurns = Unit {0}
IsProblemPure (forest.NoCells asked left) = Unit {0}
IsProblemPure (forest.ChildTurns asked left) = Unit {0}
IsProblemPure forest.Depth = Unit {0}
IsProblemPure (forest.LabelWide left right) = Unit {0}

-- what a content keeps is pure
abbrev pub IsInnerPure : Inner → Type 0
IsInnerPure (forest.Kept tree) = IsTrue (tree_is_pure tree)
IsInnerPure (forest.Faulted problem at) = IsProblemPure problem
IsInnerPure forest.Hidden = Unit {0}

-- so is what each content in a value keeps, at every depth of a list
abbrev mutual
  pub KeepsPureTree : Tree → Type 0
  KeepsPureTree (forest.Items items) = KeepPureItems items
  KeepsPureTree forest.Unit = Unit {0}
  KeepsPureTree (forest.Flag flag) = Unit {0}
  KeepsPureTree (forest.Whole number) = Unit {0}
  KeepsPureTree (forest.Bytes text) = Unit {0}
  KeepsPureTree (forest.Lab label) = Unit {0}
  KeepsPureTree (forest.Power privilege) = Unit {0}
  KeepsPureTree (forest.RefOf handle) = Unit {0}
  KeepsPureTree (forest.VarOf handle) = Unit {0}
  KeepsPureTree (forest.ResultOf handle) = Unit {0}
  KeepsPureTree (forest.ChanOf handle) = Unit {0}

  pub KeepsPureItem : Item → Type 0
  KeepsPureItem (forest.Bare tree) = KeepsPureTree tree
  KeepsPureItem (forest.Sealed label inner) = IsInnerPure inner

  pub KeepPureItems : Forest → Type 0
  KeepPureItems Nothing = Unit {0}
  KeepPureItems (Then item items) = KeepsPureItem item × KeepPureItems items

-- ---- the same of values, contents and faults

abbrev pub KeepsPure : Value → Type 0
KeepsPure value = KeepsPureItem (item_of value)

abbrev pub IsContentPure : Content → Type 0
IsContentPure content = IsInnerPure (inner_of content)

abbrev pub IsFaultPure : Fault → Type 0
IsFaultPure fault = IsProblemPure (problem_of fault.kind)
