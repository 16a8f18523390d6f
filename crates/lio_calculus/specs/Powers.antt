-- Privileges are given and never made: whoever holds one got it from one that held it before (the privileges of DC labels; LIO, ICFP 2012).
use Rattle.std.specs.Prelude.{◌≡◌, ℕ, List, Some}
use Rattle.std.specs.List.{Contains}
use Rattle.lio_labels.specs.declared.privilege.Priv.{Priv}
use Rattle.lio_values.specs.declared.fault.FaultKind.{FaultKind}
use Rattle.lio_values.specs.declared.value.Plain.{Plain}
use Rattle.lio_values.specs.declared.value.Content.{Content}
use Rattle.lio_values.specs.declared.value.Value.{Value}
use Rattle.lio_values.specs.Forest as forest
use Rattle.lio_values.specs.Forest.{Tree, Problem, Inner, Item, Forest}
use Rattle.lio_values.specs.Views.{tree_of, problem_of, inner_of, item_of}
use Rattle.lio_values.specs.declared.act.Act.{Act}
use Rattle.lio_values.specs.declared.act.Act.TheVariants.{Step, Seal, Raise, Lower, Release, Expose, NewRef, NewVar, Fork, Spawn, Read, Write, Take, Put, Wait, Send, Ended}
use Rattle.lio_calculus.specs.Task.{TaskState}
use Rattle.lio_calculus.specs.Step.{Configuration, Turn, cell_at, step}
use Rattle.lio_calculus.specs.Sound.{EachInTask, EachInState, IsTaskOf, IsSound}

-- Each privilege in a value is one of these: in what its contents keep, in what faults carry, and in the items of a list. What other faults tell isn't a value.
abbrev mutual
  pub TreeIsAmong : List Priv → Tree → Type 0
  TreeIsAmong powers (forest.Power power) = Contains powers power
  TreeIsAmong powers (forest.Items items) = ItemsAreAmong powers items
  TreeIsAmong powers forest.Unit = Unit {0}
  TreeIsAmong powers (forest.Flag flag) = Unit {0}
  TreeIsAmong powers (forest.Whole number) = Unit {0}
  TreeIsAmong powers (forest.Bytes text) = Unit {0}
  TreeIsAmong powers (forest.Lab label) = Unit {0}
  TreeIsAmong powers (forest.RefOf handle) = Unit {0}
  TreeIsAmong powers (forest.VarOf handle) = Unit {0}
  TreeIsAmong powers (forest.ResultOf handle) = Unit {0}
  TreeIsAmong powers (forest.ChanOf handle) = Unit {0}

  pub ProblemIsAmong : List Priv → Problem → Type 0
  ProblemIsAmong powers (forest.User tree) = TreeIsAmong powers tree
  ProblemIsAmong powers (forest.FlowCurrent current target) = Unit {0}
  ProblemIsAmong powers (forest.FlowClearance target clearance) = Unit {0}
  ProblemIsAmong powers (forest.FlowRaise raised clearance) = Unit {0}
  ProblemIsAmong powers (forest.FlowPrivilege power source target) = Unit {0}
  ProblemIsAmong powers forest.BadType = Unit {0}
  ProblemIsAmong powers forest.Overflow = Unit {0}
  ProblemIsAmong powers forest.DivZero = Unit {0}
  ProblemIsAmong powers forest.TooLong = Unit {0}
  ProblemIsAmong powers forest.NoTurns = Unit {0}
  ProblemIsAmong powers (forest.NoCells asked left) = Unit {0}
  ProblemIsAmong powers (forest.ChildTurns asked left) = Unit {0}
  ProblemIsAmong powers forest.Depth = Unit {0}
  ProblemIsAmong powers (forest.LabelWide left right) = Unit {0}

  pub InnerIsAmong : List Priv → Inner → Type 0
  InnerIsAmong powers (forest.Kept tree) = TreeIsAmong powers tree
  InnerIsAmong powers (forest.Faulted problem at) = ProblemIsAmong powers problem
  InnerIsAmong powers forest.Hidden = Unit {0}

  pub ItemIsAmong : List Priv → Item → Type 0
  ItemIsAmong powers (forest.Bare tree) = TreeIsAmong powers tree
  ItemIsAmong powers (forest.Sealed label inner) = InnerIsAmong powers inner

  pub ItemsAreAmong : List Priv → Forest → Type 0
  ItemsAreAmong powers forest.Nothing = Unit {0}
  ItemsAreAmong powers (forest.Then item items) = ItemIsAmong powers item × ItemsAreAmong powers items

-- ---- the same of plain values, kinds of faults, contents and values

abbrev pub PlainIsAmong : List Priv → Plain → Type 0
PlainIsAmong powers plain = TreeIsAmong powers (tree_of plain)

abbrev pub KindIsAmong : List Priv → FaultKind → Type 0
KindIsAmong powers kind = ProblemIsAmong powers (problem_of kind)

abbrev pub ContentIsAmong : List Priv → Content → Type 0
ContentIsAmong powers content = InnerIsAmong powers (inner_of content)

abbrev pub ValueIsAmong : List Priv → Value → Type 0
ValueIsAmong powers value = ItemIsAmong powers (item_of value)

-- each privilege in a configuration is one of these: in environments, callers' too, in faults, in nodes and in results
pub record PowersAreAmong (powers : List Priv) (c : Configuration) : Type 0 where
  pub tasks : (k : ℕ) (task : TaskState) → IsTaskOf c k task → EachInTask (ValueIsAmong powers) task
  pub nodes : (n : ℕ) → EachInState (ValueIsAmong powers) (cell_at c n).state

-- the privilege by which an act releases or exposes, or tries to, is one of these
abbrev pub ReleasesBy : List Priv → Act → Type 0
ReleasesBy powers (Release source target power content) = Contains powers power
ReleasesBy powers (Expose source target power content) = Contains powers power
ReleasesBy powers Step = Unit {0}
ReleasesBy powers (Seal label) = Unit {0}
ReleasesBy powers (Raise op label) = Unit {0}
ReleasesBy powers (Lower label) = Unit {0}
ReleasesBy powers (NewRef label value) = Unit {0}
ReleasesBy powers (NewVar label value) = Unit {0}
ReleasesBy powers (Fork birth) = Unit {0}
ReleasesBy powers (Spawn birth) = Unit {0}
ReleasesBy powers Read = Unit {0}
ReleasesBy powers (Write value) = Unit {0}
ReleasesBy powers Take = Unit {0}
ReleasesBy powers (Put value) = Unit {0}
ReleasesBy powers Wait = Unit {0}
ReleasesBy powers (Send text) = Unit {0}
ReleasesBy powers (Ended content) = Unit {0}

-- A turn makes no privilege, and releases and exposes by none but these.
pub record MakesNoPower (powers : List Priv) (turn : Turn) : Type 0 where
  pub after : PowersAreAmong powers turn.next
  pub released : ReleasesBy powers turn.entry.act

-- from a sound configuration each turn makes no privilege: where each one is among some, so is each one after it, and so is that by which the turn releases
abbrev pub PowersAreGiven : Type 0
PowersAreGiven = (powers : List Priv) (ticket : ℕ) (c : Configuration) (k : ℕ) (turn : Turn)
    → IsSound c → PowersAreAmong powers c → step ticket c k ≡ Some turn → MakesNoPower powers turn
