-- Properties of values that a turn keeps: that handles name cells, and that no content is hidden or keeps an impure value.
use Rattle.std.proofs.Common.{IsTrue, All, subst, sym, true≢false}
use Rattle.std.proofs.lemmas.Bool.{and_parts}
use Rattle.std.proofs.lemmas.List.Elements.{All-nil, All-head, All-tail, All-cons}
use Rattle.lio_labels.specs.declared.label.Label.{Label}
use Rattle.lio_values.specs.declared.fault.Fault.{Fault}
use Rattle.lio_values.specs.declared.fault.FaultKind.{FaultKind}
use Rattle.lio_values.specs.declared.fault.FaultKind.TheVariants.{User}
use Rattle.lio_values.specs.declared.value.Plain.{Plain}
use Rattle.lio_values.specs.declared.value.Plain.TheVariants.{Unit as unit, Flag, Whole, Bytes, Lab, Power, RefOf, VarOf, ResultOf, ChanOf, Items}
use Rattle.lio_values.specs.declared.value.Content.{Content}
use Rattle.lio_values.specs.declared.value.Content.TheVariants.{Kept, Faulted}
use Rattle.lio_values.specs.declared.value.Value.{Value}
use Rattle.lio_values.specs.declared.value.Value.TheVariants.{Bare, Sealed}
use Rattle.lio_values.specs.Forest as forest
use Rattle.lio_values.specs.Forest.{Tree, Item, Forest, Nothing, Then}
use Rattle.lio_values.specs.Measures.{tree_is_pure, item_is_pure, items_are_pure, is_pure}
use Rattle.lio_values.specs.Purity.{IsProblemPure}
use Rattle.lio_values.specs.Views.{tree_of, problem_of, value_of, values_of, item_of-value_of}
use Rattle.lio_syntax_lines.specs.Operands.{can_be_said}
use Rattle.lio_operators.specs.Laws.{IsSimple, IsUnthrown}
use Rattle.lio_syntax.specs.Throwing.{payload_of}
use Rattle.lio_calculus.specs.Step.{Configuration}
use Rattle.lio_calculus.specs.Sound.{ItemNames, ItemsName, PlainNames, KindNames, ValueNames, TreeIsOpen, ItemIsOpen, ItemsAreOpen, IsOpen}
use Rattle.lio_calculus.proofs.SoundLemmas.{said-names, said-open}

-- the property holds of what turns make of values that have it
pub record IsClosed (P : Value → Type 0) : Type 0 where
  pub said : (plain : Plain) → IsTrue (can_be_said plain) → P (Bare plain)
  pub simple : (plain : Plain) → IsSimple plain → P (Bare plain)
  pub items : (items : Forest) → P (Bare (Items items)) → All P (values_of items)
  pub list : (items : Forest) → All P (values_of items) → P (Bare (Items items))
  pub seal : (label : Label) (plain : Plain) → IsTrue (is_pure plain) → P (Bare plain) → P (Sealed label (Kept plain))
  pub unseal : (label : Label) (plain : Plain) → P (Sealed label (Kept plain)) → P (Bare plain)
  pub again : (one other : Label) (content : Content) → P (Sealed one content) → P (Sealed other content)
  pub payload : (label : Label) (fault : Fault) → P (Sealed label (Faulted fault)) → P (Bare (payload_of fault.kind))
  pub throws : (label at : Label) (plain : Plain) → IsTrue (is_pure plain) → P (Bare plain) → P (Sealed label (Faulted (record { kind = User plain; at = at })))
  pub unthrown : (label : Label) (fault : Fault) → IsUnthrown fault.kind → P (Sealed label (Faulted fault))

-- that handles name cells
names-simple : (c : Configuration) (plain : Plain) → IsSimple plain → ValueNames c (Bare plain)
names-simple c unit simple = tt
names-simple c (Flag flag) simple = tt
names-simple c (Whole number) simple = tt
names-simple c (Bytes text) simple = tt
names-simple c (Lab label) simple = tt
names-simple c (Power power) simple = tt
names-simple c (RefOf handle) simple = absurd simple
names-simple c (VarOf handle) simple = absurd simple
names-simple c (ResultOf handle) simple = absurd simple
names-simple c (ChanOf handle) simple = absurd simple
names-simple c (Items items) simple = absurd simple

names-payload : (c : Configuration) (kind : FaultKind) → KindNames c kind → PlainNames c (payload_of kind)
names-payload c (User plain) names = names
names-payload c kind names = tt

names-unthrown : (c : Configuration) (kind : FaultKind) → IsUnthrown kind → KindNames c kind
names-unthrown c (User plain) unthrown = absurd unthrown
names-unthrown c kind unthrown = tt

names-items : (c : Configuration) (items : Forest) → ItemsName c items → All (ValueNames c) (values_of items)
names-items c Nothing names = All-nil (ValueNames c)
names-items c (Then item items) names =
    All-cons (ValueNames c) (value_of item) (values_of items) (subst (ItemNames c) (sym (item_of-value_of item)) names.0) (names-items c items names.1)

names-list : (c : Configuration) (items : Forest) → All (ValueNames c) (values_of items) → ItemsName c items
names-list c Nothing all = tt
names-list c (Then item items) all = (
  subst (ItemNames c) (item_of-value_of item) (All-head (ValueNames c) (value_of item) (values_of items) all),
  names-list c items (All-tail (ValueNames c) (value_of item) (values_of items) all),
)

pub names-closed : (c : Configuration) → IsClosed (ValueNames c)
names-closed c = record {
  said = said-names c;
  simple = names-simple c;
  items = names-items c;
  list = names-list c;
  seal = λ label plain pure names. names;
  unseal = λ label plain names. names;
  again = λ one other content names. names;
  payload = λ label fault names. names-payload c fault.kind names;
  throws = λ label at plain pure names. names;
  unthrown = λ label fault unthrown. names-unthrown c fault.kind unthrown;
}

-- that contents aren't hidden, and keep pure values
open-simple : (plain : Plain) → IsSimple plain → IsOpen (Bare plain)
open-simple (Flag flag) simple = tt
open-simple (Whole number) simple = tt
open-simple (Bytes text) simple = tt
open-simple (Lab label) simple = tt
open-simple plain simple = absurd simple

open-items : (items : Forest) → ItemsAreOpen items → All IsOpen (values_of items)
open-items Nothing open_ = All-nil IsOpen
open-items (Then item items) open_ =
    All-cons IsOpen (value_of item) (values_of items) (subst ItemIsOpen (sym (item_of-value_of item)) open_.0) (open-items items open_.1)

open-list : (items : Forest) → All IsOpen (values_of items) → ItemsAreOpen items
open-list Nothing all = tt
open-list (Then item items) all = (
  subst ItemIsOpen (item_of-value_of item) (All-head IsOpen (value_of item) (values_of items) all),
  open-list items (All-tail IsOpen (value_of item) (values_of items) all),
)

-- a pure value has no content
mutual
  pure-tree-open : (tree : Tree) → IsTrue (tree_is_pure tree) → TreeIsOpen tree
  pure-tree-open (forest.Items items) pure = pure-items-open items pure
  pure-tree-open forest.Unit pure = tt
  pure-tree-open (forest.Flag flag) pure = tt
  pure-tree-open (forest.Whole number) pure = tt
  pure-tree-open (forest.Bytes text) pure = tt
  pure-tree-open (forest.Lab label) pure = tt
  pure-tree-open (forest.Power power) pure = tt
  pure-tree-open (forest.RefOf handle) pure = tt
  pure-tree-open (forest.VarOf handle) pure = tt
  pure-tree-open (forest.ResultOf handle) pure = tt
  pure-tree-open (forest.ChanOf handle) pure = tt

  pure-item-open : (item : Item) → IsTrue (item_is_pure item) → ItemIsOpen item
  pure-item-open (forest.Bare tree) pure = pure-tree-open tree pure
  pure-item-open (forest.Sealed label inner) pure = absurd (true≢false (sym pure))

  pure-items-open : (items : Forest) → IsTrue (items_are_pure items) → ItemsAreOpen items
  pure-items-open Nothing pure = tt
  pure-items-open (Then item items) pure =
      let parts = and_parts (item_is_pure item) (items_are_pure items) pure in (pure-item-open item parts.0, pure-items-open items parts.1)

open-payload : (kind : FaultKind) → IsProblemPure (problem_of kind) → TreeIsOpen (tree_of (payload_of kind))
open-payload (User plain) pure = pure-tree-open (tree_of plain) pure
open-payload kind pure = tt

pub open-unthrown : (kind : FaultKind) → IsUnthrown kind → IsProblemPure (problem_of kind)
open-unthrown (User plain) unthrown = absurd unthrown
open-unthrown kind unthrown = tt

pub open-closed : IsClosed IsOpen
open-closed = record {
  said = said-open;
  simple = open-simple;
  items = open-items;
  list = open-list;
  seal = λ label plain pure shown. pure;
  unseal = λ label plain pure. pure-tree-open (tree_of plain) pure;
  again = λ one other content shown. shown;
  payload = λ label fault pure. open-payload fault.kind pure;
  throws = λ label at plain pure shown. pure;
  unthrown = λ label fault unthrown. open-unthrown fault.kind unthrown;
}
