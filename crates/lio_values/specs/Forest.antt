-- Lists of values, as data of its own: a list leads back to itself through its items, their contents and the values that faults carry.
use Rattle.std.specs.Prelude.{ℕ, ◌+◌, max, Bool, ℤ, List}
use Rattle.lio_labels.specs.declared.label.Label.{Label}
use Rattle.lio_labels.specs.declared.privilege.Priv.{Priv}
use Rattle.lio_values.specs.declared.value.Handle.{Handle}

mutual
  -- a plain value
  pub data Tree : Type 0 where
    Unit : Tree
    Flag : Bool → Tree
    Whole : ℤ → Tree
    Bytes : List ℕ → Tree
    Lab : Label → Tree
    Power : Priv → Tree
    RefOf : Handle → Tree
    VarOf : Handle → Tree
    ResultOf : Handle → Tree
    ChanOf : Handle → Tree
    Items : Forest → Tree

  -- a kind of fault
  pub data Problem : Type 0 where
    FlowCurrent : Label → Label → Problem
    FlowClearance : Label → Label → Problem
    FlowRaise : Label → Label → Problem
    FlowPrivilege : Priv → Label → Label → Problem
    BadType : Problem
    Overflow : Problem
    DivZero : Problem
    TooLong : Problem
    NoTurns : Problem
    NoCells : ℕ → ℕ → Problem
    ChildTurns : ℕ → ℕ → Problem
    Depth : Problem
    LabelWide : Label → Label → Problem
    User : Tree → Problem

  -- a content: a plain value, or a fault with the label at which it was thrown
  pub data Inner : Type 0 where
    Kept : Tree → Inner
    Faulted : Problem → Label → Inner
    Hidden : Inner

  -- a value
  pub data Item : Type 0 where
    Bare : Tree → Item
    Sealed : Label → Inner → Item

  -- a list of values
  pub data Forest : Type 0 where
    Nothing : Forest
    Then : Item → Forest → Forest

-- How many lists stand one inside another, contents counted.
abbrev mutual
  pub tree_height : Tree → ℕ
  tree_height (Items forest) = forest_height forest + 1
  tree_height Unit = 0
  tree_height (Flag flag) = 0
  tree_height (Whole number) = 0
  tree_height (Bytes text) = 0
  tree_height (Lab label) = 0
  tree_height (Power privilege) = 0
  tree_height (RefOf handle) = 0
  tree_height (VarOf handle) = 0
  tree_height (ResultOf handle) = 0
  tree_height (ChanOf handle) = 0

  pub problem_height : Problem → ℕ
  problem_height (User tree) = tree_height tree
  problem_height (FlowCurrent current target) = 0
  problem_height (FlowClearance target clearance) = 0
  problem_height (FlowRaise raised clearance) = 0
  problem_height (FlowPrivilege power source target) = 0
  problem_height BadType = 0
  problem_height Overflow = 0
  problem_height DivZero = 0
  problem_height TooLong = 0
  problem_height NoTurns = 0
  problem_height (NoCells asked left) = 0
  problem_height (ChildTurns asked left) = 0
  problem_height Depth = 0
  problem_height (LabelWide left right) = 0

  pub inner_height : Inner → ℕ
  inner_height (Kept tree) = tree_height tree
  inner_height (Faulted problem at) = problem_height problem
  inner_height Hidden = 0

  pub item_height : Item → ℕ
  item_height (Bare tree) = tree_height tree
  item_height (Sealed label inner) = inner_height inner

  pub forest_height : Forest → ℕ
  forest_height Nothing = 0
  forest_height (Then item forest) = max (item_height item) (forest_height forest)

-- The depth of a value: 0, and of a list one more than the greatest depth of its items. A sealed value has depth 0.
abbrev mutual
  pub tree_depth : Tree → ℕ
  tree_depth (Items forest) = deepest forest + 1
  tree_depth Unit = 0
  tree_depth (Flag flag) = 0
  tree_depth (Whole number) = 0
  tree_depth (Bytes text) = 0
  tree_depth (Lab label) = 0
  tree_depth (Power privilege) = 0
  tree_depth (RefOf handle) = 0
  tree_depth (VarOf handle) = 0
  tree_depth (ResultOf handle) = 0
  tree_depth (ChanOf handle) = 0

  pub item_depth : Item → ℕ
  item_depth (Bare tree) = tree_depth tree
  item_depth (Sealed label inner) = 0

  -- the greatest depth of the items
  pub deepest : Forest → ℕ
  deepest Nothing = 0
  deepest (Then item forest) = max (item_depth item) (deepest forest)
