-- The text of what stands in a list, as scripts and journals have it, and which of its principals have names.
use Rattle.std.specs.Prelude.{ℕ, true, false, List, [], ◌++◌, codes, decimal}
use Rattle.std.specs.Fmt.{signed_decimal}
use Rattle.lio_clauses.specs.FormulaPrint as formula
use Rattle.lio_clauses.specs.FormulaPrint.{formula_text}
use Rattle.lio_labels.specs.declared.label.Label.{Label}
use Rattle.lio_labels.specs.declared.privilege.Priv.{Priv}
use Rattle.lio_labels.specs.LabelPrint.{AreNamed, label_text}
use Rattle.lio_values.specs.declared.value.Handle.{Handle}
use Rattle.lio_values.specs.Quoted.{quoted}
use Rattle.lio_values.specs.Forest.{Tree, Problem, Inner, Item, Forest, Unit as unit, Flag, Whole, Bytes, Lab, Power, RefOf, VarOf, ResultOf, ChanOf, Items, FlowCurrent, FlowClearance, FlowRaise, FlowPrivilege, BadType, Overflow, DivZero, TooLong, NoTurns, NoCells, ChildTurns, Depth, LabelWide, User, Kept, Faulted, Hidden, Bare, Sealed, Nothing, Then}

-- a label between `<` and `>`
abbrev pub label_in_brackets : List (List ℕ) → Label → List ℕ
label_in_brackets names label = codes "<" ++ label_text names label ++ codes ">"

-- a privilege
abbrev pub power_text : List (List ℕ) → Priv → List ℕ
power_text names privilege = codes "power<" ++ formula_text names privilege.power ++ codes ">"

-- a handle: its kind, its number, and the label of its cell
abbrev pub handle_text : List (List ℕ) → List ℕ → Handle → List ℕ
handle_text names kind handle = kind ++ decimal handle.number ++ label_in_brackets names handle.label

-- two labels, each after a blank
abbrev pub labels_text : List (List ℕ) → Label → Label → List ℕ
labels_text names first second = codes " " ++ label_in_brackets names first ++ codes " " ++ label_in_brackets names second

-- two numbers, each after a blank
abbrev pub numbers_text : ℕ → ℕ → List ℕ
numbers_text asked left = codes " " ++ decimal asked ++ codes " " ++ decimal left

abbrev mutual
  -- a plain value
  pub tree_text : List (List ℕ) → Tree → List ℕ
  tree_text names unit = codes "unit"
  tree_text names (Flag true) = codes "true"
  tree_text names (Flag false) = codes "false"
  tree_text names (Whole number) = signed_decimal number
  tree_text names (Bytes text) = quoted text
  tree_text names (Lab label) = label_in_brackets names label
  tree_text names (Power privilege) = power_text names privilege
  tree_text names (RefOf handle) = handle_text names (codes "ref#") handle
  tree_text names (VarOf handle) = handle_text names (codes "var#") handle
  tree_text names (ResultOf handle) = handle_text names (codes "result#") handle
  tree_text names (ChanOf handle) = handle_text names (codes "chan#") handle
  tree_text names (Items items) = codes "[" ++ items_text names items ++ codes "]"

  -- what went wrong
  pub problem_text : List (List ℕ) → Problem → List ℕ
  problem_text names (FlowCurrent current target) = codes "flow_current" ++ labels_text names current target
  problem_text names (FlowClearance target clearance) = codes "flow_clearance" ++ labels_text names target clearance
  problem_text names (FlowRaise raised clearance) = codes "flow_raise" ++ labels_text names raised clearance
  problem_text names (FlowPrivilege power source target) = codes "flow_privilege " ++ power_text names power ++ labels_text names source target
  problem_text names BadType = codes "bad_type"
  problem_text names Overflow = codes "overflow"
  problem_text names DivZero = codes "div_zero"
  problem_text names TooLong = codes "too_long"
  problem_text names NoTurns = codes "no_turns"
  problem_text names (NoCells asked left) = codes "no_cells" ++ numbers_text asked left
  problem_text names (ChildTurns asked left) = codes "child_turns" ++ numbers_text asked left
  problem_text names Depth = codes "depth"
  problem_text names (LabelWide left right) = codes "label_wide" ++ labels_text names left right
  problem_text names (User tree) = codes "user " ++ tree_text names tree

  -- a content
  pub inner_text : List (List ℕ) → Inner → List ℕ
  inner_text names (Kept tree) = tree_text names tree
  inner_text names (Faulted problem at) = codes "fault(" ++ (problem_text names problem ++ codes " at " ++ label_in_brackets names at) ++ codes ")"
  inner_text names Hidden = codes "hidden"

  -- a value
  pub item_text : List (List ℕ) → Item → List ℕ
  item_text names (Bare tree) = tree_text names tree
  item_text names (Sealed label inner) = codes "sealed" ++ label_in_brackets names label ++ codes "(" ++ inner_text names inner ++ codes ")"

  -- the items of a list, joined by `, `
  pub items_text : List (List ℕ) → Forest → List ℕ
  items_text names Nothing = []
  items_text names (Then item items) = item_text names item ++ further_text names items

  pub further_text : List (List ℕ) → Forest → List ℕ
  further_text names Nothing = []
  further_text names (Then item items) = codes ", " ++ (item_text names item ++ further_text names items)

-- each principal of a privilege has a name
abbrev pub IsPowerNamed : List (List ℕ) → Priv → Type 0
IsPowerNamed names privilege = formula.AreNamed names privilege.power

abbrev mutual
  -- each principal in a plain value has a name
  pub IsTreeNamed : List (List ℕ) → Tree → Type 0
  IsTreeNamed names (Lab label) = AreNamed names label
  IsTreeNamed names (Power privilege) = IsPowerNamed names privilege
  IsTreeNamed names (RefOf handle) = AreNamed names handle.label
  IsTreeNamed names (VarOf handle) = AreNamed names handle.label
  IsTreeNamed names (ResultOf handle) = AreNamed names handle.label
  IsTreeNamed names (ChanOf handle) = AreNamed names handle.label
  IsTreeNamed names (Items items) = AreItemsNamed names items
  IsTreeNamed names unit = Unit {0}
  IsTreeNamed names (Flag flag) = Unit {0}
  IsTreeNamed names (Whole number) = Unit {0}
  IsTreeNamed names (Bytes text) = Unit {0}

  -- each principal in what went wrong has a name
  pub IsProblemNamed : List (List ℕ) → Problem → Type 0
  IsProblemNamed names (FlowCurrent current target) = AreNamed names current × AreNamed names target
  IsProblemNamed names (FlowClearance target clearance) = AreNamed names target × AreNamed names clearance
  IsProblemNamed names (FlowRaise raised clearance) = AreNamed names raised × AreNamed names clearance
  IsProblemNamed names (FlowPrivilege power source target) = IsPowerNamed names power × AreNamed names source × AreNamed names target
  IsProblemNamed names (LabelWide left right) = AreNamed names left × AreNamed names right
  IsProblemNamed names (User tree) = IsTreeNamed names tree
  IsProblemNamed names BadType = Unit {0}
  IsProblemNamed names Overflow = Unit {0}
  IsProblemNamed names DivZero = Unit {0}
  IsProblemNamed names TooLong = Unit {0}
  IsProblemNamed names NoTurns = Unit {0}
  IsProblemNamed names (NoCells asked left) = Unit {0}
  IsProblemNamed names (ChildTurns asked left) = Unit {0}
  IsProblemNamed names Depth = Unit {0}

  -- each principal in a content has a name
  pub IsInnerNamed : List (List ℕ) → Inner → Type 0
  IsInnerNamed names (Kept tree) = IsTreeNamed names tree
  IsInnerNamed names (Faulted problem at) = IsProblemNamed names problem × AreNamed names at
  IsInnerNamed names Hidden = Unit {0}

  -- each principal in a value has a name
  pub IsItemNamed : List (List ℕ) → Item → Type 0
  IsItemNamed names (Bare tree) = IsTreeNamed names tree
  IsItemNamed names (Sealed label inner) = AreNamed names label × IsInnerNamed names inner

  -- each principal in the items of a list has a name
  pub AreItemsNamed : List (List ℕ) → Forest → Type 0
  AreItemsNamed names Nothing = Unit {0}
  AreItemsNamed names (Then item items) = IsItemNamed names item × AreItemsNamed names items
