-- How large values are, how many sealed values stand in a list, and which values hold no sealed one.
use Rattle.std.specs.Prelude.{ℕ, ◌+◌, ◌*◌, Bool, true, false, ◌&&◌, length}
use Rattle.lio_labels.specs.declared.label.Label.{Label}
use Rattle.lio_values.specs.declared.value.Plain.{Plain}
use Rattle.lio_values.specs.declared.value.Value.{Value}
use Rattle.lio_values.specs.Forest as forest
use Rattle.lio_values.specs.Forest.{Tree, Item, Forest, Nothing, Then}
use Rattle.lio_values.specs.Views.{tree_of, item_of}

-- the size of what keeps a label: 1, and 8 for each clause
abbrev pub label_size : Label → ℕ
label_size label = 8 * (length label.secrecy + length label.integrity) + 1

-- The size of a value: 1, of a text 1 and its bytes, of a label or a privilege 1 and 8 for each clause, of a handle or a sealed value that of its label, of a list 1 and the sizes of its items.
abbrev mutual
  pub tree_size : Tree → ℕ
  tree_size forest.Unit = 1
  tree_size (forest.Flag flag) = 1
  tree_size (forest.Whole number) = 1
  tree_size (forest.Bytes text) = length text + 1
  tree_size (forest.Lab label) = label_size label
  tree_size (forest.Power privilege) = 8 * length privilege.power + 1
  tree_size (forest.RefOf handle) = label_size handle.label
  tree_size (forest.VarOf handle) = label_size handle.label
  tree_size (forest.ResultOf handle) = label_size handle.label
  tree_size (forest.ChanOf handle) = label_size handle.label
  tree_size (forest.Items items) = items_size items + 1

  pub item_size : Item → ℕ
  item_size (forest.Bare tree) = tree_size tree
  item_size (forest.Sealed label inner) = label_size label

  -- the sizes of the items
  pub items_size : Forest → ℕ
  items_size Nothing = 0
  items_size (Then item items) = item_size item + items_size items

-- How many sealed values a value is or has in its lists, at every depth.
abbrev mutual
  pub tree_seals : Tree → ℕ
  tree_seals (forest.Items items) = items_seals items
  tree_seals forest.Unit = 0
  tree_seals (forest.Flag flag) = 0
  tree_seals (forest.Whole number) = 0
  tree_seals (forest.Bytes text) = 0
  tree_seals (forest.Lab label) = 0
  tree_seals (forest.Power privilege) = 0
  tree_seals (forest.RefOf handle) = 0
  tree_seals (forest.VarOf handle) = 0
  tree_seals (forest.ResultOf handle) = 0
  tree_seals (forest.ChanOf handle) = 0

  pub item_seals : Item → ℕ
  item_seals (forest.Bare tree) = tree_seals tree
  item_seals (forest.Sealed label inner) = 1

  pub items_seals : Forest → ℕ
  items_seals Nothing = 0
  items_seals (Then item items) = item_seals item + items_seals items

-- Whether a value is pure: bare, and if it is a list, each item is pure.
abbrev mutual
  pub tree_is_pure : Tree → Bool
  tree_is_pure (forest.Items items) = items_are_pure items
  tree_is_pure forest.Unit = true
  tree_is_pure (forest.Flag flag) = true
  tree_is_pure (forest.Whole number) = true
  tree_is_pure (forest.Bytes text) = true
  tree_is_pure (forest.Lab label) = true
  tree_is_pure (forest.Power privilege) = true
  tree_is_pure (forest.RefOf handle) = true
  tree_is_pure (forest.VarOf handle) = true
  tree_is_pure (forest.ResultOf handle) = true
  tree_is_pure (forest.ChanOf handle) = true

  pub item_is_pure : Item → Bool
  item_is_pure (forest.Bare tree) = tree_is_pure tree
  item_is_pure (forest.Sealed label inner) = false

  pub items_are_pure : Forest → Bool
  items_are_pure Nothing = true
  items_are_pure (Then item items) = item_is_pure item && items_are_pure items

-- ---- the same of values

abbrev pub value_depth : Value → ℕ
value_depth value = forest.item_depth (item_of value)

abbrev pub value_size : Value → ℕ
value_size value = item_size (item_of value)

abbrev pub value_seals : Value → ℕ
value_seals value = item_seals (item_of value)

abbrev pub is_pure : Plain → Bool
is_pure plain = tree_is_pure (tree_of plain)
