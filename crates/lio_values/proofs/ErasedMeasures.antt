-- What an observer sees of a list: its values erased, of the same depth, size, number of sealed values and purity.
use Rattle.std.proofs.Common.{◌≡◌, ◌+◌, ◌∙◌, ◌&&◌, true, true≢false, map, refl, ap, sym}
use Rattle.std.proofs.lemmas.Bool.{and_parts}
use Rattle.lio_labels.specs.declared.label.Label.{Label}
use Rattle.lio_values.specs.declared.value.Plain.{Plain}
use Rattle.lio_values.specs.Forest as forest
use Rattle.lio_values.specs.Forest.{Tree, Item, Forest, Nothing, Then}
use Rattle.lio_values.specs.Erasure.{erase_tree, erase_item, erase_forest, erase_plain, erase_value}
use Rattle.lio_values.specs.Measures.{tree_size, item_size, items_size, tree_seals, item_seals, items_seals, tree_is_pure, item_is_pure, items_are_pure, is_pure}
use Rattle.lio_values.specs.Views.{tree_of, plain_of, values_of, values_of-forest_of, forest_of-values_of, tree_of-plain_of, plain_of-tree_of}
use Rattle.lio_values.proofs.ItemsLemmas.{erased-items}

pub erased-values : (observer : Label) (items : Forest) → values_of (erase_forest observer items) ≡ map (erase_value observer) (values_of items)
erased-values observer items =
    ap (λ f. values_of (erase_forest observer f)) (sym (forest_of-values_of items)) ∙ ap values_of (sym (erased-items observer (values_of items)))
    ∙ values_of-forest_of (map (erase_value observer) (values_of items))

mutual
  tree-size : (observer : Label) (tree : Tree) → tree_size (erase_tree observer tree) ≡ tree_size tree
  tree-size observer (forest.Items items) = ap (λ n. n + 1) (erased-size observer items)
  tree-size observer forest.Unit = refl
  tree-size observer (forest.Flag flag) = refl
  tree-size observer (forest.Whole number) = refl
  tree-size observer (forest.Bytes text) = refl
  tree-size observer (forest.Lab label) = refl
  tree-size observer (forest.Power privilege) = refl
  tree-size observer (forest.RefOf handle) = refl
  tree-size observer (forest.VarOf handle) = refl
  tree-size observer (forest.ResultOf handle) = refl
  tree-size observer (forest.ChanOf handle) = refl

  item-size : (observer : Label) (item : Item) → item_size (erase_item observer item) ≡ item_size item
  item-size observer (forest.Bare tree) = tree-size observer tree
  item-size observer (forest.Sealed label inner) = refl

  pub erased-size : (observer : Label) (items : Forest) → items_size (erase_forest observer items) ≡ items_size items
  erased-size observer Nothing = refl
  erased-size observer (Then item items) = λ i. item-size observer item i + erased-size observer items i

mutual
  tree-seals : (observer : Label) (tree : Tree) → tree_seals (erase_tree observer tree) ≡ tree_seals tree
  tree-seals observer (forest.Items items) = erased-seals observer items
  tree-seals observer forest.Unit = refl
  tree-seals observer (forest.Flag flag) = refl
  tree-seals observer (forest.Whole number) = refl
  tree-seals observer (forest.Bytes text) = refl
  tree-seals observer (forest.Lab label) = refl
  tree-seals observer (forest.Power privilege) = refl
  tree-seals observer (forest.RefOf handle) = refl
  tree-seals observer (forest.VarOf handle) = refl
  tree-seals observer (forest.ResultOf handle) = refl
  tree-seals observer (forest.ChanOf handle) = refl

  item-seals : (observer : Label) (item : Item) → item_seals (erase_item observer item) ≡ item_seals item
  item-seals observer (forest.Bare tree) = tree-seals observer tree
  item-seals observer (forest.Sealed label inner) = refl

  pub erased-seals : (observer : Label) (items : Forest) → items_seals (erase_forest observer items) ≡ items_seals items
  erased-seals observer Nothing = refl
  erased-seals observer (Then item items) = λ i. item-seals observer item i + erased-seals observer items i

mutual
  tree-pure : (observer : Label) (tree : Tree) → tree_is_pure (erase_tree observer tree) ≡ tree_is_pure tree
  tree-pure observer (forest.Items items) = erased-pure observer items
  tree-pure observer forest.Unit = refl
  tree-pure observer (forest.Flag flag) = refl
  tree-pure observer (forest.Whole number) = refl
  tree-pure observer (forest.Bytes text) = refl
  tree-pure observer (forest.Lab label) = refl
  tree-pure observer (forest.Power privilege) = refl
  tree-pure observer (forest.RefOf handle) = refl
  tree-pure observer (forest.VarOf handle) = refl
  tree-pure observer (forest.ResultOf handle) = refl
  tree-pure observer (forest.ChanOf handle) = refl

  item-pure : (observer : Label) (item : Item) → item_is_pure (erase_item observer item) ≡ item_is_pure item
  item-pure observer (forest.Bare tree) = tree-pure observer tree
  item-pure observer (forest.Sealed label inner) = refl

  pub erased-pure : (observer : Label) (items : Forest) → items_are_pure (erase_forest observer items) ≡ items_are_pure items
  erased-pure observer Nothing = refl
  erased-pure observer (Then item items) = λ i. item-pure observer item i && erased-pure observer items i

-- an impure value stays impure, and a pure one is not touched
pub plain-pure : (observer : Label) (plain : Plain) → is_pure (erase_plain observer plain) ≡ is_pure plain
plain-pure observer plain = ap tree_is_pure (tree_of-plain_of (erase_tree observer (tree_of plain))) ∙ tree-pure observer (tree_of plain)

-- a pure value is seen as it is
mutual
  pure-tree-shown : (observer : Label) (tree : Tree) → tree_is_pure tree ≡ true → erase_tree observer tree ≡ tree
  pure-tree-shown observer (forest.Items items) pure = ap forest.Items (pure-items-shown observer items pure)
  pure-tree-shown observer forest.Unit pure = refl
  pure-tree-shown observer (forest.Flag flag) pure = refl
  pure-tree-shown observer (forest.Whole number) pure = refl
  pure-tree-shown observer (forest.Bytes text) pure = refl
  pure-tree-shown observer (forest.Lab label) pure = refl
  pure-tree-shown observer (forest.Power privilege) pure = refl
  pure-tree-shown observer (forest.RefOf handle) pure = refl
  pure-tree-shown observer (forest.VarOf handle) pure = refl
  pure-tree-shown observer (forest.ResultOf handle) pure = refl
  pure-tree-shown observer (forest.ChanOf handle) pure = refl

  pure-item-shown : (observer : Label) (item : Item) → item_is_pure item ≡ true → erase_item observer item ≡ item
  pure-item-shown observer (forest.Bare tree) pure = ap forest.Bare (pure-tree-shown observer tree pure)
  pure-item-shown observer (forest.Sealed label inner) pure = absurd (true≢false (sym pure))

  pure-items-shown : (observer : Label) (items : Forest) → items_are_pure items ≡ true → erase_forest observer items ≡ items
  pure-items-shown observer Nothing pure = refl
  pure-items-shown observer (Then item items) pure =
      let parts = and_parts (item_is_pure item) (items_are_pure items) pure in
      λ i. Then (pure-item-shown observer item parts.0 i) (pure-items-shown observer items parts.1 i)

pub pure-shown : (observer : Label) (plain : Plain) → is_pure plain ≡ true → erase_plain observer plain ≡ plain
pure-shown observer plain pure = ap plain_of (pure-tree-shown observer (tree_of plain) pure) ∙ plain_of-tree_of plain
