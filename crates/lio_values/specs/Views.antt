-- Values, contents and faults as the data of lists, and back.
use Rattle.std.specs.Prelude.{◌≡◌, List, [], ◌∷◌, refl}
use Rattle.std.proofs.Common.{ap}
use Rattle.lio_values.specs.declared.value.Plain.{Plain}
use Rattle.lio_values.specs.declared.value.Plain.TheVariants as plain
use Rattle.lio_values.specs.declared.value.Content.{Content}
use Rattle.lio_values.specs.declared.value.Content.TheVariants as content
use Rattle.lio_values.specs.declared.value.Value.{Value}
use Rattle.lio_values.specs.declared.value.Value.TheVariants as value
use Rattle.lio_values.specs.declared.fault.FaultKind.{FaultKind}
use Rattle.lio_values.specs.declared.fault.FaultKind.TheVariants as kind
use Rattle.lio_values.specs.Forest as forest
use Rattle.lio_values.specs.Forest.{Tree, Problem, Inner, Item, Forest, Nothing, Then}

abbrev pub tree_of : Plain → Tree
tree_of plain.Unit = forest.Unit
tree_of (plain.Flag flag) = forest.Flag flag
tree_of (plain.Whole number) = forest.Whole number
tree_of (plain.Bytes text) = forest.Bytes text
tree_of (plain.Lab label) = forest.Lab label
tree_of (plain.Power privilege) = forest.Power privilege
tree_of (plain.RefOf handle) = forest.RefOf handle
tree_of (plain.VarOf handle) = forest.VarOf handle
tree_of (plain.ResultOf handle) = forest.ResultOf handle
tree_of (plain.ChanOf handle) = forest.ChanOf handle
tree_of (plain.Items items) = forest.Items items

abbrev pub problem_of : FaultKind → Problem
problem_of (kind.FlowCurrent current target) = forest.FlowCurrent current target
problem_of (kind.FlowClearance target clearance) = forest.FlowClearance target clearance
problem_of (kind.FlowRaise raised clearance) = forest.FlowRaise raised clearance
problem_of (kind.FlowPrivilege power source target) = forest.FlowPrivilege power source target
problem_of kind.BadType = forest.BadType
problem_of kind.Overflow = forest.Overflow
problem_of kind.DivZero = forest.DivZero
problem_of kind.TooLong = forest.TooLong
problem_of kind.NoTurns = forest.NoTurns
problem_of (kind.NoCells asked left) = forest.NoCells asked left
problem_of (kind.ChildTurns asked left) = forest.ChildTurns asked left
problem_of kind.Depth = forest.Depth
problem_of (kind.LabelWide left right) = forest.LabelWide left right
problem_of (kind.User thrown) = forest.User (tree_of thrown)

abbrev pub inner_of : Content → Inner
inner_of (content.Kept kept) = forest.Kept (tree_of kept)
inner_of (content.Faulted fault) = forest.Faulted (problem_of fault.kind) fault.at
inner_of content.Hidden = forest.Hidden

abbrev pub item_of : Value → Item
item_of (value.Bare bare) = forest.Bare (tree_of bare)
item_of (value.Sealed label content) = forest.Sealed label (inner_of content)

abbrev pub forest_of : List Value → Forest
forest_of [] = Nothing
forest_of (value ∷ values) = Then (item_of value) (forest_of values)

abbrev pub plain_of : Tree → Plain
plain_of forest.Unit = plain.Unit
plain_of (forest.Flag flag) = plain.Flag flag
plain_of (forest.Whole number) = plain.Whole number
plain_of (forest.Bytes text) = plain.Bytes text
plain_of (forest.Lab label) = plain.Lab label
plain_of (forest.Power privilege) = plain.Power privilege
plain_of (forest.RefOf handle) = plain.RefOf handle
plain_of (forest.VarOf handle) = plain.VarOf handle
plain_of (forest.ResultOf handle) = plain.ResultOf handle
plain_of (forest.ChanOf handle) = plain.ChanOf handle
plain_of (forest.Items items) = plain.Items items

abbrev pub kind_of : Problem → FaultKind
kind_of (forest.FlowCurrent current target) = kind.FlowCurrent current target
kind_of (forest.FlowClearance target clearance) = kind.FlowClearance target clearance
kind_of (forest.FlowRaise raised clearance) = kind.FlowRaise raised clearance
kind_of (forest.FlowPrivilege power source target) = kind.FlowPrivilege power source target
kind_of forest.BadType = kind.BadType
kind_of forest.Overflow = kind.Overflow
kind_of forest.DivZero = kind.DivZero
kind_of forest.TooLong = kind.TooLong
kind_of forest.NoTurns = kind.NoTurns
kind_of (forest.NoCells asked left) = kind.NoCells asked left
kind_of (forest.ChildTurns asked left) = kind.ChildTurns asked left
kind_of forest.Depth = kind.Depth
kind_of (forest.LabelWide left right) = kind.LabelWide left right
kind_of (forest.User thrown) = kind.User (plain_of thrown)

abbrev pub content_of : Inner → Content
content_of (forest.Kept kept) = content.Kept (plain_of kept)
content_of (forest.Faulted problem at) = content.Faulted (record { kind = kind_of problem; at = at })
content_of forest.Hidden = content.Hidden

abbrev pub value_of : Item → Value
value_of (forest.Bare bare) = value.Bare (plain_of bare)
value_of (forest.Sealed label inner) = value.Sealed label (content_of inner)

-- the values of a list
abbrev pub values_of : Forest → List Value
values_of Nothing = []
values_of (Then item others) = value_of item ∷ values_of others

-- ---- the two are the same

pub plain_of-tree_of : (p : Plain) → plain_of (tree_of p) ≡ p
plain_of-tree_of plain.Unit = refl
plain_of-tree_of (plain.Flag flag) = refl
plain_of-tree_of (plain.Whole number) = refl
plain_of-tree_of (plain.Bytes text) = refl
plain_of-tree_of (plain.Lab label) = refl
plain_of-tree_of (plain.Power privilege) = refl
plain_of-tree_of (plain.RefOf handle) = refl
plain_of-tree_of (plain.VarOf handle) = refl
plain_of-tree_of (plain.ResultOf handle) = refl
plain_of-tree_of (plain.ChanOf handle) = refl
plain_of-tree_of (plain.Items items) = refl

pub tree_of-plain_of : (t : Tree) → tree_of (plain_of t) ≡ t
tree_of-plain_of forest.Unit = refl
tree_of-plain_of (forest.Flag flag) = refl
tree_of-plain_of (forest.Whole number) = refl
tree_of-plain_of (forest.Bytes text) = refl
tree_of-plain_of (forest.Lab label) = refl
tree_of-plain_of (forest.Power privilege) = refl
tree_of-plain_of (forest.RefOf handle) = refl
tree_of-plain_of (forest.VarOf handle) = refl
tree_of-plain_of (forest.ResultOf handle) = refl
tree_of-plain_of (forest.ChanOf handle) = refl
tree_of-plain_of (forest.Items items) = refl

pub kind_of-problem_of : (k : FaultKind) → kind_of (problem_of k) ≡ k
kind_of-problem_of (kind.FlowCurrent current target) = refl
kind_of-problem_of (kind.FlowClearance target clearance) = refl
kind_of-problem_of (kind.FlowRaise raised clearance) = refl
kind_of-problem_of (kind.FlowPrivilege power source target) = refl
kind_of-problem_of kind.BadType = refl
kind_of-problem_of kind.Overflow = refl
kind_of-problem_of kind.DivZero = refl
kind_of-problem_of kind.TooLong = refl
kind_of-problem_of kind.NoTurns = refl
kind_of-problem_of (kind.NoCells asked left) = refl
kind_of-problem_of (kind.ChildTurns asked left) = refl
kind_of-problem_of kind.Depth = refl
kind_of-problem_of (kind.LabelWide left right) = refl
kind_of-problem_of (kind.User thrown) = ap kind.User (plain_of-tree_of thrown)

pub problem_of-kind_of : (p : Problem) → problem_of (kind_of p) ≡ p
problem_of-kind_of (forest.FlowCurrent current target) = refl
problem_of-kind_of (forest.FlowClearance target clearance) = refl
problem_of-kind_of (forest.FlowRaise raised clearance) = refl
problem_of-kind_of (forest.FlowPrivilege power source target) = refl
problem_of-kind_of forest.BadType = refl
problem_of-kind_of forest.Overflow = refl
problem_of-kind_of forest.DivZero = refl
problem_of-kind_of forest.TooLong = refl
problem_of-kind_of forest.NoTurns = refl
problem_of-kind_of (forest.NoCells asked left) = refl
problem_of-kind_of (forest.ChildTurns asked left) = refl
problem_of-kind_of forest.Depth = refl
problem_of-kind_of (forest.LabelWide left right) = refl
problem_of-kind_of (forest.User thrown) = ap forest.User (tree_of-plain_of thrown)

pub content_of-inner_of : (c : Content) → content_of (inner_of c) ≡ c
content_of-inner_of (content.Kept kept) = ap content.Kept (plain_of-tree_of kept)
content_of-inner_of (content.Faulted fault) = λ i. content.Faulted (record { kind = kind_of-problem_of fault.kind i; at = fault.at })
content_of-inner_of content.Hidden = refl

pub inner_of-content_of : (c : Inner) → inner_of (content_of c) ≡ c
inner_of-content_of (forest.Kept kept) = ap forest.Kept (tree_of-plain_of kept)
inner_of-content_of (forest.Faulted problem at) = λ i. forest.Faulted (problem_of-kind_of problem i) at
inner_of-content_of forest.Hidden = refl

pub value_of-item_of : (v : Value) → value_of (item_of v) ≡ v
value_of-item_of (value.Bare bare) = ap value.Bare (plain_of-tree_of bare)
value_of-item_of (value.Sealed label content) = ap (value.Sealed label) (content_of-inner_of content)

pub item_of-value_of : (item : Item) → item_of (value_of item) ≡ item
item_of-value_of (forest.Bare bare) = ap forest.Bare (tree_of-plain_of bare)
item_of-value_of (forest.Sealed label inner) = ap (forest.Sealed label) (inner_of-content_of inner)

pub values_of-forest_of : (values : List Value) → values_of (forest_of values) ≡ values
values_of-forest_of [] = refl
values_of-forest_of (v ∷ others) = λ i. value_of-item_of v i ∷ values_of-forest_of others i

pub forest_of-values_of : (f : Forest) → forest_of (values_of f) ≡ f
forest_of-values_of Nothing = refl
forest_of-values_of (Then item others) = λ i. Then (item_of-value_of item i) (forest_of-values_of others i)
