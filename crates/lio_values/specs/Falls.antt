-- The values in a list are of less height than the list as a value.
use Rattle.std.specs.Prelude.{◌≤◌, max, List, [], ◌∷◌}
use Rattle.std.proofs.Common.{arith}
use denote.Param.Weighed.{most}
use Rattle.lio_values.specs.declared.value.Plain.{Plain}
use Rattle.lio_values.specs.declared.value.Plain.TheVariants as plain
use Rattle.lio_values.specs.declared.value.Content.{Content}
use Rattle.lio_values.specs.declared.value.Content.TheVariants as content
use Rattle.lio_values.specs.declared.value.Value.{Value}
use Rattle.lio_values.specs.declared.value.Value.TheVariants as value
use Rattle.lio_values.specs.declared.fault.FaultKind.{FaultKind}
use Rattle.lio_values.specs.declared.fault.FaultKind.TheVariants as kind
use Rattle.lio_values.specs.declared.items.Items.TheDeep.{deep-Value, deep-Content, deep-Plain, deep-FaultKind}
use Rattle.lio_values.specs.Forest.{tree_height, problem_height, inner_height, item_height, forest_height}
use Rattle.lio_values.specs.Views.{tree_of, problem_of, inner_of, item_of, forest_of}

plain_falls : (p : Plain) → deep-Plain p ≤ tree_height (tree_of p)
plain_falls plain.Unit = omega arith
plain_falls (plain.Flag flag) = omega arith
plain_falls (plain.Whole number) = omega arith
plain_falls (plain.Bytes text) = omega arith
plain_falls (plain.Lab label) = omega arith
plain_falls (plain.Power privilege) = omega arith
plain_falls (plain.RefOf handle) = omega arith
plain_falls (plain.VarOf handle) = omega arith
plain_falls (plain.ResultOf handle) = omega arith
plain_falls (plain.ChanOf handle) = omega arith
plain_falls (plain.Items items) = omega arith

kind_falls : (k : FaultKind) → deep-FaultKind k ≤ problem_height (problem_of k)
kind_falls (kind.FlowCurrent current target) = omega arith
kind_falls (kind.FlowClearance target clearance) = omega arith
kind_falls (kind.FlowRaise raised clearance) = omega arith
kind_falls (kind.FlowPrivilege power source target) = omega arith
kind_falls kind.BadType = omega arith
kind_falls kind.Overflow = omega arith
kind_falls kind.DivZero = omega arith
kind_falls kind.TooLong = omega arith
kind_falls kind.NoTurns = omega arith
kind_falls (kind.NoCells asked left) = omega arith
kind_falls (kind.ChildTurns asked left) = omega arith
kind_falls kind.Depth = omega arith
kind_falls (kind.LabelWide left right) = omega arith
kind_falls (kind.User thrown) = omega (arith, plain_falls thrown)

content_falls : (c : Content) → deep-Content c ≤ inner_height (inner_of c)
content_falls (content.Kept kept) = omega (arith, plain_falls kept)
content_falls (content.Faulted fault) = omega (arith, kind_falls fault.kind)
content_falls content.Hidden = omega arith

pub value_falls : (v : Value) → deep-Value v ≤ item_height (item_of v)
value_falls (value.Bare bare) = omega (arith, plain_falls bare)
value_falls (value.Sealed label content) = omega (arith, content_falls content)

pub falls : (values : List Value) → max (most deep-Value values) 0 ≤ forest_height (forest_of values)
falls [] = omega arith
falls (value ∷ values) = omega (arith, value_falls value, falls values)
