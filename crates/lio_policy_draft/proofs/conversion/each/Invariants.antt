use Rattle.std.proofs.Common.{◌≡◌, ◌++◌, drop}
use Rattle.std.specs.List.{filter_map}
use Rattle.lio_policy_draft.specs.Converted.{first_failing, unmade}
use Rattle.lio_policy_draft.proofs.conversion.each.Given as goal

-- what was made stands before what is made of the items that are left, and the first that fails is among these
abbrev pub invariant-loop-place : goal.invariant-loop-place
invariant-loop-place g l =
    (l.made ++ filter_map (g.C.Conversion.gives l.by) (drop l.place l.items) ≡ filter_map (g.C.Conversion.gives l.by) l.items)
    × (first_failing l.place (unmade (g.C.Conversion.gives l.by) (drop l.place l.items)) ≡ first_failing 0 (unmade (g.C.Conversion.gives l.by) l.items))
