use Rattle.std.proofs.Common.{◌≡◌, ◌++◌, List, map, option_map, drop}
use Rattle.lio_policy.specs.Rules.{all_there, labelled_arg}
use Rattle.lio_policy.specs.declared.labelled.LabelledArg.{LabelledArg}
use Rattle.lio_policy.proofs.labels.+labelled.Given as goal

-- those so far stand before those that are left
abbrev pub invariant-labelled_args-loop-arg : goal.invariant-labelled_args-loop-arg
invariant-labelled_args-loop-arg l =
    all_there (map (labelled_arg l.names) l.args) ≡ option_map (λ (more : List LabelledArg). l.made ++ more) (all_there (map (labelled_arg l.names) (drop l.arg-index l.args)))
