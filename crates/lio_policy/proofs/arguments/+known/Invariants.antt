use Rattle.std.proofs.Common.{◌≡◌, ◌++◌, List, map, option_map, drop}
use Rattle.lio_policy.specs.Rules.{all_there, arg_entry}
use Rattle.lio_policy.specs.declared.policy.Arg.{Arg}
use Rattle.lio_policy.proofs.arguments.+known.Given as goal

-- those so far stand before those that are left
abbrev pub invariant-known_args-loop-arg : goal.invariant-known_args-loop-arg
invariant-known_args-loop-arg l =
    all_there (map (arg_entry l.known) l.args) ≡ option_map (λ (more : List Arg). l.made ++ more) (all_there (map (arg_entry l.known) (drop l.arg-index l.args)))
