-- The privileges that a policy gives its tasks (privileges of LIO, ICFP 2012).
use Rattle.std.specs.Prelude.{List, [], ◌∷◌}
use Rattle.std.specs.List.{flat_map}
use Rattle.lio_labels.specs.declared.privilege.Priv.{Priv}
use Rattle.lio_values.specs.declared.value.Plain.TheVariants.{Power}
use Rattle.lio_policy.specs.Lists.{singles}
use Rattle.lio_policy.specs.Policy.{PolicyParts}
use Rattle.lio_policy.specs.declared.policy.TaskEntry.{TaskEntry}
use Rattle.lio_policy.specs.declared.policy.Arg.{Arg}
use Rattle.lio_policy.specs.declared.policy.Arg.TheVariants.{Fixed}

-- the privilege that an argument is, if it is one
abbrev pub power_of : Arg → List Priv
power_of (Fixed (Power power)) = power ∷ []
power_of argument = []

-- the privileges in an argument, at every depth of a list
abbrev pub power_in : Arg → List Priv
power_in argument = flat_map power_of (singles argument)

-- the privileges among the arguments of a task
abbrev pub task_powers : TaskEntry → List Priv
task_powers task = flat_map power_in task.args

-- the privileges that a policy gives its tasks
abbrev pub powers_of : PolicyParts → List Priv
powers_of policy = flat_map task_powers policy.tasks
