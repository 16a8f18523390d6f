-- Which task can't take a turn: what is no task, one that has ended, and one that waits. A task waits where it has turns left and an access stands in front whose node isn't ready
-- (blocking variables and the results of tasks; LIO, ICFP 2012).
use Rattle.std.specs.Prelude.{◌≡◌, ℕ, ◌==◌, Bool, true, false, ◌&&◌, ◌||◌, not, is_some, List, ◌∷◌, Option, None}
use Rattle.std.specs.Option.{option_map_or}
use Rattle.lio_values.specs.declared.value.Handle.{Handle}
use Rattle.lio_syntax_lines.specs.declared.line.Simple.{Simple}
use Rattle.lio_syntax_lines.specs.declared.line.Simple.TheVariants.{Read, Take, Put, Wait}
use Rattle.lio_cells.specs.declared.state.State.{State}
use Rattle.lio_cells.specs.State.{is_reference, full_with, is_empty, result_of}
use Rattle.lio_syntax.specs.Environment.{Environment}
use Rattle.lio_syntax.specs.Items.{Item, Access}
use Rattle.lio_calculus.specs.Operands.{seen_as, reference_of, variable_of, result_of as result_handle}
use Rattle.lio_calculus.specs.Task.{TaskState}
use Rattle.lio_calculus.specs.Step.{Configuration, cell_at, can}
use Rattle.lio_calculus.specs.Sound.{IsSound}

-- the handle of the node that an access meets
abbrev pub handle_met : Environment → Simple → Option Handle
handle_met environment (Read x r) = seen_as reference_of environment r
handle_met environment (Take x v) = seen_as variable_of environment v
handle_met environment (Put v a) = seen_as variable_of environment v
handle_met environment (Wait x r) = seen_as result_handle environment r
handle_met environment simple = None

-- whether a node is ready for an access: a reference for `read`, a full variable for `take`, an empty one for `put`, and a job with its result for `wait`
abbrev pub is_ready_for : Simple → State → Bool
is_ready_for (Read x r) state = is_reference state
is_ready_for (Take x v) state = is_some (full_with state)
is_ready_for (Put v a) state = is_empty state
is_ready_for (Wait x r) state = is_some (result_of state)
is_ready_for simple state = true

-- whether an access stands in front whose node isn't ready
abbrev pub is_held_up : Configuration → Environment → List Item → Bool
is_held_up c environment (Access simple ∷ items) = option_map_or (λ handle. not (is_ready_for simple (cell_at c handle.number).state)) (handle_met environment simple) false
is_held_up c environment items = false

-- whether a task waits
abbrev pub is_waiting : Configuration → TaskState → Bool
is_waiting c task = not (task.turns == 0) && is_held_up c task.environment task.items

-- whether task k can't take a turn: there is none, or it has ended, or it waits
abbrev pub is_still : Configuration → ℕ → Bool
is_still c k = option_map_or (λ task. task.ended || is_waiting c task) (cell_at c k).task true

-- in a sound configuration a task can take a turn unless it has ended or waits
abbrev pub TaskCanUnlessStill : Type 0
TaskCanUnlessStill = (c : Configuration) (k : ℕ) → IsSound c → can c k ≡ not (is_still c k)
