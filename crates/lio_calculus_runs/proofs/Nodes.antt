-- Each principal in a node has a name after an act that meets it, and so has each in what the node answers.
use Rattle.std.proofs.Common.{ℕ, List, Option, Some, None}
use Rattle.lio_values.specs.declared.value.Content.{Content}
use Rattle.lio_values.specs.declared.value.Value.{Value}
use Rattle.lio_values.specs.declared.act.Act.{Act}
use Rattle.lio_values.specs.declared.act.Act.TheVariants as act
use Rattle.lio_values.specs.Named.{IsContentNamed, IsValueNamed}
use Rattle.lio_events.specs.Printable.{IsOptionNamed, IsActNamed, IsReplyNamed}
use Rattle.lio_cells.specs.declared.state.State.{State}
use Rattle.lio_cells.specs.declared.state.State.TheVariants.{Absent, Ref, Var, Chan, Job}
use Rattle.lio_cells.specs.State.{written, filled, received, ended, placed, answer, state_after}
use Rattle.lio_calculus_runs.specs.Configuration.{IsStateNamed}

-- each way in which a node changes
written_named : (names : List (List ℕ)) (state : State) (value : Value) → IsStateNamed names state → IsValueNamed names value → IsStateNamed names (written state value)
written_named names Absent value s v = tt
written_named names (Ref label before) value s v = (s.0, v)
written_named names (Var label before) value s v = s
written_named names (Chan label bytes) value s v = s
written_named names (Job label result) value s v = s

filled_named : (names : List (List ℕ)) (state : State) (value : Option Value) → IsStateNamed names state → IsOptionNamed names value → IsStateNamed names (filled state value)
filled_named names Absent value s v = tt
filled_named names (Ref label before) value s v = s
filled_named names (Var label before) value s v = (s.0, v)
filled_named names (Chan label bytes) value s v = s
filled_named names (Job label result) value s v = s

received_named : (names : List (List ℕ)) (state : State) (bytes : List ℕ) → IsStateNamed names state → IsStateNamed names (received state bytes)
received_named names Absent bytes s = tt
received_named names state bytes s = s

ended_named : (names : List (List ℕ)) (state : State) (content : Content) → IsStateNamed names state → IsContentNamed names content → IsStateNamed names (ended state content)
ended_named names Absent content s c = tt
ended_named names (Ref label value) content s c = s
ended_named names (Var label value) content s c = s
ended_named names (Chan label bytes) content s c = s
ended_named names (Job label result) content s c = (s.0, c)

placed_named : (names : List (List ℕ)) (state new : State) → IsStateNamed names state → IsStateNamed names new → IsStateNamed names (placed state new)
placed_named names Absent new s n = n
placed_named names state new s n = s

-- a node after an act
pub state_named : (names : List (List ℕ)) (state : State) (asked : Act) → IsStateNamed names state → IsActNamed names asked → IsStateNamed names (state_after state asked)
unfolding state_after
state_named names state (act.Write value) s a = written_named names state value s a
state_named names state act.Take s a = filled_named names state None s tt
state_named names state (act.Put value) s a = filled_named names state (Some value) s a
state_named names state (act.Send text) s a = received_named names state text s
state_named names state (act.NewRef label value) s a = placed_named names state (Ref label value) s a
state_named names state (act.NewVar label value) s a = placed_named names state (Var label value) s a
state_named names state (act.Fork birth) s a = placed_named names state (Job birth.result None) s (a.0, tt)
state_named names state (act.Spawn birth) s a = placed_named names state (Job birth.result None) s (a.0, tt)
state_named names state (act.Ended content) s a = ended_named names state content s a
state_named names state asked s a = s

-- what a node answers
pub answer_named : (names : List (List ℕ)) (state : State) (asked : Act) → IsStateNamed names state → IsReplyNamed names (answer state asked)
unfolding answer
answer_named names (Ref label value) act.Read s = s.1
answer_named names Absent act.Read s = tt
answer_named names (Var label value) act.Read s = tt
answer_named names (Chan label bytes) act.Read s = tt
answer_named names (Job label result) act.Read s = tt
answer_named names (Var label (Some value)) act.Take s = s.1
answer_named names (Var label None) act.Take s = tt
answer_named names Absent act.Take s = tt
answer_named names (Ref label value) act.Take s = tt
answer_named names (Chan label bytes) act.Take s = tt
answer_named names (Job label result) act.Take s = tt
answer_named names (Job label (Some content)) act.Wait s = s.1
answer_named names (Job label None) act.Wait s = tt
answer_named names Absent act.Wait s = tt
answer_named names (Ref label value) act.Wait s = tt
answer_named names (Var label value) act.Wait s = tt
answer_named names (Chan label bytes) act.Wait s = tt
answer_named names state asked s = tt
