-- What is sent to a channel is seen whole by each observer to whom the channel's label flows.
use Rattle.std.specs.Prelude.{◌≡◌, ℕ, List, IsTrue, Some}
use Rattle.lio_labels.specs.declared.label.Label.{Label}
use Rattle.lio_labels.specs.Flow.{flows}
use Rattle.lio_cells.specs.declared.state.State.TheVariants.{Chan}
use Rattle.lio_events.specs.ChannelBytes.{channel_bytes}
use Rattle.lio_events.specs.Views.{view}
use Rattle.lio_calculus.specs.Step.{Configuration, cell_at}
use Rattle.lio_calculus.specs.Run.{Ran, run}
use Rattle.lio_calculus.specs.Sound.{IsSound}

-- an observer to whom a channel's label flows sees, of a run from a sound configuration, all that was sent to the channel
abbrev pub SendsAreSeen : Type 0
SendsAreSeen = (observer label : Label) (received : List ℕ) (channel ticket first : ℕ) (c : Configuration) (ks : List ℕ) (ran : Ran)
    → IsSound c → (cell_at c channel).state ≡ Chan label received → IsTrue (flows label observer) → run ticket c ks ≡ Some ran
    → channel_bytes (view observer first ran.entries) channel ≡ channel_bytes ran.entries channel
