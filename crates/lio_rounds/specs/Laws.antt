-- The law of runs over different inputs: noninterference of two runs, for the concurrent calculus of LIO, ICFP 2012.
use Rattle.std.specs.Prelude.{◌≡◌, ℕ, List, IsTrue, Some, slice_get}
use Rattle.lio_labels.specs.declared.label.Label.{Label}
use Rattle.lio_labels.specs.Flow.{flows}
use Rattle.lio_events.specs.ChannelBytes.{channel_bytes}
use Rattle.lio_policy.specs.Policy.{PolicyParts}
use Rattle.lio_policy.specs.declared.policy.FileEntry.{FileEntry}
use Rattle.lio_syntax.specs.Statements.{Procedure}
use Rattle.lio_events.specs.Views.{releases}
use Rattle.lio_calculus.specs.Run.{Ran}
use Rattle.lio_calculus_runs.specs.LowLaws.{LookAlike}
use Rattle.lio_start.specs.Start.{start_of}
use Rattle.lio_start.specs.Laws.{AreAlike}
use Rattle.lio_rounds.specs.Runs.{IsByRounds, IsCompleteRun}

-- two runs look alike to an observer, and so does what was sent to each channel below it
pub record RunsAreAlike (observer : Label) (policy : PolicyParts) (one two : Ran) : Type 0 where
  pub alike : LookAlike observer one two
  pub channels : (number : ℕ) (channel : FileEntry) → slice_get policy.channels number ≡ Some channel → IsTrue (flows channel.label observer) → channel_bytes one.entries number ≡ channel_bytes two.entries number

-- a complete run by rounds of a policy and a script, over these texts of the inputs
pub record IsRunOver (policy : PolicyParts) (script : List Procedure) (texts : List (List ℕ)) (ran : Ran) : Type 0 where
  pub complete : IsCompleteRun (start_of policy script texts) ran
  pub by_rounds : IsByRounds (start_of policy script texts) ran

-- Two runs by rounds of one policy and script, over texts that look alike to an observer and with the same contents released to it, are alike for it: the texts of inputs whose labels don't flow
-- to the observer's change nothing that it sees, and nothing that is sent to a channel below it.
abbrev pub OtherInputsChangeNothing : Type 0
OtherInputsChangeNothing = (observer : Label) (policy : PolicyParts) (script : List Procedure) (ones twos : List (List ℕ)) (one two : Ran)
    → IsRunOver policy script ones one → IsRunOver policy script twos two
    → AreAlike observer policy.inputs ones twos → releases observer one.entries ≡ releases observer two.entries
    → RunsAreAlike observer policy one two
