-- What a policy lets flow, over all its runs: none releases anything from above what may flow to a channel; and an input that never flows there changes in rounds no byte of it, whatever the script is (the noninterference of the concurrent
-- calculus of LIO, ICFP 2012, at the channel's label as the policy's privileges raise it; Disjunction Category Labels, 2011).
use Rattle.std.specs.Prelude.{◌≡◌, ◌≢◌, ℕ, List, [], ◌∷◌, length, Some, slice_get}
use Rattle.std.specs.Option.{option_map_or}
use Rattle.lio_labels.specs.declared.label.Label.{Label}
use Rattle.lio_events.specs.ChannelBytes.{channel_bytes}
use Rattle.lio_events.specs.Views.{releases}
use Rattle.lio_policy.specs.Flows.{together, raised, raised_by, may_flow}
use Rattle.lio_policy.specs.Policy.{PolicyParts, IsPolicy}
use Rattle.lio_policy.specs.Powers.{powers_of}
use Rattle.lio_policy.specs.declared.flows.MayFlow.{MayFlow}
use Rattle.lio_policy.specs.declared.flows.MayFlow.TheVariants.{May, OnlyByPrivilege, Never}
use Rattle.lio_policy.specs.declared.policy.FileEntry.{FileEntry}
use Rattle.lio_syntax.specs.Statements.{Procedure}
use Rattle.lio_calculus.specs.Run.{Ran, run}
use Rattle.lio_calculus_runs.specs.Rounds.{rounds}
use Rattle.lio_start.specs.Job.{IsJob, JobParts, first_of}
use Rattle.lio_start.specs.Laws.{SaysLiterals}
use Rattle.lio_start.specs.Start.{start_of}
use Rattle.lio_rounds.specs.Laws.{IsRunOver, RunsAreAlike}
use Rattle.lio_rounds.specs.Runs.{IsByRounds, IsCompleteRun}

-- No turn of a policy's run, in any order of turns, releases anything from above a label, as all the policy's privileges together raise it, to below it.
abbrev pub NothingIsReleasedBelow : Type 0
NothingIsReleasedBelow = (policy : PolicyParts) (script : List Procedure) (texts : List (List ℕ)) (ticket : ℕ) (ks : List ℕ) (ran : Ran) (label : Label)
    → IsPolicy policy → SaysLiterals script → run ticket (start_of policy script texts) ks ≡ Some ran
    → releases (raised (together (powers_of policy)) label) ran.entries ≡ []

-- to no channel of a policy a run releases anything from above the channel's label as all the policy's privileges together raise it, to below that
abbrev pub ReleasesNothingTo : PolicyParts → Ran → Type 0
ReleasesNothingTo policy ran = (number : ℕ) (channel : FileEntry) → slice_get policy.channels number ≡ Some channel → releases (raised_by policy channel) ran.entries ≡ []

-- texts of a policy's inputs agree at each input that may flow to a channel; of the others neither the texts nor their lengths count
pub record AgreeOnFlows (policy : PolicyParts) (channel : FileEntry) (ones twos : List (List ℕ)) : Type 0 where
  pub count : length ones ≡ length twos
  pub texts : (i : ℕ) (input : FileEntry) → slice_get policy.inputs i ≡ Some input → may_flow policy input channel ≢ Never → slice_get ones i ≡ slice_get twos i

-- Two runs by rounds of one policy and script, over texts that agree at each input that may flow to a channel, leave the same bytes in the channel: an input that never flows to it
-- changes none of them.
abbrev pub NeverChangesNothing : Type 0
NeverChangesNothing = (policy : PolicyParts) (script : List Procedure) (ones twos : List (List ℕ)) (one two : Ran) (number : ℕ) (channel : FileEntry)
    → IsPolicy policy → SaysLiterals script → IsRunOver policy script ones one → IsRunOver policy script twos two
    → slice_get policy.channels number ≡ Some channel → AgreeOnFlows policy channel ones twos
    → channel_bytes one.entries number ≡ channel_bytes two.entries number

-- and for each observer at the channel's label as the policy's privileges raise it the two runs are alike
abbrev pub RunsAreAlikeBelow : Type 0
RunsAreAlikeBelow = (policy : PolicyParts) (script : List Procedure) (ones twos : List (List ℕ)) (one two : Ran) (channel : FileEntry)
    → IsPolicy policy → SaysLiterals script → IsRunOver policy script ones one → IsRunOver policy script twos two
    → AgreeOnFlows policy channel ones twos → RunsAreAlike (raised_by policy channel) policy one two

-- a text where its input may flow to a channel, and else the empty one
abbrev pub text_by : MayFlow → List ℕ → List ℕ
text_by May text = text
text_by OnlyByPrivilege text = text
text_by Never text = []

-- the texts of the inputs that may flow to a channel, each in its place, with the empty text for the others
abbrev pub texts_by : PolicyParts → FileEntry → List FileEntry → List (List ℕ) → List (List ℕ)
texts_by policy channel [] texts = texts
texts_by policy channel (input ∷ inputs) [] = []
texts_by policy channel (input ∷ inputs) (text ∷ texts) = text_by (may_flow policy input channel) text ∷ texts_by policy channel inputs texts

-- the bytes that the run by rounds of a policy and a script leaves in a channel, from the texts of the inputs that may flow to it
abbrev pub bytes_by : PolicyParts → List Procedure → FileEntry → ℕ → List (List ℕ) → List ℕ
bytes_by policy script channel number texts =
    option_map_or (λ (ran : Ran). channel_bytes ran.entries number)
    (run 0 (start_of policy script (texts_by policy channel policy.inputs texts)) (rounds (start_of policy script (texts_by policy channel policy.inputs texts)))) []

-- So in rounds a channel's bytes are a function of the policy, the script and the texts of the inputs that may flow to it.
abbrev pub ChannelGoesByFlows : Type 0
ChannelGoesByFlows = (policy : PolicyParts) (script : List Procedure) (texts : List (List ℕ)) (ran : Ran) (number : ℕ) (channel : FileEntry)
    → IsPolicy policy → SaysLiterals script → IsRunOver policy script texts ran → slice_get policy.channels number ≡ Some channel
    → channel_bytes ran.entries number ≡ bytes_by policy script channel number texts

-- In each channel of a job a run leaves what the inputs that may flow to it give: no other input changes a byte of it.
abbrev pub GoesByFlows : JobParts → Ran → Type 0
GoesByFlows job ran = (number : ℕ) (channel : FileEntry) → slice_get job.policy.channels number ≡ Some channel
    → channel_bytes ran.entries number ≡ bytes_by job.policy job.script channel number job.inputs

-- each complete run of a job by rounds is so
abbrev pub JobGoesByFlows : Type 0
JobGoesByFlows = (job : JobParts) (ran : Ran) → IsJob job → IsCompleteRun (first_of job) ran → IsByRounds (first_of job) ran → GoesByFlows job ran
