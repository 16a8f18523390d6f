-- What a policy's runs let flow: nothing is released from above a label, as the policy's privileges raise it, to below it; so what doesn't flow there changes nothing below it.
use Rattle.std.proofs.Common.{◌≡◌, ◌∙◌, refl, sym, ap, subst, ℕ, zero, suc, Bool, true, false, not, ◌&&◌, cond, List, [], ◌∷◌, ◌++◌, length, All, Option, Some, IsTrue}
use Rattle.std.specs.Prelude.{◌≢◌, slice_get}
use Rattle.std.specs.Option.{option_map_or}
use Rattle.std.proofs.lemmas.Bool.{true≢false}
use Rattle.std.proofs.lemmas.List.Elements.{All-head, All-tail}
use Rattle.lio_labels.specs.declared.label.Label.{Label}
use Rattle.lio_labels.specs.declared.privilege.Priv.{Priv}
use Rattle.lio_labels.specs.Flow.{flows}
use Rattle.lio_values.specs.declared.value.Content.{Content}
use Rattle.lio_values.specs.declared.act.Act.{Act}
use Rattle.lio_values.specs.declared.act.Act.TheVariants.{Release, Expose}
use Rattle.lio_values.specs.declared.act.Reply.{Reply}
use Rattle.lio_values.specs.declared.act.Reply.TheVariants.{Done}
use Rattle.lio_values.specs.declared.entry.Entry.{Entry}
use Rattle.lio_events.specs.ChannelBytes.{channel_bytes}
use Rattle.lio_events.specs.Views.{released_to, releases}
use Rattle.lio_syntax.specs.Statements.{Procedure}
use Rattle.lio_calculus.specs.Powers.{ReleasesBy}
use Rattle.lio_calculus.specs.Run.{Ran, run}
use Rattle.lio_calculus.specs.Step.{Configuration}
use Rattle.lio_calculus_runs.specs.Given.{FlowsByPower, IsReleasedBy}
use Rattle.lio_calculus.specs.Sound.{IsSound}
use Rattle.lio_calculus_runs.specs.LowLaws.{LookAlike}
use Rattle.lio_calculus_runs.specs.Rounds.{rounds}
use Rattle.lio_calculus_runs.proofs.EndLemmas.{rounds_run_to_the_end}
use Rattle.lio_calculus_runs.proofs.LowEndLemmas.{rounds_look_alike}
use Rattle.lio_policy.specs.Flows.{together, raised, raised_by, may_flow}
use Rattle.lio_policy.specs.Policy.{PolicyParts, IsPolicy}
use Rattle.lio_policy.specs.Powers.{powers_of}
use Rattle.lio_policy.specs.declared.flows.MayFlow.{MayFlow}
use Rattle.lio_policy.specs.declared.flows.MayFlow.TheVariants.{May, OnlyByPrivilege, Never}
use Rattle.lio_policy.specs.declared.policy.FileEntry.{FileEntry}
use Rattle.lio_policy.proofs.FlowLemmas.{flows_to_itself_raised, privileges_compose, never_is_above}
use Rattle.lio_start.specs.Laws.{AreAlike, SaysLiterals}
use Rattle.lio_start.specs.Start.{start_of}
use Rattle.lio_start.proofs.AlikeLemmas.{starts_look_alike}
use Rattle.lio_start.proofs.LawLemmas.{start_is_sound}
use Rattle.lio_start.proofs.PowerLemmas.{releases_are_of_policy}
use Rattle.lio_rounds.specs.Laws.{IsRunOver}
use Rattle.lio_rounds.specs.FlowLaws.{AgreeOnFlows, ChannelGoesByFlows, JobGoesByFlows, NothingIsReleasedBelow, NeverChangesNothing, ReleasesNothingTo, RunsAreAlikeBelow, text_by, texts_by}
use Rattle.lio_rounds.proofs.InputLemmas.{other_inputs_change_nothing}
use Rattle.lio_rounds.proofs.RunLemmas.{channels-seen}

-- ---- releases

-- from what flows to an observer nothing is released to it
none-released : (seen below : Bool) (content : Content) → (IsTrue below → IsTrue seen) → cond (not seen && below) (content ∷ []) [] ≡ []
none-released true below content h = refl
none-released false true content h = absurd (true≢false (sym (h refl)))
none-released false false content h = refl

-- one of some privileges releases nothing to below a label as all together raise it
act-releases_nothing : (powers : List Priv) (label : Label) (act : Act) (reply : Reply) → ReleasesBy powers act → (reply ≡ Done → FlowsByPower act)
    → released_to (raised (together powers) label) act reply ≡ []
unfolding released_to
act-releases_nothing powers label (Release source target power content) Done given flow =
    none-released (flows source (raised (together powers) label)) (flows target (raised (together powers) label)) content
    (λ below. privileges_compose powers power source target label given (flow refl) below)
act-releases_nothing powers label (Expose source target power content) Done given flow =
    none-released (flows source (raised (together powers) label)) (flows target (raised (together powers) label)) content
    (λ below. privileges_compose powers power source target label given (flow refl) below)
act-releases_nothing powers label act reply given flow = refl

entries-release_nothing : (powers : List Priv) (label : Label) (entries : List Entry) → All (IsReleasedBy powers) entries → releases (raised (together powers) label) entries ≡ []
unfolding releases
entries-release_nothing powers label [] all = refl
entries-release_nothing powers label (entry ∷ entries) all =
    let here = All-head (IsReleasedBy powers) entry entries all in
    ap (λ front. front ++ releases (raised (together powers) label) entries) (act-releases_nothing powers label entry.act entry.reply here.given here.flows)
    ∙ entries-release_nothing powers label entries (All-tail (IsReleasedBy powers) entry entries all)

-- what releases by a policy's privileges releases nothing to its channels from above what may flow there
pub releases-nothing : (policy : PolicyParts) (ran : Ran) → All (IsReleasedBy (powers_of policy)) ran.entries → ReleasesNothingTo policy ran
releases-nothing policy ran all number channel at = entries-release_nothing (powers_of policy) channel.label ran.entries all

pub nothing_is_released_below : NothingIsReleasedBelow
nothing_is_released_below policy script texts ticket ks ran label is said runs =
    entries-release_nothing (powers_of policy) label ran.entries (releases_are_of_policy policy script texts ticket ks ran is said runs).entries

-- ---- runs over different inputs

-- texts that agree at each input that may flow to a channel look alike to an observer at its raised label
agree-alike : (policy : PolicyParts) (channel : FileEntry) (ones twos : List (List ℕ)) → AgreeOnFlows policy channel ones twos → AreAlike (raised_by policy channel) policy.inputs ones twos
agree-alike policy channel ones twos agree = record {
  count = agree.count;
  texts = λ i input at below. agree.texts i input at (λ never. true≢false (sym below ∙ (never_is_above policy input channel).0 never));
}

pub runs_are_alike_below : RunsAreAlikeBelow
runs_are_alike_below policy script ones twos one two channel is said over other agree =
    let nothing : (texts : List (List ℕ)) (ran : Ran) → IsRunOver policy script texts ran → releases (raised_by policy channel) ran.entries ≡ [] =
    λ texts ran runs. nothing_is_released_below policy script texts 0 _ ran channel.label is said runs.complete.is_run
    in
    other_inputs_change_nothing (raised_by policy channel) policy script ones twos one two over other (agree-alike policy channel ones twos agree)
    (nothing ones one over ∙ sym (nothing twos two other))

pub never_changes_nothing : NeverChangesNothing
never_changes_nothing policy script ones twos one two number channel is said over other at agree =
    (runs_are_alike_below policy script ones twos one two channel is said over other agree).channels number channel at
    (flows_to_itself_raised (together (powers_of policy)) channel.label)

-- ---- a channel's bytes as a function of what may flow to it

-- the run of the rounds from a policy's start
abbrev RunsFrom : PolicyParts → List Procedure → List (List ℕ) → Ran → Type 0
RunsFrom policy script texts ran = run 0 (start_of policy script texts) (rounds (start_of policy script texts)) ≡ Some ran

-- two such runs over texts that agree leave the same bytes
rounds-leave_same : (policy : PolicyParts) (script : List Procedure) (ones twos : List (List ℕ)) (one two : Ran) (number : ℕ) (channel : FileEntry)
    → IsPolicy policy → SaysLiterals script → RunsFrom policy script ones one → RunsFrom policy script twos two
    → slice_get policy.channels number ≡ Some channel → AgreeOnFlows policy channel ones twos → channel_bytes one.entries number ≡ channel_bytes two.entries number
rounds-leave_same policy script ones twos one two number channel is said runs goes at agree =
    let observer : Label = raised_by policy channel in
    let c : Configuration = start_of policy script ones in
    let d : Configuration = start_of policy script twos in
    let sound : IsSound c = start_is_sound policy script ones is said in
    let other : IsSound d = start_is_sound policy script twos is said in
    let none : releases observer one.entries ≡ [] = nothing_is_released_below policy script ones 0 (rounds c) one channel.label is said runs in
    let nothing : releases observer two.entries ≡ [] = nothing_is_released_below policy script twos 0 (rounds d) two channel.label is said goes in
    let below : IsTrue (flows channel.label observer) = flows_to_itself_raised (together (powers_of policy)) channel.label in
    let alike : LookAlike observer one two =
    rounds_look_alike observer c d one two sound other runs goes (starts_look_alike observer policy script ones twos (agree-alike policy channel ones twos agree)) (none ∙ sym nothing)
    in
    sym (channels-seen policy script ones (rounds c) one sound runs observer number channel at below)
    ∙ ap (λ (es : List Entry). channel_bytes es number) alike.views
    ∙ channels-seen policy script twos (rounds d) two other goes observer number channel at below

texts_by-count : (policy : PolicyParts) (channel : FileEntry) (inputs : List FileEntry) (texts : List (List ℕ)) → length texts ≡ length (texts_by policy channel inputs texts)
texts_by-count policy channel [] texts = refl
texts_by-count policy channel (input ∷ inputs) [] = refl
texts_by-count policy channel (input ∷ inputs) (text ∷ texts) = ap suc (texts_by-count policy channel inputs texts)

text_by-kept : (flow : MayFlow) (text : List ℕ) → flow ≢ Never → text ≡ text_by flow text
text_by-kept May text may = refl
text_by-kept OnlyByPrivilege text may = refl
text_by-kept Never text may = absurd (may refl)

texts_by-agree : (policy : PolicyParts) (channel : FileEntry) (inputs : List FileEntry) (texts : List (List ℕ)) (i : ℕ) (input : FileEntry) → slice_get inputs i ≡ Some input
    → may_flow policy input channel ≢ Never → slice_get texts i ≡ slice_get (texts_by policy channel inputs texts) i
texts_by-agree policy channel [] texts i input at may = absurd (cc)
texts_by-agree policy channel (first ∷ inputs) [] i input at may = refl
texts_by-agree policy channel (first ∷ inputs) (text ∷ texts) zero input at may =
    let same : first ≡ input = cc in
    ap Some (text_by-kept (may_flow policy first channel) text (subst (λ (entry : FileEntry). may_flow policy entry channel ≢ Never) (sym same) may))
texts_by-agree policy channel (first ∷ inputs) (text ∷ texts) (suc i) input at may = texts_by-agree policy channel inputs texts i input at may

pub channel_goes_by_flows : ChannelGoesByFlows
channel_goes_by_flows policy script texts ran number channel is said over at =
    let others : List (List ℕ) = texts_by policy channel policy.inputs texts in
    let ends = rounds_run_to_the_end (start_of policy script others) in
    let runs : RunsFrom policy script texts ran = subst (λ (ks : List ℕ). run 0 (start_of policy script texts) ks ≡ Some ran) over.by_rounds.order over.complete.is_run in
    let agree : AgreeOnFlows policy channel texts others = record {
      count = texts_by-count policy channel policy.inputs texts;
      texts = texts_by-agree policy channel policy.inputs texts;
    } in
    rounds-leave_same policy script texts others ran ends.ran number channel is said runs ends.defined at agree
    ∙ ap (λ (o : Option Ran). option_map_or (λ (r : Ran). channel_bytes r.entries number) o []) (sym ends.defined)

pub job_goes_by_flows : JobGoesByFlows
job_goes_by_flows job ran is complete by_rounds number channel at =
    channel_goes_by_flows job.policy job.script job.inputs ran number channel is.policy is.literals (record { complete = complete; by_rounds = by_rounds }) at
