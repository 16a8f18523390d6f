-- What a policy lets flow, whatever its scripts do: by its labels alone, or by the privileges that it gives its tasks (flow and privileges of Disjunction Category
-- Labels, 2011; privileges of tasks of LIO, ICFP 2012).
use Rattle.std.specs.Prelude.{ℕ, List, map, if◌then◌else◌}
use Rattle.std.specs.List.{flat_map}
use Rattle.lio_clauses.specs.Canonical.{and}
use Rattle.lio_clauses.specs.Without.{without}
use Rattle.lio_labels.specs.declared.label.Label.{Label}
use Rattle.lio_labels.specs.declared.privilege.Priv.{Priv}
use Rattle.lio_labels.specs.Flow.{flows}
use Rattle.lio_labels.specs.Privilege.{flows_with}
use Rattle.lio_policy.specs.Policy.{PolicyParts}
use Rattle.lio_policy.specs.Powers.{powers_of}
use Rattle.lio_policy.specs.declared.policy.FileEntry.{FileEntry}
use Rattle.lio_policy.specs.declared.flows.MayFlow.{MayFlow}
use Rattle.lio_policy.specs.declared.flows.MayFlow.TheVariants.{May, OnlyByPrivilege, Never}

-- the clauses of some privileges, of all together; no count bounds them
abbrev pub clauses_of : List Priv → List (List ℕ)
clauses_of powers = flat_map (λ power. power.power) powers

-- some privileges as one: the conjunction of all
abbrev pub together : List Priv → Priv
together powers = record { power = clauses_of powers }

-- a label as a privilege raises it: its secrecy with the privilege's own, and its integrity without the clauses that the privilege implies
unfoldable pub raised : Priv → Label → Label
raised p label = record { secrecy = and label.secrecy p.power; integrity = without label.integrity p.power }

-- the label of a channel as all privileges of a policy together raise it: what may flow to the channel flows to this label
abbrev pub raised_by : PolicyParts → FileEntry → Label
raised_by policy channel = raised (together (powers_of policy)) channel.label

-- what may flow from an input to a channel: it flows by the labels, or only by the policy's privileges, all together, or never
unfoldable pub may_flow : PolicyParts → FileEntry → FileEntry → MayFlow
may_flow policy input channel =
    if flows input.label channel.label then May
    else (if flows_with (together (powers_of policy)) input.label channel.label then OnlyByPrivilege else Never)

-- the same for each pair: a row for each channel, with an item for each input
abbrev pub what_may_flow : PolicyParts → List (List MayFlow)
what_may_flow policy = map (λ channel. map (λ input. may_flow policy input channel) policy.inputs) policy.channels
