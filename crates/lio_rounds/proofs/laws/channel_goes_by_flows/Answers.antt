use Rattle.lio_rounds.proofs.FlowLemmas.{channel_goes_by_flows}
use Rattle.lio_rounds.proofs.laws.channel_goes_by_flows.Goals as goal

pub returns : goal.returns
returns c = channel_goes_by_flows
