use Rattle.lio_rounds.proofs.FlowLemmas.{job_goes_by_flows}
use Rattle.lio_rounds.proofs.laws.job_goes_by_flows.Goals as goal

pub returns : goal.returns
returns c = job_goes_by_flows
