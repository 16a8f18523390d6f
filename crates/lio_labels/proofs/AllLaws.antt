-- The laws of this crate in one set, for the functions whose contracts they are.
use Rattle.lio_labels.proofs.FlowLemmas.{flow_is_tested, flow_is_reflexive, flow_is_transitive, flow_is_antisymmetric, least_flows_to_all, all_flow_to_greatest}
use Rattle.lio_labels.proofs.BoundLemmas.{left_flows_to_join, right_flows_to_join, join_is_least, meet_flows_to_left, meet_flows_to_right, meet_is_greatest, join_with_above, meet_with_above}
use Rattle.lio_labels.proofs.PrivilegeLemmas.{privilege_is_tested, privilege_grows, true_privilege_is_flow, flow_is_with_privilege, flow_then_privilege, privilege_then_flow}
use Rattle.lio_labels.proofs.DowngradeLemmas.{downgraded_flows_back, flows_to_downgraded, downgraded_is_least}
use Rattle.lio_labels.proofs.TextLemmas.{printed_is_read}

pub ruleset laws = (
  flow_is_tested,
  flow_is_reflexive,
  flow_is_transitive,
  flow_is_antisymmetric,
  left_flows_to_join,
  right_flows_to_join,
  join_is_least,
  meet_flows_to_left,
  meet_flows_to_right,
  meet_is_greatest,
  join_with_above,
  meet_with_above,
  least_flows_to_all,
  all_flow_to_greatest,
  privilege_is_tested,
  privilege_grows,
  true_privilege_is_flow,
  flow_is_with_privilege,
  flow_then_privilege,
  privilege_then_flow,
  downgraded_flows_back,
  flows_to_downgraded,
  downgraded_is_least,
  printed_is_read,
)
