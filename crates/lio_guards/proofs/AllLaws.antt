-- The laws of this crate in one set, for the functions whose contracts they are.
use Rattle.lio_guards.proofs.WidthLemmas.{width_is_tested}
use Rattle.lio_guards.proofs.GuardLemmas.{current_flows_to_written, written_flows_to_clearance, learnt_flows_to_label, current_flows_to_label, label_flows_to_clearance, write_keeps_label, raise_joins_label, raise_is_narrow, exchange_takes_label, current_flows_to_lowered, lowered_flows_to_clearance, refused_where_test_fails, current_flows_to_released, released_flows_to_clearance, source_flows_with_privilege, release_keeps_label, release_refused_where_test_fails, expose_joins_label, current_flows_to_exposed, exposed_flows_to_clearance, exposed_is_narrow, exposed_flows_with_privilege, expose_refused_where_test_fails}

pub ruleset laws = (
  width_is_tested,
  current_flows_to_written,
  written_flows_to_clearance,
  learnt_flows_to_label,
  current_flows_to_label,
  label_flows_to_clearance,
  write_keeps_label,
  raise_joins_label,
  raise_is_narrow,
  exchange_takes_label,
  current_flows_to_lowered,
  lowered_flows_to_clearance,
  refused_where_test_fails,
  current_flows_to_released,
  released_flows_to_clearance,
  source_flows_with_privilege,
  release_keeps_label,
  release_refused_where_test_fails,
  expose_joins_label,
  current_flows_to_exposed,
  exposed_flows_to_clearance,
  exposed_is_narrow,
  exposed_flows_with_privilege,
  expose_refused_where_test_fails,
)
