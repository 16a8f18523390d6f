-- The parts of a document that the code borrows from it.
use Rattle.std.specs.Prelude.{map}
use Rattle.serde_json.specs.View.{view}
use Rattle.lio_policy_draft.specs.Shape as shape
use Rattle.lio_policy_draft.specs.declared.document.Parts.{Parts}

-- the parts, with each value as its data
abbrev pub parts_view : Parts → shape.Parts
parts_view p = record {
  version = p.version;
  longest = p.longest;
  principals = map view p.principals.now;
  channels = map view p.channels.now;
  inputs = map view p.inputs.now;
  tasks = map view p.tasks.now;
}
