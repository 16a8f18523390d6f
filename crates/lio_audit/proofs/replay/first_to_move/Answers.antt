use Rattle.std.proofs.Common.{◌≡◌, ◌≤◌, arith, length}
use Rattle.std.proofs.lemmas.List.{length-map}
use Rattle.lio_task.specs.Configuration.{cell_of, configuration_of}
use Rattle.lio_audit.proofs.RunLemmas.{complete-below}
use Rattle.lio_audit.proofs.replay.first_to_move.Goals as goal

pub returns : goal.returns
returns c =
    let cells : length (configuration_of c.args.script.now c.args.config.now).cells ≡ length c.args.config.now.holders.items = length-map c.args.config.now.holders.items (cell_of c.args.script.now) in
    let ends : length (configuration_of c.args.script.now c.args.config.now).cells ≤ c.loop-k.k = omega (arith, c.loop-k-test.false, cells, c.len-k-end.ensures) in
    complete-below (configuration_of c.args.script.now c.args.config.now) c.loop-k.k ends c.loop-k.invariant
