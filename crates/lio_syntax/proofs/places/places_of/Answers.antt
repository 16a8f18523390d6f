use Rattle.std.proofs.Common.{arith, ◌<◌, length}
use Rattle.lio_syntax.specs.Places.{blocks_at, places_to}
use Rattle.lio_syntax.proofs.PlaceTable.{blocks_next, places_next}
use Rattle.lio_syntax.proofs.places.places_of.Goals as goal

pub loop-at-init : goal.loop-at-init
unfolding blocks_at places_to
loop-at-init c = record { blocks = c.new-blocks.ensures; table = c.new-table.ensures.items }

pub loop-at-preserved : goal.loop-at-preserved
loop-at-preserved c =
    let lines = c.args.lines.now in
    let at = c.loop-at.at in
    let within : at < length lines = omega arith in
    record {
      blocks = blocks_next lines at c.index-lines-at.result c.loop-at.blocks c.pass.new.self within c.index-lines-at.is c.loop-at.invariant.blocks c.in_ok-pass.ensures.blocks;
      table = places_next lines at c.index-lines-at.result c.loop-at.blocks c.in_ok-pass.field-0 c.loop-at.table.items c.push.new.self.items within c.index-lines-at.is c.loop-at.invariant.blocks
          c.in_ok-pass.ensures.place c.loop-at.invariant.table c.in_ok-push.ensures.items;
    }
