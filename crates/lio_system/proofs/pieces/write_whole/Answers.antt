use Rattle.lio_system.proofs.PiecesLemmas.{Appends-more}
use Rattle.lio_system.proofs.pieces.write_whole.Goals as goal

pub loop-rest-preserved : goal.loop-rest-preserved
loop-rest-preserved g c =
    let (done, split, appended) = c.loop-rest.invariant in
    Appends-more _ _ _ _ done c.loop-rest.rest.now c.in_ok-count.count split appended c.in_ok-count.ensures.bytes

pub returns-then-count-eq0 : goal.returns-then-count-eq0
returns-then-count-eq0 g c = tt
