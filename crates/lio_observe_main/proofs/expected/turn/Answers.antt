use Rattle.lio_erasure.specs.LowParts.{low_of}
use Rattle.lio_observe_main.proofs.ExpectedLemmas.{IsTakenNamed, taken-is_named}
use Rattle.lio_observe_main.proofs.expected.turn.Goals as goal

pub turn-requires : goal.turn-requires
turn-requires c = λ place d within. (c.requires.contents place d within).1

pub returns : goal.returns
returns c =
    let taken : IsTakenNamed c.args.names.now (low_of c.args.low.now) (low_of c.turn.new.self) c.turn.result =
    taken-is_named c.args.names.now c.args.k (low_of c.args.low.now) (low_of c.turn.new.self) c.args.released.now c.turn.new.releases c.turn.result c.requires.named c.requires.contents c.turn.ensures.ok c.turn.ensures.err in
    record { entry = taken.entry; named = taken.named; takes = taken.takes; observer = taken.observer }
