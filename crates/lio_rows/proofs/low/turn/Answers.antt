use Rattle.lio_erasure.specs.LowParts.{low_of}
use Rattle.lio_rows.proofs.LowNames.{IsTakenNamed, taken_is_named}
use Rattle.lio_rows.proofs.low.turn.Goals as goal

pub turn-requires : goal.turn-requires
turn-requires c = λ place d within. (c.requires.contents place d within).1

pub returns : goal.returns
returns c =
    let taken : IsTakenNamed c.args.names.now (low_of c.turn.new.self) c.turn.new.releases c.turn.result =
    taken_is_named c.args.names.now c.args.k (low_of c.args.low.now) (low_of c.turn.new.self) c.args.contents.now c.turn.new.releases c.turn.result c.requires.named c.requires.contents c.turn.ensures.ok c.turn.ensures.err in
    record { entry = taken.entry; named = taken.named; contents = taken.contents_named }
