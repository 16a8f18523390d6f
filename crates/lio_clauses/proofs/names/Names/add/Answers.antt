use Rattle.std.proofs.Common.{◌<◌, sym, subst, arith, length}
use Rattle.std.proofs.lemmas.List.{length-map}
use Rattle.lio_clauses.specs.Names.{AreNames, bytes_of}
use Rattle.lio_clauses.proofs.NameLemmas.{AreNames-push, bytes_of-insert}
use Rattle.lio_clauses.proofs.names.Names.add.Goals as goal

pub returns-clause-added : goal.returns-clause-added
returns-clause-added c =
    bytes_of-insert c.self.inside.set.keys c.insert.new.self.keys c.in_ok-name.name c.args.self.now c.args.name.now c.in_ok-insert.ensures.keys
    c.in_ok-name.ensures.items c.self.view_is (sym c.in_default-find.ensures.number)

pub invariant_of-self-2 : goal.invariant_of-self-2
invariant_of-self-2 c =
    let room : length (bytes_of c.self.inside.set.keys) < 64 = simp length-map (omega (arith, c.len.ensures.len, c.if-len-ge-MOST.false)) in
    let old : AreNames c.args.self.now = subst AreNames c.self.view_is c.self.invariant in
    let few : length c.args.self.now < 64 = subst (λ names. length names < 64) c.self.view_is room in
    subst AreNames (sym (returns-clause-added c))
    (AreNames-push c.args.self.now c.args.name.now old (sym c.in_default.ensures) (sym c.in_default-find.ensures.number) few)
