use Rattle.std.proofs.Common.{◌∙◌, ap, refl, List, [], ◌∷◌, ◌++◌}
use Rattle.lio_values.specs.declared.entry.Entry.{Entry}
use Rattle.lio_cells.proofs.LogLemmas.{put-last}
use Rattle.lio_cells.proofs.log.Log.put.Goals as goal

pub returns-clause-ok : goal.returns-clause-ok
returns-clause-ok c =
    let entry : Entry = c.args.entry.now in
    put-last c.args.self.now c.self.inside.first c.self.inside.has_pending c.self.inside.entries.items c.push_equal.new.entries.items entry entry c.self.view_is c.self.invariant c.requires
    (c.in_ok-push_equal.ensures.ok ∙ ap (λ (es : List Entry). es ++ entry ∷ []) c.has_room.ensures.items) refl
