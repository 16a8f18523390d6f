use Rattle.std.proofs.Common.{sym, subst, List}
use Rattle.lio_values.specs.declared.entry.Entry.{Entry}
use Rattle.lio_audit.specs.Replay.{Stands}
use Rattle.lio_audit.proofs.ReplayLemmas.{stands-first}
use Rattle.lio_audit.proofs.expected.expected_line.Goals as goal

pub line_behind-requires-clause-stands : goal.line_behind-requires-clause-stands
line_behind-requires-clause-stands c =
    subst (λ (es : List Entry). Stands c.args.names.now c.args.script.now c.args.config es) (sym c.new-journal.ensures)
    (stands-first c.args.names.now c.args.script.now c.args.config c.requires.sound c.requires.named c.requires.fresh)
