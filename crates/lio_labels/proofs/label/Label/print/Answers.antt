use Rattle.std.proofs.Common.{◌∙◌, refl, ap}
use Rattle.lio_labels.specs.LabelText.{reading}
use Rattle.lio_labels.proofs.TextLemmas.{printed_is_read}
use Rattle.lio_labels.proofs.label.Label.print.Goals as goal

pub returns-clause-ok : goal.returns-clause-ok
returns-clause-ok c =
    rw (c.in_ok-print_to-2.ensures.ok, c.in_ok-extend_from_slice.ensures.items, c.in_ok-print_to.ensures.ok, c.new-text.ensures.items) refl

pub returns-clause-read : goal.returns-clause-read
returns-clause-read c =
    ap (reading c.args.names.now) (returns-clause-ok c)
    ∙ printed_is_read c.args.names.now c.args.self.now c.len.ensures.names c.label_is_canonical.ensures c.requires
