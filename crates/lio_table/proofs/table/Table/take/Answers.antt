use Rattle.std.proofs.Common.{◌∙◌, ◌∷◌, ap, sym, Some}
use Rattle.atomic_table.specs.Table.{rest}
use Rattle.lio_table.proofs.table.Table.take.Goals as goal

pub exchange-requires : goal.exchange-requires
exchange-requires c =
    let takes = c.if-not-claim_node.ensures.claimed in (
      c.if-not-claim_node.ensures.table ∙ c.requires.table,
      (Some takes.holder, takes.slot ∙ ap (λ slots. (c.args.n, Some takes.holder) ∷ slots) (sym (ap rest takes.slot))),
    )
