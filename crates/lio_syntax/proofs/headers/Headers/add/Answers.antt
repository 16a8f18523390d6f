use Rattle.std.proofs.Common.{sym, ◌∙◌, ap, is_some}
use Rattle.lio_syntax.proofs.HeaderLemmas.{under, under-insert, not_there}
use Rattle.lio_syntax.proofs.headers.Headers.add.Goals as goal

pub returns : goal.returns
returns c = λ q. ap (under q) c.in_ok-insert.ensures.entries ∙ under-insert q c.args.name.now c.in_ok-name.name _ c.args.self.now.counts.entries c.in_ok-name.ensures.items
    (not_there _ (ap is_some (sym c.find.ensures) ∙ sym c.is_some.ensures ∙ c.if-is_some.false))
