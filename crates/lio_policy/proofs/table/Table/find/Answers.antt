use Rattle.std.proofs.Common.{◌∙◌, ap, sym}
use Rattle.lio_clauses.specs.Names.{number_of}
use Rattle.lio_clauses.proofs.NameLemmas.{number_of-bytes_of}
use Rattle.lio_policy.proofs.table.Table.find.Goals as goal

pub returns : goal.returns
returns c =
    c.get_index_of.ensures.index ∙ sym (number_of-bytes_of c.self.inside.set.keys c.args.text.now)
    ∙ ap (λ texts. number_of texts c.args.text.now) c.self.view_is
