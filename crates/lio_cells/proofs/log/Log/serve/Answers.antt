use Rattle.std.proofs.Common.{◌≡◌, ◌∙◌, ap, get_or, ℕ, ◌-◌, List, length, false}
use Rattle.std.specs.Prelude.{slice_set}
use Rattle.lio_values.specs.declared.entry.Entry.{Entry}
use Rattle.lio_cells.specs.Log.{with_ticket}
use Rattle.lio_cells.proofs.LogLemmas.{log_of, serve-last}
use Rattle.lio_cells.proofs.log.Log.serve.Goals as goal

pub returns : goal.returns
returns c = λ entry is.
    let es : List Entry = c.self.inside.entries.items in
    let found : Entry = c.index_mut.result.now in
    let size : c.len-last.result ≡ length es = c.len-last.ensures ∙ c.self.inside.entries.ok.0 in
    ap (λ (n : ℕ). log_of c.self.inside.first false (slice_set es (n - 1) (with_ticket found c.args.ticket))) size
    ∙ serve-last c.args.self.now c.self.inside.first c.self.inside.has_pending es entry found found c.args.ticket c.self.view_is c.self.invariant is (c.index_mut.ensures.value ∙ ap (λ (n : ℕ). get_or es (n - 1) found) size)
