use Rattle.std.proofs.Common.{sym}
use Rattle.lio_syntax.proofs.HeaderLemmas.{or_else-none}
use Rattle.lio_syntax.proofs.ReadLemmas.{headers-step, headers-end}
use Rattle.lio_syntax.proofs.read.read_headers.Goals as goal

pub lines-preserved-in_ok-add : goal.lines-preserved-in_ok-add
lines-preserved-in_ok-add c = λ names q.
    headers-step names c.lines.rest.now c.in-Some.line.now c.in-Some.behind.now q _ _ _ _ (c.lines.invariant names q) c.in-Some.ensures.0 (c.in-Some-read_header.ensures names) (c.in_ok-add.ensures q)

pub lines-preserved : goal.lines-preserved
lines-preserved c = λ names q.
    headers-step names c.lines.rest.now c.in-Some.line.now c.in-Some.behind.now q _ _ _ _ (c.lines.invariant names q) c.in-Some.ensures.0 (c.in_default-read_header.ensures names) (sym (or_else-none _))

pub returns : goal.returns
returns c = λ names. record { same = λ q. headers-end names c.lines.rest.now q _ _ (c.lines.invariant names q) c.in_default.ensures }
