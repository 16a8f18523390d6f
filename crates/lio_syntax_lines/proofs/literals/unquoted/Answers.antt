use Rattle.std.proofs.Common.{◌≡◌, arith, List, ℕ, Option}
use Rattle.std.proofs.lemmas.Result.{IfOk-weaker}
use Rattle.lio_syntax_lines.specs.Literals as spec
use Rattle.lio_syntax_lines.proofs.LiteralLemmas.{unquoted-open, unquoted-closed}
use Rattle.lio_syntax_lines.proofs.literals.unquoted.Goals as goal

pub returns-then-byte-eq34 : goal.returns-then-byte-eq34
returns-then-byte-eq34 c =
    IfOk-weaker c.closed.result _ (λ (whole : Option (List ℕ)). whole ≡ spec.unquoted c.args.bytes.now)
    (λ whole is. unquoted-closed c.loop-rest.text.items c.loop-rest.rest.now _ whole c.loop-rest.invariant c.in-len1-up.len_at_least c.if-byte-eq34.true is)
    c.closed.ensures

pub returns : goal.returns
returns c = unquoted-open c.loop-rest.text.items c.loop-rest.rest.now _ c.loop-rest.invariant (omega arith)
