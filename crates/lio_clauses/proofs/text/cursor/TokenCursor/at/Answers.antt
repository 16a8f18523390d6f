use Rattle.std.proofs.Common.{◌∙◌, ◌<◌, arith, length}
use Rattle.lio_clauses.proofs.TokenLemmas.{next-token}
use Rattle.lio_clauses.proofs.text.cursor.TokenCursor.at.Goals as goal

pub returns : goal.returns
returns c =
    let here : 0 < length c.past_blanks-place.result.0.now = grind (arith, c.if-is_empty.ensures) in
    next-token c.args.names.now c.past_blanks-place.result.1 c.past_blanks-place.result.0.now c.past_blanks-place.ensures.at_token here
    c.front-token.result.0 c.front-token.result.1 c.front-token.ensures.token c.front-token.ensures.size c.front-token.ensures.some c.front-token.ensures.within
    ∙ c.past_blanks-place.ensures.same c.args.names.now
