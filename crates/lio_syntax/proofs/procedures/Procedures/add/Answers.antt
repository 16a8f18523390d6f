use Rattle.std.proofs.Common.{◌≡◌, ◌<◌, ◌^◌, length, arith, vec_len}
use Rattle.lio_syntax.proofs.BeginningLemmas.{holds-more}
use Rattle.lio_syntax.proofs.procedures.Procedures.add.Goals as goal

pub returns : goal.returns
returns c = λ begun holds.
    let few : length c.push.new.self.items < 2 ^ 32 = omega (arith, c.in_ok-push.ensures.len, c.len-number.ensures, c.if-number.false) in
    let known : vec_len c.args.self.now.places ≡ length c.args.self.now.places.items = omega arith in
    holds-more c.args.self.now _ begun c.args.name.now c.args.at c.len-number.result known holds c.len-number.ensures c.in_ok-add.ensures c.in_ok-push.ensures.items few
