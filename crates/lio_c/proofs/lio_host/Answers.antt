use Rattle.std.proofs.Common.{◌≡◌, ◌∙◌, ap, refl, inl, inr, List, ℕ, arith, length, vec_len}
use Rattle.lio_c.specs.Told.{answer_told, with_reply}
use Rattle.lio_c.proofs.lio_host.Goals as goal

pub returns-in-Ok : goal.returns-in-Ok
returns-in-Ok c =
    let sized : vec_len c.in-Ok.reply ≡ length c.in-Ok.reply.items = omega arith in
    inl (record {
      status = c.in-Ok.status;
      reply = c.in-Ok.reply.items;
      answers = c.in-Ok.ensures.ok;
      told_is = c.answered.ensures ∙ ap (answer_told c.in-Ok.status) (c.len.ensures ∙ sized);
      after_is = c.put.ensures ∙ ap (λ (reply : List ℕ). with_reply reply c.args.out.now) c.as_slice.ensures.value;
    })

pub returns-in-Err : goal.returns-in-Err
returns-in-Err c = inr (record {
  refusal = c.in-Err.refusal;
  why = c.in-Err.ensures.err;
  told_is = c.refused.ensures;
  after_is = refl;
})
