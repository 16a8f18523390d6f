use Rattle.std.proofs.Common.{subst}
use Rattle.std.proofs.lemmas.Result.{err_from_is_err_and}
use Rattle.lio_front.specs.Sorted.{bytes_of_words}
use Rattle.lio_c.specs.Answers.{Replies}
use Rattle.lio_c.proofs.call.answer.Goals as goal

pub returns-in_err-words-clause-err : goal.returns-in_err-words-clause-err
returns-in_err-words-clause-err c =
    let p = err_from_is_err_and c.from_residual.result c.from_residual.ensures.1 in
    rw (p.1, p.2) (c.in_err-words.ensures.err c.args.files.now)

pub returns-in_err-store-clause-err : goal.returns-in_err-store-clause-err
returns-in_err-store-clause-err c =
    let p = err_from_is_err_and c.from_residual-in_err-store.result c.from_residual-in_err-store.ensures.1 in
    rw (p.1, p.2) (c.in_err-store.ensures.err c.args.words.now)

pub returns-clause-ok : goal.returns-clause-ok
returns-clause-ok c = record {
  items = bytes_of_words c.in_ok-words.words.items;
  given = c.in_ok-store.store;
  words_are = c.in_ok-words.ensures.ok;
  files_are = c.in_ok-store.ensures.ok;
  replies = subst (λ words. Replies (bytes_of_words words) c.in_ok-store.store c.in_ok-reply.reply.0 c.in_ok-reply.reply.1.items) c.as_slice.ensures.value c.in_ok-reply.ensures;
}
