use Rattle.std.proofs.Common.{length, refl, sym, subst}
use Rattle.std.specs.Str.{IsUtf8}
use Rattle.std.proofs.lemmas.Option.{slice_get_read}
use Rattle.lio_c.proofs.words.texts_as_words.Goals as goal

pub returns-in_default-clause-err : goal.returns-in_default-clause-err
returns-in_default-clause-err c = record {
  word = c.index-items-number.result;
  at = slice_get_read c.args.items.now (length c.args.items.now) c.loop-number.number c.index-items-number.result refl c.loop-number-test.true c.index-items-number.is;
  none = λ is. c.in_default.ensures.cases.0 (subst IsUtf8 (sym c.bytes.ensures) is);
}
