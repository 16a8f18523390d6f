use Rattle.std.proofs.lemmas.Result.{IfOk-weaker}
use Rattle.std.proofs.Common.{List, ℕ}
use Rattle.lio_values.specs.Quoted.{quoted}
use Rattle.lio_events_reading.specs.Cut.{AreBytes}
use Rattle.lio_events_reading.specs.Reading.{Finds}
use Rattle.lio_events_reading.proofs.PlainLemmas.{finds_sent, finds_not_sent, none_are_bytes}
use Rattle.lio_events_reading.proofs.plain.text_in_quotes.Goals as goal

pub returns-in-Bytes-clause-finds : goal.returns-in-Bytes-clause-finds
returns-in-Bytes-clause-finds c =
    finds_sent c.args.names.now c.args.text.now c.quoted.result.now c.quoted.new.self c.in_ok-other.other c.in-Bytes.bytes c.quoted.ensures.finds c.in_ok-other.ensures.finds c.in-Bytes.is

pub returns-in_default : goal.returns-in_default
returns-in_default c = record {
  finds = IfOk-weaker c.of.result _ (λ (found : List ℕ). Finds quoted AreBytes c.args.text.now found c.quoted.new.self)
      (λ found is. finds_not_sent c.args.names.now c.args.text.now c.quoted.result.now c.quoted.new.self c.in_ok-other.other found c.quoted.ensures.finds c.in_ok-other.ensures.finds c.in_default.not-Bytes) c.of.ensures.ok;
  over = IfOk-weaker c.of.result _ AreBytes none_are_bytes c.of.ensures.ok;
}
