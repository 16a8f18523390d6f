use Rattle.std.proofs.Common.{◌≡◌, ◌∙◌, ap, ℕ, List}
use Rattle.std.proofs.lemmas.Result.{IfOk-weaker}
use Rattle.lio_front.specs.Clash.{names_written}
use Rattle.lio_front.specs.Sorted.{bytes_of_words, named}
use Rattle.lio_host_main.specs.Order.{names_added}
use Rattle.lio_c.specs.Alone.{alone_words}
use Rattle.lio_c.specs.Answers.{AreNamed}
use Rattle.lio_c.proofs.ReplyLemmas.{are-named, none-named}
use Rattle.lio_c.proofs.reply.written.Goals as goal

pub returns-in_default : goal.returns-in_default
returns-in_default c = none-named (alone_words (bytes_of_words c.args.words.now)) c.args.outcome.now.status c.args.outcome.now.job c.new.result c.in_default.not-Done c.new.ensures

pub returns : goal.returns
returns c =
    let words : List (List ℕ) = alone_words (bytes_of_words c.args.words.now) in
    IfOk-weaker c.names_of.result (λ names. names ≡ names_written c.policy.result.now (names_added (named c.in-Some-read_alone.command))) (AreNamed words c.args.outcome.now.status c.args.outcome.now.job)
    (λ names is. are-named words c.args.outcome.now.status c.args.outcome.now.job c.in-Some.job (named c.in-Some-read_alone.command) names c.in-Done.is c.in-Some.is c.in-Some-read_alone.ensures.command
    (is ∙ ap (λ policy. names_written policy (names_added (named c.in-Some-read_alone.command))) c.policy.ensures.policy)) c.names_of.ensures
