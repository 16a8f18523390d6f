use Rattle.std.proofs.lemmas.Result.{IfOk-weaker, IfErr-weaker, err_from_is_err_and}
use Rattle.lio_front.specs.Sorted.{bytes_of_words}
use Rattle.lio_observe_main.specs.Claim.{Claim, claim_of}
use Rattle.lio_observe_main.specs.Words.{Command, named}
use Rattle.lio_observe_main.proofs.Says.{accepts, refused-check, refused-steps}
use Rattle.lio_observe_main.proofs.observe.check_words.Goals as goal

pub returns-in_err-claim-clause-err : goal.returns-in_err-claim-clause-err
returns-in_err-claim-clause-err g c =
    let p = err_from_is_err_and c.from_residual.result c.from_residual.ensures.1 in
    rw (p.1, p.2) (refused-steps (g.S.Store.holds c.args.store.now) (bytes_of_words c.args.words.now) (g.S.Store.faults c.args.store.now) (g.S.Store.faults c.load_claim.new.store) (named c.in-Some.command) c.in_err-claim.field-0.0
    c.in-Some.ensures c.in_err-claim.ensures.err)

pub returns-clause-ok : goal.returns-clause-ok
returns-clause-ok g c =
    let command : Command = named c.in-Some.command in
    let claim : Claim = claim_of c.in_ok-claim.claim in
    IfOk-weaker c.check_claim-lines.result _ _
    (λ count right. accepts (g.S.Store.holds c.args.store.now) (bytes_of_words c.args.words.now) command claim count c.in-Some.ensures c.in_ok-claim.ensures.ok right) c.check_claim-lines.ensures.ok

pub returns-clause-err : goal.returns-clause-err
returns-clause-err g c =
    let command : Command = named c.in-Some.command in
    let claim : Claim = claim_of c.in_ok-claim.claim in
    IfErr-weaker c.check_claim-lines.result _ _
    (λ status stops. refused-check (g.S.Store.holds c.args.store.now) (bytes_of_words c.args.words.now) (g.S.Store.faults c.args.store.now) (g.S.Store.faults c.load_claim.new.store) command claim status c.in-Some.ensures c.in_ok-claim.ensures.ok stops)
    c.check_claim-lines.ensures.err
