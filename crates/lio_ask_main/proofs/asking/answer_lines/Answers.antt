use Rattle.std.proofs.lemmas.Result.{IfErr-weaker, IfOk-weaker, err_from_is_err_and}
use Rattle.lio_ask_main.specs.Past.{Past, past_of}
use Rattle.lio_ask_main.specs.Words.{Files, files_named}
use Rattle.lio_ask_main.proofs.Says.{is-listed, not-read, not-taken}
use Rattle.lio_ask_main.proofs.asking.answer_lines.Goals as goal

pub returns-in_err-past-clause-err : goal.returns-in_err-past-clause-err
returns-in_err-past-clause-err g c =
    let p = err_from_is_err_and c.from_residual.result c.from_residual.ensures.1 in
    rw (p.1, p.2) (not-read (g.S.Store.holds c.args.store.now) (files_named c.args.files) (g.S.Store.faults c.args.store.now) (g.S.Store.faults c.load_past.new.store) c.in_err-past.field-0.0 c.in_err-past.ensures.err)

pub returns-clause-ok : goal.returns-clause-ok
returns-clause-ok g c =
    let files : Files = files_named c.args.files in
    let past : Past = past_of c.in_ok-past.past in
    IfOk-weaker c.tell_lines-told.result _ _ (λ told tells. is-listed (g.S.Store.holds c.args.store.now) files past told.text.items told.troubled c.in_ok-past.ensures.ok tells) c.tell_lines-told.ensures.ok

pub returns-clause-err : goal.returns-clause-err
returns-clause-err g c =
    let files : Files = files_named c.args.files in
    let past : Past = past_of c.in_ok-past.past in
    IfErr-weaker c.tell_lines-told.result _ _
    (λ status stops. not-taken (g.S.Store.holds c.args.store.now) files past (g.S.Store.faults c.args.store.now) (g.S.Store.faults c.load_past.new.store) status c.in_ok-past.ensures.ok stops) c.tell_lines-told.ensures.err
