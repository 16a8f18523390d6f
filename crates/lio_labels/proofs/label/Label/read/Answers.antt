use Rattle.std.proofs.lemmas.Result.{err_from_is_err_and}
use Rattle.lio_labels.proofs.TextLemmas.{reading-Ok, reading-refused}
use Rattle.lio_labels.proofs.label.Label.read.Goals as goal

pub returns-in_err-secrecy-clause-fault : goal.returns-in_err-secrecy-clause-fault
returns-in_err-secrecy-clause-fault c =
    let p = err_from_is_err_and c.from_residual.result c.from_residual.ensures.1 in
    rw (p.1, p.2) (reading-refused c.args.names.now c.args.text.now c.in_err-secrecy.field-0.0 c.in_err-secrecy.ensures.fault)

pub returns-clause-ok : goal.returns-clause-ok
returns-clause-ok c = reading-Ok c.args.names.now c.args.text.now (c.in_ok-secrecy.secrecy, c.in_ok-secrecy.integrity) c.in_ok-secrecy.ensures.ok
