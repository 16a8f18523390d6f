use Rattle.std.proofs.Common.{◌≡◌, subst, true, false, List, IfErr, OnOk}
use Rattle.std.specs.Option.{option_map}
use Rattle.std.proofs.lemmas.Result.{err_from_is_err_and}
use Rattle.lio_outside.specs.Outputs.{Output, kept}
use Rattle.lio_policy.specs.declared.policy.Policy.{Policy}
use Rattle.lio_front.specs.Outputs.{journal_output, outputs_from, OutSays}
use Rattle.lio_front.proofs.WriteLemmas.{if_err, kept-both, on_ok, out-history, out-view}
use Rattle.lio_front.proofs.write.write_out.Goals as goal

pub returns-in_err-keep_journal-clause-err : goal.returns-in_err-keep_journal-clause-err
returns-in_err-keep_journal-clause-err g c =
    let p = err_from_is_err_and c.from_residual-in_err-keep_journal.result c.from_residual-in_err-keep_journal.ensures.1 in
    let channels : List Output = outputs_from c.args.journal.now 0 c.args.policy.now.channels in
    let history : List Output = journal_output c.args.policy.now.names true c.args.journal.now (option_map (λ name. name.now) c.args.history) in
    let view : List Output = journal_output c.args.policy.now.names false c.args.seen.now (option_map (λ name. name.now) c.args.view) in
    let fault = c.in_err-keep_journal.field-0.0 in
    let middle = g.S.Store.faults c.keep_channels.new.store in
    let after = g.S.Store.faults c.keep_journal.new.store in
    let says : OutSays (g.S.Store.holds c.keep_channels.new.store) (g.S.Store.holds c.keep_journal.new.store) history middle after fault =
    subst (λ (q : Policy). OutSays (g.S.Store.holds c.keep_channels.new.store) (g.S.Store.holds c.keep_journal.new.store) (journal_output q.names true c.args.journal.now (option_map (λ name. name.now) c.args.history)) middle after fault) c.policy.view_is c.in_err-keep_journal.ensures.err in
    rw (p.1, p.2) (out-history (g.S.Store.holds c.args.store.now) (g.S.Store.holds c.keep_channels.new.store) (g.S.Store.holds c.keep_journal.new.store) channels history view (g.S.Store.faults c.args.store.now) middle after fault
    c.in_ok-keep_channels.ensures.count c.in_ok-keep_channels.ensures.ok says)

pub returns-clause-ok : goal.returns-clause-ok
returns-clause-ok g c =
    let channels : List Output = outputs_from c.args.journal.now 0 c.args.policy.now.channels in
    let history : List Output = journal_output c.args.policy.now.names true c.args.journal.now (option_map (λ name. name.now) c.args.history) in
    let view : List Output = journal_output c.args.policy.now.names false c.args.seen.now (option_map (λ name. name.now) c.args.view) in
    let told = g.S.Store.holds c.args.store.now in
    let first = g.S.Store.holds c.keep_channels.new.store in
    let second = g.S.Store.holds c.keep_journal.new.store in
    let now = g.S.Store.holds c.keep_journal-2.new.store in
    let kept_history : second ≡ kept first history =
    subst (λ (q : Policy). second ≡ kept first (journal_output q.names true c.args.journal.now (option_map (λ name. name.now) c.args.history))) c.policy.view_is c.in_ok-keep_journal.ensures.ok in
    let kept_view : OnOk c.keep_journal-2.result (now ≡ kept second view) =
    subst (λ (q : Policy). OnOk c.keep_journal-2.result (now ≡ kept second (journal_output q.names false c.args.seen.now (option_map (λ name. name.now) c.args.view)))) c.policy.view_is c.keep_journal-2.ensures.ok in
    on_ok c.keep_journal-2.result (now ≡ kept second view) _ (kept-both told first second now channels history view c.in_ok-keep_channels.ensures.ok kept_history) kept_view

pub returns-clause-err : goal.returns-clause-err
returns-clause-err g c =
    let channels : List Output = outputs_from c.args.journal.now 0 c.args.policy.now.channels in
    let history : List Output = journal_output c.args.policy.now.names true c.args.journal.now (option_map (λ name. name.now) c.args.history) in
    let view : List Output = journal_output c.args.policy.now.names false c.args.seen.now (option_map (λ name. name.now) c.args.view) in
    let told = g.S.Store.holds c.args.store.now in
    let first = g.S.Store.holds c.keep_channels.new.store in
    let second = g.S.Store.holds c.keep_journal.new.store in
    let now = g.S.Store.holds c.keep_journal-2.new.store in
    let before = g.S.Store.faults c.args.store.now in
    let one = g.S.Store.faults c.keep_channels.new.store in
    let two = g.S.Store.faults c.keep_journal.new.store in
    let after = g.S.Store.faults c.keep_journal-2.new.store in
    let kept_history : second ≡ kept first history =
    subst (λ (q : Policy). second ≡ kept first (journal_output q.names true c.args.journal.now (option_map (λ name. name.now) c.args.history))) c.policy.view_is c.in_ok-keep_journal.ensures.ok in
    let says : IfErr c.keep_journal-2.result (OutSays second now view two after) =
    subst (λ (q : Policy). IfErr c.keep_journal-2.result (OutSays second now (journal_output q.names false c.args.seen.now (option_map (λ name. name.now) c.args.view)) two after)) c.policy.view_is c.keep_journal-2.ensures.err in
    if_err c.keep_journal-2.result (OutSays second now view two after) _
    (λ fault. out-view told first second now channels history view before one two after fault c.in_ok-keep_channels.ensures.count c.in_ok-keep_journal.ensures.count c.in_ok-keep_channels.ensures.ok kept_history) says
