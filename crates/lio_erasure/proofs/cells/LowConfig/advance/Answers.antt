use Rattle.std.proofs.Common.{◌∙◌, sym, ap, subst, List, Option}
use Rattle.std.specs.Prelude.{slice_set}
use Rattle.std.proofs.lemmas.Result.{on_err_weaker, on_ok_weaker}
use Rattle.lio_task.specs.declared.config.Holder.{Holder}
use Rattle.lio_erasure.specs.Low.{holder_in, low_configuration_of}
use Rattle.lio_erasure.specs.Turn.{Advances, CanServe}
use Rattle.lio_erasure.proofs.HolderLemmas.{advances-low, same-low, serves-still}
use Rattle.lio_erasure.proofs.cells.LowConfig.advance.Goals as goal

pub returns-clause-ok : goal.returns-clause-ok
returns-clause-ok c =
    let items = c.self.inside.cells.items in
    let observer = c.args.observer.now in
    let entry = c.args.entry.now in
    let conf = low_configuration_of c.args.script.now c.args.longest in
    on_ok_weaker c.advance_in.result
    (λ goes. subst (λ (hs : List (Option Holder)). Advances observer (conf hs) (conf (slice_set items entry.actor c.advance_in.new.place)) entry.actor entry.act entry.reply) c.self.view_is
    (advances-low observer c.args.script.now c.args.longest items entry.actor c.in-Some.place.now c.advance_in.new.place entry.act entry.reply c.in-Some.ensures.item.3.0 c.in-Some.ensures.value goes)) c.advance_in.ensures.ok

pub returns-clause-err : goal.returns-clause-err
returns-clause-err c =
    let script = c.args.script.now in
    on_err_weaker c.advance_in.result
    (λ same. same-low script c.args.longest c.self.inside.cells.items c.args.entry.now.actor c.in-Some.place.now c.advance_in.new.place c.in-Some.ensures.item.3.0 c.in-Some.ensures.value same
    ∙ ap (low_configuration_of script c.args.longest) c.self.view_is) c.advance_in.ensures.err

pub returns-clause-serves : goal.returns-clause-serves
returns-clause-serves c = λ n asked can.
    serves-still c.self.inside.cells.items c.args.entry.now.actor n c.in-Some.place.now c.advance_in.new.place asked c.in-Some.ensures.item.3.0 c.in-Some.ensures.value c.advance_in.ensures.node
    (subst (λ (hs : List (Option Holder)). CanServe (holder_in hs n) asked) (sym c.self.view_is) can)
