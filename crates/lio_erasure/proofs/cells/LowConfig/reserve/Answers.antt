use Rattle.std.proofs.Common.{◌∙◌, sym, ap, subst, List, Option}
use Rattle.std.specs.Prelude.{IsSome, OnOk}
use Rattle.lio_task.specs.declared.config.Holder.{Holder}
use Rattle.lio_erasure.specs.Low.{holder_in, low_configuration_of}
use Rattle.lio_erasure.specs.Turn.{HasRoom}
use Rattle.lio_erasure.proofs.HolderLemmas.{found-in, holder_in-put, same-low}
use Rattle.lio_erasure.proofs.cells.LowConfig.reserve.Goals as goal

pub returns-clause-same : goal.returns-clause-same
returns-clause-same c = λ script longest.
    same-low script longest c.self.inside.cells.items c.args.n c.in-Some.place.now c.reserve_in.new.place c.in-Some.ensures.item.3.0 c.in-Some.ensures.value (c.reserve_in.ensures.same script) ∙ ap (low_configuration_of script longest) c.self.view_is

pub returns-clause-room : goal.returns-clause-room
returns-clause-room c =
    subst (λ (place : Option Holder). OnOk c.reserve_in.result (HasRoom place c.args.act.now)) (sym (holder_in-put c.self.inside.cells.items c.args.n c.reserve_in.new.place c.in-Some.ensures.item.3.0)) c.reserve_in.ensures.room

pub returns-clause-there : goal.returns-clause-there
returns-clause-there c = λ some.
    let items = c.self.inside.cells.items in
    let within = c.in-Some.ensures.item.3.0 in
    let P : Option Holder → Type 0 = λ place. IsSome place in
    subst P (sym (holder_in-put items c.args.n c.reserve_in.new.place within))
    (c.reserve_in.ensures.there (subst P (ap (λ (hs : List (Option Holder)). holder_in hs c.args.n) (sym c.self.view_is) ∙ found-in items c.args.n c.in-Some.place.now within c.in-Some.ensures.value) some))
