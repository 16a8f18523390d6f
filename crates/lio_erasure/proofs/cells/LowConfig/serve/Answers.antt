use Rattle.std.proofs.Common.{subst, List, Option}
use Rattle.std.specs.Prelude.{slice_set}
use Rattle.lio_task.specs.declared.config.Holder.{Holder}
use Rattle.lio_erasure.specs.Turn.{Serves}
use Rattle.lio_erasure.proofs.HolderLemmas.{serves-low}
use Rattle.lio_erasure.proofs.cells.LowConfig.serve.Goals as goal

pub returns-clause-serves : goal.returns-clause-serves
returns-clause-serves c = λ script longest.
    let items = c.self.inside.cells.items in
    subst (λ (hs : List (Option Holder)). Serves script longest hs (slice_set items c.args.n c.serve_in.new.place) c.args.n c.args.act.now) c.self.view_is
    (serves-low script longest items c.args.n c.in-Some.place.now c.serve_in.new.place c.args.act.now c.in-Some.ensures.item.3.0 c.in-Some.ensures.value (c.serve_in.ensures.serves script))
