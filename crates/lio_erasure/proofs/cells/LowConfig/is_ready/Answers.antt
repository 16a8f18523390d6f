use Rattle.std.proofs.Common.{◌∙◌, sym, ap, Bool, ◌&&◌, Some, None}
use Rattle.std.specs.Option.{option_copied}
use Rattle.lio_cells.specs.declared.state.State.{State}
use Rattle.lio_cells.specs.State.{ready}
use Rattle.lio_calculus.specs.Plan.{Node}
use Rattle.lio_calculus.specs.Step.{Cell, has_label, met}
use Rattle.lio_erasure.proofs.ActLemmas.{nothing-ready, ready-named}
use Rattle.lio_erasure.proofs.HolderLemmas.{cell-low}
use Rattle.lio_erasure.proofs.cells.LowConfig.is_ready.Goals as goal

pub returns-then-has_label : goal.returns-then-has_label
returns-then-has_label c = λ script longest kind meets.
    let state = c.in-Some.holder.now.node.state in
    let asked = c.args.act.now in
    let handle = c.args.handle.now in
    c.ready.ensures ∙ ap (λ (b : Bool). b && ready state asked) (c.if-has_label.ensures ∙ ap (λ (s : State). has_label s handle.label) c.state.ensures.state)
    ∙ ready-named kind handle state asked meets
    ∙ sym (ap (λ (x : Cell). ready (met (Node kind handle) x.state) asked) (cell-low script longest c.args.self.now handle.number (Some c.in-Some.holder.now) (sym c.holder.ensures ∙ ap option_copied c.in-Some.is)))

pub returns-else-has_label : goal.returns-else-has_label
returns-else-has_label c = λ script longest kind meets.
    let state = c.in-Some.holder.now.node.state in
    let asked = c.args.act.now in
    let handle = c.args.handle.now in
    c.if-has_label.false ∙ ap (λ (b : Bool). b && ready state asked) (c.if-has_label.ensures ∙ ap (λ (s : State). has_label s handle.label) c.state.ensures.state)
    ∙ ready-named kind handle state asked meets
    ∙ sym (ap (λ (x : Cell). ready (met (Node kind handle) x.state) asked) (cell-low script longest c.args.self.now handle.number (Some c.in-Some.holder.now) (sym c.holder.ensures ∙ ap option_copied c.in-Some.is)))

pub returns-in-None : goal.returns-in-None
returns-in-None c = λ script longest kind meets.
    let handle = c.args.handle.now in
    sym (ap (λ (x : Cell). ready (met (Node kind handle) x.state) c.args.act.now) (cell-low script longest c.args.self.now handle.number None (sym c.holder.ensures ∙ ap option_copied c.in-None.is))
    ∙ nothing-ready kind handle c.args.act.now meets)
