use Rattle.std.proofs.Common.{◌≡◌, ◌∙◌, sym, ap}
use Rattle.std.proofs.lemmas.Result.{IfOk-from_err, IfOk-weaker}
use Rattle.lio_labels.specs.declared.label.Label.{Label}
use Rattle.lio_cells.specs.declared.state.State.{State}
use Rattle.lio_cells.specs.declared.state.State.TheVariants.{Ref, Var}
use Rattle.lio_calculus.specs.Erased.{hide_state}
use Rattle.lio_erasure.proofs.hidden.hide_state.Goals as goal

pub returns-in_err-copy-in-Ref : goal.returns-in_err-copy-in-Ref
returns-in_err-copy-in-Ref c = IfOk-from_err c.from_residual.result (λ (hidden : State). hidden ≡ hide_state c.args.observer.now c.args.state.now) c.from_residual.ensures.0

pub returns-in_err-erase-in-Ref : goal.returns-in_err-erase-in-Ref
returns-in_err-erase-in-Ref c =
    IfOk-from_err c.from_residual-in_err-erase-in-Ref.result (λ (hidden : State). hidden ≡ hide_state c.args.observer.now c.args.state.now) c.from_residual-in_err-erase-in-Ref.ensures.0

pub returns-in_err-copy-in-Var : goal.returns-in_err-copy-in-Var
returns-in_err-copy-in-Var c =
    IfOk-from_err c.from_residual-in_err-copy-in-Var.result (λ (hidden : State). hidden ≡ hide_state c.args.observer.now c.args.state.now) c.from_residual-in_err-copy-in-Var.ensures.0

pub returns-in_err-hide_value-in-Var : goal.returns-in_err-hide_value-in-Var
returns-in_err-hide_value-in-Var c =
    IfOk-from_err c.from_residual-in_err-hide_value-in-Var.result (λ (hidden : State). hidden ≡ hide_state c.args.observer.now c.args.state.now) c.from_residual-in_err-hide_value-in-Var.ensures.0

pub returns-in_ok-erase-in-Ref : goal.returns-in_ok-erase-in-Ref
returns-in_ok-erase-in-Ref c =
    ap (λ (label : Label). Ref label c.in_ok-erase-in-Ref.field-0) c.in_ok-copy-in-Ref.ensures.ok ∙ ap (Ref c.in-Ref.label) c.in_ok-erase-in-Ref.ensures ∙ ap (hide_state c.args.observer.now) (sym c.in-Ref.is)

pub returns-in_ok-hide_value-in-Var : goal.returns-in_ok-hide_value-in-Var
returns-in_ok-hide_value-in-Var c =
    ap (λ (label : Label). Var label c.in_ok-hide_value-in-Var.field-0) c.in_ok-copy-in-Var.ensures.ok ∙ ap (Var c.in-Var.label) c.in_ok-hide_value-in-Var.ensures ∙ ap (hide_state c.args.observer.now) (sym c.in-Var.is)

pub returns-in-Absent : goal.returns-in-Absent
returns-in-Absent c = ap (hide_state c.args.observer.now) (sym c.in-Absent.is)

pub returns-in-Chan : goal.returns-in-Chan
returns-in-Chan c = IfOk-weaker c.copy-in-Chan.result (λ (s : State). s ≡ c.args.state.now) (λ (s : State). s ≡ hide_state c.args.observer.now c.args.state.now)
    (λ s e. e ∙ c.in-Chan.is ∙ ap (hide_state c.args.observer.now) (sym c.in-Chan.is)) c.copy-in-Chan.ensures

pub returns-in-Job : goal.returns-in-Job
returns-in-Job c = IfOk-weaker c.copy-in-Job.result (λ (s : State). s ≡ c.args.state.now) (λ (s : State). s ≡ hide_state c.args.observer.now c.args.state.now)
    (λ s e. e ∙ c.in-Job.is ∙ ap (hide_state c.args.observer.now) (sym c.in-Job.is)) c.copy-in-Job.ensures
