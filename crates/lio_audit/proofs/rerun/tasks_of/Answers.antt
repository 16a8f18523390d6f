use Rattle.std.proofs.Common.{◌≡◌, ◌<◌, ◌≤◌, ◌∙◌, ◌+◌, sym, ap, subst, arith, Bool, if◌then◌else◌, ℕ, List, [], ◌∷◌, ◌++◌, append-nil, length, get_or, map, Option, None, is_some}
use Rattle.lio_syntax.specs.Statements.{Procedure}
use Rattle.lio_calculus_runs.specs.Rounds.{tasks_from}
use Rattle.lio_task.specs.declared.config.Holder.{Holder}
use Rattle.lio_erasure.specs.Low.{low_cell_of}
use Rattle.lio_audit.proofs.AskLemmas.{ListsTasks, lists-ends, lists-next, same-cell}
use Rattle.lio_audit.proofs.rerun.tasks_of.Goals.{then-has_task+in_ok-push, else-has_task}
use Rattle.lio_audit.proofs.rerun.tasks_of.Goals as goal

pub loop-k-preserved : goal.loop-k-preserved
loop-k-preserved c =
    let cells : List (Option Holder) = c.as_slice-cell-items.result.now in
    let k : ℕ = c.loop-k.k in
    let so_far : List ℕ = c.loop-k.order.items in
    let inside : k < length cells = omega (arith, c.loop-k-test.true) in
    let item : c.cell-item.result ≡ get_or cells k None = c.cell-item.is ∙ same-cell cells k c.cell-item.result None inside in
    let tells : (script : List Procedure) → c.has_task.result ≡ is_some (low_cell_of script (get_or cells k None)).task =
    λ script. c.has_task.ensures script ∙ ap (λ (x : Option Holder). is_some (low_cell_of script x).task) item in
    let order : c.if-has_task.order.items ≡ so_far ++ (if c.has_task.result then k ∷ [] else []) =
    elim c.if-has_task.branch [
      | then-has_task+in_ok-push w ↦ rw w.order-is (w.in_ok-push.ensures.items ∙ ap (λ (b : Bool). so_far ++ (if b then k ∷ [] else [])) (sym w.if-has_task.true))
      | else-has_task w ↦ rw w.order-is (sym (append-nil so_far) ∙ ap (λ (b : Bool). so_far ++ (if b then k ∷ [] else [])) (sym w.if-has_task.false))
    ] in
    subst (λ (ks : List ℕ). ListsTasks ks cells (k + 1)) (sym order) (lists-next so_far cells k c.has_task.result c.loop-k.invariant inside tells)

pub returns : goal.returns
returns c = λ script longest.
    let cells : List (Option Holder) = c.as_slice-cell-items.result.now in
    let past : length cells ≤ c.loop-k.k = omega (arith, c.loop-k-test.false) in
    lists-ends c.loop-k.order.items cells c.loop-k.k c.loop-k.invariant past script
    ∙ ap (λ (hs : List (Option Holder)). tasks_from 0 (map (low_cell_of script) hs)) c.as_slice-cell-items.ensures
