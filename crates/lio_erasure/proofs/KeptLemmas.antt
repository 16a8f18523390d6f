-- A cell that is left out has no holder, whatever the turns do.
use Rattle.std.proofs.Common.{◌≡◌, ◌∙◌, refl, sym, ap, subst, ℕ, ◌+◌, ◌<◌, Bool, true, false, true≢false, not, ◌||◌, IsTrue, List, [], ◌∷◌, ◌++◌, get_or, length, map, take, Option, Some, None, is_some}
use Rattle.std.specs.Prelude.{slice_set}
use Rattle.std.specs.Option.{option_map}
use Rattle.std.proofs.lemmas.List.{map-append, take_more}
use Rattle.std.proofs.lemmas.List.Elements.{All-push, All-set}
use Rattle.lio_labels.specs.declared.label.Label.{Label}
use Rattle.lio_values.specs.declared.value.Value.{Value}
use Rattle.lio_values.specs.declared.act.Act.{Act}
use Rattle.lio_values.specs.declared.act.Act.TheVariants as act
use Rattle.lio_cells.specs.declared.state.State.{State}
use Rattle.lio_cells.specs.declared.state.State.TheVariants.{Absent, Ref, Var, Job}
use Rattle.lio_cells.specs.State.{is_absent, written, filled, received, ended, placed, state_after}
use Rattle.lio_syntax.specs.Statements.{Procedure}
use Rattle.lio_calculus.specs.Task.{TaskState}
use Rattle.lio_calculus.specs.Step.{Cell}
use Rattle.lio_calculus.specs.Hiding.{hide_task}
use Rattle.lio_calculus.specs.Erased.{erase_cell, hide_cell, hide_state, sees}
use Rattle.lio_task.specs.declared.task.Task.{Task}
use Rattle.lio_task.specs.declared.config.Holder.{Holder}
use Rattle.lio_task.specs.Configuration.{cell_of}
use Rattle.lio_task.specs.StateOf.{state_in}
use Rattle.lio_erasure.specs.Low.{LeavesOutBlanks, is_kept, low_cell_of}

-- a holder in the place of another one
pub set-kept : (holders news : List (Option Holder)) (n : ℕ) (holder : Option Holder) → news ≡ slice_set holders n holder → IsTrue (is_kept holder) → LeavesOutBlanks holders → LeavesOutBlanks news
set-kept holders news n holder is kept all = subst LeavesOutBlanks (sym is) (All-set (λ (h : Option Holder). IsTrue (is_kept h)) holders n holder kept all)

-- a node that is there stays there
filled-there : (state : State) (value : Option Value) → is_absent state ≡ false → is_absent (filled state value) ≡ false
filled-there Absent value e = e
filled-there state value e = e

placed-there : (state new : State) → is_absent state ≡ false → is_absent (placed state new) ≡ false
placed-there Absent new e = absurd (true≢false e)
placed-there state new e = e

there-after : (state : State) (asked : Act) → is_absent state ≡ false → is_absent (state_after state asked) ≡ false
unfolding state_after
there-after state (act.Write value) e = of state e
  where
    of : (s : State) → is_absent s ≡ false → is_absent (written s value) ≡ false
    of Absent e = e
    of state e = e
there-after state act.Take e = filled-there state None e
there-after state (act.Put value) e = filled-there state (Some value) e
there-after state (act.Send text) e = of state e
  where
    of : (s : State) → is_absent s ≡ false → is_absent (received s text) ≡ false
    of Absent e = e
    of state e = e
there-after state (act.NewRef label value) e = placed-there state (Ref label value) e
there-after state (act.NewVar label value) e = placed-there state (Var label value) e
there-after state (act.Fork birth) e = placed-there state (Job birth.result None) e
there-after state (act.Spawn birth) e = placed-there state (Job birth.result None) e
there-after state (act.Ended content) e = of state e
  where
    of : (s : State) → is_absent s ≡ false → is_absent (ended s content) ≡ false
    of Absent e = e
    of state e = e
there-after state asked e = e

pub served-kept : (holder other : Holder) (asked : Act) → other.task ≡ holder.task → other.node.state ≡ state_after holder.node.state asked → IsTrue (is_kept (Some holder)) → IsTrue (is_kept (Some other))
served-kept holder other asked tasks states kept = subst (λ (t : Option Task). IsTrue (is_some t || not (is_absent other.node.state))) (sym tasks) (by holder.task (is_absent holder.node.state) refl kept)
  where
    by : (task : Option Task) (absent : Bool) → is_absent holder.node.state ≡ absent → IsTrue (is_some task || not absent) → IsTrue (is_some task || not (is_absent other.node.state))
    by (Some task) absent is kept = refl
    by None true is kept = absurd (true≢false (sym kept))
    by None false is kept = subst (λ (b : Bool). IsTrue (not b)) (sym (ap is_absent states ∙ there-after holder.node.state asked is)) refl

-- a cell that an observer sees is there, and what the observer sees of it is there too
there : Cell → Bool
there cell = is_some cell.task || not (is_absent cell.state)

some-mapped : {A B : Type 0} (f : A → B) (o : Option A) → is_some (option_map f o) ≡ is_some o
some-mapped f None = refl
some-mapped f (Some x) = refl

kept-cell : (script : List Procedure) (holder : Holder) (cell : Cell) → cell_of script holder ≡ cell → IsTrue (there cell) → IsTrue (is_kept (Some holder))
unfolding there
kept-cell script holder cell is kept =
    subst (λ (b : Bool). IsTrue (b || not (is_absent holder.node.state))) (some-mapped (state_in script) holder.task) (subst (λ (x : Cell). IsTrue (is_some x.task || not (is_absent x.state))) (sym is) kept)

seen-there : (observer : Label) (cell : Cell) → sees observer cell ≡ true → IsTrue (there cell)
unfolding there
seen-there observer cell e = by cell.task cell.state e
  where
    by : (t : Option TaskState) (s : State) → (let x : Cell = record { state = s; task = t } in sees observer x) ≡ true → IsTrue (is_some t || not (is_absent s))
    by None Absent e = absurd (true≢false (sym e))
    by task state e = refl

hidden-there : (observer : Label) (cell : Cell) → IsTrue (there cell) → IsTrue (there (hide_cell observer cell))
unfolding there
hidden-there observer cell kept = by cell.task cell.state kept
  where
    by : (t : Option TaskState) (s : State) → IsTrue (is_some t || not (is_absent s)) → IsTrue (is_some (option_map (hide_task observer) t) || not (is_absent (hide_state observer s)))
    by None Absent kept = absurd (true≢false (sym kept))
    by task state kept = refl

-- so a holder that an observer sees is kept, and so is what it sees of it
pub seen-kept : (observer : Label) (holder : Holder) → ((script : List Procedure) → true ≡ sees observer (cell_of script holder)) → IsTrue (is_kept (Some holder))
seen-kept observer holder seen = kept-cell [] holder (cell_of [] holder) refl (seen-there observer (cell_of [] holder) (sym (seen [])))

pub hidden-kept : (observer : Label) (holder other : Holder) → ((script : List Procedure) → true ≡ sees observer (cell_of script holder)) → ((script : List Procedure) → cell_of script other ≡ hide_cell observer (cell_of script holder))
    → IsTrue (is_kept (Some other))
hidden-kept observer holder other seen hides =
    kept-cell [] other (hide_cell observer (cell_of [] holder)) (hides []) (hidden-there observer (cell_of [] holder) (seen-there observer (cell_of [] holder) (sym (seen []))))

-- one cell more is put behind those that are kept: it stands for the next holder, erased
pub erased-next : (script : List Procedure) (observer : Label) (low news : List (Option Holder)) (holders : List Holder) (i : ℕ) (holder : Holder) (cell : Option Holder) → i < length holders → holder ≡ get_or holders i holder
    → news ≡ low ++ cell ∷ [] → low_cell_of script cell ≡ erase_cell observer (cell_of script holder) → map (low_cell_of script) low ≡ map (erase_cell observer) (map (cell_of script) (take i holders))
    → map (low_cell_of script) news ≡ map (erase_cell observer) (map (cell_of script) (take (i + 1) holders))
erased-next script observer low news holders i holder cell within is pushed erased so_far =
    ap (map (low_cell_of script)) pushed ∙ map-append (low_cell_of script) low (cell ∷ []) ∙ ap (λ (cells : List Cell). cells ++ low_cell_of script cell ∷ []) so_far
    ∙ ap (λ (last : Cell). map (erase_cell observer) (map (cell_of script) (take i holders)) ++ last ∷ []) erased
    ∙ sym (map-append (erase_cell observer) (map (cell_of script) (take i holders)) (cell_of script holder ∷ []))
    ∙ ap (map (erase_cell observer))
    (sym (map-append (cell_of script) (take i holders) (holder ∷ []))
    ∙ ap (map (cell_of script)) (ap (λ (h : Holder). take i holders ++ h ∷ []) is ∙ sym (take_more holders i holder within)))

pub kept-next : (low news : List (Option Holder)) (cell : Option Holder) → news ≡ low ++ cell ∷ [] → LeavesOutBlanks low → IsTrue (is_kept cell) → LeavesOutBlanks news
kept-next low news cell pushed kept one = subst LeavesOutBlanks (sym pushed) (All-push (λ (holder : Option Holder). IsTrue (is_kept holder)) low cell kept one)
