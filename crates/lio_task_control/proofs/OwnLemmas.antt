-- What a procedure still has to do holds no way back to a caller. So throwing, returning, counting calls and hiding pass over it.
use Rattle.std.proofs.Common.{◌≡◌, ℕ, zero, suc, List, [], ◌∷◌, ◌++◌, drop, map, refl, ap}
use Rattle.std.specs.Prelude.{slice_get, Option, Some, None}
use Rattle.lio_labels.specs.declared.label.Label.{Label}
use Rattle.lio_values.specs.declared.value.Value.{Value}
use Rattle.lio_syntax_lines.specs.declared.line.Line.{Line}
use Rattle.lio_syntax_lines.specs.declared.line.Line.TheVariants as line
use Rattle.lio_syntax.specs.Statements.{Statements, Nothing, Then, Try}
use Rattle.lio_syntax.specs.Statements as statement
use Rattle.lio_task_control.specs.declared.frame.Frame.{Frame}
use Rattle.lio_task_control.specs.declared.frame.Stage.{Stage}
use Rattle.lio_task_control.specs.declared.frame.Stage.TheVariants as stage
use Rattle.lio_syntax.specs.Environment.{Environment}
use Rattle.lio_syntax.specs.Items.{Item, Do, Access, Mark, Back, Fail, enter, rest_of, open_calls}
use Rattle.lio_syntax.specs.Throwing.{returned}
use Rattle.lio_syntax.specs.Hiding.{hide_item}
use Rattle.lio_task_control.specs.Continuation.{block_at, innermost, marked, passed, outer_at, items_at, accessed, stage_items, frame_items}

-- none of the items is a way back
abbrev pub NoBack : List Item → Type 0
NoBack [] = Unit {0}
NoBack (Back environment name ∷ items) = ⊥
NoBack (item ∷ items) = NoBack items

abbrev NoBacks : List (List Item) → Type 0
NoBacks [] = Unit {0}
NoBacks (items ∷ outer) = NoBack items × NoBacks outer

enter-no_back : (block : Statements) (items : List Item) → NoBack items → NoBack (enter block items)
unfolding enter
enter-no_back Nothing items h = h
enter-no_back (Then statement block) items h = enter-no_back block items h

rest-no_back : (items : List Item) → NoBack items → NoBack (rest_of items)
rest-no_back [] h = h
rest-no_back (Do statement ∷ items) h = h
rest-no_back (Access statement ∷ items) h = h
rest-no_back (Mark code payload handler ∷ items) h = h
rest-no_back (Back environment name ∷ items) h = absurd h
rest-no_back (Fail fault ∷ items) h = h

marked-no_back : (items : List Item) → NoBack items → NoBack (marked items)
marked-no_back [] h = h
marked-no_back (Do (statement.Do simple) ∷ items) h = h
marked-no_back (Do (statement.If a block) ∷ items) h = h
marked-no_back (Do (statement.IfElse a block other) ∷ items) h = h
marked-no_back (Do (statement.While a block) ∷ items) h = h
marked-no_back (Do (Try block code payload handler) ∷ items) h = h
marked-no_back (Access statement ∷ items) h = h
marked-no_back (Mark code payload handler ∷ items) h = h
marked-no_back (Back environment name ∷ items) h = absurd h
marked-no_back (Fail fault ∷ items) h = h

innermost-no_back : (outer : List (List Item)) → NoBacks outer → NoBack (innermost outer)
innermost-no_back [] h = tt {0}
innermost-no_back (items ∷ outer) h = h.0

drop-no_back : (outer : List (List Item)) → NoBacks outer → NoBacks (drop 1 outer)
drop-no_back [] h = h
drop-no_back (items ∷ outer) h = h.1

passed-no_back : (l : Option Line) (items : List Item) (outer : List (List Item)) → NoBack items → NoBacks outer → NoBacks (passed l items outer)
passed-no_back None items outer h o = tt {0}
passed-no_back (Some (line.Proc name parameters)) items outer h o = (tt {0}, o)
passed-no_back (Some (line.If a)) items outer h o = (rest-no_back items h, o)
passed-no_back (Some line.Else) items outer h o = o
passed-no_back (Some (line.While a)) items outer h o = (h, o)
passed-no_back (Some line.Try) items outer h o = (marked-no_back items h, o)
passed-no_back (Some (line.Catch x y)) items outer h o = (rest-no_back items h, drop-no_back outer o)
passed-no_back (Some line.End) items outer h o = drop-no_back outer o
passed-no_back (Some (line.Do simple)) items outer h o = o

outer-no_back : (lines : List Line) (at : ℕ) → NoBacks (outer_at lines at)
unfolding outer_at
outer-no_back lines zero = tt {0}
outer-no_back lines (suc at) =
    let o = outer-no_back lines at in
    passed-no_back (slice_get lines at) _ (outer_at lines at) (enter-no_back (block_at lines at) (innermost (outer_at lines at)) (innermost-no_back (outer_at lines at) o)) o

items-no_back : (lines : List Line) (at : ℕ) → NoBack (items_at lines at)
unfolding items_at
items-no_back lines at = enter-no_back (block_at lines at) (innermost (outer_at lines at)) (innermost-no_back (outer_at lines at) (outer-no_back lines at))

accessed-no_back : (items : List Item) → NoBack items → NoBack (accessed items)
accessed-no_back [] h = h
accessed-no_back (Do (statement.Do simple) ∷ items) h = h
accessed-no_back (Do (statement.If a block) ∷ items) h = h
accessed-no_back (Do (statement.IfElse a block other) ∷ items) h = h
accessed-no_back (Do (statement.While a block) ∷ items) h = h
accessed-no_back (Do (Try block code payload handler) ∷ items) h = h
accessed-no_back (Access statement ∷ items) h = h
accessed-no_back (Mark code payload handler ∷ items) h = h
accessed-no_back (Back environment name ∷ items) h = absurd h
accessed-no_back (Fail fault ∷ items) h = h

stage-no_back : (lines : List Line) (at : ℕ) (s : Stage) → NoBack (stage_items lines at s)
stage-no_back lines at stage.Rest = items-no_back lines at
stage-no_back lines at stage.Access = accessed-no_back (items_at lines at) (items-no_back lines at)
stage-no_back lines at stage.Nothing = tt {0}
stage-no_back lines at (stage.Fail fault) = tt {0}

pub frame-no_back : (lines : List Line) (frame : Frame) → NoBack (frame_items lines frame)
frame-no_back lines frame = stage-no_back lines frame.at frame.stage

pub returned-over : (value : Value) (environment : Environment) (items others : List Item) → NoBack items → returned value environment (items ++ others) ≡ returned value environment others
unfolding returned
returned-over value environment [] others h = refl
returned-over value environment (Do statement ∷ items) others h = returned-over value environment items others h
returned-over value environment (Access statement ∷ items) others h = returned-over value environment items others h
returned-over value environment (Mark code payload handler ∷ items) others h = returned-over value environment items others h
returned-over value environment (Back caller name ∷ items) others h = absurd h
returned-over value environment (Fail fault ∷ items) others h = returned-over value environment items others h

pub open_calls-over : (items others : List Item) → NoBack items → open_calls (items ++ others) ≡ open_calls others
unfolding open_calls
open_calls-over [] others h = refl
open_calls-over (Do statement ∷ items) others h = open_calls-over items others h
open_calls-over (Access statement ∷ items) others h = open_calls-over items others h
open_calls-over (Mark code payload handler ∷ items) others h = open_calls-over items others h
open_calls-over (Back caller name ∷ items) others h = absurd h
open_calls-over (Fail fault ∷ items) others h = open_calls-over items others h

pub hidden-over : (observer : Label) (items others : List Item) → NoBack items → items ++ map (hide_item observer) others ≡ map (hide_item observer) (items ++ others)
hidden-over observer [] others h = refl
hidden-over observer (Do statement ∷ items) others h = ap (λ (is : List Item). Do statement ∷ is) (hidden-over observer items others h)
hidden-over observer (Access statement ∷ items) others h = ap (λ (is : List Item). Access statement ∷ is) (hidden-over observer items others h)
hidden-over observer (Mark code payload handler ∷ items) others h = ap (λ (is : List Item). Mark code payload handler ∷ is) (hidden-over observer items others h)
hidden-over observer (Back caller name ∷ items) others h = absurd h
hidden-over observer (Fail fault ∷ items) others h = ap (λ (is : List Item). Fail fault ∷ is) (hidden-over observer items others h)
