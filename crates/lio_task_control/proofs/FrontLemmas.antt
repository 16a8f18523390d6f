-- What comes first at a place, by the line there.
use Rattle.std.specs.Prelude.{slice_get, Option, Some, None}
use Rattle.std.proofs.Common.{◌≡◌, ℕ, ◌+◌, true, List, [], ◌∷◌, ◌++◌, refl, ap, sym, subst, ◌∙◌}
use Rattle.lio_syntax_lines.specs.declared.line.Line.{Line}
use Rattle.lio_syntax_lines.specs.declared.line.Operand.{Operand}
use Rattle.lio_syntax_lines.specs.declared.line.Simple.{Simple}
use Rattle.lio_syntax_lines.specs.declared.line.Line.TheVariants as line
use Rattle.lio_syntax.specs.Statements as statement
use Rattle.lio_syntax.specs.OpenBlocks.{accepts}
use Rattle.lio_syntax.specs.Places.{block_of_else, else_at}
use Rattle.lio_syntax.specs.Items.{Item, Do, rest_of}
use Rattle.lio_task_control.specs.Continuation.{items_at}
use Rattle.lio_task_control.specs.Front.{Begins, IsMark, IsChoice, IsLoop, IsGuarded, entered, entered_other}
use Rattle.lio_task_control.specs.Parts.{EndsAll, SettlesAt}
use Rattle.lio_task_control.proofs.BlockLemmas.{choice_at}
use Rattle.lio_task_control.proofs.ItemLemmas.{do_at, while_at, if_at, try_at, catch_at}
use Rattle.lio_task_control.proofs.ExitLemmas.{none_items, proc_items}

pub simple_front : (lines : List Line) (old at : ℕ) (simple : Simple) → accepts [] lines ≡ true → SettlesAt lines old at → slice_get lines at ≡ Some (line.Do simple) → (items : List Item) → Begins (items_at lines old ++ items) (statement.Do simple)
simple_front lines old at simple placed s is items =
    let P : List Item → Type 0 = λ front. Begins (front ++ items) (statement.Do simple) in subst P (sym (do_at lines at simple placed is).items ∙ s.same) refl

pub loop_front : (lines : List Line) (old at : ℕ) (a : Operand) → accepts [] lines ≡ true → SettlesAt lines old at → slice_get lines at ≡ Some (line.While a) → (items : List Item) → IsLoop (items_at lines old ++ items) a
loop_front lines old at a placed s is items =
    let P : List Item → Type 0 = λ front. IsLoop (front ++ items) a in subst P (sym (while_at lines at a placed is).items ∙ s.same) refl

choice_first : (lines : List Line) (a : Operand) (block : ℕ) (other : Option ℕ) (items : List Item) → IsChoice (Do (choice_at lines a block other) ∷ items) a
choice_first lines a block None items = refl
choice_first lines a block (Some other) items = refl

pub choice_front : (lines : List Line) (old at : ℕ) (a : Operand) → accepts [] lines ≡ true → SettlesAt lines old at → slice_get lines at ≡ Some (line.If a) → (items : List Item) → IsChoice (items_at lines old ++ items) a
choice_front lines old at a placed s is items =
    let P : List Item → Type 0 = λ front. IsChoice (front ++ items) a in
    subst P (sym (if_at lines at a placed is).items ∙ s.same) (choice_first lines a (at + 1) (block_of_else (else_at lines at)) _)

pub guarded_front : (lines : List Line) (old at : ℕ) → accepts [] lines ≡ true → SettlesAt lines old at → slice_get lines at ≡ Some line.Try → (items : List Item) → IsGuarded (items_at lines old ++ items)
guarded_front lines old at placed s is items =
    let P : List Item → Type 0 = λ front. IsGuarded (front ++ items) in subst P (sym (try_at lines at placed is).statement.items ∙ s.same) (tt {0})

pub mark_front : (lines : List Line) (old at : ℕ) (x y : List ℕ) → accepts [] lines ≡ true → SettlesAt lines old at → slice_get lines at ≡ Some (line.Catch x y) → (items : List Item) → IsMark (items_at lines old ++ items)
mark_front lines old at x y placed s is items =
    let P : List Item → Type 0 = λ front. IsMark (front ++ items) in subst P (sym (catch_at lines at x y placed is).items ∙ s.same) (tt {0})

-- a line at which nothing comes first
pub no_front : (lines : List Line) (old at : ℕ) (l : Line) → accepts [] lines ≡ true → SettlesAt lines old at → slice_get lines at ≡ Some l
    → ((simple : Simple) → l ≡ line.Do simple → ⊥) → ((a : Operand) → l ≡ line.While a → ⊥) → ((a : Operand) → l ≡ line.If a → ⊥) → (l ≡ line.Try → ⊥) → ((x y : List ℕ) → l ≡ line.Catch x y → ⊥)
    → items_at lines old ≡ []
no_front lines old at (line.Proc name parameters) placed s is not_do not_while not_if not_try not_catch = sym s.same ∙ proc_items lines at name parameters placed is
no_front lines old at (line.If a) placed s is not_do not_while not_if not_try not_catch = absurd (not_if a refl)
no_front lines old at line.Else placed s is not_do not_while not_if not_try not_catch = sym s.same ∙ subst (λ (o : Option Line). EndsAll o (items_at lines at)) is s.ends
no_front lines old at (line.While a) placed s is not_do not_while not_if not_try not_catch = absurd (not_while a refl)
no_front lines old at line.Try placed s is not_do not_while not_if not_try not_catch = absurd (not_try refl)
no_front lines old at (line.Catch x y) placed s is not_do not_while not_if not_try not_catch = absurd (not_catch x y refl)
no_front lines old at line.End placed s is not_do not_while not_if not_try not_catch = sym s.same ∙ subst (λ (o : Option Line). EndsAll o (items_at lines at)) is s.ends
no_front lines old at (line.Do simple) placed s is not_do not_while not_if not_try not_catch = absurd (not_do simple refl)

pub past_front : (lines : List Line) (old at : ℕ) → accepts [] lines ≡ true → SettlesAt lines old at → slice_get lines at ≡ None → items_at lines old ≡ []
past_front lines old at placed s is = sym s.same ∙ none_items lines at placed is

-- what comes first is entered by what comes behind it, where it is no statement with a block
nothing_entered : (items : List Item) → items ≡ [] → rest_of items ≡ entered items
nothing_entered items none = ap rest_of none ∙ sym (ap entered none)

nothing_other : (items : List Item) → items ≡ [] → rest_of items ≡ entered_other items
nothing_other items none = ap rest_of none ∙ sym (ap entered_other none)

pub line_entered : (lines : List Line) (old at : ℕ) (l : Line) → accepts [] lines ≡ true → SettlesAt lines old at → slice_get lines at ≡ Some l
    → ((a : Operand) → l ≡ line.If a → ⊥) → ((a : Operand) → l ≡ line.While a → ⊥) → (l ≡ line.Try → ⊥) → rest_of (items_at lines at) ≡ entered (items_at lines old)
line_entered lines old at (line.Proc name parameters) placed s is not_if not_while not_try = nothing_entered (items_at lines at) (proc_items lines at name parameters placed is) ∙ ap entered s.same
line_entered lines old at (line.If a) placed s is not_if not_while not_try = absurd (not_if a refl)
line_entered lines old at line.Else placed s is not_if not_while not_try = nothing_entered (items_at lines at) (subst (λ (o : Option Line). EndsAll o (items_at lines at)) is s.ends) ∙ ap entered s.same
line_entered lines old at (line.While a) placed s is not_if not_while not_try = absurd (not_while a refl)
line_entered lines old at line.Try placed s is not_if not_while not_try = absurd (not_try refl)
line_entered lines old at (line.Catch x y) placed s is not_if not_while not_try = let m = (catch_at lines at x y placed is).items in ap rest_of m ∙ sym (ap entered m) ∙ ap entered s.same
line_entered lines old at line.End placed s is not_if not_while not_try = nothing_entered (items_at lines at) (subst (λ (o : Option Line). EndsAll o (items_at lines at)) is s.ends) ∙ ap entered s.same
line_entered lines old at (line.Do simple) placed s is not_if not_while not_try = let d = (do_at lines at simple placed is).items in ap rest_of d ∙ sym (ap entered d) ∙ ap entered s.same

pub line_other : (lines : List Line) (old at : ℕ) (l : Line) → accepts [] lines ≡ true → SettlesAt lines old at → slice_get lines at ≡ Some l
    → ((a : Operand) → l ≡ line.If a → ⊥) → rest_of (items_at lines at) ≡ entered_other (items_at lines old)
line_other lines old at (line.Proc name parameters) placed s is not_if = nothing_other (items_at lines at) (proc_items lines at name parameters placed is) ∙ ap entered_other s.same
line_other lines old at (line.If a) placed s is not_if = absurd (not_if a refl)
line_other lines old at line.Else placed s is not_if = nothing_other (items_at lines at) (subst (λ (o : Option Line). EndsAll o (items_at lines at)) is s.ends) ∙ ap entered_other s.same
line_other lines old at (line.While a) placed s is not_if = let w = (while_at lines at a placed is).items in ap rest_of w ∙ sym (ap entered_other w) ∙ ap entered_other s.same
line_other lines old at line.Try placed s is not_if = let t = (try_at lines at placed is).statement.items in ap rest_of t ∙ sym (ap entered_other t) ∙ ap entered_other s.same
line_other lines old at (line.Catch x y) placed s is not_if = let m = (catch_at lines at x y placed is).items in ap rest_of m ∙ sym (ap entered_other m) ∙ ap entered_other s.same
line_other lines old at line.End placed s is not_if = nothing_other (items_at lines at) (subst (λ (o : Option Line). EndsAll o (items_at lines at)) is s.ends) ∙ ap entered_other s.same
line_other lines old at (line.Do simple) placed s is not_if = let d = (do_at lines at simple placed is).items in ap rest_of d ∙ sym (ap entered_other d) ∙ ap entered_other s.same

pub past_entered : (lines : List Line) (old at : ℕ) → accepts [] lines ≡ true → SettlesAt lines old at → slice_get lines at ≡ None → items_at lines at ≡ entered (items_at lines old)
past_entered lines old at placed s is = none_items lines at placed is ∙ sym (ap entered (past_front lines old at placed s is))

pub past_other : (lines : List Line) (old at : ℕ) → accepts [] lines ≡ true → SettlesAt lines old at → slice_get lines at ≡ None → items_at lines at ≡ entered_other (items_at lines old)
past_other lines old at placed s is = none_items lines at placed is ∙ sym (ap entered_other (past_front lines old at placed s is))
