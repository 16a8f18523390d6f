-- From what comes first the code's plan leads on.
use Rattle.std.proofs.Common.{◌≡◌, sym, subst, ℕ, List, [], ◌∷◌}
use Rattle.lio_syntax_lines.specs.declared.line.Operand.{Operand}
use Rattle.lio_syntax_lines.specs.declared.line.Simple.{Simple}
use Rattle.lio_syntax.specs.Statements.{Statement, Statements, If, IfElse, While, Try}
use Rattle.lio_syntax.specs.Statements as statement
use Rattle.lio_syntax.specs.Items.{Item, Do, Access, Mark, Back, Fail, rest_of}
use Rattle.lio_task_control.specs.Front.{AtStatement, Begins, IsChoice, IsGuarded, IsLoop, IsMark, IsOwn}
use Rattle.lio_task_plan.specs.declared.plan.Full.{Full}
use Rattle.lio_task_plan.specs.declared.plan.Full.TheVariants as full
use Rattle.lio_task_plan.specs.Leads.{LeadsFull}

pub begins_at : (items : List Item) (statement : Statement) → Begins items statement → AtStatement items
begins_at items statement e = subst AtStatement (sym e) tt

pub access_at : (items : List Item) (simple : Simple) → items ≡ Access simple ∷ rest_of items → AtStatement items
access_at items simple e = subst AtStatement (sym e) tt

pub mark_own : (items : List Item) → IsMark items → IsOwn items
mark_own [] h = absurd h
mark_own (Do s ∷ items) h = absurd h
mark_own (Access s ∷ items) h = absurd h
mark_own (Mark code payload handler ∷ items) h = tt
mark_own (Back caller name ∷ items) h = absurd h
mark_own (Fail fault ∷ items) h = absurd h

pub at_own : (items : List Item) → AtStatement items → IsOwn items
at_own [] h = absurd h
at_own (Do s ∷ items) h = tt
at_own (Access s ∷ items) h = tt
at_own (Mark code payload handler ∷ items) h = absurd h
at_own (Back caller name ∷ items) h = absurd h
at_own (Fail fault ∷ items) h = absurd h

-- by the statement that comes first
pub choice_by : (P : List Item → Type 0) (condition : Operand) → ((block : Statements) (items : List Item) → P (Do (If condition block) ∷ items))
    → ((block other : Statements) (items : List Item) → P (Do (IfElse condition block other) ∷ items)) → (items : List Item) → IsChoice items condition → P items
choice_by P condition one two [] h = absurd h
choice_by P condition one two (Do (statement.Do simple) ∷ items) h = absurd h
choice_by P condition one two (Do (If a block) ∷ items) h = subst (λ (c : Operand). P (Do (If c block) ∷ items)) (sym h) (one block items)
choice_by P condition one two (Do (IfElse a block other) ∷ items) h = subst (λ (c : Operand). P (Do (IfElse c block other) ∷ items)) (sym h) (two block other items)
choice_by P condition one two (Do (While a block) ∷ items) h = absurd h
choice_by P condition one two (Do (Try block code payload handler) ∷ items) h = absurd h
choice_by P condition one two (Access simple ∷ items) h = absurd h
choice_by P condition one two (Mark code payload handler ∷ items) h = absurd h
choice_by P condition one two (Back caller name ∷ items) h = absurd h
choice_by P condition one two (Fail fault ∷ items) h = absurd h

pub loop_by : (P : List Item → Type 0) (condition : Operand) → ((block : Statements) (items : List Item) → P (Do (While condition block) ∷ items)) → (items : List Item) → IsLoop items condition → P items
loop_by P condition one [] h = absurd h
loop_by P condition one (Do (statement.Do simple) ∷ items) h = absurd h
loop_by P condition one (Do (If a block) ∷ items) h = absurd h
loop_by P condition one (Do (IfElse a block other) ∷ items) h = absurd h
loop_by P condition one (Do (While a block) ∷ items) h = subst (λ (c : Operand). P (Do (While c block) ∷ items)) (sym h) (one block items)
loop_by P condition one (Do (Try block code payload handler) ∷ items) h = absurd h
loop_by P condition one (Access simple ∷ items) h = absurd h
loop_by P condition one (Mark code payload handler ∷ items) h = absurd h
loop_by P condition one (Back caller name ∷ items) h = absurd h
loop_by P condition one (Fail fault ∷ items) h = absurd h

pub guarded_by : (P : List Item → Type 0) → ((block handler : Statements) (code payload : List ℕ) (items : List Item) → P (Do (Try block code payload handler) ∷ items)) → (items : List Item) → IsGuarded items → P items
guarded_by P one [] h = absurd h
guarded_by P one (Do (statement.Do simple) ∷ items) h = absurd h
guarded_by P one (Do (If a block) ∷ items) h = absurd h
guarded_by P one (Do (IfElse a block other) ∷ items) h = absurd h
guarded_by P one (Do (While a block) ∷ items) h = absurd h
guarded_by P one (Do (Try block code payload handler) ∷ items) h = one block handler code payload items
guarded_by P one (Access simple ∷ items) h = absurd h
guarded_by P one (Mark code payload handler ∷ items) h = absurd h
guarded_by P one (Back caller name ∷ items) h = absurd h
guarded_by P one (Fail fault ∷ items) h = absurd h

pub choice_at : (items : List Item) (condition : Operand) → IsChoice items condition → AtStatement items
choice_at items condition h = choice_by AtStatement condition (λ block items. tt) (λ block other items. tt) items h

pub loop_at : (items : List Item) (condition : Operand) → IsLoop items condition → AtStatement items
loop_at items condition h = loop_by AtStatement condition (λ block items. tt) items h

pub guarded_at : (items : List Item) → IsGuarded items → AtStatement items
guarded_at items h = guarded_by AtStatement (λ block handler code payload items. tt) items h

-- a turn that is planned in full leads on from a statement or an access
pub full_at : (items : List Item) (turn : Full) → LeadsFull items turn → AtStatement items
full_at items (full.Refused trap) h = h
full_at items (full.Statement simple) h = begins_at items (statement.Do simple.now) h
full_at items (full.Access simple) h = access_at items simple.now h

-- what comes first, as what it leads on from
pub ruleset leads = (at_own, begins_at, access_at, mark_own, choice_at, loop_at, guarded_at)
