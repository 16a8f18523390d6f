-- Turns leave contents pure: those of the calculus, and those of the erased one.
use Rattle.std.proofs.Common.{◌≡◌, refl, sym, subst, ℕ, Bool, true, false, if◌then◌else◌, IsTrue, List, [], ◌∷◌, All, Option, Some, None, true≢false}
use Rattle.std.specs.Prelude.{option_and_then}
use Rattle.std.specs.Option.{option_map}
use Rattle.std.proofs.lemmas.Bool.{and_parts}
use Rattle.std.proofs.lemmas.List.Elements.{All-nil, All-head, All-tail, All-cons, All-map}
use Rattle.lio_labels.specs.declared.label.Label.{Label}
use Rattle.lio_labels.specs.Flow.{flows}
use Rattle.lio_values.specs.declared.fault.FaultKind.{FaultKind}
use Rattle.lio_values.specs.declared.fault.FaultKind.TheVariants.{User}
use Rattle.lio_values.specs.declared.value.Plain.{Plain}
use Rattle.lio_values.specs.declared.value.Plain.TheVariants.{Unit as unit, Flag, Whole, Bytes, Lab, Items}
use Rattle.lio_values.specs.declared.value.Content.{Content}
use Rattle.lio_values.specs.declared.value.Content.TheVariants.{Kept, Faulted, Hidden}
use Rattle.lio_values.specs.declared.value.Value.{Value}
use Rattle.lio_values.specs.declared.value.Value.TheVariants.{Bare}
use Rattle.lio_values.specs.declared.act.Act.{Act}
use Rattle.lio_values.specs.declared.act.Act.TheVariants as act
use Rattle.lio_values.specs.declared.act.Reply.{Reply}
use Rattle.lio_values.specs.declared.act.Reply.TheVariants.{Done, Got, Told, Refused}
use Rattle.lio_values.specs.Forest as forest
use Rattle.lio_values.specs.Forest.{Tree, Inner, Item as ListItem, Forest, Nothing, Then}
use Rattle.lio_values.specs.Measures.{tree_is_pure, item_is_pure, items_are_pure, is_pure}
use Rattle.lio_values.specs.Purity.{IsProblemPure, IsInnerPure, KeepsPureTree, KeepsPureItem, KeepPureItems, KeepsPure, IsContentPure}
use Rattle.lio_values.specs.Views.{tree_of, problem_of, item_of, value_of, values_of, item_of-value_of}
use Rattle.lio_events.specs.Printable.{ActKeepsPure, ReplyKeepsPure}
use Rattle.lio_events.proofs.PrintableLemmas.{value-pure, act-pure, reply-pure}
use Rattle.lio_syntax_lines.specs.declared.line.Operand.{Operand}
use Rattle.lio_syntax_lines.specs.declared.line.Operand.TheVariants.{Name, Literal}
use Rattle.lio_syntax_lines.specs.declared.line.Simple.{Simple}
use Rattle.lio_syntax_lines.specs.Operands.{can_be_said}
use Rattle.lio_syntax.specs.Statements as statement
use Rattle.lio_operators.specs.Laws.{IsSimple}
use Rattle.lio_cells.specs.declared.state.State.{State}
use Rattle.lio_cells.specs.declared.state.State.TheVariants.{Absent, Ref, Var, Chan, Job}
use Rattle.lio_cells.specs.State.{answer}
use Rattle.lio_syntax.specs.Environment.{Environment}
use Rattle.lio_syntax.specs.Hiding.{hide_binding, hide_environment, hide_item}
use Rattle.lio_syntax.specs.Items.{Item, Do, Access, Back}
use Rattle.lio_syntax.specs.Throwing.{payload_of}
use Rattle.lio_calculus.specs.Operands.{bound}
use Rattle.lio_calculus.specs.Task.{TaskState}
use Rattle.lio_calculus.specs.Going.{Onward, Release, Expose, HoldReference, HoldVariable, Fork, released}
use Rattle.lio_calculus.specs.Hiding.{hide_task}
use Rattle.lio_calculus.specs.Plan.{Program, Plan, Over, Own, Visit, plan}
use Rattle.lio_calculus.specs.Step.{Cell, Configuration, blank, cell_at, number_of, is_met, met, Move, move_of, after}
use Rattle.lio_calculus.specs.Erased.{sees, hide_state, hide_cell, erase_cell, erase, Opened, taking_front, opened_release, opened, low_with, low_turn, low}
use Rattle.lio_calculus.specs.Sound.{TreeIsOpen, ItemIsOpen, InnerIsOpen, ItemsAreOpen, IsOpen, EachBound, EachInItem, EachInTask, EachInState}
use Rattle.lio_calculus.specs.Purity.{TurnIsPure, LowTurnIsPure, ContentsArePure, SoundIsPure, ErasedIsPure, TurnKeepsPurity, LowTurnKeepsPurity}
use Rattle.lio_calculus.proofs.Outcome.{Reads, Test, Asks, Outcome}
use Rattle.lio_calculus.proofs.Outcome as out
use Rattle.lio_calculus.proofs.PlanCases.{ItemsCase, Does, Visits, plan-by}
use Rattle.lio_calculus.proofs.SoundLemmas.{value_of-each}
use Rattle.lio_calculus.proofs.Closed.{IsClosed, open-unthrown}
use Rattle.lio_calculus.proofs.ConfigLemmas.{cell_at-erased}
use Rattle.lio_calculus.proofs.PlanEach.{EachInOnward, EachInAct, EachInPlan, FrontHas, plan-each-looked}
use Rattle.lio_calculus.proofs.GoneKept.{EachInReply, EachHandle}
use Rattle.lio_calculus.proofs.SoundAfter.{task-map, state-map}
use Rattle.lio_calculus.proofs.TurnEach.{EachInCell, EachInMove, after-each}
use Rattle.lio_calculus.proofs.TurnParts.{parts, own-moves, visit-moves, over-moves}

-- a pure value has no content
mutual
  pure-tree : (tree : Tree) → IsTrue (tree_is_pure tree) → KeepsPureTree tree
  pure-tree (forest.Items items) pure = pure-items items pure
  pure-tree forest.Unit pure = tt
  pure-tree (forest.Flag flag) pure = tt
  pure-tree (forest.Whole number) pure = tt
  pure-tree (forest.Bytes text) pure = tt
  pure-tree (forest.Lab label) pure = tt
  pure-tree (forest.Power power) pure = tt
  pure-tree (forest.RefOf handle) pure = tt
  pure-tree (forest.VarOf handle) pure = tt
  pure-tree (forest.ResultOf handle) pure = tt
  pure-tree (forest.ChanOf handle) pure = tt

  pure-item : (item : ListItem) → IsTrue (item_is_pure item) → KeepsPureItem item
  pure-item (forest.Bare tree) pure = pure-tree tree pure
  pure-item (forest.Sealed label inner) pure = absurd (true≢false (sym pure))

  pure-items : (items : Forest) → IsTrue (items_are_pure items) → KeepPureItems items
  pure-items Nothing pure = tt
  pure-items (Then item items) pure = let parted = and_parts (item_is_pure item) (items_are_pure items) pure in (pure-item item parted.0, pure-items items parted.1)

-- what turns make of values whose contents are pure
simple-pure : (plain : Plain) → IsSimple plain → KeepsPure (Bare plain)
simple-pure (Flag flag) simple = tt
simple-pure (Whole number) simple = tt
simple-pure (Bytes text) simple = tt
simple-pure (Lab label) simple = tt
simple-pure plain simple = absurd simple

said-pure : (plain : Plain) → IsTrue (can_be_said plain) → KeepsPure (Bare plain)
said-pure unit said = tt
said-pure (Flag flag) said = tt
said-pure (Whole number) said = tt
said-pure (Bytes text) said = tt
said-pure (Lab label) said = tt
said-pure (Items Nothing) said = tt
said-pure plain said = absurd (true≢false (sym said))

each-item : (items : Forest) → KeepPureItems items → All KeepsPure (values_of items)
each-item Nothing pure = All-nil KeepsPure
each-item (Then item items) pure = All-cons KeepsPure (value_of item) (values_of items) (subst KeepsPureItem (sym (item_of-value_of item)) pure.0) (each-item items pure.1)

list-of : (items : Forest) → All KeepsPure (values_of items) → KeepPureItems items
list-of Nothing all = tt
list-of (Then item items) all =
    (subst KeepsPureItem (item_of-value_of item) (All-head KeepsPure (value_of item) (values_of items) all), list-of items (All-tail KeepsPure (value_of item) (values_of items) all))

payload-pure : (kind : FaultKind) → IsProblemPure (problem_of kind) → KeepsPureTree (tree_of (payload_of kind))
payload-pure (User plain) pure = pure-tree (tree_of plain) pure
payload-pure kind pure = tt

pub pure-closed : IsClosed KeepsPure
pure-closed = record {
  said = said-pure;
  simple = simple-pure;
  items = each-item;
  list = list-of;
  seal = λ label plain pure kept. pure;
  unseal = λ label plain pure. pure-tree (tree_of plain) pure;
  again = λ one other content pure. pure;
  payload = λ label fault pure. payload-pure fault.kind pure;
  throws = λ label at plain pure kept. pure;
  unthrown = λ label fault unthrown. open-unthrown fault.kind unthrown;
}

-- a handle has no content
pure-handle : (task : TaskState) (onward : Onward) → EachHandle KeepsPure task onward
pure-handle task (HoldReference name label) = tt
pure-handle task (HoldVariable name label) = tt
pure-handle task (Fork name label cells turns) = tt
pure-handle task onward = tt

-- what operands stand for: literals are pure
abbrev AnyOperand : Operand → Type 0
AnyOperand operand = Unit {0}

looked-pure : (environment : Environment) → EachBound KeepsPure environment → (operand : Operand) (value : Value) → AnyOperand operand → bound environment operand ≡ Some value → KeepsPure value
looked-pure environment each (Name name) value any e = value_of-each KeepsPure environment name value each e
looked-pure environment each (Literal plain) value any e = by (is_pure plain) refl e
  where
    by : (pure : Bool) → is_pure plain ≡ pure → option_map Bare (if pure then Some plain else None) ≡ Some value → KeepsPure value
    by true is f = let same : Bare plain ≡ value = cc in subst KeepsPure same (pure-tree (tree_of plain) is)
    by false is f = absurd (cc)

any-front : (items : List Item) → FrontHas AnyOperand items
any-front (Do (statement.Do simple) ∷ items) = λ k d within. tt
any-front (Access simple ∷ items) = λ k d within. tt
any-front items = tt

pub plan-pure : (program : Program) (task : TaskState) → EachInTask KeepsPure task → EachInPlan KeepsPure (plan program task)
plan-pure program task each = plan-each-looked KeepsPure pure-closed AnyOperand program task (looked-pure task.environment each.environment) each.items (any-front task.items)

-- what a plan releases or exposes is pure, and so is its own reply
abbrev pub ShowsPure : Plan → Type 0
ShowsPure Over = Unit {0}
ShowsPure (Own asked reply onward) = IsContentPure (released asked) × ReplyKeepsPure reply
ShowsPure (Visit asked target onward) = IsContentPure (released asked)

asks-shown : {program : Program} {task : TaskState} {s : Simple} {asked : Act} {test : Test} → Asks program task s asked test → IsContentPure (released asked)
asks-shown (out.Releasing e f g) = tt
asks-shown asks = tt

outcome-shown : {program : Program} {task : TaskState} {s : Simple} {p : Plan} → Outcome program task s p → EachInPlan KeepsPure p → ShowsPure p
outcome-shown (out.Refused asks e) each = (asks-shown asks, each.1)
outcome-shown (out.LacksCells asks) each = (asks-shown asks, each.1)
outcome-shown (out.LacksTurns asks) each = (asks-shown asks, each.1)
outcome-shown (out.Fails1 e f) each = (tt, each.1)
outcome-shown (out.Fails2 e f g) each = (tt, each.1)
outcome-shown (out.Throws e pure) each = (tt, each.1)
outcome-shown (out.Releases asks e f) each = (each.1, tt)
outcome-shown (out.Exposes asks e f) each = (each.1, tt)
outcome-shown (out.MakesReference asks e room) each = tt
outcome-shown (out.MakesVariable asks e room) each = tt
outcome-shown (out.Writes e f g) each = tt
outcome-shown (out.Sends e f g) each = tt
outcome-shown (out.MakesChild asks e f room enough) each = tt
outcome-shown (out.MakesOrphan asks e room enough) each = tt
outcome-shown o each = (tt, tt)

items-shown : {program : Program} {task : TaskState} {items : List Item} {p : Plan} → ItemsCase program task items p → EachInPlan KeepsPure p → ShowsPure p
items-shown (Does o) each = outcome-shown o each
items-shown (Visits (Reads e)) each = tt
items-shown (Visits r) each = tt
items-shown o each = (tt, tt)

pub plan-shown : (program : Program) (task : TaskState) → EachInTask KeepsPure task → ShowsPure (plan program task)
plan-shown program task each = plan-by (λ p. EachInPlan KeepsPure p → ShowsPure p) program task (λ e. tt) (λ e. (tt, tt)) (λ p going o. items-shown o) (plan-pure program task each)

-- what a node answers
pub answer-pure : (state : State) (asked : Act) → EachInState KeepsPure state → ReplyKeepsPure (answer state asked)
unfolding answer
answer-pure (Ref label value) act.Read each = each
answer-pure Absent act.Read each = tt
answer-pure (Var label value) act.Read each = tt
answer-pure (Chan label bytes) act.Read each = tt
answer-pure (Job label result) act.Read each = tt
answer-pure (Var label (Some value)) act.Take each = each
answer-pure (Var label None) act.Take each = tt
answer-pure Absent act.Take each = tt
answer-pure (Ref label value) act.Take each = tt
answer-pure (Chan label bytes) act.Take each = tt
answer-pure (Job label result) act.Take each = tt
answer-pure (Job label (Some content)) act.Wait each = each
answer-pure (Job label None) act.Wait each = tt
answer-pure Absent act.Wait each = tt
answer-pure (Ref label value) act.Wait each = tt
answer-pure (Var label value) act.Wait each = tt
answer-pure (Chan label bytes) act.Wait each = tt
answer-pure state asked each = tt

-- a move
pub record MoveIsPure (move : Move) : Type 0 where
  pub asked : EachInAct KeepsPure move.act
  pub onward : EachInOnward KeepsPure move.act move.onward
  pub shown : IsContentPure (released move.act)
  pub reply : ReplyKeepsPure move.reply

move-pure : (c : Configuration) (p : Plan) (move : Move) → ((n : ℕ) → EachInState KeepsPure (cell_at c n).state) → EachInPlan KeepsPure p → ShowsPure p → move_of (cell_at c) p ≡ Some move → MoveIsPure move
move-pure c Over move nodes each shows moves = absurd (over-moves c move moves)
move-pure c (Own asked reply onward) move nodes each shows moves =
    subst MoveIsPure (own-moves c asked reply onward move moves) (record { asked = each.0; onward = each.1; shown = shows.0; reply = shows.1 })
move-pure c (Visit asked target onward) move nodes each shows moves =
    subst MoveIsPure (visit-moves c asked target onward move moves) (record {
      asked = each.0;
      onward = each.1;
      shown = shows;
      reply = answer-pure (met target (cell_at c (number_of target)).state) asked (by (is_met target (cell_at c (number_of target)).state) (nodes (number_of target)));
    })
  where
    by : (b : Bool) → EachInState KeepsPure (cell_at c (number_of target)).state → EachInState KeepsPure (if b then (cell_at c (number_of target)).state else Absent)
    by true holds = holds
    by false holds = tt

told-each : (reply : Reply) → ReplyKeepsPure reply → EachInReply KeepsPure reply
told-each (Got value) pure = pure
told-each (Told content) pure = λ label. pure
told-each Done pure = tt
told-each (Refused fault) pure = tt

move-values : (move : Move) → MoveIsPure move → EachInMove KeepsPure move
move-values move m = record { asked = m.asked; onward = m.onward; reply = told-each move.reply m.reply }

-- what an entry shows of an act
act-shown : (label : Label) (asked : Act) → EachInAct KeepsPure asked → IsContentPure (released asked) → ActKeepsPure asked
act-shown label (act.Release source target power content) each shown = shown
act-shown label (act.Expose source target power content) each shown = shown
act-shown label (act.NewRef l value) each shown = each
act-shown label (act.NewVar l None) each shown = tt
act-shown label (act.NewVar l (Some value)) each shown = each
act-shown label (act.Fork birth) each shown = each
act-shown label (act.Spawn birth) each shown = each
act-shown label (act.Write value) each shown = each
act-shown label (act.Put value) each shown = each
act-shown label (act.Ended content) each shown = each label
act-shown label asked each shown = tt

-- a turn
cells-pure : (c : Configuration) → ContentsArePure c → (n : ℕ) → EachInCell KeepsPure (cell_at c n)
cells-pure c pure n = record { state = pure.nodes n; task = pure.tasks n }

after-pure : (c : Configuration) (k : ℕ) (task : TaskState) (move : Move) → ContentsArePure c → EachInTask KeepsPure task → MoveIsPure move → (n : ℕ) → EachInCell KeepsPure (cell_at (after c k task move) n)
after-pure c k task move pure mine m = after-each KeepsPure pure-closed pure-handle c k task move (cells-pure c pure) mine (move-values move m)

pub after_is_pure : (c : Configuration) (k : ℕ) (task : TaskState) (move : Move) → ContentsArePure c → EachInTask KeepsPure task → MoveIsPure move → ContentsArePure (after c k task move)
after_is_pure c k task move pure mine m =
    let cells : (n : ℕ) → EachInCell KeepsPure (cell_at (after c k task move) n) = after-pure c k task move pure mine m in
    record { tasks = λ n x is. (cells n).task x is; nodes = λ n. (cells n).state }

pub turn_keeps_purity : TurnKeepsPurity
turn_keeps_purity ticket c k turn pure steps =
    let p = parts ticket c k turn steps in
    let mine : EachInTask KeepsPure p.task = pure.tasks k p.task p.is in
    let m : MoveIsPure p.move = move-pure c (plan c.program p.task) p.move pure.nodes (plan-pure c.program p.task mine) (plan-shown c.program p.task mine) p.moves in
    subst TurnIsPure p.made (record {
      entry = record { act = act-shown p.task.label p.move.act m.asked m.shown; reply = m.reply };
      next = after_is_pure c k p.task p.move pure mine m;
    })

-- ---- what an observer sees

environment-seen : (observer : Label) (environment : Environment) → EachBound KeepsPure environment → EachBound KeepsPure (hide_environment observer environment)
environment-seen observer environment each = All-map (λ binding. KeepsPure binding.value) (hide_binding observer) environment (λ k d within. value-pure observer _ (each k d within))

item-seen : (observer : Label) (item : Item) → EachInItem KeepsPure item → EachInItem KeepsPure (hide_item observer item)
item-seen observer (Back caller name) each = environment-seen observer caller each
item-seen observer item each = each

task-seen : (observer : Label) (task : TaskState) → EachInTask KeepsPure task → EachInTask KeepsPure (hide_task observer task)
task-seen observer task each = record {
  environment = environment-seen observer task.environment each.environment;
  items = All-map (EachInItem KeepsPure) (hide_item observer) task.items (λ k d within. item-seen observer _ (each.items k d within));
}

state-seen : (observer : Label) (state : State) → EachInState KeepsPure state → EachInState KeepsPure (hide_state observer state)
state-seen observer Absent each = tt
state-seen observer (Ref label value) each = value-pure observer value each
state-seen observer (Var label None) each = tt
state-seen observer (Var label (Some value)) each = value-pure observer value each
state-seen observer (Chan label received) each = tt
state-seen observer (Job label None) each = tt
state-seen observer (Job label (Some content)) each = each

cell-seen : (observer : Label) (cell : Cell) → EachInCell KeepsPure cell → EachInCell KeepsPure (erase_cell observer cell)
unfolding erase_cell
cell-seen observer cell each = by (sees observer cell)
  where
    hidden : (t : Option TaskState) → ((x : TaskState) → t ≡ Some x → EachInTask KeepsPure x) → (x : TaskState) → option_map (hide_task observer) t ≡ Some x → EachInTask KeepsPure x
    hidden None before x e = absurd (cc)
    hidden (Some task) before x e = let is : hide_task observer task ≡ x = cc in subst (EachInTask KeepsPure) is (task-seen observer task (before task refl))

    by : (b : Bool) → EachInCell KeepsPure (if b then hide_cell observer cell else blank)
    by true = record { state = state-seen observer cell.state each.state; task = hidden cell.task each.task }
    by false = record { state = tt; task = λ x e. absurd (cc) }

seen-pure : (observer : Label) (c : Configuration) → ((n : ℕ) → EachInCell KeepsPure (cell_at c n)) → (n : ℕ) → EachInCell KeepsPure (cell_at (erase observer c) n)
seen-pure observer c each n = subst (EachInCell KeepsPure) (sym (cell_at-erased observer c n)) (cell-seen observer (cell_at c n) (each n))

pub erased_is_pure : ErasedIsPure
erased_is_pure observer c pure =
    let cells : (n : ℕ) → EachInCell KeepsPure (cell_at (erase observer c) n) = seen-pure observer c (cells-pure c pure) in
    record { tasks = λ n x is. (cells n).task x is; nodes = λ n. (cells n).state }

-- ---- a turn of the erased calculus

-- an act with the released contents that are left
record OpenedIsPure (o : Opened) : Type 0 where
  asked : EachInAct KeepsPure o.act
  shown : IsContentPure (released o.act)
  left : All IsContentPure o.left

same-opened : (asked : Act) (contents : List Content) (o : Opened) → EachInAct KeepsPure asked → IsContentPure (released asked) → All IsContentPure contents
    → Some (let same : Opened = record { act = asked; left = contents } in same) ≡ Some o → OpenedIsPure o
same-opened asked contents o each shown all e =
    let same : Opened = record { act = asked; left = contents } in
    let is : same ≡ o = cc in
    subst OpenedIsPure is (record { asked = each; shown = shown; left = all })

-- a release or an exposure, whatever act its content makes
front-opened : (observer target : Label) (into : Content → Act) (hidden : Content) (contents : List Content) (o : Opened)
    → ((content : Content) → IsContentPure content → EachInAct KeepsPure (into content) × IsContentPure (released (into content))) → IsContentPure hidden → All IsContentPure contents
    → opened_release observer (into hidden) target into hidden contents ≡ Some o → OpenedIsPure o
front-opened observer target into Hidden contents o each h all e = by (flows target observer) contents all e
  where
    by : (b : Bool) (rest : List Content) → All IsContentPure rest → (if b then taking_front (into Hidden) into rest else Some (record { act = into Hidden; left = rest })) ≡ Some o → OpenedIsPure o
    by true [] rest e = absurd (cc)
    by true (content ∷ rest) all e = let p = each content (All-head IsContentPure content rest all) in same-opened (into content) rest o p.0 p.1 (All-tail IsContentPure content rest all) e
    by false rest all e = let p = each Hidden h in same-opened (into Hidden) rest o p.0 p.1 all e
front-opened observer target into (Kept plain) contents o each h all e = let p = each (Kept plain) h in same-opened (into (Kept plain)) contents o p.0 p.1 all e
front-opened observer target into (Faulted fault) contents o each h all e = let p = each (Faulted fault) h in same-opened (into (Faulted fault)) contents o p.0 p.1 all e

opened-pure : (observer : Label) (asked : Act) (reply : Reply) (contents : List Content) (o : Opened) → EachInAct KeepsPure asked → IsContentPure (released asked) → All IsContentPure contents
    → opened observer asked reply contents ≡ Some o → OpenedIsPure o
unfolding opened
opened-pure observer (act.Release source target power content) Done contents o each shown all e =
    front-opened observer target (act.Release source target power) content contents o (λ c pure. (tt, pure)) shown all e
opened-pure observer (act.Release source target power content) (Got value) contents o each shown all e = same-opened (act.Release source target power content) contents o each shown all e
opened-pure observer (act.Release source target power content) (Told told) contents o each shown all e = same-opened (act.Release source target power content) contents o each shown all e
opened-pure observer (act.Release source target power content) (Refused fault) contents o each shown all e = same-opened (act.Release source target power content) contents o each shown all e
opened-pure observer (act.Expose source target power content) Done contents o each shown all e =
    front-opened observer target (act.Expose source target power) content contents o (λ c pure. (tt, pure)) shown all e
opened-pure observer (act.Expose source target power content) (Got value) contents o each shown all e = same-opened (act.Expose source target power content) contents o each shown all e
opened-pure observer (act.Expose source target power content) (Told told) contents o each shown all e = same-opened (act.Expose source target power content) contents o each shown all e
opened-pure observer (act.Expose source target power content) (Refused fault) contents o each shown all e = same-opened (act.Expose source target power content) contents o each shown all e
opened-pure observer asked reply contents o each shown all e = same-opened asked contents o each shown all e

-- the way of going on, by another act whose content is pure
pub onward-opened : (asked seen : Act) (onward : Onward) → EachInOnward KeepsPure asked onward → IsContentPure (released seen) → EachInOnward KeepsPure seen onward
onward-opened asked seen (Release name label) each shown = shown
onward-opened asked seen (Expose name label) each shown = shown
onward-opened asked seen onward each shown = each

pub low_turn_keeps_purity : LowTurnKeepsPurity
unfolding low
low_turn_keeps_purity observer ticket c k contents turn pure all steps = by (cell_at c k).task refl steps
  where
    made : (task : TaskState) (move : Move) (o : Opened) → EachInTask KeepsPure task → MoveIsPure move → OpenedIsPure o → LowTurnIsPure (low_with observer ticket c k task move o)
    made task move o t m opens =
        let seen : Move = record move { act = o.act } in
        let shown : MoveIsPure seen = record { asked = opens.asked; onward = onward-opened move.act o.act move.onward m.onward opens.shown; shown = opens.shown; reply = m.reply } in
        let cells : (n : ℕ) → EachInCell KeepsPure (cell_at (erase observer (after c k task seen)) n) = seen-pure observer (after c k task seen) (after-pure c k task seen pure t shown) in
        record {
          entry = record { act = act-pure observer o.act (act-shown task.label o.act opens.asked opens.shown); reply = reply-pure observer move.reply m.reply };
          next = record { tasks = λ n x is. (cells n).task x is; nodes = λ n. (cells n).state };
          left = opens.left;
        }

    opens : (task : TaskState) (move : Move) → EachInTask KeepsPure task → MoveIsPure move → (o : Option Opened) → opened observer move.act move.reply contents ≡ o → option_map (low_with observer ticket c k task move) o ≡ Some turn → LowTurnIsPure turn
    opens task move t m None is e = absurd (cc)
    opens task move t m (Some o) is e =
        let same : low_with observer ticket c k task move o ≡ turn = cc in
        subst LowTurnIsPure same (made task move o t m (opened-pure observer move.act move.reply contents o m.asked m.shown all is))

    moves : (task : TaskState) → EachInTask KeepsPure task → (m : Option Move) → move_of (cell_at c) (plan c.program task) ≡ m
        → option_and_then (λ move. option_map (low_with observer ticket c k task move) (opened observer move.act move.reply contents)) m ≡ Some turn → LowTurnIsPure turn
    moves task t None is e = absurd (cc)
    moves task t (Some move) is e =
        opens task move t (move-pure c (plan c.program task) move pure.nodes (plan-pure c.program task t) (plan-shown c.program task t) is) (opened observer move.act move.reply contents) refl e

    by : (t : Option TaskState) → (cell_at c k).task ≡ t → option_and_then (low_turn observer ticket c k contents) t ≡ Some turn → LowTurnIsPure turn
    by None is e = absurd (cc)
    by (Some task) is e = moves task (pure.tasks k task is) (move_of (cell_at c) (plan c.program task)) refl e

-- ---- a sound configuration

pub open-inner : (inner : Inner) → InnerIsOpen inner → IsInnerPure inner
open-inner (forest.Kept tree) pure = pure
open-inner (forest.Faulted problem at) pure = pure
open-inner forest.Hidden shown = absurd shown

mutual
  open-tree : (tree : Tree) → TreeIsOpen tree → KeepsPureTree tree
  open-tree (forest.Items items) shown = open-items items shown
  open-tree forest.Unit shown = tt
  open-tree (forest.Flag flag) shown = tt
  open-tree (forest.Whole number) shown = tt
  open-tree (forest.Bytes text) shown = tt
  open-tree (forest.Lab label) shown = tt
  open-tree (forest.Power power) shown = tt
  open-tree (forest.RefOf handle) shown = tt
  open-tree (forest.VarOf handle) shown = tt
  open-tree (forest.ResultOf handle) shown = tt
  open-tree (forest.ChanOf handle) shown = tt

  open-item : (item : ListItem) → ItemIsOpen item → KeepsPureItem item
  open-item (forest.Bare tree) shown = open-tree tree shown
  open-item (forest.Sealed label inner) shown = open-inner inner shown

  open-items : (items : Forest) → ItemsAreOpen items → KeepPureItems items
  open-items Nothing shown = tt
  open-items (Then item items) shown = (open-item item shown.0, open-items items shown.1)

pub open-pure : (value : Value) → IsOpen value → KeepsPure value
open-pure value shown = open-item (item_of value) shown

pub sound_is_pure : SoundIsPure
sound_is_pure c sound = record {
  tasks = λ k task is. task-map IsOpen KeepsPure open-pure task (sound.shown k task is);
  nodes = λ n. state-map IsOpen KeepsPure open-pure (cell_at c n).state (sound.node_shown n);
}
