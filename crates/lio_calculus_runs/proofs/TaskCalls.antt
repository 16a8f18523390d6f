-- Each call in a task's items fits after its turn, where each did before it and each in the way that it goes on does.
use Rattle.std.proofs.Common.{ℕ, ◌-◌, List, ◌∷◌, All}
use Rattle.std.proofs.lemmas.List.Elements.{All-nil, All-cons}
use Rattle.lio_values.specs.declared.fault.Fault.{Fault}
use Rattle.lio_values.specs.declared.value.Content.{Content}
use Rattle.lio_values.specs.declared.value.Content.TheVariants.{Kept, Faulted, Hidden}
use Rattle.lio_values.specs.declared.act.Act.{Act}
use Rattle.lio_values.specs.declared.act.Reply.{Reply}
use Rattle.lio_values.specs.declared.act.Reply.TheVariants.{Done, Got, Told, Refused}
use Rattle.lio_syntax.specs.Statements.{Statements, Nothing, Then, While, Procedure}
use Rattle.lio_syntax.specs.Items.{Item, Do, Access, Mark, Back, enter, rest_of}
use Rattle.lio_syntax.specs.Throwing.{thrown}
use Rattle.lio_calculus.specs.Task.{TaskState}
use Rattle.lio_calculus.specs.Going.{Onward, Enter, Repeat, Try, Call, Return, RaiseTo, Unlabel, Expose, BindReply, Throw, End, given, released, gone, gone_on}
use Rattle.lio_calculus.proofs.PlacesKept.{rest-all, KeepsHandlers, thrown-all, returned-all}
use Rattle.lio_calculus_runs.specs.Calls.{StatementFits, BlockFits, ItemFits}
use Rattle.lio_calculus_runs.proofs.PlanCalls.{OnwardFits}

-- each call in items fits
abbrev pub ItemsFit : List Procedure → List Item → Type 0
ItemsFit script items = All (ItemFits script) items

-- a block in front of other items
pub enter-fits : (script : List Procedure) (block : Statements) (items : List Item) → BlockFits script block → ItemsFit script items → ItemsFit script (enter block items)
unfolding enter BlockFits
enter-fits script Nothing items fits all = all
enter-fits script (Then s block) items fits all = All-cons (ItemFits script) (Do s) (enter block items) fits.0 (enter-fits script block items fits.1 all)

handlers-fit : (script : List Procedure) → KeepsHandlers (ItemFits script)
handlers-fit script code payload handler items mark all = enter-fits script handler items mark all

throwing-fits : (script : List Procedure) (task : TaskState) (fault : Fault) → ItemsFit script task.items → ItemsFit script (thrown fault task.environment task.items).items
throwing-fits script task fault all = thrown-all (ItemFits script) fault tt (handlers-fit script) task.environment task.items all

given-fits : (script : List Procedure) (task : TaskState) (name : List ℕ) (content : Content) → ItemsFit script task.items → ItemsFit script (given task name content).items
given-fits script task name (Kept plain) all = all
given-fits script task name (Faulted fault) all = throwing-fits script task fault all
given-fits script task name Hidden all = all

gone-fits : (script : List Procedure) (task : TaskState) (onward : Onward) (asked : Act) (reply : Reply) → ItemsFit script task.items → OnwardFits script onward → ItemsFit script (gone task onward asked reply).items
unfolding StatementFits
gone-fits script task (Enter block) asked reply all fits = enter-fits script block task.items fits all
gone-fits script task (Repeat condition block) asked reply all fits =
    enter-fits script block (Do (While condition block) ∷ task.items) fits (All-cons (ItemFits script) (Do (While condition block)) task.items fits all)
gone-fits script task (Try block code payload handler) asked reply all fits =
    enter-fits script block (Mark code payload handler ∷ task.items) fits.0 (All-cons (ItemFits script) (Mark code payload handler) task.items fits.1 all)
gone-fits script task (Call name environment body) asked reply all fits =
    enter-fits script body (Back task.environment name ∷ task.items) fits (All-cons (ItemFits script) (Back task.environment name) task.items tt all)
gone-fits script task (Return value) asked reply all fits = returned-all (ItemFits script) value task.environment task.items all
gone-fits script task (RaiseTo label access) asked reply all fits = All-cons (ItemFits script) (Access access) task.items fits all
gone-fits script task (Unlabel name label source content) asked reply all fits = given-fits script (record task { label = label }) name content all
gone-fits script task (Expose name label) asked reply all fits = given-fits script (record task { label = label }) name (released asked) all
gone-fits script task (BindReply name) asked (Told content) all fits = given-fits script task name content all
gone-fits script task (BindReply name) asked (Got value) all fits = all
gone-fits script task (BindReply name) asked Done all fits = all
gone-fits script task (BindReply name) asked (Refused fault) all fits = all
gone-fits script task (Throw fault) asked reply all fits = throwing-fits script task fault all
gone-fits script task End asked reply all fits = All-nil _
gone-fits script task onward asked reply all fits = all

-- a task after its turn
pub gone_on-fits : (script : List Procedure) (task : TaskState) (onward : Onward) (asked : Act) (reply : Reply) → ItemsFit script task.items → OnwardFits script onward → ItemsFit script (gone_on task onward asked reply).items
unfolding gone_on
gone_on-fits script task onward asked reply all fits =
    gone-fits script (record task { items = rest_of task.items; turns = task.turns - 1 }) onward asked reply (rest-all (ItemFits script) task.items all) fits
