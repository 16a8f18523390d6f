-- From what comes first the code's plan leads on.
use Rattle.std.specs.Prelude.{◌≡◌, List, ◌∷◌}
use Rattle.lio_syntax_lines.specs.declared.line.Simple.{Simple}
use Rattle.lio_syntax.specs.Statements as statement
use Rattle.lio_syntax.specs.Items.{Item, Access, rest_of}
use Rattle.lio_task_control.specs.Front.{AtStatement, Begins, IsBack, IsOwn}
use Rattle.lio_task_plan.specs.declared.plan.Plan.{Plan}
use Rattle.lio_task_plan.specs.declared.plan.Plan.TheVariants as planned
use Rattle.lio_task_plan.specs.declared.plan.Short.{Short}
use Rattle.lio_task_plan.specs.declared.plan.Short.TheVariants as short
use Rattle.lio_task_plan.specs.declared.plan.Full.{Full}
use Rattle.lio_task_plan.specs.declared.plan.Full.TheVariants as full
use Rattle.lio_task_plan.specs.declared.plan.Control.{Control}
use Rattle.lio_task_plan.specs.declared.plan.Control.TheVariants as control

-- what a step of control leads on from
abbrev pub Leads : List Item → Control → Type 0
Leads items control.Pass = IsOwn items
Leads items control.Enter = AtStatement items
Leads items control.EnterOther = AtStatement items
Leads items control.Leave = IsBack items

-- what a short step leads on from
abbrev pub LeadsShort : List Item → Short → Type 0
LeadsShort items (short.Control control) = Leads items control
LeadsShort items (short.Set name value) = AtStatement items

-- what a turn that is planned in full leads on from: that of a statement from the statement, that of an access from the access, and a refused step from any of the two
abbrev pub LeadsFull : List Item → Full → Type 0
LeadsFull items (full.Refused trap) = AtStatement items
LeadsFull items (full.Statement simple) = Begins items (statement.Do simple.now)
LeadsFull items (full.Access simple) = items ≡ Access simple.now ∷ rest_of items

-- what a plan leads on from
abbrev pub LeadsOn : List Item → Plan → Type 0
LeadsOn items planned.Over = Unit {0}
LeadsOn items (planned.Short step) = LeadsShort items step
LeadsOn items (planned.Ends ending) = Unit {0}
LeadsOn items (planned.Full turn) = LeadsFull items turn

-- what the plan of a statement that opens no block leads on from
abbrev pub LeadsFrom : Simple → Plan → Type 0
LeadsFrom simple planned = (items : List Item) → Begins items (statement.Do simple) → LeadsOn items planned
