-- Well-formed configurations: what the first configuration of a script has and each turn keeps, part by part (LIO, ICFP 2012).
use Rattle.std.specs.Prelude.{◌≡◌, ℕ, ◌+◌, ◌<◌, ◌≤◌, ◌^◌, Bool, true, ◌&&◌, IsTrue, List, [], ◌∷◌, length, All, Some, None, is_some}
use Rattle.std.specs.List.{list_all}
use Rattle.lio_labels.specs.declared.label.Label.{Label}
use Rattle.lio_labels.specs.Flow.{flows}
use Rattle.lio_values.specs.declared.value.Handle.{Handle}
use Rattle.lio_values.specs.declared.value.Plain.{Plain}
use Rattle.lio_values.specs.declared.fault.FaultKind.{FaultKind}
use Rattle.lio_values.specs.declared.value.Content.{Content}
use Rattle.lio_values.specs.declared.value.Content.TheVariants.{Faulted}
use Rattle.lio_values.specs.declared.value.Value.{Value}
use Rattle.lio_values.specs.declared.value.Value.TheVariants.{Sealed}
use Rattle.lio_values.specs.Forest as forest
use Rattle.lio_values.specs.Forest.{Tree, Problem, Inner, Forest}
use Rattle.lio_values.specs.Measures.{tree_is_pure}
use Rattle.lio_values.specs.Purity.{IsProblemPure}
use Rattle.lio_values.specs.Views.{tree_of, problem_of, inner_of, item_of}
use Rattle.lio_syntax_lines.specs.declared.line.Simple.{Simple}
use Rattle.lio_syntax_lines.specs.declared.line.Simple.TheVariants.{Read, Take, Put, Wait}
use Rattle.lio_syntax_lines.specs.Operands.{is_said}
use Rattle.lio_syntax_lines.specs.Simple.{simple_operands}
use Rattle.lio_syntax.specs.Statements.{Statement, Statements, If, IfElse, While, Try, Nothing, Then}
use Rattle.lio_syntax.specs.Statements as statement
use Rattle.lio_cells.specs.declared.state.State.{State}
use Rattle.lio_cells.specs.declared.state.State.TheVariants.{Absent, Ref, Var, Chan, Job}
use Rattle.lio_cells.specs.State.{Kind, Reference, Variable, Channel, Result, is_job, label_of, result_of}
use Rattle.lio_syntax.specs.Environment.{Environment}
use Rattle.lio_syntax.specs.Items.{Item, Do, Access, Mark, Back, Fail, rest_of, open_calls}
use Rattle.lio_calculus.specs.Operands.{bound, seen_as, reference_of, variable_of, result_of as result_handle}
use Rattle.lio_calculus.specs.Task.{TaskState}
use Rattle.lio_calculus.specs.Step.{Configuration, blank, cell_at, is_named}

-- a handle names a cell of its kind, with its label
abbrev pub Names : Configuration → Kind → Handle → Type 0
Names c kind handle = IsTrue (is_named kind handle (cell_at c handle.number).state)

-- what holds of each handle in a value, in what its contents keep, in what faults carry, and in the items of a list
abbrev mutual
  pub TreeNames : Configuration → Tree → Type 0
  TreeNames c (forest.RefOf handle) = Names c Reference handle
  TreeNames c (forest.VarOf handle) = Names c Variable handle
  TreeNames c (forest.ResultOf handle) = Names c Result handle
  TreeNames c (forest.ChanOf handle) = Names c Channel handle
  TreeNames c (forest.Items items) = ItemsName c items
  TreeNames c forest.Unit = Unit {0}
  TreeNames c (forest.Flag flag) = Unit {0}
  TreeNames c (forest.Whole number) = Unit {0}
  TreeNames c (forest.Bytes text) = Unit {0}
  TreeNames c (forest.Lab label) = Unit {0}
  TreeNames c (forest.Power power) = Unit {0}

  pub ProblemNames : Configuration → Problem → Type 0
  ProblemNames c (forest.User tree) = TreeNames c tree
  ProblemNames c (forest.FlowCurrent current target) = Unit {0}
  ProblemNames c (forest.FlowClearance target clearance) = Unit {0}
  ProblemNames c (forest.FlowRaise raised clearance) = Unit {0}
  ProblemNames c (forest.FlowPrivilege power source target) = Unit {0}
  ProblemNames c forest.BadType = Unit {0}
  ProblemNames c forest.Overflow = Unit {0}
  ProblemNames c forest.DivZero = Unit {0}
  ProblemNames c forest.TooLong = Unit {0}
  ProblemNames c forest.NoTurns = Unit {0}
  ProblemNames c (forest.NoCells asked left) = Unit {0}
  ProblemNames c (forest.ChildTurns asked left) = Unit {0}
  ProblemNames c forest.Depth = Unit {0}
  ProblemNames c (forest.LabelWide left right) = Unit {0}

  pub InnerNames : Configuration → Inner → Type 0
  InnerNames c (forest.Kept tree) = TreeNames c tree
  InnerNames c (forest.Faulted problem at) = ProblemNames c problem
  InnerNames c forest.Hidden = Unit {0}

  pub ItemNames : Configuration → forest.Item → Type 0
  ItemNames c (forest.Bare tree) = TreeNames c tree
  ItemNames c (forest.Sealed label inner) = InnerNames c inner

  pub ItemsName : Configuration → Forest → Type 0
  ItemsName c forest.Nothing = Unit {0}
  ItemsName c (forest.Then item items) = ItemNames c item × ItemsName c items

-- each handle in a plain value names a cell
abbrev pub PlainNames : Configuration → Plain → Type 0
PlainNames c plain = TreeNames c (tree_of plain)

-- so does each in a kind of fault
abbrev pub KindNames : Configuration → FaultKind → Type 0
KindNames c kind = ProblemNames c (problem_of kind)

-- and each in a value, open or sealed
abbrev pub ContentNames : Configuration → Content → Type 0
ContentNames c content = InnerNames c (inner_of content)

abbrev pub ValueNames : Configuration → Value → Type 0
ValueNames c value = ItemNames c (item_of value)

-- no content in a value is hidden, and what a content keeps and a fault carries is pure
abbrev mutual
  pub TreeIsOpen : Tree → Type 0
  TreeIsOpen (forest.Items items) = ItemsAreOpen items
  TreeIsOpen forest.Unit = Unit {0}
  TreeIsOpen (forest.Flag flag) = Unit {0}
  TreeIsOpen (forest.Whole number) = Unit {0}
  TreeIsOpen (forest.Bytes text) = Unit {0}
  TreeIsOpen (forest.Lab label) = Unit {0}
  TreeIsOpen (forest.Power power) = Unit {0}
  TreeIsOpen (forest.RefOf handle) = Unit {0}
  TreeIsOpen (forest.VarOf handle) = Unit {0}
  TreeIsOpen (forest.ResultOf handle) = Unit {0}
  TreeIsOpen (forest.ChanOf handle) = Unit {0}

  pub ItemIsOpen : forest.Item → Type 0
  ItemIsOpen (forest.Bare tree) = TreeIsOpen tree
  ItemIsOpen (forest.Sealed label inner) = InnerIsOpen inner

  pub InnerIsOpen : Inner → Type 0
  InnerIsOpen (forest.Kept tree) = IsTrue (tree_is_pure tree)
  InnerIsOpen (forest.Faulted problem at) = IsProblemPure problem
  InnerIsOpen forest.Hidden = ⊥

  pub ItemsAreOpen : Forest → Type 0
  ItemsAreOpen forest.Nothing = Unit {0}
  ItemsAreOpen (forest.Then item items) = ItemIsOpen item × ItemsAreOpen items

abbrev pub IsOpen : Value → Type 0
IsOpen value = ItemIsOpen (item_of value)

-- a property of each value in an environment, an item, a task, a node; a fault and a result count as sealed
abbrev pub EachBound : (Value → Type 0) → Environment → Type 0
EachBound P environment = All (λ binding. P binding.value) environment

abbrev pub EachInItem : (Value → Type 0) → Item → Type 0
EachInItem P (Back caller name) = EachBound P caller
EachInItem P (Fail fault) = P (Sealed fault.at (Faulted fault))
EachInItem P (Do statement) = Unit {0}
EachInItem P (Access statement) = Unit {0}
EachInItem P (Mark code payload handler) = Unit {0}

pub record EachInTask (P : Value → Type 0) (task : TaskState) : Type 0 where
  pub environment : EachBound P task.environment
  pub items : All (EachInItem P) task.items

abbrev pub EachInState : (Value → Type 0) → State → Type 0
EachInState P Absent = Unit {0}
EachInState P (Ref label value) = P value
EachInState P (Var label None) = Unit {0}
EachInState P (Var label (Some value)) = P value
EachInState P (Chan label received) = Unit {0}
EachInState P (Job label None) = Unit {0}
EachInState P (Job label (Some content)) = P (Sealed label content)

-- whether the literals of statements are values that a script can say: no privilege, and no handle
abbrev pub says : Simple → Bool
says simple = list_all is_said (simple_operands simple)

unfoldable mutual
  pub statement_says : Statement → Bool
  statement_says (statement.Do simple) = says simple
  statement_says (If a block) = is_said a && block_says block
  statement_says (IfElse a block other) = is_said a && (block_says block && block_says other)
  statement_says (While a block) = is_said a && block_says block
  statement_says (Try block code payload handler) = block_says block && block_says handler

  pub block_says : Statements → Bool
  block_says Nothing = true
  block_says (Then statement block) = statement_says statement && block_says block

abbrev pub ItemSays : Item → Type 0
ItemSays (Do statement) = IsTrue (statement_says statement)
ItemSays (Access simple) = IsTrue (says simple)
ItemSays (Mark code payload handler) = IsTrue (block_says handler)
ItemSays (Back caller name) = Unit {0}
ItemSays (Fail fault) = Unit {0}

-- an access whose raise is done: the label of what it meets flows to the task's, and of a variable it is the task's
abbrev pub IsRaised : TaskState → Simple → Type 0
IsRaised task (Read x r) = (handle : Handle) × (seen_as reference_of task.environment r ≡ Some handle) × IsTrue (flows handle.label task.label)
IsRaised task (Take x v) = (handle : Handle) × (seen_as variable_of task.environment v ≡ Some handle) × (handle.label ≡ task.label)
IsRaised task (Put v a) = (handle : Handle) × (seen_as variable_of task.environment v ≡ Some handle) × (handle.label ≡ task.label) × IsTrue (is_some (bound task.environment a))
IsRaised task (Wait x r) = (handle : Handle) × (seen_as result_handle task.environment r ≡ Some handle) × IsTrue (flows handle.label task.label)
IsRaised task simple = ⊥

-- an access stands only in front
abbrev pub FrontIsRaised : TaskState → List Item → Type 0
FrontIsRaised task [] = Unit {0}
FrontIsRaised task (Access simple ∷ items) = IsRaised task simple
FrontIsRaised task (item ∷ items) = Unit {0}

abbrev pub IsNoAccess : Item → Type 0
IsNoAccess (Access simple) = ⊥
IsNoAccess item = Unit {0}

pub record AccessIsRaised (task : TaskState) : Type 0 where
  pub front : FrontIsRaised task task.items
  pub behind : All IsNoAccess (rest_of task.items)

-- the task with a number
abbrev pub IsTaskOf : Configuration → ℕ → TaskState → Type 0
IsTaskOf c k task = (cell_at c k).task ≡ Some task

-- the numbers of a task's range
pub record IsInRange (task : TaskState) (n : ℕ) : Type 0 where
  pub from : task.first ≤ n
  pub below : n < task.first + task.cells

-- A configuration is sound.
pub record IsSound (c : Configuration) : Type 0 where
  -- a job has a task, and nothing else has one
  pub jobs : (k : ℕ) → is_some (cell_at c k).task ≡ is_job (cell_at c k).state
  -- ranges lie in the list, their cells are blank, and no two tasks share a number
  pub ranges : (k : ℕ) (task : TaskState) → IsTaskOf c k task → task.first + task.cells ≤ length c.cells
  pub free : (k n : ℕ) (task : TaskState) → IsTaskOf c k task → IsInRange task n → cell_at c n ≡ blank
  pub apart : (j k n : ℕ) (one other : TaskState) → IsTaskOf c j one → IsTaskOf c k other → IsInRange one n → IsInRange other n → j ≡ k
  -- each handle names a cell
  pub names : (k : ℕ) (task : TaskState) → IsTaskOf c k task → EachInTask (ValueNames c) task
  pub node_names : (n : ℕ) → EachInState (ValueNames c) (cell_at c n).state
  -- a task's label flows to its clearance, and its clearance to the label of its result
  pub clearance : (k : ℕ) (task : TaskState) → IsTaskOf c k task → IsTrue (flows task.label task.clearance)
  pub result : (k : ℕ) (task : TaskState) (label : Label) → IsTaskOf c k task → label_of (cell_at c k).state ≡ Some label → IsTrue (flows task.clearance label)
  -- a task has ended exactly where its job has a result
  pub ended : (k : ℕ) (task : TaskState) → IsTaskOf c k task → is_some (result_of (cell_at c k).state) ≡ task.ended
  -- an access stands only in front, and its raise is done
  pub accesses : (k : ℕ) (task : TaskState) → IsTaskOf c k task → AccessIsRaised task
  -- literals are values that a script can say, and at most 64 calls are open
  pub literals : (k : ℕ) (task : TaskState) → IsTaskOf c k task → All ItemSays task.items
  pub calls : (k : ℕ) (task : TaskState) → IsTaskOf c k task → open_calls task.items ≤ 64
  pub program : All (λ procedure. IsTrue (block_says procedure.body)) c.program.procedures
  -- no content is hidden, and what a content keeps and a fault carries is pure
  pub shown : (k : ℕ) (task : TaskState) → IsTaskOf c k task → EachInTask IsOpen task
  pub node_shown : (n : ℕ) → EachInState IsOpen (cell_at c n).state
  -- numbers have 31 bits
  pub few : length c.cells < 2 ^ 31
