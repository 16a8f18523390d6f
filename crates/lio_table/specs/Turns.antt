-- What a turn of a task at a table answers, each answer with its cause, and what it makes of the seat's view.
use Rattle.std.specs.Prelude.{◌≡◌, ◌⊎◌, ℕ, ◌+◌, ◌-◌, ◌^◌, ◌<◌, true, false, List, [], ◌∷◌, ◌++◌, length, All, take, Option, Some, None, if◌then◌else◌}
use Rattle.lio_values.specs.declared.act.Act.{Act}
use Rattle.lio_values.specs.declared.entry.Entry.{Entry}
use Rattle.lio_cells.specs.declared.waiter.Waiter.{Waiter}
use Rattle.lio_cells.specs.State.{ready as is_ready}
use Rattle.lio_calculus.specs.Going.{Onward}
use Rattle.lio_calculus.specs.Plan.{Target, Visit, plan}
use Rattle.lio_calculus.specs.Step.{Configuration, can, cell_at, number_of}
use Rattle.lio_calculus.specs.Effect.{entry_in}
use Rattle.lio_task.specs.declared.task.Task.{Task}
use Rattle.lio_task.specs.StateOf.{state_in}
use Rattle.lio_task_turns.specs.StateOf.{program_of}
use Rattle.lio_task.specs.declared.config.Holder.{Holder}
use Rattle.lio_task.specs.Turns.{Stands, ends, looks}
use Rattle.lio_task.specs.Outcome.{born_at}
use Rattle.lio_table.specs.declared.view.Beginning.{Beginning}
use Rattle.lio_table.specs.declared.view.Given.{Given}
use Rattle.lio_table.specs.declared.view.View.{View}
use Rattle.lio_table.specs.Views.{HasLog, rights}
use Rattle.lio_table.specs.Steps.{with_busy}
use Rattle.lio_table.specs.Waits.{waiting_with}
use Rattle.lio_table.specs.declared.turn.TurnEnd.{TurnEnd}
use Rattle.lio_table.specs.declared.turn.TurnEnd.TheVariants.{Moved, Busy, Still}
use Rattle.lio_table.specs.declared.turn.TurnEnd.TheVariants as turn_end

-- a node that was claimed with this holder and given back as it was
abbrev pub returned : ℕ → Holder → Given
returned n holder = record { number = n; log = holder.node.log; waiters = holder.node.waiters; found = holder.node.waiters }

-- a node that was claimed with this holder and given back with the log that it had, at which these wait then
abbrev pub returned_with : ℕ → Holder → List Waiter → Given
returned_with n holder waiters = record { number = n; log = holder.node.log; waiters = waiters; found = holder.node.waiters }

-- a node that was claimed with this holder and given back with an entry more, at which these wait then
abbrev pub grown : ℕ → Holder → Entry → List Waiter → Given
grown n holder entry waiters = record { number = n; log = holder.node.log ++ entry ∷ []; waiters = waiters; found = holder.node.waiters }

-- a view after one node was claimed and given back
abbrev pub with_one : Given → View → View
with_one given view = record view { given = given ∷ take 1 view.given; taken = view.taken + 1 }

-- a view after a task's node and another were claimed and given back, the other first
abbrev pub with_two : Given → Given → View → View
with_two given met view = record view { given = given ∷ met ∷ []; taken = view.taken + 2 }

-- a view after a ticket was drawn for the turn of an entry
abbrev pub with_draw : Entry → View → View
with_draw entry view = record view { drawn = entry ∷ view.drawn; left = view.left - 1 }

-- A holder with which node n was claimed stands in a sound configuration of the table, which has a cell for each node, and its cell there is what its log makes of the node's first.
pub record Found (first : Beginning) (c : Configuration) (n : ℕ) (holder : Holder) : Type 0 where
  pub size : length c.cells ≡ length first.holders
  pub has_log : HasLog first n holder.node.log holder
  pub stands : Stands first.script first.longest c n holder

-- A task that is there plans an act that meets node n.
pub record Meets (first : Beginning) (found : Option Task) (asked : Act) (n : ℕ) : Type 0 where
  pub task : Task
  pub is : found ≡ Some task
  pub target : Target
  pub number : number_of target ≡ n
  pub onward : Onward
  pub plans : plan (program_of first.script first.longest) (state_in first.script task) ≡ Visit asked target onward

-- The entry of task k's turn with a ticket, which is later than all that the seat had drawn and than those in the log with which the task's node was
-- claimed.
pub record IsTurn (c : Configuration) (k ticket : ℕ) (old : View) (log : List Entry) (entry : Entry) : Type 0 where
  pub shown : entry_in c.program (cell_at c) ticket k ≡ Some entry
  pub ticket_is : entry.ticket ≡ ticket
  pub actor : entry.actor ≡ k
  pub later : All (λ before. before.ticket < ticket) old.drawn
  pub logs : All (λ before. before.ticket < ticket) log

-- Task k took a turn that meets no other node: its node alone was claimed, and given back with the turn's entry last in its log. Where the turn is the
-- task's end, who waited at the node is woken.
pub record MovedAlone (k : ℕ) (old : View) (ticket : ℕ) (born : Option ℕ) (woken : List Waiter) (new : View) : Type 0 where
  pub whole : Configuration
  pub holder : Holder
  pub found : Found old.first whole k holder
  pub entry : Entry
  pub turn : IsTurn whole k ticket old holder.node.log entry
  pub target : entry.target ≡ None
  pub born_is : born ≡ None
  pub woken_is : woken ≡ (if ends entry.act then holder.node.waiters else [])
  pub view : new ≡ with_draw entry (with_one (grown k holder entry (if ends entry.act then [] else holder.node.waiters)) old)

-- Task k took a turn that meets node n: both nodes were claimed, and given back with the turn's entry last in their logs. Who waited at n is woken unless
-- the turn only looks at it.
pub record MovedMeeting (k n : ℕ) (old : View) (ticket : ℕ) (born : Option ℕ) (woken : List Waiter) (new : View) : Type 0 where
  pub apart : k ≡ n → ⊥
  pub within : n < length old.first.holders
  pub whole : Configuration
  pub holder : Holder
  pub met : Holder
  pub found : Found old.first whole k holder
  pub met_found : Found old.first whole n met
  pub entry : Entry
  pub turn : IsTurn whole k ticket old holder.node.log entry
  pub target : entry.target ≡ Some n
  pub met_logs : All (λ before. before.ticket < ticket) met.node.log
  pub born_is : born ≡ born_at entry.act (Some n)
  pub woken_is : woken ≡ (if looks entry.act then [] else met.node.waiters)
  pub view : new ≡ with_draw entry (with_two (grown k holder entry holder.node.waiters) (grown n met entry (if looks entry.act then met.node.waiters else [])) old)

-- task k took its turn
abbrev pub HasMoved : ℕ → View → ℕ → Option ℕ → List Waiter → View → Type 0
HasMoved k old ticket born woken new =
    MovedAlone k old ticket born woken new ⊎ ((n : ℕ) × MovedMeeting k n old ticket born woken new)

-- Node n was found taken at a try, which is never told to a seat that has all tickets. The node of task k was claimed before and given back as it was,
-- and the task's next turn meets n.
pub record FoundTargetTaken (k n : ℕ) (old new : View) : Type 0 where
  pub apart : k ≡ n → ⊥
  pub whole : Configuration
  pub holder : Holder
  pub found : Found old.first whole k holder
  pub asked : Act
  pub meets : Meets old.first holder.task asked n
  pub not_alone : rights old ≡ 2 ^ 62 → ⊥
  pub view : new ≡ with_one (returned k holder) (with_busy n old)

-- The node of task k was found taken at a try, which is never told to a seat that has all tickets.
pub record FoundTaken (k : ℕ) (old new : View) : Type 0 where
  pub not_alone : rights old ≡ 2 ^ 62 → ⊥
  pub view : new ≡ with_busy k old

-- node n, which is that of task k or the one that its next turn meets, was found taken
abbrev pub IsBusy : ℕ → ℕ → View → View → Type 0
IsBusy k n old new = ((n ≡ k) × FoundTaken k old new) ⊎ FoundTargetTaken k n old new

-- The next turn of task k meets its own node, which isn't ready for it. The node was given back as it was.
pub record WaitsForItself (k : ℕ) (old new : View) : Type 0 where
  pub whole : Configuration
  pub holder : Holder
  pub found : Found old.first whole k holder
  pub asked : Act
  pub meets : Meets old.first holder.task asked k
  pub unready : is_ready holder.node.state asked ≡ false
  pub still : can whole k ≡ false
  pub view : new ≡ with_one (returned k holder) old

-- The next turn of task k meets node n, which wasn't ready for it while the seat held both. Both were given back with the logs that they had, and task k
-- waits at n from then on.
pub record WaitsFor (k n : ℕ) (old new : View) : Type 0 where
  pub apart : k ≡ n → ⊥
  pub whole : Configuration
  pub holder : Holder
  pub met : Holder
  pub found : Found old.first whole k holder
  pub met_found : Found old.first whole n met
  pub asked : Act
  pub meets : Meets old.first holder.task asked n
  pub unready : is_ready met.node.state asked ≡ false
  pub still : can whole k ≡ false
  pub view : new ≡ with_two (returned k holder) (returned_with n met (waiting_with k asked met.node.waiters)) old

-- task k can't take a turn, as the node that it meets isn't ready
abbrev pub IsStill : ℕ → View → View → Type 0
IsStill k old new = WaitsForItself k old new ⊎ ((n : ℕ) × WaitsFor k n old new)

-- there is no task, or an ended one
abbrev pub IsOver : Option Task → Type 0
IsOver found = (task : Task) → found ≡ Some task → task.ended ≡ true

-- There is no task k, or it has ended. Its node was given back as it was.
pub record HasEnded (k : ℕ) (old new : View) : Type 0 where
  pub whole : Configuration
  pub holder : Holder
  pub found : Found old.first whole k holder
  pub over : IsOver holder.task
  pub still : can whole k ≡ false
  pub view : new ≡ with_one (returned k holder) old

-- the entries of a seat's turns after a turn, the last first: the turn's own has come to them where the turn was taken
abbrev pub drawn_after : TurnEnd → Entry → List Entry → List Entry
drawn_after (Moved ticket born woken) entry drawn = entry ∷ drawn
drawn_after end entry drawn = drawn

-- what a turn of task k answers
abbrev pub TurnSays : ℕ → View → TurnEnd → View → Type 0
TurnSays k old (Moved ticket born woken) new = HasMoved k old ticket born woken new
TurnSays k old (Busy n) new = IsBusy k n old new
TurnSays k old (Still n) new = (n ≡ k) × IsStill k old new
TurnSays k old (turn_end.Over n) new = (n ≡ k) × HasEnded k old new

-- One node was claimed, and given back as it was.
pub record ReturnedOne (k : ℕ) (old new : View) : Type 0 where
  pub holder : Holder
  pub has_log : HasLog old.first k holder.node.log holder
  pub view : new ≡ with_one (returned k holder) old

-- The node of task k and another were claimed, and given back as they were.
pub record ReturnedTwo (k n : ℕ) (old new : View) : Type 0 where
  pub apart : k ≡ n → ⊥
  pub holder : Holder
  pub met : Holder
  pub has_log : HasLog old.first k holder.node.log holder
  pub met_has_log : HasLog old.first n met.node.log met
  pub view : new ≡ with_two (returned k holder) (returned n met) old

-- no ticket was drawn, and at most two nodes were claimed, which were given back as they were
abbrev pub TurnRefused : ℕ → View → View → Type 0
TurnRefused k old new = ((new ≡ old) ⊎ ReturnedOne k old new) ⊎ ((n : ℕ) × ReturnedTwo k n old new)
