-- Each principal in a task has a name after its turn, where each had one before and each in the act and in the reply has one.
use Rattle.std.proofs.Common.{ℕ, ◌-◌, pos, List, [], ◌∷◌, All}
use Rattle.std.proofs.lemmas.List.Elements.{All-nil, All-head, All-tail, All-cons}
use Rattle.lio_values.specs.declared.fault.Fault.{Fault}
use Rattle.lio_values.specs.declared.fault.FaultKind.{FaultKind}
use Rattle.lio_values.specs.declared.fault.FaultKind.TheVariants.{User}
use Rattle.lio_values.specs.declared.value.Plain.TheVariants.{Unit as unit, Whole}
use Rattle.lio_values.specs.declared.value.Content.{Content}
use Rattle.lio_values.specs.declared.value.Content.TheVariants.{Kept, Faulted, Hidden}
use Rattle.lio_values.specs.declared.value.Value.{Value}
use Rattle.lio_values.specs.declared.value.Value.TheVariants.{Bare, Sealed}
use Rattle.lio_values.specs.declared.act.Act.{Act}
use Rattle.lio_values.specs.declared.act.Act.TheVariants as act
use Rattle.lio_values.specs.declared.act.Reply.{Reply}
use Rattle.lio_values.specs.declared.act.Reply.TheVariants.{Got, Told}
use Rattle.lio_values.specs.PlainText.{IsPlainNamed}
use Rattle.lio_values.specs.Named.{IsKindNamed, IsFaultNamed, IsContentNamed, IsValueNamed}
use Rattle.lio_events.specs.Printable.{IsActNamed, IsReplyNamed}
use Rattle.lio_syntax.specs.Statements.{Statements, Nothing, Then, While}
use Rattle.lio_syntax.specs.Environment.{Environment, bind}
use Rattle.lio_syntax.specs.Items.{Item, Do, Access, Mark, Back, Fail, enter, rest_of}
use Rattle.lio_syntax.specs.Throwing.{code_of, payload_of, thrown, returned}
use Rattle.lio_calculus.specs.Task.{TaskState}
use Rattle.lio_calculus.specs.Going.{Onward, Bind, Seal, Enter, Repeat, Try, Call, Return, Leave, Raise, RaiseTo, Unlabel, Lower, Release, Expose, HoldReference, HoldVariable, Fork, BindReply, Throw, End, released, given, throwing, gone, gone_on}
use Rattle.lio_calculus.specs.Sound.{EachBound}
use Rattle.lio_calculus.proofs.PlanEach.{bind-each}
use Rattle.lio_calculus.proofs.PlacesKept.{rest-all, thrown-all, returned-all}
use Rattle.lio_calculus_runs.specs.Script.{IsStatementNamed, IsBlockNamed}
use Rattle.lio_calculus_runs.specs.Configuration.{IsItemNamed, IsTaskNamed}
use Rattle.lio_calculus_runs.proofs.NamedPlans.{IsOnwardNamed}

-- a block in front of other items
pub enter_named : (names : List (List ℕ)) (block : Statements) (items : List Item) → IsBlockNamed names block → All (IsItemNamed names) items → All (IsItemNamed names) (enter block items)
unfolding enter IsBlockNamed
enter_named names Nothing items said all = all
enter_named names (Then s block) items said all = All-cons (IsItemNamed names) (Do s) (enter block items) said.0 (enter_named names block items said.1 all)

-- what is thrown, as a handler sees it
payload_named : (names : List (List ℕ)) (kind : FaultKind) → IsKindNamed names kind → IsPlainNamed names (payload_of kind)
payload_named names (User plain) k = k
payload_named names kind k = tt

thrown_named : (names : List (List ℕ)) (fault : Fault) (environment : Environment) (items : List Item) → IsFaultNamed names fault → EachBound (IsValueNamed names) environment → All (IsItemNamed names) items
    → EachBound (IsValueNamed names) (thrown fault environment items).environment
unfolding thrown
thrown_named names fault environment [] f each all = each
thrown_named names fault environment (Mark code payload handler ∷ items) f each all =
    bind-each (IsValueNamed names) _ payload _ (bind-each (IsValueNamed names) environment code (Bare (Whole (pos (code_of fault.kind)))) each tt) (payload_named names fault.kind f.0)
thrown_named names fault environment (Back caller name ∷ items) f each all =
    thrown_named names fault caller items f (All-head (IsItemNamed names) (Back caller name) items all) (All-tail (IsItemNamed names) (Back caller name) items all)
thrown_named names fault environment (Do s ∷ items) f each all = thrown_named names fault environment items f each (All-tail (IsItemNamed names) (Do s) items all)
thrown_named names fault environment (Access s ∷ items) f each all = thrown_named names fault environment items f each (All-tail (IsItemNamed names) (Access s) items all)
thrown_named names fault environment (Fail before ∷ items) f each all = thrown_named names fault environment items f each (All-tail (IsItemNamed names) (Fail before) items all)

returned_named : (names : List (List ℕ)) (value : Value) (environment : Environment) (items : List Item) → IsValueNamed names value → EachBound (IsValueNamed names) environment → All (IsItemNamed names) items
    → EachBound (IsValueNamed names) (returned value environment items).environment
unfolding returned
returned_named names value environment [] v each all = each
returned_named names value environment (Back caller name ∷ items) v each all = bind-each (IsValueNamed names) caller name value (All-head (IsItemNamed names) (Back caller name) items all) v
returned_named names value environment (Do s ∷ items) v each all = returned_named names value environment items v each (All-tail (IsItemNamed names) (Do s) items all)
returned_named names value environment (Access s ∷ items) v each all = returned_named names value environment items v each (All-tail (IsItemNamed names) (Access s) items all)
returned_named names value environment (Mark code payload handler ∷ items) v each all = returned_named names value environment items v each (All-tail (IsItemNamed names) (Mark code payload handler) items all)
returned_named names value environment (Fail fault ∷ items) v each all = returned_named names value environment items v each (All-tail (IsItemNamed names) (Fail fault) items all)

-- a task with another environment, and with other items
bound_to : (names : List (List ℕ)) (task : TaskState) (environment : Environment) → IsTaskNamed names task → EachBound (IsValueNamed names) environment → IsTaskNamed names (record task { environment = environment })
bound_to names task environment t each = record { environment = each; items = t.items; label = t.label; clearance = t.clearance }

with_items : (names : List (List ℕ)) (task : TaskState) (items : List Item) → IsTaskNamed names task → All (IsItemNamed names) items → IsTaskNamed names (record task { items = items })
with_items names task items t all = record { environment = t.environment; items = all; label = t.label; clearance = t.clearance }

-- a name is bound
binding_named : (names : List (List ℕ)) (task : TaskState) (name : List ℕ) (value : Value) → IsTaskNamed names task → IsValueNamed names value → IsTaskNamed names (record task { environment = bind task.environment name value })
binding_named names task name value t v = bound_to names task (bind task.environment name value) t (bind-each (IsValueNamed names) task.environment name value t.environment v)

-- a fault is thrown
throwing_named : (names : List (List ℕ)) (task : TaskState) (fault : Fault) → IsTaskNamed names task → IsFaultNamed names fault → IsTaskNamed names (throwing task fault)
throwing_named names task fault t f = record {
  environment = thrown_named names fault task.environment task.items f t.environment t.items;
  items = thrown-all (IsItemNamed names) fault f (λ code payload handler items mark all. enter_named names handler items mark all) task.environment task.items t.items;
  label = t.label;
  clearance = t.clearance;
}

-- a content is given
given_named : (names : List (List ℕ)) (task : TaskState) (name : List ℕ) (content : Content) → IsTaskNamed names task → IsContentNamed names content → IsTaskNamed names (given task name content)
given_named names task name (Kept plain) t c = binding_named names task name (Bare plain) t c
given_named names task name (Faulted fault) t c = throwing_named names task fault t c
given_named names task name Hidden t c = binding_named names task name (Bare unit) t tt

released_named : (names : List (List ℕ)) (asked : Act) → IsActNamed names asked → IsContentNamed names (released asked)
released_named names (act.Release source target power content) a = a.3
released_named names (act.Expose source target power content) a = a.3
released_named names asked a = tt

-- a task goes on
gone_named : (names : List (List ℕ)) (task : TaskState) (onward : Onward) (asked : Act) (reply : Reply) → IsTaskNamed names task → IsActNamed names asked → IsOnwardNamed names onward → IsReplyNamed names reply → IsTaskNamed names (gone task onward asked reply)
unfolding IsStatementNamed
gone_named names task (Bind name value) asked reply t a o r = binding_named names task name value t o
gone_named names task (Seal name label plain) asked reply t a o r = binding_named names task name (Sealed label (Kept plain)) t o
gone_named names task (Enter block) asked reply t a o r = with_items names task (enter block task.items) t (enter_named names block task.items o t.items)
gone_named names task (Repeat condition block) asked reply t a o r =
    let items : List Item = Do (While condition block) ∷ task.items in
    with_items names task (enter block items) t (enter_named names block items o.1 (All-cons (IsItemNamed names) (Do (While condition block)) task.items (o.0, o.1) t.items))
gone_named names task (Try block code payload handler) asked reply t a o r =
    let items : List Item = Mark code payload handler ∷ task.items in
    with_items names task (enter block items) t (enter_named names block items o.0 (All-cons (IsItemNamed names) (Mark code payload handler) task.items o.1 t.items))
gone_named names task (Call name environment body) asked reply t a o r =
    let items : List Item = Back task.environment name ∷ task.items in
    record { environment = o.0; items = enter_named names body items o.1 (All-cons (IsItemNamed names) (Back task.environment name) task.items t.environment t.items); label = t.label; clearance = t.clearance }
gone_named names task (Return value) asked reply t a o r = record {
  environment = returned_named names value task.environment task.items o t.environment t.items;
  items = returned-all (IsItemNamed names) value task.environment task.items t.items;
  label = t.label;
  clearance = t.clearance;
}
gone_named names task (Leave caller name) asked reply t a o r = bound_to names task (bind caller name (Bare unit)) t (bind-each (IsValueNamed names) caller name (Bare unit) o tt)
gone_named names task (Raise label) asked reply t a o r = record { environment = t.environment; items = t.items; label = o; clearance = t.clearance }
gone_named names task (RaiseTo label access) asked reply t a o r =
    record { environment = t.environment; items = All-cons (IsItemNamed names) (Access access) task.items o.1 t.items; label = o.0; clearance = t.clearance }
gone_named names task (Unlabel name label source content) asked reply t a o r =
    given_named names (record task { label = label }) name content (record { environment = t.environment; items = t.items; label = o.0; clearance = t.clearance }) o.1
gone_named names task (Lower label) asked reply t a o r = record { environment = t.environment; items = t.items; label = t.label; clearance = o }
gone_named names task (Release name label) asked reply t a o r = binding_named names task name (Sealed label (released asked)) t (o, released_named names asked a)
gone_named names task (Expose name label) asked reply t a o r =
    given_named names (record task { label = label }) name (released asked) (record { environment = t.environment; items = t.items; label = o; clearance = t.clearance }) (released_named names asked a)
gone_named names task (HoldReference name label) asked reply t a o r = record { environment = bind-each (IsValueNamed names) task.environment name _ t.environment o; items = t.items; label = t.label; clearance = t.clearance }
gone_named names task (HoldVariable name label) asked reply t a o r = record { environment = bind-each (IsValueNamed names) task.environment name _ t.environment o; items = t.items; label = t.label; clearance = t.clearance }
gone_named names task (Fork name label cells turns) asked reply t a o r = record { environment = bind-each (IsValueNamed names) task.environment name _ t.environment o; items = t.items; label = t.label; clearance = t.clearance }
gone_named names task (BindReply name) asked (Got value) t a o r = binding_named names task name value t r
gone_named names task (BindReply name) asked (Told content) t a o r = given_named names task name content t r
gone_named names task (Throw fault) asked reply t a o r = throwing_named names task fault t o
gone_named names task End asked reply t a o r = record { environment = All-nil _; items = All-nil _; label = t.label; clearance = t.clearance }
gone_named names task onward asked reply t a o r = record { environment = t.environment; items = t.items; label = t.label; clearance = t.clearance }

-- a task after its turn
pub gone_on_named : (names : List (List ℕ)) (task : TaskState) (onward : Onward) (asked : Act) (reply : Reply) → IsTaskNamed names task → IsActNamed names asked → IsOnwardNamed names onward → IsReplyNamed names reply
    → IsTaskNamed names (gone_on task onward asked reply)
unfolding gone_on
gone_on_named names task onward asked reply t a o r =
    gone_named names (record task { items = rest_of task.items; turns = task.turns - 1 }) onward asked reply
    (record { environment = t.environment; items = rest-all (IsItemNamed names) task.items t.items; label = t.label; clearance = t.clearance }) a o r
