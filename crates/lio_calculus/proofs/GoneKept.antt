-- What a task keeps as it goes on.
use Rattle.std.proofs.Common.{◌≡◌, ◌∙◌, refl, subst, ℕ, ◌+◌, ◌-◌, ◌<◌, ◌≤◌, Bool, true, false, ◌&&◌, IsTrue, List, ◌∷◌, All, arith}
use Rattle.std.proofs.lemmas.List.Elements.{All-nil, All-head, All-cons}
use Rattle.lio_labels.specs.declared.label.Label.{Label}
use Rattle.lio_values.specs.declared.fault.Fault.{Fault}
use Rattle.lio_values.specs.declared.value.Plain.TheVariants.{Unit as unit, RefOf, VarOf, ResultOf}
use Rattle.lio_values.specs.declared.value.Content.{Content}
use Rattle.lio_values.specs.declared.value.Content.TheVariants.{Kept as kept_content, Faulted, Hidden}
use Rattle.lio_values.specs.declared.value.Value.{Value}
use Rattle.lio_values.specs.declared.value.Value.TheVariants.{Bare, Sealed}
use Rattle.lio_values.specs.declared.act.Act.{Act}
use Rattle.lio_values.specs.declared.act.Reply.{Reply}
use Rattle.lio_values.specs.declared.act.Reply.TheVariants.{Done, Got, Told, Refused}
use Rattle.lio_syntax.specs.Statements.{While}
use Rattle.lio_syntax.specs.Environment.{Environment}
use Rattle.lio_syntax.specs.Items.{Item, Do, Access, Mark, Back, Fail, open_calls}
use Rattle.lio_syntax.specs.Throwing.{thrown}
use Rattle.lio_calculus.specs.Task.{TaskState}
use Rattle.lio_calculus.specs.Going.{Onward, Bind, Seal, Enter, Repeat, Try, Call, Return, Leave, RaiseTo, Unlabel, Release, Expose, HoldReference, HoldVariable, Fork, Spawn, BindReply, Throw, End, released, given, newest, gone}
use Rattle.lio_calculus.specs.Guarded.{label_after}
use Rattle.lio_calculus.specs.Sound.{EachBound, EachInItem, EachInTask, ItemSays, IsRaised, IsNoAccess, FrontIsRaised, AccessIsRaised, statement_says}
use Rattle.lio_calculus.proofs.Closed.{IsClosed}
use Rattle.lio_calculus.proofs.PlanEach.{EachInOnward, bind-each}
use Rattle.lio_calculus.proofs.PlanKept.{Suits, clearance_after, is_end}
use Rattle.lio_calculus.proofs.PlacesKept.{enter-all, enter-says, enter-calls, rest-all, KeepsHandlers, thrown-all, thrown-bound, thrown-calls, returned-all, returned-bound, returned-calls}

-- a property of the values in a reply, and of the handle that a task gets
abbrev pub EachInReply : (Value → Type 0) → Reply → Type 0
EachInReply P (Got value) = P value
EachInReply P (Told content) = (label : Label) → P (Sealed label content)
EachInReply P Done = Unit {0}
EachInReply P (Refused fault) = Unit {0}

abbrev pub EachHandle : (Value → Type 0) → TaskState → Onward → Type 0
EachHandle P task (HoldReference name label) = P (Bare (RefOf (newest task label)))
EachHandle P task (HoldVariable name label) = P (Bare (VarOf (newest task label)))
EachHandle P task (Fork name label cells turns) = P (Bare (ResultOf (newest task label)))
EachHandle P task onward = Unit {0}

items-free : (P : Value → Type 0) → KeepsHandlers (EachInItem P)
items-free P code payload handler items mark all = enter-all (EachInItem P) (λ s. tt) handler items all

throwing-each : (P : Value → Type 0) → IsClosed P → (fault : Fault) (environment : Environment) (items : List Item) → EachBound P environment → All (EachInItem P) items → P (Sealed fault.at (Faulted fault))
    → EachBound P (thrown fault environment items).environment × All (EachInItem P) (thrown fault environment items).items
throwing-each P closed fault environment items each all p = (thrown-bound P closed fault environment items p each all, thrown-all (EachInItem P) fault p (items-free P) environment items all)

given-each : (P : Value → Type 0) → IsClosed P → (task : TaskState) (name : List ℕ) (content : Content) (source : Label) → EachInTask P task → P (Sealed source content) → EachInTask P (given task name content)
given-each P closed task name (kept_content plain) source each p = record { environment = bind-each P task.environment name (Bare plain) each.environment (closed.unseal source plain p); items = each.items }
given-each P closed task name (Faulted fault) source each p =
    let t = throwing-each P closed fault task.environment task.items each.environment each.items (closed.again source fault.at (Faulted fault) p) in record { environment = t.0; items = t.1 }
given-each P closed task name Hidden source each p = record { environment = bind-each P task.environment name (Bare unit) each.environment (closed.said unit refl); items = each.items }

-- the values of a task
pub gone-each : (P : Value → Type 0) → IsClosed P → (task : TaskState) (onward : Onward) (asked : Act) (reply : Reply) → EachInTask P task → EachInOnward P asked onward → EachInReply P reply → EachHandle P task onward → EachInTask P (gone task onward asked reply)
gone-each P closed task (Bind name value) asked reply each p r h = record { environment = bind-each P task.environment name value each.environment p; items = each.items }
gone-each P closed task (Seal name label plain) asked reply each p r h = record { environment = bind-each P task.environment name _ each.environment (closed.seal label plain p.1 p.0); items = each.items }
gone-each P closed task (Enter block) asked reply each p r h = record { environment = each.environment; items = enter-all (EachInItem P) (λ s. tt) block task.items each.items }
gone-each P closed task (Repeat condition block) asked reply each p r h =
    record { environment = each.environment; items = enter-all (EachInItem P) (λ s. tt) block (Do (While condition block) ∷ task.items) (All-cons (EachInItem P) (Do (While condition block)) task.items tt each.items) }
gone-each P closed task (Try block code payload handler) asked reply each p r h =
    record { environment = each.environment; items = enter-all (EachInItem P) (λ s. tt) block (Mark code payload handler ∷ task.items) (All-cons (EachInItem P) (Mark code payload handler) task.items tt each.items) }
gone-each P closed task (Call name environment body) asked reply each p r h =
    record { environment = p; items = enter-all (EachInItem P) (λ s. tt) body (Back task.environment name ∷ task.items) (All-cons (EachInItem P) (Back task.environment name) task.items each.environment each.items) }
gone-each P closed task (Return value) asked reply each p r h =
    record { environment = returned-bound P value task.environment task.items p each.environment each.items; items = returned-all (EachInItem P) value task.environment task.items each.items }
gone-each P closed task (Leave caller name) asked reply each p r h = record { environment = bind-each P caller name (Bare unit) p (closed.said unit refl); items = each.items }
gone-each P closed task (RaiseTo label access) asked reply each p r h = record { environment = each.environment; items = All-cons (EachInItem P) (Access access) task.items tt each.items }
gone-each P closed task (Unlabel name label source content) asked reply each p r h = given-each P closed (record task { label = label }) name content source (record { environment = each.environment; items = each.items }) p
gone-each P closed task (Release name label) asked reply each p r h = record { environment = bind-each P task.environment name (Sealed label (released asked)) each.environment p; items = each.items }
gone-each P closed task (Expose name label) asked reply each p r h = given-each P closed (record task { label = label }) name (released asked) label (record { environment = each.environment; items = each.items }) p
gone-each P closed task (HoldReference name label) asked reply each p r h = record { environment = bind-each P task.environment name _ each.environment h; items = each.items }
gone-each P closed task (HoldVariable name label) asked reply each p r h = record { environment = bind-each P task.environment name _ each.environment h; items = each.items }
gone-each P closed task (Fork name label cells turns) asked reply each p r h = record { environment = bind-each P task.environment name _ each.environment h; items = each.items }
gone-each P closed task (BindReply name) asked (Got value) each p r h = record { environment = bind-each P task.environment name value each.environment r; items = each.items }
gone-each P closed task (BindReply name) asked (Told content) each p r h = given-each P closed task name content task.label each (r task.label)
gone-each P closed task (Throw fault) asked reply each p r h =
    let t = throwing-each P closed fault task.environment task.items each.environment each.items p in record { environment = t.0; items = t.1 }
gone-each P closed task End asked reply each p r h = record { environment = All-nil _; items = All-nil _ }
gone-each P closed task onward asked reply each p r h = record { environment = each.environment; items = each.items }

-- a property of items that statements, calls and faults have anyway
given-items : (Q : Item → Type 0) → ((fault : Fault) → Q (Fail fault)) → KeepsHandlers Q → (task : TaskState) (name : List ℕ) (content : Content) → All Q task.items → All Q (given task name content).items
given-items Q failing handles task name (kept_content plain) all = all
given-items Q failing handles task name (Faulted fault) all = thrown-all Q fault (failing fault) handles task.environment task.items all
given-items Q failing handles task name Hidden all = all

-- literals
says-handlers : KeepsHandlers ItemSays
says-handlers code payload handler items mark all = enter-says handler items mark all

pub gone-says : (before task : TaskState) (onward : Onward) (asked : Act) (reply : Reply) → All ItemSays task.items → Suits before onward → All ItemSays (gone task onward asked reply).items
unfolding statement_says
gone-says before task (Enter block) asked reply all suits = enter-says block task.items suits all
gone-says before task (Repeat condition block) asked reply all suits =
    let again : IsTrue (statement_says (While condition block)) = both_true _ _ suits.0 suits.1 in
    enter-says block (Do (While condition block) ∷ task.items) suits.1 (All-cons ItemSays (Do (While condition block)) task.items again all)
  where
    both_true : (a b : Bool) → a ≡ true → b ≡ true → (a && b) ≡ true
    both_true a b e f = cc
gone-says before task (Try block code payload handler) asked reply all suits = enter-says block (Mark code payload handler ∷ task.items) suits.0 (All-cons ItemSays (Mark code payload handler) task.items suits.1 all)
gone-says before task (Call name environment body) asked reply all suits = enter-says body (Back task.environment name ∷ task.items) suits.0 (All-cons ItemSays (Back task.environment name) task.items tt all)
gone-says before task (Return value) asked reply all suits = returned-all ItemSays value task.environment task.items all
gone-says before task (RaiseTo label access) asked reply all suits = All-cons ItemSays (Access access) task.items suits.1 all
gone-says before task (Unlabel name label source content) asked reply all suits = given-items ItemSays (λ fault. tt) says-handlers (record task { label = label }) name content all
gone-says before task (Expose name label) asked reply all suits = given-items ItemSays (λ fault. tt) says-handlers (record task { label = label }) name (released asked) all
gone-says before task (BindReply name) asked (Told content) all suits = given-items ItemSays (λ fault. tt) says-handlers task name content all
gone-says before task (Throw fault) asked reply all suits = thrown-all ItemSays fault tt says-handlers task.environment task.items all
gone-says before task End asked reply all suits = All-nil _
gone-says before task onward asked reply all suits = all

-- accesses
no_access-handlers : KeepsHandlers IsNoAccess
no_access-handlers code payload handler items mark all = enter-all IsNoAccess (λ s. tt) handler items all

pub none-raised : (task : TaskState) → All IsNoAccess task.items → AccessIsRaised task
none-raised task all = record { front = by task.items all; behind = rest-all IsNoAccess task.items all }
  where
    by : (items : List Item) → All IsNoAccess items → FrontIsRaised task items
    by (Access s ∷ items) none = absurd (All-head IsNoAccess (Access s) items none)
    by items none = tt

pub gone-accesses : (before task : TaskState) (onward : Onward) (asked : Act) (reply : Reply) → before.environment ≡ task.environment → All IsNoAccess task.items → Suits before onward → AccessIsRaised (gone task onward asked reply)
gone-accesses before task (Enter block) asked reply same all suits = none-raised _ (enter-all IsNoAccess (λ s. tt) block task.items all)
gone-accesses before task (Repeat condition block) asked reply same all suits = none-raised _ (enter-all IsNoAccess (λ s. tt) block (Do (While condition block) ∷ task.items) (All-cons IsNoAccess (Do (While condition block)) task.items tt all))
gone-accesses before task (Try block code payload handler) asked reply same all suits = none-raised _ (enter-all IsNoAccess (λ s. tt) block (Mark code payload handler ∷ task.items) (All-cons IsNoAccess (Mark code payload handler) task.items tt all))
gone-accesses before task (Call name environment body) asked reply same all suits = none-raised _ (enter-all IsNoAccess (λ s. tt) body (Back task.environment name ∷ task.items) (All-cons IsNoAccess (Back task.environment name) task.items tt all))
gone-accesses before task (Return value) asked reply same all suits = none-raised _ (returned-all IsNoAccess value task.environment task.items all)
gone-accesses before task (RaiseTo label access) asked reply same all suits =
    record { front = subst (λ (e : Environment). IsRaised (record before { environment = e; label = label }) access) same suits.0; behind = all }
gone-accesses before task (Unlabel name label source content) asked reply same all suits = none-raised _ (given-items IsNoAccess (λ fault. tt) no_access-handlers (record task { label = label }) name content all)
gone-accesses before task (Expose name label) asked reply same all suits = none-raised _ (given-items IsNoAccess (λ fault. tt) no_access-handlers (record task { label = label }) name (released asked) all)
gone-accesses before task (BindReply name) asked (Told content) same all suits = none-raised _ (given-items IsNoAccess (λ fault. tt) no_access-handlers task name content all)
gone-accesses before task (Throw fault) asked reply same all suits = none-raised _ (thrown-all IsNoAccess fault tt no_access-handlers task.environment task.items all)
gone-accesses before task End asked reply same all suits = none-raised _ (All-nil _)
gone-accesses before task onward asked reply same all suits = none-raised _ all

-- open calls
given-calls : (task : TaskState) (name : List ℕ) (content : Content) → open_calls (given task name content).items ≤ open_calls task.items
given-calls task name (kept_content plain) = omega arith
given-calls task name (Faulted fault) = thrown-calls fault task.environment task.items
given-calls task name Hidden = omega arith

pub gone-calls : (before task : TaskState) (onward : Onward) (asked : Act) (reply : Reply) → open_calls task.items ≤ open_calls before.items → open_calls before.items ≤ 64 → Suits before onward → open_calls (gone task onward asked reply).items ≤ 64
unfolding open_calls
gone-calls before task (Enter block) asked reply fewer few suits = omega (arith, enter-calls block task.items)
gone-calls before task (Repeat condition block) asked reply fewer few suits = omega (arith, enter-calls block (Do (While condition block) ∷ task.items))
gone-calls before task (Try block code payload handler) asked reply fewer few suits = omega (arith, enter-calls block (Mark code payload handler ∷ task.items))
gone-calls before task (Call name environment body) asked reply fewer few suits = let room : open_calls before.items < 64 = suits.1 in omega (arith, room, enter-calls body (Back task.environment name ∷ task.items))
gone-calls before task (Return value) asked reply fewer few suits = omega (arith, returned-calls value task.environment task.items)
gone-calls before task (Unlabel name label source content) asked reply fewer few suits = omega (arith, given-calls (record task { label = label }) name content)
gone-calls before task (Expose name label) asked reply fewer few suits = omega (arith, given-calls (record task { label = label }) name (released asked))
gone-calls before task (BindReply name) asked (Told content) fewer few suits = omega (arith, given-calls task name content)
gone-calls before task (Throw fault) asked reply fewer few suits = omega (arith, thrown-calls fault task.environment task.items)
gone-calls before task onward asked reply fewer few suits = omega arith

-- labels
given-labels : (task : TaskState) (name : List ℕ) (content : Content) → ((given task name content).label ≡ task.label) × ((given task name content).clearance ≡ task.clearance) × ((given task name content).first ≡ task.first) × ((given task name content).cells ≡ task.cells) × ((given task name content).ended ≡ task.ended)
given-labels task name (kept_content plain) = (refl, refl, refl, refl, refl)
given-labels task name (Faulted fault) = (refl, refl, refl, refl, refl)
given-labels task name Hidden = (refl, refl, refl, refl, refl)

-- how many numbers a task takes of its range
abbrev pub taken : Onward → ℕ
taken (HoldReference name label) = 1
taken (HoldVariable name label) = 1
taken (Fork name label cells turns) = cells + 1
taken (Spawn cells turns) = cells + 1
taken onward = 0

pub gone-label : (task : TaskState) (onward : Onward) (asked : Act) (reply : Reply) → (gone task onward asked reply).label ≡ label_after onward task.label
gone-label task (Unlabel name label source content) asked reply = (given-labels (record task { label = label }) name content).0
gone-label task (Expose name label) asked reply = (given-labels (record task { label = label }) name (released asked)).0
gone-label task (BindReply name) asked (Told content) = (given-labels task name content).0
gone-label task onward asked reply = refl

pub gone-clearance : (task : TaskState) (onward : Onward) (asked : Act) (reply : Reply) → (gone task onward asked reply).clearance ≡ clearance_after onward task.clearance
gone-clearance task (Unlabel name label source content) asked reply = (given-labels (record task { label = label }) name content).1
gone-clearance task (Expose name label) asked reply = (given-labels (record task { label = label }) name (released asked)).1
gone-clearance task (BindReply name) asked (Told content) = (given-labels task name content).1
gone-clearance task onward asked reply = refl

pub gone-first : (task : TaskState) (onward : Onward) (asked : Act) (reply : Reply) → (gone task onward asked reply).first ≡ task.first + taken onward
gone-first task (Unlabel name label source content) asked reply = omega (arith, (given-labels (record task { label = label }) name content).2)
gone-first task (Expose name label) asked reply = omega (arith, (given-labels (record task { label = label }) name (released asked)).2)
gone-first task (BindReply name) asked (Told content) = omega (arith, (given-labels task name content).2)
gone-first task onward asked reply = omega arith

pub gone-cells : (task : TaskState) (onward : Onward) (asked : Act) (reply : Reply) → (gone task onward asked reply).cells ≡ task.cells - taken onward
gone-cells task (Unlabel name label source content) asked reply = omega (arith, (given-labels (record task { label = label }) name content).3)
gone-cells task (Expose name label) asked reply = omega (arith, (given-labels (record task { label = label }) name (released asked)).3)
gone-cells task (BindReply name) asked (Told content) = omega (arith, (given-labels task name content).3)
gone-cells task onward asked reply = omega arith

pub gone-ended : (task : TaskState) (onward : Onward) (asked : Act) (reply : Reply) → task.ended ≡ false → (gone task onward asked reply).ended ≡ is_end onward
gone-ended task (Unlabel name label source content) asked reply going = (given-labels (record task { label = label }) name content).4 ∙ going
gone-ended task (Expose name label) asked reply going = (given-labels (record task { label = label }) name (released asked)).4 ∙ going
gone-ended task (BindReply name) asked (Told content) going = (given-labels task name content).4 ∙ going
gone-ended task End asked reply going = refl
gone-ended task onward asked reply going = going
