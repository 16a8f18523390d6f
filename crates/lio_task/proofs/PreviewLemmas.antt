-- What is told of a configuration's next steps before they are taken.
use Rattle.std.proofs.Common.{◌≡◌, ◌∙◌, refl, ap, subst, ℕ, ◌<◌, ◌==◌, Bool, true, false, ◌&&◌, not, if◌then◌else◌, List, [], ◌∷◌, length, All, Option, Some, None, option_and_then, arith}
use Rattle.std.specs.Prelude.{◌||◌}
use Rattle.std.specs.Option.{option_map, option_map_or}
use Rattle.std.proofs.lemmas.Bool.{and_parts}
use Rattle.std.proofs.lemmas.Bool.Decides.{nat_tests}
use Rattle.std.proofs.lemmas.List.Elements.{All-head}
use Rattle.lio_values.specs.declared.act.Act.{Act}
use Rattle.lio_values.specs.declared.act.Reply.{Reply}
use Rattle.lio_values.specs.declared.entry.Entry.{Entry}
use Rattle.lio_values.specs.declared.value.Handle.{Handle}
use Rattle.lio_syntax_lines.specs.declared.line.Operand.{Operand}
use Rattle.lio_syntax_lines.specs.declared.line.Simple.{Simple}
use Rattle.lio_syntax_lines.specs.declared.line.Simple.TheVariants as line
use Rattle.lio_syntax_lines.specs.Operands.{is_said}
use Rattle.lio_cells.specs.declared.state.State.{State}
use Rattle.lio_cells.specs.declared.wish.Wish.{Wish}
use Rattle.lio_cells.specs.declared.wish.Wish.TheVariants as wish
use Rattle.lio_cells.specs.State.{Reference, ready as is_ready, answer, grants, is_reference}
use Rattle.lio_syntax.specs.Items.{Item, Access}
use Rattle.lio_syntax.specs.Environment.{Environment}
use Rattle.lio_calculus.specs.Operands.{seen_as, reference_of, variable_of, result_of}
use Rattle.lio_calculus.specs.Task.{TaskState}
use Rattle.lio_calculus.specs.Going as going
use Rattle.lio_calculus.specs.Plan.{Plan, Over, Own, Visit, Target, plan}
use Rattle.lio_calculus.specs.Step.{Configuration, Move, Turn, after, can, cell_at, entry_of, move_of, number_of, step, turn_of}
use Rattle.lio_calculus.specs.Sound.{EachBound, IsSound, IsTaskOf, ItemSays, ValueNames}
use Rattle.lio_calculus.specs.Waiting.{is_held_up, is_ready_for, is_waiting}
use Rattle.lio_calculus.specs.Meeting.{MeetsNode}
use Rattle.lio_calculus.proofs.MeetingLemmas.{visit_meets_node}
use Rattle.lio_calculus.proofs.SoundLemmas.{named-kind, reference-names}
use Rattle.lio_calculus.proofs.WaitingLemmas.{task_can_unless_still}
use Rattle.lio_task.specs.declared.next.Next.TheVariants as next
use Rattle.lio_task.specs.declared.status.Status.{Status}
use Rattle.lio_task.specs.declared.status.Status.TheVariants as status
use Rattle.lio_task.specs.Next.{next_by, next_of}
use Rattle.lio_task.specs.Status.{reading, status_by, status_of, waiting}
use Rattle.lio_task.specs.Takes.{WouldShow}
use Rattle.lio_task.proofs.MoveLemmas.{over-still, visit-moves, visit-ready, waits-still}

-- whether a task that stands so can take a turn, where it has turns left or none
abbrev pub moves_by : Configuration → Bool → Status → Bool
moves_by c spent status.Ended = false
moves_by c spent status.Running = true
moves_by c spent (status.Reading n) = true
moves_by c spent (status.Access n wish) = spent || grants (cell_at c n).state wish

unless : (spent granted : Bool) → not (not spent && not granted) ≡ (spent || granted)
unless true granted = refl
unless false true = refl
unless false false = refl

never : (spent : Bool) → not (not spent && false) ≡ true
never true = refl
never false = refl

pub is-zero : (n : ℕ) → n ≡ 0 → (n == 0) ≡ true
is-zero n e = grind (arith, nat_tests)

pub not-zero : (n : ℕ) → (n ≡ 0 → ⊥) → (n == 0) ≡ false
not-zero n e = grind (arith, nat_tests)

-- a `read` finds its reference
reading-moves : (c : Configuration) (spent : Bool) (x : List ℕ) (r : Operand) (seen : Option Handle) → ((handle : Handle) → seen ≡ Some handle → is_reference (cell_at c handle.number).state ≡ true)
    → not (not spent && option_map_or (λ handle. not (is_ready_for (line.Read x r) (cell_at c handle.number).state)) seen false) ≡ moves_by c spent (reading seen)
reading-moves c spent x r None there = never spent
reading-moves c spent x r (Some handle) there = ap (λ b. not (not spent && not b)) (there handle refl) ∙ never spent

-- another access waits for what it wishes
waiting-moves : (c : Configuration) (spent : Bool) (simple : Simple) (wish : Wish) (seen : Option Handle) → ((state : State) → is_ready_for simple state ≡ grants state wish)
    → not (not spent && option_map_or (λ handle. not (is_ready_for simple (cell_at c handle.number).state)) seen false) ≡ moves_by c spent (waiting seen wish)
waiting-moves c spent simple wish None same = never spent
waiting-moves c spent simple wish (Some handle) same =
    ap (λ b. not (not spent && not b)) (same (cell_at c handle.number).state) ∙ unless spent (grants (cell_at c handle.number).state wish)

front-moves : (c : Configuration) (spent : Bool) (environment : Environment) (items : List Item) → EachBound (ValueNames c) environment → All ItemSays items
    → not (not spent && is_held_up c environment items) ≡ moves_by c spent (status_by environment items)
front-moves c spent environment [] names said = never spent
front-moves c spent environment (Access (line.Read x r) ∷ items) names said =
    reading-moves c spent x r (seen_as reference_of environment r)
    (λ handle seen. named-kind Reference handle (cell_at c handle.number).state
    (reference-names c environment r handle names (and_parts (is_said r) true (All-head ItemSays (Access (line.Read x r)) items said)).0 seen))
front-moves c spent environment (Access (line.Take x v) ∷ items) names said = waiting-moves c spent (line.Take x v) wish.Take (seen_as variable_of environment v) (λ state. refl)
front-moves c spent environment (Access (line.Put v a) ∷ items) names said = waiting-moves c spent (line.Put v a) wish.Put (seen_as variable_of environment v) (λ state. refl)
front-moves c spent environment (Access (line.Wait x r) ∷ items) names said = waiting-moves c spent (line.Wait x r) wish.Wait (seen_as result_of environment r) (λ state. refl)
front-moves c spent environment (Access simple ∷ items) names said = never spent
front-moves c spent environment (item ∷ items) names said = never spent

-- a task can take a turn as it stands
pub can-by : (c : Configuration) (k : ℕ) (task : TaskState) → IsSound c → IsTaskOf c k task → can c k ≡ moves_by c (task.turns == 0) (status_of task)
can-by c k task sound is =
    task_can_unless_still c k sound ∙ ap (λ o. not (option_map_or (λ (t : TaskState). t.ended || is_waiting c t) o true)) is ∙ by task.ended
  where
    by : (ended : Bool) → not (ended || is_waiting c task) ≡ moves_by c (task.turns == 0) (if ended then status.Ended else status_by task.environment task.items)
    by true = refl
    by false = front-moves c (task.turns == 0) task.environment task.items (sound.names k task is).environment (sound.literals k task is)

-- the entry of a move
shows : (c : Configuration) (k ticket : ℕ) (task : TaskState) (move : Move) → IsTaskOf c k task → move_of (cell_at c) (plan c.program task) ≡ Some move → WouldShow c k ticket (entry_of ticket k task move)
unfolding step
shows c k ticket task move is moves =
    ap (λ (t : Option TaskState). option_map (λ (turn : Turn). turn.entry) (option_and_then (turn_of ticket c k) t)) is
    ∙ ap (λ (m : Option Move). option_map (λ (turn : Turn). turn.entry) (option_map (λ (move : Move). let turn : Turn = record { entry = entry_of ticket k task move; next = after c k task move } in turn) m)) moves

-- a plan by what it does
pub own-plan : (p : Plan) (asked : Act) (reply : Reply) → next_by p ≡ next.Own asked reply → (onward : going.Onward) × (p ≡ Own asked reply onward)
own-plan Over asked reply e = absurd (cc)
own-plan (Own act answer onward) asked reply e = (onward, cc)
own-plan (Visit act target onward) asked reply e = absurd (cc)

-- a plan meets the node with a number
pub record Meets (p : Plan) (asked : Act) (n : ℕ) : Type 0 where
  pub target : Target
  pub onward : going.Onward
  pub plan_is : p ≡ Visit asked target onward
  pub number_is : number_of target ≡ n

pub visit-plan : (p : Plan) (asked : Act) (n : ℕ) → next_by p ≡ next.Visit asked n → Meets p asked n
visit-plan Over asked n e = absurd (cc)
visit-plan (Own act answer onward) asked n e = absurd (cc)
visit-plan (Visit act target onward) asked n e = record { target = target; onward = onward; plan_is = cc; number_is = cc }

over-plan : (p : Plan) → next_by p ≡ next.Over → Over ≡ p
over-plan Over e = refl
over-plan (Own act answer onward) e = absurd (cc)
over-plan (Visit act target onward) e = absurd (cc)

pub over-stays : (c : Configuration) (k : ℕ) (task : TaskState) → IsTaskOf c k task → next_of c.program task ≡ next.Over → can c k ≡ false
over-stays c k task is e = over-still c k task is (over-plan (plan c.program task) e)

pub own-shows : (c : Configuration) (k ticket : ℕ) (task : TaskState) (asked : Act) (reply : Reply) → IsTaskOf c k task → next_of c.program task ≡ next.Own asked reply
    → WouldShow c k ticket (record { ticket = ticket; actor = k; target = None; at = task.label; act = asked; reply = reply })
own-shows c k ticket task asked reply is e =
    let own = own-plan (plan c.program task) asked reply e in
    shows c k ticket task (record { act = asked; target = None; reply = reply; onward = own.0 }) is (ap (move_of (cell_at c)) own.1)

-- the node that a turn meets is there
pub visit-within : (c : Configuration) (k : ℕ) (task : TaskState) (asked : Act) (n : ℕ) → IsSound c → IsTaskOf c k task → next_of c.program task ≡ next.Visit asked n → n < length c.cells
visit-within c k task asked n sound is e =
    let meets = visit-plan (plan c.program task) asked n e in
    subst (λ (i : ℕ). i < length c.cells) meets.number_is (visit_meets_node c k task asked meets.target meets.onward sound is meets.plan_is).within

pub visit-shows : (c : Configuration) (k ticket : ℕ) (task : TaskState) (asked : Act) (n : ℕ) → IsSound c → IsTaskOf c k task → next_of c.program task ≡ next.Visit asked n → is_ready (cell_at c n).state asked ≡ true
    → WouldShow c k ticket (record { ticket = ticket; actor = k; target = Some n; at = task.label; act = asked; reply = answer (cell_at c n).state asked })
visit-shows c k ticket task asked n sound is e ready =
    let meets = visit-plan (plan c.program task) asked n e in
    let there : MeetsNode c k asked meets.target = visit_meets_node c k task asked meets.target meets.onward sound is meets.plan_is in
    let entry : ℕ → Entry = λ i. record { ticket = ticket; actor = k; target = Some i; at = task.label; act = asked; reply = answer (cell_at c i).state asked } in
    shows c k ticket task _ is
    (visit-moves c task asked meets.target meets.onward meets.plan_is there.met
    ∙ visit-ready asked meets.target meets.onward (cell_at c (number_of meets.target)).state (ap (λ (i : ℕ). is_ready (cell_at c i).state asked) meets.number_is ∙ ready))
    ∙ ap (λ (i : ℕ). Some (entry i)) meets.number_is

pub visit-stays : (c : Configuration) (k : ℕ) (task : TaskState) (asked : Act) (n : ℕ) → IsSound c → IsTaskOf c k task → next_of c.program task ≡ next.Visit asked n → is_ready (cell_at c n).state asked ≡ false → can c k ≡ false
visit-stays c k task asked n sound is e unready =
    let meets = visit-plan (plan c.program task) asked n e in
    let there : MeetsNode c k asked meets.target = visit_meets_node c k task asked meets.target meets.onward sound is meets.plan_is in
    waits-still c k task asked meets.target meets.onward is meets.plan_is there (ap (λ (i : ℕ). is_ready (cell_at c i).state asked) meets.number_is ∙ unready)
