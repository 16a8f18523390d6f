-- Who may sleep, and that a turn that doesn't meet what a sleeper waits for leaves it so.
use Rattle.std.proofs.Common.{◌≡◌, ◌≢◌, ◌∙◌, refl, sym, ap, subst, ℕ, ◌+◌, ◌<◌, ◌==◌, ◌⊎◌, inl, inr, Bool, true, false, true≢false, ◌&&◌, ◌||◌, not, if◌then◌else◌, List, ◌∷◌, ◌++◌, length, length-append, get_or, Option, Some, None, is_some, Vec, arith}
use Rattle.std.specs.Prelude.{option_map}
use Rattle.std.specs.Option.{option_map_or}
use Rattle.std.specs.declared.alloc.Global.{Global}
use Rattle.std.proofs.lemmas.Bool.{cases_eq}
use Rattle.std.proofs.lemmas.List.{get_or-set_other}
use Rattle.std.proofs.Math.ListN.{get_or-append}
use Rattle.lio_values.specs.declared.act.Act.{Act}
use Rattle.lio_values.specs.declared.act.Act.TheVariants as act
use Rattle.lio_values.specs.declared.entry.Entry.{Entry}
use Rattle.lio_values.specs.declared.value.Handle.{Handle}
use Rattle.lio_syntax_lines.specs.declared.line.Simple.{Simple}
use Rattle.lio_syntax_lines.specs.declared.line.Simple.TheVariants.{Read, Take, Put, Wait}
use Rattle.lio_cells.specs.State.{state_after}
use Rattle.lio_cells.specs.declared.state.State.{State}
use Rattle.lio_syntax.specs.Environment.{Environment}
use Rattle.lio_syntax.specs.Items.{Item, Access}
use Rattle.lio_calculus.specs.Operands.{seen_as, reference_of, variable_of, result_of}
use Rattle.lio_calculus.specs.Task.{TaskState}
use Rattle.lio_calculus.specs.Plan.{Target}
use Rattle.lio_calculus.specs.Step.{Cell, Configuration, Move, Turn, blank, cell_at, with_cell, number_of, actor_after, target_after, can, step}
use Rattle.lio_calculus.specs.Sound.{IsSound, IsTaskOf}
use Rattle.lio_calculus.specs.Waiting.{handle_met, is_ready_for, is_held_up, is_waiting}
use Rattle.lio_calculus.proofs.InvisibleLemmas.{other-cell}
use Rattle.lio_calculus.proofs.LocalityLemmas.{step_changes_two_cells}
use Rattle.lio_calculus.proofs.MeetingLemmas.{actor-unchanged}
use Rattle.lio_calculus.proofs.PlanKept.{is_ended}
use Rattle.lio_calculus.proofs.WaitingLemmas.{task_can_unless_still}
use Rattle.lio_calculus_runs.proofs.AfterLemmas.{Changed, Here, Elsewhere, changed, task-met}
use Rattle.lio_calculus_runs.proofs.TurnLemmas.{Parts, parts, step-ticket}
use Rattle.lio_task.specs.declared.status.Status.TheVariants as status
use Rattle.lio_task.specs.Status.{reading, waiting, status_at, status_by, status_of}
use Rattle.lio_cells.specs.declared.wish.Wish.{Wish}
use Rattle.lio_task.specs.Takes.{awaited_by}
use Rattle.lio_task.specs.Outcome.{ended_by, ended_in}
use Rattle.lio_rounds.specs.Awake.{IsAsleep, IsNoted, Meets, Waits}
use Rattle.lio_rounds.specs.Sleep.{MaySleep, SleepersMay}
use Rattle.lio_rounds.specs.declared.awake.Awake.{Awake}

-- the number that a handle names
abbrev number : Handle → ℕ
number handle = handle.number

-- a task at an access awaits the node that the access meets

reading-awaits : (handle : Option Handle) → awaited_by (reading handle) ≡ option_map number handle
reading-awaits None = refl
reading-awaits (Some handle) = refl

waiting-awaits : (handle : Option Handle) (wish : Wish) → awaited_by (waiting handle wish) ≡ option_map number handle
waiting-awaits None wish = refl
waiting-awaits (Some handle) wish = refl

access-awaits : (environment : Environment) (simple : Simple) → awaited_by (status_at environment simple) ≡ option_map number (handle_met environment simple)
access-awaits environment (Read x r) = reading-awaits (seen_as reference_of environment r)
access-awaits environment (Take x v) = waiting-awaits (seen_as variable_of environment v) _
access-awaits environment (Put v a) = waiting-awaits (seen_as variable_of environment v) _
access-awaits environment (Wait x r) = waiting-awaits (seen_as result_of environment r) _
access-awaits environment simple = refl

-- whether a task is held up is told by the state of the node that it awaits

held-by : (c d : Configuration) (simple : Simple) (handle : Option Handle) (n : ℕ) → option_map number handle ≡ Some n → (cell_at d n).state ≡ (cell_at c n).state
    → option_map_or (λ h. not (is_ready_for simple (cell_at d h.number).state)) handle false ≡ option_map_or (λ h. not (is_ready_for simple (cell_at c h.number).state)) handle false
held-by c d simple None n is same = absurd (cc)
held-by c d simple (Some handle) n is same =
    let at : handle.number ≡ n = cc in
    ap (λ (s : State). not (is_ready_for simple s)) (ap (λ (k : ℕ). (cell_at d k).state) at ∙ same ∙ ap (λ (k : ℕ). (cell_at c k).state) (sym at))

held-same : (c d : Configuration) (environment : Environment) (items : List Item) (n : ℕ) → awaited_by (status_by environment items) ≡ Some n → (cell_at d n).state ≡ (cell_at c n).state
    → is_held_up d environment items ≡ is_held_up c environment items
held-same c d environment (Access simple ∷ items) n is same = held-by c d simple (handle_met environment simple) n (sym (access-awaits environment simple) ∙ is) same
held-same c d environment items n is same = refl

waiting-same : (c d : Configuration) (task : TaskState) (n : ℕ) → awaited_by (status_of task) ≡ Some n → (cell_at d n).state ≡ (cell_at c n).state → is_waiting d task ≡ is_waiting c task
waiting-same c d task n is same = by task.ended refl
  where
    by : (b : Bool) → task.ended ≡ b → is_waiting d task ≡ is_waiting c task
    by true e = let none : None ≡ Some n = sym (ap (λ (t : Bool). awaited_by (if t then status.Ended else status_by task.environment task.items)) e) ∙ is in absurd (cc)
    by false e =
        let here : awaited_by (status_by task.environment task.items) ≡ Some n = sym (ap (λ (t : Bool). awaited_by (if t then status.Ended else status_by task.environment task.items)) e) ∙ is in
        ap (λ (h : Bool). not (task.turns == 0) && h) (held-same c d task.environment task.items n here same)

-- who is held up awaits a node
held-awaits : (c : Configuration) (environment : Environment) (items : List Item) → is_held_up c environment items ≡ true → (n : ℕ) × (awaited_by (status_by environment items) ≡ Some n)
held-awaits c environment (Access simple ∷ items) h = by (handle_met environment simple) refl h
  where
    by : (handle : Option Handle) → handle_met environment simple ≡ handle → option_map_or (λ x. not (is_ready_for simple (cell_at c x.number).state)) handle false ≡ true
        → (n : ℕ) × (awaited_by (status_at environment simple) ≡ Some n)
    by None is held = absurd (true≢false (sym held))
    by (Some handle) is held = (handle.number, access-awaits environment simple ∙ ap (option_map number) is)
held-awaits c environment items h = absurd (true≢false (sym h))

-- whether a task can take a turn
can-told : (c : Configuration) (k : ℕ) (task : TaskState) → IsSound c → IsTaskOf c k task → can c k ≡ not (task.ended || is_waiting c task)
can-told c k task sound is =
    task_can_unless_still c k sound ∙ ap (λ (t : Option TaskState). not (option_map_or (λ (x : TaskState). x.ended || is_waiting c x) t true)) is

not_false : (b : Bool) → not b ≡ false → b ≡ true
not_false true e = refl
not_false false e = absurd (true≢false e)

-- a task that can't take a turn has ended or awaits a node
pub still-why : (c : Configuration) (k : ℕ) (task : TaskState) → IsSound c → IsTaskOf c k task → can c k ≡ false
    → (task.ended ≡ true) ⊎ ((n : ℕ) × (awaited_by (status_of task) ≡ Some n))
still-why c k task sound is still = by task.ended (task.turns == 0) refl (not_false _ (sym (can-told c k task sound is) ∙ still))
  where
    by : (ended none : Bool) → task.ended ≡ ended → (ended || (not none && is_held_up c task.environment task.items)) ≡ true
        → (task.ended ≡ true) ⊎ ((n : ℕ) × (awaited_by (status_of task) ≡ Some n))
    by true none e h = inl e
    by false true e h = absurd (true≢false (sym h))
    by false false e h =
        let r = held-awaits c task.environment task.items h in
        inr (r.0, ap (λ (t : Bool). awaited_by (if t then status.Ended else status_by task.environment task.items)) e ∙ r.1)

-- a turn of another task leaves a task as it is
task-kept : (ticket : ℕ) (c : Configuration) (j : ℕ) (turn : Turn) → step ticket c j ≡ Some turn → (k : ℕ) (task : TaskState) → k ≢ j → IsTaskOf c k task → IsTaskOf turn.next k task
task-kept ticket c j turn steps k task other is =
    let p : Parts ticket c j turn = parts ticket c j turn steps in
    let between : Configuration = target_after c p.task.label p.move.act p.move.target in
    let there : IsTaskOf between k task = task-met c k task p.task.label p.move.act p.move.target is in
    subst (λ (t : Turn). IsTaskOf t.next k task) p.is_turn
    (ap (λ (x : Cell). x.task) (get_or-set_other between.cells j k (actor_after p.task p.move (cell_at between j)) blank other) ∙ there)

-- and the state of a node that it doesn't meet

unended : (asked : Act) (j n : ℕ) → n ≡ j → ended_by asked j ≢ Some n → is_ended asked ≡ false
unended (act.Ended content) j n e other = absurd (other (ap Some (sym e)))
unended asked j n e other = refl

between-same : (c : Configuration) (task : TaskState) (asked : Act) (target : Option Target) (n : ℕ) → option_map number_of target ≢ Some n → cell_at (target_after c task.label asked target) n ≡ cell_at c n
between-same c task asked None n other = refl
between-same c task asked (Some target) n other = other-cell c n task.label asked target (λ e. other (ap Some (sym e)))

settled : (between c : Configuration) (j n : ℕ) (task : TaskState) (move : Move) → IsSound c → IsTaskOf c j task → n ≡ j → cell_at between n ≡ cell_at c n → is_ended move.act ≡ false
    → Changed between j (actor_after task move (cell_at between j)) n → (cell_at (with_cell between j (actor_after task move (cell_at between j))) n).state ≡ (cell_at c n).state
settled between c j n task move sound is here same going (Here e h) =
    ap (λ (x : Cell). x.state) h
    ∙ ap (λ (x : Cell). state_after x.state move.act) (ap (cell_at between) (sym here) ∙ same ∙ ap (cell_at c) here)
    ∙ actor-unchanged c j task move.act sound is going ∙ ap (λ (k : ℕ). (cell_at c k).state) (sym here)
settled between c j n task move sound is here same going (Elsewhere h) = ap (λ (x : Cell). x.state) (h ∙ same)

own-state : (ticket : ℕ) (c : Configuration) (j : ℕ) (turn : Turn) → IsSound c → step ticket c j ≡ Some turn → (n : ℕ) → n ≡ j → (Meets turn.entry n → ⊥)
    → (cell_at turn.next n).state ≡ (cell_at c n).state
own-state ticket c j turn sound steps n here unmet =
    let p : Parts ticket c j turn = parts ticket c j turn steps in
    let between : Configuration = target_after c p.task.label p.move.act p.move.target in
    let aside : option_map number_of p.move.target ≢ Some n = λ e. unmet (inl (sym (ap (λ (t : Turn). t.entry.target) p.is_turn) ∙ e)) in
    let goes : ended_by p.move.act j ≢ Some n = λ e. unmet (inr (sym (ap (λ (t : Turn). ended_in t.entry) p.is_turn) ∙ e)) in
    subst (λ (t : Turn). (cell_at t.next n).state ≡ (cell_at c n).state) p.is_turn
    (settled between c j n p.task p.move sound p.is_task here (between-same c p.task p.move.act p.move.target n aside) (unended p.move.act j n here goes)
    (changed between j (actor_after p.task p.move (cell_at between j)) n))

state-kept : (ticket : ℕ) (c : Configuration) (j : ℕ) (turn : Turn) → IsSound c → step ticket c j ≡ Some turn → (n : ℕ) → (Meets turn.entry n → ⊥) → (cell_at turn.next n).state ≡ (cell_at c n).state
state-kept ticket c j turn sound steps n unmet =
    elim (cases_eq n j) [
      | inl e ↦ own-state ticket c j turn sound steps n e unmet
      | inr d ↦ ap (λ (x : Cell). x.state) ((step_changes_two_cells ticket c j turn steps).elsewhere n d (λ e. unmet (inl e)))
    ]

-- who takes a turn can
moves-can : (ticket : ℕ) (c : Configuration) (j : ℕ) (turn : Turn) → step ticket c j ≡ Some turn → can c j ≡ true
moves-can ticket c j turn steps = ap (λ (t : Option Turn). is_some t) (step-ticket ticket 0 c j turn steps)

-- so a sleeper may sleep on
pub may-sleep : (ticket : ℕ) (c : Configuration) (j : ℕ) (turn : Turn) → IsSound c → IsSound turn.next → step ticket c j ≡ Some turn
    → (before after : List (Vec ℕ Global)) (k place : ℕ) → MaySleep c before k place
    → ((n : ℕ) → Meets turn.entry n → Waits before n place → ⊥) → ((n : ℕ) → (Meets turn.entry n → ⊥) → Waits before n place → Waits after n place)
    → MaySleep turn.next after k place
may-sleep ticket c j turn sound next steps before after k place sleeps unmet keeps =
    let other : k ≢ j = λ e. true≢false (sym (moves-can ticket c j turn steps) ∙ ap (can c) (sym e) ∙ sleeps.still) in
    let is : IsTaskOf turn.next k sleeps.task = task-kept ticket c j turn steps k sleeps.task other sleeps.is in
    elim sleeps.waits [
      | inl e ↦ record {
        still = can-told turn.next k sleeps.task next is ∙ ap (λ (b : Bool). not (b || is_waiting turn.next sleeps.task)) e;
        task = sleeps.task;
        is = is;
        waits = inl e;
      }
      | inr w ↦
          let aside : Meets turn.entry w.node → ⊥ = λ m. unmet w.node m w.noted in
          record {
            still = can-told turn.next k sleeps.task next is
                ∙ ap (λ (b : Bool). not (sleeps.task.ended || b)) (waiting-same c turn.next sleeps.task w.node w.awaits (state-kept ticket c j turn sound steps w.node aside))
                ∙ sym (can-told c k sleeps.task sound sleeps.is) ∙ sleeps.still;
            task = sleeps.task;
            is = is;
            waits = inr (record { node = w.node; awaits = w.awaits; noted = keeps w.node aside w.noted });
          }
    ]

-- who still sleeps after a turn slept before it, and waited for nothing that the turn met
abbrev pub Wakes : Awake → Awake → Entry → Type 0
Wakes before after entry =
    (place : ℕ) → IsAsleep after.places place → IsAsleep before.places place × ((n : ℕ) → Meets entry n → Waits before.waiting.items n place → ⊥)

-- what isn't met stays noted
abbrev pub KeepsNoted : Awake → Awake → Entry → Type 0
KeepsNoted before after entry = (n place : ℕ) → (Meets entry n → ⊥) → Waits before.waiting.items n place → Waits after.waiting.items n place

-- so all may whom the turn doesn't wake
pub sleepers-kept : (ticket : ℕ) (c d : Configuration) (j : ℕ) (entry : Entry) (order listed born : List ℕ) (before after : Awake) → IsSound c → IsSound d
    → step ticket c j ≡ Some (record { entry = entry; next = d }) → listed ≡ order ++ born → SleepersMay c order before → Wakes before after entry → KeepsNoted before after entry
    → SleepersMay d listed after
sleepers-kept ticket c d j entry order listed born before after sound next steps lists sleepers woken keeps place asleep =
    let was = woken place asleep in
    let there = sleepers place was.0 in
    let long : length listed ≡ length order + length born = ap (λ (ks : List ℕ). length ks) lists ∙ length-append order born in
    let same : get_or order place 0 ≡ get_or listed place 0 = sym (ap (λ (ks : List ℕ). get_or ks place 0) lists ∙ get_or-append order born 0 place there.0) in (
      omega (arith, long, there.0),
      subst (λ (k : ℕ). MaySleep d after.waiting.items k place) same
          (may-sleep ticket c j (record { entry = entry; next = d }) sound next steps before.waiting.items after.waiting.items (get_or order place 0) place there.1 was.1 (λ n. keeps n place)),
    )

-- who slept may sleep on where more is noted
sleeps-on : (c : Configuration) (before after : List (Vec ℕ Global)) (k place : ℕ) → ((n p : ℕ) → Waits before n p → Waits after n p) → MaySleep c before k place → MaySleep c after k place
sleeps-on c before after k place keeps sleeps = record {
  still = sleeps.still;
  task = sleeps.task;
  is = sleeps.is;
  waits = elim sleeps.waits [ inl e ↦ inl e | inr w ↦ inr (record { node = w.node; awaits = w.awaits; noted = keeps w.node place w.noted }) ];
}

-- a place whose task can't take a turn may sleep where it is noted at the node that the task awaits
sleeps-noted : (c : Configuration) (waiting : List (Vec ℕ Global)) (met : Option ℕ) (k place : ℕ) (task : TaskState) → IsSound c → IsTaskOf c k task → can c k ≡ false
    → met ≡ awaited_by (status_of task) → IsNoted waiting met place → MaySleep c waiting k place
sleeps-noted c waiting met k place task sound is still at noted = record {
  still = still;
  task = task;
  is = is;
  waits = elim (still-why c k task sound is still) [
    | inl e ↦ inl e
    | inr w ↦ inr (record { node = w.0; awaits = w.1; noted = subst (λ (n : Option ℕ). IsNoted waiting n place) (at ∙ w.1) noted })
  ];
}

-- one more place sleeps
pub sleepers-more : (c : Configuration) (order : List ℕ) (before after : Awake) (met : Option ℕ) (new : ℕ) (task : TaskState) → IsSound c → SleepersMay c order before
    → new < length order → IsTaskOf c (get_or order new 0) task → can c (get_or order new 0) ≡ false → met ≡ awaited_by (status_of task)
    → ((place : ℕ) → IsAsleep after.places place → IsAsleep before.places place ⊎ ((place ≡ new) × IsNoted after.waiting.items met new))
    → ((n place : ℕ) → Waits before.waiting.items n place → Waits after.waiting.items n place)
    → SleepersMay c order after
sleepers-more c order before after met new task sound sleepers inside is still at more keeps place asleep =
    elim (more place asleep) [
      | inl a ↦ let there = sleepers place a in (there.0, sleeps-on c before.waiting.items after.waiting.items (get_or order place 0) place keeps there.1)
      | inr e ↦
          subst (λ (p : ℕ). (p < length order) × MaySleep c after.waiting.items (get_or order p 0) p) (sym e.0)
          (inside, sleeps-noted c after.waiting.items met (get_or order new 0) new task sound is still at e.1)
    ]

-- nobody sleeps at first
pub sleepers-none : (c : Configuration) (order : List ℕ) (awake : Awake) → ((place : ℕ) → IsAsleep awake.places place → ⊥) → SleepersMay c order awake
sleepers-none c order awake none place asleep = absurd (none place asleep)
