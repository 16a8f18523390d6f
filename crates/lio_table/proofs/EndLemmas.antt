-- Turns at a table: what a seat's view tells once the nodes are given back.
use Rattle.std.proofs.Common.{◌≡◌, ◌⊎◌, inl, inr, ◌∙◌, refl, sym, ap, subst, arith, ℕ, ◌+◌, ◌-◌, ◌<◌, Bool, true, false, true≢false, List, [], ◌∷◌, ◌++◌, length, map, take, All, Contains, Option, Some, None, if◌then◌else◌, option_and_then, ◌&&◌, not}
use Rattle.std.specs.Option.{option_map}
use Rattle.lio_values.specs.declared.act.Act.{Act}
use Rattle.lio_values.specs.declared.act.Act.TheVariants as act
use Rattle.lio_values.specs.declared.entry.Entry.{Entry}
use Rattle.lio_cells.specs.declared.waiter.Waiter.{Waiter}
use Rattle.lio_cells.specs.declared.state.State.{State}
use Rattle.lio_cells.specs.State.{answer, ready as is_ready}
use Rattle.lio_syntax.specs.Statements.{Procedure}
use Rattle.lio_syntax.specs.Lines.{script_lines}
use Rattle.lio_calculus.specs.Effect.{entry_in}
use Rattle.lio_calculus.specs.Going as going
use Rattle.lio_calculus.specs.Meeting.{MeetsNode}
use Rattle.lio_calculus.specs.Plan.{Plan, Program, Target, Visit, plan}
use Rattle.lio_calculus.specs.Sound.{IsTaskOf}
use Rattle.lio_calculus.specs.Step.{Cell, Configuration, Move, can, cell_at, entry_of, met as met_state, move_of, number_of, visit, waits}
use Rattle.lio_calculus.specs.Task.{TaskState}
use Rattle.lio_calculus.proofs.MeetingLemmas.{visit_meets_node}
use Rattle.lio_calculus.specs.Journals.{of_cell}
use Rattle.lio_calculus.proofs.JournalLemmas.{has-cases, has-first, has-later}
use Rattle.lio_task.specs.declared.task.Task.{Task}
use Rattle.lio_task.specs.StateOf.{state_in}
use Rattle.lio_task_plan.specs.Planned.{simple_of}
use Rattle.lio_task_turns.specs.declared.turn.Onward.{Onward}
use Rattle.lio_task_turns.specs.Turns.{onward_of}
use Rattle.lio_task.specs.declared.config.Holder.{Holder}
use Rattle.lio_task.specs.Takes.{PlansVisit}
use Rattle.lio_task.specs.Turns.{ends, looks}
use Rattle.lio_task.proofs.MoveLemmas.{waits-still}
use Rattle.lio_table.specs.declared.view.Beginning.{Beginning}
use Rattle.lio_table.specs.declared.view.Claimed.{Claimed}
use Rattle.lio_table.specs.declared.view.Given.{Given}
use Rattle.lio_table.specs.declared.view.View.{View}
use Rattle.lio_table.specs.Views.{HasLog, HoldsNode, StandIn}
use Rattle.lio_table.specs.Steps.{FindsTaken, SeatState, with_busy, with_entry, with_given, with_node, with_ticket, with_turn, without}
use Rattle.lio_table.specs.declared.table.Table.{Table}
use Rattle.lio_table.specs.Holders.{CanPut, CanPutBoth, TakesOut}
use Rattle.lio_table.specs.Moves.{MovesAlone, MovesBoth}
use Rattle.lio_table.specs.Taken.{HasOne, HasTwo, IsInTurn, woken_or}
use Rattle.lio_task.specs.Outcome.{born_at}
use Rattle.lio_table.specs.Turns.{Found, Meets, MovedAlone, MovedMeeting, grown, returned, returned_with, with_draw, with_one, with_two}
use Rattle.lio_table.proofs.SeatLemmas.{falls, no-node, passes}
use Rattle.lio_table.proofs.TurnLemmas.{part-of-actor, part-of-target, stands-in}

-- a node as a seat notes it when it is given back
abbrev given_of : Claimed → List Waiter → Given
given_of node waiters = record { number = node.number; log = node.log; waiters = waiters; found = node.found }

-- the one node that a seat holds is given back
only : (node x : Claimed) → Contains (node ∷ []) x → x ≡ node
only node x has = by (has-cases node [] x has)
  where
    by : (node ≡ x) ⊎ Contains [] x → x ≡ node
    by (inl same) = sym same
    by (inr none) = absurd (no-node x none)

given-one : (view : View) (node : Claimed) (n : ℕ) (waiters : List Waiter) (holds : HoldsNode view n) → view.claimed ≡ node ∷ [] → with_given holds.node waiters view ≡ record view { claimed = []; given = given_of node waiters ∷ take 1 view.given }
given-one view node n waiters holds is =
    let same : holds.node ≡ node = only node holds.node (subst (λ (ns : List Claimed). Contains ns holds.node) is holds.has) in
    ap (λ (x : Claimed). with_given x waiters view) same
    ∙ ap (λ (ns : List Claimed). record view { claimed = ns; given = given_of node waiters ∷ take 1 view.given }) (ap (without node.number) is ∙ falls node.number node [] refl)

-- both nodes that a seat holds are given back, the last claimed first
first-of : (one two x : Claimed) → (two.number ≡ x.number → ⊥) → Contains (one ∷ two ∷ []) x → x ≡ one
first-of one two x apart has = by (has-cases one (two ∷ []) x has)
  where
    by : (one ≡ x) ⊎ Contains (two ∷ []) x → x ≡ one
    by (inl same) = sym same
    by (inr later) = absurd (apart (ap (λ (n : Claimed). n.number) (sym (only two x later))))

second-of : (one two x : Claimed) → (one.number ≡ x.number → ⊥) → Contains (one ∷ two ∷ []) x → x ≡ two
second-of one two x apart has = by (has-cases one (two ∷ []) x has)
  where
    by : (one ≡ x) ⊎ Contains (two ∷ []) x → x ≡ two
    by (inl same) = absurd (apart (ap (λ (n : Claimed). n.number) same))
    by (inr later) = only two x later

given-two : (view : View) (one two : Claimed) (k n : ℕ) (waiters others : List Waiter) (actor : HoldsNode view k) (target : HoldsNode view n) → one.number ≡ n → two.number ≡ k → (k ≡ n → ⊥) → view.claimed ≡ one ∷ two ∷ []
    → with_given actor.node waiters (with_given target.node others view) ≡ record view { claimed = []; given = given_of two waiters ∷ given_of one others ∷ [] }
given-two view one two k n waiters others actor target one_is two_is apart is =
    let first : target.node ≡ one = first-of one two target.node (λ e. apart (sym two_is ∙ e ∙ target.number)) (subst (λ (ns : List Claimed). Contains ns target.node) is target.has) in
    let second : actor.node ≡ two = second-of one two actor.node (λ e. apart (sym actor.number ∙ sym e ∙ one_is)) (subst (λ (ns : List Claimed). Contains ns actor.node) is actor.has) in
    (λ i. with_given (second i) waiters (with_given (first i) others view))
    ∙ ap (λ (ns : List Claimed). record view { claimed = ns; given = given_of two waiters ∷ given_of one others ∷ [] })
    (ap (λ (ns : List Claimed). without two.number (without one.number ns)) is
    ∙ ap (without two.number) (falls one.number one (two ∷ []) refl ∙ passes one.number two [] (λ e. apart (sym two_is ∙ e ∙ one_is)))
    ∙ falls two.number two [] refl)

plus-two : (n : ℕ) → n + 1 + 1 ≡ n + 2
plus-two n = omega arith

-- a node that was claimed with a holder
abbrev claimed_with : ℕ → Holder → Claimed
claimed_with n holder = record { number = n; log = holder.node.log; found = holder.node.waiters }

-- a holder that was taken out
pub one-taken : (k : ℕ) (holder : Holder) (old new : SeatState) → old.0.claimed ≡ [] → old.1 ≡ [] → TakesOut k old holder new → HasOne old.0 k holder new
one-taken k holder old new bare none takes = record {
  bare = bare;
  view = takes.view;
  slots = takes.slots ∙ ap (λ (slots : List (ℕ × Option Holder)). (k, None) ∷ slots) none;
  has_log = takes.has_log;
  whole = takes.whole;
  stand = takes.stand;
}

-- a second one
pub two-taken : (before : View) (k n : ℕ) (holder met : Holder) (old new : SeatState) → HasOne before k holder old → (k ≡ n → ⊥) → n < length before.first.holders → TakesOut n old met new → HasTwo before k n holder met new
two-taken before k n holder met old new has apart within takes = record {
  bare = has.bare;
  apart = apart;
  within = within;
  view = takes.view ∙ ap (with_node n met) has.view;
  slots = takes.slots ∙ ap (λ (slots : List (ℕ × Option Holder)). (n, None) ∷ slots) has.slots;
  has_log = has.has_log;
  met_has_log = subst (λ (v : View). HasLog v.first n met.node.log met) has.view takes.has_log;
  whole = takes.whole;
  stand = takes.stand;
}

-- the turn goes on, once a node was taken
pub taken-in_turn : (table : Table) (script : List Procedure) (k n : ℕ) (holder : Holder) (old new : SeatState) → IsInTurn table script k old → TakesOut n old holder new → IsInTurn table script k new
taken-in_turn table script k n holder old new turn takes = record {
  first = ap (λ (v : View). v.first) takes.view ∙ turn.first;
  script_is = turn.script_is;
  left = subst (λ (v : View). 0 < v.left) (sym takes.view) turn.left;
  node = turn.node;
}

-- a seat that holds node k alone holds no other
pub other-free : (before : View) (k n : ℕ) (holder : Holder) (seat : SeatState) → HasOne before k holder seat → (k ≡ n → ⊥) → HoldsNode seat.0 n → ⊥
other-free before k n holder seat has apart holds =
    let same : holds.node ≡ claimed_with k holder = only (claimed_with k holder) holds.node (subst (λ (ns : List Claimed). Contains ns holds.node) (ap (λ (v : View). v.claimed) has.view ∙ ap (λ (ns : List Claimed). claimed_with k holder ∷ ns) has.bare) holds.has) in
    apart (ap (λ (n : Claimed). n.number) (sym same) ∙ holds.number)

-- a holder that was taken out can be put back, as can two
pub one-can_put : (before : View) (k : ℕ) (holder : Holder) (seat : SeatState) → HasOne before k holder seat → CanPut k holder seat
one-can_put before k holder seat has =
    subst (λ (v : View). CanPut k holder (v, seat.1)) (sym has.view)
    (record { rest = []; slots = has.slots; holds = record { node = claimed_with k holder; has = has-first (claimed_with k holder) before.claimed; number = refl }; has_log = has.has_log })

pub two-can_put : (before : View) (k n : ℕ) (holder met : Holder) (seat : SeatState) → HasTwo before k n holder met seat → CanPutBoth k n holder met seat
two-can_put before k n holder met seat has =
    subst (λ (v : View). CanPutBoth k n holder met (v, seat.1)) (sym has.view) (record {
      apart = has.apart;
      rest = [];
      slots = has.slots;
      actor = record { node = claimed_with k holder; has = has-later (claimed_with n met) (claimed_with k holder ∷ before.claimed) (claimed_with k holder) (has-first (claimed_with k holder) before.claimed); number = refl };
      target = record { node = claimed_with n met; has = has-first (claimed_with n met) (claimed_with k holder ∷ before.claimed); number = refl };
      has_log = has.has_log;
      met_has_log = has.met_has_log;
    })

-- the holders stand in a configuration of the table
pub one-found : (before : View) (k : ℕ) (holder : Holder) (seat : SeatState) (c : Configuration) → HasOne before k holder seat → StandIn seat.0 c → Found before.first c k holder
one-found before k holder seat c has stand = record {
  size = stand.size ∙ ap (λ (v : View). length v.first.holders) has.view;
  has_log = has.has_log;
  stands = stands-in before.first.script k holder (with_node k holder before, seat.1) refl
      (record { node = claimed_with k holder; has = has-first (claimed_with k holder) before.claimed; number = refl }) has.has_log c (subst (λ (v : View). StandIn v c) has.view stand);
}

pub two-found : (before : View) (k n : ℕ) (holder met : Holder) (seat : SeatState) (c : Configuration) → HasTwo before k n holder met seat → StandIn seat.0 c → Found before.first c k holder
two-found before k n holder met seat c has stand = record {
  size = stand.size ∙ ap (λ (v : View). length v.first.holders) has.view;
  has_log = has.has_log;
  stands = stands-in before.first.script k holder (with_node n met (with_node k holder before), seat.1) refl
      (record { node = claimed_with k holder; has = has-later (claimed_with n met) (claimed_with k holder ∷ before.claimed) (claimed_with k holder) (has-first (claimed_with k holder) before.claimed); number = refl })
      has.has_log c (subst (λ (v : View). StandIn v c) has.view stand);
}

pub two-met_found : (before : View) (k n : ℕ) (holder met : Holder) (seat : SeatState) (c : Configuration) → HasTwo before k n holder met seat → StandIn seat.0 c → Found before.first c n met
two-met_found before k n holder met seat c has stand = record {
  size = stand.size ∙ ap (λ (v : View). length v.first.holders) has.view;
  has_log = has.met_has_log;
  stands = stands-in before.first.script n met (with_node n met (with_node k holder before), seat.1) refl
      (record { node = claimed_with n met; has = has-first (claimed_with n met) (claimed_with k holder ∷ before.claimed); number = refl })
      has.met_has_log c (subst (λ (v : View). StandIn v c) has.view stand);
}

-- no slot is out once they are put back
pub slot-back : (k : ℕ) (old new : List (ℕ × Option Holder)) → old ≡ (k, None) ∷ [] → old ≡ (k, None) ∷ new → new ≡ []
slot-back k old new is was = same (sym was ∙ is)
  where
    same : {xs : List (ℕ × Option Holder)} → (k, None) ∷ xs ≡ (k, None) ∷ [] → xs ≡ []
    same e = cc

pub slots-back : (k n : ℕ) (old new : List (ℕ × Option Holder)) → old ≡ (n, None) ∷ (k, None) ∷ [] → old ≡ (n, None) ∷ (k, None) ∷ new → new ≡ []
slots-back k n old new is was = same (sym was ∙ is)
  where
    same : {xs : List (ℕ × Option Holder)} → (n, None) ∷ (k, None) ∷ xs ≡ (n, None) ∷ (k, None) ∷ [] → xs ≡ []
    same e = cc

-- one node that was given back as it was
pub one-returned : (before : View) (k : ℕ) (holder : Holder) (old new : SeatState) → HasOne before k holder old → (holds : HoldsNode old.0 k) → new.0 ≡ with_given holds.node holder.node.waiters old.0 → new.0 ≡ with_one (returned k holder) before
one-returned before k holder old new has holds view =
    by (subst (λ (v : View). (h : HoldsNode v k) × (new.0 ≡ with_given h.node holder.node.waiters v)) has.view (holds, view))
  where
    by : (h : HoldsNode (with_node k holder before) k) × (new.0 ≡ with_given h.node holder.node.waiters (with_node k holder before)) → new.0 ≡ with_one (returned k holder) before
    by (h, is) =
        is ∙ given-one (with_node k holder before) (claimed_with k holder) k holder.node.waiters h (ap (λ (ns : List Claimed). claimed_with k holder ∷ ns) has.bare)
        ∙ ap (λ (ns : List Claimed). record before { claimed = ns; given = returned k holder ∷ take 1 before.given; taken = before.taken + 1 }) (sym has.bare)

-- two nodes that were given back with the logs that they had, the task's as it was
pub two-left : (before : View) (k n : ℕ) (holder met : Holder) (waiters : List Waiter) (old new : SeatState) → HasTwo before k n holder met old → (target : HoldsNode old.0 n) → (actor : HoldsNode old.0 k)
    → new.0 ≡ with_given actor.node holder.node.waiters (with_given target.node waiters old.0) → new.0 ≡ with_two (returned k holder) (returned_with n met waiters) before
two-left before k n holder met waiters old new has target actor view =
    by (subst (λ (v : View). (a : HoldsNode v k) × (t : HoldsNode v n) × (new.0 ≡ with_given a.node holder.node.waiters (with_given t.node waiters v))) has.view (actor, target, view))
  where
    both : View
    both = with_node n met (with_node k holder before)

    by : (a : HoldsNode both k) × (t : HoldsNode both n) × (new.0 ≡ with_given a.node holder.node.waiters (with_given t.node waiters both)) → new.0 ≡ with_two (returned k holder) (returned_with n met waiters) before
    by (a, t, is) =
        is ∙ given-two both (claimed_with n met) (claimed_with k holder) k n holder.node.waiters waiters a t refl refl has.apart (ap (λ (ns : List Claimed). claimed_with n met ∷ claimed_with k holder ∷ ns) has.bare)
        ∙ (λ i. record before { claimed = sym has.bare i; given = returned k holder ∷ returned_with n met waiters ∷ []; taken = plus-two before.taken i })

-- one node that was given back after a turn
abbrev turned_one : View → ℕ → Holder → Entry → View
turned_one before k holder entry = with_turn entry (with_node k holder before)

one-grown : (before : View) (k ticket : ℕ) (holder : Holder) (entry : Entry) (waiters : List Waiter) (new : View) → before.claimed ≡ [] → entry.actor ≡ k → (h : HoldsNode (turned_one before k holder (with_ticket entry ticket)) k)
    → new ≡ with_given h.node waiters (turned_one before k holder (with_ticket entry ticket)) → new ≡ with_draw (with_ticket entry ticket) (with_one (grown k holder (with_ticket entry ticket) waiters) before)
one-grown before k ticket holder entry waiters new bare actor h is =
    let e : Entry = with_ticket entry ticket in
    let part : of_cell k (e ∷ []) ≡ e ∷ [] = part-of-actor k e actor in
    is ∙ given-one (turned_one before k holder e) (with_entry e (claimed_with k holder)) k waiters h (ap (λ (ns : List Claimed). with_entry e (claimed_with k holder) ∷ map (with_entry e) ns) bare)
    ∙ (λ i. record before {
      claimed = sym bare i;
      drawn = with_ticket entry ticket ∷ before.drawn;
      left = before.left - 1;
      given = record { number = k; log = holder.node.log ++ part i; waiters = waiters; found = holder.node.waiters } ∷ take 1 before.given;
      taken = before.taken + 1;
    })

-- two nodes that were given back after a turn
abbrev turned_two : View → ℕ → ℕ → Holder → Holder → Entry → View
turned_two before k n holder met entry = with_turn entry (with_node n met (with_node k holder before))

two-grown : (before : View) (k n ticket : ℕ) (holder met : Holder) (entry : Entry) (waiters others : List Waiter) (new : View) → before.claimed ≡ [] → (k ≡ n → ⊥) → entry.actor ≡ k → entry.target ≡ Some n
    → (a : HoldsNode (turned_two before k n holder met (with_ticket entry ticket)) k) → (t : HoldsNode (turned_two before k n holder met (with_ticket entry ticket)) n)
    → new ≡ with_given a.node waiters (with_given t.node others (turned_two before k n holder met (with_ticket entry ticket)))
    → new ≡ with_draw (with_ticket entry ticket) (with_two (grown k holder (with_ticket entry ticket) waiters) (grown n met (with_ticket entry ticket) others) before)
two-grown before k n ticket holder met entry waiters others new bare apart actor target a t is =
    let e : Entry = with_ticket entry ticket in
    let part : of_cell k (e ∷ []) ≡ e ∷ [] = part-of-actor k e actor in
    let met_part : of_cell n (e ∷ []) ≡ e ∷ [] = part-of-target n e target in
    is ∙ given-two (turned_two before k n holder met e) (with_entry e (claimed_with n met)) (with_entry e (claimed_with k holder)) k n waiters others a t refl refl apart
    (ap (λ (ns : List Claimed). with_entry e (claimed_with n met) ∷ with_entry e (claimed_with k holder) ∷ map (with_entry e) ns) bare)
    ∙ (λ i. record before {
      claimed = sym bare i;
      drawn = with_ticket entry ticket ∷ before.drawn;
      left = before.left - 1;
      given = record { number = k; log = holder.node.log ++ part i; waiters = waiters; found = holder.node.waiters } ∷ record { number = n; log = met.node.log ++ met_part i; waiters = others; found = met.node.waiters } ∷ [];
      taken = plus-two before.taken i;
    })

-- a seat that found another node taken holds what it held
pub one-busy : (before : View) (k n : ℕ) (holder : Holder) (old new : SeatState) → HasOne before k holder old → FindsTaken n old new → HasOne (with_busy n before) k holder new
one-busy before k n holder old new has finds =
    subst (HasOne (with_busy n before) k holder) (sym finds.seat) (record {
      bare = has.bare;
      view = ap (with_busy n) has.view;
      slots = has.slots;
      has_log = has.has_log;
      whole = has.whole;
      stand = record { program = has.stand.program; size = has.stand.size; sound = has.stand.sound; cells = has.stand.cells };
    })

-- what a task's turn meets
pub meets-of : (first : Beginning) (script : List Procedure) (longest : ℕ) (found : Option Task) (asked : Act) (n : ℕ) (onward : Onward) → script ≡ first.script → longest ≡ first.longest → PlansVisit script longest found asked n onward → Meets first found asked n
meets-of first script longest found asked n onward same same_length plans =
    by (subst (λ (t : List Procedure × ℕ). PlansVisit t.0 t.1 found asked n onward) (λ i. (same i, same_length i)) plans)
  where
    by : PlansVisit first.script first.longest found asked n onward → Meets first found asked n
    by p = record {
      task = p.task;
      is = p.is;
      target = p.target;
      number = p.number;
      onward = onward_of (script_lines first.script) (simple_of (state_in first.script p.task).items) onward;
      plans = p.plans;
    }

module _ (first : Beginning) (c : Configuration) (k n : ℕ) (holder : Holder) (asked : Act) (found : Found first c k holder) (meets : Meets first holder.task asked n) where
  task-there : IsTaskOf c k (state_in first.script meets.task)
  task-there = ap (λ (cell : Cell). cell.task) found.stands.at ∙ ap (option_map (state_in first.script)) meets.is

  planned : plan c.program (state_in first.script meets.task) ≡ Visit asked meets.target meets.onward
  planned = ap (λ (p : Program). plan p (state_in first.script meets.task)) found.stands.program ∙ meets.plans

  node-there : MeetsNode c k asked meets.target
  node-there = visit_meets_node c k (state_in first.script meets.task) asked meets.target meets.onward found.stands.sound task-there planned

  -- the node that it meets is one of the table's
  pub target-within : n < length c.cells
  target-within = subst (λ (m : ℕ). m < length c.cells) meets.number node-there.within

  -- where that isn't ready the task can't take its turn
  pub unready-still : is_ready (cell_at c n).state asked ≡ false → can c k ≡ false
  unready-still unready =
      waits-still c k (state_in first.script meets.task) asked meets.target meets.onward task-there planned node-there (ap (λ (m : ℕ). is_ready (cell_at c m).state asked) meets.number ∙ unready)

  -- a task's own node isn't ready for it
  pub itself-unready : n ≡ k → is_ready (cell_at c n).state asked ≡ false
  itself-unready itself = not-true (is_ready (cell_at c n).state asked) (λ ready. node-there.other (ap (λ (m : ℕ). is_ready (cell_at c m).state asked) meets.number ∙ ready) (sym (meets.number ∙ itself)))
    where
      not-true : (b : Bool) → (b ≡ true → ⊥) → b ≡ false
      not-true true h = absurd (h refl)
      not-true false h = refl

-- the entry of a turn shows the act that the task plans
pub shows-act : (c : Configuration) (k ticket : ℕ) (task : TaskState) (asked : Act) (target : Target) (onward : going.Onward) (entry : Entry) → IsTaskOf c k task → plan c.program task ≡ Visit asked target onward
    → entry_in c.program (cell_at c) ticket k ≡ Some entry → entry.act ≡ asked
unfolding entry_in
shows-act c k ticket task asked target onward entry there plans shown =
    by (waits asked) (is_ready (met_state target (cell_at c (number_of target)).state) asked) (sym entry_is ∙ shown)
  where
    entry_is : entry_in c.program (cell_at c) ticket k ≡ option_map (entry_of ticket k task) (visit asked target onward (met_state target (cell_at c (number_of target)).state))
    entry_is = ap (λ (t : Option TaskState). option_and_then (λ (s : TaskState). option_map (entry_of ticket k s) (move_of (cell_at c) (plan c.program s))) t) there
        ∙ ap (λ (p : Plan). option_map (entry_of ticket k task) (move_of (cell_at c) p)) plans

    move : Move
    move = record { act = asked; target = Some target; reply = answer (met_state target (cell_at c (number_of target)).state) asked; onward = onward }

    act-in : Option Entry → Act
    act-in None = asked
    act-in (Some e) = e.act

    by : (w r : Bool) → option_map (entry_of ticket k task) (if w && not r then None else Some move) ≡ Some entry → entry.act ≡ asked
    by true true e = ap act-in (sym e)
    by true false e = absurd (cc)
    by false r e = ap act-in (sym e)

-- an act for which a node is ready isn't the end of a task
pub ready-no_end : (state : State) (asked : Act) → is_ready state asked ≡ true → ends asked ≡ false
unfolding is_ready
ready-no_end state (act.Ended content) ready = absurd (true≢false (sym ready))
ready-no_end state act.Step ready = refl
ready-no_end state (act.Seal l) ready = refl
ready-no_end state (act.Raise op l) ready = refl
ready-no_end state (act.Lower l) ready = refl
ready-no_end state (act.Release source target power content) ready = refl
ready-no_end state (act.Expose source target power content) ready = refl
ready-no_end state (act.NewRef l value) ready = refl
ready-no_end state (act.NewVar l value) ready = refl
ready-no_end state (act.Fork birth) ready = refl
ready-no_end state (act.Spawn birth) ready = refl
ready-no_end state act.Read ready = refl
ready-no_end state (act.Write value) ready = refl
ready-no_end state act.Take ready = refl
ready-no_end state (act.Put value) ready = refl
ready-no_end state act.Wait ready = refl
ready-no_end state (act.Send text) ready = refl

-- those who are woken, where a node changes
some-woken : (changes : Bool) (waiters : List Waiter) → woken_or (if changes then Some waiters else None) ≡ (if changes then waiters else [])
some-woken true waiters = refl
some-woken false waiters = refl

none-woken : (looked : Bool) (waiters : List Waiter) → woken_or (if looked then None else Some waiters) ≡ (if looked then [] else waiters)
none-woken true waiters = refl
none-woken false waiters = refl

-- a turn that meets no other node
pub alone-moved : (before : View) (k ticket : ℕ) (holder : Holder) (entry : Entry) (taken : Option (List Waiter)) (woken : List Waiter) (old new : SeatState) → HasOne before k holder old → MovesAlone k holder old ticket entry taken new → woken ≡ woken_or taken
    → MovedAlone k before ticket None woken new.0
alone-moved before k ticket holder entry taken woken old new has moves is_woken = record {
  whole = has.whole;
  holder = holder;
  found = one-found before k holder old has.whole has has.stand;
  entry = with_ticket entry ticket;
  turn = record {
    shown = moves.shown has.whole has.stand;
    ticket_is = refl;
    actor = moves.actor;
    later = subst (λ (v : View). All (λ b. b.ticket < ticket) v.drawn) has.view moves.later;
    logs = moves.logs;
  };
  target = moves.target;
  born_is = refl;
  woken_is = is_woken ∙ ap woken_or moves.woken ∙ some-woken (ends entry.act) holder.node.waiters;
  view = by (subst (λ (v : View). (h : HoldsNode (with_turn (with_ticket entry ticket) v) k) × (new.0 ≡ with_given h.node waiters (with_turn (with_ticket entry ticket) v))) has.view (moves.holds, moves.view));
}
  where
    waiters : List Waiter
    waiters = if ends entry.act then [] else holder.node.waiters

    by : (h : HoldsNode (turned_one before k holder (with_ticket entry ticket)) k) × (new.0 ≡ with_given h.node waiters (turned_one before k holder (with_ticket entry ticket)))
        → new.0 ≡ with_draw (with_ticket entry ticket) (with_one (grown k holder (with_ticket entry ticket) waiters) before)
    by (h, is) = one-grown before k ticket holder entry waiters new.0 has.bare moves.actor h is

-- a turn that meets another node
pub meeting-moved : (before : View) (k n ticket : ℕ) (holder found : Holder) (asked : Act) (entry : Entry) (taken met_taken : Option (List Waiter)) (born : Option ℕ) (woken : List Waiter) (old new : SeatState) → HasTwo before k n holder found old
    → MovesBoth k n holder found old ticket entry taken met_taken new → Meets before.first holder.task asked n → is_ready found.node.state asked ≡ true → born ≡ born_at entry.act entry.target → woken ≡ woken_or met_taken
    → MovedMeeting k n before ticket born woken new.0
meeting-moved before k n ticket holder found asked entry taken met_taken born woken old new has moves meets ready is_born is_woken = record {
  apart = has.apart;
  within = has.within;
  whole = has.whole;
  holder = holder;
  met = found;
  found = found_here;
  met_found = two-met_found before k n holder found old has.whole has has.stand;
  entry = with_ticket entry ticket;
  turn = record {
    shown = moves.shown has.whole has.stand;
    ticket_is = refl;
    actor = moves.actor_is;
    later = subst (λ (v : View). All (λ b. b.ticket < ticket) v.drawn) has.view moves.later;
    logs = moves.logs;
  };
  target = moves.target_is;
  met_logs = moves.met_logs;
  born_is = is_born ∙ ap (born_at entry.act) moves.target_is;
  woken_is = is_woken ∙ ap woken_or moves.met_woken ∙ none-woken (looks entry.act) found.node.waiters;
  view = by (subst (λ (v : View). (a : HoldsNode (with_turn (with_ticket entry ticket) v) k) × (t : HoldsNode (with_turn (with_ticket entry ticket) v) n)
      × (new.0 ≡ with_given a.node (if ends entry.act then [] else holder.node.waiters) (with_given t.node others (with_turn (with_ticket entry ticket) v)))) has.view (moves.actor, moves.target, moves.view));
}
  where
    others : List Waiter
    others = if looks entry.act then found.node.waiters else []

    found_here : Found before.first has.whole k holder
    found_here = two-found before k n holder found old has.whole has has.stand

    no_end : ends entry.act ≡ false
    no_end = ap ends (shows-act has.whole k ticket (state_in before.first.script meets.task) asked meets.target meets.onward (with_ticket entry ticket)
        (task-there before.first has.whole k n holder asked found_here meets) (planned before.first has.whole k n holder asked found_here meets) (moves.shown has.whole has.stand))
        ∙ ready-no_end found.node.state asked ready

    by : (a : HoldsNode (turned_two before k n holder found (with_ticket entry ticket)) k) × (t : HoldsNode (turned_two before k n holder found (with_ticket entry ticket)) n)
        × (new.0 ≡ with_given a.node (if ends entry.act then [] else holder.node.waiters) (with_given t.node others (turned_two before k n holder found (with_ticket entry ticket))))
        → new.0 ≡ with_draw (with_ticket entry ticket) (with_two (grown k holder (with_ticket entry ticket) holder.node.waiters) (grown n found (with_ticket entry ticket) others) before)
    by (a, t, is) =
        two-grown before k n ticket holder found entry holder.node.waiters others new.0 has.bare has.apart moves.actor_is moves.target_is a t
        (is ∙ ap (λ (b : Bool). with_given a.node (if b then [] else holder.node.waiters) (with_given t.node others (turned_two before k n holder found (with_ticket entry ticket)))) no_end)
