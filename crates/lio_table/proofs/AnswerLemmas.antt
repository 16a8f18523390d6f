-- What a turn answers, and what a seat keeps after it.
use Rattle.std.proofs.Common.{◌≡◌, inl, inr, ◌∙◌, refl, sym, ap, subst, arith, ℕ, ◌+◌, ◌-◌, ◌<◌, ◌≤◌, List, [], ◌∷◌, length, Contains, Option, Some, None, true, false, if◌then◌else◌}
use Rattle.std.specs.Option.{option_map}
use Rattle.lio_values.specs.declared.act.Act.{Act}
use Rattle.lio_values.specs.declared.entry.Entry.{Entry}
use Rattle.lio_cells.specs.declared.waiter.Waiter.{Waiter}
use Rattle.lio_cells.specs.State.{ready as is_ready}
use Rattle.lio_syntax.specs.Statements.{Procedure}
use Rattle.lio_calculus.specs.Plan.{Over, Program, plan}
use Rattle.lio_calculus.specs.Step.{Cell, cell_at}
use Rattle.lio_task.specs.declared.task.Task.{Task}
use Rattle.lio_task.specs.StateOf.{state_in}
use Rattle.lio_task_turns.specs.declared.turn.Onward.{Onward}
use Rattle.lio_task_turns.specs.StateOf.{program_of}
use Rattle.lio_task.specs.declared.config.Holder.{Holder}
use Rattle.lio_task.specs.Takes.{PlansVisit}
use Rattle.lio_task.specs.Turns.{ends, looks}
use Rattle.lio_task.proofs.MoveLemmas.{no-task-still, over-still}
use Rattle.lio_table.specs.declared.view.Beginning.{Beginning}
use Rattle.lio_table.specs.declared.view.Claimed.{Claimed}
use Rattle.lio_table.specs.declared.view.View.{View}
use Rattle.lio_table.specs.Views.{HoldsNode, rights}
use Rattle.lio_table.specs.Steps.{FindsTaken, SeatState, with_busy, with_ticket}
use Rattle.lio_table.specs.declared.table.Table.{Table}
use Rattle.lio_table.specs.declared.turn.TurnEnd.{TurnEnd}
use Rattle.lio_table.specs.declared.turn.TurnEnd.TheVariants.{Moved, Busy, Still}
use Rattle.lio_table.specs.declared.turn.TurnEnd.TheVariants as turn_end
use Rattle.lio_table.specs.Holders.{PutsBack}
use Rattle.lio_table.specs.Moves.{MovesAlone, MovesBoth, ReturnsBoth, ReturnsNode}
use Rattle.lio_table.specs.Seats.{AreOut, HaveNumbers}
use Rattle.lio_table.specs.Tables.{first_of}
use Rattle.lio_table.specs.Taken.{EndsTurn, HasOne, HasTwo, RefusesTurn, tickets_of, woken_or}
use Rattle.lio_task.specs.Outcome.{born_at}
use Rattle.lio_table.specs.Turns.{Found, Meets, TurnRefused, TurnSays, grown, returned, returned_with, with_draw, with_one, with_two}
use Rattle.lio_table.specs.Waits.{LeavesBoth, waiting_with}
use Rattle.lio_table.proofs.EndLemmas.{alone-moved, itself-unready, meeting-moved, meets-of, one-busy, one-found, one-returned, slot-back, slots-back, target-within, two-found, two-left, two-met_found, unready-still}
use Rattle.lio_table.proofs.OverLemmas.{over-ended}
use Rattle.lio_table.proofs.SeatLemmas.{no-node, numbers-none, out-none}

-- what the table began with, as a seat's view before the turn has it
one-first : (before : View) (k : ℕ) (holder : Holder) (seat : SeatState) (table : Table) → HasOne before k holder seat → seat.0.first ≡ first_of table → first_of table ≡ before.first
one-first before k holder seat table has first = sym first ∙ ap (λ (v : View). v.first) has.view

two-first : (before : View) (k n : ℕ) (holder met : Holder) (seat : SeatState) (table : Table) → HasTwo before k n holder met seat → seat.0.first ≡ first_of table → first_of table ≡ before.first
two-first before k n holder met seat table has first = sym first ∙ ap (λ (v : View). v.first) has.view

-- what a task's turn meets
pub meets-here : (before : View) (k : ℕ) (holder : Holder) (seat : SeatState) → HasOne before k holder seat → (table : Table) (script : List Procedure) (asked : Act) (n : ℕ) (onward : Onward) → seat.0.first ≡ first_of table
    → script ≡ (first_of table).script → PlansVisit script table.longest holder.task asked n onward → Meets before.first holder.task asked n
meets-here before k holder seat has table script asked n onward first same plans =
    let is : first_of table ≡ before.first = one-first before k holder seat table has first in
    meets-of before.first script table.longest holder.task asked n onward (same ∙ ap (λ (f : Beginning). f.script) is) (sym table.texts ∙ ap (λ (f : Beginning). f.longest) is) plans

pub meets-both : (before : View) (k n : ℕ) (holder met : Holder) (seat : SeatState) → HasTwo before k n holder met seat → (table : Table) (script : List Procedure) (asked : Act) (onward : Onward) → seat.0.first ≡ first_of table
    → script ≡ (first_of table).script → PlansVisit script table.longest holder.task asked n onward → Meets before.first holder.task asked n
meets-both before k n holder met seat has table script asked onward first same plans =
    let is : first_of table ≡ before.first = two-first before k n holder met seat table has first in
    meets-of before.first script table.longest holder.task asked n onward (same ∙ ap (λ (f : Beginning). f.script) is) (sym table.texts ∙ ap (λ (f : Beginning). f.longest) is) plans

-- that node is one of the table's
pub target-inside : (before : View) (k : ℕ) (holder : Holder) (seat : SeatState) → HasOne before k holder seat → (table : Table) (script : List Procedure) (asked : Act) (n : ℕ) (onward : Onward) → seat.0.first ≡ first_of table
    → script ≡ (first_of table).script → PlansVisit script table.longest holder.task asked n onward → n < table.len
target-inside before k holder seat has table script asked n onward first same plans =
    subst (λ (l : ℕ). n < l) (has.stand.size ∙ ap (λ (f : Beginning). length f.holders) first ∙ table.holders)
    (target-within before.first has.whole k n holder asked (one-found before k holder seat has.whole has has.stand) (meets-here before k holder seat has table script asked n onward first same plans))

pub within-holders : (before : View) (k n : ℕ) (holder : Holder) (seat : SeatState) → HasOne before k holder seat → (table : Table) → seat.0.first ≡ first_of table → n < table.len → n < length before.first.holders
within-holders before k n holder seat has table first inside =
    subst (λ (l : ℕ). n < l) (sym table.holders ∙ ap (λ (f : Beginning). length f.holders) (one-first before k holder seat table has first)) inside

-- a seat that found a node taken has tickets as before
pub some-busy : (n : ℕ) (old new : SeatState) → 0 < old.0.left → FindsTaken n old new → 0 < rights new.0
some-busy n old new some finds = subst (λ (s : SeatState). 0 < rights s.0) (sym finds.seat) (omega (arith, some))

-- a seat that holds nothing
pub free-seat : (n : ℕ) (seat : SeatState) → seat.0.claimed ≡ [] → HoldsNode seat.0 n → ⊥
free-seat n seat bare holds = no-node holds.node (subst (λ (ns : List Claimed). Contains ns holds.node) bare holds.has)

-- what a turn answers that isn't taken: no slot is out with the seat, and no ticket was drawn
abbrev pub StaysTurn : ℕ → View → TurnEnd → SeatState → Type 0
StaysTurn k before end seat = TurnSays k before end seat.0 × (seat.1 ≡ []) × (seat.0.drawn ≡ before.drawn)

-- the node of a task was found taken
pub start-busy : (k : ℕ) (old new : SeatState) → old.1 ≡ [] → FindsTaken k old new → StaysTurn k old.0 (Busy k) new
start-busy k old new none finds =
    subst (StaysTurn k old.0 (Busy k)) (sym finds.seat) (inl (refl, record { not_alone = finds.not_alone; view = refl }), none, refl)

-- an entry that has its ticket
own-ticket : (before : View) (ticket : ℕ) (entry : Entry) → entry.ticket ≡ ticket → with_ticket entry ticket ∷ before.drawn ≡ entry ∷ before.drawn
own-ticket before ticket entry is = ap (λ (t : ℕ). with_ticket entry t ∷ before.drawn) (sym is)

module _ (before : View) (k : ℕ) (holder : Holder) (old : SeatState) (has : HasOne before k holder old) where
  found-here : Found before.first has.whole k holder
  found-here = one-found before k holder old has.whole has has.stand

  -- there is no task
  pub none-over : (new : SeatState) → holder.task ≡ None → PutsBack k holder old new → StaysTurn k before (turn_end.Over k) new
  none-over new none put = (
    (
      refl,
      record {
        whole = has.whole;
        holder = holder;
        found = found-here;
        over = λ task is. absurd (no-task (sym none ∙ is));
        still = no-task-still has.whole k (ap (λ (cell : Cell). cell.task) found-here.stands.at ∙ ap (option_map (state_in before.first.script)) none);
        view = one-returned before k holder old new has put.holds put.view;
      },
    ),
    slot-back k old.1 new.1 has.slots put.slots,
    ap (λ (v : View). v.drawn) (one-returned before k holder old new has put.holds put.view),
  )
    where
      no-task : {task : Task} → None ≡ Some task → ⊥
      no-task e = absurd (cc)

  -- the task has ended
  pub ended-over : (new : SeatState) (script : List Procedure) (longest : ℕ) (task : Task) → script ≡ before.first.script → longest ≡ before.first.longest → holder.task ≡ Some task → Over ≡ plan (program_of script longest) (state_in script task)
      → PutsBack k holder old new → StaysTurn k before (turn_end.Over k) new
  ended-over new script longest task same same_length is over put = (
    (
      refl,
      record {
        whole = has.whole;
        holder = holder;
        found = found-here;
        over = λ other there. ap (λ (t : Task). t.ended) (same-task (sym there ∙ is)) ∙ over-ended (program_of before.first.script before.first.longest) (state_in before.first.script task) here;
        still = over-still has.whole k (state_in before.first.script task) (ap (λ (cell : Cell). cell.task) found-here.stands.at ∙ ap (option_map (state_in before.first.script)) is)
            (here ∙ ap (λ (p : Program). plan p (state_in before.first.script task)) (sym found-here.stands.program));
        view = one-returned before k holder old new has put.holds put.view;
      },
    ),
    slot-back k old.1 new.1 has.slots put.slots,
    ap (λ (v : View). v.drawn) (one-returned before k holder old new has put.holds put.view),
  )
    where
      here : Over ≡ plan (program_of before.first.script before.first.longest) (state_in before.first.script task)
      here = subst (λ (t : List Procedure × ℕ). Over ≡ plan (program_of t.0 t.1) (state_in t.0 task)) (λ i. (same i, same_length i)) over

      same-task : {one other : Task} → Some one ≡ Some other → one ≡ other
      same-task e = cc

  -- memory was refused
  pub one-refused : (new : SeatState) → PutsBack k holder old new → RefusesTurn k before new
  one-refused new put = (
    inl (inr (record { holder = holder; has_log = has.has_log; view = one-returned before k holder old new has put.holds put.view })),
    slot-back k old.1 new.1 has.slots put.slots,
  )

  pub own-refused : (new : SeatState) → ReturnsNode k holder old new → RefusesTurn k before new
  own-refused new put = (
    inl (inr (record { holder = holder; has_log = has.has_log; view = one-returned before k holder old new has put.holds put.view })),
    slot-back k old.1 new.1 has.slots put.slots,
  )

  -- the turn meets no other node
  pub own-moved : (new : SeatState) (ticket : ℕ) (entry : Entry) (taken : Option (List Waiter)) (woken : List Waiter) → MovesAlone k holder old ticket entry taken new → woken ≡ woken_or taken → EndsTurn k before (Moved ticket None woken) entry new
  own-moved new ticket entry taken woken moves is = (
    inl (alone-moved before k ticket holder entry taken woken old new has moves is),
    slot-back k old.1 new.1 has.slots moves.slots,
    ap (λ (v : View). v.drawn) moves.view ∙ ap (λ (v : View). with_ticket entry ticket ∷ v.drawn) has.view ∙ own-ticket before ticket entry moves.ticket_is,
  )

  -- the turn meets the task's own node
  pub itself-still : (new : SeatState) (n : ℕ) (asked : Act) → n ≡ k → Meets before.first holder.task asked n → PutsBack k holder old new → StaysTurn k before (Still k) new
  itself-still new n asked is meets put =
      let unready : is_ready (cell_at has.whole n).state asked ≡ false = itself-unready before.first has.whole k n holder asked found-here meets is in (
        (
          refl,
          inl (record {
            whole = has.whole;
            holder = holder;
            found = found-here;
            asked = asked;
            meets = subst (Meets before.first holder.task asked) is meets;
            unready = ap (λ (cell : Cell). is_ready cell.state asked) (sym found-here.stands.at) ∙ ap (λ (m : ℕ). is_ready (cell_at has.whole m).state asked) (sym is) ∙ unready;
            still = unready-still before.first has.whole k n holder asked found-here meets unready;
            view = one-returned before k holder old new has put.holds put.view;
          }),
        ),
        slot-back k old.1 new.1 has.slots put.slots,
        ap (λ (v : View). v.drawn) (one-returned before k holder old new has put.holds put.view),
      )

  -- the node that the turn meets was found taken
  pub target-busy : (mid new : SeatState) (n : ℕ) (asked : Act) → (k ≡ n → ⊥) → Meets before.first holder.task asked n → FindsTaken n old mid → PutsBack k holder mid new → StaysTurn k before (Busy n) new
  target-busy mid new n asked apart meets finds put =
      let busy : HasOne (with_busy n before) k holder mid = one-busy before k n holder old mid has finds in (
        inr (record {
          apart = apart;
          whole = has.whole;
          holder = holder;
          found = found-here;
          asked = asked;
          meets = meets;
          not_alone = λ all. finds.not_alone (ap rights has.view ∙ all);
          view = one-returned (with_busy n before) k holder mid new busy put.holds put.view;
        }),
        slot-back k mid.1 new.1 busy.slots put.slots,
        ap (λ (v : View). v.drawn) (one-returned (with_busy n before) k holder mid new busy put.holds put.view),
      )

-- the same, with what the table knows
pub over-here : (before : View) (k : ℕ) (holder : Holder) (old : SeatState) → HasOne before k holder old → (table : Table) (script : List Procedure) (task : Task) (new : SeatState) → old.0.first ≡ first_of table → script ≡ (first_of table).script
    → holder.task ≡ Some task → Over ≡ plan (program_of script table.longest) (state_in script task) → PutsBack k holder old new → StaysTurn k before (turn_end.Over k) new
over-here before k holder old has table script task new first same is over put =
    let there : first_of table ≡ before.first = one-first before k holder old table has first in
    ended-over before k holder old has new script table.longest task (same ∙ ap (λ (f : Beginning). f.script) there) (sym table.texts ∙ ap (λ (f : Beginning). f.longest) there) is over put

module _ (before : View) (k n : ℕ) (holder met : Holder) (old : SeatState) (has : HasTwo before k n holder met old) where
  actor-here : Found before.first has.whole k holder
  actor-here = two-found before k n holder met old has.whole has has.stand

  target-here : Found before.first has.whole n met
  target-here = two-met_found before k n holder met old has.whole has has.stand

  -- the node that the turn meets isn't ready
  pub target-still : (new : SeatState) (asked : Act) → Meets before.first holder.task asked n → is_ready met.node.state asked ≡ false → LeavesBoth k n holder met asked old new → StaysTurn k before (Still k) new
  target-still new asked meets unready put = (
    (
      refl,
      inr (
        n,
        record {
          apart = has.apart;
          whole = has.whole;
          holder = holder;
          met = met;
          found = actor-here;
          met_found = target-here;
          asked = asked;
          meets = meets;
          unready = unready;
          still = unready-still before.first has.whole k n holder asked actor-here meets (ap (λ (cell : Cell). is_ready cell.state asked) target-here.stands.at ∙ unready);
          view = two-left before k n holder met (waiting_with k asked met.node.waiters) old new has put.target put.actor put.view;
        },
      ),
    ),
    slots-back k n old.1 new.1 has.slots put.slots,
    ap (λ (v : View). v.drawn) (two-left before k n holder met (waiting_with k asked met.node.waiters) old new has put.target put.actor put.view),
  )

  -- the turn was taken
  pub meet-moved : (new : SeatState) (ticket : ℕ) (asked : Act) (entry : Entry) (taken met_taken : Option (List Waiter)) (born : Option ℕ) (woken : List Waiter) → MovesBoth k n holder met old ticket entry taken met_taken new
      → Meets before.first holder.task asked n → is_ready met.node.state asked ≡ true → born ≡ born_at entry.act entry.target → woken ≡ woken_or met_taken → EndsTurn k before (Moved ticket born woken) entry new
  meet-moved new ticket asked entry taken met_taken born woken moves meets ready is_born is_woken = (
    inr (n, meeting-moved before k n ticket holder met asked entry taken met_taken born woken old new has moves meets ready is_born is_woken),
    slots-back k n old.1 new.1 has.slots moves.slots,
    ap (λ (v : View). v.drawn) moves.view ∙ ap (λ (v : View). with_ticket entry ticket ∷ v.drawn) has.view ∙ own-ticket before ticket entry moves.ticket_is,
  )

  -- memory was refused
  pub two-refused : (new : SeatState) → ReturnsBoth k n holder met old new → RefusesTurn k before new
  two-refused new put = (
    inr (n, record { apart = has.apart; holder = holder; met = met; has_log = has.has_log; met_has_log = has.met_has_log; view = two-left before k n holder met met.node.waiters old new has put.target put.actor put.view }),
    slots-back k n old.1 new.1 has.slots put.slots,
  )

-- what a seat keeps, of whose tickets so many were drawn
pub record AfterTurn (old new : View) (spent : ℕ) : Type 0 where
  pub first : new.first ≡ old.first
  pub claimed : new.claimed ≡ old.claimed
  pub few : spent ≤ old.left
  pub left : new.left ≡ old.left - spent
  pub used : 0 < rights new
  pub same_rights : rights new ≡ rights old

after-same : (old new view : View) → 0 < old.left → view.first ≡ old.first → view.claimed ≡ old.claimed → view.left ≡ old.left → view.drawn ≡ old.drawn → new ≡ view → AfterTurn old new 0
after-same old new view some first claimed left drawn is = subst (λ (v : View). AfterTurn old v 0) (sym is) (record {
  first = first;
  claimed = claimed;
  few = omega arith;
  left = left ∙ minus-none old.left;
  used = omega (arith, some, left);
  same_rights = λ i. length (drawn i) + left i;
})
  where
    minus-none : (m : ℕ) → m ≡ m - 0
    minus-none m = omega arith

after-draw : (old new view : View) (entry : Entry) → 0 < old.left → view.first ≡ old.first → view.claimed ≡ old.claimed → view.left ≡ old.left → view.drawn ≡ old.drawn → new ≡ with_draw entry view → AfterTurn old new 1
after-draw old new view entry some first claimed left drawn is =
    let many : length view.drawn ≡ length old.drawn = ap (λ (entries : List Entry). length entries) drawn in
    subst (λ (v : View). AfterTurn old v 1) (sym is) (record {
      first = first;
      claimed = claimed;
      few = omega (arith, some);
      left = ap (λ (m : ℕ). m - 1) left;
      used = omega arith;
      same_rights = omega (arith, some, left, many);
    })

pub says-after : (k : ℕ) (old new : View) (end : TurnEnd) → 0 < old.left → TurnSays k old end new → AfterTurn old new (tickets_of end)
says-after k old new (Moved ticket born woken) some (inl m) =
    after-draw old new (with_one (grown k m.holder m.entry (if ends m.entry.act then [] else m.holder.node.waiters)) old) m.entry some refl refl refl refl m.view
says-after k old new (Moved ticket born woken) some (inr (n, m)) =
    after-draw old new (with_two (grown k m.holder m.entry m.holder.node.waiters) (grown n m.met m.entry (if looks m.entry.act then m.met.node.waiters else [])) old) m.entry some refl refl refl refl m.view
says-after k old new (Busy n) some (inl (is, b)) = after-same old new (with_busy k old) some refl refl refl refl b.view
says-after k old new (Busy n) some (inr b) = after-same old new (with_one (returned k b.holder) (with_busy n old)) some refl refl refl refl b.view
says-after k old new (Still n) some (is, inl s) = after-same old new (with_one (returned k s.holder) old) some refl refl refl refl s.view
says-after k old new (Still n) some (is, inr (m, s)) = after-same old new (with_two (returned k s.holder) (returned_with m s.met (waiting_with k s.asked s.met.node.waiters)) old) some refl refl refl refl s.view
says-after k old new (turn_end.Over n) some (is, o) = after-same old new (with_one (returned k o.holder) old) some refl refl refl refl o.view

pub refused-after : (k : ℕ) (old new : View) → 0 < old.left → TurnRefused k old new → AfterTurn old new 0
refused-after k old new some (inl (inl is)) = after-same old new old some refl refl refl refl is
refused-after k old new some (inl (inr r)) = after-same old new (with_one (returned k r.holder) old) some refl refl refl refl r.view
refused-after k old new some (inr (n, r)) = after-same old new (with_two (returned k r.holder) (returned n r.met) old) some refl refl refl refl r.view

-- a seat whose tickets so many were drawn is one of the table, and keeps what it has to
pub out-after : (old new : SeatState) (spent : ℕ) → old.0.claimed ≡ [] → AfterTurn old.0 new.0 spent → new.1 ≡ [] → AreOut new.0.first new.0.claimed new.1
out-after old new spent bare after none =
    subst (λ (t : List Claimed × List (ℕ × Option Holder)). AreOut new.0.first t.0 t.1) (λ i. (sym (after.claimed ∙ bare) i, sym none i)) (out-none new.0.first)

pub numbers-after : (last other : ℕ) (old new : View) (spent : ℕ) → old.claimed ≡ [] → AfterTurn old new spent → HaveNumbers last other new.claimed
numbers-after last other old new spent bare after = subst (HaveNumbers last other) (sym (after.claimed ∙ bare)) (numbers-none last other)

-- the number of tickets that a seat has left
pub few-after : (left spent n : ℕ) (old new : View) → left ≡ old.left → spent ≡ n → AfterTurn old new n → spent ≤ left
few-after left spent n old new counted is after = subst (λ (t : ℕ × ℕ). t.0 ≤ t.1) (λ i. (sym is i, sym counted i)) after.few

pub left-after : (left spent n : ℕ) (old new : View) → left ≡ old.left → spent ≡ n → AfterTurn old new n → left - spent ≡ new.left
left-after left spent n old new counted is after = (λ i. counted i - is i) ∙ sym after.left

pub left-same : (left : ℕ) (old new : View) → left ≡ old.left → AfterTurn old new 0 → left ≡ new.left
left-same left old new counted after = let same = after.left in omega (arith, counted, same)
