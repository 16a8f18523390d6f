-- A turn that meets another node, both of which a seat holds.
use Rattle.std.proofs.Common.{◌≡◌, ◌∙◌, refl, sym, ap, subst, ℕ, ◌<◌, List, [], ◌∷◌, ◌++◌, All, Option, Some, None, if◌then◌else◌}
use Rattle.lio_values.specs.declared.entry.Entry.{Entry}
use Rattle.lio_cells.specs.declared.waiter.Waiter.{Waiter}
use Rattle.lio_cells.specs.Node.{IsReadyFor}
use Rattle.lio_syntax.specs.Statements.{Procedure}
use Rattle.lio_calculus.specs.Effect.{acted, entry_in, served}
use Rattle.lio_calculus.specs.Step.{Configuration, cell_at}
use Rattle.lio_task.specs.declared.task.Task.{Task}
use Rattle.lio_task_turns.specs.StateOf.{program_of}
use Rattle.lio_task.specs.declared.config.Holder.{Holder}
use Rattle.lio_task.specs.Configuration.{cell_of}
use Rattle.lio_task.specs.Turns.{AreAsBefore, PreparedMeeting, Recorded, RecordedMet}
use Rattle.lio_task.specs.Turns as turns
use Rattle.lio_task.proofs.LentLemmas.{recorded-acted, recorded-served}
use Rattle.lio_table.specs.Views.{HoldsNode, StandIn}
use Rattle.lio_table.specs.Steps.{CanRecord, DrawsTicket, SeatState, with_given, with_ticket, with_turn}
use Rattle.lio_table.specs.Holders.{CanPutBoth, PutsBoth, Stand}
use Rattle.lio_table.specs.Moves.{MovesBoth, ReturnsBoth}
use Rattle.lio_table.proofs.TurnLemmas.{HeldGrown, applied-actor, applied-other, held-grown, holder-job, part-of-actor, part-of-target, stands-in}

some-same : {a b : ℕ} → Some a ≡ Some b → a ≡ b
some-same e = cc

-- the same with holders that are lent out
pub both-lent : (k n : ℕ) (holder old met was : Holder) (me : SeatState) → old ≡ holder → was ≡ met → CanPutBoth k n holder met me → CanPutBoth k n old was me
both-lent k n holder old met was me one two can = subst (λ (t : Holder × Holder). CanPutBoth k n t.0 t.1 me) (λ i. (sym one i, sym two i)) can

module _ (script : List Procedure) (k n : ℕ) (old mid was room : Holder) (me : SeatState) (same : script ≡ me.0.first.script) (can : CanPutBoth k n old was me) (left : 0 < me.0.left) (entry : Entry) (child : Option Task)
    (prepared : PreparedMeeting script me.0.first.longest old mid was room k n entry child) where
  shows : (c : Configuration) → StandIn me.0 c → (ticket : ℕ) → entry_in c.program (cell_at c) ticket k ≡ Some (with_ticket entry ticket)
  shows c stand ticket =
      prepared.actor.shown c (stands-in script k old me same can.actor can.has_log c stand) (stands-in script n was me same can.target can.met_has_log c stand) ticket

  pub meeting-can_record : CanRecord entry me.0
  meeting-can_record = record {
    left = left;
    apart = λ is. can.apart (sym prepared.actor.actor ∙ some-same (sym is ∙ prepared.actor.meets));
    actor = subst (HoldsNode me.0) (sym prepared.actor.actor) can.actor;
    target = λ m is. subst (HoldsNode me.0) (some-same (sym prepared.actor.meets ∙ is)) can.target;
    shown = λ c stand ticket. subst (λ j. entry_in c.program (cell_at c) ticket j ≡ Some (with_ticket entry ticket)) (sym prepared.actor.actor) (shows c stand ticket);
  }

  module _ (ticket : ℕ) (after : SeatState) (draws : DrawsTicket entry me ticket after) where
    -- tickets in the logs are lower
    actor-later : (log : List Entry) → log ≡ old.node.log → All (λ before. before.ticket < ticket) log
    actor-later log is = subst (All (λ before. before.ticket < ticket)) (sym (is ∙ can.has_log.log)) (draws.logs can.actor.node can.actor.has)

    target-later : (log : List Entry) → log ≡ was.node.log → All (λ before. before.ticket < ticket) log
    target-later log is = subst (All (λ before. before.ticket < ticket)) (sym (is ∙ can.met_has_log.log)) (draws.logs can.target.node can.target.has)

    -- so both nodes can record the turn
    pub meeting-records : (mid' : Holder) (task : Task) → mid' ≡ mid → Stand me.0 → old.task ≡ Some task → turns.CanRecord mid'.node ticket
    meeting-records mid' task is stand has = record {
      entry = entry;
      is_ready = subst (λ (h : Holder). IsReadyFor h.node entry) (sym is) prepared.actor.is_ready;
      job = holder-job script k old task mid'.node.state me.0.first.longest stand.0 (stands-in script k old me same can.actor can.has_log stand.0 stand.1) has (ap (λ (h : Holder). h.node.state) is ∙ prepared.actor.state);
      later = actor-later mid'.node.log (ap (λ (h : Holder). h.node.log) is ∙ prepared.actor.log);
    }

    pub meeting-records-met : (room' : Holder) → room' ≡ room → turns.CanRecordMet room'.node ticket
    meeting-records-met room' is = subst (λ (h : Holder). turns.CanRecordMet h.node ticket) (sym is) (record {
      entry = entry;
      is_ready = prepared.met.is_ready;
      takes_part = prepared.met.takes_part;
      later = target-later room.node.log prepared.met.log;
    })

    module _ (mid' now room' met : Holder) (woken met_woken : Option (List Waiter)) (is : mid' ≡ mid) (met_is : room' ≡ room) (records : (e : Entry) → IsReadyFor mid'.node e → Recorded mid' now e ticket woken)
        (serves : (e : Entry) → IsReadyFor room'.node e → RecordedMet room' met e ticket child met_woken) where
      recorded : Recorded mid now entry ticket woken
      recorded = subst (λ (h : Holder). (e : Entry) → IsReadyFor h.node e → Recorded h now e ticket woken) is records entry prepared.actor.is_ready

      met-recorded : RecordedMet room met entry ticket child met_woken
      met-recorded = subst (λ (h : Holder). (e : Entry) → IsReadyFor h.node e → RecordedMet h met e ticket child met_woken) met_is serves entry prepared.met.is_ready

      mine : HeldGrown (with_ticket entry ticket) k now me
      mine = held-grown k ticket entry old now me can.actor can.has_log (part-of-actor k (with_ticket entry ticket) prepared.actor.actor)
          (recorded.log ∙ ap (λ (l : List Entry). l ++ with_ticket entry ticket ∷ []) (prepared.actor.log ∙ can.has_log.log))
          (subst (λ (s : List Procedure). cell_of s now ≡ acted (program_of s me.0.first.longest) entry (cell_of s old)) same
          (recorded-acted script me.0.first.longest _ old mid now k (Some n) entry prepared.actor (recorded.cell script))
          ∙ sym (applied-actor (program_of me.0.first.script me.0.first.longest) k (with_ticket entry ticket) (cell_of me.0.first.script old) prepared.actor.actor))

      its : HeldGrown (with_ticket entry ticket) n met me
      its = held-grown n ticket entry was met me can.target can.met_has_log (part-of-target n (with_ticket entry ticket) prepared.actor.meets)
          (met-recorded.log ∙ ap (λ (l : List Entry). l ++ with_ticket entry ticket ∷ []) (prepared.met.log ∙ can.met_has_log.log))
          (subst (λ (s : List Procedure). cell_of s met ≡ served (program_of s me.0.first.longest) entry (cell_of s was)) same
          (recorded-served script me.0.first.longest was room met entry child prepared.met (met-recorded.cell script))
          ∙ sym (applied-other (program_of me.0.first.script me.0.first.longest) n (with_ticket entry ticket) (cell_of me.0.first.script was) (λ e. can.apart (sym prepared.actor.actor ∙ e))))

      pub meeting-put : CanPutBoth k n now met after
      meeting-put = subst (CanPutBoth k n now met) (sym draws.seat) (record {
        apart = can.apart;
        rest = can.rest;
        slots = can.slots;
        actor = mine.holds;
        target = its.holds;
        has_log = mine.has_log;
        met_has_log = its.has_log;
      })

      -- once both nodes are given back
      pub meeting-moved : (holder found : Holder) (new : SeatState) → old ≡ holder → was ≡ found → PutsBoth k n now met after new → MovesBoth k n holder found me ticket (with_ticket entry ticket) woken met_woken new
      meeting-moved holder found new same_old same_met put = by (subst (λ (m : SeatState). PutsBoth k n now met m new) draws.seat put)
        where
          waited : mid.node.waiters ≡ holder.node.waiters
          waited = prepared.actor.waiters ∙ ap (λ (h : Holder). h.node.waiters) same_old

          met-waited : room.node.waiters ≡ found.node.waiters
          met-waited = prepared.met.waiters ∙ ap (λ (h : Holder). h.node.waiters) same_met

          by : PutsBoth k n now met (with_turn (with_ticket entry ticket) me.0, me.1) new → MovesBoth k n holder found me ticket (with_ticket entry ticket) woken met_woken new
          by p = record {
            shown = λ c stand. shows c stand ticket;
            ticket_is = refl;
            actor_is = prepared.actor.actor;
            target_is = prepared.actor.meets;
            later = draws.draws;
            logs = actor-later holder.node.log (ap (λ (h : Holder). h.node.log) (sym same_old));
            met_logs = target-later found.node.log (ap (λ (h : Holder). h.node.log) (sym same_met));
            slots = p.slots;
            target = p.target;
            actor = p.actor;
            view = p.view ∙ (λ i. with_given p.actor.node ((recorded.waiters ∙ ap (λ (ws : List Waiter). if turns.ends entry.act then [] else ws) waited) i)
                (with_given p.target.node ((met-recorded.waiters ∙ ap (λ (ws : List Waiter). if turns.looks entry.act then ws else []) met-waited) i) (with_turn (with_ticket entry ticket) me.0)));
            woken = recorded.taken ∙ ap (λ (ws : List Waiter). if turns.ends entry.act then Some ws else None) waited;
            met_woken = met-recorded.taken ∙ ap (λ (ws : List Waiter). if turns.looks entry.act then None else Some ws) met-waited;
          }

-- two holders that are as before can be put back
pub both-same-put : (script : List Procedure) (k n : ℕ) (old mid was room : Holder) (me : SeatState) → script ≡ me.0.first.script → CanPutBoth k n old was me → AreAsBefore script old mid was room → CanPutBoth k n mid room me
both-same-put script k n old mid was room me same can before = record {
  apart = can.apart;
  rest = can.rest;
  slots = can.slots;
  actor = can.actor;
  target = can.target;
  has_log = record { log = before.actor.log ∙ can.has_log.log; cell = subst (λ (s : List Procedure). cell_of s mid ≡ cell_of s old) same before.actor.cell ∙ can.has_log.cell };
  met_has_log = record { log = before.met.log ∙ can.met_has_log.log; cell = subst (λ (s : List Procedure). cell_of s room ≡ cell_of s was) same before.met.cell ∙ can.met_has_log.cell };
}

-- and then are given back as they were
pub both-returned : (script : List Procedure) (k n : ℕ) (holder old mid met was room : Holder) (me new : SeatState) → old ≡ holder → was ≡ met → AreAsBefore script old mid was room → PutsBoth k n mid room me new → ReturnsBoth k n holder met me new
both-returned script k n holder old mid met was room me new one two before put = record {
  slots = put.slots;
  target = put.target;
  actor = put.actor;
  view = put.view ∙ (λ i. with_given put.actor.node ((before.actor.waiters ∙ ap (λ (h : Holder). h.node.waiters) one) i)
      (with_given put.target.node ((before.met.waiters ∙ ap (λ (h : Holder). h.node.waiters) two) i) me.0));
}
