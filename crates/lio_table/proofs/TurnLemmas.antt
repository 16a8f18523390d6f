-- A turn of a task whose node a seat holds: what its ticket and its record owe.
use Rattle.std.proofs.Common.{◌≡◌, ◌∙◌, refl, sym, ap, subst, arith, ℕ, ◌<◌, ◌==◌, Bool, true, false, cond, if◌then◌else◌, List, [], ◌∷◌, ◌++◌, All, Option, Some, None}
use Rattle.std.specs.Option.{option_map}
use Rattle.std.proofs.lemmas.Bool.Decides.{nat_tests}
use Rattle.lio_values.specs.declared.entry.Entry.{Entry}
use Rattle.lio_cells.specs.State.{is_job}
use Rattle.lio_cells.specs.declared.waiter.Waiter.{Waiter}
use Rattle.lio_cells.specs.declared.state.State.{State}
use Rattle.lio_syntax.specs.Statements.{Procedure}
use Rattle.lio_calculus.specs.Effect.{acted, applied, entry_in, served, touches}
use Rattle.lio_calculus.specs.Plan.{Program}
use Rattle.lio_calculus.specs.Step.{Cell, Configuration, cell_at}
use Rattle.lio_calculus.proofs.SoundLemmas.{task-job}
use Rattle.lio_calculus.specs.Logs.{fold}
use Rattle.lio_calculus.specs.Journals.{of_cell}
use Rattle.lio_calculus.proofs.FoldLemmas.{fold-append}
use Rattle.lio_calculus.proofs.JournalLemmas.{shows-actor, shows-target}
use Rattle.lio_task.specs.declared.task.Task.{Task}
use Rattle.lio_task.specs.StateOf.{state_in}
use Rattle.lio_task_turns.specs.StateOf.{program_of}
use Rattle.lio_task.specs.declared.config.Holder.{Holder}
use Rattle.lio_task.specs.Configuration.{cell_of}
use Rattle.lio_task.specs.Turns.{Prepared, Recorded, Records, Stands}
use Rattle.lio_task.specs.Turns as turns
use Rattle.lio_task.proofs.LentLemmas.{recorded-acted}
use Rattle.lio_table.specs.declared.view.Beginning.{Beginning}
use Rattle.lio_table.specs.declared.view.View.{View}
use Rattle.lio_table.specs.Views.{HasLog, HoldsNode, StandIn, configuration_from}
use Rattle.lio_table.specs.Steps.{CanRecord, DrawsTicket, SeatState, with_entry, with_given, with_ticket, with_turn}
use Rattle.lio_table.proofs.Standing.{program-from}
use Rattle.lio_table.proofs.TicketKept.{is-held}
use Rattle.lio_table.specs.Holders.{CanPut, PutsBack}
use Rattle.lio_table.specs.Moves.{MovesAlone, ReturnsNode}

-- an entry shows its actor's node, and its target's
part-shown : (n : ℕ) (entry : Entry) → touches n entry ≡ true → of_cell n (entry ∷ []) ≡ entry ∷ []
part-shown n entry shows = ap (λ b. cond b (entry ∷ []) []) shows

pub part-of-actor : (n : ℕ) (entry : Entry) → entry.actor ≡ n → of_cell n (entry ∷ []) ≡ entry ∷ []
part-of-actor n entry is = part-shown n entry (subst (λ m. touches m entry ≡ true) is (shows-actor entry))

pub part-of-target : (n : ℕ) (entry : Entry) → entry.target ≡ Some n → of_cell n (entry ∷ []) ≡ entry ∷ []
part-of-target n entry is = part-shown n entry (shows-target n entry is)

fold-one : (program : Program) (n : ℕ) (cell : Cell) (entry : Entry) → fold program n cell (entry ∷ []) ≡ applied program n entry cell
unfolding fold
fold-one program n cell entry = refl

-- what an entry makes of its actor's cell, and of another's
pub applied-actor : (program : Program) (n : ℕ) (entry : Entry) (cell : Cell) → entry.actor ≡ n → applied program n entry cell ≡ acted program entry cell
applied-actor program n entry cell is =
    let same : (entry.actor == n) ≡ true = grind (arith, nat_tests) in ap (λ (b : Bool). if b then acted program entry cell else served program entry cell) same

pub applied-other : (program : Program) (n : ℕ) (entry : Entry) (cell : Cell) → (entry.actor ≡ n → ⊥) → applied program n entry cell ≡ served program entry cell
applied-other program n entry cell other =
    let apart : (entry.actor == n) ≡ false = grind (arith, nat_tests) in ap (λ (b : Bool). if b then acted program entry cell else served program entry cell) apart

-- a holder has its log with an entry more, once it stands for what the entry makes of the cell
pub has-log-more : (first : Beginning) (n : ℕ) (log : List Entry) (old new : Holder) (entry : Entry) → HasLog first n log old → of_cell n (entry ∷ []) ≡ entry ∷ [] → new.node.log ≡ log ++ entry ∷ []
    → cell_of first.script new ≡ applied (program_of first.script first.longest) n entry (cell_of first.script old) → HasLog first n (log ++ of_cell n (entry ∷ [])) new
has-log-more first n log old new entry has_log shows new_log new_cell =
    let program : Program = (configuration_from first).program in
    let cell : Cell = cell_at (configuration_from first) n in
    record {
      log = new_log ∙ ap (λ xs. log ++ xs) (sym shows);
      cell = new_cell ∙ (λ i. applied (sym (program-from first) i) n entry (has_log.cell i))
          ∙ sym (fold-one program n (fold program n cell log) entry)
          ∙ ap (fold program n (fold program n cell log)) (sym shows)
          ∙ sym (fold-append program n cell log (of_cell n (entry ∷ [])));
    }

-- a holder whose node a seat holds stands in each configuration in which the seat's nodes do
pub stands-in : (script : List Procedure) (n : ℕ) (holder : Holder) (me : SeatState) → script ≡ me.0.first.script → (holds : HoldsNode me.0 n) → HasLog me.0.first n holds.node.log holder
    → (c : Configuration) → StandIn me.0 c → Stands script me.0.first.longest c n holder
stands-in script n holder me same holds has_log c stand = record {
  program = stand.program ∙ ap (λ (s : List Procedure). program_of s me.0.first.longest) (sym same);
  sound = stand.sound;
  at = ap (cell_at c) (sym holds.number) ∙ stand.cells holds.node holds.has
      ∙ ap (λ m. fold (configuration_from me.0.first).program m (cell_at (configuration_from me.0.first) m) holds.node.log) holds.number
      ∙ sym has_log.cell ∙ ap (λ (s : List Procedure). cell_of s holder) (sym same);
}

-- a seat holds a node after a turn, with its log
record HoldsAfter (entry : Entry) (n : ℕ) (log : List Entry) (view : View) : Type 0 where
  pub holds : HoldsNode view n
  pub log_is : holds.node.log ≡ log ++ of_cell n (entry ∷ [])

holds-after : (entry : Entry) (n : ℕ) (view : View) → (holds : HoldsNode view n) → HoldsAfter entry n holds.node.log (with_turn entry view)
holds-after entry n view holds = record {
  holds = record { node = with_entry entry holds.node; has = is-held entry view.claimed holds.node holds.has; number = holds.number };
  log_is = ap (λ m. holds.node.log ++ of_cell m (entry ∷ [])) holds.number;
}

-- a seat holds a node after a turn, and a holder stands for what the node's log then makes of it
pub record HeldGrown (entry : Entry) (n : ℕ) (new : Holder) (me : SeatState) : Type 0 where
  pub holds : HoldsNode (with_turn entry me.0) n
  pub has_log : HasLog me.0.first n holds.node.log new

pub held-grown : (n ticket : ℕ) (entry : Entry) (old new : Holder) (me : SeatState) → (holds : HoldsNode me.0 n) → HasLog me.0.first n holds.node.log old → of_cell n (with_ticket entry ticket ∷ []) ≡ with_ticket entry ticket ∷ []
    → new.node.log ≡ holds.node.log ++ with_ticket entry ticket ∷ []
    → cell_of me.0.first.script new ≡ applied (program_of me.0.first.script me.0.first.longest) n (with_ticket entry ticket) (cell_of me.0.first.script old) → HeldGrown (with_ticket entry ticket) n new me
held-grown n ticket entry old new me holds has_log shows new_log new_cell =
    let held = holds-after (with_ticket entry ticket) n me.0 holds in
    record {
      holds = held.holds;
      has_log = subst (λ log. HasLog me.0.first n log new) (sym held.log_is) (has-log-more me.0.first n holds.node.log old new (with_ticket entry ticket) has_log shows new_log new_cell);
    }

-- so a holder that was recorded can be put back
pub put-after : (n ticket : ℕ) (entry : Entry) (old new : Holder) (me after : SeatState) → (can : CanPut n old me) → DrawsTicket entry me ticket after → of_cell n (with_ticket entry ticket ∷ []) ≡ with_ticket entry ticket ∷ []
    → new.node.log ≡ can.holds.node.log ++ with_ticket entry ticket ∷ []
    → cell_of me.0.first.script new ≡ applied (program_of me.0.first.script me.0.first.longest) n (with_ticket entry ticket) (cell_of me.0.first.script old) → CanPut n new after
put-after n ticket entry old new me after can draws shows new_log new_cell =
    let held = held-grown n ticket entry old new me can.holds can.has_log shows new_log new_cell in
    subst (CanPut n new) (sym draws.seat) (record { rest = can.rest; slots = can.slots; holds = held.holds; has_log = held.has_log })

-- a turn that meets no other node
module _ (script : List Procedure) (k : ℕ) (old mid : Holder) (me : SeatState) (same : script ≡ me.0.first.script) (can : CanPut k old me) (left : 0 < me.0.left) (entry : Entry)
    (prepared : Prepared script me.0.first.longest (λ c. Unit {0}) old mid k None entry) where
  pub alone-can_record : CanRecord entry me.0
  alone-can_record = record {
    left = left;
    apart = λ is. no-target (sym prepared.meets ∙ is);
    actor = subst (HoldsNode me.0) (sym prepared.actor) can.holds;
    target = λ n is. absurd (no-target (sym prepared.meets ∙ is));
    shown = λ c stand ticket. subst (λ j. entry_in c.program (cell_at c) ticket j ≡ Some (with_ticket entry ticket)) (sym prepared.actor) (prepared.shown c (stands-in script k old me same can.holds can.has_log c stand) tt ticket);
  }
    where
      no-target : {n : ℕ} → None ≡ Some n → ⊥
      no-target e = absurd (cc)

  pub alone-put : (ticket : ℕ) (after : SeatState) (mid' new : Holder) (woken : Option (List Waiter)) → DrawsTicket entry me ticket after → mid' ≡ mid → Recorded mid' new entry ticket woken → CanPut k new after
  alone-put ticket after mid' new woken draws is recorded =
      put-after k ticket entry old new me after can draws (part-of-actor k (with_ticket entry ticket) prepared.actor)
      (recorded.log ∙ ap (λ (h : Holder). turns.with_turn h.node.log entry ticket) is ∙ ap (λ (l : List Entry). l ++ with_ticket entry ticket ∷ []) (prepared.log ∙ can.has_log.log))
      (subst (λ (s : List Procedure). cell_of s new ≡ acted (program_of s me.0.first.longest) entry (cell_of s old)) same
      (recorded-acted script me.0.first.longest _ old mid new k None entry prepared (subst (λ (h : Holder). Records script h new entry.act) is (recorded.cell script)))
      ∙ sym (applied-actor (program_of me.0.first.script me.0.first.longest) k (with_ticket entry ticket) (cell_of me.0.first.script old) prepared.actor))

-- the node of a task is a job
pub holder-job : (script : List Procedure) (k : ℕ) (holder : Holder) (task : Task) (state : State) (longest : ℕ) (c : Configuration) → Stands script longest c k holder → holder.task ≡ Some task → state ≡ holder.node.state → is_job state ≡ true
holder-job script k holder task state longest c stands is same =
    ap is_job same ∙ ap (λ (cell : Cell). is_job cell.state) (sym stands.at)
    ∙ task-job c k (state_in script task) stands.sound (ap (λ (cell : Cell). cell.task) stands.at ∙ ap (option_map (state_in script)) is)

-- tickets in a holder's log are lower
pub later-than : (n ticket : ℕ) (entry : Entry) (old : Holder) (log : List Entry) (me after : SeatState) → CanPut n old me → DrawsTicket entry me ticket after → log ≡ old.node.log → All (λ before. before.ticket < ticket) log
later-than n ticket entry old log me after can draws same = subst (All (λ before. before.ticket < ticket)) (sym (same ∙ can.has_log.log)) (draws.logs can.holds.node can.holds.has)

-- a holder that is as before can be put back
pub same-put : (script : List Procedure) (n : ℕ) (old mid : Holder) (me : SeatState) → script ≡ me.0.first.script → CanPut n old me → turns.IsAsBefore script old mid → CanPut n mid me
same-put script n old mid me same can as_before = record {
  rest = can.rest;
  slots = can.slots;
  holds = can.holds;
  has_log = record {
    log = as_before.log ∙ can.has_log.log;
    cell = subst (λ (s : List Procedure). cell_of s mid ≡ cell_of s old) same as_before.cell ∙ can.has_log.cell;
  };
}

-- and then is given back as it was
pub same-returned : (script : List Procedure) (n : ℕ) (holder old mid : Holder) (me new : SeatState) → old ≡ holder → turns.IsAsBefore script old mid → PutsBack n mid me new → ReturnsNode n holder me new
same-returned script n holder old mid me new is as_before put = record {
  slots = put.slots;
  holds = put.holds;
  view = put.view ∙ ap (λ ws. with_given put.holds.node ws me.0) (as_before.waiters ∙ ap (λ (h : Holder). h.node.waiters) is);
}

-- a turn that meets no other node, once its node is given back
pub moved-alone : (script : List Procedure) (k ticket : ℕ) (holder old mid mid' now : Holder) (me after new : SeatState) (entry : Entry) (woken : Option (List Waiter)) → script ≡ me.0.first.script → old ≡ holder → mid' ≡ mid → CanPut k old me
    → Prepared script me.0.first.longest (λ c. Unit {0}) old mid k None entry → DrawsTicket entry me ticket after → PutsBack k now after new → Recorded mid' now entry ticket woken → MovesAlone k holder me ticket (with_ticket entry ticket) woken new
moved-alone script k ticket holder old mid mid' now me after new entry woken same same_old same_mid can prepared draws put recorded =
    by (subst (λ (m : SeatState). PutsBack k now m new) draws.seat put)
  where
    waited : mid'.node.waiters ≡ holder.node.waiters
    waited = ap (λ (h : Holder). h.node.waiters) same_mid ∙ prepared.waiters ∙ ap (λ (h : Holder). h.node.waiters) same_old

    by : PutsBack k now (with_turn (with_ticket entry ticket) me.0, me.1) new → MovesAlone k holder me ticket (with_ticket entry ticket) woken new
    by p = record {
      shown = λ c stand. prepared.shown c (stands-in script k old me same can.holds can.has_log c stand) tt ticket;
      ticket_is = refl;
      actor = prepared.actor;
      target = prepared.meets;
      later = draws.draws;
      logs = later-than k ticket entry old holder.node.log me after can draws (ap (λ (h : Holder). h.node.log) (sym same_old));
      slots = p.slots;
      holds = p.holds;
      view = p.view ∙ ap (λ (ws : List Waiter). with_given p.holds.node ws (with_turn (with_ticket entry ticket) me.0)) (recorded.waiters ∙ ap (λ (ws : List Waiter). if turns.ends entry.act then [] else ws) waited);
      woken = recorded.taken ∙ ap (λ (ws : List Waiter). if turns.ends entry.act then Some ws else None) waited;
    }
