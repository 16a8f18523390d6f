-- Channels in runs: an observer of a channel sees each send to it.
use Rattle.std.proofs.Common.{◌≡◌, ◌≢◌, ◌∙◌, refl, sym, ap, subst, ℕ, ◌+◌, ◌⊎◌, inl, inr, Bool, true, false, if◌then◌else◌, IsTrue, List, [], ◌∷◌, ◌++◌, Option, Some, None, is_some, true≢false}
use Rattle.std.specs.Prelude.{option_and_then, option_map}
use Rattle.std.specs.Option.{option_map_or}
use Rattle.std.proofs.Math.Dec.{eqb}
use Rattle.std.proofs.lemmas.Bool.Decides.{eqb_tells}
use Rattle.std.proofs.lemmas.List.{get_or-set_same, get_or-set_other}
use Rattle.lio_labels.specs.declared.label.Label.{Label}
use Rattle.lio_labels.specs.Flow.{flows}
use Rattle.lio_labels.proofs.FlowLemmas.{flow_is_transitive}
use Rattle.lio_values.specs.declared.act.Act.{Act}
use Rattle.lio_values.specs.declared.act.Act.TheVariants as act
use Rattle.lio_values.specs.declared.act.Reply.{Reply}
use Rattle.lio_values.specs.declared.act.Reply.TheVariants.{Done, Got, Told, Refused}
use Rattle.lio_values.specs.declared.entry.Entry.{Entry}
use Rattle.lio_values.specs.Erasure.{erase_act, erase_reply}
use Rattle.lio_cells.specs.declared.state.State.{State}
use Rattle.lio_cells.specs.declared.state.State.TheVariants.{Chan}
use Rattle.lio_cells.specs.State.{is_job, label_of, answer, state_after}
use Rattle.lio_events.specs.ChannelBytes.{sent, sent_to, channel_bytes}
use Rattle.lio_calculus.specs.Task.{TaskState}
use Rattle.lio_calculus.specs.Going.{Onward}
use Rattle.lio_calculus.specs.Plan.{Plan, Over, Own, Visit, Target, plan}
use Rattle.lio_calculus.specs.Step.{Cell, Configuration, blank, cell_at, with_cell, number_of, is_met, met, task_after, met_after, actor_after, target_after, after, Move, move_of, Turn, step}
use Rattle.lio_calculus.specs.Guarded.{IsVisitGuarded, IsGuarded}
use Rattle.lio_events.specs.Views.{view}
use Rattle.lio_calculus.specs.Run.{Ran, ran_after, run}
use Rattle.lio_calculus.specs.Sound.{IsTaskOf, IsSound}
use Rattle.lio_calculus.proofs.SoundLemmas.{task-job, inside}
use Rattle.lio_calculus.proofs.StepGuarded.{turn-guarded}
use Rattle.lio_calculus.proofs.StepKept.{turn-kept}
use Rattle.lio_calculus.proofs.MeetingLemmas.{visit_meets_node}
use Rattle.lio_calculus.proofs.TurnParts.{parts, own-moves, visit-moves, over-moves}
use Rattle.lio_calculus.specs.Sends.{SendsAreSeen}
use Rattle.lio_events.proofs.ViewLemmas.{view-seen, view-unseen, view-none}

-- a channel with this label stands at a number
record IsChannelAt (c : Configuration) (n : ℕ) (label : Label) : Type 0 where
  received : List ℕ
  is : (cell_at c n).state ≡ Chan label received

-- a channel isn't blank, and isn't the actor's own node
channel-there : (c : Configuration) (n : ℕ) (label : Label) → IsChannelAt c n label → cell_at c n ≡ blank → ⊥
channel-there c n label channel empty = let clash = sym channel.is ∙ ap (λ (x : Cell). x.state) empty in absurd (cc)

channel-other : (c : Configuration) (k n : ℕ) (task : TaskState) (label : Label) → IsSound c → IsTaskOf c k task → IsChannelAt c n label → n ≢ k
channel-other c k n task label sound is channel same =
    true≢false (sym (task-job c k task sound is) ∙ ap (λ (m : ℕ). is_job (cell_at c m).state) (sym same) ∙ ap is_job channel.is)

-- a channel has no task
none-there : (t : Option TaskState) → is_some t ≡ false → t ≡ None
none-there None e = refl
none-there (Some task) e = absurd (true≢false e)

channel-taskless : (c : Configuration) (n : ℕ) (label : Label) → IsSound c → IsChannelAt c n label → (cell_at c n).task ≡ None
channel-taskless c n label sound channel = none-there (cell_at c n).task (sound.jobs n ∙ ap is_job channel.is)

-- it stays a channel with its label, whatever meets it
channel-after : (label : Label) (received : List ℕ) (asked : Act) → (more : List ℕ) × (state_after (Chan label received) asked ≡ Chan label more)
unfolding state_after
channel-after label received (act.Send text) = (received ++ text, refl)
channel-after label received asked = (received, refl)

target-channel : (c : Configuration) (n : ℕ) (label at : Label) (asked : Act) (target : Option Target) → IsChannelAt c n label → IsChannelAt (target_after c at asked target) n label
target-channel c n label at asked None channel = channel
target-channel c n label at asked (Some target) channel = by (is_met target (cell_at c (number_of target)).state)
  where
    t : ℕ
    t = number_of target

    cell : Cell
    cell = met_after c.program at asked (cell_at c t)

    here : (n ≡ t) → IsChannelAt (with_cell c t cell) n label
    here same =
        let more = channel-after label channel.received asked in
        let there : (cell_at c t).state ≡ Chan label channel.received = ap (λ (m : ℕ). (cell_at c m).state) (sym same) ∙ channel.is in
        record {
          received = more.0;
          is = ap (λ (m : ℕ). (cell_at (with_cell c t cell) m).state) same
              ∙ ap (λ (x : Cell). x.state) (get_or-set_same c.cells t cell blank (inside c t (λ e. channel-there c n label channel (ap (cell_at c) same ∙ e))))
              ∙ ap (λ (s : State). state_after s asked) there
              ∙ more.1;
        }

    set : ((eqb n t ≡ true) × (n ≡ t)) ⊎ ((eqb n t ≡ false) × (n ≢ t)) → IsChannelAt (with_cell c t cell) n label
    set (inl p) = here p.1
    set (inr p) = record { received = channel.received; is = ap (λ (x : Cell). x.state) (get_or-set_other c.cells t n cell blank p.1) ∙ channel.is }

    by : (b : Bool) → IsChannelAt (if b then with_cell c t cell else c) n label
    by false = channel
    by true = set (eqb_tells n t)

move-channel : (c : Configuration) (k n : ℕ) (task : TaskState) (move : Move) (label : Label) → n ≢ k → IsChannelAt c n label → IsChannelAt (after c k task move) n label
move-channel c k n task move label other channel =
    let between : Configuration = target_after c task.label move.act move.target in
    let there : IsChannelAt between n label = target-channel c n label task.label move.act move.target channel in
    record { received = there.received; is = ap (λ (x : Cell). x.state) (get_or-set_other between.cells k n (actor_after task move (cell_at between k)) blank other) ∙ there.is }

turn-channel : (ticket : ℕ) (c : Configuration) (k n : ℕ) (turn : Turn) (label : Label) → IsSound c → step ticket c k ≡ Some turn → IsChannelAt c n label → IsChannelAt turn.next n label
turn-channel ticket c k n turn label sound steps channel =
    let p = parts ticket c k turn steps in
    subst (λ (t : Turn). IsChannelAt t.next n label) p.made (move-channel c k n p.task p.move label (channel-other c k n p.task label sound p.is channel) channel)

-- the label of a task that sends to a channel flows to the channel's
send-flows : (c : Configuration) (k : ℕ) (task : TaskState) (text : List ℕ) (target : Target) (onward : Onward) (label : Label) → IsSound c → IsVisitGuarded c k task (act.Send text) target onward
    → is_met target (cell_at c (number_of target)).state ≡ true → IsChannelAt c (number_of target) label → IsTrue (flows task.label label)
unfolding state_after
send-flows c k task text target onward label sound guarded meets channel =
    let cell : Cell = cell_at c (number_of target) in
    guarded.above refl meets label
    (ap (λ (t : Option TaskState). option_map_or (λ (u : TaskState). Some u.label) (task_after t None) (label_of (state_after cell.state (act.Send text)))) (channel-taskless c (number_of target) label sound channel)
    ∙ ap (λ (s : State). label_of (state_after s (act.Send text))) channel.is)

-- so a task above an observer of the channel sends nothing to it
visit-sends : (observer : Label) (c : Configuration) (k n : ℕ) (task : TaskState) (asked : Act) (target : Target) (onward : Onward) (reply : Reply) (label : Label) → IsSound c → IsVisitGuarded c k task asked target onward
    → is_met target (cell_at c (number_of target)).state ≡ true → IsChannelAt c n label → IsTrue (flows label observer) → flows task.label observer ≡ false → sent_to n (Some (number_of target)) asked reply ≡ []
visit-sends observer c k n task asked target onward reply label sound guarded meets channel below above = by (eqb_tells (number_of target) n)
  where
    sends : (a : Act) → a ≡ asked → number_of target ≡ n → sent a reply ≡ []
    sends (act.Send text) same at =
        let lower : IsTrue (flows task.label label) = send-flows c k task text target onward label sound (subst (λ (a : Act). IsVisitGuarded c k task a target onward) (sym same) guarded) meets (subst (λ (m : ℕ). IsChannelAt c m label) (sym at) channel) in
        absurd (true≢false (sym (flow_is_transitive task.label label observer lower below) ∙ above))
    sends a same at = refl

    by : ((eqb (number_of target) n ≡ true) × (number_of target ≡ n)) ⊎ ((eqb (number_of target) n ≡ false) × (number_of target ≢ n)) → sent_to n (Some (number_of target)) asked reply ≡ []
    by (inl p) = ap (λ (b : Bool). if b then sent asked reply else []) p.0 ∙ sends asked refl p.1
    by (inr p) = ap (λ (b : Bool). if b then sent asked reply else []) p.0

move-sends : (observer : Label) (c : Configuration) (k n : ℕ) (task : TaskState) (p : Plan) (move : Move) (label : Label) → IsSound c → IsGuarded c k task p
    → ((asked : Act) (target : Target) (onward : Onward) → p ≡ Visit asked target onward → is_met target (cell_at c (number_of target)).state ≡ true)
    → IsChannelAt c n label → IsTrue (flows label observer) → flows task.label observer ≡ false → move_of (cell_at c) p ≡ Some move → sent_to n (option_map number_of move.target) move.act move.reply ≡ []
move-sends observer c k n task Over move label sound guarded meets channel below above moves = absurd (over-moves c move moves)
move-sends observer c k n task (Own asked reply onward) move label sound guarded meets channel below above moves =
    subst (λ (m : Move). sent_to n (option_map number_of m.target) m.act m.reply ≡ []) (own-moves c asked reply onward move moves) refl
move-sends observer c k n task (Visit asked target onward) move label sound guarded meets channel below above moves =
    subst (λ (m : Move). sent_to n (option_map number_of m.target) m.act m.reply ≡ []) (visit-moves c asked target onward move moves)
    (visit-sends observer c k n task asked target onward (answer (met target (cell_at c (number_of target)).state) asked) label sound guarded (meets asked target onward refl) channel below above)

turn-sends : (observer : Label) (ticket : ℕ) (c : Configuration) (k n : ℕ) (turn : Turn) (label : Label) → IsSound c → step ticket c k ≡ Some turn → IsChannelAt c n label → IsTrue (flows label observer)
    → flows turn.entry.at observer ≡ false → sent_to n turn.entry.target turn.entry.act turn.entry.reply ≡ []
turn-sends observer ticket c k n turn label sound steps channel below above =
    let p = parts ticket c k turn steps in
    subst (λ (t : Turn). sent_to n t.entry.target t.entry.act t.entry.reply ≡ []) p.made
    (move-sends observer c k n p.task (plan c.program p.task) p.move label sound (turn-guarded ticket c k p.task turn sound p.is steps)
    (λ asked target onward e. (visit_meets_node c k p.task asked target onward sound p.is e).met) channel below (ap (λ (t : Turn). flows t.entry.at observer) p.made ∙ above) p.moves)

-- what an entry sends is seen whole where the entry is seen
sent-erased : (observer : Label) (asked : Act) (reply : Reply) → sent (erase_act observer asked) (erase_reply observer reply) ≡ sent asked reply
sent-erased observer (act.Send text) Done = refl
sent-erased observer (act.Send text) (Got value) = refl
sent-erased observer (act.Send text) (Told content) = refl
sent-erased observer (act.Send text) (Refused fault) = refl
sent-erased observer asked reply = refl

sent_to-erased : (observer : Label) (n : ℕ) (target : Option ℕ) (asked : Act) (reply : Reply) → sent_to n target (erase_act observer asked) (erase_reply observer reply) ≡ sent_to n target asked reply
sent_to-erased observer n None asked reply = refl
sent_to-erased observer n (Some t) asked reply = ap (λ (text : List ℕ). if eqb t n then text else []) (sent-erased observer asked reply)

-- one entry more
entry-sends : (observer : Label) (n first : ℕ) (entry : Entry) (entries : List Entry) → (flows entry.at observer ≡ false → sent_to n entry.target entry.act entry.reply ≡ [])
    → ((m : ℕ) → channel_bytes (view observer m entries) n ≡ channel_bytes entries n) → channel_bytes (view observer first (entry ∷ entries)) n ≡ channel_bytes (entry ∷ entries) n
entry-sends observer n first entry entries unseen rest = by (flows entry.at observer) refl
  where
    by : (b : Bool) → flows entry.at observer ≡ b → channel_bytes (view observer first (entry ∷ entries)) n ≡ channel_bytes (entry ∷ entries) n
    by true seen =
        ap (λ (es : List Entry). channel_bytes es n) (view-seen observer first entry entries seen)
        ∙ ap (λ (text : List ℕ). text ++ channel_bytes (view observer (first + 1) entries) n) (sent_to-erased observer n entry.target entry.act entry.reply)
        ∙ ap (λ (bytes : List ℕ). sent_to n entry.target entry.act entry.reply ++ bytes) (rest (first + 1))
    by false above =
        ap (λ (es : List Entry). channel_bytes es n) (view-unseen observer first entry entries above)
        ∙ rest first
        ∙ sym (ap (λ (text : List ℕ). text ++ channel_bytes entries n) (unseen above))

-- each send of a run
run-sends : (observer label : Label) (n ticket first : ℕ) (c : Configuration) (ks : List ℕ) (ran : Ran) → IsSound c → IsChannelAt c n label → IsTrue (flows label observer) → run ticket c ks ≡ Some ran
    → channel_bytes (view observer first ran.entries) n ≡ channel_bytes ran.entries n
unfolding run
run-sends observer label n ticket first c [] ran sound channel below runs =
    let made : Ran = record { entries = []; last = c } in
    let equal : made ≡ ran = cc in
    subst (λ (r : Ran). channel_bytes (view observer first r.entries) n ≡ channel_bytes r.entries n) equal (ap (λ (es : List Entry). channel_bytes es n) (view-none observer first))
run-sends observer label n ticket first c (k ∷ ks) ran sound channel below runs =
    by (step ticket c k) refl (λ m d r fine there goes. run-sends observer label n (ticket + 1) m d ks r fine there below goes) runs
  where
    Others : Type 0
    Others = (m : ℕ) (d : Configuration) (r : Ran) → IsSound d → IsChannelAt d n label → run (ticket + 1) d ks ≡ Some r → channel_bytes (view observer m r.entries) n ≡ channel_bytes r.entries n

    then_ : Others → (turn : Turn) (more : Option Ran) → step ticket c k ≡ Some turn → run (ticket + 1) turn.next ks ≡ more → option_map (ran_after turn.entry) more ≡ Some ran
        → channel_bytes (view observer first ran.entries) n ≡ channel_bytes ran.entries n
    then_ others turn None steps goes got = absurd (cc)
    then_ others turn (Some r) steps goes got =
        let equal : ran_after turn.entry r ≡ ran = cc in
        let p = parts ticket c k turn steps in
        let fine : IsSound turn.next = turn-kept ticket c k p.task turn sound p.is steps in
        let there : IsChannelAt turn.next n label = turn-channel ticket c k n turn label sound steps channel in
        subst (λ (x : Ran). channel_bytes (view observer first x.entries) n ≡ channel_bytes x.entries n) equal
        (entry-sends observer n first turn.entry r.entries (λ above. turn-sends observer ticket c k n turn label sound steps channel below above) (λ m. others m turn.next r fine there goes))

    by : (t : Option Turn) → step ticket c k ≡ t → Others → option_and_then (λ (turn : Turn). option_map (ran_after turn.entry) (run (ticket + 1) turn.next ks)) t ≡ Some ran
        → channel_bytes (view observer first ran.entries) n ≡ channel_bytes ran.entries n
    by None steps others got = absurd (cc)
    by (Some turn) steps others got = then_ others turn (run (ticket + 1) turn.next ks) steps refl got

pub sends_are_seen : SendsAreSeen
sends_are_seen observer label received n ticket first c ks ran sound channel below runs =
    run-sends observer label n ticket first c ks ran sound (record { received = received; is = channel }) below runs
