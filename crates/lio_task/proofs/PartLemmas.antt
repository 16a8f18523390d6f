-- A step by its parts.
use Rattle.std.proofs.Common.{◌≡◌, ◌∙◌, refl, sym, ap, ℕ, Bool, true, false, true≢false, if◌then◌else◌, Option, Some, None, option_and_then, is_some}
use Rattle.std.specs.Option.{option_map}
use Rattle.std.proofs.lemmas.List.{get_or-set_other}
use Rattle.lio_values.specs.declared.act.Act.{Act}
use Rattle.lio_values.specs.declared.act.Reply.{Reply}
use Rattle.lio_cells.specs.State.{ready as is_ready, answer, state_after}
use Rattle.lio_calculus.specs.Task.{TaskState}
use Rattle.lio_calculus.specs.Going.{gone_on}
use Rattle.lio_calculus.specs.Plan.{Target, plan}
use Rattle.lio_calculus.specs.Sound.{IsSound, IsTaskOf}
use Rattle.lio_calculus.specs.Step.{Cell, Configuration, Move, Turn, actor_after, blank, can, cell_at, entry_of, met_after, move_of, number_of, step, turn_of, with_cell}
use Rattle.lio_calculus.specs.Meeting.{MeetsNode}
use Rattle.lio_calculus.proofs.MeetingLemmas.{visit_meets_node}
use Rattle.lio_calculus.proofs.TurnParts.{made_of, parts}
use Rattle.lio_task.specs.declared.next.Next.TheVariants as next
use Rattle.lio_task.specs.Next.{next_of, resumed_by}
use Rattle.lio_task.specs.Laws.{StepIsMadeOfParts, actor_cell}
use Rattle.lio_task.proofs.MoveLemmas.{visit-moves, visit-ready}
use Rattle.lio_task.proofs.PreviewLemmas.{over-stays, own-plan, visit-plan, visit-stays}

-- the step of a move
step-of : (ticket : ℕ) (c : Configuration) (k : ℕ) (task : TaskState) (move : Move) → IsTaskOf c k task → move_of (cell_at c) (plan c.program task) ≡ Some move → step ticket c k ≡ Some (made_of ticket c k task move)
unfolding step
step-of ticket c k task move is moves =
    ap (λ (t : Option TaskState). option_and_then (turn_of ticket c k) t) is ∙ ap (λ (m : Option Move). option_map (made_of ticket c k task) m) moves

-- who can't take a turn has no step, with any ticket
no-step : (ticket : ℕ) (c : Configuration) (k : ℕ) → can c k ≡ false → step ticket c k ≡ None
no-step ticket c k still = by (step ticket c k) refl
  where
    by : (t : Option Turn) → step ticket c k ≡ t → step ticket c k ≡ None
    by None e = e
    by (Some turn) e =
        let p = parts ticket c k turn e in
        absurd (true≢false (sym (ap is_some (step-of 0 c k p.task p.move p.is p.moves)) ∙ still))

own-step : (ticket : ℕ) (c : Configuration) (k : ℕ) (task : TaskState) (asked : Act) (reply : Reply) → IsTaskOf c k task → next_of c.program task ≡ next.Own asked reply
    → step ticket c k ≡ Some (record {
      entry = record { ticket = ticket; actor = k; target = None; at = task.label; act = asked; reply = reply };
      next = with_cell c k (actor_cell c k task asked reply);
    })
own-step ticket c k task asked reply is does =
    let own = own-plan (plan c.program task) asked reply does in
    let move : Move = record { act = asked; target = None; reply = reply; onward = own.0 } in
    let made : TaskState → Option Turn = λ t. Some (record { entry = entry_of ticket k task move; next = with_cell c k (record { state = state_after (cell_at c k).state asked; task = Some t }) }) in
    step-of ticket c k task move is (ap (move_of (cell_at c)) own.1) ∙ ap made (sym (ap (resumed_by task asked reply) own.1))

visit-step : (ticket : ℕ) (c : Configuration) (k : ℕ) (task : TaskState) (asked : Act) (n : ℕ) → IsSound c → IsTaskOf c k task → next_of c.program task ≡ next.Visit asked n → is_ready (cell_at c n).state asked ≡ true
    → step ticket c k ≡ Some (record {
      entry = record { ticket = ticket; actor = k; target = Some n; at = task.label; act = asked; reply = answer (cell_at c n).state asked };
      next = with_cell (with_cell c n (met_after c.program task.label asked (cell_at c n))) k (actor_cell c k task asked (answer (cell_at c n).state asked));
    })
visit-step ticket c k task asked n sound is does ready =
    let meets = visit-plan (plan c.program task) asked n does in
    let target : Target = meets.target in
    let m : ℕ = number_of target in
    let there : MeetsNode c k asked target = visit_meets_node c k task asked target meets.onward sound is meets.plan_is in
    let here : is_ready (cell_at c m).state asked ≡ true = ap (λ (i : ℕ). is_ready (cell_at c i).state asked) meets.number_is ∙ ready in
    let move : Move = record { act = asked; target = Some target; reply = answer (cell_at c m).state asked; onward = meets.onward } in
    let cell : Cell = met_after c.program task.label asked (cell_at c m) in
    let between : Configuration = with_cell c m cell in
    let after : Configuration → Option Turn = λ d. Some (record { entry = entry_of ticket k task move; next = with_cell d k (actor_after task move (cell_at d k)) }) in
    let made : Cell → TaskState → Option Turn =
    λ own t. Some (record { entry = entry_of ticket k task move; next = with_cell between k (record { state = state_after own.state asked; task = Some t }) }) in
    let turn : ℕ → Option Turn =
    λ i. Some (record {
      entry = record { ticket = ticket; actor = k; target = Some i; at = task.label; act = asked; reply = answer (cell_at c i).state asked };
      next = with_cell (with_cell c i (met_after c.program task.label asked (cell_at c i))) k (actor_cell c k task asked (answer (cell_at c i).state asked));
    }) in
    step-of ticket c k task move is (visit-moves c task asked target meets.onward meets.plan_is there.met ∙ visit-ready asked target meets.onward (cell_at c m).state here)
    ∙ ap (λ (b : Bool). after (if b then between else c)) there.met
    ∙ ap (λ (own : Cell). made own (gone_on task meets.onward asked move.reply)) (get_or-set_other c.cells m k cell blank (there.other here))
    ∙ ap (made (cell_at c k)) (sym (ap (resumed_by task asked move.reply) meets.plan_is))
    ∙ ap turn meets.number_is

pub step_is_made_of_parts : StepIsMadeOfParts
step_is_made_of_parts ticket c k task sound is = record {
  over = λ does. no-step ticket c k (over-stays c k task is does);
  own = λ asked reply does. own-step ticket c k task asked reply is does;
  still = λ asked n does unready. no-step ticket c k (visit-stays c k task asked n sound is does unready);
  visit = λ asked n does ready. visit-step ticket c k task asked n sound is does ready;
}
