-- The turns of lent holders, and the steps of a configuration that they make.
use Rattle.std.proofs.Common.{◌≡◌, ◌∙◌, refl, sym, ap, subst, ℕ, ◌<◌, Bool, true, false, true≢false, List, length, get_or, Option, Some, None}
use Rattle.std.specs.Prelude.{slice_set}
use Rattle.std.specs.Vec.{with_items}
use Rattle.std.proofs.lemmas.List.{length-set, with_items_is}
use Rattle.lio_values.specs.declared.act.Act.{Act}
use Rattle.lio_values.specs.declared.act.Reply.{Reply}
use Rattle.lio_values.specs.declared.entry.Entry.{Entry}
use Rattle.lio_cells.specs.State.{ready as is_ready, is_job}
use Rattle.lio_cells.specs.declared.state.State.{State}
use Rattle.lio_syntax.specs.Statements.{Procedure}
use Rattle.lio_syntax.specs.Lines.{script_lines}
use Rattle.lio_calculus.specs.Task.{TaskState}
use Rattle.lio_calculus.specs.Going as going
use Rattle.lio_calculus.specs.Plan.{Program, plan}
use Rattle.lio_calculus.specs.Step.{Cell, Configuration, can, cell_at, number_of, with_cell}
use Rattle.lio_calculus.specs.Sound.{IsSound}
use Rattle.lio_calculus.specs.Afforded.{AffordsPlan}
use Rattle.lio_calculus.specs.Effect.{acted, served}
use Rattle.lio_calculus.specs.Meeting.{MeetsNode}
use Rattle.lio_calculus.proofs.AffordedLemmas.{plan_affords}
use Rattle.lio_calculus.proofs.EffectLemmas.{alone-enters, meeting-enters, step-of-entry}
use Rattle.lio_calculus.proofs.MeetingLemmas.{visit_meets_node}
use Rattle.lio_calculus.proofs.SoundLemmas.{task-job}
use Rattle.lio_task_turns.specs.declared.turn.Onward.{Onward}
use Rattle.lio_task_turns.specs.StateOf.{program_of}
use Rattle.lio_task_control.specs.Front.{AtStatement}
use Rattle.lio_task_plan.specs.declared.plan.Full.{Full}
use Rattle.lio_task_plan.specs.Leads.{LeadsFull}
use Rattle.lio_task_plan.specs.Planned.{full_by, simple_of}
use Rattle.lio_task_plan.proofs.LeadsLemmas.{full_at}
use Rattle.lio_task_turns.specs.Turns.{onward_of}
use Rattle.lio_task.specs.declared.config.Config.{Config}
use Rattle.lio_task.specs.declared.config.Holder.{Holder}
use Rattle.lio_task.specs.declared.go.Way.{Way}
use Rattle.lio_task.specs.declared.task.Task.{Task}
use Rattle.lio_task.specs.StateOf.{state_in}
use Rattle.lio_task.specs.Configuration.{cell_of, configuration_of, task_in}
use Rattle.lio_task.specs.Takes.{PlansFull, PlansOwn, PlansVisit, Steps}
use Rattle.lio_task.specs.Turns.{AreAsBefore, CanMeet, CanTurn, Prepared, PreparedMeeting, Records, Serves, Stands}
use Rattle.lio_task.proofs.HolderLemmas.{cell_at-configuration_of, cells-length, configuration_of-with_holder, task-cell, task-within, task_in-at, two-cells, with_cell-same, with_holder}
use Rattle.lio_task.proofs.LentLemmas.{found-same, recorded-acted, recorded-served}
use Rattle.lio_task.proofs.MoveLemmas.{act-bears, waits-still}

-- a holder where it stands in a configuration
pub record StandsAt (config : Config) (k : ℕ) (holder : Holder) : Type 0 where
  pub within : k < length config.holders.items
  pub is : holder ≡ get_or config.holders.items k holder

cell-there : (script : List Procedure) (config : Config) (k : ℕ) (holder : Holder) → StandsAt config k holder → cell_at (configuration_of script config) k ≡ cell_of script holder
cell-there script config k holder stands = cell_at-configuration_of script config k holder stands.within stands.is

pub stands : (script : List Procedure) (config : Config) (k : ℕ) (holder : Holder) → IsSound (configuration_of script config) → StandsAt config k holder → Stands script config.longest (configuration_of script config) k holder
stands script config k holder sound there = record { program = refl; sound = sound; at = cell-there script config k holder there }

within-cells : (script : List Procedure) (config : Config) (k : ℕ) (holder : Holder) → StandsAt config k holder → k < length (configuration_of script config).cells
within-cells script config k holder there = subst (λ (l : ℕ). k < l) (sym (cells-length script config)) there.within

-- what its task plans
pub owns-at : (script : List Procedure) (config : Config) (k : ℕ) (holder : Holder) (asked : Act) (reply : Reply) (w : Way) → StandsAt config k holder → PlansOwn script config.longest (task_in config k) asked reply w
    → PlansOwn script config.longest holder.task asked reply w
owns-at script config k holder asked reply w there plans =
    subst (λ (found : Option Task). PlansOwn script config.longest found asked reply w) (task_in-at config k holder there.within there.is) plans

pub visits-at : (script : List Procedure) (config : Config) (k n m : ℕ) (holder : Holder) (asked : Act) (onward : Onward) → StandsAt config k holder → PlansVisit script config.longest (task_in config k) asked m onward → n ≡ m
    → PlansVisit script config.longest holder.task asked n onward
visits-at script config k n m holder asked onward there plans number =
    subst (λ (i : ℕ). PlansVisit script config.longest holder.task asked i onward) (sym number)
    (subst (λ (found : Option Task). PlansVisit script config.longest found asked m onward) (task_in-at config k holder there.within there.is) plans)

-- the turn in full of the task that was found
pub record FullOf (script : List Procedure) (longest : ℕ) (turn : Full) (task : Task) : Type 0 where
  pub at : AtStatement (state_in script task).items
  pub leads : LeadsFull (state_in script task).items turn
  pub plans : full_by (program_of script longest) (state_in script task) turn ≡ plan (program_of script longest) (state_in script task)

pub full-of : (script : List Procedure) (longest : ℕ) (found : Option Task) (turn : Full) (task : Task) → PlansFull script longest found turn → found ≡ Some task → FullOf script longest turn task
full-of script longest found turn task plans is =
    subst (FullOf script longest turn) (found-same (sym plans.is) is)
    (record { at = full_at (state_in script plans.task).items turn plans.leads; leads = plans.leads; plans = sym plans.plans })

-- it can take that turn
pub own-can : (script : List Procedure) (longest : ℕ) (holder : Holder) (asked : Act) (reply : Reply) (w : Way) → PlansOwn script longest holder.task asked reply w → CanTurn script holder w
own-can script longest holder asked reply w plans = record { task = plans.task; is = plans.is; can_go = plans.can_go }

pub visit-can : (script : List Procedure) (longest : ℕ) (holder : Holder) (asked : Act) (n : ℕ) (onward : Onward) → PlansVisit script longest holder.task asked n onward → CanMeet script holder asked onward
visit-can script longest holder asked n onward plans =
    let program : Program = program_of script longest in
    let state : TaskState = state_in script plans.task in
    let affords = subst (AffordsPlan program state) plans.plans (plan_affords program state plans.task.cleared) in
    record { turns = record { task = plans.task; is = plans.is; can_go = (plans.at, affords.0) }; bears = act-bears program state asked plans.task.range affords.1 }

-- the node of a task is a job
pub actor-job : (script : List Procedure) (config : Config) (k : ℕ) (holder : Holder) (task : Task) (state : State) → IsSound (configuration_of script config) → StandsAt config k holder → holder.task ≡ Some task → state ≡ holder.node.state → is_job state ≡ true
actor-job script config k holder task state sound there is same =
    let c : Configuration = configuration_of script config in
    ap is_job same ∙ ap (λ (cell : Cell). is_job cell.state) (sym (cell-there script config k holder there))
    ∙ task-job c k (state_in script task) sound (task-cell script config k task (task_in-at config k holder there.within there.is ∙ is))

-- a turn that was prepared and recorded is the step of the configuration
pub alone-steps : (script : List Procedure) (config : Config) (k ticket : ℕ) (holder mid new : Holder) (entry : Entry) → IsSound (configuration_of script config) → StandsAt config k holder
    → Prepared script config.longest (λ c. Unit {0}) holder mid k None entry → Records script mid new entry.act
    → Steps (configuration_of script config) (configuration_of script (with_holder config k new)) k ticket (record entry { ticket = ticket })
alone-steps script config k ticket holder mid new entry sound there prepared records =
    let c : Configuration = configuration_of script config in
    let shown : Entry = record entry { ticket = ticket } in
    let within = within-cells script config k holder there in
    let cell : cell_of script new ≡ acted c.program shown (cell_at c k) =
    recorded-acted script config.longest _ holder mid new k None entry prepared records ∙ ap (acted c.program entry) (sym (cell-there script config k holder there)) in
    subst (λ (next : Configuration). Steps c next k ticket shown) (sym (configuration_of-with_holder script config k new))
    (step-of-entry ticket c (with_cell c k (cell_of script new)) k shown sound (prepared.shown c (stands script config k holder sound there) tt ticket) refl (length-set c.cells k (cell_of script new))
    (λ n. alone-enters c k n shown (cell_of script new) within prepared.actor prepared.meets cell))

-- two holders that were lent out of the list of a configuration
pub record Lent (config : Config) (k n : ℕ) (holders : List Holder) (holder was : Holder) : Type 0 where
  pub same : holders ≡ config.holders.items
  pub other : k ≡ n → ⊥
  pub actor_is : StandsAt config k holder
  pub met_is : StandsAt config n was

-- the configuration with others in their places
abbrev pub with_both : Config → List Holder → ℕ → ℕ → Holder → Holder → Config
with_both config holders k n now met = record { holders = with_items config.holders (slice_set (slice_set holders k now) n met); longest = config.longest }

configuration_of-with_both : (script : List Procedure) (config : Config) (k n : ℕ) (holders : List Holder) (holder now was met : Holder) → Lent config k n holders holder was
    → configuration_of script (with_both config holders k n now met) ≡ with_cell (with_cell (configuration_of script config) k (cell_of script now)) n (cell_of script met)
configuration_of-with_both script config k n holders holder now was met lent =
    two-cells script config (with_both config holders k n now met) k n now met refl
    (with_items_is config.holders (slice_set (slice_set holders k now) n met) (length-set (slice_set holders k now) n met ∙ length-set holders k now ∙ ap length lent.same ∙ sym config.holders.ok.0)
    ∙ ap (λ (hs : List Holder). slice_set (slice_set hs k now) n met) lent.same)

pub meeting-steps : (script : List Procedure) (config : Config) (k n ticket : ℕ) (holders : List Holder) (holder mid now was room met : Holder) (entry : Entry) (child : Option Task) → IsSound (configuration_of script config)
    → Lent config k n holders holder was → PreparedMeeting script config.longest holder mid was room k n entry child → Records script mid now entry.act → Serves script room met entry.act child
    → Steps (configuration_of script config) (configuration_of script (with_both config holders k n now met)) k ticket (record entry { ticket = ticket })
meeting-steps script config k n ticket holders holder mid now was room met entry child sound lent prepared records serves =
    let c : Configuration = configuration_of script config in
    let shown : Entry = record entry { ticket = ticket } in
    let one : cell_of script now ≡ acted c.program shown (cell_at c k) =
    recorded-acted script config.longest _ holder mid now k (Some n) entry prepared.actor records ∙ ap (acted c.program entry) (sym (cell-there script config k holder lent.actor_is)) in
    let other : cell_of script met ≡ served c.program shown (cell_at c n) =
    recorded-served script config.longest was room met entry child prepared.met serves ∙ ap (served c.program entry) (sym (cell-there script config n was lent.met_is)) in
    let next : Configuration = with_cell (with_cell c k (cell_of script now)) n (cell_of script met) in
    subst (λ (d : Configuration). Steps c d k ticket shown) (sym (configuration_of-with_both script config k n holders holder now was met lent))
    (step-of-entry ticket c next k shown sound (prepared.actor.shown c (stands script config k holder sound lent.actor_is) (stands script config n was sound lent.met_is) ticket) refl
    (length-set (with_cell c k (cell_of script now)).cells n (cell_of script met) ∙ length-set c.cells k (cell_of script now))
    (λ m. meeting-enters c k n m shown (cell_of script now) (cell_of script met) (within-cells script config k holder lent.actor_is) (within-cells script config n was lent.met_is) lent.other
    prepared.actor.actor prepared.actor.meets one other))

-- two holders that stand for the same cells as before change nothing
pub meeting-same : (script : List Procedure) (config : Config) (k n : ℕ) (holders : List Holder) (holder now was met : Holder) → Lent config k n holders holder was → AreAsBefore script holder now was met
    → configuration_of script (with_both config holders k n now met) ≡ configuration_of script config
meeting-same script config k n holders holder now was met lent same =
    let c : Configuration = configuration_of script config in
    configuration_of-with_both script config k n holders holder now was met lent
    ∙ ap (λ (here : Cell). with_cell (with_cell c k here) n (cell_of script met)) (same.actor.cell ∙ sym (cell-there script config k holder lent.actor_is))
    ∙ ap (λ (d : Configuration). with_cell d n (cell_of script met)) (with_cell-same c k)
    ∙ ap (with_cell c n) (same.met.cell ∙ sym (cell-there script config n was lent.met_is))
    ∙ with_cell-same c n

-- what a visit of a configuration stands on
meets : (script : List Procedure) (config : Config) (k n : ℕ) (asked : Act) (onward : Onward) → IsSound (configuration_of script config) → (plans : PlansVisit script config.longest (task_in config k) asked n onward)
    → MeetsNode (configuration_of script config) k asked plans.target
meets script config k n asked onward sound plans =
    visit_meets_node (configuration_of script config) k (state_in script plans.task) asked plans.target (onward_of (script_lines script) (simple_of (state_in script plans.task).items) onward) sound
    (task-cell script config k plans.task plans.is) plans.plans

-- a task that can take a turn that meets a node finds that node ready
met-ready : (script : List Procedure) (config : Config) (k n : ℕ) (asked : Act) (onward : Onward) → IsSound (configuration_of script config) → (plans : PlansVisit script config.longest (task_in config k) asked n onward)
    → can (configuration_of script config) k ≡ true → is_ready (cell_at (configuration_of script config) (number_of plans.target)).state asked ≡ true
met-ready script config k n asked onward sound plans moves =
    let c : Configuration = configuration_of script config in
    let on : going.Onward = onward_of (script_lines script) (simple_of (state_in script plans.task).items) onward in
    not-false (is_ready (cell_at c (number_of plans.target)).state asked)
    (λ unready. true≢false (sym moves
    ∙ waits-still c k (state_in script plans.task) asked plans.target on (task-cell script config k plans.task plans.is) plans.plans (meets script config k n asked onward sound plans) unready))
  where
    not-false : (b : Bool) → (b ≡ false → ⊥) → b ≡ true
    not-false true h = refl
    not-false false h = absurd (h refl)

pub holder-ready : (script : List Procedure) (config : Config) (k n m : ℕ) (asked : Act) (onward : Onward) (was : Holder) → IsSound (configuration_of script config) → PlansVisit script config.longest (task_in config k) asked m onward
    → can (configuration_of script config) k ≡ true → n ≡ m → StandsAt config n was → is_ready was.node.state asked ≡ true
holder-ready script config k n m asked onward was sound plans moves number there =
    let c : Configuration = configuration_of script config in
    ap (λ (cell : Cell). is_ready cell.state asked) (sym (cell-there script config n was there))
    ∙ ap (λ (i : ℕ). is_ready (cell_at c i).state asked) (number ∙ sym plans.number) ∙ met-ready script config k m asked onward sound plans moves

-- and it is the node of another holder
pub meets-other : (script : List Procedure) (config : Config) (k n m : ℕ) (asked : Act) (onward : Onward) → IsSound (configuration_of script config) → PlansVisit script config.longest (task_in config k) asked m onward
    → can (configuration_of script config) k ≡ true → n ≡ m → k ≡ n → ⊥
meets-other script config k n m asked onward sound plans moves number itself =
    (meets script config k m asked onward sound plans).other (met-ready script config k m asked onward sound plans moves) (itself ∙ number ∙ sym plans.number)

-- both are in the list
pub met-within : (script : List Procedure) (config : Config) (k n m : ℕ) (asked : Act) (onward : Onward) → IsSound (configuration_of script config) → PlansVisit script config.longest (task_in config k) asked m onward → n ≡ m
    → n < length config.holders.items
met-within script config k n m asked onward sound plans number =
    subst (λ (l : ℕ). n < l) (cells-length script config)
    (subst (λ (i : ℕ). i < length (configuration_of script config).cells) (plans.number ∙ sym number) (meets script config k m asked onward sound plans).within)

pub actor-within : (script : List Procedure) (config : Config) (k : ℕ) (task : Task) → task_in config k ≡ Some task → k < length config.holders.items
actor-within script config k task is = subst (λ (l : ℕ). k < l) (cells-length script config) (task-within script config k task is)

pub lent : (script : List Procedure) (config : Config) (k n m : ℕ) (asked : Act) (onward : Onward) (holders : List Holder) (holder was : Holder) → IsSound (configuration_of script config)
    → PlansVisit script config.longest (task_in config k) asked m onward → can (configuration_of script config) k ≡ true → n ≡ m → holders ≡ config.holders.items → holder ≡ get_or holders k holder → was ≡ get_or holders n was
    → Lent config k n holders holder was
lent script config k n m asked onward holders holder was sound plans moves number same holder_is was_is =
    let at : ℕ → Holder → List Holder → Type 0 = λ i h hs. h ≡ get_or hs i h in
    record {
      same = same;
      other = meets-other script config k n m asked onward sound plans moves number;
      actor_is = record { within = actor-within script config k plans.task plans.is; is = subst (at k holder) same holder_is };
      met_is = record { within = met-within script config k n m asked onward sound plans number; is = subst (at n was) same was_is };
    }
