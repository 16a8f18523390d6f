-- Turns of the erased calculus name no principal without a name, and their entries can be printed.
use Rattle.std.proofs.Common.{◌≡◌, refl, sym, subst, ℕ, Bool, true, false, if◌then◌else◌, List, [], ◌∷◌, All, Option, Some, None}
use Rattle.std.specs.Prelude.{option_and_then}
use Rattle.std.specs.Option.{option_map}
use Rattle.std.proofs.lemmas.List.Elements.{All-head, All-tail, All-map}
use Rattle.lio_labels.specs.declared.label.Label.{Label}
use Rattle.lio_labels.specs.Flow.{flows}
use Rattle.lio_values.specs.declared.value.Content.{Content}
use Rattle.lio_values.specs.declared.value.Content.TheVariants.{Kept, Faulted, Hidden}
use Rattle.lio_values.specs.declared.act.Act.{Act}
use Rattle.lio_values.specs.declared.act.Act.TheVariants as act
use Rattle.lio_values.specs.declared.act.Reply.{Reply}
use Rattle.lio_values.specs.declared.act.Reply.TheVariants.{Done, Got, Told, Refused}
use Rattle.lio_values.specs.Named.{IsContentNamed, IsValueNamed}
use Rattle.lio_events.specs.Printable.{IsActNamed, IsRaiseOf}
use Rattle.lio_events.proofs.PrintableLemmas.{value_named, option_named, act_named, raise_of, reply_named}
use Rattle.lio_cells.specs.declared.state.State.{State}
use Rattle.lio_cells.specs.declared.state.State.TheVariants.{Absent, Ref, Var, Chan, Job}
use Rattle.lio_syntax.specs.Environment.{Environment}
use Rattle.lio_syntax.specs.Items.{Item, Back}
use Rattle.lio_syntax.specs.Hiding.{hide_binding, hide_environment, hide_item}
use Rattle.lio_calculus.specs.Task.{TaskState}
use Rattle.lio_calculus.specs.Plan.{Program, plan}
use Rattle.lio_calculus.specs.Step.{Cell, Configuration, blank, cell_at, Move, move_of, after}
use Rattle.lio_calculus.specs.Hiding.{hide_task}
use Rattle.lio_calculus.specs.Erased.{sees, hide_state, hide_cell, erase_cell, erase, Opened, taking_front, opened_release, opened, low_with, low_turn, low}
use Rattle.lio_calculus.specs.Sound.{EachBound}
use Rattle.lio_calculus.specs.Purity.{LowTurnIsPure}
use Rattle.lio_calculus.proofs.ConfigLemmas.{cell_at-erased}
use Rattle.lio_calculus.proofs.PurityLemmas.{erased_is_pure, low_turn_keeps_purity}
use Rattle.lio_calculus_runs.specs.Script.{IsScriptNamed}
use Rattle.lio_calculus_runs.specs.Configuration.{IsItemNamed, IsTaskNamed, IsStateNamed, NamesOnly}
use Rattle.lio_calculus_runs.specs.NameLaws.{IsLowTurnNamed, ErasedNamesOnly, LowTurnNamesOnly}
use Rattle.lio_calculus_runs.proofs.Statements.{plan_named}
use Rattle.lio_calculus_runs.proofs.NamedTurns.{IsCellNamed, IsMoveNamed, move_named, after_named, program_stays}

-- what is hidden names nothing
environment_named : (names : List (List ℕ)) (observer : Label) (environment : Environment) → EachBound (IsValueNamed names) environment → EachBound (IsValueNamed names) (hide_environment observer environment)
environment_named names observer environment each = All-map (λ binding. IsValueNamed names binding.value) (hide_binding observer) environment (λ k d within. value_named names observer _ (each k d within))

item_named : (names : List (List ℕ)) (observer : Label) (item : Item) → IsItemNamed names item → IsItemNamed names (hide_item observer item)
item_named names observer (Back caller name) named = environment_named names observer caller named
item_named names observer item named = named

task_named : (names : List (List ℕ)) (observer : Label) (task : TaskState) → IsTaskNamed names task → IsTaskNamed names (hide_task observer task)
task_named names observer task named = record {
  environment = environment_named names observer task.environment named.environment;
  items = All-map (IsItemNamed names) (hide_item observer) task.items (λ k d within. item_named names observer _ (named.items k d within));
  label = named.label;
  clearance = named.clearance;
}

state_named : (names : List (List ℕ)) (observer : Label) (state : State) → IsStateNamed names state → IsStateNamed names (hide_state observer state)
state_named names observer Absent named = named
state_named names observer (Ref label value) named = (named.0, value_named names observer value named.1)
state_named names observer (Var label value) named = (named.0, option_named names observer value named.1)
state_named names observer (Chan label received) named = named
state_named names observer (Job label result) named = named

blank_named : (names : List (List ℕ)) → IsCellNamed names blank
blank_named names = record { state = tt; task = λ x e. absurd (cc) }

hidden_named : (names : List (List ℕ)) (observer : Label) (cell : Cell) → IsCellNamed names cell → IsCellNamed names (hide_cell observer cell)
hidden_named names observer cell named = record {
  state = state_named names observer cell.state named.state;
  task = by cell.task named.task;
}
  where
    by : (t : Option TaskState) → ((x : TaskState) → t ≡ Some x → IsTaskNamed names x) → (x : TaskState) → option_map (hide_task observer) t ≡ Some x → IsTaskNamed names x
    by None before x e = absurd (cc)
    by (Some task) before x e = let is : hide_task observer task ≡ x = cc in subst (IsTaskNamed names) is (task_named names observer task (before task refl))

cell_named : (names : List (List ℕ)) (observer : Label) (cell : Cell) → IsCellNamed names cell → IsCellNamed names (erase_cell observer cell)
unfolding erase_cell
cell_named names observer cell named = by (sees observer cell)
  where
    by : (b : Bool) → IsCellNamed names (if b then hide_cell observer cell else blank)
    by true = hidden_named names observer cell named
    by false = blank_named names

-- the cells of a configuration
cells_named : (names : List (List ℕ)) (c : Configuration) → NamesOnly names c → (n : ℕ) → IsCellNamed names (cell_at c n)
cells_named names c named n = record { state = named.nodes n; task = named.tasks n }

-- what an observer sees of a configuration
seen_named : (names : List (List ℕ)) (observer : Label) (c : Configuration) → ((n : ℕ) → IsCellNamed names (cell_at c n)) → (n : ℕ) → IsCellNamed names (cell_at (erase observer c) n)
seen_named names observer c named n = subst (IsCellNamed names) (sym (cell_at-erased observer c n)) (cell_named names observer (cell_at c n) (named n))

pub erased_names_only : ErasedNamesOnly
erased_names_only names observer c named =
    let cells : (n : ℕ) → IsCellNamed names (cell_at (erase observer c) n) = seen_named names observer c (cells_named names c named) in
    record { tasks = λ n x is. (cells n).task x is; nodes = λ n. (cells n).state; program = named.program; pure = erased_is_pure observer c named.pure }

-- an act with the released contents that are left
record IsOpenedNamed (names : List (List ℕ)) (o : Opened) : Type 0 where
  act : IsActNamed names o.act
  raise : IsRaiseOf o.act
  left : All (IsContentNamed names) o.left

-- an act that opens nothing
same_named : (names : List (List ℕ)) (asked : Act) (contents : List Content) (o : Opened) → IsActNamed names asked → IsRaiseOf asked → All (IsContentNamed names) contents
    → Some (let same : Opened = record { act = asked; left = contents } in same) ≡ Some o → IsOpenedNamed names o
same_named names asked contents o a raise all e =
    let same : Opened = record { act = asked; left = contents } in
    let is : same ≡ o = cc in
    subst (IsOpenedNamed names) is (record { act = a; raise = raise; left = all })

-- a release or an exposure, whatever act its content makes
opening_named : (names : List (List ℕ)) (observer target : Label) (into : Content → Act) (hidden : Content) (contents : List Content) (o : Opened)
    → ((content : Content) → IsContentNamed names content → IsActNamed names (into content) × IsRaiseOf (into content)) → IsContentNamed names hidden → All (IsContentNamed names) contents
    → opened_release observer (into hidden) target into hidden contents ≡ Some o → IsOpenedNamed names o
opening_named names observer target into Hidden contents o each n all e = by (flows target observer) contents all e
  where
    by : (b : Bool) (rest : List Content) → All (IsContentNamed names) rest
        → (if b then taking_front (into Hidden) into rest else Some (record { act = into Hidden; left = rest })) ≡ Some o → IsOpenedNamed names o
    by true [] rest e = absurd (cc)
    by true (content ∷ rest) all e =
        let p = each content (All-head (IsContentNamed names) content rest all) in same_named names (into content) rest o p.0 p.1 (All-tail (IsContentNamed names) content rest all) e
    by false rest all e = let p = each Hidden n in same_named names (into Hidden) rest o p.0 p.1 all e
opening_named names observer target into (Kept plain) contents o each n all e = let p = each (Kept plain) n in same_named names (into (Kept plain)) contents o p.0 p.1 all e
opening_named names observer target into (Faulted fault) contents o each n all e = let p = each (Faulted fault) n in same_named names (into (Faulted fault)) contents o p.0 p.1 all e

opened_named : (names : List (List ℕ)) (observer : Label) (asked : Act) (reply : Reply) (contents : List Content) (o : Opened) → IsActNamed names asked → IsRaiseOf asked → All (IsContentNamed names) contents
    → opened observer asked reply contents ≡ Some o → IsOpenedNamed names o
unfolding opened
opened_named names observer (act.Release source target power content) Done contents o a raise all e =
    opening_named names observer target (act.Release source target power) content contents o (λ c n. ((a.0, a.1, a.2, n), tt)) a.3 all e
opened_named names observer (act.Release source target power content) (Got value) contents o a raise all e = same_named names (act.Release source target power content) contents o a raise all e
opened_named names observer (act.Release source target power content) (Told told) contents o a raise all e = same_named names (act.Release source target power content) contents o a raise all e
opened_named names observer (act.Release source target power content) (Refused fault) contents o a raise all e = same_named names (act.Release source target power content) contents o a raise all e
opened_named names observer (act.Expose source target power content) Done contents o a raise all e =
    opening_named names observer target (act.Expose source target power) content contents o (λ c n. ((a.0, a.1, a.2, n), tt)) a.3 all e
opened_named names observer (act.Expose source target power content) (Got value) contents o a raise all e = same_named names (act.Expose source target power content) contents o a raise all e
opened_named names observer (act.Expose source target power content) (Told told) contents o a raise all e = same_named names (act.Expose source target power content) contents o a raise all e
opened_named names observer (act.Expose source target power content) (Refused fault) contents o a raise all e = same_named names (act.Expose source target power content) contents o a raise all e
opened_named names observer asked reply contents o a raise all e = same_named names asked contents o a raise all e

-- a turn of the erased calculus
pub low_turn_names_only : LowTurnNamesOnly
unfolding low
low_turn_names_only names observer ticket c k contents turn named all steps = by (cell_at c k).task refl steps
  where
    made : (task : TaskState) (move : Move) (o : Opened) → IsTaskNamed names task → IsMoveNamed names move → IsOpenedNamed names o → LowTurnIsPure (low_with observer ticket c k task move o) → IsLowTurnNamed names (low_with observer ticket c k task move o)
    made task move o t m opens kept =
        let seen : Move = record move { act = o.act } in
        let cells : (n : ℕ) → IsCellNamed names (cell_at (after c k task seen) n) =
        after_named names c k task seen named.program (cells_named names c named) t (record { asked = opens.act; raise = opens.raise; reply = m.reply; onward = m.onward }) in
        let low_cells : (n : ℕ) → IsCellNamed names (cell_at (erase observer (after c k task seen)) n) = seen_named names observer (after c k task seen) cells in
        record {
          entry = record {
            at = t.label;
            act = act_named names observer o.act opens.act;
            raise = raise_of observer o.act opens.raise;
            reply = reply_named names observer move.reply m.reply;
            pure = (kept.entry.act, kept.entry.reply);
          };
          next = record {
            tasks = λ n x is. (low_cells n).task x is;
            nodes = λ n. (low_cells n).state;
            program = subst (λ (program : Program). IsScriptNamed names program.procedures) (sym (program_stays c k task seen)) named.program;
            pure = kept.next;
          };
          left = λ place d within. (opens.left place d within, kept.left place d within);
        }

    opens : (task : TaskState) (move : Move) → IsTaskNamed names task → IsMoveNamed names move → (o : Option Opened) → opened observer move.act move.reply contents ≡ o → option_map (low_with observer ticket c k task move) o ≡ Some turn → IsLowTurnNamed names turn
    opens task move t m None is e = absurd (cc)
    opens task move t m (Some o) is e =
        let same : low_with observer ticket c k task move o ≡ turn = cc in
        subst (IsLowTurnNamed names) same (made task move o t m (opened_named names observer move.act move.reply contents o m.asked m.raise (λ place d within. (all place d within).0) is) (subst LowTurnIsPure (sym same) (low_turn_keeps_purity observer ticket c k contents turn named.pure (λ place d within. (all place d within).1) steps)))

    moves : (task : TaskState) → IsTaskNamed names task → (m : Option Move) → move_of (cell_at c) (plan c.program task) ≡ m
        → option_and_then (λ move. option_map (low_with observer ticket c k task move) (opened observer move.act move.reply contents)) m ≡ Some turn → IsLowTurnNamed names turn
    moves task t None is e = absurd (cc)
    moves task t (Some move) is e =
        opens task move t (move_named names c (plan c.program task) move named.nodes (plan_named names c.program task named.program t) is) (opened observer move.act move.reply contents) refl e

    by : (t : Option TaskState) → (cell_at c k).task ≡ t → option_and_then (low_turn observer ticket c k contents) t ≡ Some turn → IsLowTurnNamed names turn
    by None is e = absurd (cc)
    by (Some task) is e = moves task (named.tasks k task is) (move_of (cell_at c) (plan c.program task)) refl e
