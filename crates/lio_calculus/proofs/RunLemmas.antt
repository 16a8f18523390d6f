-- A run, seen by an observer, is the run of the erased calculus.
use Rattle.std.proofs.Common.{◌≡◌, ◌∙◌, refl, sym, ap, subst, ℕ, ◌+◌, Bool, true, false, ◌&&◌, not, if◌then◌else◌, IsTrue, List, [], ◌∷◌, ◌++◌, All, Option, Some, None, true≢false, append_assoc}
use Rattle.std.specs.Prelude.{option_and_then, option_map}
use Rattle.std.proofs.lemmas.List.Elements.{All-nil, All-cons, All-append}
use Rattle.lio_labels.specs.declared.label.Label.{Label}
use Rattle.lio_labels.specs.Flow.{flows}
use Rattle.lio_labels.proofs.FlowLemmas.{flow_is_transitive}
use Rattle.lio_values.specs.declared.value.Content.{Content}
use Rattle.lio_values.specs.declared.act.Act.{Act}
use Rattle.lio_values.specs.declared.act.Act.TheVariants as act
use Rattle.lio_values.specs.declared.act.Reply.{Reply}
use Rattle.lio_values.specs.declared.act.Reply.TheVariants.{Done, Got, Told, Refused}
use Rattle.lio_values.specs.declared.entry.Entry.{Entry}
use Rattle.lio_values.specs.Erasure.{erase_entry}
use Rattle.lio_guards.proofs.GuardLemmas.{current_flows_to_released, current_flows_to_exposed}
use Rattle.lio_cells.specs.State.{ready, answer}
use Rattle.lio_syntax.specs.Items.{Item}
use Rattle.lio_calculus.specs.Task.{TaskState}
use Rattle.lio_calculus.specs.Plan.{Program, Plan, Over, Own, Visit, plan}
use Rattle.lio_calculus.specs.Step.{Configuration, cell_at, Move, move_of, number_of, met, waits, Turn, entry_of, turn_of, after, step}
use Rattle.lio_events.specs.Views.{released_to}
use Rattle.lio_calculus.specs.Erased.{erase, LowTurn}
use Rattle.lio_calculus.specs.Guarded.{IsShown, IsGuarded, IsNoRelease}
use Rattle.lio_calculus.specs.Laws.{IsShownContent}
use Rattle.lio_events.specs.Views.{is_visible, view, who, releases}
use Rattle.lio_calculus.specs.Run.{Ran, ran_after, run, low_ran_after, low_run}
use Rattle.lio_calculus.specs.Sound.{IsTaskOf, IsSound}
use Rattle.lio_calculus.proofs.InvisibleLemmas.{visit-move, step-unseen}
use Rattle.lio_calculus.proofs.VisibleStep.{step-visible}
use Rattle.lio_calculus.proofs.StepGuarded.{turn-guarded}
use Rattle.lio_calculus.proofs.StepKept.{turn-kept}
use Rattle.lio_calculus.proofs.Outcome as out
use Rattle.lio_calculus.proofs.PlanCases.{ItemsCase, Does, plan-by}

-- what is released or exposed comes to a label above the task's
abbrev UpAct : TaskState → Act → Type 0
UpAct task (act.Release source target power content) = IsTrue (flows task.label target)
UpAct task (act.Expose source target power content) = IsTrue (flows task.label target)
UpAct task asked = Unit {0}

abbrev UpReply : TaskState → Reply → Act → Type 0
UpReply task Done asked = UpAct task asked
UpReply task (Refused fault) asked = Unit {0}
UpReply task (Got value) asked = Unit {0}
UpReply task (Told content) asked = Unit {0}

abbrev Up : TaskState → Plan → Type 0
Up task Over = Unit {0}
Up task (Own asked reply onward) = UpReply task reply asked
Up task (Visit asked target onward) = Unit {0}

items-up : {program : Program} {items : List Item} {p : Plan} (task : TaskState) → ItemsCase program task items p → Up task p
items-up task (Does (out.Releases asks e f)) = current_flows_to_released task.label task.clearance _ _ _ _ f
items-up task (Does (out.Exposes asks e f)) = current_flows_to_exposed task.label task.clearance _ _ _ f
items-up task o = tt

plan-up : (program : Program) (task : TaskState) → Up task (plan program task)
plan-up program task = plan-by (Up task) program task tt tt (λ p going o. items-up task o)

-- so a turn above an observer releases nothing to it
and_false : (b : Bool) → (b && false) ≡ false
and_false true = refl
and_false false = refl

unreleased : (observer : Label) (task : TaskState) (source target : Label) (content : Content) → flows task.label observer ≡ false → IsTrue (flows task.label target)
    → (if not (flows source observer) && flows target observer then content ∷ [] else []) ≡ []
unreleased observer task source target content above up = by (flows target observer) refl
  where
    by : (b : Bool) → flows target observer ≡ b → (if not (flows source observer) && b then content ∷ [] else []) ≡ []
    by true e = let seen : IsTrue (flows task.label observer) = flow_is_transitive task.label target observer up e in absurd (true≢false (sym seen ∙ above))
    by false e = ap (λ (t : Bool). if t then content ∷ [] else []) (and_false (not (flows source observer)))

none-released : (observer : Label) (task : TaskState) (asked : Act) (reply : Reply) → flows task.label observer ≡ false → UpReply task reply asked → released_to observer asked reply ≡ []
unfolding released_to
none-released observer task (act.Release source target power content) Done above up = unreleased observer task source target content above up
none-released observer task (act.Expose source target power content) Done above up = unreleased observer task source target content above up
none-released observer task asked reply above up = refl

quiet-released : (observer : Label) (asked : Act) (reply : Reply) → IsNoRelease asked → released_to observer asked reply ≡ []
unfolding released_to
quiet-released observer (act.Release source target power content) reply quiet = absurd quiet
quiet-released observer (act.Expose source target power content) reply quiet = absurd quiet
quiet-released observer asked reply quiet = refl

move-released : (observer : Label) (c : Configuration) (k : ℕ) (task : TaskState) (p : Plan) (move : Move) → flows task.label observer ≡ false → IsGuarded c k task p → Up task p → move_of (cell_at c) p ≡ Some move → released_to observer move.act move.reply ≡ []
move-released observer c k task Over move above guarded up moves = absurd (cc)
move-released observer c k task (Own asked reply onward) move above guarded up moves =
    let made : Move = record { act = asked; target = None; reply = reply; onward = onward } in
    let equal : made ≡ move = cc in
    subst (λ (m : Move). released_to observer m.act m.reply ≡ []) equal (none-released observer task asked reply above up)
move-released observer c k task (Visit asked target onward) move above guarded up moves =
    let made : Move = record { act = asked; target = Some target; reply = answer (met target (cell_at c (number_of target)).state) asked; onward = onward } in
    let equal : made ≡ move = visit-move asked target onward (waits asked && not (ready (met target (cell_at c (number_of target)).state) asked)) made move moves in
    subst (λ (m : Move). released_to observer m.act m.reply ≡ []) equal (quiet-released observer asked made.reply guarded.quiet)

-- a release or an exposure that is carried out shows its content, so what a turn releases isn't hidden
if-shown : (b : Bool) (content : Content) → IsShownContent content → All IsShownContent (if b then content ∷ [] else [])
if-shown true content shown = All-cons IsShownContent content [] shown (All-nil IsShownContent)
if-shown false content shown = All-nil IsShownContent

own-shown : (observer : Label) (asked : Act) (reply : Reply) → IsShown asked reply → All IsShownContent (released_to observer asked reply)
unfolding released_to
own-shown observer (act.Release source target power content) Done shown = if-shown (not (flows source observer) && flows target observer) content shown
own-shown observer (act.Expose source target power content) Done shown = if-shown (not (flows source observer) && flows target observer) content shown
own-shown observer asked reply shown = All-nil IsShownContent

move-shown : (observer : Label) (c : Configuration) (k : ℕ) (task : TaskState) (p : Plan) (move : Move) → IsGuarded c k task p → move_of (cell_at c) p ≡ Some move → All IsShownContent (released_to observer move.act move.reply)
move-shown observer c k task Over move guarded moves = absurd (cc)
move-shown observer c k task (Own asked reply onward) move guarded moves =
    let made : Move = record { act = asked; target = None; reply = reply; onward = onward } in
    let equal : made ≡ move = cc in
    subst (λ (m : Move). All IsShownContent (released_to observer m.act m.reply)) equal (own-shown observer asked reply guarded.shown)
move-shown observer c k task (Visit asked target onward) move guarded moves =
    let made : Move = record { act = asked; target = Some target; reply = answer (met target (cell_at c (number_of target)).state) asked; onward = onward } in
    let equal : made ≡ move = visit-move asked target onward (waits asked && not (ready (met target (cell_at c (number_of target)).state) asked)) made move moves in
    subst (λ (m : Move). All IsShownContent (released_to observer m.act m.reply)) equal
    (subst (All IsShownContent) (sym (quiet-released observer asked made.reply guarded.quiet)) (All-nil IsShownContent))

-- what a turn shows, and the same turn with another ticket
record Shows (ticket : ℕ) (c : Configuration) (k : ℕ) (task : TaskState) (turn : Turn) : Type 0 where
  move : Move
  moves : move_of (cell_at c) (plan c.program task) ≡ Some move
  is : turn ≡ record { entry = entry_of ticket k task move; next = after c k task move }

shows : (ticket : ℕ) (c : Configuration) (k : ℕ) (task : TaskState) (turn : Turn) → IsTaskOf c k task → step ticket c k ≡ Some turn → Shows ticket c k task turn
unfolding step
shows ticket c k task turn is steps =
    by (move_of (cell_at c) (plan c.program task)) refl (sym (ap (λ (t : Option TaskState). option_and_then (turn_of ticket c k) t) is) ∙ steps)
  where
    by : (m : Option Move) → move_of (cell_at c) (plan c.program task) ≡ m → option_map (λ move. record { entry = entry_of ticket k task move; next = after c k task move }) m ≡ Some turn → Shows ticket c k task turn
    by None moves got = absurd (cc)
    by (Some move) moves got = let made : Turn = record { entry = entry_of ticket k task move; next = after c k task move } in let equal : made ≡ turn = cc in record { move = move; moves = moves; is = sym equal }

-- so a turn above an observer shows no release to it
pub step-released : (observer : Label) (ticket : ℕ) (c : Configuration) (k : ℕ) (task : TaskState) (turn : Turn) → IsSound c → IsTaskOf c k task → flows task.label observer ≡ false → step ticket c k ≡ Some turn
    → released_to observer turn.entry.act turn.entry.reply ≡ []
step-released observer ticket c k task turn sound is above steps =
    let s = shows ticket c k task turn is steps in
    ap (λ (t : Turn). released_to observer t.entry.act t.entry.reply) s.is
    ∙ move-released observer c k task (plan c.program task) s.move above (turn-guarded ticket c k task turn sound is steps) (plan-up c.program task) s.moves

again : (ticket n : ℕ) (c : Configuration) (k : ℕ) (task : TaskState) (turn : Turn) → IsTaskOf c k task → Shows ticket c k task turn → step n c k ≡ Some (record { entry = record turn.entry { ticket = n }; next = turn.next })
unfolding step
again ticket n c k task turn is s =
    ap (option_and_then (turn_of n c k)) is
    ∙ ap (option_map (λ move. record { entry = entry_of n k task move; next = after c k task move })) s.moves
    ∙ sym (ap (λ (t : Turn). let u : Turn = record { entry = record t.entry { ticket = n }; next = t.next } in Some u) s.is)

-- the task of a number that takes a turn
record Actor (c : Configuration) (k : ℕ) : Type 0 where
  task : TaskState
  is : IsTaskOf c k task

actor : (ticket : ℕ) (c : Configuration) (k : ℕ) (turn : Turn) → step ticket c k ≡ Some turn → Actor c k
unfolding step
actor ticket c k turn steps = by (cell_at c k).task refl steps
  where
    by : (t : Option TaskState) → (cell_at c k).task ≡ t → option_and_then (turn_of ticket c k) t ≡ Some turn → Actor c k
    by None e f = absurd (cc)
    by (Some task) e f = record { task = task; is = e }

-- what a run shows to an observer, what it releases to it, and its last configuration
pub record RunIsErased (observer : Label) (n : ℕ) (c : Configuration) (ran : Ran) (rest : List Content) : Type 0 where
  pub low : low_run observer n (erase observer c) (who observer ran.entries) (releases observer ran.entries ++ rest)
      ≡ Some (record { entries = view observer n ran.entries; last = erase observer ran.last; left = rest })
  pub released : All IsShownContent (releases observer ran.entries)
  pub sound : IsSound ran.last

-- one turn before a run
first-turn : (observer : Label) (ticket n : ℕ) (c : Configuration) (k : ℕ) (turn : Turn) (ran : Ran) (rest : List Content) → IsSound c → step ticket c k ≡ Some turn
    → ((m : ℕ) → RunIsErased observer m turn.next ran rest) → RunIsErased observer n c (ran_after turn.entry ran) rest
unfolding low_run view who releases
first-turn observer ticket n c k turn ran rest sound steps more = record {
  low = by (is_visible observer turn.entry) refl;
  released = All-append IsShownContent released (releases observer ran.entries) shown (more n).released;
  sound = (more n).sound;
}
  where
    a : Actor c k
    a = actor ticket c k turn steps

    s : Shows ticket c k a.task turn
    s = shows ticket c k a.task turn a.is steps

    at_is : turn.entry.at ≡ a.task.label
    at_is = ap (λ (t : Turn). t.entry.at) s.is

    actor_is : turn.entry.actor ≡ k
    actor_is = ap (λ (t : Turn). t.entry.actor) s.is

    entry : Entry
    entry = record turn.entry { ticket = n }

    released : List Content
    released = released_to observer turn.entry.act turn.entry.reply

    guarded : IsGuarded c k a.task (plan c.program a.task)
    guarded = turn-guarded ticket c k a.task turn sound a.is steps

    shown : All IsShownContent released
    shown = subst (λ (t : Turn). All IsShownContent (released_to observer t.entry.act t.entry.reply)) (sym s.is) (move-shown observer c k a.task (plan c.program a.task) s.move guarded s.moves)

    by : (b : Bool) → is_visible observer turn.entry ≡ b
        → low_run observer n (erase observer c) (if b then turn.entry.actor ∷ who observer ran.entries else who observer ran.entries) ((released ++ releases observer ran.entries) ++ rest)
        ≡ Some (record { entries = if b then erase_entry observer entry ∷ view observer (n + 1) ran.entries else view observer n ran.entries; last = erase observer ran.last; left = rest })
    by true seen =
        let below : IsTrue (flows a.task.label observer) = ap (λ (l : Label). flows l observer) (sym at_is) ∙ seen in
        let same : step n c k ≡ Some (record { entry = entry; next = turn.next }) = again ticket n c k a.task turn a.is s in
        let lower = step-visible observer n c k a.task (record { entry = entry; next = turn.next }) (releases observer ran.entries ++ rest) a.is below (turn-guarded n c k a.task (record { entry = entry; next = turn.next }) sound a.is same) same in
        ap (λ (j : ℕ). low_run observer n (erase observer c) (j ∷ who observer ran.entries) ((released ++ releases observer ran.entries) ++ rest)) actor_is
        ∙ ap (λ (contents : List Content). low_run observer n (erase observer c) (k ∷ who observer ran.entries) contents) (append_assoc released (releases observer ran.entries) rest)
        ∙ ap (option_and_then (λ (t : LowTurn). option_map (low_ran_after t.entry) (low_run observer (n + 1) t.next (who observer ran.entries) t.left))) lower
        ∙ ap (option_map (low_ran_after (erase_entry observer entry))) (more (n + 1)).low
    by false unseen =
        let above : flows a.task.label observer ≡ false = ap (λ (l : Label). flows l observer) (sym at_is) ∙ unseen in
        let none : released ≡ [] = ap (λ (t : Turn). released_to observer t.entry.act t.entry.reply) s.is ∙ move-released observer c k a.task (plan c.program a.task) s.move above guarded (plan-up c.program a.task) s.moves in
        let still : erase observer turn.next ≡ erase observer c = step-unseen observer ticket c k a.task turn a.is above guarded steps in
        ap (λ (contents : List Content). low_run observer n (erase observer c) (who observer ran.entries) ((contents ++ releases observer ran.entries) ++ rest)) none
        ∙ ap (λ (d : Configuration). low_run observer n d (who observer ran.entries) (releases observer ran.entries ++ rest)) (sym still)
        ∙ (more n).low

-- a run from a well-formed configuration
pub run-erased : (observer : Label) (ticket n : ℕ) (c : Configuration) (ks : List ℕ) (ran : Ran) (rest : List Content) → IsSound c → run ticket c ks ≡ Some ran → RunIsErased observer n c ran rest
unfolding run low_run view who releases
run-erased observer ticket n c [] ran rest sound runs =
    let made : Ran = record { entries = []; last = c } in
    let equal : made ≡ ran = cc in
    subst (λ (r : Ran). RunIsErased observer n c r rest) equal (record { low = refl; released = All-nil IsShownContent; sound = sound })
run-erased observer ticket n c (k ∷ ks) ran rest sound runs =
    by (step ticket c k) refl (λ m d r fine goes. run-erased observer (ticket + 1) m d ks r rest fine goes) runs
  where
    Others : Type 0
    Others = (m : ℕ) (d : Configuration) (r : Ran) → IsSound d → run (ticket + 1) d ks ≡ Some r → RunIsErased observer m d r rest

    then_ : Others → (turn : Turn) (more : Option Ran) → step ticket c k ≡ Some turn → run (ticket + 1) turn.next ks ≡ more → option_map (ran_after turn.entry) more ≡ Some ran → RunIsErased observer n c ran rest
    then_ others turn None steps goes got = absurd (cc)
    then_ others turn (Some r) steps goes got =
        let equal : ran_after turn.entry r ≡ ran = cc in
        let a = actor ticket c k turn steps in
        subst (λ (x : Ran). RunIsErased observer n c x rest) equal
        (first-turn observer ticket n c k turn r rest sound steps (λ m. others m turn.next r (turn-kept ticket c k a.task turn sound a.is steps) goes))

    by : (t : Option Turn) → step ticket c k ≡ t → Others → option_and_then (λ (turn : Turn). option_map (ran_after turn.entry) (run (ticket + 1) turn.next ks)) t ≡ Some ran → RunIsErased observer n c ran rest
    by None steps others got = absurd (cc)
    by (Some turn) steps others got = then_ others turn (run (ticket + 1) turn.next ks) steps refl got
