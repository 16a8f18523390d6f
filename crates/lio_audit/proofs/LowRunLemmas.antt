-- Turns and runs of the erased calculus with more contents than they take, one behind another.
use Rattle.std.proofs.Common.{◌≡◌, ◌∙◌, refl, sym, ap, subst, ℕ, suc, ◌+◌, Bool, true, false, if◌then◌else◌, List, [], ◌∷◌, ◌++◌, length, Option, Some, None, option_and_then, arith}
use Rattle.std.specs.Option.{option_map}
use Rattle.std.proofs.lemmas.List.{length-map, length-set}
use Rattle.lio_labels.specs.declared.label.Label.{Label}
use Rattle.lio_labels.specs.Flow.{flows}
use Rattle.lio_values.specs.declared.value.Content.{Content}
use Rattle.lio_values.specs.declared.value.Content.TheVariants.{Kept, Faulted, Hidden}
use Rattle.lio_values.specs.declared.act.Act.{Act}
use Rattle.lio_values.specs.declared.act.Act.TheVariants as act
use Rattle.lio_values.specs.declared.act.Reply.{Reply}
use Rattle.lio_values.specs.declared.act.Reply.TheVariants.{Done}
use Rattle.lio_calculus.specs.Plan.{Target}
use Rattle.lio_calculus.specs.Step.{Configuration, Move, after, actor_after, cell_at, is_met, met_after, number_of, target_after, with_cell}
use Rattle.lio_calculus.specs.Erased.{LowTurn, Opened, erase_cell, low, low_turn, low_with, opened, opened_release, taking_front}
use Rattle.lio_calculus.specs.Run.{LowRan, low_ran_after, low_run}
use Rattle.lio_calculus_runs.proofs.LowTurnLemmas.{low-parts}

-- with more contents behind
abbrev pub with_more : List Content → LowTurn → LowTurn
with_more more turn = record { entry = turn.entry; next = turn.next; left = turn.left ++ more }

abbrev opened_more : List Content → Opened → Opened
opened_more more o = record { act = o.act; left = o.left ++ more }

front-more : (asked : Act) (into : Content → Act) (contents more : List Content) (o : Opened) → taking_front asked into contents ≡ Some o → taking_front asked into (contents ++ more) ≡ Some (opened_more more o)
front-more asked into [] more o is = absurd (cc)
front-more asked into (content ∷ contents) more o is = let same : record { act = into content; left = contents } ≡ o = cc in ap (λ (x : Opened). Some (opened_more more x)) same

kept-more : (asked : Act) (contents more : List Content) (o : Opened) → Some (let here : Opened = record { act = asked; left = contents } in here) ≡ Some o → Some (let here : Opened = record { act = asked; left = contents ++ more } in here) ≡ Some (opened_more more o)
kept-more asked contents more o is = let same : record { act = asked; left = contents } ≡ o = cc in ap (λ (x : Opened). Some (opened_more more x)) same

release-more : (observer : Label) (asked : Act) (target : Label) (into : Content → Act) (hidden : Content) (contents more : List Content) (o : Opened)
    → opened_release observer asked target into hidden contents ≡ Some o → opened_release observer asked target into hidden (contents ++ more) ≡ Some (opened_more more o)
release-more observer asked target into Hidden contents more o is = by (flows target observer) is
  where
    by : (b : Bool) → (if b then taking_front asked into contents else Some (let here : Opened = record { act = asked; left = contents } in here)) ≡ Some o
        → (if b then taking_front asked into (contents ++ more) else Some (let here : Opened = record { act = asked; left = contents ++ more } in here)) ≡ Some (opened_more more o)
    by true i = front-more asked into contents more o i
    by false i = kept-more asked contents more o i
release-more observer asked target into (Kept plain) contents more o is = kept-more asked contents more o is
release-more observer asked target into (Faulted fault) contents more o is = kept-more asked contents more o is

opened-more : (observer : Label) (asked : Act) (reply : Reply) (contents more : List Content) (o : Opened) → opened observer asked reply contents ≡ Some o → opened observer asked reply (contents ++ more) ≡ Some (opened_more more o)
unfolding opened
opened-more observer (act.Release source target power content) Done contents more o is =
    release-more observer (act.Release source target power content) target (act.Release source target power) content contents more o is
opened-more observer (act.Expose source target power content) Done contents more o is =
    release-more observer (act.Expose source target power content) target (act.Expose source target power) content contents more o is
opened-more observer asked reply contents more o is = kept-more asked contents more o is

-- a turn takes the same contents where more are behind them
pub low-more : (observer : Label) (ticket : ℕ) (c : Configuration) (k : ℕ) (contents more : List Content) (turn : LowTurn) → low observer ticket c k contents ≡ Some turn → low observer ticket c k (contents ++ more) ≡ Some (with_more more turn)
unfolding low
low-more observer ticket c k contents more turn takes =
    let p = low-parts observer ticket c k contents turn takes in
    ap (option_and_then (low_turn observer ticket c k (contents ++ more))) p.is_task
    ∙ ap (option_and_then (λ (m : Move). option_map (low_with observer ticket c k p.task m) (opened observer m.act m.reply (contents ++ more)))) p.moves
    ∙ ap (option_map (low_with observer ticket c k p.task p.move)) (opened-more observer p.move.act p.move.reply contents more p.o p.opens)
    ∙ ap (λ (t : LowTurn). Some (with_more more t)) p.is_turn

-- the actor of a turn's entry, and the turn's ticket
pub low-actor : (observer : Label) (ticket : ℕ) (c : Configuration) (k : ℕ) (contents : List Content) (turn : LowTurn) → low observer ticket c k contents ≡ Some turn → (turn.entry.actor ≡ k) × (turn.entry.ticket ≡ ticket)
low-actor observer ticket c k contents turn takes =
    let p = low-parts observer ticket c k contents turn takes in
    (sym (ap (λ (t : LowTurn). t.entry.actor) p.is_turn), sym (ap (λ (t : LowTurn). t.entry.ticket) p.is_turn))

target-size : (c : Configuration) (label : Label) (asked : Act) (target : Option Target) → length (target_after c label asked target).cells ≡ length c.cells
target-size c label asked None = refl
target-size c label asked (Some target) = by (is_met target (cell_at c (number_of target)).state)
  where
    n : ℕ
    n = number_of target

    by : (b : Bool) → length (if b then with_cell c n (met_after c.program label asked (cell_at c n)) else c).cells ≡ length c.cells
    by true = length-set c.cells n (met_after c.program label asked (cell_at c n))
    by false = refl

-- a turn keeps the number of cells
pub low-size : (observer : Label) (ticket : ℕ) (c : Configuration) (k : ℕ) (contents : List Content) (turn : LowTurn) → low observer ticket c k contents ≡ Some turn → length turn.next.cells ≡ length c.cells
low-size observer ticket c k contents turn takes =
    let p = low-parts observer ticket c k contents turn takes in
    let seen : Move = record p.move { act = p.o.act } in
    let between : Configuration = target_after c p.task.label seen.act seen.target in
    sym (ap (λ (t : LowTurn). length t.next.cells) p.is_turn)
    ∙ length-map (after c k p.task seen).cells (erase_cell observer)
    ∙ length-set between.cells k (actor_after p.task seen (cell_at between k)) ∙ target-size c p.task.label seen.act seen.target

-- with more contents behind, a run leaves them too
abbrev pub ran_more : List Content → LowRan → LowRan
ran_more more ran = record { entries = ran.entries; last = ran.last; left = ran.left ++ more }

pub low_run-nothing : (observer : Label) (ticket : ℕ) (c : Configuration) (contents : List Content) → low_run observer ticket c [] contents ≡ Some (record { entries = []; last = c; left = contents })
unfolding low_run
low_run-nothing observer ticket c contents = refl

pub low_run-step : (observer : Label) (ticket : ℕ) (c : Configuration) (k : ℕ) (ks : List ℕ) (contents : List Content) (turn : LowTurn) (rest : LowRan)
    → low observer ticket c k contents ≡ Some turn → low_run observer (ticket + 1) turn.next ks turn.left ≡ Some rest → low_run observer ticket c (k ∷ ks) contents ≡ Some (low_ran_after turn.entry rest)
unfolding low_run
low_run-step observer ticket c k ks contents turn rest taken goes =
    ap (option_and_then (λ (t : LowTurn). option_map (low_ran_after t.entry) (low_run observer (ticket + 1) t.next ks t.left))) taken ∙ ap (option_map (low_ran_after turn.entry)) goes

-- the first turn of a run, and the run after it
pub record LowFirst (observer : Label) (ticket : ℕ) (c : Configuration) (k : ℕ) (ks : List ℕ) (contents : List Content) (ran : LowRan) : Type 0 where
  pub turn : LowTurn
  pub rest : LowRan
  pub is_step : low observer ticket c k contents ≡ Some turn
  pub is_rest : low_run observer (ticket + 1) turn.next ks turn.left ≡ Some rest
  pub is_run : ran ≡ low_ran_after turn.entry rest

pub low-first : (observer : Label) (ticket : ℕ) (c : Configuration) (k : ℕ) (ks : List ℕ) (contents : List Content) (ran : LowRan) → low_run observer ticket c (k ∷ ks) contents ≡ Some ran → LowFirst observer ticket c k ks contents ran
unfolding low_run
low-first observer ticket c k ks contents ran is = by-step (low observer ticket c k contents) refl is
  where
    by-rest : (turn : LowTurn) (rest : Option LowRan) → low observer ticket c k contents ≡ Some turn → low_run observer (ticket + 1) turn.next ks turn.left ≡ rest → option_map (low_ran_after turn.entry) rest ≡ Some ran
        → LowFirst observer ticket c k ks contents ran
    by-rest turn None taken goes e = absurd (cc)
    by-rest turn (Some rest) taken goes e = record { turn = turn; rest = rest; is_step = taken; is_rest = goes; is_run = cc }

    by-step : (taken : Option LowTurn) → low observer ticket c k contents ≡ taken
        → option_and_then (λ turn. option_map (low_ran_after turn.entry) (low_run observer (ticket + 1) turn.next ks turn.left)) taken ≡ Some ran → LowFirst observer ticket c k ks contents ran
    by-step None taken e = absurd (cc)
    by-step (Some turn) taken e = by-rest turn (low_run observer (ticket + 1) turn.next ks turn.left) taken refl e

-- one run behind another
pub low_run-append : (observer : Label) (ticket : ℕ) (c : Configuration) (ks more : List ℕ) (contents : List Content) (one two : LowRan)
    → low_run observer ticket c ks contents ≡ Some one → low_run observer (ticket + length one.entries) one.last more one.left ≡ Some two
    → low_run observer ticket c (ks ++ more) contents ≡ Some (record { entries = one.entries ++ two.entries; last = two.last; left = two.left })
low_run-append observer ticket c [] more contents one two first then_ =
    let none : LowRan = record { entries = []; last = c; left = contents } in
    let begun : Some none ≡ Some one = sym (low_run-nothing observer ticket c contents) ∙ first in
    let e : none ≡ one = cc in
    let here : low_run observer (ticket + 0) c more contents ≡ Some two = subst (λ (r : LowRan). low_run observer (ticket + length r.entries) r.last more r.left ≡ Some two) (sym e) then_ in
    let at_zero : ticket + 0 ≡ ticket = omega arith in
    subst (λ (n : ℕ). low_run observer n c more contents ≡ Some two) at_zero here ∙ ap (λ (r : LowRan). let whole : LowRan = record { entries = r.entries ++ two.entries; last = two.last; left = two.left } in Some whole) e
low_run-append observer ticket c (k ∷ ks) more contents one two first then_ =
    let f = low-first observer ticket c k ks contents one first in
    let here : low_run observer (ticket + suc (length f.rest.entries)) f.rest.last more f.rest.left ≡ Some two =
    subst (λ (r : LowRan). low_run observer (ticket + length r.entries) r.last more r.left ≡ Some two) f.is_run then_ in
    let later : ticket + suc (length f.rest.entries) ≡ ticket + 1 + length f.rest.entries = omega arith in
    let now = subst (λ (n : ℕ). low_run observer n f.rest.last more f.rest.left ≡ Some two) later here in
    low_run-step observer ticket c k (ks ++ more) contents f.turn (record { entries = f.rest.entries ++ two.entries; last = two.last; left = two.left }) f.is_step
    (low_run-append observer (ticket + 1) f.turn.next ks more f.turn.left f.rest two f.is_rest now)
    ∙ ap (λ (r : LowRan). let whole : LowRan = record { entries = r.entries ++ two.entries; last = two.last; left = two.left } in Some whole) (sym f.is_run)

-- a run of one turn
pub low_run-one : (observer : Label) (ticket : ℕ) (c : Configuration) (k : ℕ) (contents : List Content) (turn : LowTurn) → low observer ticket c k contents ≡ Some turn
    → low_run observer ticket c (k ∷ []) contents ≡ Some (record { entries = turn.entry ∷ []; last = turn.next; left = turn.left })
low_run-one observer ticket c k contents turn takes =
    low_run-step observer ticket c k [] contents turn (record { entries = []; last = turn.next; left = turn.left }) takes (low_run-nothing observer (ticket + 1) turn.next turn.left)

-- a run with more contents behind
pub low_run-more : (observer : Label) (ticket : ℕ) (c : Configuration) (ks : List ℕ) (contents more : List Content) (ran : LowRan) → low_run observer ticket c ks contents ≡ Some ran → low_run observer ticket c ks (contents ++ more) ≡ Some (ran_more more ran)
low_run-more observer ticket c [] contents more ran is =
    let none : LowRan = record { entries = []; last = c; left = contents } in
    let begun : Some none ≡ Some ran = sym (low_run-nothing observer ticket c contents) ∙ is in
    let e : none ≡ ran = cc in
    low_run-nothing observer ticket c (contents ++ more) ∙ ap (λ (r : LowRan). Some (ran_more more r)) e
low_run-more observer ticket c (k ∷ ks) contents more ran is =
    let f = low-first observer ticket c k ks contents ran is in
    low_run-step observer ticket c k ks (contents ++ more) (with_more more f.turn) (ran_more more f.rest) (low-more observer ticket c k contents more f.turn f.is_step)
    (low_run-more observer (ticket + 1) f.turn.next ks f.turn.left more f.rest f.is_rest)
    ∙ ap (λ (r : LowRan). Some (ran_more more r)) (sym f.is_run)

-- a run keeps the number of cells
pub low_run-size : (observer : Label) (ticket : ℕ) (c : Configuration) (ks : List ℕ) (contents : List Content) (ran : LowRan) → low_run observer ticket c ks contents ≡ Some ran → length ran.last.cells ≡ length c.cells
low_run-size observer ticket c [] contents ran is =
    let none : LowRan = record { entries = []; last = c; left = contents } in
    let begun : Some none ≡ Some ran = sym (low_run-nothing observer ticket c contents) ∙ is in
    let e : none ≡ ran = cc in
    ap (λ (r : LowRan). length r.last.cells) (sym e)
low_run-size observer ticket c (k ∷ ks) contents ran is =
    let f = low-first observer ticket c k ks contents ran is in
    ap (λ (r : LowRan). length r.last.cells) f.is_run ∙ low_run-size observer (ticket + 1) f.turn.next ks f.turn.left f.rest f.is_rest ∙ low-size observer ticket c k contents f.turn f.is_step
