-- Runs are put together, and taken apart.
use Rattle.std.proofs.Common.{◌≡◌, ◌∙◌, refl, sym, ap, subst, ℕ, suc, ◌+◌, ◌<◌, ◌≤◌, ◌^◌, ◌⊎◌, inl, inr, false, true≢false, List, [], ◌∷◌, ◌++◌, length, Option, Some, None, is_some, option_and_then, arith}
use Rattle.std.specs.Option.{option_map}
use Rattle.std.proofs.lemmas.Bool.Decides.{nat_tests}
use Rattle.std.proofs.Math.ListN.{get_or-eq_default}
use Rattle.lio_calculus.specs.Step.{Cell, Configuration, Turn, blank, can, step}
use Rattle.lio_calculus.specs.Run.{Ran, ran_after, run}
use Rattle.lio_calculus.proofs.EnabledLemmas.{can-absent}
use Rattle.lio_calculus_runs.proofs.TurnLemmas.{step-ticket, with_ticket}

run-step : (ticket : ℕ) (c : Configuration) (k : ℕ) (ks : List ℕ) (turn : Turn) (rest : Ran) → step ticket c k ≡ Some turn → run (ticket + 1) turn.next ks ≡ Some rest → run ticket c (k ∷ ks) ≡ Some (ran_after turn.entry rest)
unfolding run
run-step ticket c k ks turn rest taken goes =
    ap (option_and_then (λ (t : Turn). option_map (ran_after t.entry) (run (ticket + 1) t.next ks))) taken ∙ ap (option_map (ran_after turn.entry)) goes

pub run-nothing : (ticket : ℕ) (c : Configuration) → run ticket c [] ≡ Some (record { entries = []; last = c })
unfolding run
run-nothing ticket c = refl

-- the first step of a run, and the run after it
pub record First (ticket : ℕ) (c : Configuration) (k : ℕ) (ks : List ℕ) (ran : Ran) : Type 0 where
  pub turn : Turn
  pub rest : Ran
  pub is_step : step ticket c k ≡ Some turn
  pub is_rest : run (ticket + 1) turn.next ks ≡ Some rest
  pub is_run : ran ≡ ran_after turn.entry rest

pub first : (ticket : ℕ) (c : Configuration) (k : ℕ) (ks : List ℕ) (ran : Ran) → run ticket c (k ∷ ks) ≡ Some ran → First ticket c k ks ran
unfolding run
first ticket c k ks ran is = by-step (step ticket c k) refl is
  where
    by-rest : (turn : Turn) (rest : Option Ran) → step ticket c k ≡ Some turn → run (ticket + 1) turn.next ks ≡ rest → option_map (ran_after turn.entry) rest ≡ Some ran → First ticket c k ks ran
    by-rest turn None taken goes e = absurd (cc)
    by-rest turn (Some rest) taken goes e = record { turn = turn; rest = rest; is_step = taken; is_rest = goes; is_run = cc }

    by-step : (taken : Option Turn) → step ticket c k ≡ taken → option_and_then (λ turn. option_map (ran_after turn.entry) (run (ticket + 1) turn.next ks)) taken ≡ Some ran → First ticket c k ks ran
    by-step None taken e = absurd (cc)
    by-step (Some turn) taken e = by-rest turn (run (ticket + 1) turn.next ks) taken refl e

-- a run, and a turn after it
pub run-push : (ticket : ℕ) (c : Configuration) (ks : List ℕ) (k : ℕ) (ran : Ran) (turn : Turn) → run ticket c ks ≡ Some ran → step (ticket + length ran.entries) ran.last k ≡ Some turn
    → run ticket c (ks ++ k ∷ []) ≡ Some (record { entries = ran.entries ++ turn.entry ∷ []; last = turn.next })
run-push ticket c [] k ran turn begins steps =
    let none : Ran = record { entries = []; last = c } in
    let begun : Some none ≡ Some ran = sym (run-nothing ticket c) ∙ begins in
    let e : none ≡ ran = cc in
    let here : step (ticket + 0) c k ≡ Some turn = subst (λ (r : Ran). step (ticket + length r.entries) r.last k ≡ Some turn) (sym e) steps in
    let at_zero : ticket + 0 ≡ ticket = omega arith in
    let now : step ticket c k ≡ Some turn = subst (λ (n : ℕ). step n c k ≡ Some turn) at_zero here in
    subst (λ (r : Ran). run ticket c (k ∷ []) ≡ Some (record { entries = r.entries ++ turn.entry ∷ []; last = turn.next })) e
    (run-step ticket c k [] turn (record { entries = []; last = turn.next }) now (run-nothing (ticket + 1) turn.next))
run-push ticket c (j ∷ ks) k ran turn begins steps =
    let f = first ticket c j ks ran begins in
    let here : step (ticket + suc (length f.rest.entries)) f.rest.last k ≡ Some turn = subst (λ (r : Ran). step (ticket + length r.entries) r.last k ≡ Some turn) f.is_run steps in
    let later : ticket + suc (length f.rest.entries) ≡ ticket + 1 + length f.rest.entries = omega arith in
    let now : step (ticket + 1 + length f.rest.entries) f.rest.last k ≡ Some turn = subst (λ (n : ℕ). step n f.rest.last k ≡ Some turn) later here in
    let more = run-push (ticket + 1) f.turn.next ks k f.rest turn f.is_rest now in
    subst (λ (r : Ran). run ticket c (j ∷ ks ++ k ∷ []) ≡ Some (record { entries = r.entries ++ turn.entry ∷ []; last = turn.next })) (sym f.is_run)
    (run-step ticket c j (ks ++ k ∷ []) f.turn (record { entries = f.rest.entries ++ turn.entry ∷ []; last = turn.next }) f.is_step more)

-- whether a task can take a turn doesn't depend on the ticket
pub still-step : (ticket : ℕ) (c : Configuration) (k : ℕ) → can c k ≡ false → step ticket c k ≡ None
still-step ticket c k still = by (step ticket c k) refl
  where
    by : (t : Option Turn) → step ticket c k ≡ t → t ≡ None
    by None e = refl
    by (Some turn) e = absurd (true≢false (sym (ap is_some (step-ticket ticket 0 c k turn e)) ∙ still))

-- the entry of a turn has the turn's ticket
pub step-has_ticket : (ticket : ℕ) (c : Configuration) (k : ℕ) (turn : Turn) → step ticket c k ≡ Some turn → turn.entry.ticket ≡ ticket
step-has_ticket ticket c k turn steps =
    let same : Some turn ≡ Some (with_ticket ticket turn) = sym steps ∙ step-ticket ticket ticket c k turn steps in
    let is : turn ≡ with_ticket ticket turn = cc in
    ap (λ (t : Turn). t.entry.ticket) is

-- beyond the list no task can take a turn
pub can-beyond : (c : Configuration) (k : ℕ) → length c.cells ≤ k → can c k ≡ false
can-beyond c k beyond = can-absent c k (ap (λ (x : Cell). x.task) (get_or-eq_default c.cells blank beyond))

-- so the number of a task that takes one is small
pub step-small : (ticket : ℕ) (c : Configuration) (k : ℕ) (turn : Turn) → length c.cells < 2 ^ 31 → step ticket c k ≡ Some turn → k < 2 ^ 32
step-small ticket c k turn few steps = by (near k (length c.cells))
  where
    near : (i n : ℕ) → (i < n) ⊎ (n ≤ i)
    near i n = grind (arith, nat_tests)

    by : (k < length c.cells) ⊎ (length c.cells ≤ k) → k < 2 ^ 32
    by (inl within) = omega arith
    by (inr beyond) = absurd (true≢false (sym (ap is_some (step-ticket ticket 0 c k turn steps)) ∙ can-beyond c k beyond))

-- where no task below a number can take a turn, and the list ends there, none can
pub complete-below : (c : Configuration) (n : ℕ) → length c.cells ≤ n → ((j : ℕ) → j < n → can c j ≡ false) → (k : ℕ) → can c k ≡ false
complete-below c n ends below k = by (near k n)
  where
    near : (i m : ℕ) → (i < m) ⊎ (m ≤ i)
    near i m = grind (arith, nat_tests)

    by : (k < n) ⊎ (n ≤ k) → can c k ≡ false
    by (inl within) = below k within
    by (inr beyond) = can-beyond c k (omega arith)
