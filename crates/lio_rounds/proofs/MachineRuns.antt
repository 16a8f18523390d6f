-- How runs are put together.
use Rattle.std.proofs.Common.{◌≡◌, ◌∙◌, refl, sym, ap, subst, ℕ, suc, ◌+◌, List, [], ◌∷◌, ◌++◌, length, length-append, append_assoc, append-nil, drop, flat_map, take, take-append-drop, Option, Some, None, option_and_then, arith}
use Rattle.std.proofs.Math.Seq.{take-append_seam}
use Rattle.std.proofs.lemmas.Grind.{flat_map-append}
use Rattle.std.specs.Option.{option_map}
use Rattle.lio_values.specs.declared.entry.Entry.{Entry}
use Rattle.lio_calculus.specs.Step.{Configuration, Turn, step}
use Rattle.lio_calculus.specs.Run.{Ran, ran_after, run}
use Rattle.lio_calculus_runs.specs.Round.{born_in}
use Rattle.lio_rounds.specs.MachineState.{MachineState, HasBegun, HasTaken, HasRun}

-- the first step of a run, and the run after it
pub record First (ticket : ℕ) (c : Configuration) (k : ℕ) (ks : List ℕ) (ran : Ran) : Type 0 where
  pub turn : Turn
  pub rest : Ran
  pub is_step : step ticket c k ≡ Some turn
  pub is_rest : run (ticket + 1) turn.next ks ≡ Some rest
  pub is_run : ran ≡ ran_after turn.entry rest

pub first : (ticket : ℕ) (c : Configuration) (k : ℕ) (ks : List ℕ) (ran : Ran) → run ticket c (k ∷ ks) ≡ Some ran → First ticket c k ks ran
unfolding run
first ticket c k ks ran is = by-step (step ticket c k) refl is
  where
    by-rest : (turn : Turn) (rest : Option Ran) → step ticket c k ≡ Some turn → run (ticket + 1) turn.next ks ≡ rest → option_map (ran_after turn.entry) rest ≡ Some ran → First ticket c k ks ran
    by-rest turn None taken goes e = absurd (cc)
    by-rest turn (Some rest) taken goes e = record { turn = turn; rest = rest; is_step = taken; is_rest = goes; is_run = cc }

    by-step : (taken : Option Turn) → step ticket c k ≡ taken → option_and_then (λ turn. option_map (ran_after turn.entry) (run (ticket + 1) turn.next ks)) taken ≡ Some ran → First ticket c k ks ran
    by-step None taken e = absurd (cc)
    by-step (Some turn) taken e = by-rest turn (run (ticket + 1) turn.next ks) taken refl e

-- a step and the run after it
pub run-step : (ticket : ℕ) (c : Configuration) (k : ℕ) (ks : List ℕ) (turn : Turn) (rest : Ran) → step ticket c k ≡ Some turn → run (ticket + 1) turn.next ks ≡ Some rest → run ticket c (k ∷ ks) ≡ Some (ran_after turn.entry rest)
unfolding run
run-step ticket c k ks turn rest taken goes =
    ap (option_and_then (λ (t : Turn). option_map (ran_after t.entry) (run (ticket + 1) t.next ks))) taken ∙ ap (option_map (ran_after turn.entry)) goes

pub run-nothing : (ticket : ℕ) (c : Configuration) → run ticket c [] ≡ Some (record { entries = []; last = c })
unfolding run
run-nothing ticket c = refl

-- a run goes on with another one
pub run-append : (ticket : ℕ) (c : Configuration) (ks js : List ℕ) (one two : Ran) → run ticket c ks ≡ Some one → run (ticket + length one.entries) one.last js ≡ Some two
    → run ticket c (ks ++ js) ≡ Some (record { entries = one.entries ++ two.entries; last = two.last })
run-append ticket c [] js one two begins goes =
    let none : Ran = record { entries = []; last = c } in
    let begun : Some none ≡ Some one = sym (run-nothing ticket c) ∙ begins in
    let e : none ≡ one = cc in
    let goes' : run (ticket + 0) c js ≡ Some two = subst (λ (r : Ran). run (ticket + length r.entries) r.last js ≡ Some two) (sym e) goes in
    let at_zero : ticket + 0 ≡ ticket = omega arith in
    let goes'' : run ticket c js ≡ Some two = subst (λ (n : ℕ). run n c js ≡ Some two) at_zero goes' in
    subst (λ (r : Ran). run ticket c js ≡ Some (record { entries = r.entries ++ two.entries; last = two.last })) e goes''
run-append ticket c (k ∷ ks) js one two begins goes =
    let f = first ticket c k ks one begins in
    let goes' : run (ticket + suc (length f.rest.entries)) f.rest.last js ≡ Some two = subst (λ (r : Ran). run (ticket + length r.entries) r.last js ≡ Some two) f.is_run goes in
    let later : ticket + suc (length f.rest.entries) ≡ ticket + 1 + length f.rest.entries = omega arith in
    let goes'' : run (ticket + 1 + length f.rest.entries) f.rest.last js ≡ Some two = subst (λ (n : ℕ). run n f.rest.last js ≡ Some two) later goes' in
    let more = run-append (ticket + 1) f.turn.next ks js f.rest two f.is_rest goes'' in
    subst (λ (r : Ran). run ticket c (k ∷ ks ++ js) ≡ Some (record { entries = r.entries ++ two.entries; last = two.last })) (sym f.is_run)
    (run-step ticket c k (ks ++ js) f.turn (record { entries = f.rest.entries ++ two.entries; last = two.last }) f.is_step more)

-- what a machine has run, and then another run of it
pub has_run-append : (a b c : MachineState) (ks js : List ℕ) → HasRun a b ks → HasRun b c js → HasRun a c (ks ++ js)
has_run-append a b c ks js one two =
    let later : length b.entries ≡ length a.entries + length one.added = ap (λ (es : List Entry). length es) one.entries ∙ length-append a.entries one.added in
    let goes : run (length a.entries + length one.added) b.configuration js ≡ Some (record { entries = two.added; last = c.configuration }) =
    subst (λ (n : ℕ). run n b.configuration js ≡ Some (record { entries = two.added; last = c.configuration })) later two.is_run in
    record {
      added = one.added ++ two.added;
      is_run = run-append (length a.entries) a.configuration ks js (record { entries = one.added; last = b.configuration }) (record { entries = two.added; last = c.configuration }) one.is_run goes;
      entries = two.entries ∙ ap (λ (es : List Entry). es ++ two.added) one.entries ∙ append_assoc a.entries one.added two.added;
      order = two.order ∙ ap (λ (ns : List ℕ). ns ++ flat_map born_in two.added) one.order ∙ append_assoc a.order (flat_map born_in one.added) (flat_map born_in two.added)
          ∙ ap (λ (ns : List ℕ). a.order ++ ns) (sym (flat_map-append born_in one.added two.added));
      script = two.script ∙ one.script;
    }

-- a machine that has run nothing
pub has_run-nothing : (m : MachineState) → HasRun m m []
has_run-nothing m = record { added = []; is_run = run-nothing (length m.entries) m.configuration; entries = sym (append-nil m.entries); order = sym (append-nil m.order); script = refl }

-- one turn
pub has_run-one : (a b : MachineState) (k : ℕ) (entry : Entry) → HasTaken a b k entry → HasRun a b (k ∷ [])
has_run-one a b k entry taken = record {
  added = entry ∷ [];
  is_run = run-step (length a.entries) a.configuration k [] (record { entry = entry; next = b.configuration }) (record { entries = []; last = b.configuration }) taken.is_step (run-nothing (length a.entries + 1) b.configuration);
  entries = taken.entries;
  order = taken.order ∙ ap (λ (ns : List ℕ). a.order ++ ns) (sym (append-nil (born_in entry)));
  script = taken.script;
}

-- some of what is to run stands before the rest
pub record StandsBefore (part all : List ℕ) : Type 0 where
  pub rest : List ℕ
  pub is : all ≡ part ++ rest

-- a machine that has run what stands before the rest has begun
pub has_begun : (a b : MachineState) (part all : List ℕ) → StandsBefore part all → HasRun a b part → HasBegun a b all
has_begun a b part all before has = (length part, subst (HasRun a b) (sym (ap (take (length part)) before.is ∙ take-append_seam part before.rest)) has)

-- the first of what is to run stand before the rest
pub first-before : (n : ℕ) (ks : List ℕ) → StandsBefore (take n ks) ks
first-before n ks = record { rest = drop n ks; is = sym (take-append-drop n ks) }
