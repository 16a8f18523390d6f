-- Two runs whose lines stand at the front of the same bytes.
use Rattle.std.proofs.Common.{◌≡◌, ◌∙◌, sym, ap, subst, ℕ, suc, ◌+◌, ◌<◌, ◌^◌, ◌⊎◌, inl, inr, true, List, [], ◌∷◌, ◌++◌, length, length-append, get_or, drop, append_assoc, Some, arith}
use Rattle.std.proofs.lemmas.List.{append_cancel_left}
use Rattle.lio_values.specs.declared.entry.Entry.{Entry}
use Rattle.lio_events.specs.JournalText.{entry_text, journal_text}
use Rattle.lio_calculus.specs.Run.{Ran, ran_after, run}
use Rattle.lio_calculus.specs.Step.{Configuration, Turn, step}
use Rattle.lio_calculus.proofs.LocalityLemmas.{step_changes_two_cells}
use Rattle.lio_calculus.specs.Journals.{actors}
use Rattle.lio_audit.specs.History.{BeginsTurn}
use Rattle.lio_audit.proofs.RunLemmas.{first, run-nothing, step-has_ticket, step-small}
use Rattle.lio_audit.proofs.TextLemmas.{same-actor, text-some}

-- they are one run, and the same is left behind them; or a turn after one of them is the next that the other took
abbrev pub Meets : List (List ℕ) → ℕ → Ran → Ran → List ℕ → List ℕ → Type 0
Meets names ticket one two r s =
    ((one ≡ two) × (r ≡ s)) ⊎ (BeginsTurn names (ticket + length one.entries) one.last r ⊎ BeginsTurn names (ticket + length two.entries) two.last s)

abbrev of : List Entry → Configuration → Ran
of es d = record { entries = es; last = d }

-- a run without entries ends where it began
ends : (ticket : ℕ) (c d : Configuration) → run ticket c [] ≡ Some (of [] d) → of [] c ≡ of [] d
ends ticket c d is = let both : Some (of [] c) ≡ Some (of [] d) = sym (run-nothing ticket c) ∙ is in cc

-- the first entry of a run, and the run after it
pub record Begins (ticket : ℕ) (c : Configuration) (e : Entry) (es : List Entry) (d : Configuration) : Type 0 where
  pub turn : Turn
  pub is_step : step ticket c e.actor ≡ Some turn
  pub entry : e ≡ turn.entry
  pub is_rest : run (ticket + 1) turn.next (actors es) ≡ Some (of es d)

begins : (ticket : ℕ) (c : Configuration) (e : Entry) (es : List Entry) (d : Configuration) → run ticket c (actors (e ∷ es)) ≡ Some (of (e ∷ es) d) → Begins ticket c e es d
begins ticket c e es d is =
    let f = first ticket c e.actor (actors es) (of (e ∷ es) d) is in
    let tail : Ran → Ran = λ q. record { entries = drop 1 q.entries; last = q.last } in
    let rest : of es d ≡ f.rest = ap tail f.is_run in
    record {
      turn = f.turn;
      is_step = f.is_step;
      entry = ap (λ (q : Ran). get_or q.entries 0 e) f.is_run;
      is_rest = f.is_rest ∙ ap Some (sym rest);
    }

-- the line of a run's first turn stands at the front of its lines
goes-on : (names : List (List ℕ)) (ticket : ℕ) (c d : Configuration) (e : Entry) (es : List Entry) (f : Configuration) (r s : List ℕ) → of [] c ≡ of [] d → Begins ticket c e es f → r ≡ journal_text names true (e ∷ es) ++ s
    → BeginsTurn names (ticket + 0) d r
goes-on names ticket c d e es f r s same b is =
    let zero_more : ticket ≡ ticket + 0 = omega arith in
    let here : step (ticket + 0) c e.actor ≡ Some b.turn = subst (λ (n : ℕ). step n c e.actor ≡ Some b.turn) zero_more b.is_step in
    record {
      task = e.actor;
      turn = b.turn;
      rest = journal_text names true es ++ s;
      is_step = subst (λ (q : Ran). step (ticket + 0) q.last e.actor ≡ Some b.turn) same here;
      stands = is ∙ append_assoc (entry_text names true e) (journal_text names true es) s ∙ ap (λ (x : Entry). entry_text names true x ++ (journal_text names true es ++ s)) b.entry;
    }

next : (names : List (List ℕ)) (ticket : ℕ) (e x : Entry) (es fs : List Entry) (d f : Configuration) (r s : List ℕ) → e ≡ x → Meets names (ticket + 1) (of es d) (of fs f) r s → Meets names ticket (of (e ∷ es) d) (of (x ∷ fs) f) r s
next names ticket e x es fs d f r s same (inl both) = inl (ap (ran_after e) both.0 ∙ ap (λ (y : Entry). of (y ∷ fs) f) same, both.1)
next names ticket e x es fs d f r s same (inr (inl b)) = let more : ticket + 1 + length es ≡ ticket + suc (length es) = omega arith in inr (inl (subst (λ (n : ℕ). BeginsTurn names n d r) more b))
next names ticket e x es fs d f r s same (inr (inr b)) = let more : ticket + 1 + length fs ≡ ticket + suc (length fs) = omega arith in inr (inr (subst (λ (n : ℕ). BeginsTurn names n f s) more b))

pub meet : (names : List (List ℕ)) (ticket : ℕ) (c : Configuration) (es fs : List Entry) (d f : Configuration) (r s : List ℕ) → length c.cells < 2 ^ 31 → ticket + length (journal_text names true es ++ r) < 2 ^ 64
    → run ticket c (actors es) ≡ Some (of es d) → run ticket c (actors fs) ≡ Some (of fs f) → journal_text names true es ++ r ≡ journal_text names true fs ++ s → Meets names ticket (of es d) (of fs f) r s
meet names ticket c [] [] d f r s small wide one two is = inl (sym (ends ticket c d one) ∙ ends ticket c f two, is)
meet names ticket c [] (x ∷ fs) d f r s small wide one two is = inr (inl (goes-on names ticket c d x fs f r s (ends ticket c d one) (begins ticket c x fs f two) is))
meet names ticket c (e ∷ es) [] d f r s small wide one two is = inr (inr (goes-on names ticket c f e es d s r (ends ticket c f two) (begins ticket c e es d one) (sym is)))
meet names ticket c (e ∷ es) (x ∷ fs) d f r s small wide one two is =
    let a = begins ticket c e es d one in
    let b = begins ticket c x fs f two in
    let A : List ℕ = journal_text names true es ++ r in
    let B : List ℕ = journal_text names true fs ++ s in
    let front : entry_text names true e ++ A ≡ entry_text names true x ++ B =
    sym (append_assoc (entry_text names true e) (journal_text names true es) r) ∙ is ∙ append_assoc (entry_text names true x) (journal_text names true fs) s in
    let et : e.ticket ≡ ticket = ap (λ (y : Entry). y.ticket) a.entry ∙ step-has_ticket ticket c e.actor a.turn a.is_step in
    let xt : x.ticket ≡ ticket = ap (λ (y : Entry). y.ticket) b.entry ∙ step-has_ticket ticket c x.actor b.turn b.is_step in
    let near : e.actor < 2 ^ 32 = step-small ticket c e.actor a.turn small a.is_step in
    let far : x.actor < 2 ^ 32 = step-small ticket c x.actor b.turn small b.is_step in
    let long : length ((entry_text names true e ++ journal_text names true es) ++ r) ≡ length (entry_text names true e) + length A =
    ap (λ (q : List ℕ). length q) (append_assoc (entry_text names true e) (journal_text names true es) r) ∙ length-append (entry_text names true e) A in
    let some : 0 < length (entry_text names true e) = text-some names e in
    let within : e.ticket < 2 ^ 64 = omega arith in
    let actor : e.actor ≡ x.actor = same-actor names e x A B (et ∙ sym xt) within near far front in
    let took : step ticket c x.actor ≡ Some a.turn = subst (λ (k : ℕ). step ticket c k ≡ Some a.turn) actor a.is_step in
    let both : Some a.turn ≡ Some b.turn = sym took ∙ b.is_step in
    let turn : a.turn ≡ b.turn = cc in
    let same : e ≡ x = a.entry ∙ ap (λ (t : Turn). t.entry) turn ∙ sym b.entry in
    let behind : A ≡ B = append_cancel_left (entry_text names true e) A B (front ∙ ap (λ (y : Entry). entry_text names true y ++ B) (sym same)) in
    let size : length a.turn.next.cells ≡ length c.cells = (step_changes_two_cells ticket c e.actor a.turn a.is_step).size in
    let small' : length a.turn.next.cells < 2 ^ 31 = omega arith in
    let wide' : ticket + 1 + length A < 2 ^ 64 = omega arith in
    let two' : run (ticket + 1) a.turn.next (actors fs) ≡ Some (of fs f) = subst (λ (t : Turn). run (ticket + 1) t.next (actors fs) ≡ Some (of fs f)) (sym turn) b.is_rest in
    next names ticket e x es fs d f r s same (meet names (ticket + 1) a.turn.next es fs d f r s small' wide' a.is_rest two' behind)
