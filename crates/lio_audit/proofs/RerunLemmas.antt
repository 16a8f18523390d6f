-- Rounds of the erased calculus that are walked task by task.
use Rattle.std.proofs.Common.{◌≡◌, ◌∙◌, refl, sym, ap, subst, ℕ, ◌+◌, Bool, true, false, true≢false, if◌then◌else◌, List, [], ◌∷◌, ◌++◌, length, length-append, Option, Some, None, is_some, append_assoc, append-nil, arith}
use Rattle.std.specs.Option.{option_map}
use Rattle.lio_labels.specs.declared.label.Label.{Label}
use Rattle.lio_values.specs.declared.value.Content.{Content}
use Rattle.lio_values.specs.declared.entry.Entry.{Entry}
use Rattle.lio_calculus.specs.Erased.{LowTurn, low}
use Rattle.lio_calculus.specs.Run.{LowRan, low_run}
use Rattle.lio_calculus.specs.Step.{Configuration, can}
use Rattle.lio_calculus.proofs.EnabledLemmas.{low_turns_where_enabled}
use Rattle.lio_calculus.specs.Journals.{actors}
use Rattle.lio_calculus_runs.specs.LowRounds.{LowState, low_rounds, low_rounds_from, low_stepped, low_taken}
use Rattle.lio_calculus_runs.specs.Round.{Round, born_in, round}
use Rattle.lio_calculus_runs.specs.Rounds.{tasks}
use Rattle.lio_calculus_runs.proofs.LowMeasure.{low_turn_lowers_measure}
use Rattle.lio_calculus_runs.proofs.LowRunLemmas.{low_rounds_go_on}
use Rattle.lio_calculus_runs.proofs.LowTurnLemmas.{low_ticket_stands_in_the_entry, low_with_ticket}
use Rattle.lio_calculus_runs.proofs.RoundLemmas.{round-moves, round-nobody, round-skips}
use Rattle.lio_erasure.specs.Turn.{LacksRelease}
use Rattle.lio_audit.specs.declared.view_fault.RerunFault.{RerunFault}
use Rattle.lio_audit.specs.declared.view_fault.RerunFault.TheVariants.{NoRelease, NoMemory}
use Rattle.lio_audit.specs.Asking.{HasCome, HasTaken, LacksLater, RerunState, RoundsSay, ahead, going, supplied}
use Rattle.lio_audit.specs.Rerun.{AreRoundsOf, LacksInRounds, RerunSays}
use Rattle.lio_audit.proofs.LowRunLemmas.{low-actor, low-more, low_run-append, low_run-nothing, low_run-one}
use Rattle.lio_audit.proofs.SeenLemmas.{still-low}

-- one moves: the rest of its round, and the rounds after it
going-first : (moved : Bool) (k : ℕ) (ks later : List ℕ) → going moved (k ∷ ks) later ≡ k ∷ going true ks later
going-first true k ks later = refl
going-first false k ks later = refl

-- a round that begins
pub ahead-begins : (observer : Label) (order : List ℕ) (s : LowState) → low_rounds_from observer order s ≡ ahead observer false order order s
ahead-begins observer order s = low_rounds_go_on observer order s

-- a round that is done
pub ahead-ends : (observer : Label) (moved : Bool) (order : List ℕ) (s : LowState) → ahead observer moved [] order s ≡ (if moved then low_rounds_from observer order s else [])
ahead-ends observer moved order s = ap (λ (r : Round LowState). going moved r.moved (low_rounds_from observer (order ++ r.born) r.after)) (round-nobody (low_stepped observer) s) ∙ by moved
  where
    by : (b : Bool) → going b [] (low_rounds_from observer (order ++ []) s) ≡ (if b then low_rounds_from observer order s else [])
    by true = ap (λ (ks : List ℕ). low_rounds_from observer ks s) (append-nil order)
    by false = refl

-- a task that takes its turn
pub ahead-moves : (observer : Label) (moved : Bool) (k : ℕ) (rest order : List ℕ) (s : LowState) (turn : LowTurn) → low observer 0 s.configuration k s.contents ≡ Some turn
    → ahead observer moved (k ∷ rest) order s ≡ k ∷ ahead observer true rest (order ++ born_in turn.entry) (record { configuration = turn.next; contents = turn.left })
ahead-moves observer moved k rest order s turn takes =
    ap (λ (r : Round LowState). going moved r.moved (low_rounds_from observer (order ++ r.born) r.after)) (round-moves (low_stepped observer) k rest s (low_taken turn) (ap (option_map low_taken) takes))
    ∙ going-first moved k done.moved (low_rounds_from observer (order ++ (born_in turn.entry ++ done.born)) done.after)
    ∙ ap (λ (ks : List ℕ). k ∷ done.moved ++ low_rounds_from observer ks done.after) (sym (append_assoc order (born_in turn.entry) done.born))
  where
    done : Round LowState
    done = round (low_stepped observer) rest (record { configuration = turn.next; contents = turn.left })

-- one that can't
pub ahead-skips : (observer : Label) (moved : Bool) (k : ℕ) (rest order : List ℕ) (s : LowState) → can s.configuration k ≡ false → ahead observer moved (k ∷ rest) order s ≡ ahead observer moved rest order s
ahead-skips observer moved k rest order s still =
    ap (λ (r : Round LowState). going moved r.moved (low_rounds_from observer (order ++ r.born) r.after)) (round-skips (low_stepped observer) k rest s (ap (option_map low_taken) (none (low observer 0 s.configuration k s.contents) refl)))
  where
    none : (t : Option LowTurn) → low observer 0 s.configuration k s.contents ≡ t → low observer 0 s.configuration k s.contents ≡ None
    none None e = e
    none (Some turn) e = absurd (still-low observer s.configuration k s.contents turn still e)

-- rounds that have just begun
pub come-none : (m : RerunState) → HasCome m m false m.order
come-none m = record {
  added = [];
  entries = sym (append-nil m.entries);
  is_run = low_run-nothing m.observer (length m.entries) m.configuration m.contents;
  goes = λ more. ahead-begins m.observer m.order (supplied m more);
  observer = refl;
  lower = omega arith;
}

turn-goes : (old new : RerunState) (k : ℕ) (entry : Entry) (more : List Content) → HasTaken old new k entry
    → low old.observer 0 old.configuration k (old.contents ++ more) ≡ Some (record { entry = record entry { ticket = 0 }; next = new.configuration; left = new.contents ++ more })
turn-goes old new k entry more taken =
    let turn : LowTurn = record { entry = entry; next = new.configuration; left = new.contents } in
    low-more old.observer 0 old.configuration k old.contents more (low_with_ticket 0 turn) (low_ticket_stands_in_the_entry old.observer (length old.entries) 0 old.configuration k old.contents turn taken.is_step)

actors-append : (one two : List Entry) → actors (one ++ two) ≡ actors one ++ actors two
actors-append [] two = refl
actors-append (e ∷ one) two = ap (λ (ks : List ℕ). e.actor ∷ ks) (actors-append one two)

-- a run further: from one moment to a second one, and from there to a third
run-further : (old : RerunState) (s : RerunState) (added more : List Entry) (last : Configuration) (left : List Content) → s.observer ≡ old.observer → s.entries ≡ old.entries ++ added
    → low_run old.observer (length old.entries) old.configuration (actors added) old.contents ≡ Some (record { entries = added; last = s.configuration; left = s.contents })
    → low_run s.observer (length s.entries) s.configuration (actors more) s.contents ≡ Some (record { entries = more; last = last; left = left })
    → low_run old.observer (length old.entries) old.configuration (actors (added ++ more)) old.contents ≡ Some (record { entries = added ++ more; last = last; left = left })
run-further old s added more last left same entries one two =
    let count : length s.entries ≡ length old.entries + length added = ap (λ (es : List Entry). length es) entries ∙ length-append old.entries added in
    let here : low_run old.observer (length s.entries) s.configuration (actors more) s.contents ≡ Some (record { entries = more; last = last; left = left }) =
    subst (λ (o : Label). low_run o (length s.entries) s.configuration (actors more) s.contents ≡ Some (record { entries = more; last = last; left = left })) same two in
    ap (λ (ks : List ℕ). low_run old.observer (length old.entries) old.configuration ks old.contents) (actors-append added more)
    ∙ low_run-append old.observer (length old.entries) old.configuration (actors added) (actors more) old.contents (record { entries = added; last = s.configuration; left = s.contents }) (record { entries = more; last = last; left = left }) one
    (subst (λ (n : ℕ). low_run old.observer n s.configuration (actors more) s.contents ≡ Some (record { entries = more; last = last; left = left })) count here)

-- a task was asked, and has moved
pub come-moves : (old s new : RerunState) (moved : Bool) (k : ℕ) (rest : List ℕ) (entry : Entry) → HasCome old s moved (k ∷ rest) → HasTaken s new k entry → HasCome old new true rest
come-moves old s new moved k rest entry come taken = record {
  added = come.added ++ entry ∷ [];
  entries = taken.entries ∙ ap (λ (es : List Entry). es ++ entry ∷ []) come.entries ∙ append_assoc old.entries come.added (entry ∷ []);
  is_run = run-further old s come.added (entry ∷ []) new.configuration new.contents come.observer come.entries come.is_run one;
  goes = goes;
  observer = taken.observer ∙ come.observer;
  lower = omega (arith, come.lower, low_turn_lowers_measure s.observer (length s.entries) s.configuration k s.contents turn taken.is_step);
}
  where
    turn : LowTurn
    turn = record { entry = entry; next = new.configuration; left = new.contents }

    actor : entry.actor ≡ k
    actor = (low-actor s.observer (length s.entries) s.configuration k s.contents turn taken.is_step).0

    one : low_run s.observer (length s.entries) s.configuration (entry.actor ∷ []) s.contents ≡ Some (record { entries = entry ∷ []; last = new.configuration; left = new.contents })
    one = subst (λ (n : ℕ). low_run s.observer (length s.entries) s.configuration (n ∷ []) s.contents ≡ Some (record { entries = entry ∷ []; last = new.configuration; left = new.contents })) (sym actor)
        (low_run-one s.observer (length s.entries) s.configuration k s.contents turn taken.is_step)

    goes : (more : List Content) → low_rounds_from old.observer old.order (supplied old more) ≡ actors (come.added ++ entry ∷ []) ++ ahead old.observer true rest new.order (supplied new more)
    goes more =
        let takes : low old.observer 0 s.configuration k (s.contents ++ more) ≡ Some (record { entry = record entry { ticket = 0 }; next = new.configuration; left = new.contents ++ more }) =
        subst (λ (o : Label). low o 0 s.configuration k (s.contents ++ more) ≡ Some (record { entry = record entry { ticket = 0 }; next = new.configuration; left = new.contents ++ more })) come.observer (turn-goes s new k entry more taken) in
        come.goes more
        ∙ ap (λ (ks : List ℕ). actors come.added ++ ks)
        (ahead-moves old.observer moved k rest s.order (supplied s more) (record { entry = record entry { ticket = 0 }; next = new.configuration; left = new.contents ++ more }) takes
        ∙ ap (λ (ks : List ℕ). k ∷ ahead old.observer true rest ks (supplied new more)) (sym taken.order)
        ∙ ap (λ (n : ℕ). n ∷ ahead old.observer true rest new.order (supplied new more)) (sym actor))
        ∙ sym (append_assoc (actors come.added) (entry.actor ∷ []) (ahead old.observer true rest new.order (supplied new more)))
        ∙ ap (λ (ks : List ℕ). ks ++ ahead old.observer true rest new.order (supplied new more)) (sym (actors-append come.added (entry ∷ [])))

-- or can't
pub come-skips : (old s : RerunState) (moved : Bool) (k : ℕ) (rest : List ℕ) → HasCome old s moved (k ∷ rest) → can s.configuration k ≡ false → HasCome old s moved rest
come-skips old s moved k rest come still = record {
  added = come.added;
  entries = come.entries;
  is_run = come.is_run;
  goes = λ more. come.goes more ∙ ap (λ (ks : List ℕ). actors come.added ++ ks) (ahead-skips old.observer moved k rest s.order (supplied s more) still);
  observer = come.observer;
  lower = come.lower;
}

-- or lacks a content
pub come-lacks : (old s : RerunState) (moved : Bool) (k : ℕ) (rest : List ℕ) → HasCome old s moved (k ∷ rest) → LacksRelease s.observer s.configuration k s.contents → LacksLater old k
come-lacks old s moved k rest come lacks = record {
  added = come.added;
  last = s.configuration;
  left = s.contents;
  is_run = come.is_run;
  lacks = subst (λ (o : Label). LacksRelease o s.configuration k s.contents) come.observer lacks;
  begins = λ more. (ahead old.observer moved (k ∷ rest) s.order (supplied s more), come.goes more);
  next = next;
}
  where
    next : (content : Content) → (later : List ℕ) × (low_rounds_from old.observer old.order (supplied old (content ∷ [])) ≡ actors come.added ++ k ∷ later)
    next content = by (low old.observer 0 s.configuration k (s.contents ++ content ∷ [])) refl
      where
        supply : is_some (low old.observer 0 s.configuration k (s.contents ++ content ∷ [])) ≡ true
        supply =
            ap (λ (cs : List Content). is_some (low old.observer 0 s.configuration k (cs ++ content ∷ []))) lacks.none_left
            ∙ (low_turns_where_enabled old.observer 0 s.configuration k).supplied content [] ∙ lacks.can_move

        by : (t : Option LowTurn) → low old.observer 0 s.configuration k (s.contents ++ content ∷ []) ≡ t
            → (later : List ℕ) × (low_rounds_from old.observer old.order (supplied old (content ∷ [])) ≡ actors come.added ++ k ∷ later)
        by None e = absurd (true≢false (sym supply ∙ ap (λ (t : Option LowTurn). is_some t) e))
        by (Some turn) e = (
          ahead old.observer true rest (s.order ++ born_in turn.entry) (record { configuration = turn.next; contents = turn.left }),
          come.goes (content ∷ []) ∙ ap (λ (ks : List ℕ). actors come.added ++ ks) (ahead-moves old.observer moved k rest s.order (supplied s (content ∷ [])) turn e),
        )

-- a round in which one moved, and what comes after it
pub come-further : (old s new : RerunState) (moved : Bool) (rest : List ℕ) → HasCome old s true [] → HasCome s new moved rest → HasCome old new moved rest
come-further old s new moved rest one two = record {
  added = one.added ++ two.added;
  entries = two.entries ∙ ap (λ (es : List Entry). es ++ two.added) one.entries ∙ append_assoc old.entries one.added two.added;
  is_run = run-further old s one.added two.added new.configuration new.contents one.observer one.entries one.is_run two.is_run;
  goes = λ more.
      one.goes more ∙ ap (λ (ks : List ℕ). actors one.added ++ ks) (ahead-ends old.observer true s.order (supplied s more)
      ∙ ap (λ (o : Label). low_rounds_from o s.order (supplied s more)) (sym one.observer) ∙ two.goes more ∙ ap (λ (o : Label). actors two.added ++ ahead o moved rest new.order (supplied new more)) one.observer)
      ∙ sym (append_assoc (actors one.added) (actors two.added) (ahead old.observer moved rest new.order (supplied new more)))
      ∙ ap (λ (ks : List ℕ). ks ++ ahead old.observer moved rest new.order (supplied new more)) (sym (actors-append one.added two.added));
  observer = two.observer ∙ one.observer;
  lower = omega (arith, one.lower, two.lower);
}

pub lacks-further : (old s : RerunState) (k : ℕ) → HasCome old s true [] → LacksLater s k → LacksLater old k
lacks-further old s k one lacks = record {
  added = one.added ++ lacks.added;
  last = lacks.last;
  left = lacks.left;
  is_run = run-further old s one.added lacks.added lacks.last lacks.left one.observer one.entries one.is_run lacks.is_run;
  lacks = subst (λ (o : Label). LacksRelease o lacks.last k lacks.left) one.observer lacks.lacks;
  begins = λ more. (
    (lacks.begins more).0,
    one.goes more ∙ ap (λ (ks : List ℕ). actors one.added ++ ks) (ahead-ends old.observer true s.order (supplied s more)
        ∙ ap (λ (o : Label). low_rounds_from o s.order (supplied s more)) (sym one.observer) ∙ (lacks.begins more).1)
        ∙ sym (append_assoc (actors one.added) (actors lacks.added) (lacks.begins more).0)
        ∙ ap (λ (ks : List ℕ). ks ++ (lacks.begins more).0) (sym (actors-append one.added lacks.added)),
  );
  next = λ content. (
    (lacks.next content).0,
    one.goes (content ∷ []) ∙ ap (λ (ks : List ℕ). actors one.added ++ ks) (ahead-ends old.observer true s.order (supplied s (content ∷ []))
        ∙ ap (λ (o : Label). low_rounds_from o s.order (supplied s (content ∷ []))) (sym one.observer) ∙ (lacks.next content).1)
        ∙ sym (append_assoc (actors one.added) (actors lacks.added) (k ∷ (lacks.next content).0))
        ∙ ap (λ (ks : List ℕ). ks ++ k ∷ (lacks.next content).0) (sym (actors-append one.added lacks.added)),
  );
}

-- what rounds before which none was taken have come to is what the rounds give
pub come-rounds : (observer : Label) (c : Configuration) (contents : List Content) (old new : RerunState) → HasCome old new false [] → old.observer ≡ observer → old.configuration ≡ c → old.contents ≡ contents → old.entries ≡ [] → old.order ≡ tasks c
    → AreRoundsOf observer c contents new.entries new.contents
come-rounds observer c contents old new come o_is c_is cs_is none order_is = record {
  last = new.configuration;
  is_run = ap (λ (ks : List ℕ). low_run observer 0 c ks contents) alone ∙ run ∙ ap (λ (es : List Entry). let whole : LowRan = record { entries = es; last = new.configuration; left = new.contents } in Some whole) (sym entries);
  enough = λ more. whole more ∙ sym alone;
}
  where
    entries : new.entries ≡ come.added
    entries = come.entries ∙ ap (λ (es : List Entry). es ++ come.added) none

    begun : (more : List Content) → low_rounds_from old.observer old.order (supplied old more) ≡ low_rounds observer c (contents ++ more)
    begun more = λ i. low_rounds_from (o_is i) (order_is i) (record { configuration = c_is i; contents = cs_is i ++ more })

    whole : (more : List Content) → low_rounds observer c (contents ++ more) ≡ actors come.added
    whole more = sym (begun more) ∙ come.goes more ∙ ap (λ (ks : List ℕ). actors come.added ++ ks) (ahead-ends old.observer false new.order (supplied new more)) ∙ append-nil (actors come.added)

    alone : low_rounds observer c contents ≡ actors come.added
    alone = ap (low_rounds observer c) (sym (append-nil contents)) ∙ whole []

    run : low_run observer 0 c (actors come.added) contents ≡ Some (record { entries = come.added; last = new.configuration; left = new.contents })
    run = (λ i. low_run (sym o_is i) (ap (λ (es : List Entry). length es) (sym none) i) (sym c_is i) (actors come.added) (sym cs_is i)) ∙ come.is_run

pub lacks-rounds : (observer : Label) (c : Configuration) (contents : List Content) (old : RerunState) (k : ℕ) → LacksLater old k → old.observer ≡ observer → old.configuration ≡ c → old.contents ≡ contents → old.entries ≡ [] → old.order ≡ tasks c
    → LacksInRounds observer c contents k
lacks-rounds observer c contents old k lacks o_is c_is cs_is none order_is = record {
  before = actors lacks.added;
  ran = record { entries = lacks.added; last = lacks.last; left = lacks.left };
  is_run = (λ i. low_run (sym o_is i) (ap (λ (es : List Entry). length es) (sym none) i) (sym c_is i) (actors lacks.added) (sym cs_is i)) ∙ lacks.is_run;
  lacks = subst (λ (o : Label). LacksRelease o lacks.last k lacks.left) o_is lacks.lacks;
  begins = λ more. ((lacks.begins more).0, (λ i. low_rounds_from (sym o_is i) (sym order_is i) (record { configuration = sym c_is i; contents = sym cs_is i ++ more })) ∙ (lacks.begins more).1);
  next = λ content. ((lacks.next content).0, (λ i. low_rounds_from (sym o_is i) (sym order_is i) (record { configuration = sym c_is i; contents = sym cs_is i ++ content ∷ [] })) ∙ (lacks.next content).1);
}

pub says-rounds : (observer : Label) (c : Configuration) (contents : List Content) (old : RerunState) (fault : RerunFault) → RoundsSay old fault → old.observer ≡ observer → old.configuration ≡ c → old.contents ≡ contents → old.entries ≡ []
    → old.order ≡ tasks c → RerunSays observer c contents fault
says-rounds observer c contents old (NoRelease k) says o_is c_is cs_is none order_is = lacks-rounds observer c contents old k says o_is c_is cs_is none order_is
says-rounds observer c contents old NoMemory says o_is c_is cs_is none order_is = tt
