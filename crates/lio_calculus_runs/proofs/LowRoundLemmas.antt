-- A round, as an observer sees it, is a round of the erased calculus.
use Rattle.std.proofs.Common.{◌≡◌, ◌∙◌, refl, sym, ap, subst, ℕ, ◌+◌, ◌⊎◌, inl, inr, Bool, true, false, if◌then◌else◌, IsTrue, List, [], ◌∷◌, ◌++◌, Option, Some, None, is_some, true≢false, append_assoc, append-nil}
use Rattle.std.specs.Prelude.{option_and_then, option_map}
use Rattle.lio_labels.specs.declared.label.Label.{Label}
use Rattle.lio_labels.specs.Flow.{flows}
use Rattle.lio_values.specs.declared.value.Content.{Content}
use Rattle.lio_values.specs.Erasure.{erase_entry}
use Rattle.lio_calculus.specs.Task.{TaskState}
use Rattle.lio_calculus.specs.Step.{Configuration, cell_at, Turn, step, can}
use Rattle.lio_events.specs.Views.{released_to}
use Rattle.lio_calculus.specs.Erased.{erase, LowTurn, low}
use Rattle.lio_events.specs.Views.{is_visible, who, releases}
use Rattle.lio_calculus.specs.Run.{Ran, ran_after, run}
use Rattle.lio_calculus.specs.Sound.{IsTaskOf, IsSound}
use Rattle.lio_calculus.proofs.LawLemmas.{unseen_turn_changes_nothing, unseen_turn_releases_nothing, seen_turn_is_erased_turn}
use Rattle.lio_calculus.proofs.EnabledLemmas.{seen_task_is_enabled_below, low_turns_where_enabled}
use Rattle.lio_calculus_runs.specs.Round.{Taken, born_in, Round, moved_first, round}
use Rattle.lio_calculus_runs.specs.Rounds.{stepped}
use Rattle.lio_calculus_runs.specs.LowRounds.{LowState, low_taken, low_stepped}
use Rattle.lio_calculus_runs.specs.LowLaws.{CompleteIsCompleteBelow}
use Rattle.lio_calculus_runs.proofs.TurnLemmas.{Parts, parts, with_ticket, step-ticket}
use Rattle.lio_calculus_runs.proofs.LowTurnLemmas.{born-erased}
use Rattle.lio_calculus_runs.proofs.BirthLemmas.{Among}
use Rattle.lio_calculus_runs.proofs.NewLemmas.{turn-born}
use Rattle.lio_calculus_runs.proofs.RoundLemmas.{round-moves, round-skips, round-nobody, round-each}
use Rattle.lio_calculus_runs.proofs.EndLemmas.{turned, stepped-step, stepped-none, stepped-sound}
use Rattle.lio_calculus_runs.proofs.FloatLemmas.{IsTask, IsAbove, stands-task, Onwards, turn-onwards, born-above}

-- an order of the erased calculus below an order: some of its tasks, in its order; those that are left out aren't seen
abbrev pub Below : Label → Configuration → List ℕ → List ℕ → Type 0
Below observer c low [] = low ≡ []
Below observer c low (n ∷ order) = IsTask c n × ((IsAbove observer c n × Below observer c low order) ⊎ ((rest : List ℕ) × (low ≡ n ∷ rest) × Below observer c rest order))

below-onwards : (observer : Label) (c d : Configuration) → Onwards observer c d → (low order : List ℕ) → Below observer c low order → Below observer d low order
below-onwards observer c d onwards low [] below = below
below-onwards observer c d onwards low (n ∷ order) below = (onwards.stays n below.0, by (λ ks. below-onwards observer c d onwards ks order) below.1)
  where
    by : ((ks : List ℕ) → Below observer c ks order → Below observer d ks order) → (IsAbove observer c n × Below observer c low order) ⊎ ((rest : List ℕ) × (low ≡ n ∷ rest) × Below observer c rest order)
        → (IsAbove observer d n × Below observer d low order) ⊎ ((rest : List ℕ) × (low ≡ n ∷ rest) × Below observer d rest order)
    by more (inl out) = inl (onwards.above n below.0 out.0, more low out.1)
    by more (inr first) = inr (first.0, first.1, more first.0 first.2)

below-append : (observer : Label) (c : Configuration) (low order low_more more : List ℕ) → Below observer c low order → Below observer c low_more more → Below observer c (low ++ low_more) (order ++ more)
below-append observer c low [] low_more more below further = subst (λ (ks : List ℕ). Below observer c (ks ++ low_more) more) (sym below) further
below-append observer c low (n ∷ order) low_more more below further = (below.0, by (λ ks b. below-append observer c ks order low_more more b further) below.1)
  where
    by : ((ks : List ℕ) → Below observer c ks order → Below observer c (ks ++ low_more) (order ++ more)) → (IsAbove observer c n × Below observer c low order) ⊎ ((rest : List ℕ) × (low ≡ n ∷ rest) × Below observer c rest order)
        → (IsAbove observer c n × Below observer c (low ++ low_more) (order ++ more)) ⊎ ((rest : List ℕ) × (low ++ low_more ≡ n ∷ rest) × Below observer c rest (order ++ more))
    by longer (inl out) = inl (out.0, longer low out.1)
    by longer (inr first) = inr (first.0 ++ low_more, ap (λ (ks : List ℕ). ks ++ low_more) first.1, longer first.0 first.2)

-- tasks that are born: all of them below, or none
below-all : (observer : Label) (c : Configuration) (born : List ℕ) → ((n : ℕ) → Among n born → IsTask c n) → Below observer c born born
below-all observer c [] tasks = refl
below-all observer c (n ∷ born) tasks = (tasks n (inl refl), inr (born, refl, below-all observer c born (λ m a. tasks m (inr a))))

below-none : (observer : Label) (c : Configuration) (born : List ℕ) → ((n : ℕ) → Among n born → IsTask c n) → ((n : ℕ) → Among n born → IsAbove observer c n) → Below observer c [] born
below-none observer c [] tasks above = refl
below-none observer c (n ∷ born) tasks above = (tasks n (inl refl), inl (above n (inl refl), below-none observer c born (λ m a. tasks m (inr a)) (λ m a. above m (inr a))))

-- what can't take a turn can't take one in the erased calculus
can-below : (observer : Label) (c : Configuration) (k : ℕ) → IsSound c → can c k ≡ false → can (erase observer c) k ≡ false
can-below observer c k sound still = by (cell_at c k).task refl
  where
    seen : (task : TaskState) → IsTaskOf c k task → (b : Bool) → flows task.label observer ≡ b → can (erase observer c) k ≡ false
    seen task is true e = (seen_task_is_enabled_below observer c k sound).seen task is e ∙ still
    seen task is false e = (seen_task_is_enabled_below observer c k sound).unseen task is e

    by : (t : Option TaskState) → (cell_at c k).task ≡ t → can (erase observer c) k ≡ false
    by None e = (seen_task_is_enabled_below observer c k sound).absent e
    by (Some task) e = seen task e (flows task.label observer) refl

pub complete_is_complete_below : CompleteIsCompleteBelow
complete_is_complete_below observer c sound complete k = can-below observer c k sound (complete k)

low-still : (observer : Label) (s : LowState) (k : ℕ) → can s.configuration k ≡ false → low_stepped observer s k ≡ None
low-still observer s k still = by (low observer 0 s.configuration k s.contents) refl
  where
    by : (t : Option LowTurn) → low observer 0 s.configuration k s.contents ≡ t → option_map low_taken t ≡ None
    by None e = refl
    by (Some turn) e =
        let can_is : IsTrue (can s.configuration k) = (low_turns_where_enabled observer 0 s.configuration k).alone s.contents (ap (λ (t : Option LowTurn). is_some t) e) in
        absurd (true≢false (sym can_is ∙ still))

-- what the observer sees of a configuration, with what the rest of the run releases to it
abbrev pub state : Label → Configuration → Ran → LowState
state observer c ran = record { configuration = erase observer c; contents = releases observer ran.entries }

-- a run after its first turn
record Rest (ticket : ℕ) (t : Taken Configuration) (actors : List ℕ) (ran : Ran) : Type 0 where
  rest : Ran
  goes : run (ticket + 1) t.next actors ≡ Some rest
  is : ran_after (record t.entry { ticket = ticket }) rest ≡ ran

run-rest : (ticket : ℕ) (c : Configuration) (k : ℕ) (actors : List ℕ) (ran : Ran) (t : Taken Configuration) → stepped c k ≡ Some t → run ticket c (k ∷ actors) ≡ Some ran → Rest ticket t actors ran
unfolding run
run-rest ticket c k actors ran t is runs =
    let now : step ticket c k ≡ Some (with_ticket ticket (turned t)) = step-ticket 0 ticket c k (turned t) (stepped-step c k t is) in
    by (run (ticket + 1) t.next actors) refl
    (sym (ap (λ (o : Option Turn). option_and_then (λ turn. option_map (ran_after turn.entry) (run (ticket + 1) turn.next actors)) o) now) ∙ runs)
  where
    by : (later : Option Ran) → run (ticket + 1) t.next actors ≡ later → option_map (ran_after (record t.entry { ticket = ticket })) later ≡ Some ran → Rest ticket t actors ran
    by None goes got = absurd (cc)
    by (Some rest) goes got = record { rest = rest; goes = goes; is = cc }

-- what the rest of a run releases and shows, by its first turn
releases-first : (observer : Label) (ticket : ℕ) (t : Taken Configuration) (rest : Ran) → releases observer (ran_after (record t.entry { ticket = ticket }) rest).entries ≡ released_to observer t.entry.act t.entry.reply ++ releases observer rest.entries
unfolding releases
releases-first observer ticket t rest = refl

who-first : (observer : Label) (ticket : ℕ) (t : Taken Configuration) (rest : Ran) → who observer (ran_after (record t.entry { ticket = ticket }) rest).entries ≡ (if is_visible observer t.entry then t.entry.actor ∷ who observer rest.entries else who observer rest.entries)
unfolding who
who-first observer ticket t rest = refl

-- A round, as an observer sees it: a round of the erased calculus over the tasks that it sees, with what the rest of the run releases to it.
pub record OneRound (observer : Label) (low_walked : List ℕ) (c : Configuration) (done : Round Configuration) (low_order order actors : List ℕ) (ran : Ran) : Type 0 where
  pub ticket : ℕ
  pub rest : Ran
  pub goes : run ticket done.after actors ≡ Some rest
  pub low : Round LowState
  pub is : round (low_stepped observer) low_walked (state observer c ran) ≡ low
  pub after : low.after ≡ state observer done.after rest
  pub moves : who observer ran.entries ≡ low.moved ++ who observer rest.entries
  pub orders : Below observer done.after (low_order ++ low.born) (order ++ done.born)

-- where a turn is seen
seen-first : (observer : Label) (ticket : ℕ) (c : Configuration) (k : ℕ) (t : Taken Configuration) (low_walked : List ℕ) (done : Round Configuration) (low_order order actors : List ℕ) (ran : Ran) (task : TaskState) (r : Rest ticket t (done.moved ++ actors) ran)
    → IsSound c → IsTaskOf c k task → IsTrue (flows task.label observer) → stepped c k ≡ Some t → t.entry.at ≡ task.label → t.entry.actor ≡ k
    → OneRound observer low_walked t.next done (low_order ++ born_in t.entry) (order ++ born_in t.entry) actors r.rest
    → OneRound observer (k ∷ low_walked) c (moved_first k t.entry done) low_order order actors ran
seen-first observer ticket c k t low_walked done low_order order actors ran task r sound is visible steps at_is actor_is one = record {
  ticket = one.ticket;
  rest = one.rest;
  goes = one.goes;
  low = moved_first k (erase_entry observer t.entry) one.low;
  is = round-moves (low_stepped observer) k low_walked (state observer c ran) seen lower ∙ ap (moved_first k (erase_entry observer t.entry)) one.is;
  after = one.after;
  moves = first ∙ ap (λ (ks : List ℕ). k ∷ ks) one.moves;
  orders = subst (λ (ks : List ℕ). Below observer done.after ks (order ++ (born_in t.entry ++ done.born))) low_born
      (subst (λ (ks : List ℕ). Below observer done.after ((low_order ++ born_in t.entry) ++ one.low.born) ks) (append_assoc order (born_in t.entry) done.born) one.orders);
}
  where
    seen : Taken LowState
    seen = record { entry = erase_entry observer t.entry; next = state observer t.next r.rest }

    released : releases observer ran.entries ≡ released_to observer t.entry.act t.entry.reply ++ releases observer r.rest.entries
    released = sym (ap (λ (x : Ran). releases observer x.entries) r.is) ∙ releases-first observer ticket t r.rest

    lower : low_stepped observer (state observer c ran) k ≡ Some seen
    lower =
        ap (λ (contents : List Content). option_map low_taken (low observer 0 (erase observer c) k contents)) released
        ∙ ap (option_map low_taken) (seen_turn_is_erased_turn observer 0 c k task (turned t) (releases observer r.rest.entries) sound is visible (stepped-step c k t steps))

    first : who observer ran.entries ≡ k ∷ who observer r.rest.entries
    first =
        sym (ap (λ (x : Ran). who observer x.entries) r.is) ∙ who-first observer ticket t r.rest
        ∙ ap (λ (b : Bool). if b then t.entry.actor ∷ who observer r.rest.entries else who observer r.rest.entries) (ap (λ (l : Label). flows l observer) at_is ∙ visible)
        ∙ ap (λ (n : ℕ). n ∷ who observer r.rest.entries) actor_is

    low_born : (low_order ++ born_in t.entry) ++ one.low.born ≡ low_order ++ (born_in (erase_entry observer t.entry) ++ one.low.born)
    low_born = append_assoc low_order (born_in t.entry) one.low.born ∙ ap (λ (ks : List ℕ). low_order ++ (ks ++ one.low.born)) (sym (born-erased observer t.entry))

-- where it isn't
unseen-first : (observer : Label) (ticket : ℕ) (c : Configuration) (k : ℕ) (t : Taken Configuration) (low_walked : List ℕ) (done : Round Configuration) (low_order order actors : List ℕ) (ran : Ran) (task : TaskState) (r : Rest ticket t (done.moved ++ actors) ran)
    → IsSound c → IsTaskOf c k task → flows task.label observer ≡ false → stepped c k ≡ Some t → t.entry.at ≡ task.label → erase observer t.next ≡ erase observer c
    → OneRound observer low_walked t.next done low_order (order ++ born_in t.entry) actors r.rest
    → OneRound observer low_walked c (moved_first k t.entry done) low_order order actors ran
unseen-first observer ticket c k t low_walked done low_order order actors ran task r sound is above steps at_is still one = record {
  ticket = one.ticket;
  rest = one.rest;
  goes = one.goes;
  low = one.low;
  is = ap (round (low_stepped observer) low_walked) here ∙ one.is;
  after = one.after;
  moves = first ∙ one.moves;
  orders = subst (λ (ks : List ℕ). Below observer done.after (low_order ++ one.low.born) ks) (append_assoc order (born_in t.entry) done.born) one.orders;
}
  where
    released : releases observer ran.entries ≡ releases observer r.rest.entries
    released =
        sym (ap (λ (x : Ran). releases observer x.entries) r.is) ∙ releases-first observer ticket t r.rest
        ∙ ap (λ (contents : List Content). contents ++ releases observer r.rest.entries) (unseen_turn_releases_nothing observer 0 c k task (turned t) sound is above (stepped-step c k t steps))

    here : state observer c ran ≡ state observer t.next r.rest
    here = λ i. record { configuration = sym still i; contents = released i }

    first : who observer ran.entries ≡ who observer r.rest.entries
    first =
        sym (ap (λ (x : Ran). who observer x.entries) r.is) ∙ who-first observer ticket t r.rest
        ∙ ap (λ (b : Bool). if b then t.entry.actor ∷ who observer r.rest.entries else who observer r.rest.entries) (ap (λ (l : Label). flows l observer) at_is ∙ above)

-- a task of the erased order that takes no turn
skipping : (observer : Label) (c : Configuration) (k : ℕ) (low_walked walked : List ℕ) (done : Round Configuration) (low_order order actors : List ℕ) (ran : Ran) → can (erase observer c) k ≡ false
    → OneRound observer low_walked c done low_order order actors ran → OneRound observer (k ∷ low_walked) c done low_order order actors ran
skipping observer c k low_walked walked done low_order order actors ran still one = record {
  ticket = one.ticket;
  rest = one.rest;
  goes = one.goes;
  low = one.low;
  is = round-skips (low_stepped observer) k low_walked (state observer c ran) (low-still observer (state observer c ran) k still) ∙ one.is;
  after = one.after;
  moves = one.moves;
  orders = one.orders;
}

-- what a round is to be
abbrev Goes : Label → List ℕ → List ℕ → Configuration → Round Configuration → Type 0
Goes observer actors walked c done =
    (low_walked low_order order : List ℕ) (ticket : ℕ) (ran : Ran) → IsSound c → Below observer c low_walked walked → Below observer c low_order order
    → run ticket c (done.moved ++ actors) ≡ Some ran → OneRound observer low_walked c done low_order order actors ran

nobody : (observer : Label) (actors : List ℕ) (c : Configuration) → Goes observer actors [] c (record { moved = []; born = []; after = c })
nobody observer actors c low_walked low_order order ticket ran sound below orders runs = record {
  ticket = ticket;
  rest = ran;
  goes = runs;
  low = record { moved = []; born = []; after = state observer c ran };
  is = ap (λ (ks : List ℕ). round (low_stepped observer) ks (state observer c ran)) below ∙ round-nobody (low_stepped observer) (state observer c ran);
  after = refl;
  moves = refl;
  orders = subst (λ (ks : List ℕ). Below observer c ks (order ++ [])) (sym (append-nil low_order)) (subst (λ (ks : List ℕ). Below observer c low_order ks) (sym (append-nil order)) orders);
}

skips : (observer : Label) (actors : List ℕ) (k : ℕ) (walked : List ℕ) (c : Configuration) (done : Round Configuration) → stepped c k ≡ None → Goes observer actors walked c done → Goes observer actors (k ∷ walked) c done
skips observer actors k walked c done stays goes low_walked low_order order ticket ran sound below orders runs = by below.1
  where
    by : (IsAbove observer c k × Below observer c low_walked walked) ⊎ ((rest : List ℕ) × (low_walked ≡ k ∷ rest) × Below observer c rest walked) → OneRound observer low_walked c done low_order order actors ran
    by (inl out) = goes low_walked low_order order ticket ran sound out.1 orders runs
    by (inr first) =
        let still : can c k ≡ false = ap (λ (t : Option Turn). is_some t) (stepped-none c k stays) in
        subst (λ (ks : List ℕ). OneRound observer ks c done low_order order actors ran) (sym first.1)
        (skipping observer c k first.0 walked done low_order order actors ran (can-below observer c k sound still) (goes first.0 low_order order ticket ran sound first.2 orders runs))

moves : (observer : Label) (actors : List ℕ) (k : ℕ) (walked : List ℕ) (c : Configuration) (t : Taken Configuration) (done : Round Configuration) → stepped c k ≡ Some t → Goes observer actors walked t.next done → Goes observer actors (k ∷ walked) c (moved_first k t.entry done)
moves observer actors k walked c t done steps goes low_walked low_order order ticket ran sound below orders runs = by (flows p.task.label observer) refl below.1
  where
    p : Parts 0 c k (turned t)
    p = parts 0 c k (turned t) (stepped-step c k t steps)

    r : Rest ticket t (done.moved ++ actors) ran
    r = run-rest ticket c k (done.moved ++ actors) ran t steps runs

    later : IsSound t.next
    later = stepped-sound c k t steps sound

    at_is : t.entry.at ≡ p.task.label
    at_is = sym (ap (λ (u : Turn). u.entry.at) p.is_turn)

    actor_is : t.entry.actor ≡ k
    actor_is = sym (ap (λ (u : Turn). u.entry.actor) p.is_turn)

    onwards : Onwards observer c t.next
    onwards = turn-onwards observer 0 c k (turned t) sound (stepped-step c k t steps)

    born : (n : ℕ) → Among n (born_in t.entry) → IsTask t.next n
    born n a = (turn-born 0 c k (turned t) sound (stepped-step c k t steps) n a).there

    seen : IsTrue (flows p.task.label observer) → (rest : List ℕ) → Below observer c rest walked → OneRound observer (k ∷ rest) c (moved_first k t.entry done) low_order order actors ran
    seen visible rest b =
        seen-first observer ticket c k t rest done low_order order actors ran p.task r sound p.is_task visible steps at_is actor_is
        (goes rest (low_order ++ born_in t.entry) (order ++ born_in t.entry) (ticket + 1) r.rest later (below-onwards observer c t.next onwards rest walked b)
        (below-append observer t.next low_order order (born_in t.entry) (born_in t.entry) (below-onwards observer c t.next onwards low_order order orders) (below-all observer t.next (born_in t.entry) born)) r.goes)

    unseen : flows p.task.label observer ≡ false → (rest : List ℕ) → Below observer c rest walked → OneRound observer rest c (moved_first k t.entry done) low_order order actors ran
    unseen above rest b =
        let still : erase observer t.next ≡ erase observer c = unseen_turn_changes_nothing observer 0 c k p.task (turned t) sound p.is_task above (stepped-step c k t steps) in
        let none : Below observer t.next [] (born_in t.entry) = below-none observer t.next (born_in t.entry) born (born-above observer 0 c k (turned t) sound (stepped-step c k t steps) still) in
        let grown : Below observer t.next low_order (order ++ born_in t.entry) =
        subst (λ (ks : List ℕ). Below observer t.next ks (order ++ born_in t.entry)) (append-nil low_order)
        (below-append observer t.next low_order order [] (born_in t.entry) (below-onwards observer c t.next onwards low_order order orders) none) in
        unseen-first observer ticket c k t rest done low_order order actors ran p.task r sound p.is_task above steps at_is still
        (goes rest low_order (order ++ born_in t.entry) (ticket + 1) r.rest later (below-onwards observer c t.next onwards rest walked b) grown r.goes)

    by : (b : Bool) → flows p.task.label observer ≡ b → (IsAbove observer c k × Below observer c low_walked walked) ⊎ ((rest : List ℕ) × (low_walked ≡ k ∷ rest) × Below observer c rest walked)
        → OneRound observer low_walked c (moved_first k t.entry done) low_order order actors ran
    by true e (inl out) = absurd (true≢false (sym (stands-task observer c k p.task p.is_task ∙ e) ∙ out.0))
    by true e (inr first) = subst (λ (ks : List ℕ). OneRound observer ks c (moved_first k t.entry done) low_order order actors ran) (sym first.1) (seen e first.0 first.2)
    by false e (inl out) = unseen e low_walked out.1
    by false e (inr first) =
        subst (λ (ks : List ℕ). OneRound observer ks c (moved_first k t.entry done) low_order order actors ran) (sym first.1)
        (skipping observer c k first.0 walked (moved_first k t.entry done) low_order order actors ran ((seen_task_is_enabled_below observer c k sound).unseen p.task p.is_task e) (unseen e first.0 first.2))

-- one round, before some turns
pub round-below : (observer : Label) (actors : List ℕ) (walked : List ℕ) (c : Configuration) → Goes observer actors walked c (round stepped walked c)
round-below observer actors = round-each stepped (λ walked c done. Goes observer actors walked c done) (nobody observer actors) (moves observer actors) (skips observer actors)
