-- How a machine goes through a round.
use Rattle.std.proofs.Common.{◌≡◌, ◌∙◌, refl, sym, ap, subst, ℕ, zero, suc, ◌+◌, ◌-◌, ◌<◌, ◌≤◌, inl, inr, Bool, true, false, true≢false, List, [], ◌∷◌, ◌++◌, length, length-append, append_assoc, append-nil, drop, get_or, take, take-append-drop, Option, Some, None, is_some, arith}
use Rattle.std.proofs.Math.ListN.{get_or-append}
use Rattle.std.specs.Int.{from_bool}
use Rattle.std.proofs.lemmas.Bool.{cases_lt}
use Rattle.std.proofs.lemmas.List.{take_more, take_all}
use Rattle.std.specs.Option.{option_map}
use Rattle.lio_values.specs.declared.entry.Entry.{Entry}
use Rattle.lio_calculus.specs.Step.{Configuration, Turn, can, step}
use Rattle.lio_calculus.specs.Run.{Ran}
use Rattle.lio_calculus_runs.specs.Round.{Round, born_in, followed, joined, order_after, round}
use Rattle.lio_calculus_runs.specs.Rounds.{IsComplete, rounds_from, stepped, taken}
use Rattle.lio_calculus_runs.specs.RoundLaws.{IsOrderOf}
use Rattle.lio_calculus_runs.proofs.TurnLemmas.{step-ticket, with_ticket}
use Rattle.lio_calculus_runs.proofs.RoundLemmas.{round-append, round-moves, round-nobody, round-skips}
use Rattle.lio_calculus_runs.proofs.EndLemmas.{Ends, rounds_go_on}
use Rattle.lio_calculus_runs.proofs.OrderLaws.{rounds-end_from}
use Rattle.lio_rounds.specs.MachineState.{MachineState, HasBegun, HasTaken, HasRun, HasWalked}
use Rattle.lio_rounds.specs.Schedule.{HasGoneOn}
use Rattle.lio_rounds.proofs.MachineRuns.{StandsBefore, first-before, has_begun, has_run-append, has_run-nothing, has_run-one}

-- a round that asks nobody
pub walked-nobody : (m : MachineState) → HasWalked m m []
walked-nobody m =
    let none = round-nobody stepped m.configuration in
    record {
      has_run = subst (λ (r : Round Configuration). HasRun m m r.moved) (sym none) (has_run-nothing m);
      after = ap (λ (r : Round Configuration). r.after) none;
      order = sym (append-nil m.order) ∙ ap (λ (r : Round Configuration). m.order ++ r.born) (sym none);
    }

-- one more task is asked
more : (walked : List ℕ) (k : ℕ) (c d : Configuration) (last : Round Configuration) → (round stepped walked c).after ≡ d → round stepped (k ∷ []) d ≡ last → round stepped (walked ++ k ∷ []) c ≡ joined (round stepped walked c) last
more walked k c d last after is = round-append stepped walked (k ∷ []) c ∙ ap (joined (round stepped walked c)) (ap (round stepped (k ∷ [])) after ∙ is)

-- and takes its turn
pub walked-goes : (old s new : MachineState) (walked : List ℕ) (k : ℕ) (entry : Entry) → HasWalked old s walked → HasTaken s new k entry
    → HasWalked old new (walked ++ k ∷ []) × (length (round stepped (walked ++ k ∷ []) old.configuration).moved ≡ length (round stepped walked old.configuration).moved + 1)
walked-goes old s new walked k entry so_far goes =
    let turn : Turn = record { entry = entry; next = new.configuration } in
    let moves : stepped s.configuration k ≡ Some (taken (with_ticket 0 turn)) = ap (option_map taken) (step-ticket (length s.entries) 0 s.configuration k turn goes.is_step) in
    let last : Round Configuration = record { moved = k ∷ []; born = born_in entry ++ []; after = new.configuration } in
    let is : round stepped (k ∷ []) s.configuration ≡ last =
    round-moves stepped k [] s.configuration (taken (with_ticket 0 turn)) moves ∙ ap (λ (r : Round Configuration). let all : Round Configuration = record { moved = k ∷ r.moved; born = born_in entry ++ r.born; after = r.after } in all) (round-nobody stepped new.configuration) in
    let whole = more walked k old.configuration s.configuration last so_far.after is in (
      record {
        has_run = subst (λ (r : Round Configuration). HasRun old new r.moved) (sym whole) (has_run-append old s new (round stepped walked old.configuration).moved (k ∷ []) so_far.has_run (has_run-one s new k entry goes));
        after = ap (λ (r : Round Configuration). r.after) whole;
        order = goes.order ∙ ap (λ (ks : List ℕ). ks ++ born_in entry) so_far.order ∙ append_assoc old.order (round stepped walked old.configuration).born (born_in entry)
            ∙ ap (λ (ks : List ℕ). old.order ++ ((round stepped walked old.configuration).born ++ ks)) (sym (append-nil (born_in entry)))
            ∙ ap (λ (r : Round Configuration). old.order ++ r.born) (sym whole);
      },
      ap (λ (r : Round Configuration). length r.moved) whole ∙ length-append (round stepped walked old.configuration).moved (k ∷ []),
    )

-- or takes none
pub walked-stays : (old s : MachineState) (walked : List ℕ) (k : ℕ) → HasWalked old s walked → can s.configuration k ≡ false
    → HasWalked old s (walked ++ k ∷ []) × (length (round stepped (walked ++ k ∷ []) old.configuration).moved ≡ length (round stepped walked old.configuration).moved)
walked-stays old s walked k so_far still =
    let none : stepped s.configuration k ≡ None = ap (option_map taken) (no-step (step 0 s.configuration k) still) in
    let last : Round Configuration = record { moved = []; born = []; after = s.configuration } in
    let is : round stepped (k ∷ []) s.configuration ≡ last = round-skips stepped k [] s.configuration none ∙ round-nobody stepped s.configuration in
    let whole = more walked k old.configuration s.configuration last so_far.after is in (
      record {
        has_run = subst (λ (r : Round Configuration). HasRun old s r.moved) (sym whole) (subst (HasRun old s) (sym (append-nil (round stepped walked old.configuration).moved)) so_far.has_run);
        after = ap (λ (r : Round Configuration). r.after) whole;
        order = so_far.order ∙ ap (λ (ks : List ℕ). old.order ++ ks) (sym (append-nil (round stepped walked old.configuration).born)) ∙ ap (λ (r : Round Configuration). old.order ++ r.born) (sym whole);
      },
      ap (λ (r : Round Configuration). length r.moved) whole ∙ ap (λ (ks : List ℕ). length ks) (append-nil (round stepped walked old.configuration).moved),
    )
  where
    no-step : (t : Option Turn) → is_some t ≡ false → t ≡ None
    no-step None e = refl
    no-step (Some turn) e = absurd (true≢false e)

-- the place of a task in the order, one further
take-further : (order born : List ℕ) (i k : ℕ) (listed : List ℕ) → listed ≡ order ++ born → k ≡ get_or listed i 0 → i < length order → take (i + 1) order ≡ take i order ++ k ∷ []
take-further order born i k listed is at inside =
    take_more order i 0 inside ∙ ap (λ (n : ℕ). take i order ++ n ∷ []) (sym (at ∙ ap (λ (ks : List ℕ). get_or ks i 0) is ∙ get_or-append order born 0 i inside))

-- the round so far, with the number of those who moved
pub record WalkedTo (old s : MachineState) (i moved : ℕ) : Type 0 where
  pub so_far : HasWalked old s (take i old.order)
  pub counted : moved ≡ length (round stepped (take i old.order) old.configuration).moved

pub walked-to_none : (m : MachineState) → WalkedTo m m 0 0
walked-to_none m = record { so_far = walked-nobody m; counted = ap (λ (r : Round Configuration). length r.moved) (sym (round-nobody stepped m.configuration)) }

-- a place is passed over whose task can't take a turn
walked-past : (old s : MachineState) (i moved : ℕ) → WalkedTo old s i moved → can s.configuration (get_or s.order i 0) ≡ false → WalkedTo old s (i + 1) moved
walked-past old s i moved to still =
    let before : List ℕ = take i old.order in
    let born : List ℕ = (round stepped before old.configuration).born in
    elim (cases_lt i (length old.order)) [
      | inl inside ↦
          let k : ℕ = get_or s.order i 0 in
          let further = take-further old.order born i k s.order to.so_far.order refl inside in
          let stays = walked-stays old s before k to.so_far still in
          let both : HasWalked old s (take (i + 1) old.order) × (moved ≡ length (round stepped (take (i + 1) old.order) old.configuration).moved) =
          subst (λ (ks : List ℕ). HasWalked old s ks × (moved ≡ length (round stepped ks old.configuration).moved)) (sym further) (stays.0, to.counted ∙ sym stays.1) in
          record { so_far = both.0; counted = both.1 }
      | inr outside ↦
          let same : take (i + 1) old.order ≡ before = take_all (i + 1) old.order (omega (arith, outside)) ∙ sym (take_all i old.order (omega (arith, outside))) in
          record {
            so_far = subst (HasWalked old s) (sym same) to.so_far;
            counted = to.counted ∙ ap (λ (ks : List ℕ). length (round stepped ks old.configuration).moved) (sym same);
          }
    ]

-- and so are all places up to another one
walked-over : (old s : MachineState) (i m moved : ℕ) → WalkedTo old s i moved → ((place : ℕ) → i ≤ place → place < i + m → can s.configuration (get_or s.order place 0) ≡ false) → WalkedTo old s (i + m) moved
walked-over old s i zero moved to still = let same : i ≡ i + 0 = omega arith in subst (λ (n : ℕ). WalkedTo old s n moved) same to
walked-over old s i (suc m) moved to still =
    let same : i + 1 + m ≡ i + suc m = omega arith in
    subst (λ (n : ℕ). WalkedTo old s n moved) same
    (walked-over old s (i + 1) m moved (walked-past old s i moved to (still i (omega arith) (omega arith))) (λ place from before. still place (omega (arith, from)) (omega (arith, before))))

pub walked-on : (old s : MachineState) (i j moved : ℕ) → WalkedTo old s i moved → i ≤ j → ((place : ℕ) → i ≤ place → place < j → can s.configuration (get_or s.order place 0) ≡ false) → WalkedTo old s j moved
walked-on old s i j moved to later still =
    let same : i + (j - i) ≡ j = omega (arith, later) in
    subst (λ (n : ℕ). WalkedTo old s n moved) same (walked-over old s i (j - i) moved to (λ place from before. still place from (omega (arith, before, later))))

-- the task at a place takes its turn, or takes none
pub walked-asks : (old s new : MachineState) (i moved : ℕ) (took : Bool) → WalkedTo old s i moved → i < length old.order → HasGoneOn s new (get_or s.order i 0) took → WalkedTo old new (i + 1) (moved + from_bool took)
walked-asks old s new i moved true to inside goes =
    let before : List ℕ = take i old.order in
    let k : ℕ = get_or s.order i 0 in
    let further = take-further old.order (round stepped before old.configuration).born i k s.order to.so_far.order refl inside in
    let went = walked-goes old s new before k goes.0 to.so_far goes.1 in
    let both : HasWalked old new (take (i + 1) old.order) × (moved + 1 ≡ length (round stepped (take (i + 1) old.order) old.configuration).moved) =
    subst (λ (ks : List ℕ). HasWalked old new ks × (moved + 1 ≡ length (round stepped ks old.configuration).moved)) (sym further) (went.0, ap (λ (n : ℕ). n + 1) to.counted ∙ sym went.1) in
    record { so_far = both.0; counted = both.1 }
walked-asks old s new i moved false to inside stays =
    let same : moved ≡ moved + 0 = omega arith in
    subst (λ (n : ℕ). WalkedTo old new (i + 1) n) same (subst (λ (m : MachineState). WalkedTo old m (i + 1) moved) (sym stays.0) (walked-past old s i moved to stays.1))

pub one-at_most : (took : Bool) → from_bool took ≤ 1
one-at_most true = omega arith
one-at_most false = omega arith

-- where all places are passed, the round is done
pub walked-all : (old s : MachineState) (i moved : ℕ) → WalkedTo old s i moved → length old.order ≤ i → HasWalked old s old.order × (moved ≡ length (round stepped old.order old.configuration).moved)
walked-all old s i moved to past =
    subst (λ (ks : List ℕ). HasWalked old s ks × (moved ≡ length (round stepped ks old.configuration).moved)) (take_all i old.order past) (to.so_far, to.counted)

-- a round over the first tasks of an order moves a first part of those whom the whole round moves
pub walked-begins : (old s : MachineState) (order : List ℕ) (i : ℕ) → HasWalked old s (take i order) → HasBegun old s (round stepped order old.configuration).moved
walked-begins old s order i so_far =
    let first : Round Configuration = round stepped (take i order) old.configuration in
    let later : Round Configuration = round stepped (drop i order) first.after in
    let whole : round stepped order old.configuration ≡ joined first later =
    ap (λ (ks : List ℕ). round stepped ks old.configuration) (sym (take-append-drop i order)) ∙ round-append stepped (take i order) (drop i order) old.configuration in
    has_begun old s first.moved (round stepped order old.configuration).moved (record { rest = later.moved; is = ap (λ (r : Round Configuration). r.moved) whole }) so_far.has_run

-- rounds so far: those of the first machine are these and then those of this machine
pub record RoundsSoFar (old new : MachineState) : Type 0 where
  pub moved : List ℕ
  pub has_run : HasRun old new moved
  pub rounds : rounds_from old.order old.configuration ≡ moved ++ rounds_from new.order new.configuration

pub rounds-none : (m : MachineState) → RoundsSoFar m m
rounds-none m = record { moved = []; has_run = has_run-nothing m; rounds = refl }

followed-some : (k : ℕ) (ks later : List ℕ) → followed (k ∷ ks) later ≡ (k ∷ ks) ++ later
followed-some k ks later = refl

-- one more round, which moved somebody
pub rounds-more : (old s new : MachineState) → RoundsSoFar old s → HasWalked s new s.order → 0 < length (round stepped s.order s.configuration).moved → RoundsSoFar old new
rounds-more old s new before last some =
    let done : Round Configuration = round stepped s.order s.configuration in
    let goes : rounds_from s.order s.configuration ≡ done.moved ++ rounds_from new.order new.configuration =
    rounds_go_on s.order s.configuration ∙ by done.moved (rounds_from (order_after s.order done) done.after) some
    ∙ ap (λ (c : Configuration). done.moved ++ rounds_from (order_after s.order done) c) last.after ∙ ap (λ (ks : List ℕ). done.moved ++ rounds_from ks new.configuration) (sym last.order) in
    record {
      moved = before.moved ++ done.moved;
      has_run = has_run-append old s new before.moved done.moved before.has_run last.has_run;
      rounds = before.rounds ∙ ap (λ (ks : List ℕ). before.moved ++ ks) goes ∙ sym (append_assoc before.moved done.moved (rounds_from new.order new.configuration));
    }
  where
    by : (moved later : List ℕ) → 0 < length moved → followed moved later ≡ moved ++ later
    by [] later h = absurd (omega (arith, h))
    by (k ∷ moved) later h = refl

-- a round that was begun begins the rounds that are left
begun-before : (n : ℕ) (moved later : List ℕ) → StandsBefore (take n moved) (followed moved later)
begun-before zero [] later = record { rest = []; is = refl }
begun-before (suc n) [] later = record { rest = []; is = refl }
begun-before n (k ∷ moved) later =
    let first = first-before n (k ∷ moved) in
    record { rest = first.rest ++ later; is = ap (λ (ks : List ℕ). ks ++ later) first.is ∙ append_assoc (take n (k ∷ moved)) first.rest later }

-- rounds of which the last was begun
pub rounds-begun : (old s new : MachineState) → RoundsSoFar old s → HasBegun s new (round stepped s.order s.configuration).moved → HasBegun old new (rounds_from old.order old.configuration)
rounds-begun old s new before begun =
    let done : Round Configuration = round stepped s.order s.configuration in
    let part : List ℕ = take begun.0 done.moved in
    let stands = begun-before begun.0 done.moved (rounds_from (order_after s.order done) done.after) in
    let goes : rounds_from s.order s.configuration ≡ part ++ stands.rest = rounds_go_on s.order s.configuration ∙ stands.is in
    has_begun old new (before.moved ++ part) (rounds_from old.order old.configuration)
    (record { rest = stands.rest; is = before.rounds ∙ ap (λ (ks : List ℕ). before.moved ++ ks) goes ∙ sym (append_assoc before.moved part stands.rest) })
    (has_run-append old s new before.moved part before.has_run begun.1)

no_items : (ks : List ℕ) → length ks ≡ 0 → ks ≡ []
no_items [] e = refl
no_items (k ∷ ks) e = absurd (omega arith)

-- the last round moves nobody
pub rounds-last : (old s new : MachineState) → RoundsSoFar old s → HasWalked s new s.order → length (round stepped s.order s.configuration).moved ≡ 0 → HasRun old new (rounds_from old.order old.configuration)
rounds-last old s new before last none =
    let done : Round Configuration = round stepped s.order s.configuration in
    let still : done.moved ≡ [] = no_items done.moved none in
    let ends : rounds_from s.order s.configuration ≡ [] = rounds_go_on s.order s.configuration ∙ ap (λ (ks : List ℕ). followed ks (rounds_from (order_after s.order done) done.after)) still in
    let all : rounds_from old.order old.configuration ≡ before.moved ++ done.moved = before.rounds ∙ ap (λ (ks : List ℕ). before.moved ++ ks) (ends ∙ sym still) in
    subst (HasRun old new) (sym all) (has_run-append old s new before.moved done.moved before.has_run last.has_run)

-- then the configuration is complete
pub rounds-complete : (old new : MachineState) → IsOrderOf old.configuration old.order → HasRun old new (rounds_from old.order old.configuration) → IsComplete new.configuration
rounds-complete old new lists has =
    let end : Ends old.configuration (rounds_from old.order old.configuration) = rounds-end_from old.configuration old.order lists in
    let runs = end.runs (length old.entries) in
    let one : Ran = record { entries = runs.0; last = end.last } in
    let two : Ran = record { entries = has.added; last = new.configuration } in
    let both : Some one ≡ Some two = sym runs.1 ∙ has.is_run in
    let same : one ≡ two = cc in
    subst IsComplete (ap (λ (r : Ran). r.last) same) end.complete
