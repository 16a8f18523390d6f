-- What a poll of the stream says of what it yields.
use Rattle.std.proofs.Common.{◌≡◌, ◌≤◌, ◌∙◌, refl, sym, ap, subst, arith, ℕ, suc, ◌+◌, ◌-◌, ◌<◌, Bool, false, nat_lt, List, [], ◌∷◌, ◌++◌, length, length-append, drop, get_or, true, Option, None, Some, Result, Ok, Err, inl, inr}
use Rattle.std.proofs.Math.ListN.{drop_of_length-le}
use Rattle.std.proofs.lemmas.List.{drop-drop, get_or-drop, length-drop}
use borrow.Author.Tests.{ltb-true, ltb-false}
use Rattle.std.specs.Prelude.{IfSome, MatchBool}
use Rattle.std.specs.Option.{ForSome, option_map}
use Rattle.futures.specs.Runs.{After, Ends, Within}
use Rattle.futures.specs.declared.task.Poll.{Poll}
use Rattle.futures.specs.declared.task.Poll.TheVariants.{Ready, Pending}
use Rattle.lio_clauses.specs.declared.faults.NoMemory.{NoMemory}
use Rattle.lio_labels.specs.declared.label.Label.{Label}
use Rattle.lio_values.specs.declared.entry.Entry.{Entry}
use Rattle.lio_values.specs.Erasure.{erase_entry}
use Rattle.lio_events.specs.Views.{is_visible, view}
use Rattle.lio_events.proofs.ViewLemmas.{view-none, view-seen}
use Rattle.lio_calculus_runs.specs.Rounds.{IsComplete, rounds_from}
use Rattle.lio_rounds.specs.MachineParts.{MachineParts, machine_of}
use Rattle.lio_rounds.specs.MachineState.{HasRun, MachineState}
use Rattle.lio_async_rounds.specs.RoundsFuture.{MovesNone, MovesSome}
use Rattle.lio_async_rounds.specs.ViewStream.{Come, Gave, GivesNext, HasCome, HasGiven, IsFound, IsLeft, IsUnseen, RunsMachine, Yields, YieldsOf, machine_in, waiting}
use Rattle.lio_async_rounds.specs.declared.view_stream.ViewStream.{ViewStream}
use Rattle.lio_async_rounds.proofs.RoundLemmas.{RunsOut, rounds-on, rounds-run_out, rounds-still}
use Rattle.lio_async_rounds.proofs.ViewLemmas.{view-from}

-- what is kept of the machine that is there
pub within-at : (held : Option MachineParts) (machine : MachineState) (next : ℕ) → option_map machine_of held ≡ Some machine → ForSome held (λ m. next ≤ length m.entries) → next ≤ length machine.entries
within-at None machine next there within = absurd (cc)
within-at (Some parts) machine next there within =
    let same : machine_of parts ≡ machine = cc in
    subst (λ (m : MachineState). next ≤ length m.entries) same (within parts refl)

-- a run adds entries
within-run : (old new : MachineState) (ks : List ℕ) (next : ℕ) → HasRun old new ks → next ≤ length old.entries → next ≤ length new.entries
within-run old new ks next has within =
    let long : length new.entries ≡ length old.entries + length has.added = ap (λ (es : List Entry). length es) has.entries ∙ length-append old.entries has.added in
    omega (arith, long, within)

within-come : (stream : ViewStream) (machine : MachineState) → HasCome stream machine → stream.next ≤ length machine.entries
within-come stream machine (inl there) = within-at stream.machine machine stream.next there stream.within
within-come stream machine (inr (before, goes)) =
    within-run before machine _ stream.next goes.moves.walked.has_run (within-at stream.machine before stream.next goes.there stream.within)

-- what is left of a stream at a machine: what waits there, and what the observer sees of the entries after it
left-from : (stream : ViewStream) (machine last : MachineState) (ks : List ℕ) (has : HasRun machine last ks) → stream.next ≤ length machine.entries
    → view stream.observer stream.given (drop stream.next last.entries) ≡ waiting stream machine ++ view stream.observer (stream.given + length (waiting stream machine)) has.added
left-from stream machine last ks has within =
    ap (λ (es : List Entry). view stream.observer stream.given (drop stream.next es)) has.entries
    ∙ view-from stream.observer stream.given stream.next machine.entries has.added within

-- a stream that has come to a machine yields what is left there
yields-at : (stream : ViewStream) (machine : MachineState) (left : List Entry) (items : List (Result Entry NoMemory)) (last : Option (Result Entry NoMemory)) → HasCome stream machine → IsLeft stream machine left
    → Come left items last → Yields stream items last
yields-at stream machine left items last (inl there) is come = subst (λ (m : Option MachineState). YieldsOf stream m items last) (sym there) (left, is, come)
yields-at stream machine left items last (inr (before, goes)) is come =
    subst (λ (m : Option MachineState). YieldsOf stream m items last) (sym goes.there)
    (left, record { last = is.last; has_run = rounds-on before machine is.last goes.moves is.has_run; left_is = is.left_is }, come)

-- what it yields is what is left at its machine
yielded-at : (stream : ViewStream) (machine : MachineState) (items : List (Result Entry NoMemory)) (last : Option (Result Entry NoMemory)) → machine_in stream ≡ Some machine → Yields stream items last
    → YieldsOf stream (Some machine) items last
yielded-at stream machine items last there yields = subst (λ (m : Option MachineState). YieldsOf stream m items last) there yields

ended-at : (stream : ViewStream) (items : List (Result Entry NoMemory)) (last : Option (Result Entry NoMemory)) → stream.machine ≡ None → Yields stream items last → Ends items last
ended-at stream items last none yields = subst (λ (m : Option MachineParts). YieldsOf stream (option_map machine_of m) items last) none yields

-- where an entry was given, it was the first that was left
left-given : (old new : ViewStream) (machine : MachineState) (entry : Entry) (left : List Entry) → HasCome old machine → HasGiven old new machine entry → IsLeft new machine left → IsLeft old machine (entry ∷ left)
left-given old new machine entry left come gave is =
    let o : Label = new.observer in
    let rest : List Entry = waiting new machine in
    let tail : ℕ → List Entry = λ n. view o n is.has_run.added in
    let now : left ≡ rest ++ tail (new.given + length rest) =
    is.left_is ∙ left-from new machine is.last (rounds_from machine.order machine.configuration) is.has_run (within-at new.machine machine new.next gave.runs.there new.within) in
    let later : new.given + length rest ≡ old.given + suc (length rest) = omega (arith, gave.given) in
    let before = left-from old machine is.last (rounds_from machine.order machine.configuration) is.has_run (within-come old machine come) in
    record {
      last = is.last;
      has_run = is.has_run;
      left_is =
          ap (λ (es : List Entry). entry ∷ es) now
          ∙ ap (λ (n : ℕ). entry ∷ rest ++ tail n) later
          ∙ ap (λ (l : Label). entry ∷ rest ++ view l (old.given + suc (length rest)) is.has_run.added) gave.observer
          ∙ ap (λ (es : List Entry). es ++ view old.observer (old.given + length es) is.has_run.added) (sym gave.first)
          ∙ sym before;
    }

-- where nothing was seen, the same is left
left-unseen : (old new : ViewStream) (machine : MachineState) (left : List Entry) → HasCome old machine → IsUnseen old new machine → IsLeft new machine left → IsLeft old machine left
left-unseen old new machine left come unseen is =
    let added : List Entry = is.has_run.added in
    let now = left-from new machine is.last (rounds_from machine.order machine.configuration) is.has_run (within-at new.machine machine new.next unseen.there new.within) in
    let before = left-from old machine is.last (rounds_from machine.order machine.configuration) is.has_run (within-come old machine come) in
    record {
      last = is.last;
      has_run = is.has_run;
      left_is =
          is.left_is ∙ now
          ∙ ap (λ (es : List Entry). es ++ view new.observer (new.given + length es) added) (unseen.none_after ∙ sym unseen.none)
          ∙ ap (λ (l : Label). waiting old machine ++ view l (new.given + length (waiting old machine)) added) unseen.observer
          ∙ ap (λ (n : ℕ). waiting old machine ++ view old.observer (n + length (waiting old machine)) added) unseen.given
          ∙ sym before;
    }

-- the entry that was found is the first that waits
pub given-first : (observer : Label) (given next : ℕ) (entries rest : List Entry) (found entry : Entry) → drop next entries ≡ found ∷ rest → is_visible observer found ≡ true
    → entry ≡ erase_entry observer (record found { ticket = given }) → view observer given (drop next entries) ≡ entry ∷ view observer (given + 1) (drop (next + 1) entries)
given-first observer given next entries rest found entry at seen is =
    let behind : rest ≡ drop (next + 1) entries = ap (λ (es : List Entry). drop 1 es) (sym at) ∙ drop-drop 1 next entries in
    ap (λ (es : List Entry). view observer given es) at
    ∙ view-seen observer given found rest seen
    ∙ ap (λ (e : Entry). e ∷ view observer (given + 1) rest) (sym is)
    ∙ ap (λ (es : List Entry). entry ∷ view observer (given + 1) es) behind

pub found-at : (next : ℕ) (entries rest : List Entry) (found got : Entry) → drop next entries ≡ found ∷ rest → got ≡ get_or entries next got → got ≡ found
found-at next entries rest found got at is =
    let here : next + 0 ≡ next = omega arith in
    is ∙ ap (λ (n : ℕ). get_or entries n got) (sym here) ∙ sym (get_or-drop next entries 0 got) ∙ ap (λ (es : List Entry). get_or es 0 got) at

left-here : (stream : ViewStream) (machine : MachineState) (runs : RunsOut machine) → IsLeft stream machine (view stream.observer stream.given (drop stream.next runs.last.entries))
left-here stream machine runs = record { last = runs.last; has_run = runs.has_run; left_is = refl }

-- what is given is what may come next
pub gives-value : (old new : ViewStream) (item : Option (Result Entry NoMemory)) → GivesNext old (Ready item) new → Yields old [] item
gives-value old new None (inl none, ended) = subst (λ (m : Option MachineParts). YieldsOf old (option_map machine_of m) [] None) (sym none) (refl, refl)
gives-value old new None (inr (machine, goes), ended) =
    yields-at old machine [] [] None (inl goes.there) (record { last = machine; has_run = rounds-still machine goes.moves.none; left_is = sym goes.none }) refl
gives-value old new (Some (Ok entry)) (machine, come, gave) =
    let runs = rounds-run_out machine gave.runs.lists in
    yields-at old machine (entry ∷ view new.observer new.given (drop new.next runs.last.entries)) [] (Some (Ok entry)) come
    (left-given old new machine entry _ come gave (left-here new machine runs)) refl
gives-value old new (Some (Err fault)) ((machine, runs), ended) =
    yields-at old machine _ [] (Some (Err fault)) (inl runs.there) (left-here old machine (rounds-run_out machine runs.lists)) tt

-- what may come after it may come behind it
pub gives-rest : (old new : ViewStream) (item : Result Entry NoMemory) → GivesNext old (Ready (Some item)) new → After (Yields old) item (Yields new)
gives-rest old new (Ok entry) (machine, come, gave) items last yields =
    let left = yielded-at new machine items last gave.runs.there yields in
    yields-at old machine (entry ∷ left.0) (Ok entry ∷ items) last come (left-given old new machine entry left.0 come gave left.1) (refl, left.2)
gives-rest old new (Err fault) ((machine, runs), ended) items last yields =
    yields-at old machine _ (Err fault ∷ items) last (inl runs.there) (left-here old machine (rounds-run_out machine runs.lists)) (ended-at new items last ended yields)

pub gives-rests : (old new : ViewStream) (item : Option (Result Entry NoMemory)) → GivesNext old (Ready item) new → IfSome item (λ x. After (Yields old) x (Yields new))
gives-rests old new None says = tt
gives-rests old new (Some item) says = gives-rest old new item says

-- where nothing is given, the same may come
pub gives-same : (old new : ViewStream) → GivesNext old Pending new → Within (Yields old) (Yields new)
gives-same old new (before, machine, goes, unseen) items last yields =
    let come : HasCome old machine = inr (before, goes) in
    let left = yielded-at new machine items last unseen.there yields in
    yields-at old machine left.0 items last come (left-unseen old new machine left.0 come unseen left.1) left.2

-- an entry is found, or none waits
pub found-or_none : (stream : ViewStream) (machine : MachineState) (entries : List Entry) → entries ≡ machine.entries
    → ((entry : Entry) (rest : List Entry) → drop stream.next entries ≡ entry ∷ rest → is_visible stream.observer entry ≡ true)
    → MatchBool (nat_lt stream.next (length entries)) (IsFound stream machine) (waiting stream machine ≡ [])
found-or_none stream machine entries are seen = by (nat_lt stream.next (length entries)) refl
  where
    first : (left : List Entry) → drop stream.next entries ≡ left → stream.next < length entries → IsFound stream machine
    first [] is below =
        let long : length (drop stream.next entries) ≡ length entries - stream.next = length-drop stream.next entries in
        let none : length (drop stream.next entries) ≡ 0 = ap (λ (es : List Entry). length es) is in
        absurd (omega (arith, below, long, none))
    first (entry ∷ rest) is below = record { entry = entry; rest = rest; at = ap (λ (es : List Entry). drop stream.next es) (sym are) ∙ is; seen = seen entry rest is }

    by : (b : Bool) → nat_lt stream.next (length entries) ≡ b → MatchBool b (IsFound stream machine) (waiting stream machine ≡ [])
    by true is = first (drop stream.next entries) refl (ltb-true _ _ is)
    by false is =
        let past : length entries ≤ stream.next = ltb-false _ _ is in
        ap (λ (es : List Entry). view stream.observer stream.given (drop stream.next es)) (sym are)
        ∙ ap (λ (es : List Entry). view stream.observer stream.given es) (drop_of_length-le entries past) ∙ view-none stream.observer stream.given

-- a round that moved nothing, of the machine as it was
pub moves-here : (old new : MachineState) → MovesNone old new → MovesNone old old
moves-here old new moves = record { none = moves.none; stays = refl; complete = subst (λ (m : MachineState). IsComplete m.configuration) moves.stays moves.complete }

-- what waits after a round goes by the machine alone where nothing waited before it
pub waiting-on : (old found : ViewStream) (before after : MachineState) → MovesSome before after → old.next ≤ length before.entries → found.next ≤ length before.entries
    → waiting old before ≡ [] → waiting found before ≡ [] → found.observer ≡ old.observer → found.given ≡ old.given → waiting found after ≡ waiting old after
waiting-on old found before after moves one two none_old none_found observer given =
    let has = moves.walked.has_run in
    let added : List Entry = has.added in
    left-from found before after _ has two
    ∙ ap (λ (es : List Entry). es ++ view found.observer (found.given + length es) added) (none_found ∙ sym none_old)
    ∙ ap (λ (l : Label). waiting old before ++ view l (found.given + length (waiting old before)) added) observer
    ∙ ap (λ (n : ℕ). waiting old before ++ view old.observer (n + length (waiting old before)) added) given
    ∙ sym (left-from old before after _ has one)

-- the entry that was given, of a stream that has found it where it was
given-of : (old found new : ViewStream) (machine : MachineState) (entry : Entry) → waiting found machine ≡ waiting old machine → found.observer ≡ old.observer → found.given ≡ old.given → HasGiven found new machine entry
    → HasGiven old new machine entry
given-of old found new machine entry same observer given gave = record {
  first = sym same ∙ gave.first;
  runs = gave.runs;
  observer = gave.observer ∙ observer;
  given = gave.given ∙ ap (λ (n : ℕ). n + 1) given;
}

-- what a poll gives of an entry that waited, and of one that its round made
pub gave-here : (old found new : ViewStream) (machine : MachineState) (answer : Poll (Option (Result Entry NoMemory))) → machine_in old ≡ Some machine → waiting found machine ≡ waiting old machine
    → found.observer ≡ old.observer → found.given ≡ old.given → Gave found machine answer new → GivesNext old answer new
gave-here old found new machine (Ready (Some (Ok entry))) there same observer given gave = (machine, inl there, given-of old found new machine entry same observer given gave)
gave-here old found new machine (Ready (Some (Err fault))) there same observer given gave = ((machine, record { there = there; lists = gave.0 }), gave.1)
gave-here old found new machine (Ready None) there same observer given gave = absurd gave
gave-here old found new machine Pending there same observer given gave = absurd gave

pub gave-on : (old found new : ViewStream) (before machine : MachineState) (answer : Poll (Option (Result Entry NoMemory))) → RunsMachine old before → HasCome old machine → waiting found machine ≡ waiting old machine
    → found.observer ≡ old.observer → found.given ≡ old.given → Gave found machine answer new → GivesNext old answer new
gave-on old found new before machine (Ready (Some (Ok entry))) runs come same observer given gave = (machine, come, given-of old found new machine entry same observer given gave)
gave-on old found new before machine (Ready (Some (Err fault))) runs come same observer given gave = ((before, runs), gave.1)
gave-on old found new before machine (Ready None) runs come same observer given gave = absurd gave
gave-on old found new before machine Pending runs come same observer given gave = absurd gave
