-- What a stream has given to its end, as a journal.
use Rattle.std.proofs.Common.{◌≡◌, ◌∙◌, ap, refl, sym, subst, ℕ, ◌+◌, Bool, true, false, List, [], ◌∷◌, map, All, Vec, None, Some, Result, Ok, inl, inr}
use Rattle.std.proofs.lemmas.List.{map-id}
use Rattle.std.proofs.lemmas.List.Elements.{All-cons, All-nil}
use Rattle.std.specs.Prelude.{◌⊎◌}
use Rattle.std.specs.declared.alloc.Global.{Global}
use Rattle.futures.specs.TryRuns.{EndsOrFails}
use Rattle.lio_clauses.specs.declared.faults.NoMemory.{NoMemory}
use Rattle.lio_labels.specs.declared.label.Label.{Label}
use Rattle.lio_labels.specs.Flow.{flows}
use Rattle.lio_values.specs.declared.entry.Entry.{Entry}
use Rattle.lio_events.specs.Rising.{AreRising}
use Rattle.lio_events.specs.Views.{view}
use Rattle.lio_events.proofs.ViewLemmas.{view-none, view-seen, view-unseen}
use Rattle.lio_calculus.specs.Run.{Ran, run}
use Rattle.lio_calculus.specs.Step.{Configuration}
use Rattle.lio_calculus.specs.Journals.{AreNumberedFrom}
use Rattle.lio_calculus.proofs.JournalLemmas.{numbered-rising}
use Rattle.lio_calculus_runs.specs.Rounds.{rounds}
use Rattle.lio_rounds.specs.MachineState.{MachineState}
use Rattle.lio_rounds.specs.Runs.{RunsRounds}
use Rattle.lio_async_rounds.specs.Laws.{IsFreshStream}
use Rattle.lio_async_rounds.specs.ViewStream.{IsEntry, Yields}
use Rattle.lio_async_rounds.specs.declared.view_stream.ViewStream.{ViewStream}
use Rattle.lio_async_rounds.proofs.LawLemmas.{streams_yield_the_view}

-- views are numbered from their first ticket
view-numbered : (observer : Label) (ticket : ℕ) (entries : List Entry) → AreNumberedFrom ticket (view observer ticket entries)
view-numbered observer ticket [] = subst (AreNumberedFrom ticket) (sym (view-none observer ticket)) tt
view-numbered observer ticket (entry ∷ entries) = by (λ n. view-numbered observer n entries) (flows entry.at observer) refl
  where
    by : ((n : ℕ) → AreNumberedFrom n (view observer n entries)) → (seen : Bool) → flows entry.at observer ≡ seen → AreNumberedFrom ticket (view observer ticket (entry ∷ entries))
    by rest true seen = subst (AreNumberedFrom ticket) (sym (view-seen observer ticket entry entries seen)) (refl, rest (ticket + 1))
    by rest false seen = subst (AreNumberedFrom ticket) (sym (view-unseen observer ticket entry entries seen)) (rest ticket)

pub view-rising : (observer : Label) (entries seen : List Entry) → seen ≡ view observer 0 entries → AreRising seen
view-rising observer entries seen is = subst AreRising (sym is) (numbered-rising 0 (view observer 0 entries) (view-numbered observer 0 entries))

-- entries as items
all-entries : (entries : List Entry) → All IsEntry (map Ok entries)
all-entries [] = All-nil IsEntry
all-entries (entry ∷ entries) = All-cons IsEntry (Ok entry) (map Ok entries) tt (all-entries entries)

abbrev as_items : List Entry → List (Result Entry NoMemory)
as_items entries = map Ok entries

same-entries : (xs ys : List Entry) → as_items xs ≡ as_items ys → xs ≡ ys
same-entries [] [] is = refl
same-entries [] (y ∷ ys) is = absurd (cc)
same-entries (x ∷ xs) [] is = absurd (cc)
same-entries (x ∷ xs) (y ∷ ys) is =
    let head : x ≡ y = cc in
    let tail : as_items xs ≡ as_items ys = cc in
    ap (λ (e : Entry). e ∷ xs) head ∙ ap (λ (es : List Entry). y ∷ es) (same-entries xs ys tail)

-- the entries that a stream over the rounds of a configuration has given are what its observer sees of their journal
pub gave-view : (c : Configuration) (stream : ViewStream) (machine : MachineState) (ran : Ran) (items : List (Result Entry NoMemory)) (entries : List Entry) → IsFreshStream stream machine → machine.configuration ≡ c
    → RunsRounds c ran → Yields stream items None → items ≡ map Ok entries → entries ≡ view stream.observer 0 ran.entries
gave-view c stream machine ran items entries fresh first runs yields are =
    let view_of = streams_yield_the_view stream machine items fresh yields (subst (All IsEntry) (sym are) (all-entries entries)) in
    let goes : run 0 c (rounds c) ≡ Some view_of.ran = subst (λ (d : Configuration). run 0 d (rounds d) ≡ Some view_of.ran) first view_of.is_run in
    let both : Some view_of.ran ≡ Some ran = sym goes ∙ runs.is_run in
    let same : view_of.ran ≡ ran = cc in
    same-entries entries (view stream.observer 0 ran.entries) (sym are ∙ view_of.are ∙ ap (λ (r : Ran). map Ok (view stream.observer 0 r.entries)) same)

-- what was gathered of a stream without an error is what its observer sees of the journal
pub tried-view : (c : Configuration) (stream : ViewStream) (machine : MachineState) (ran : Ran) (entries : Vec Entry Global) → IsFreshStream stream machine → machine.configuration ≡ c → RunsRounds c ran
    → EndsOrFails (λ (item : Result Entry NoMemory). item) (Yields stream) (λ (xs : List Entry) (v : Vec Entry Global). v.items ≡ xs) (Ok entries) ⊎ ⊥ → entries.items ≡ view stream.observer 0 ran.entries
tried-view c stream machine ran entries fresh first runs (inl (xs, inl (v, same, both))) =
    let here : entries ≡ v = cc in
    let oks = both.0 in
    let items : oks.items ≡ as_items xs = sym (map-id oks.items) ∙ oks.values in
    ap (λ (w : Vec Entry Global). w.items) here ∙ both.1 ∙ gave-view c stream machine ran oks.items xs fresh first runs oks.came items
tried-view c stream machine ran entries fresh first runs (inl (xs, inr (fault, same, fails))) = absurd (cc)
tried-view c stream machine ran entries fresh first runs (inr failed) = absurd failed
