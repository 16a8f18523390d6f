-- The laws of the future and of the stream over a machine that was just made.
use Rattle.std.proofs.Common.{◌≡◌, ◌∙◌, sym, ap, subst, ℕ, List, [], ◌∷◌, ◌++◌, length, drop, map, All, Option, None, Some, Result, Ok, Err}
use Rattle.std.proofs.lemmas.List.Elements.{All-head, All-tail}
use Rattle.lio_clauses.specs.declared.faults.NoMemory.{NoMemory}
use Rattle.lio_values.specs.declared.entry.Entry.{Entry}
use Rattle.lio_events.specs.Views.{view}
use Rattle.lio_calculus.specs.Run.{Ran, run}
use Rattle.lio_calculus.specs.Step.{Configuration}
use Rattle.lio_calculus_runs.proofs.LowEndLemmas.{rounds_are_erased_rounds}
use Rattle.lio_calculus_runs.specs.Rounds.{rounds, rounds_from}
use Rattle.lio_rounds.specs.MachineParts.{machine_of}
use Rattle.lio_rounds.specs.MachineState.{HasRun, MachineState}
use Rattle.lio_async_rounds.specs.Laws.{FuturesGiveTheRun, IsFresh, StreamsYieldTheView, ran_by}
use Rattle.lio_async_rounds.specs.ViewStream.{Come, IsEntry, YieldsOf}

-- what a fresh machine has run is the run of its rounds
fresh-run : (old new : MachineState) → IsFresh old → HasRun old new (rounds_from old.order old.configuration) → run 0 old.configuration (rounds old.configuration) ≡ Some (ran_by new)
fresh-run old new fresh has =
    let c : Configuration = old.configuration in
    let ran : List Entry → Ran = λ es. record { entries = es; last = new.configuration } in
    let added : has.added ≡ new.entries = sym (has.entries ∙ ap (λ (es : List Entry). es ++ has.added) fresh.entries) in
    let here : run 0 c (rounds_from old.order c) ≡ Some (ran has.added) = subst (λ (es : List Entry). run (length es) c (rounds_from old.order c) ≡ Some (ran has.added)) fresh.entries has.is_run in
    ap (λ (order : List ℕ). run 0 c (rounds_from order c)) (sym fresh.order) ∙ here ∙ ap (λ (es : List Entry). Some (ran es)) added

pub futures_give_the_run : FuturesGiveTheRun
futures_give_the_run old new fresh gives = (fresh-run (machine_of old) (machine_of new) fresh gives.has_run, gives.complete)

-- entries that have come to the end, none of them want of memory
come-all : (left : List Entry) (items : List (Result Entry NoMemory)) → Come left items None → All IsEntry items → items ≡ map Ok left
come-all left [] come all = ap (map Ok) (sym come)
come-all [] (Ok entry ∷ items) come all = absurd come
come-all (first ∷ left) (Ok entry ∷ items) come all =
    ap (λ (e : Entry). Ok e ∷ items) come.0 ∙ ap (λ (xs : List (Result Entry NoMemory)). Ok first ∷ xs) (come-all left items come.1 (All-tail IsEntry (Ok entry) items all))
come-all left (Err fault ∷ items) come all = absurd (All-head IsEntry (Err fault) items all)

pub streams_yield_the_view : StreamsYieldTheView
streams_yield_the_view stream machine items fresh yields all =
    let there = subst (λ (m : Option MachineState). YieldsOf stream m items None) fresh.there yields in
    let is = there.1 in
    let goes = fresh-run machine is.last fresh.fresh is.has_run in
    let whole : there.0 ≡ view stream.observer 0 is.last.entries =
    is.left_is ∙ ap (λ (n : ℕ). view stream.observer n (drop stream.next is.last.entries)) fresh.given ∙ ap (λ (n : ℕ). view stream.observer 0 (drop n is.last.entries)) fresh.next in
    record {
      ran = ran_by is.last;
      is_run = goes;
      are = come-all there.0 items there.2 all ∙ ap (map Ok) whole;
      seen = λ sound. rounds_are_erased_rounds stream.observer machine.configuration (ran_by is.last) sound goes;
    }
