-- What a turn makes of an order, and the rounds from an order.
use Rattle.std.proofs.Common.{◌≡◌, refl, sym, ℕ, ◌<◌, ◌≤◌, ◌==◌, ◌||◌, inl, inr, Bool, true, false, true≢false, List, [], ◌∷◌, ◌++◌, length, Option, Some, None, is_some, arith}
use Rattle.std.specs.List.{list_any}
use Rattle.std.proofs.lemmas.Bool.Decides.{nat_tests}
use Rattle.std.proofs.lemmas.Map.Steps.{length-le_from_distinct_below}
use Rattle.lio_calculus.specs.Task.{TaskState}
use Rattle.lio_calculus.specs.Step.{Configuration, Turn, cell_at, step}
use Rattle.lio_calculus.specs.Sound.{IsSound}
use Rattle.lio_calculus_runs.specs.Round.{born_in}
use Rattle.lio_calculus_runs.specs.Rounds.{measure, rounds_from}
use Rattle.lio_calculus_runs.specs.RoundLaws.{IsOrderOf}
use Rattle.lio_calculus_runs.proofs.TurnLemmas.{step-ticket, with_ticket}
use Rattle.lio_calculus_runs.proofs.AfterLemmas.{task-inside}
use Rattle.lio_calculus_runs.proofs.BirthLemmas.{Among}
use Rattle.lio_calculus_runs.proofs.EndLemmas.{Ends, rounds-end}
use Rattle.lio_calculus_runs.proofs.OrderLemmas.{Listing, listing-order, order-listing, turn-listing}

-- a turn keeps an order, with who was born in it
pub turn-keeps_order : (ticket : ℕ) (c : Configuration) (k : ℕ) (turn : Turn) (order : List ℕ) → IsSound c → step ticket c k ≡ Some turn → IsOrderOf c order → IsOrderOf turn.next (order ++ born_in turn.entry)
turn-keeps_order ticket c k turn order sound steps is =
    order-listing turn.next (order ++ born_in turn.entry) (turn-listing c k (with_ticket 0 turn) order sound (step-ticket ticket 0 c k turn steps) (listing-order c order is))

-- rounds from an order run to the end
pub rounds-end_from : (c : Configuration) (order : List ℕ) → IsOrderOf c order → Ends c (rounds_from order c)
rounds-end_from c order is = rounds-end (measure c) order c (omega arith) (listing-order c order is).all

any-among : (q : ℕ) (xs : List ℕ) → list_any (λ k. q == k) xs ≡ true → Among q xs
any-among q [] e = absurd (true≢false (sym e))
any-among q (x ∷ xs) e = by (q == x) refl e (any-among q xs)
  where
    by : (b : Bool) → (q == x) ≡ b → (b || list_any (λ k. q == k) xs) ≡ true → (list_any (λ k. q == k) xs ≡ true → Among q xs) → Among q (x ∷ xs)
    by true same f next = let is : q ≡ x = grind (arith, nat_tests) in inl is
    by false differ f next = inr (next f)

has-task-inside : (c : Configuration) (q : ℕ) → is_some (cell_at c q).task ≡ true → q < length c.cells
has-task-inside c q e = by (cell_at c q).task refl e
  where
    by : (t : Option TaskState) → (cell_at c q).task ≡ t → is_some t ≡ true → q < length c.cells
    by None f g = absurd (true≢false (sym g))
    by (Some task) f g = task-inside c q task f

-- an order has no more numbers than there are cells
pub order-short : (c : Configuration) (order : List ℕ) → IsOrderOf c order → length order ≤ length c.cells
order-short c order is =
    let listing : Listing c order = listing-order c order is in
    length-le_from_distinct_below order (length c.cells) is.once (λ q found. has-task-inside c q (listing.only q (any-among q order found)))
