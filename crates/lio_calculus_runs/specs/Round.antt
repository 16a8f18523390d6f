-- Rounds over any calculus in which tasks take turns: the round-robin scheduler (LIO, ICFP 2012). An order is data: a list of numbers of tasks.
use Rattle.std.specs.Prelude.{◌≡◌, ◌⊎◌, ℕ, zero, suc, List, [], ◌∷◌, ◌++◌, Option, Some}
use Rattle.std.specs.Option.{option_map_or}
use Rattle.lio_values.specs.declared.act.Act.{Act}
use Rattle.lio_values.specs.declared.act.Act.TheVariants as act
use Rattle.lio_values.specs.declared.entry.Entry.{Entry}

-- a turn of a calculus over states of some type: its entry, and the state after it
pub record Taken (S : Type 0) : Type 0 where
  pub entry : Entry
  pub next : S

-- the task to which an act gave birth at its target
abbrev pub born_at : Act → Option ℕ → List ℕ
born_at (act.Fork birth) (Some n) = n ∷ []
born_at (act.Spawn birth) (Some n) = n ∷ []
born_at asked target = []

-- the task to which a turn gave birth, by its entry
abbrev pub born_in : Entry → List ℕ
born_in entry = born_at entry.act entry.target

-- what a round does: who moved, a filter of its order; who was born in it, in the order in which they were made; and the state after it
pub record Round (S : Type 0) : Type 0 where
  pub moved : List ℕ
  pub born : List ℕ
  pub after : S

-- a round before which a task has moved
abbrev pub moved_first : {S : Type 0} → ℕ → Entry → Round S → Round S
moved_first k entry later = record { moved = k ∷ later.moved; born = born_in entry ++ later.born; after = later.after }

-- one round: each task of the order, as it stood when the round began, takes a turn if it can
unfoldable pub round : {S : Type 0} → (S → ℕ → Option (Taken S)) → List ℕ → S → Round S
round stepped [] s = record { moved = []; born = []; after = s }
round stepped (k ∷ order) s = option_map_or (λ taken. moved_first k taken.entry (round stepped order taken.next)) (stepped s k) (round stepped order s)

-- two rounds, one after the other, as one
abbrev pub joined : {S : Type 0} → Round S → Round S → Round S
joined one two = record { moved = one.moved ++ two.moved; born = one.born ++ two.born; after = two.after }

-- some of the numbers of an order, in its order, each no more often than there
abbrev pub IsFrom : List ℕ → List ℕ → Type 0
IsFrom order [] = Unit {0}
IsFrom [] (k ∷ some) = ⊥
IsFrom (j ∷ order) (k ∷ some) = ((k ≡ j) × IsFrom order some) ⊎ IsFrom order (k ∷ some)

-- the order of the next round: who was born comes last
abbrev pub order_after : {S : Type 0} → List ℕ → Round S → List ℕ
order_after order done = order ++ done.born

-- who moved in a round and later; a round that moved nothing is the last one
abbrev pub followed : List ℕ → List ℕ → List ℕ
followed [] later = []
followed (k ∷ moved) later = k ∷ moved ++ later

-- who takes the turns, in order, in rounds from an order until one moves nothing, in at most so many rounds
unfoldable pub rounds_within : {S : Type 0} → (S → ℕ → Option (Taken S)) → ℕ → List ℕ → S → List ℕ
rounds_within stepped zero order s = []
rounds_within {S} stepped (suc count) order s =
    let done : Round S = round stepped order s
    in followed done.moved (rounds_within stepped count (order_after order done) done.after)
