-- The steps of a program, as data: what it asks of a store one after another, and how it goes on by each answer. The first step that is refused ends them.
use Rattle.std.specs.Prelude.{ℕ, List, Option, Some, None, Result, Ok, Err}

-- steps that are over, with a value or a refusal, or that ask for the file with a name, at most one byte more than a limit, and go on by the bytes that are there
pub data Steps (A E : Type 0) : Type 0 where
  Over : Result A E → Steps A E
  Ask : List ℕ → ℕ → (Option (List ℕ) → Steps A E) → Steps A E

-- steps that give something, and the steps after them; a refused step ends them
infixl 10 ◌>>=◌
abbrev pub ◌>>=◌ : {A B E : Type 0} → Steps A E → (A → Steps B E) → Steps B E
Over (Ok a) >>= next = next a
Over (Err fault) >>= next = Over (Err fault)
Ask name limit go >>= next = Ask name limit (λ bytes. go bytes >>= next)

-- a fault in other words
abbrev pub told_as : {A E F : Type 0} → (E → F) → Result A E → Result A F
told_as words (Ok a) = Ok a
told_as words (Err fault) = Err (words fault)

-- what is refused where nothing is there
abbrev pub or_refused : {A E : Type 0} → E → Option A → Result A E
or_refused fault None = Err fault
or_refused fault (Some a) = Ok a

-- what is refused where something is there, and else gives a value
abbrev pub unless : {A B E : Type 0} → (A → E) → Option A → B → Result B E
unless fault None b = Ok b
unless fault (Some a) b = Err (fault a)

-- the step that asks for a file, and is refused where no file has the name
abbrev pub asked : {E : Type 0} → E → List ℕ → ℕ → Steps (List ℕ) E
asked missing name limit = Ask name limit (λ bytes. Over (or_refused missing bytes))

-- what steps give where these bytes are there under each name with each limit
abbrev pub outcome : {A E : Type 0} → (List ℕ → ℕ → Option (List ℕ)) → Steps A E → Result A E
outcome there (Over is) = is
outcome there (Ask name limit go) = outcome there (go (there name limit))
