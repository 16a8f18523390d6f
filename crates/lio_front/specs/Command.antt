-- What the words of the command line ask for.
use Rattle.std.specs.Prelude.{ℕ, ◌+◌, ◌-◌, ◌*◌, ◌≤◌, Bool, true, false, not, ◌&&◌, ◌||◌, List, [], ◌∷◌, Option, None, Some, nat_le, ◌==◌, if◌then◌else◌}
use Rattle.std.specs.Option.{option_map}
use Rattle.lio_front.specs.declared.words.place.Place.TheVariants.{Anywhere}
use Rattle.lio_front.specs.Walk.{Walked, walked}

-- what is run: the policy and the script of two files, or a generated workload of a size
pub data Source : Type 0 where
  Files : List ℕ → List ℕ → Source
  Made : ℕ → Source

-- a workload has a size of 1 to 256
abbrev pub IsSized : Source → Type 0
IsSized (Files policy script) = Unit {0}
IsSized (Made size) = (1 ≤ size) × (size ≤ 256)

-- a view: the name of its file, and the text of the observer's label
pub record Watch : Type 0 where
  pub file : List ℕ
  pub label : List ℕ

-- how the turns are taken: in rounds, by so many workers, or in the order of the history in a file
pub data Mode : Type 0 where
  Rounds : Mode
  Workers : ℕ → Mode
  Replay : List ℕ → Mode

-- there are 1 to 64 workers
abbrev pub IsCounted : Mode → Type 0
IsCounted Rounds = Unit {0}
IsCounted (Workers count) = (1 ≤ count) × (count ≤ 64)
IsCounted (Replay file) = Unit {0}

-- what is run, the files of the history and of a view, where they are asked for, and how the turns are taken
pub record Command : Type 0 where
  pub source : Source
  pub history : Option (List ℕ)
  pub watch : Option Watch
  pub mode : Mode

-- whether a word may be a name or a value: it isn't empty and doesn't begin with `-`
abbrev pub is_name : List ℕ → Bool
is_name [] = false
is_name (byte ∷ bytes) = not (byte == 45)

-- whether the values of an option are refused: it comes twice, or a value may be none
abbrev pub are_refused : List (List ℕ) → Bool
are_refused [] = false
are_refused (word ∷ []) = not (is_name word)
are_refused (word ∷ again ∷ words) = true

-- a decimal digit, and one that may stand first
abbrev pub is_digit : ℕ → Bool
is_digit byte = nat_le 48 byte && nat_le byte 57

abbrev pub is_first_digit : ℕ → Bool
is_first_digit byte = nat_le 49 byte && nat_le byte 57

-- a decimal number of at most three digits, without a sign or a zero in front
abbrev pub number_of : List ℕ → Option ℕ
number_of (a ∷ []) = if is_first_digit a then Some (a - 48) else None
number_of (a ∷ b ∷ []) = if is_first_digit a && is_digit b then Some ((a - 48) * 10 + (b - 48)) else None
number_of (a ∷ b ∷ c ∷ []) = if is_first_digit a && is_digit b && is_digit c then Some ((a - 48) * 100 + (b - 48) * 10 + (c - 48)) else None
number_of other = None

-- the number, where it is at most the given one
abbrev pub at_most : ℕ → Option ℕ → Option ℕ
at_most most None = None
at_most most (Some number) = if nat_le number most then Some number else None

-- the size of a generated workload: 1 to 256
abbrev pub size_of : List ℕ → Option ℕ
size_of word = at_most 256 (number_of word)

-- how many workers there are: 1 to 64
abbrev pub count_of : List ℕ → Option ℕ
count_of word = at_most 64 (number_of word)

-- how the turns are taken, by the values of `--workers` and `--check`, of which one at most may be there
abbrev pub mode_of : List (List ℕ) → List (List ℕ) → Option Mode
mode_of [] [] = Some Rounds
mode_of [] (file ∷ files) = Some (Replay file)
mode_of (count ∷ counts) [] = option_map Workers (count_of count)
mode_of (count ∷ counts) (file ∷ files) = None

-- a generated workload, where its size is one
abbrev pub made_of : Option ℕ → Option Source
made_of None = None
made_of (Some size) = Some (Made size)

-- what is run, by the values of `--make` and the plain words: a workload and no plain word, or two names
abbrev pub source_of : List (List ℕ) → List (List ℕ) → Option Source
source_of [] [] = None
source_of [] (policy ∷ []) = None
source_of [] (policy ∷ script ∷ []) = if is_name policy && is_name script then Some (Files policy script) else None
source_of [] (policy ∷ script ∷ word ∷ words) = None
source_of (size ∷ sizes) [] = made_of (size_of size)
source_of (size ∷ sizes) (word ∷ words) = None

-- a view by the values of `--view` and `--observer`: both are there, or none is
abbrev pub watch_of : List (List ℕ) → List (List ℕ) → Option (Option Watch)
watch_of [] [] = Some None
watch_of [] (label ∷ labels) = None
watch_of (file ∷ files) [] = None
watch_of (file ∷ files) (label ∷ labels) = Some (Some (record { file = file; label = label }))

-- the first of words, if there is one
abbrev pub first_of : List (List ℕ) → Option (List ℕ)
first_of [] = None
first_of (word ∷ words) = Some word

-- a command, where there is something to run, a view by both its options or by none, and a way to take the turns
abbrev pub commanded : Option Source → Option (List ℕ) → Option (Option Watch) → Option Mode → Option Command
commanded None history watch mode = None
commanded (Some source) history None mode = None
commanded (Some source) history (Some watch) None = None
commanded (Some source) history (Some watch) (Some mode) = Some (record { source = source; history = history; watch = watch; mode = mode })

-- whether an option lacks its value, comes twice or has a value that may be none
abbrev pub is_wrong : Walked → Bool
is_wrong w = w.lacks || are_refused w.histories || are_refused w.views || are_refused w.observers || are_refused w.sizes || are_refused w.counts || are_refused w.checks

-- the command of sorted words
unfoldable pub command_by : Walked → Option Command
command_by w = if is_wrong w then None else commanded (source_of w.sizes w.plain) (first_of w.histories) (watch_of w.views w.observers) (mode_of w.counts w.checks)

-- the command that the words give, or none where they give none
abbrev pub command_of : List (List ℕ) → Option Command
command_of words = command_by (walked Anywhere words)
