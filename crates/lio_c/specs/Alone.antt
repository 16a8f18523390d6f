-- The words of a call that takes its turns on one thread.
use Rattle.std.specs.Prelude.{ℕ, Bool, true, false, List, [], Option, None, Some, if◌then◌else◌}
use Rattle.lio_front.specs.Command.{Command, Mode, Rounds, Workers, Replay, command_of}

-- whether the turns are taken on one thread
abbrev pub is_alone : Mode → Bool
is_alone Rounds = true
is_alone (Workers count) = false
is_alone (Replay file) = true

-- the words, but none where their command asks for workers
abbrev pub words_by : List (List ℕ) → Option Command → List (List ℕ)
words_by words None = words
words_by words (Some command) = if is_alone command.mode then words else []

-- the words of the host that a call stands for: none where they ask for workers
abbrev pub alone_words : List (List ℕ) → List (List ℕ)
alone_words words = words_by words (command_of words)
