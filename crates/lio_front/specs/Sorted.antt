-- What the code's words and commands stand for.
use Rattle.std.specs.Prelude.{◌≡◌, ℕ, true, false, List, [], ◌∷◌, ◌++◌, All, IsTrue, map, Option, None, Some, String, string_bytes}
use Rattle.std.specs.Option.{option_map}
use Rattle.lio_front.specs.declared.words.said.Said as declared_said
use Rattle.lio_front.specs.declared.words.said.Said.TheVariants as says
use Rattle.lio_front.specs.declared.words.sorted.Plain as declared_plain
use Rattle.lio_front.specs.declared.words.sorted.Plain.TheVariants as plain
use Rattle.lio_front.specs.declared.words.sorted.Sorted as declared_sorted
use Rattle.lio_front.specs.declared.words.command.Command as declared_command
use Rattle.lio_front.specs.declared.words.command.Mode as declared_mode
use Rattle.lio_front.specs.declared.words.command.Mode.TheVariants as mode
use Rattle.lio_front.specs.declared.words.command.Source as declared_source
use Rattle.lio_front.specs.declared.words.command.Source.TheVariants as source
use Rattle.lio_front.specs.declared.words.command.Watch as declared_watch
use Rattle.lio_front.specs.Walk.{Said, Dashes, Takes, Has, Plain, Walked}
use Rattle.lio_front.specs.Command.{Command, Mode, Rounds, Workers, Replay, Source, Files, Made, Watch, are_refused, is_name}

-- what a word says
abbrev pub said_of : declared_said.Said → Said
said_of says.Dashes = Dashes
said_of (says.Takes name) = Takes name
said_of (says.Has name value) = Has name value.now
said_of says.Plain = Plain

-- the plain words so far
abbrev pub plain_of : declared_plain.Plain → List (List ℕ)
plain_of plain.Nothing = []
plain_of (plain.One first) = first.now ∷ []
plain_of (plain.Two first second) = first.now ∷ second.now ∷ []

-- a word, if there is one
abbrev pub word_list : Option (List ℕ) → List (List ℕ)
word_list None = []
word_list (Some word) = word ∷ []

-- the words that are sorted so far
abbrev pub sorted_of : declared_sorted.Sorted → Walked
sorted_of s = record {
  plain = plain_of s.plain;
  histories = word_list (option_map (λ word. word.now) s.history);
  views = word_list (option_map (λ word. word.now) s.view);
  observers = word_list (option_map (λ word. word.now) s.observer);
  sizes = word_list (option_map (λ word. word.now) s.size);
  counts = word_list (option_map (λ word. word.now) s.workers);
  checks = word_list (option_map (λ word. word.now) s.check);
  lacks = false;
}

-- a word may not be the value of an option behind one that may have come
abbrev pub MayNotCome : Option (List ℕ) → List ℕ → Type 0
MayNotCome so_far word = (words : List (List ℕ)) → are_refused (word_list so_far ++ word ∷ words) ≡ true

-- words before those that follow
abbrev pub before : Walked → Walked → Walked
before w rest = record {
  plain = w.plain ++ rest.plain;
  histories = w.histories ++ rest.histories;
  views = w.views ++ rest.views;
  observers = w.observers ++ rest.observers;
  sizes = w.sizes ++ rest.sizes;
  counts = w.counts ++ rest.counts;
  checks = w.checks ++ rest.checks;
  lacks = rest.lacks;
}

-- each of these words may be a name or a value
pub record AreNames (w : Walked) : Type 0 where
  pub plain : All (λ word. IsTrue (is_name word)) w.plain
  pub histories : All (λ word. IsTrue (is_name word)) w.histories
  pub views : All (λ word. IsTrue (is_name word)) w.views
  pub observers : All (λ word. IsTrue (is_name word)) w.observers
  pub sizes : All (λ word. IsTrue (is_name word)) w.sizes
  pub counts : All (λ word. IsTrue (is_name word)) w.counts
  pub checks : All (λ word. IsTrue (is_name word)) w.checks

-- what is run
abbrev pub source_named : declared_source.Source → Source
source_named (source.Files policy script) = Files policy.now script.now
source_named (source.Made size) = Made size

-- a view
abbrev pub watch_named : declared_watch.Watch → Watch
watch_named watch = record { file = watch.file.now; label = watch.label.now }

-- how the turns are taken
abbrev pub mode_named : declared_mode.Mode → Mode
mode_named mode.Rounds = Rounds
mode_named (mode.Workers count) = Workers count
mode_named (mode.Replay file) = Replay file.now

-- the command that the words name
abbrev pub named : declared_command.Command → Command
named command = record {
  source = source_named command.source;
  history = option_map (λ file. file.now) command.history;
  watch = option_map watch_named command.view;
  mode = mode_named command.mode;
}

-- the bytes of words
abbrev pub bytes_of_words : {A : Type 0} → List (String A) → List (List ℕ)
bytes_of_words words = map string_bytes words
