-- The walk over the words of the command line, which sorts them.
use Rattle.std.specs.Prelude.{ℕ, Bool, true, false, List, [], ◌∷◌, length, take, drop, codes, bytes_eq, ◌==◌, if◌then◌else◌}
use Rattle.lio_front.specs.declared.words.said.Name.{Name}
use Rattle.lio_front.specs.declared.words.said.Name.TheVariants.{History, View, Observer, Make, Workers, Check}
use Rattle.lio_front.specs.declared.words.place.Place.{Place}
use Rattle.lio_front.specs.declared.words.place.Place.TheVariants.{Anywhere, Behind, PlainOnly}

-- what a word says: that plain words alone follow, that an option has the next word as its value, or this one, or nothing: it is a plain word
pub data Said : Type 0 where
  Dashes : Said
  Takes : Name → Said
  Has : Name → List ℕ → Said
  Plain : Said

-- what follows an option's name says: nothing, and the next word is its value, or `=` and the value, or something else
abbrev pub said_behind : Name → List ℕ → Said
said_behind name [] = Takes name
said_behind name (byte ∷ value) = if byte == 61 then Has name value else Plain

-- what a word says that begins with this option, or else another
abbrev pub said_by : List ℕ → Name → List ℕ → Said → Said
said_by text name word else_ = if bytes_eq (take (length text) word) text then said_behind name (drop (length text) word) else else_

-- what a word says
abbrev pub said : List ℕ → Said
said word =
    if bytes_eq word (codes "--") then Dashes
    else said_by (codes "--history") History word
    (said_by (codes "--view") View word
    (said_by (codes "--observer") Observer word
    (said_by (codes "--make") Make word
    (said_by (codes "--workers") Workers word
    (said_by (codes "--check") Check word Plain)))))

-- the words sorted: the plain words and the values of each option, in order, and whether the last option lacks its value
pub record Walked : Type 0 where
  pub plain : List (List ℕ)
  pub histories : List (List ℕ)
  pub views : List (List ℕ)
  pub observers : List (List ℕ)
  pub sizes : List (List ℕ)
  pub counts : List (List ℕ)
  pub checks : List (List ℕ)
  pub lacks : Bool

-- no words
abbrev pub no_words : Walked
no_words = record { plain = []; histories = []; views = []; observers = []; sizes = []; counts = []; checks = []; lacks = false }

-- a plain word before those that follow
abbrev pub with_plain : List ℕ → Walked → Walked
with_plain word w = record w { plain = word ∷ w.plain }

-- an option with its value before the words that follow
abbrev pub with_value : Name → List ℕ → Walked → Walked
with_value History word w = record w { histories = word ∷ w.histories }
with_value View word w = record w { views = word ∷ w.views }
with_value Observer word w = record w { observers = word ∷ w.observers }
with_value Make word w = record w { sizes = word ∷ w.sizes }
with_value Workers word w = record w { counts = word ∷ w.counts }
with_value Check word w = record w { checks = word ∷ w.checks }

-- what a word says, and the words behind it from each place on
abbrev pub walked_by : Said → List ℕ → (Place → Walked) → Walked
walked_by Dashes word rest = rest PlainOnly
walked_by (Takes name) word rest = rest (Behind name)
walked_by (Has name value) word rest = with_value name value (rest Anywhere)
walked_by Plain word rest = with_plain word (rest Anywhere)

-- The words from a place on, from left to right. Before the first `--` that isn't an option's value, a word that is `--` and an option's name takes the next word as its value, and one that goes
-- on by `=` has the rest as its value; all others are plain words.
abbrev pub walked : Place → List (List ℕ) → Walked
walked Anywhere [] = no_words
walked Anywhere (word ∷ words) = walked_by (said word) word (λ place. walked place words)
walked (Behind name) [] = record no_words { lacks = true }
walked (Behind name) (word ∷ words) = with_value name word (walked Anywhere words)
walked PlainOnly [] = no_words
walked PlainOnly (word ∷ words) = with_plain word (walked PlainOnly words)
