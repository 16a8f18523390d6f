-- Words for the contracts of rounds of the erased calculus that are walked task by task.
use Rattle.std.specs.Prelude.{◌≡◌, ℕ, ◌+◌, ◌≤◌, Bool, true, false, List, [], ◌∷◌, ◌++◌, length, Some, if◌then◌else◌}
use Rattle.lio_labels.specs.declared.label.Label.{Label}
use Rattle.lio_values.specs.declared.value.Content.{Content}
use Rattle.lio_values.specs.declared.entry.Entry.{Entry}
use Rattle.lio_calculus.specs.Erased.{low}
use Rattle.lio_calculus.specs.Run.{low_run}
use Rattle.lio_calculus.specs.Step.{Configuration, can}
use Rattle.lio_calculus.specs.Journals.{actors}
use Rattle.lio_calculus_runs.specs.LowRounds.{LowState, low_rounds_from, low_stepped}
use Rattle.lio_calculus_runs.specs.Round.{Round, born_in, followed, round}
use Rattle.lio_calculus_runs.specs.Rounds.{measure}
use Rattle.lio_erasure.specs.LowParts.{low_of}
use Rattle.lio_erasure.specs.Turn.{LacksRelease}
use Rattle.lio_audit.specs.declared.rerun.Rerun.{Rerun}
use Rattle.lio_audit.specs.declared.view_fault.RerunFault.{RerunFault}
use Rattle.lio_audit.specs.declared.view_fault.RerunFault.TheVariants.{NoRelease, NoMemory}

-- the rounds so far: the observer, the configuration, the contents that are left, the entries of the turns that were taken, and the order of the tasks
pub record RerunState : Type 0 where
  pub observer : Label
  pub configuration : Configuration
  pub contents : List Content
  pub entries : List Entry
  pub order : List ℕ

-- what the code's rounds stand for
abbrev pub rerun_of : Rerun → RerunState
rerun_of rerun = record {
  observer = rerun.low.observer;
  configuration = (low_of rerun.low).configuration;
  contents = rerun.releases;
  entries = rerun.journal;
  order = rerun.order.items;
}

-- The turn of task k was taken; its ticket is the number of entries before it, and who was born comes last in the order.
pub record HasTaken (old new : RerunState) (k : ℕ) (entry : Entry) : Type 0 where
  pub is_step : low old.observer (length old.entries) old.configuration k old.contents ≡ Some (record { entry = entry; next = new.configuration; left = new.contents })
  pub entries : new.entries ≡ old.entries ++ entry ∷ []
  pub order : new.order ≡ old.order ++ born_in entry
  pub observer : new.observer ≡ old.observer

-- a task was asked, and took its turn or can't take one
abbrev pub HasAsked : RerunState → RerunState → ℕ → Bool → Type 0
HasAsked old new k true = (entry : Entry) × HasTaken old new k entry
HasAsked old new k false = (new ≡ old) × (can old.configuration k ≡ false)

-- why a task couldn't be asked: its turn needs a content, and none is left
abbrev pub Lacks : RerunState → ℕ → RerunFault → Type 0
Lacks old k (NoRelease n) = (n ≡ k) × LacksRelease old.observer old.configuration k old.contents
Lacks old k NoMemory = Unit {0}

-- who moves in what is left of a round, and later: where nobody of the round moves, the rounds are over
abbrev pub going : Bool → List ℕ → List ℕ → List ℕ
going true moved later = moved ++ later
going false moved later = followed moved later

-- who takes the turns that are left, in this round, of which these tasks are still to be asked, and in the rounds after it
abbrev pub ahead : Label → Bool → List ℕ → List ℕ → LowState → List ℕ
ahead observer moved rest order s =
    let done : Round LowState = round (low_stepped observer) rest s
    in going moved done.moved (low_rounds_from observer (order ++ done.born) done.after)

-- with more contents than are left
abbrev pub supplied : RerunState → List Content → LowState
supplied state more = record { configuration = state.configuration; contents = state.contents ++ more }

-- Rounds have come from one moment to another, in whose round these tasks are still to be asked, and in which one has moved or not.
pub record HasCome (old new : RerunState) (moved : Bool) (rest : List ℕ) : Type 0 where
  pub added : List Entry
  pub entries : new.entries ≡ old.entries ++ added
  pub is_run : low_run old.observer (length old.entries) old.configuration (actors added) old.contents ≡ Some (record { entries = added; last = new.configuration; left = new.contents })
  -- whatever further contents there were, the rounds would go on like this
  pub goes : (more : List Content) → low_rounds_from old.observer old.order (supplied old more) ≡ actors added ++ ahead old.observer moved rest new.order (supplied new more)
  pub observer : new.observer ≡ old.observer
  pub lower : measure new.configuration + (if moved then 1 else 0) ≤ measure old.configuration

-- In the rounds from a moment a task's turn needs a content, and none is left.
pub record LacksLater (old : RerunState) (k : ℕ) : Type 0 where
  pub added : List Entry
  pub last : Configuration
  pub left : List Content
  pub is_run : low_run old.observer (length old.entries) old.configuration (actors added) old.contents ≡ Some (record { entries = added; last = last; left = left })
  pub lacks : LacksRelease old.observer last k left
  pub begins : (more : List Content) → (later : List ℕ) × (low_rounds_from old.observer old.order (supplied old more) ≡ actors added ++ later)
  pub next : (content : Content) → (later : List ℕ) × (low_rounds_from old.observer old.order (supplied old (content ∷ [])) ≡ actors added ++ k ∷ later)

abbrev pub RoundsSay : RerunState → RerunFault → Type 0
RoundsSay old (NoRelease k) = LacksLater old k
RoundsSay old NoMemory = Unit {0}
