-- What a call is to run, and which files it reads and writes.
use Rattle.std.specs.Prelude.{ℕ, ◌≤◌, List, [], ◌∷◌, ◌++◌, Option, None, Some}
use Rattle.std.specs.Option.{option_map}
use Rattle.lio_labels.specs.declared.label.Label.{Label}
use Rattle.lio_values.specs.declared.entry.Entry.{Entry}
use Rattle.lio_events.specs.Views.{view}
use Rattle.lio_outside.specs.Outputs.{Output}
use Rattle.lio_front.specs.Laws.{name_list}
use Rattle.lio_front.specs.Outputs.{outputs}
use Rattle.lio_start.specs.declared.job.Job.{Job}
use Rattle.lio_front.specs.Command.{Command, Mode, Rounds, Workers, Replay, Source, Files, Made}
use Rattle.lio_front.specs.Sorted.{named}
use Rattle.lio_host_main.specs.declared.order.Order as declared
use Rattle.lio_host_main.specs.declared.order.Way as declared_way
use Rattle.lio_host_main.specs.declared.order.Way.TheVariants as way

-- how the turns of a run are taken: in rounds, by so many workers, or as the bytes of a history tell
pub data Way : Type 0 where
  InRounds : Way
  ByWorkers : ℕ → Way
  AsTold : List ℕ → Way

-- the way that the code's stands for
abbrev pub way_of : declared_way.Way → Way
way_of way.InRounds = InRounds
way_of (way.ByWorkers count) = ByWorkers count
way_of (way.AsTold bytes) = AsTold bytes.items

-- there are 1 to 64 workers
abbrev pub IsCountedWay : declared_way.Way → Type 0
IsCountedWay way.InRounds = Unit {0}
IsCountedWay (way.ByWorkers count) = (1 ≤ count) × (count ≤ 64)
IsCountedWay (way.AsTold bytes) = Unit {0}

-- a job, the command that asks for it, the observer of its view, where one is asked for, and how its turns are taken
pub record Order : Type 0 where
  pub job : Job
  pub command : Command
  pub observer : Option Label
  pub way : Way

-- the order that the code's stands for
abbrev pub order_of : declared.Order → Order
order_of order = record { job = order.job; command = named order.command; observer = order.observer; way = way_of order.way }

-- the names of the policy and of the script, where they are files
abbrev pub files_read : Source → List (List ℕ)
files_read (Files policy script) = policy ∷ script ∷ []
files_read (Made size) = []

-- the file of the history that is taken again, where one is
abbrev pub replayed : Mode → Option (List ℕ)
replayed Rounds = None
replayed (Workers count) = None
replayed (Replay file) = Some file

-- the names of the files that a command reads beside the inputs
abbrev pub names_read : Command → List (List ℕ)
names_read command = files_read command.source ++ name_list (replayed command.mode)

-- the file of the view, and the text of the observer's label
abbrev pub view_file : Command → Option (List ℕ)
view_file command = option_map (λ watch. watch.file) command.watch

abbrev pub label_text : Command → Option (List ℕ)
label_text command = option_map (λ watch. watch.label) command.watch

-- the names of the files that a command writes beside the channels'
abbrev pub names_added : Command → List (List ℕ)
names_added command = name_list command.history ++ name_list (view_file command)

-- what an observer sees of a journal, where there is one
abbrev pub seen_by : Option Label → List Entry → List Entry
seen_by None journal = []
seen_by (Some observer) journal = view observer 0 journal

-- the files that an order writes of a journal
abbrev pub written : Order → List Entry → List Output
written order journal = outputs order.job.policy journal order.command.history (view_file order.command) (seen_by order.observer journal)
