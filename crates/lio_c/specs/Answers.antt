-- What a call between bytes says.
use Rattle.std.specs.Prelude.{◌≡◌, ℕ, List, [], ◌∷◌, Option, None, Some}
use Rattle.lio_values.specs.declared.entry.Entry.{Entry}
use Rattle.lio_outside.specs.FileMap.{FileMap, bytes_of}
use Rattle.lio_outside.specs.Call.{Outside}
use Rattle.lio_outside.specs.Count.{no_faults}
use Rattle.lio_front.specs.Command.{Command, command_of}
use Rattle.lio_front.specs.Clash.{names_written}
use Rattle.lio_front.specs.Status.{exit_status}
use Rattle.lio_front.specs.declared.status.Status.{Status}
use Rattle.lio_front.specs.declared.status.Status.TheVariants.{Done, ReadFault, WriteFault, SayFault}
use Rattle.lio_start.specs.declared.job.Job.{Job}
use Rattle.lio_host_main.specs.Order.{Order, names_added}
use Rattle.lio_host_main.specs.Verdict.{IsVerdict}
use Rattle.lio_host_main.specs.Answers.{Call, EndsWith}
use Rattle.lio_c.specs.Alone.{alone_words}
use Rattle.lio_c.specs.Bundle.{AreFiles}
use Rattle.lio_c.specs.Netstrings.{netstrings}

-- files and an output in memory, to which bytes were said
abbrev pub in_memory : FileMap → List ℕ → Outside
in_memory files said = record { told = Some files; faults = no_faults; said = Some said; say_faults = 0 }

-- the call of the host by words, over files in memory: the files after it, what was said, and the journal
abbrev pub memory_call : List (List ℕ) → FileMap → FileMap → List ℕ → List Entry → Call
memory_call words files after said journal = record { words = alone_words words; before = in_memory files []; after = in_memory after said; journal = journal }

-- bytes, or none where nothing is there
abbrev pub or_none : Option (List ℕ) → List ℕ
or_none None = []
or_none (Some bytes) = bytes

-- each of these names with the bytes under it
abbrev pub names_and_bytes : FileMap → List (List ℕ) → List (List ℕ)
names_and_bytes files [] = []
names_and_bytes files (name ∷ names) = name ∷ or_none (bytes_of files name) ∷ names_and_bytes files names

-- the names of the files that a run of a job writes by the command of words, where all was done; else none
abbrev pub AreNamed : List (List ℕ) → Status → Option Job → List (List ℕ) → Type 0
AreNamed words Done None names = ⊥
AreNamed words Done (Some job) names = (command : Command) × (command_of words ≡ Some command) × (names ≡ names_written job.policy (names_added command))
AreNamed words other job names = names ≡ []

-- the names of the files that the verdict on words writes, where all was done; else none
abbrev pub AreWritten : FileMap → List (List ℕ) → Status → List (List ℕ) → Type 0
AreWritten files words Done names = (order : Order) × IsVerdict (Some files) words order × (names ≡ names_written order.job.policy (names_added order.command))
AreWritten files words other names = names ≡ []

-- no answer of a file that couldn't be read or written, or of an output that couldn't be
abbrev pub IsSure : Status → Type 0
IsSure (ReadFault name) = ⊥
IsSure (WriteFault name) = ⊥
IsSure SayFault = ⊥
IsSure other = Unit {0}

-- The reply to words over files: the answer of the host says all that it is to say, and the reply has, as netstrings, what was said, a message, and each file that was written with the bytes that it has.
pub record Replies (words : List (List ℕ)) (files : FileMap) (status : Status) (reply : List ℕ) : Type 0 where
  pub after : FileMap
  pub said : List ℕ
  pub message : List ℕ
  pub names : List (List ℕ)
  pub ends : EndsWith (memory_call words files after said) status (exit_status status)
  pub sure : IsSure status
  pub written : AreWritten files (alone_words words) status names
  pub reply_is : reply ≡ netstrings (said ∷ message ∷ names_and_bytes after names)

-- the reply to the bytes of words and of files
pub record Answers (words files : List ℕ) (status : Status) (reply : List ℕ) : Type 0 where
  pub items : List (List ℕ)
  pub given : FileMap
  pub words_are : words ≡ netstrings items
  pub files_are : AreFiles files given
  pub replies : Replies items given status reply
