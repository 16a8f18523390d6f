-- Lines as texts of entries.
use Rattle.std.specs.Prelude.{◌≡◌, ℕ, ◌==◌, ◌<◌, ◌≤◌, ◌^◌, Bool, true, false, not, IsTrue, List, ◌++◌, codes, decimal, drop, length}
use Rattle.std.specs.List.{count_by, list_all}
use Rattle.lio_values.specs.declared.act.Act.{Act}
use Rattle.lio_values.specs.declared.act.Reply.{Reply}
use Rattle.lio_values.specs.declared.entry.Entry.{Entry}
use Rattle.lio_events.specs.EntryText.{act_text, reply_text}
use Rattle.lio_events.specs.JournalText.{entry_text}
use Rattle.lio_events_reading.specs.Over.{IsActOver, IsReplyOver, IsEntryOver}
use Rattle.lio_events_reading.specs.Reading.{Ends}

-- no other entry over the names has the line as its text with its ticket
abbrev pub IsOnly : List (List ℕ) → List ℕ → Entry → Type 0
IsOnly names line entry = (other : Entry) → IsEntryOver names other → entry_text names true other ≡ line → other ≡ entry

-- no entry over the names has the line as its text with its ticket
abbrev pub HasNone : List (List ℕ) → List ℕ → Type 0
HasNone names line = (entry : Entry) → IsEntryOver names entry → ¬ (entry_text names true entry ≡ line)

-- A text stands at the front of bytes, and ends at a place.
pub record StandsInFront (text bytes : List ℕ) (len : ℕ) : Type 0 where
  pub splits : bytes ≡ text ++ drop len bytes
  pub len_is : len ≡ length text
  pub within : len ≤ length bytes

-- no other entry over the names with this ticket has its text, without the ticket, at the front of bytes
abbrev pub IsOnlySeen : List (List ℕ) → ℕ → List ℕ → Entry → Type 0
IsOnlySeen names ticket bytes entry = (other : Entry) (rest : List ℕ) → IsEntryOver names other → other.ticket ≡ ticket → bytes ≡ entry_text names false other ++ rest → other ≡ entry

-- no entry over the names with this ticket has its text, without the ticket, at the front of bytes
abbrev pub HasNoneSeen : List (List ℕ) → ℕ → List ℕ → Type 0
HasNoneSeen names ticket bytes = (entry : Entry) (rest : List ℕ) → IsEntryOver names entry → entry.ticket ≡ ticket → ¬ (bytes ≡ entry_text names false entry ++ rest)

-- an act and the reply to it
abbrev pub turn_text : List (List ℕ) → Act × Reply → List ℕ
turn_text names turn = act_text names turn.0 ++ codes " : " ++ reply_text names turn.1

abbrev pub IsTurnOver : List (List ℕ) → Act × Reply → Type 0
IsTurnOver names turn = IsActOver names turn.0 × IsReplyOver names turn.1

-- wherever the number of a ticket, a blank and the number of an actor stand at the front of bytes, and a word may end behind them, this is the actor's; so it is where a line stands there, with its ticket
abbrev pub IsActorOf : List ℕ → ℕ → Type 0
IsActorOf bytes actor = (ticket number : ℕ) (rest : List ℕ) → ticket < 2 ^ 64 → number < 2 ^ 32 → Ends rest → bytes ≡ decimal ticket ++ (codes " " ++ (decimal number ++ rest)) → actor ≡ number

-- a byte that ends no line
abbrev pub ends_no_line : ℕ → Bool
ends_no_line byte = not (byte == 10)

-- A text is one line: a body without a line end, and one line end behind it.
pub record IsOneLine (text : List ℕ) : Type 0 where
  pub body : List ℕ
  pub is : text ≡ body ++ codes "\n"
  pub whole : IsTrue (list_all ends_no_line body)

-- how many line ends stand in bytes
abbrev pub line_ends : List ℕ → ℕ
line_ends bytes = count_by (λ byte. byte == 10) bytes
