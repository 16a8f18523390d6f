-- The law of what a run writes.
use Rattle.std.specs.Prelude.{◌≡◌, ◌≢◌, ℕ, true, false, List, [], ◌∷◌, ◌++◌, Option, Some, None, slice_get}
use Rattle.lio_outside.specs.FileMap.{FileMap, bytes_of}
use Rattle.lio_outside.specs.Outputs.{kept}
use Rattle.lio_values.specs.declared.entry.Entry.{Entry}
use Rattle.lio_events.specs.ChannelBytes.{channel_bytes}
use Rattle.lio_events.specs.JournalText.{journal_text}
use Rattle.lio_policy.specs.Policy.{PolicyParts}
use Rattle.lio_policy.specs.declared.policy.FileEntry.{FileEntry}
use Rattle.lio_front.specs.Clash.{clash}
use Rattle.lio_front.specs.Outputs.{outputs}

-- a name, if it is there
abbrev pub name_list : Option (List ℕ) → List (List ℕ)
name_list None = []
name_list (Some name) = name ∷ []

-- a name is none of those that a run writes
pub record IsUnwritten (policy : PolicyParts) (history_file view_file : Option (List ℕ)) (name : List ℕ) : Type 0 where
  pub channels : (number : ℕ) (channel : FileEntry) → slice_get policy.channels number ≡ Some channel → name ≢ channel.file
  pub history : history_file ≢ Some name
  pub view : view_file ≢ Some name

-- each channel's file holds exactly that channel's sends, the history's file the journal, the view's file what is seen, and every other file is as before
pub record HoldsEachFile (policy : PolicyParts) (journal : List Entry) (history_file view_file : Option (List ℕ)) (seen : List Entry) (before now : FileMap) : Type 0 where
  pub channels : (number : ℕ) (channel : FileEntry) → slice_get policy.channels number ≡ Some channel → bytes_of now channel.file ≡ Some (channel_bytes journal number)
  pub history : (file : List ℕ) → history_file ≡ Some file → bytes_of now file ≡ Some (journal_text policy.names true journal)
  pub view : (file : List ℕ) → view_file ≡ Some file → bytes_of now file ≡ Some (journal_text policy.names false seen)
  pub others : (name : List ℕ) → IsUnwritten policy history_file view_file name → bytes_of now name ≡ bytes_of before name

-- where no file that is written is taken, each holds what it is to hold
abbrev pub OutputsHoldEachFile : Type 0
OutputsHoldEachFile = (policy : PolicyParts) (journal : List Entry) (history view : Option (List ℕ)) (seen : List Entry) (read : List (List ℕ)) (before now : FileMap)
    → clash policy (name_list history ++ name_list view) read ≡ None → kept (Some before) (outputs policy journal history view seen) ≡ Some now
    → HoldsEachFile policy journal history view seen before now
