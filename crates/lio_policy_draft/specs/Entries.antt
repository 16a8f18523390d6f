-- Which thing each entry of a policy's text is, also of a text that breaks a rule: entries are numbered over the lists that are there.
use Rattle.std.specs.Prelude.{ℕ, ◌+◌, List, [], ◌∷◌, codes, Option, Some, None, unwrap_or, slice_get}
use Rattle.serde_json.specs.Data.{Data}
use Rattle.serde_json.specs.Find.{as_str}
use Rattle.lio_policy_draft.specs.Failing.{OfEntries, entries}
use Rattle.lio_policy_draft.specs.Shape.{text_at, items_at}
use Rattle.lio_policy_draft.specs.Drafted.{document_of}
use Rattle.lio_policy_draft.specs.declared.numbering.EntryAt.{EntryAt}
use Rattle.lio_policy_draft.specs.declared.numbering.EntryKind.{EntryKind}
use Rattle.lio_policy_draft.specs.declared.numbering.EntryKind.TheVariants.{Document, Principal, Channel, Input, Task}

-- the items of the list at a key, none where no list is there
abbrev pub list_at : List ℕ → Data → List Data
list_at key d = unwrap_or (items_at key d) []

-- the name of an item: a principal is its name, and other items have it at a key
abbrev pub name_in : EntryKind → Data → Option (List ℕ)
name_in Principal d = as_str d
name_in kind d = text_at (codes "name") d

-- the items of a list, with their places counted from the given one
abbrev pub placed : EntryKind → ℕ → List Data → List EntryAt
placed kind place [] = []
placed kind place (d ∷ ds) = record { kind = kind; place = place; name = name_in kind d } ∷ placed kind (place + 1) ds

abbrev pub whole_document : EntryAt
whole_document = record { kind = Document; place = 0; name = None }

-- the entries of a text: it has the document alone where it is no JSON
unfoldable pub things : Option Data → OfEntries EntryAt
things None = record { document = whole_document; principals = []; channels = []; inputs = []; tasks = [] }
things (Some d) = record {
  document = whole_document;
  principals = placed Principal 1 (list_at (codes "principals") d);
  channels = placed Channel 1 (list_at (codes "channels") d);
  inputs = placed Input 1 (list_at (codes "inputs") d);
  tasks = placed Task 1 (list_at (codes "tasks") d);
}

-- the entry with a number
abbrev pub entry_at : List ℕ → ℕ → Option EntryAt
entry_at bytes number = slice_get (entries (things (document_of bytes))) number
