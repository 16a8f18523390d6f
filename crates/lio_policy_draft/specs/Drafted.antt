-- Which draft a text is, or the first of rules 1 and 2 that it breaks and the first entry that does.
use Rattle.std.specs.Prelude.{ℕ, ◌&&◌, nat_le, if◌then◌else◌, false, List, length, Option, Some, None, Result, Ok, Err}
use Rattle.std.specs.List.{filter_map}
use Rattle.std.specs.Str.{is_utf8}
use Rattle.serde_json.specs.Data.{Data}
use Rattle.serde_json.specs.Find.{as_str}
use Rattle.serde_json.specs.Read.{read}
use Rattle.lio_policy_draft.specs.Converted.{unmade}
use Rattle.lio_policy_draft.specs.Shape.{Parts, parts_of, file_of, task_of}
use Rattle.lio_policy_draft.specs.Failing.{Failing, blamed, unless_fault}
use Rattle.lio_policy_draft.specs.declared.draft.Draft.{Draft}
use Rattle.lio_policy_draft.specs.declared.fault.PolicyFault.{PolicyFault}
use Rattle.lio_policy_draft.specs.declared.fault.PolicyFault.TheVariants.{Bad}

-- rule 1: a document has at most 1,048,576 bytes of UTF-8, which are JSON
unfoldable pub document_of : List ℕ → Option Data
document_of bytes = if nat_le (length bytes) 1048576 && is_utf8 bytes then read bytes else None

-- rule 2: each value in the lists of the document is of its kind
abbrev pub shape_fails : Parts → Failing
shape_fails p = record {
  document = false;
  principals = unmade as_str p.principals;
  channels = unmade file_of p.channels;
  inputs = unmade file_of p.inputs;
  tasks = unmade (task_of p.version) p.tasks;
}

abbrev pub made_of : Parts → Draft
made_of p = record {
  version = p.version;
  longest = p.longest;
  principals = filter_map as_str p.principals;
  channels = filter_map file_of p.channels;
  inputs = filter_map file_of p.inputs;
  tasks = filter_map (task_of p.version) p.tasks;
}

abbrev pub drafted : Parts → Result Draft PolicyFault
drafted p = unless_fault (blamed 2 (shape_fails p)) (Ok (made_of p))

-- the draft of a document: rule 2 fails at the document where it has not exactly its keys, or a value of another kind
abbrev pub from_parts : Option Parts → Result Draft PolicyFault
from_parts None = Err (Bad 2 0)
from_parts (Some parts) = drafted parts

abbrev pub from_document : Option Data → Result Draft PolicyFault
from_document None = Err (Bad 1 0)
from_document (Some document) = from_parts (parts_of document)

-- the draft that a text is, or its fault
unfoldable pub draft_of : List ℕ → Result Draft PolicyFault
draft_of bytes = from_document (document_of bytes)
