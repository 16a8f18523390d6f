-- The table of what a policy lets flow, as it stands in the table for programs (JSON, RFC 8259).
use Rattle.std.specs.Prelude.{◌≡◌, ℕ, ◌+◌, List, [], ◌∷◌, ◌++◌, codes, ◌==◌, if◌then◌else◌}
use Rattle.lio_policy.specs.Flows.{what_may_flow}
use Rattle.lio_policy.specs.Policy.{PolicyParts}
use Rattle.lio_policy.specs.declared.flows.MayFlow.{MayFlow}
use Rattle.lio_policy.specs.declared.flows.MayFlow.TheVariants.{May, OnlyByPrivilege, Never}
use Rattle.lio_policy.specs.declared.policy.FileEntry.{FileEntry}

-- the word of what may flow, in its quotes
abbrev pub flow_word : MayFlow → List ℕ
flow_word Never = codes "\"never\""
flow_word OnlyByPrivilege = codes "\"privilege\""
flow_word May = codes "\"may\""

-- the comma in front of the item at a place
abbrev pub comma : ℕ → List ℕ
comma place = if place == 0 then [] else codes ","

-- items one behind the other, the first of which stands at a place
abbrev pub items_from : {X : Type 0} → (ℕ → X → List ℕ) → ℕ → List X → List ℕ
items_from item place [] = []
items_from item place (x ∷ xs) = item place x ++ items_from item (place + 1) xs

-- what may flow, as the item at a place, and a row of such
abbrev pub flow_item : ℕ → MayFlow → List ℕ
flow_item place flow = comma place ++ flow_word flow

abbrev pub row_items : ℕ → List MayFlow → List ℕ
row_items place row = items_from flow_item place row

-- a row, as the item at a place, and rows
abbrev pub row_item : ℕ → List MayFlow → List ℕ
row_item place row = comma place ++ codes "[" ++ row_items 0 row ++ codes "]"

abbrev pub rows_items : ℕ → List (List MayFlow) → List ℕ
rows_items place rows = items_from row_item place rows

-- the name of a channel or an input in its quotes, as the item at a place, and names of such
abbrev pub name_item : ℕ → FileEntry → List ℕ
name_item place entry = comma place ++ codes "\"" ++ entry.name ++ codes "\""

abbrev pub names_items : ℕ → List FileEntry → List ℕ
names_items place entries = items_from name_item place entries

-- the names of a policy's channels and inputs in its order, a table with a row for each channel and in it a word for each input, and what is told beside it
abbrev pub table_with : PolicyParts → List (List MayFlow) → List ℕ → List ℕ
table_with policy rows beside =
    codes "{\"channels\":[" ++ names_items 0 policy.channels ++ codes "],\"inputs\":[" ++ names_items 0 policy.inputs ++ codes "],\"flows\":[" ++ rows_items 0 rows ++ codes "]" ++ beside

-- a text begins with what a policy lets flow
abbrev pub begins_with : List ℕ → PolicyParts → Type 0
begins_with text policy = (beside : List ℕ) × (text ≡ table_with policy (what_may_flow policy) beside)
