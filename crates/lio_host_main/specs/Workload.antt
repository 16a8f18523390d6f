-- A generated workload as the files of a store.
use Rattle.std.specs.Prelude.{ℕ, ◌+◌, List, [], ◌∷◌, ◌++◌, codes, decimal}
use Rattle.lio_outside.specs.FileMap.{FileMap, no_files, with_file}
use Rattle.lio_host_main.specs.Generated.{made}

-- the names of the policy and of the script
abbrev pub policy_name : List ℕ
policy_name = codes "policy"

abbrev pub script_name : List ℕ
script_name = codes "script"

-- the file of an input, by its number
abbrev pub input_name : ℕ → List ℕ
input_name number = codes "in" ++ decimal number ++ codes ".txt"

-- these files, and one for each of these inputs, the first of which has the number
abbrev pub with_inputs : ℕ → List (List ℕ) → FileMap → FileMap
with_inputs number [] files = files
with_inputs number (text ∷ texts) files = with_inputs (number + 1) texts (with_file files (input_name number) text)

-- the files of the workload of a size
unfoldable pub made_files : ℕ → FileMap
made_files size = with_inputs 0 (made size).inputs (with_file (with_file no_files policy_name (made size).policy) script_name (made size).script)
