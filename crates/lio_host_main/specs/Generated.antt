-- The generated workload: a policy, a script and inputs, as texts.
use Rattle.std.specs.Prelude.{ℕ, ◌+◌, ◌%◌, ◌==◌, List, [], ◌∷◌, ◌++◌, map, codes, decimal, if◌then◌else◌}
use Rattle.std.specs.List.{flat_map, range_with_len}
use Rattle.lio_host_main.specs.declared.workload.made.Made.{Made}

-- what a byte of a pattern stands for at a number: `#` for the number, `@` for that of its owner, one of eight, and each other byte for itself
abbrev pub stands_for : ℕ → ℕ → List ℕ
stands_for number byte = if byte == 35 then decimal number else (if byte == 64 then decimal (number % 8) else byte ∷ [])

-- a pattern at a number
unfoldable pub filled : List ℕ → ℕ → List ℕ
filled pattern number = flat_map (stands_for number) pattern

-- a comma before each item but the first
abbrev pub comma_before : ℕ → List ℕ
comma_before number = if number == 0 then [] else codes ","

-- a pattern at each number below a count, with a comma between two
unfoldable pub listed : List ℕ → ℕ → List ℕ
listed pattern count = flat_map (λ number. comma_before number ++ filled pattern number) (range_with_len 0 count)

-- the policy: eight principals with a channel each, and a count of inputs with a task each, input and task i belonging to principal i mod 8
unfoldable pub policy_text : ℕ → List ℕ
policy_text count =
    codes "{\"version\":1,\"longest\":4096,\"principals\":["
    ++ listed (codes "\"p#\"") 8
    ++ codes "],\"channels\":["
    ++ listed (codes "{\"name\":\"out#\",\"label\":\"p@ %% True\",\"file\":\"out#.txt\"}") 8
    ++ codes "],\"inputs\":["
    ++ listed (codes "{\"name\":\"in#\",\"label\":\"p@ %% True\",\"file\":\"in#.txt\"}") count
    ++ codes "],\"tasks\":["
    ++ listed (codes "{\"name\":\"t#\",\"proc\":\"main\",\"label\":\"True %% True\",\"clearance\":\"p@ %% True\",\"turns\":311,\"cells\":1,\"args\":[{\"input\":\"in#\"},{\"channel\":\"out@\"},{\"label\":\"p@ %% True\"}]}") count
    ++ codes "]}"

-- the script: a task's main procedure forks a child that sends the task's input byte by byte, waits for it and sends one byte more
unfoldable pub script_text : List ℕ
script_text =
    codes "proc main v c l\nfork r l 306 0 child v c\nwait n r\nsend c \".\"\nend\n"
    ++ codes "proc child v c\nunlabel t v\nlet n = len t\nlet i = 0\nlet go = i < n\nwhile go\n"
    ++ codes "let b = t from i\nlet b = b upto 1\nsend c b\nlet i = i + 1\nlet go = i < n\nend\nreturn n\nend\n"

-- input i: (i mod 50) + 1 letters in the order of the alphabet, from letter i mod 26 on and round again
unfoldable pub input_text : ℕ → List ℕ
input_text number = map (λ place. 97 + (number + place) % 26) (range_with_len 0 (number % 50 + 1))

-- the workload of a size
abbrev pub made : ℕ → Made
made count = record { policy = policy_text count; script = script_text; inputs = map input_text (range_with_len 0 count) }
