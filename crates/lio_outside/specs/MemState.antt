-- A store and an output in memory whose calls fail by a list of their numbers.
use Rattle.std.specs.Prelude.{ℕ, List, [], ◌++◌, Option, None, Some}
use Rattle.std.specs.Coded.{Coded, code_by, coded×, coded_list, coded_option, coded_ℕ}
use Rattle.std.specs.FinMap as map
use Rattle.std.proofs.Common.{refl}
use Rattle.lio_outside.specs.FileMap.{FileMap, no_files, with_file}
use Rattle.lio_outside.specs.Count.{Faults}
use Rattle.lio_outside.specs.CallsByList.{CallsByList, calls_code, no_calls, with_call, with_failure}

-- a store: its files, its calls, and the name of the last that failed
pub record MemState : Type 0 where
  pub files : FileMap
  pub calls : CallsByList
  pub failed : Option (List ℕ)

abbrev pub mem_state_code : Coded MemState
mem_state_code =
    code_by (FileMap × (CallsByList × Option (List ℕ)))
    (coded× (map.code (coded_list coded_ℕ) (coded_list coded_ℕ)) (coded× calls_code (coded_option (coded_list coded_ℕ))))
    (λ s. (s.files, (s.calls, s.failed)))
    (λ p. record { files = p.0; calls = p.1.0; failed = p.1.1 })
    (λ _. refl)

-- a store without files, of which no call was answered
abbrev pub fresh : List ℕ → MemState
fresh failing = record { files = no_files; calls = no_calls failing; failed = None }

-- the store with one more file
abbrev pub with_mem_file : MemState → List ℕ → List ℕ → MemState
with_mem_file s name bytes = record s { files = with_file s.files name bytes }

-- the store after a call that it carried out
abbrev pub after_call : MemState → MemState
after_call s = record s { calls = with_call s.calls }

-- the store after a call for a name failed: its files are as they were
abbrev pub after_failure : MemState → List ℕ → MemState
after_failure s name = record s { calls = with_failure s.calls; failed = Some name }

-- the faults of a store
abbrev pub mem_faults : MemState → Faults
mem_faults s = record { count = s.calls.faults; last = s.failed }

-- an output: what was said, and its calls
pub record MemSaid : Type 0 where
  pub said : List ℕ
  pub calls : CallsByList

abbrev pub mem_said_code : Coded MemSaid
mem_said_code =
    code_by (List ℕ × CallsByList)
    (coded× (coded_list coded_ℕ) calls_code)
    (λ s. (s.said, s.calls))
    (λ p. record { said = p.0; calls = p.1 })
    (λ _. refl)

-- an output to which nothing was said, of which no call was answered
abbrev pub silent : List ℕ → MemSaid
silent failing = record { said = []; calls = no_calls failing }

-- the output after a call that it carried out
abbrev pub after_saying : MemSaid → List ℕ → MemSaid
after_saying s bytes = record { said = s.said ++ bytes; calls = with_call s.calls }

-- the output after a call that failed: nothing more was said
abbrev pub after_silence : MemSaid → MemSaid
after_silence s = record s { calls = with_failure s.calls }
