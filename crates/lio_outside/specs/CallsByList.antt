-- Calls that fail by a list of their numbers.
use Rattle.std.specs.Prelude.{ℕ, Bool, List, ◌==◌}
use Rattle.std.specs.List.{list_any}
use Rattle.std.specs.Coded.{Coded, code_by, coded×, coded_list, coded_ℕ}
use Rattle.std.proofs.Common.{refl}
use Rattle.lio_outside.specs.Count.{counted}

-- the numbers of the calls that are to fail, how many calls were answered, and how many faults were counted
pub record CallsByList : Type 0 where
  pub failing : List ℕ
  pub answered : ℕ
  pub faults : ℕ

abbrev pub calls_code : Coded CallsByList
calls_code =
    code_by (List ℕ × (ℕ × ℕ))
    (coded× (coded_list coded_ℕ) (coded× coded_ℕ coded_ℕ))
    (λ c. (c.failing, (c.answered, c.faults)))
    (λ p. record { failing = p.0; answered = p.1.0; faults = p.1.1 })
    (λ _. refl)

-- no call was answered
abbrev pub no_calls : List ℕ → CallsByList
no_calls failing = record { failing = failing; answered = 0; faults = 0 }

-- whether the next call is one of those that are to fail
abbrev pub fails_next : CallsByList → Bool
fails_next calls = list_any (λ call. call == calls.answered) calls.failing

-- the calls after one that was carried out
abbrev pub with_call : CallsByList → CallsByList
with_call calls = record calls { answered = counted calls.answered }

-- the calls after one that failed
abbrev pub with_failure : CallsByList → CallsByList
with_failure calls = record calls { answered = counted calls.answered; faults = counted calls.faults }
