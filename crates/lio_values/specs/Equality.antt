-- What `==` of values, faults and entries says.
use Rattle.std.specs.Prelude.{◌≡◌, Bool, IsTrue, ◌↔◌}

-- a test is true exactly where the two values are equal
abbrev pub IsEquality : {K : Type 0} → (K → K → Bool) → Type 0
IsEquality {K} test = (one other : K) → IsTrue (test one other) ↔ (one ≡ other)
