-- A list with one more item.
use Rattle.std.proofs.Common.{ℕ, zero, suc, ◌<◌, ◌≤◌, ◌+◌, ◌++◌, List, [], ◌∷◌, All, slice_index_or, arith}
use Rattle.std.proofs.lemmas.List.Elements.{All-append}
use Rattle.lio_values.specs.declared.entry.Entry.{Entry}

single : {X : Type 0} (P : X → Type 0) (x : X) → P x → All P (x ∷ [])
single P x holds zero d within = holds
single P x holds (suc k) d within = absurd (omega arith)

pub All-with : {X : Type 0} (P : X → Type 0) (xs : List X) (x : X) → All P xs → P x → All P (xs ++ x ∷ [])
All-with P xs x all holds = All-append P xs (x ∷ []) all (single P x holds)

-- the tickets are below the next after an entry's, where that isn't below the next before it
pub below_with : (entries : List Entry) (entry : Entry) (next : ℕ) → All (λ before. before.ticket < next) entries → next ≤ entry.ticket
    → All (λ before. before.ticket < entry.ticket + 1) (entries ++ entry ∷ [])
below_with entries entry next below later =
    let earlier : All (λ (before : Entry). before.ticket < entry.ticket + 1) entries =
    λ k d within. (let one : (slice_index_or entries k d).ticket < next = below k d within in omega arith) in
    let last : entry.ticket < entry.ticket + 1 = omega arith in
    All-with (λ (before : Entry). before.ticket < entry.ticket + 1) entries entry earlier last
