-- What calls of `read` and `write`, one after another, do to the bytes that a reader has left and a writer holds.
use Rattle.std.proofs.Common.{◌≡◌, ◌≤◌, ◌-◌, ℕ, List, ◌++◌, None, Some, Option, Result, Ok, Err, IfSome, sym, ap, ◌∙◌, subst, append_assoc, length, take, drop, take-append-drop, arith}
use Rattle.std.proofs.lemmas.Grind.{common_steps}
use Rattle.std.proofs.lemmas.List.{take_rest}
use Rattle.std.specs.Io.KnownBytes.{Appends, Consumes, IsAtEnd, Keeps, ReadConsumes, WriteAppends}

-- a read after calls that consumed nothing
pub ReadConsumes-kept : {E : Type 0} (a b c : Option (List ℕ)) (r : Result ℕ E) (buf : List ℕ) → Keeps a b → ReadConsumes b c r buf → ReadConsumes a c r buf
ReadConsumes-kept None b c (Ok n) buf kept read = (tt, read.1)
ReadConsumes-kept None b c (Err e) buf kept read = tt
ReadConsumes-kept (Some xs) None c r buf kept read = absurd kept
ReadConsumes-kept (Some xs) (Some ys) c r buf kept read = subst (λ zs. ReadConsumes (Some zs) c r buf) kept read

-- a write after calls that appended nothing
pub WriteAppends-kept : {E : Type 0} (a b c : Option (List ℕ)) (r : Result ℕ E) (buf : List ℕ) → Keeps a b → WriteAppends b c r buf → WriteAppends a c r buf
WriteAppends-kept None b c (Ok n) buf kept written = tt
WriteAppends-kept None b c (Err e) buf kept written = tt
WriteAppends-kept (Some xs) None c r buf kept written = absurd kept
WriteAppends-kept (Some xs) (Some ys) c r buf kept written = subst (λ zs. WriteAppends (Some zs) c r buf) kept written

-- a flush after a write
pub Appends-kept : (a b c : Option (List ℕ)) (bs : List ℕ) → Appends a b bs → Keeps b c → Appends a c bs
Appends-kept None b c bs appended kept = tt
Appends-kept (Some xs) None c bs appended kept = absurd appended
Appends-kept (Some xs) (Some ys) None bs appended kept = absurd kept
Appends-kept (Some xs) (Some ys) (Some zs) bs appended kept = kept ∙ appended

-- a reader that gave as many bytes as were asked of it gave its first ones
pub front_of_full : (a b : Option (List ℕ)) (bs : List ℕ) (most : ℕ) → Consumes a b bs → length bs ≡ most → IfSome a (λ left. bs ≡ take most left)
front_of_full None b bs most consumed full = tt
front_of_full (Some xs) None bs most consumed full = absurd consumed
front_of_full (Some xs) (Some ys) bs most consumed full = grind (arith, common_steps)

-- a reader at its end gave all its bytes
pub front_of_ended : (a b : Option (List ℕ)) (bs : List ℕ) (most : ℕ) → Consumes a b bs → IsAtEnd b → length bs ≤ most → IfSome a (λ left. bs ≡ take most left)
front_of_ended None b bs most consumed ended within = tt
front_of_ended (Some xs) None bs most consumed ended within = absurd consumed
front_of_ended (Some xs) (Some ys) bs most consumed ended within = grind (arith, common_steps)

-- a write after a write
Appends-then : (a b c : Option (List ℕ)) (bs cs : List ℕ) → Appends a b bs → Appends b c cs → Appends a c (bs ++ cs)
Appends-then None b c bs cs first second = tt
Appends-then (Some xs) None c bs cs first second = absurd first
Appends-then (Some xs) (Some ys) None bs cs first second = absurd second
Appends-then (Some xs) (Some ys) (Some zs) bs cs first second = second ∙ ap (λ left. left ++ cs) first ∙ append_assoc xs bs cs

-- a write of the front of what is left moves that front to what was written
pub Appends-more : (a b c : Option (List ℕ)) (all done rest : List ℕ) (n : ℕ) → all ≡ done ++ rest → Appends a b done → Appends b c (take n rest)
    → (more : List ℕ) × (all ≡ more ++ take (length rest - n) (drop n rest)) × Appends a c more
Appends-more a b c all done rest n split appended written = (
  done ++ take n rest,
  split ∙ ap (λ bs. done ++ bs) (sym (take-append-drop n rest)) ∙ sym (append_assoc done (take n rest) (drop n rest)) ∙ ap (λ bs. (done ++ take n rest) ++ bs) (sym (take_rest rest n)),
  Appends-then a b c done (take n rest) appended written,
)
