-- The last entry of a log, which may be pending.
use Rattle.std.proofs.Common.{◌≡◌, ◌∙◌, refl, sym, ap, ℕ, zero, suc, ◌+◌, ◌-◌, ◌<◌, Bool, true, false, List, [], ◌∷◌, ◌++◌, length, length-append, get_or, take, Option, Some, None, arith}
use Rattle.std.specs.Prelude.{slice_get, slice_set}
use Rattle.lio_values.specs.declared.entry.Entry.{Entry}
use Rattle.lio_cells.specs.declared.state.State.{State}
use Rattle.lio_cells.specs.Log.{HasLast, LogState, pending_of, served_of, with_ticket}

-- a log of its parts
abbrev pub log_of : Option State → Bool → List Entry → LogState
log_of first pending entries = record { first = first; served = served_of pending entries; pending = pending_of pending entries }

-- where there is a last entry it is one
last-some : (es : List Entry) (n : ℕ) → length es ≡ suc n → slice_get es n ≡ None → ⊥
last-some [] n size none = absurd (omega (arith, size))
last-some (x ∷ es) zero size none = absurd (cc)
last-some (x ∷ es) (suc n) size none = last-some es n (omega (arith, size)) none

-- what is served of those that are kept is all of them, where none is pending
served-all : (pending : Bool) (es : List Entry) → HasLast pending es → pending_of pending es ≡ None → served_of pending es ≡ es
served-all true es has none = absurd (last-some es (length es - 1) (let some : 0 < length es = has refl in omega (arith, some)) none)
served-all false es has none = refl

-- behind an entry more
last-at : (es : List Entry) (e : Entry) → length (es ++ e ∷ []) - 1 ≡ length es
last-at es e = let more : length (es ++ e ∷ []) ≡ length es + 1 = length-append es (e ∷ []) in omega (arith, more)

take-front : (es more : List Entry) → take (length es) (es ++ more) ≡ es
take-front [] more = refl
take-front (x ∷ es) more = ap (λ (rest : List Entry). x ∷ rest) (take-front es more)

get-behind : (es : List Entry) (e : Entry) → slice_get (es ++ e ∷ []) (length es) ≡ Some e
get-behind [] e = refl
get-behind (x ∷ es) e = get-behind es e

pub put-last : (log : LogState) (first : Option State) (pending : Bool) (es more : List Entry) (copy entry : Entry) → log_of first pending es ≡ log → HasLast pending es → log.pending ≡ None → more ≡ es ++ copy ∷ [] → copy ≡ entry
    → log_of first true more ≡ record log { pending = Some entry }
put-last log first pending es more copy entry seen has none more_is same =
    let all : served_of pending es ≡ es = served-all pending es has (ap (λ (l : LogState). l.pending) seen ∙ none) in
    let served : served_of true (es ++ copy ∷ []) ≡ log.served = ap (λ (n : ℕ). take n (es ++ copy ∷ [])) (last-at es copy) ∙ take-front es (copy ∷ []) ∙ sym all ∙ ap (λ (l : LogState). l.served) seen in
    let last : pending_of true (es ++ copy ∷ []) ≡ Some entry = ap (slice_get (es ++ copy ∷ [])) (last-at es copy) ∙ get-behind es copy ∙ ap Some same in
    let first_is : first ≡ log.first = ap (λ (l : LogState). l.first) seen in
    ap (log_of first true) more_is ∙ (λ i. record { first = first_is i; served = served i; pending = last i })

-- the last entry
last-is : (es : List Entry) (n : ℕ) (entry other : Entry) → length es ≡ suc n → slice_get es n ≡ Some entry → get_or es n other ≡ entry
last-is [] n entry other size is = absurd (omega (arith, size))
last-is (x ∷ es) zero entry other size is = cc
last-is (x ∷ es) (suc n) entry other size is = last-is es n entry other (omega (arith, size)) is

-- the entries with another last one
set-last : (es : List Entry) (n : ℕ) (new : Entry) → length es ≡ suc n → slice_set es n new ≡ take n es ++ new ∷ []
set-last [] n new size = absurd (omega (arith, size))
set-last (x ∷ []) zero new size = refl
set-last (x ∷ y ∷ es) zero new size = absurd (omega (arith, size))
set-last (x ∷ es) (suc n) new size = ap (λ (rest : List Entry). x ∷ rest) (set-last es n new (omega (arith, size)))

serve-parts : (pending : Bool) (es : List Entry) (entry found other : Entry) (ticket : ℕ) → HasLast pending es → pending_of pending es ≡ Some entry → found ≡ get_or es (length es - 1) other
    → slice_set es (length es - 1) (with_ticket found ticket) ≡ served_of pending es ++ with_ticket entry ticket ∷ []
serve-parts true es entry found other ticket has is found_is =
    let some : 0 < length es = has refl in
    let size : length es ≡ suc (length es - 1) = omega (arith, some) in
    set-last es (length es - 1) (with_ticket found ticket) size ∙ ap (λ (e : Entry). take (length es - 1) es ++ with_ticket e ticket ∷ []) (found_is ∙ last-is es (length es - 1) entry other size is)
serve-parts false es entry found other ticket has is found_is = absurd (cc)

pub serve-last : (log : LogState) (first : Option State) (pending : Bool) (es : List Entry) (entry found other : Entry) (ticket : ℕ) → log_of first pending es ≡ log → HasLast pending es → log.pending ≡ Some entry
    → found ≡ get_or es (length es - 1) other → log_of first false (slice_set es (length es - 1) (with_ticket found ticket)) ≡ record log { served = log.served ++ with_ticket entry ticket ∷ []; pending = None }
serve-last log first pending es entry found other ticket seen has is found_is =
    let served : slice_set es (length es - 1) (with_ticket found ticket) ≡ log.served ++ with_ticket entry ticket ∷ [] =
    serve-parts pending es entry found other ticket has (ap (λ (l : LogState). l.pending) seen ∙ is) found_is ∙ ap (λ (l : LogState). l.served ++ with_ticket entry ticket ∷ []) seen in
    let first_is : first ≡ log.first = ap (λ (l : LogState). l.first) seen in
    λ i. record { first = first_is i; served = served i; pending = None }
