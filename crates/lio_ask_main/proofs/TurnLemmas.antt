-- The lines of turns, one behind the other, and the turns that are taken again.
use Rattle.std.proofs.Common.{◌≡◌, ◌∙◌, sym, ap, subst, ℕ, ◌+◌, ◌<◌, arith, List, [], ◌∷◌, ◌++◌, length, get_or, take, append_assoc, append-nil, add-one, All}
use Rattle.std.proofs.Math.Seq.{take-suc}
use Rattle.std.proofs.lemmas.List.{length-take-le}
use Rattle.std.proofs.lemmas.List.Elements.{All-weaker}
use Rattle.lio_values.specs.declared.entry.Entry.{Entry}
use Rattle.lio_task.specs.declared.config.Config.{Config}
use Rattle.lio_task.specs.Logs.{HasSameLogs, IsLaterThanLogs, log_in}
use Rattle.lio_ask_main.specs.Turns.{turn_line, turn_lines}

lines-append : (numbers : List ℕ) (n : ℕ) (xs ys : List Entry) → turn_lines numbers n (xs ++ ys) ≡ turn_lines numbers n xs ++ turn_lines numbers (n + length xs) ys
lines-append numbers n [] ys = ap (λ (m : ℕ). turn_lines numbers m ys) (omega arith)
lines-append numbers n (x ∷ xs) ys =
    ap (λ (rest : List ℕ). turn_line (get_or numbers n 0) x ++ rest) (lines-append numbers (n + 1) xs ys ∙ ap (λ (m : ℕ). turn_lines numbers (n + 1) xs ++ turn_lines numbers m ys) (omega arith))
    ∙ sym (append_assoc (turn_line (get_or numbers n 0) x) (turn_lines numbers (n + 1) xs) (turn_lines numbers (n + length (x ∷ xs)) ys))

take-next : (entries : List Entry) (i : ℕ) (entry : Entry) → i < length entries → entry ≡ get_or entries i entry → take (i + 1) entries ≡ take i entries ++ entry ∷ []
take-next entries i entry below is = ap (λ (n : ℕ). take n entries) (add-one i) ∙ take-suc entries i entry below ∙ ap (λ (e : Entry). take i entries ++ e ∷ []) (sym is)

-- one turn's line more
pub lines-next : (numbers : List ℕ) (entries : List Entry) (i : ℕ) (entry : Entry) (before now : List ℕ) → i < length entries → entry ≡ get_or entries i entry
    → before ≡ turn_lines numbers 0 (take i entries) → now ≡ before ++ turn_line (get_or numbers i 0) entry → now ≡ turn_lines numbers 0 (take (i + 1) entries)
lines-next numbers entries i entry before now below is so_far more =
    let place : 0 + length (take i entries) ≡ i = omega (arith, length-take-le i entries (omega (arith, below))) in
    let line : List ℕ = turn_line (get_or numbers i 0) entry in
    more ∙ ap (λ (b : List ℕ). b ++ line) so_far
    ∙ sym (ap (turn_lines numbers 0) (take-next entries i entry below is) ∙ lines-append numbers 0 (take i entries) (entry ∷ [])
    ∙ ap (λ (m : ℕ). turn_lines numbers 0 (take i entries) ++ turn_lines numbers m (entry ∷ [])) place
    ∙ ap (λ (rest : List ℕ). turn_lines numbers 0 (take i entries) ++ rest) (append-nil line))

-- tickets that are below a number are below the next
below-next : (ticket : ℕ) (entries : List Entry) → All (λ (e : Entry). e.ticket < ticket) entries → All (λ (e : Entry). e.ticket < ticket + 1) entries
below-next ticket entries below = All-weaker (λ (e : Entry). e.ticket < ticket) (λ (e : Entry). e.ticket < ticket + 1) (λ e lt. omega arith) entries below

-- where no turn was taken, all logs are below the next ticket
pub later-still : (old new : Config) (ticket : ℕ) → IsLaterThanLogs old ticket → HasSameLogs old new → IsLaterThanLogs new (ticket + 1)
later-still old new ticket later same n = subst (All (λ (e : Entry). e.ticket < ticket + 1)) (sym (same n)) (below-next ticket (log_in old n) (later n))
