-- Which turn's line stands at the front of bytes.
use Rattle.std.proofs.Common.{◌≡◌, ◌∙◌, sym, ap, subst, ℕ, ◌<◌, ◌^◌, true, false, List, [], ◌∷◌, ◌++◌, length, Some, None, arith}
use Rattle.lio_events.specs.JournalText.{entry_text}
use Rattle.lio_events_reading.specs.Lines.{IsActorOf}
use Rattle.lio_calculus.specs.Step.{Configuration, Turn, can, step}
use Rattle.lio_calculus.specs.Sound.{IsSound}
use Rattle.lio_calculus.proofs.LocalityLemmas.{step_changes_two_cells}
use Rattle.lio_audit.specs.History.{BeginsTurn, Stops}
use Rattle.lio_events_reading.proofs.LineLemmas.{actor_of_line}
use Rattle.lio_audit.proofs.RunLemmas.{still-step, step-has_ticket, step-small}

-- the task of the turn whose line stands there is the one that was read
pub begins-task : (names : List (List ℕ)) (ticket : ℕ) (c : Configuration) (bytes : List ℕ) (k : ℕ) → IsSound c → ticket < 2 ^ 64 → IsActorOf bytes k → (begins : BeginsTurn names ticket c bytes) → k ≡ begins.task
begins-task names ticket c bytes k sound wide finds begins =
    let actor : begins.turn.entry.actor ≡ begins.task = (step_changes_two_cells ticket c begins.task begins.turn begins.is_step).actor in
    let has : begins.turn.entry.ticket ≡ ticket = step-has_ticket ticket c begins.task begins.turn begins.is_step in
    let one : begins.turn.entry.ticket < 2 ^ 64 = subst (λ (n : ℕ). n < 2 ^ 64) (sym has) wide in
    let two : begins.turn.entry.actor < 2 ^ 32 = subst (λ (n : ℕ). n < 2 ^ 32) (sym actor) (step-small ticket c begins.task begins.turn sound.few begins.is_step) in
    actor_of_line bytes k finds names begins.turn.entry begins.rest one two begins.stands ∙ actor

-- a task that can't take a turn has no line there
pub still-begins : (names : List (List ℕ)) (ticket : ℕ) (c : Configuration) (bytes : List ℕ) (k : ℕ) → IsSound c → ticket < 2 ^ 64 → IsActorOf bytes k → can c k ≡ false → BeginsTurn names ticket c bytes → ⊥
still-begins names ticket c bytes k sound wide finds still begins =
    let same : k ≡ begins.task = begins-task names ticket c bytes k sound wide finds begins in
    let none : step ticket c begins.task ≡ None = subst (λ (j : ℕ). step ticket c j ≡ None) same (still-step ticket c k still) in
    let clash : Some begins.turn ≡ None = sym begins.is_step ∙ none in
    absurd (cc)

-- nor has one whose turn has another line
pub other-begins : (names : List (List ℕ)) (ticket : ℕ) (c : Configuration) (bytes : List ℕ) (k : ℕ) (turn : Turn) → IsSound c → ticket < 2 ^ 64 → IsActorOf bytes k → step ticket c k ≡ Some turn
    → ((rest : List ℕ) → bytes ≡ entry_text names true turn.entry ++ rest → ⊥) → BeginsTurn names ticket c bytes → ⊥
other-begins names ticket c bytes k turn sound wide finds steps other begins =
    let same : k ≡ begins.task = begins-task names ticket c bytes k sound wide finds begins in
    let here : step ticket c k ≡ Some begins.turn = subst (λ (j : ℕ). step ticket c j ≡ Some begins.turn) (sym same) begins.is_step in
    let both : Some begins.turn ≡ Some turn = sym here ∙ steps in
    let one : begins.turn ≡ turn = cc in
    other begins.rest (begins.stands ∙ ap (λ (t : Turn). entry_text names true t.entry ++ begins.rest) one)

-- bytes that are there, and at whose front no turn's line stands, stop a history
pub stops-begins : (names : List (List ℕ)) (ticket : ℕ) (c : Configuration) (bytes : List ℕ) → 0 < length bytes → (BeginsTurn names ticket c bytes → ⊥) → Stops names ticket c bytes
stops-begins names ticket c [] some none = absurd (omega arith)
stops-begins names ticket c (byte ∷ bytes) some none = none
