-- The erased rounds, walked: they come to their end, or a task lacks a content in them.
use Rattle.std.proofs.Common.{◌≡◌, ◌∙◌, refl, sym, ap, ℕ, zero, suc, ◌≤◌, ◌⊎◌, inl, inr, Bool, true, false, true≢false, List, [], ◌∷◌, ◌++◌, length, Option, Some, None, is_some, arith}
use Rattle.lio_labels.specs.declared.label.Label.{Label}
use Rattle.lio_values.specs.declared.value.Content.{Content}
use Rattle.lio_values.specs.declared.entry.Entry.{Entry}
use Rattle.lio_calculus.specs.Erased.{LowTurn, low}
use Rattle.lio_calculus.specs.Step.{Configuration, can}
use Rattle.lio_calculus.proofs.EnabledLemmas.{low_turns_where_enabled}
use Rattle.lio_calculus_runs.specs.Round.{born_in}
use Rattle.lio_calculus_runs.specs.Rounds.{measure, tasks}
use Rattle.lio_calculus_runs.proofs.LowTurnLemmas.{low-none}
use Rattle.lio_erasure.specs.Turn.{LacksRelease}
use Rattle.lio_audit.specs.Asking.{HasCome, LacksLater, RerunState}
use Rattle.lio_audit.specs.Rerun.{AreRoundsOf, LacksInRounds}
use Rattle.lio_audit.proofs.RerunLemmas.{come-further, come-lacks, come-moves, come-none, come-rounds, come-skips, lacks-further, lacks-rounds}

-- a round is done, in which one has moved or not, or a task lacks a content
abbrev pub RoundEnds : RerunState → Type 0
RoundEnds old = ((new : RerunState) × (moved : Bool) × HasCome old new moved []) ⊎ ((k : ℕ) × LacksLater old k)

-- a task that can take a turn and takes none with these contents has none left
lacks : (observer : Label) (ticket : ℕ) (c : Configuration) (k : ℕ) (contents : List Content) → can c k ≡ true → low observer ticket c k contents ≡ None → LacksRelease observer c k contents
lacks observer ticket c k [] moves none = record { can_move = moves; none_left = refl; no_turn = low-none observer ticket 0 c k [] none }
lacks observer ticket c k (content ∷ contents) moves none =
    absurd (true≢false (sym moves ∙ sym ((low_turns_where_enabled observer ticket c k).supplied content contents) ∙ ap (λ (t : Option LowTurn). is_some t) none))

-- a task of the round is asked, and then those behind it
ask-next : (old now : RerunState) (moved : Bool) (k : ℕ) (rest : List ℕ) → HasCome old now moved (k ∷ rest) → ((next : RerunState) (went : Bool) → HasCome old next went rest → RoundEnds old) → RoundEnds old
ask-next old now moved k rest come behind = by (low now.observer (length now.entries) now.configuration k now.contents) refl
  where
    still : (b : Bool) → can now.configuration k ≡ b → low now.observer (length now.entries) now.configuration k now.contents ≡ None → RoundEnds old
    still true can_move none = inr (k, come-lacks old now moved k rest come (lacks now.observer (length now.entries) now.configuration k now.contents can_move none))
    still false stays none = behind now moved (come-skips old now moved k rest come stays)

    by : (t : Option LowTurn) → low now.observer (length now.entries) now.configuration k now.contents ≡ t → RoundEnds old
    by None none = still (can now.configuration k) refl none
    by (Some turn) takes =
        let next : RerunState = record { observer = now.observer; configuration = turn.next; contents = turn.left; entries = now.entries ++ turn.entry ∷ []; order = now.order ++ born_in turn.entry } in
        behind next true (come-moves old now next moved k rest turn.entry come (record { is_step = takes; entries = refl; order = refl; observer = refl }))

round-ends : (old now : RerunState) (moved : Bool) (rest : List ℕ) → HasCome old now moved rest → RoundEnds old
round-ends old now moved [] come = inl (now, moved, come)
round-ends old now moved (k ∷ rest) come = ask-next old now moved k rest come (λ next went later. round-ends old next went rest later)

-- rounds are over, or a task lacks a content in them
abbrev pub RoundsEnd : RerunState → Type 0
RoundsEnd old = ((new : RerunState) × HasCome old new false []) ⊎ ((k : ℕ) × LacksLater old k)

-- a round, and the rounds after it
round-next : (now : RerunState) → ((new : RerunState) → HasCome now new true [] → RoundsEnd new) → RoundEnds now → RoundsEnd now
round-next now later (inr none) = inr none
round-next now later (inl (new, false, come)) = inl (new, come)
round-next now later (inl (new, true, come)) = by (later new come)
  where
    by : RoundsEnd new → RoundsEnd now
    by (inl last) = inl (last.0, come-further now new last.0 false [] come last.1)
    by (inr none) = inr (none.0, lacks-further now new none.0 come none.1)

-- the measure bounds their number
rounds-end : (most : ℕ) (now : RerunState) → measure now.configuration ≤ most → RoundsEnd now
rounds-end zero now few = round-next now (λ new come. absurd (omega (arith, come.lower, few))) (round-ends now now false now.order (come-none now))
rounds-end (suc most) now few = round-next now (λ new come. rounds-end most new (omega (arith, come.lower, few))) (round-ends now now false now.order (come-none now))

-- the erased rounds with contents come to their end with them, or a task lacks one
pub rounds_come_or_lack : (observer : Label) (c : Configuration) (contents : List Content) → ((entries : List Entry) × (left : List Content) × AreRoundsOf observer c contents entries left) ⊎ ((k : ℕ) × LacksInRounds observer c contents k)
rounds_come_or_lack observer c contents = by (rounds-end (measure c) begun (omega arith))
  where
    begun : RerunState
    begun = record { observer = observer; configuration = c; contents = contents; entries = []; order = tasks c }

    by : RoundsEnd begun → ((entries : List Entry) × (left : List Content) × AreRoundsOf observer c contents entries left) ⊎ ((k : ℕ) × LacksInRounds observer c contents k)
    by (inl done) = inl (done.0.entries, done.0.contents, come-rounds observer c contents begun done.0 done.1 refl refl refl refl refl)
    by (inr none) = inr (none.0, lacks-rounds observer c contents begun none.0 none.1 refl refl refl refl refl)
