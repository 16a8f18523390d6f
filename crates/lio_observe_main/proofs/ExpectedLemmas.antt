-- The names of principals in the turns of the erased calculus that a view shows.
use Rattle.std.proofs.Common.{◌≡◌, refl, sym, ap, subst, ℕ, suc, ◌+◌, ◌-◌, ◌≤◌, arith, List, All, Result, Ok, Err}
use Rattle.std.specs.Prelude.{IfOk, OnErr}
use Rattle.lio_values.specs.declared.value.Content.{Content}
use Rattle.lio_values.specs.declared.entry.Entry.{Entry}
use Rattle.lio_calculus_runs.specs.NameLaws.{IsContentPrintable}
use Rattle.lio_events.specs.Printable.{IsPrintable}
use Rattle.lio_calculus.specs.Erased.{LowTurn}
use Rattle.lio_calculus.specs.Step.{Configuration}
use Rattle.lio_labels.specs.declared.label.Label.{Label}
use Rattle.lio_observe_main.specs.Expected.{AreTurns, CouldFollow, CouldStand, IsTurn, MovesOn}
use Rattle.lio_observe_main.specs.Claim.{Claim, seen_first}
use Rattle.lio_calculus_runs.specs.Configuration.{NamesOnly}
use Rattle.lio_calculus_runs.proofs.NamedLowTurns.{low_turn_names_only}
use Rattle.lio_erasure.specs.declared.low.LowFault.{LowFault}
use Rattle.lio_erasure.specs.LowParts.{ErasedState}
use Rattle.lio_erasure.specs.Turn.{TakesTurn}

-- what is answered where a task is asked for a turn: its entry can be printed, and what it leaves names only principals that have names
pub record IsTakenNamed (names : List (List ℕ)) (old state : ErasedState) (result : Result Entry LowFault) : Type 0 where
  pub entry : IfOk result (IsPrintable names)
  pub named : NamesOnly names state.configuration
  pub takes : IfOk result (IsTurn old.observer old.configuration state.configuration)
  pub observer : state.observer ≡ old.observer

pub taken-is_named : (names : List (List ℕ)) (k : ℕ) (old new : ErasedState) (before after : List Content) (result : Result Entry LowFault) → NamesOnly names old.configuration → All (IsContentPrintable names) before
    → IfOk result (TakesTurn old new k before after) → OnErr result ((new ≡ old) × (after ≡ before)) → IsTakenNamed names old new result
taken-is_named names k old new before after (Ok entry) named all ok err =
    let turn : LowTurn = record { entry = entry; next = new.configuration; left = after } in
    let taken = low_turn_names_only names old.observer 0 old.configuration k before turn named all ok.turn in
    record { entry = taken.entry; named = taken.next; takes = record { task = k; contents = before; turn = turn; is_step = ok.turn; shows = refl; leads = refl }; observer = ok.observer }
taken-is_named names k old new before after (Err fault) named all ok err =
    record { entry = tt; named = subst (λ (state : ErasedState). NamesOnly names state.configuration) (sym err.0) named; takes = tt; observer = ap (λ (state : ErasedState). state.observer) err.0 }

-- one turn more
pub turns-next : (observer : Label) (number : ℕ) (c middle after : Configuration) → 1 ≤ number → AreTurns observer (number - 1) c middle → MovesOn observer middle after → AreTurns observer (number + 1 - 1) c after
turns-next observer number c middle after some turns moves =
    let more : suc (number - 1) ≡ number + 1 - 1 = omega arith in
    subst (λ (n : ℕ). AreTurns observer n c after) more (middle, turns, moves)

-- by what the observer sees of the first configuration
pub could-stand : (claim : Claim) (texts : List (List ℕ)) (line : ℕ) (text : List ℕ) (names : List (List ℕ)) (observer : Label) (c : Configuration) → names ≡ claim.job.policy.names → observer ≡ claim.observer → c ≡ seen_first claim texts
    → CouldFollow names observer c line text → CouldStand claim texts line text
could-stand claim texts line text names observer c first second third could =
    subst (λ (d : Configuration). CouldFollow claim.job.policy.names claim.observer d line text) third
    (subst (λ (o : Label). CouldFollow claim.job.policy.names o c line text) second (subst (λ (n : List (List ℕ)). CouldFollow n observer c line text) first could))
