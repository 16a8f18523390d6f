-- The entries of a run of the erased calculus that names only principals that have names.
use Rattle.std.proofs.Common.{◌≡◌, ◌∙◌, sym, subst, ℕ, ◌+◌, List, [], ◌∷◌, Some, All}
use Rattle.std.proofs.lemmas.List.Elements.{All-cons, All-nil}
use Rattle.lio_labels.specs.declared.label.Label.{Label}
use Rattle.lio_values.specs.declared.value.Content.{Content}
use Rattle.lio_values.specs.declared.entry.Entry.{Entry}
use Rattle.lio_values.specs.Purity.{IsContentPure}
use Rattle.lio_events.specs.Printable.{IsPrintable}
use Rattle.lio_calculus.specs.Run.{LowRan, low_run}
use Rattle.lio_calculus.specs.Step.{Configuration}
use Rattle.lio_calculus_runs.specs.Configuration.{NamesOnly}
use Rattle.lio_calculus_runs.specs.NameLaws.{IsContentPrintable}
use Rattle.lio_calculus_runs.proofs.NamedLowTurns.{low_turn_names_only}
use Rattle.lio_calculus_runs.specs.LowRounds.{low_rounds}
use Rattle.lio_audit.specs.Rerun.{AreRoundsOf, CanBePrinted}
use Rattle.lio_audit.proofs.LowRunLemmas.{low-first, low_run-nothing}

pub low_run-printable : (names : List (List ℕ)) (observer : Label) (ticket : ℕ) (c : Configuration) (ks : List ℕ) (contents : List Content) (ran : LowRan)
    → NamesOnly names c → All (IsContentPrintable names) contents → low_run observer ticket c ks contents ≡ Some ran → All (IsPrintable names) ran.entries
low_run-printable names observer ticket c [] contents ran named all is =
    let none : LowRan = record { entries = []; last = c; left = contents } in
    let begun : Some none ≡ Some ran = sym (low_run-nothing observer ticket c contents) ∙ is in
    let same : none ≡ ran = cc in
    subst (λ (r : LowRan). All (IsPrintable names) r.entries) same (All-nil (IsPrintable names))
low_run-printable names observer ticket c (k ∷ ks) contents ran named all is =
    let f = low-first observer ticket c k ks contents ran is in
    let taken = low_turn_names_only names observer ticket c k contents f.turn named all f.is_step in
    subst (λ (r : LowRan). All (IsPrintable names) r.entries) (sym f.is_run)
    (All-cons (IsPrintable names) f.turn.entry f.rest.entries taken.entry (low_run-printable names observer (ticket + 1) f.turn.next ks f.turn.left f.rest taken.next taken.left f.is_rest))

pub rounds-printable : (observer : Label) (c : Configuration) (contents : List Content) (entries : List Entry) (left : List Content) → AreRoundsOf observer c contents entries left → All IsContentPure contents → CanBePrinted c contents entries
rounds-printable observer c contents entries left r pure names named all =
    low_run-printable names observer 0 c (low_rounds observer c contents) contents (record { entries = entries; last = r.last; left = left }) named (λ place d within. (all place d within, pure place d within)) r.is_run
