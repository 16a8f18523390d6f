-- On the text of labels: what is read is derived, what is derived is read, and what is printed is read.
use Rattle.std.proofs.Common.{◌≡◌, ℕ, Bool, true, false, cond, nat_lt, List, length, ◌⊎◌, inl, inr, Ok, Err, le-ltb, sym, ap, ◌∙◌, arith}
use Rattle.lio_clauses.specs.declared.faults.TextFault.{TextFault}
use Rattle.lio_clauses.specs.declared.faults.TextFault.TheVariants.{Wide, NoMemory}
use Rattle.lio_clauses.specs.Canonical.{canonical}
use Rattle.lio_clauses.specs.Width as formula
use Rattle.lio_clauses.specs.FormulaText.{◌>>=◌, narrow, written_two, reading_two}
use Rattle.lio_clauses.proofs.GrammarLemmas.{bind-Ok, read_two_are_derived, derived_two_are_read}
use Rattle.lio_clauses.proofs.PrintedLemmas.{reads_two_printed}
use Rattle.lio_labels.specs.declared.label.Label.{Label}
use Rattle.lio_labels.specs.LabelText.{label_of, reading, ReadIsDerived, DerivedIsRead}
use Rattle.lio_labels.specs.LabelPrint.{label_text, ReadsPrinted}

-- a label is read where its formulas are
pub reading-Ok : (names : List (List ℕ)) (text : List ℕ) (both : List (List ℕ) × List (List ℕ)) → reading_two names text ≡ Ok both → reading names text ≡ Ok (label_of both)
unfolding reading
reading-Ok names text both e = ap (λ r. r >>= λ both. Ok (label_of both)) e

reading-fault : (names : List (List ℕ)) (text : List ℕ) (fault : TextFault) → reading_two names text ≡ Err fault → reading names text ≡ Err fault
unfolding reading
reading-fault names text fault e = ap (λ r. r >>= λ both. Ok (label_of both)) e

pub reading-refused : (names : List (List ℕ)) (text : List ℕ) (fault : TextFault) → (fault ≡ NoMemory) ⊎ (reading_two names text ≡ Err fault) → (fault ≡ NoMemory) ⊎ (reading names text ≡ Err fault)
reading-refused names text fault (inl want) = inl want
reading-refused names text fault (inr e) = inr (reading-fault names text fault e)

narrow-Ok : (A B : List (List ℕ)) → narrow A ≡ Ok B → canonical A ≡ B
narrow-Ok A B e = by (nat_lt 64 (length (canonical A))) e
  where
    by : (b : Bool) → cond b (Err Wide) (Ok (canonical A)) ≡ Ok B → canonical A ≡ B
    by true e = cc
    by false e = cc

narrow-few : (A : List (List ℕ)) → ¬ formula.IsWide (canonical A) → narrow A ≡ Ok (canonical A)
narrow-few A few = ap (λ b. cond b (Err Wide) (Ok (canonical A))) (le-ltb 64 (length (canonical A)) (omega (arith, few)))

pub read_is_derived : ReadIsDerived
unfolding reading reading_two
read_is_derived names text l e =
    let p = bind-Ok (reading_two names text) (λ both. Ok (label_of both)) l e in
    let q = bind-Ok (written_two names text) (λ both. narrow both.0 >>= λ A. narrow both.1 >>= λ B. Ok (A, B)) p.0 p.1 in
    let u = bind-Ok (narrow q.0.0) (λ A. narrow q.0.1 >>= λ B. Ok (A, B)) p.0 q.2 in
    let v = bind-Ok (narrow q.0.1) (λ B. Ok (u.0, B)) p.0 u.2 in
    let both : p.0 ≡ (u.0, v.0) = let last = v.2 in cc in
    let label : l ≡ label_of p.0 = let last = p.2 in cc in
    let parts : List (List ℕ) → List (List ℕ) → Label = λ A B. record { secrecy = A; integrity = B } in (
      q.0,
      read_two_are_derived names text q.0 q.1,
      label ∙ ap label_of both ∙ ap (λ A. parts A v.0) (sym (narrow-Ok q.0.0 u.0 u.1)) ∙ ap (parts (canonical q.0.0)) (sym (narrow-Ok q.0.1 v.0 v.1)),
    )

pub derived_is_read : DerivedIsRead
unfolding reading_two
derived_is_read names text both d few =
    reading-Ok names text (canonical both.0, canonical both.1)
    (ap (λ r. r >>= λ both. narrow both.0 >>= λ A. narrow both.1 >>= λ B. Ok (A, B)) (derived_two_are_read names text both d)
    ∙ ap (λ r. r >>= λ A. narrow both.1 >>= λ B. Ok (A, B)) (narrow-few both.0 (λ w. few (inl w)))
    ∙ ap (λ r. r >>= λ B. Ok (canonical both.0, B)) (narrow-few both.1 (λ w. few (inr w))))

-- reading the text of a label gives the label
pub printed_is_read : ReadsPrinted
printed_is_read names l known label named =
    reading-Ok names (label_text names l) (l.secrecy, l.integrity)
    (reads_two_printed names l.secrecy l.integrity known label.secrecy label.integrity (λ w. label.narrow (inl w)) (λ w. label.narrow (inr w)) named.0 named.1)
