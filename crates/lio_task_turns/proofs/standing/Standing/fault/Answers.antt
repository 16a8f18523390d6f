use Rattle.std.specs.Prelude.{Result, Ok, Err, IfOk, MatchResult}
use Rattle.std.proofs.Common.{◌≡◌, ap, sym, subst}
use Rattle.lio_labels.specs.declared.label.Label.{Label}
use Rattle.lio_values.specs.declared.fault.Fault.{Fault}
use Rattle.lio_values.specs.declared.fault.FaultKind.{FaultKind}
use Rattle.lio_task_turns.proofs.standing.Standing.fault.Goals as goal

-- what was kept beside what was got
kept_beside : {T U E : Type 0} (got : Result U E) (kept k : T) (u : U)
    → MatchResult got (λ v. ◌≡◌ {A = Result (T × U) E} (Ok (k, u)) (Ok (kept, v))) (λ e. ◌≡◌ {A = Result (T × U) E} (Ok (k, u)) (Err e))
    → (got ≡ Ok u) × (k ≡ kept)
kept_beside {T = T} {U = U} {E = E} (Ok v) kept k u h =
    let e : ◌≡◌ {A = Result (T × U) E} (Ok (k, u)) (Ok (kept, v)) = h in
    let p : ◌≡◌ {A = T × U} (k, u) (kept, v) = cc in
    (ap (λ (w : T × U). Ok w.1) (sym p), ap (λ (w : T × U). w.0) p)
kept_beside {T = T} {U = U} {E = E} (Err e) kept k u h =
    let same : ◌≡◌ {A = Result (T × U) E} (Ok (k, u)) (Err e) = h in absurd (cc)

pub returns : goal.returns
returns c =
    let b = kept_beside c.copy.result c.args.kind c.in_ok-kind.kind c.in_ok-kind.at c.in_ok-kind.ensures in
    subst (λ (kind : FaultKind). IfOk c.new.result (λ (fault : Fault). fault ≡ record { kind = kind; at = c.args.self.now.label.now })) b.1
    (subst (λ (at : Label). IfOk c.new.result (λ (fault : Fault). fault ≡ record { kind = c.in_ok-kind.kind; at = at })) (rw b.0 at c.copy.ensures.ok) c.new.ensures)
