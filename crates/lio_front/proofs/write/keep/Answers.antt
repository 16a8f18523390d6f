use Rattle.std.proofs.Common.{ap, Err, subst, sym, List, [], ◌∷◌, ℕ}
use Rattle.lio_outside.specs.Count.{FailedAt}
use Rattle.lio_outside.specs.Outputs.{Output, StopsAt}
use Rattle.lio_front.proofs.WriteLemmas.{stops-one}
use Rattle.lio_front.proofs.write.keep.Goals as goal

pub returns-in-Err-Failed-clause-err : goal.returns-in-Err-Failed-clause-err
returns-in-Err-Failed-clause-err g c =
    let file : Output = record { name = c.args.file.now; bytes = c.args.bytes.now } in (
      subst (λ (name : List ℕ). StopsAt (g.S.Store.holds c.args.store.now) (g.S.Store.holds c.keep.new.self) (file ∷ []) name) (sym c.in_ok-name.ensures.ok)
          (stops-one (g.S.Store.holds c.args.store.now) (g.S.Store.holds c.keep.new.self) file (c.in-Err-Failed.ensures.failed_partly (ap Err c.in-Err-Failed.field-0-is))),
      subst (λ (name : List ℕ). FailedAt name (g.S.Store.faults c.args.store.now) (g.S.Store.faults c.keep.new.self)) (sym c.in_ok-name.ensures.ok) (c.in-Err-Failed.ensures.failed_counted (ap Err c.in-Err-Failed.field-0-is)),
    )
