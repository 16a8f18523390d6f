-- What workers share may be shared, and a worker may go to another thread.
use denote.Param.Send.{IsSend, IsSync, sendable}
use denote.Param.SendFields.{declared_send, declared_sync, as_row_send, as_row_sync}
use Rattle.std.proofs.Crossing.{crosses}
use Rattle.lio_cells.proofs.ValueCrossing.{entry-send}
use Rattle.lio_runq.specs.declared.rule.Bound.{Ghosts}
use Rattle.lio_runq.proofs.passes.RunPass.TheSendSync as pass
use Rattle.lio_runq.proofs.queue.RunQueue.TheSendSync as queue
use Rattle.lio_table.proofs.Crossing.{seat-send, table-sync}
use mathlib.Core.List.{[], ◌∷◌}
use denote.RattleType.{RattleType}
use mir.Syntax.{Sym}
use denote.Struct.Field.{row_field}
use denote.Struct.Tuple.{TupleAt, type_at}
use Rattle.lio_workers.specs.contracts.shared.Shared as Shared
use Rattle.lio_workers.specs.contracts.worker.Worker as Worker

pub worker-send : (B : RattleType) (bound : Ghosts B.Denot) → IsSend B → IsSend (Worker.the_row B bound)
worker-send B bound send = declared_send (Worker.the_type B bound) (
  search (sendable, crosses, seat-send) depth 100 fits 20000,
  (
    search (sendable, crosses, as_row_send, pass.the_send, send) depth 100 fits 20000,
    (search (sendable, crosses, as_row_send, entry-send) depth 100 fits 20000, (search (sendable, crosses, as_row_send), (search (sendable, crosses, as_row_send), tt))),
  ),
)

pub shared-sync : (B : RattleType) (bound : Ghosts B.Denot) → IsSend B → IsSync B → IsSync (Shared.the_row B bound)
shared-sync B bound send sync = declared_sync (Shared.the_type B bound)
    (search (sendable, crosses, table-sync), (search (sendable, crosses, as_row_sync, queue.the_sync, send, sync) depth 100 fits 20000, tt))

pub captures-sync : (ν : Sym) (R₁ R₂ R₃ R₄ R₅ : RattleType) → IsSync R₁ → IsSync R₂ → IsSync R₃ → IsSync R₄ → IsSync R₅ → IsSync (TupleAt ν (R₁ ∷ R₂ ∷ R₃ ∷ R₄ ∷ R₅ ∷ []))
captures-sync ν R₁ R₂ R₃ R₄ R₅ s₁ s₂ s₃ s₄ s₅ = declared_sync (type_at ν (R₁ ∷ R₂ ∷ R₃ ∷ R₄ ∷ R₅ ∷ []))
    (as_row_sync (row_field R₁) s₁, (as_row_sync (row_field R₂) s₂, (as_row_sync (row_field R₃) s₃, (as_row_sync (row_field R₄) s₄, (as_row_sync (row_field R₅) s₅, tt)))))
