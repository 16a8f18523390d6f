-- What threads that take turns at a table borrow may be shared.
use denote.Param.Send.{IsSync}
use denote.Param.SendFields.{declared_sync, as_row_sync}
use mathlib.Core.List.{[], ◌∷◌}
use denote.RattleType.{RattleType}
use mir.Syntax.{Sym}
use denote.Struct.Field.{row_field}
use denote.Struct.Tuple.{TupleAt, type_at}

pub captures-sync : (ν : Sym) (R₁ R₂ R₃ R₄ : RattleType) → IsSync R₁ → IsSync R₂ → IsSync R₃ → IsSync R₄ → IsSync (TupleAt ν (R₁ ∷ R₂ ∷ R₃ ∷ R₄ ∷ []))
captures-sync ν R₁ R₂ R₃ R₄ s₁ s₂ s₃ s₄ = declared_sync (type_at ν (R₁ ∷ R₂ ∷ R₃ ∷ R₄ ∷ []))
    (as_row_sync (row_field R₁) s₁, (as_row_sync (row_field R₂) s₂, (as_row_sync (row_field R₃) s₃, (as_row_sync (row_field R₄) s₄, tt))))
