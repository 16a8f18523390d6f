-- Which tasks of the erased calculus can take a turn.
use Rattle.std.specs.Prelude.{Bool, true, ◌&&◌, Option, None, Some, is_some}
use Rattle.lio_values.specs.declared.value.Handle.{Handle}
use Rattle.lio_cells.specs.declared.wish.Wish.{Wish}
use Rattle.lio_cells.specs.State.{grants, is_reference}
use Rattle.lio_calculus.specs.Plan.{Plan}
use Rattle.lio_calculus.specs.Step.{Configuration, cell_at, has_label, move_of}

-- whether a plan can be carried out at once
abbrev pub moves_at : Configuration → Plan → Bool
moves_at c p = is_some (move_of (cell_at c) p)

-- whether the node that a handle names is there and gives what an access wishes for; without a handle nothing is waited for
abbrev pub gives : Configuration → Wish → Option Handle → Bool
gives c wish None = true
gives c wish (Some handle) = has_label (cell_at c handle.number).state handle.label && grants (cell_at c handle.number).state wish

-- whether the reference that a handle names is there
abbrev pub shows_reference : Configuration → Option Handle → Bool
shows_reference c None = true
shows_reference c (Some handle) = has_label (cell_at c handle.number).state handle.label && is_reference (cell_at c handle.number).state
