use Rattle.std.proofs.Common.{◌≡◌, map, take}
use Rattle.lio_rows_commands.proofs.names.begin.Given as goal

-- the list has the names in the fields so far
abbrev pub invariant-loop-name : goal.invariant-loop-name
invariant-loop-name l = l.names ≡ map (λ field. field.items) (take l.name-index l.fields)
