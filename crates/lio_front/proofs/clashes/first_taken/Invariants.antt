use Rattle.std.proofs.Common.{◌≡◌, take, drop, []}
use Rattle.lio_outside.specs.Taken.{first_taken}
use Rattle.lio_front.specs.Clash.{is_read}
use Rattle.lio_front.proofs.clashes.first_taken.Given as goal

-- none of the names so far is taken
abbrev pub invariant-loop-place : goal.invariant-loop-place
invariant-loop-place l =
    let read = is_read l.read l.policy in
    first_taken read [] l.names ≡ first_taken read (take l.place l.names) (drop l.place l.names)
