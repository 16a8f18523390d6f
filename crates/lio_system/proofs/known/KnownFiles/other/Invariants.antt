-- None of the files so far is the one that is sought.
use Rattle.std.proofs.Common.{◌≡◌, take, false}
use Rattle.std.specs.List.{list_any}
use Rattle.lio_system.specs.KnownFiles.{is_other}
use Rattle.lio_system.proofs.known.KnownFiles.other.Given as goal

abbrev pub invariant-loop-place : goal.invariant-loop-place
invariant-loop-place l = list_any (is_other l.number l.name) (take l.place l.self.files.items) ≡ false
