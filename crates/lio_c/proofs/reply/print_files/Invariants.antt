use Rattle.std.proofs.Common.{◌≡◌, ◌++◌, take}
use Rattle.lio_c.specs.Answers.{names_and_bytes}
use Rattle.lio_c.specs.Netstrings.{netstrings}
use Rattle.lio_c.proofs.reply.print_files.Given as goal

-- the files so far
abbrev pub invariant-loop-name : goal.invariant-loop-name
invariant-loop-name l = l.out.items ≡ l.initial.out.items ++ netstrings (names_and_bytes l.store (take l.name-index l.names))
