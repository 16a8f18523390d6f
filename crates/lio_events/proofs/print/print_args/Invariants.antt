use Rattle.std.proofs.Common.{◌≡◌, ◌++◌, take}
use Rattle.lio_events.specs.EntryText.{args_text}
use Rattle.lio_events.proofs.print.print_args.Given as goal

-- the arguments so far stand behind what was there
abbrev pub invariant-loop-arg : goal.invariant-loop-arg
invariant-loop-arg l = l.out.items ≡ l.fn.out.items ++ args_text l.names (take l.arg-index l.args)
