use Rattle.std.proofs.Common.{All}
use Rattle.lio_values.specs.Purity.{IsContentPure}
use Rattle.lio_audit.specs.Asking.{rerun_of}
use Rattle.lio_audit.proofs.AskLemmas.{WalkedTo}
use Rattle.lio_audit.proofs.rerun.Rerun.round.Given as goal

-- the round so far
abbrev pub invariant-loop-i : goal.invariant-loop-i
invariant-loop-i l = record { walked : WalkedTo (rerun_of l.initial.self) (rerun_of l.self) l.moved l.i; pure : All IsContentPure l.self.releases }
