use Rattle.std.proofs.Common.{refl}
use Rattle.lio_syntax.specs.OpenBlocks.{open_from}
use Rattle.lio_syntax.specs.Rules.{parameters_of, procedure_count}
use Rattle.lio_syntax.specs.Verdict.{said}
use Rattle.lio_syntax.proofs.progress.Progress.new.Goals as goal

pub returns-clause-start : goal.returns-clause-start
unfolding open_from parameters_of procedure_count said
returns-clause-start c = record {
  blocks = c.new.ensures;
  seen = record { same = c.new-2.ensures };
  procedures = refl;
  count = refl;
  lines = c.new-3.ensures.items;
}
