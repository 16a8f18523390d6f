-- What is known of a text behind its first lines.
use Rattle.std.specs.Prelude.{◌≡◌, List, length}
use Rattle.lio_syntax_lines.specs.declared.line.ParsedLine.{ParsedLine}
use Rattle.lio_syntax.specs.declared.progress.Progress.{Progress}
use Rattle.lio_syntax.specs.Headers.{Knows}
use Rattle.lio_syntax.specs.OpenBlocks.{open_behind}
use Rattle.lio_syntax.specs.Rules.{procedure_count}
use Rattle.lio_syntax.specs.Verdict.{said}

-- the reading stands behind these lines
pub record Stands (progress : Progress) (before : List ParsedLine) : Type 0 where
  pub blocks : progress.blocks ≡ open_behind before
  pub seen : Knows progress.seen before
  pub procedures : progress.procedures ≡ procedure_count before
  pub count : progress.count ≡ length before
  pub lines : progress.lines.items ≡ said before
