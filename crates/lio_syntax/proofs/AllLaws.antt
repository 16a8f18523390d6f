-- The laws of this crate in one set, for the functions whose contracts they are.
use Rattle.lio_syntax.proofs.LawLemmas.{text_has_one_script, placed_lines_are_of_scripts}
use Rattle.lio_syntax.proofs.ClosingLemmas.{end_is_behind_block}

pub ruleset laws = (text_has_one_script, placed_lines_are_of_scripts, end_is_behind_block)
