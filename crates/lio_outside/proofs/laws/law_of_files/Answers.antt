use Rattle.lio_outside.proofs.FileMapLemmas.{bytes_of-with_file_same, bytes_of-with_file_other, bytes_of-no_files, same_files}
use Rattle.lio_outside.proofs.laws.law_of_files.Goals as goal

pub returns : goal.returns
returns c = record {
  finds_kept = bytes_of-with_file_same;
  leaves_others = bytes_of-with_file_other;
  finds_nothing = bytes_of-no_files;
  equal_where_alike = same_files;
}
