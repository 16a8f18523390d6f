-- Looking names up among files.
use Rattle.std.proofs.Common.{arith}
use Rattle.std.proofs.lemmas.Cmp.{nat_list_cmp_total}
use Rattle.std.proofs.lemmas.Map.Text.{is_eq-slice_cmp}
use Rattle.std.proofs.lemmas.Slice.Eq.{bytes_eq-Decides}
use Rattle.std.specs.Ordering.{nat_cmp}
use Rattle.std.specs.Cmp.Lexicographic.{slice_cmp}
use Rattle.std.specs.FinMap as map
use Rattle.lio_outside.specs.FileMap.{FindsKept, LeavesOthers, FindsNothing, EqualWhereAlike}

pub bytes_of-with_file_same : FindsKept
bytes_of-with_file_same files name bytes = grind (arith, map.gets, is_eq-slice_cmp, bytes_eq-Decides)

pub bytes_of-with_file_other : LeavesOthers
bytes_of-with_file_other files name bytes other apart = grind (arith, map.gets, is_eq-slice_cmp, bytes_eq-Decides)

pub bytes_of-no_files : FindsNothing
bytes_of-no_files name = map.get-empty (slice_cmp nat_cmp) name

pub same_files : EqualWhereAlike
same_files a b alike = map.same_map nat_list_cmp_total (map.slice_cmp-IsAntisymmetric map.nat_cmp-IsAntisymmetric) a b alike
