use Rattle.lio_host_main.proofs.ViewLemmas.{view_files_are_alike}
use Rattle.lio_host_main.proofs.laws.view_files_are_alike.Goals as goal

pub returns : goal.returns
returns c = view_files_are_alike
