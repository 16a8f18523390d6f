use Rattle.std.proofs.Common.{◌≡◌, arith}
use Rattle.std.proofs.lemmas.Grind.{common_steps}
use Rattle.lio_outside.specs.FileMap.{with_file}
use Rattle.lio_outside.specs.Entries.{files_of}
use Rattle.lio_outside.proofs.EntriesLemmas.{files_of-insert_entry}
use Rattle.lio_outside.proofs.files.NamedFiles.put.Goals as goal

pub returns-in-Ok-clause-ok : goal.returns-in-Ok-clause-ok
returns-in-Ok-clause-ok c =
    let inserted : files_of c.insert.new.self ≡ with_file (files_of c.self.inside.entries) c.in_ok-name.name.items c.in_ok-bytes.bytes.items = files_of-insert_entry c.self.inside.entries c.insert.new.self c.in_ok-name.name c.in_ok-bytes.bytes c.in-Ok.ensures.entries in
    let was : files_of c.self.inside.entries ≡ c.args.self.now = c.self.view_is in
    let name : c.in_ok-name.name.items ≡ c.args.name.now = grind (arith, common_steps) in
    let bytes : c.in_ok-bytes.bytes.items ≡ c.args.bytes.now = grind (arith, common_steps) in
    cc
