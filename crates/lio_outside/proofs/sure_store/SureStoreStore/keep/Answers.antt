use Rattle.std.proofs.Common.{◌≡◌, OnOk, subst}
use Rattle.lio_outside.specs.FileMap.{FileMap, with_file}
use Rattle.lio_outside.proofs.sure_store.SureStoreStore.keep.Goals as goal

pub returns-clause-ok : goal.returns-clause-ok
returns-clause-ok c =
    let P : FileMap → Type 0 = λ files. OnOk c.put.result (c.put.new.self ≡ with_file files c.args.name.now c.args.bytes.now) in
    subst P c.self.view_is c.put.ensures.ok
