use Rattle.std.proofs.Common.{◌≡◌, ◌↔◌, Some, None, IfOk, refl, subst}
use Rattle.std.specs.Prelude.{IsErrOf}
use Rattle.lio_outside.specs.declared.store.FetchFault.TheVariants.{Missing}
use Rattle.lio_outside.specs.FileMap.{FileMap, bytes_of}
use Rattle.lio_outside.specs.Fetch.{given}
use Rattle.lio_outside.proofs.sure_store.SureStoreStore.fetch.Goals as goal

pub returns-clause-files_stay : goal.returns-clause-files_stay
returns-clause-files_stay c = refl

pub returns-clause-ok : goal.returns-clause-ok
returns-clause-ok c =
    let P : FileMap → Type 0 = λ files. IfOk c.fetch.result (λ v. given files c.args.name.now c.args.limit ≡ Some v.items) in
    subst P c.self.view_is c.fetch.ensures.ok

pub returns-clause-missing : goal.returns-clause-missing
returns-clause-missing c =
    let P : FileMap → Type 0 = λ files. IsErrOf c.fetch.result Missing ↔ (bytes_of files c.args.name.now ≡ None) in
    subst P c.self.view_is c.fetch.ensures.missing
