use Rattle.std.proofs.Common.{◌≡◌, true, List, [], ◌∷◌, ◌++◌, sym, subst}
use Rattle.lio_system.specs.KnownFiles.{is_known}
use Rattle.lio_system.specs.declared.known.KnownFile.{KnownFile}
use Rattle.lio_system.proofs.KnownLemmas.{is_known-added}
use Rattle.lio_system.proofs.disk_store.remember.Goals as goal

pub returns-then-not-has-clause-known : goal.returns-then-not-has-clause-known
returns-then-not-has-clause-known c =
    let old : List KnownFile = c.args.known.now.files.items in
    let file : KnownFile = c.add.ensures.file in
    let there : is_known (old ++ file ∷ []) c.args.number c.args.name.items ≡ true =
    subst (λ number. is_known (old ++ file ∷ []) number c.args.name.items ≡ true) c.add.ensures.number_is
    (subst (λ name. is_known (old ++ file ∷ []) file.number name ≡ true) c.add.ensures.name_is (is_known-added old file)) in
    subst (λ (files : List KnownFile). is_known files c.args.number c.args.name.items ≡ true) (sym c.add.ensures.added) there
