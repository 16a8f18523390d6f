use Rattle.std.proofs.Common.{◌≡◌, List, ◌∷◌, [], ◌++◌, ◌∙◌, ap, rules}
use Rattle.std.proofs.lemmas.Fn.{filter_same}
use Rattle.lio_system.specs.KnownFiles.{without}
use Rattle.lio_system.specs.declared.known.KnownFile.{KnownFile}
use Rattle.lio_system.proofs.known.KnownFiles.add_new.Goals as goal

pub returns : goal.returns
returns c =
    let kept : c.retain.new.self.items ≡ without c.args.number c.args.self.now.files.items = filter_same _ _ _ (λ x b f' k. search rules) _ _ c.retain.ensures.filtered in
    record {
      file = c.add.ensures.file;
      name_is = c.add.ensures.name_is;
      number_is = c.add.ensures.number_is;
      added = c.add.ensures.added ∙ ap (λ (files : List KnownFile). files ++ c.add.ensures.file ∷ []) kept;
    }
