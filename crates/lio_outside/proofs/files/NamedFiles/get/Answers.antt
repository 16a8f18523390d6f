use Rattle.std.proofs.Common.{Some, ◌∙◌, ap, sym}
use Rattle.std.specs.Option.{option_map}
use Rattle.lio_outside.specs.FileMap.{bytes_of}
use Rattle.lio_outside.proofs.EntriesLemmas.{bytes_of-files_of}
use Rattle.lio_outside.proofs.files.NamedFiles.get.Goals as goal

pub returns-in_err-bytes : goal.returns-in_err-bytes
returns-in_err-bytes c =
    ap (option_map (λ bytes. bytes.now)) c.from_residual.ensures
    ∙ ap (option_map (λ v. v.items)) c.in_err-bytes.ensures.value
    ∙ sym (bytes_of-files_of c.self.inside.entries c.args.name.now)
    ∙ ap (λ files. bytes_of files c.args.name.now) c.self.view_is

pub returns : goal.returns
returns c =
    ap Some c.as_slice.ensures.value
    ∙ ap (option_map (λ v. v.items)) c.in_ok-bytes.ensures.value
    ∙ sym (bytes_of-files_of c.self.inside.entries c.args.name.now)
    ∙ ap (λ files. bytes_of files c.args.name.now) c.self.view_is
