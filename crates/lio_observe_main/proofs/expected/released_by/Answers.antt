use Rattle.std.proofs.Common.{◌≡◌, ◌∙◌, sym, ap, subst, List, [], ◌∷◌, ◌++◌, All}
use Rattle.std.proofs.lemmas.Result.{IfOk-weaker}
use Rattle.std.proofs.lemmas.List.Elements.{All-cons, All-nil}
use Rattle.lio_values.specs.declared.value.Content.{Content}
use Rattle.lio_values.specs.declared.entry.Entry.{Entry}
use Rattle.lio_calculus_runs.specs.NameLaws.{IsContentPrintable}
use Rattle.lio_events.specs.Printable.{IsPrintable}
use Rattle.lio_events.specs.Views.{releases}
use Rattle.lio_calculus_runs.proofs.ContentLemmas.{releases_are_printable}
use Rattle.lio_observe_main.proofs.expected.released_by.Goals as goal

pub returns : goal.returns
returns c =
    let names = c.args.names.now in
    let observer = c.args.observer.now in
    let line : c.push.new.self ≡ c.args.entry ∷ [] = c.in_ok-push.ensures.ok ∙ ap (λ (es : List Entry). es ++ c.args.entry ∷ []) c.new-line.ensures in
    let named : All (IsContentPrintable names) (releases observer c.push.new.self) =
    releases_are_printable names observer c.push.new.self (subst (All (IsPrintable names)) (sym line) (All-cons (IsPrintable names) c.args.entry [] c.requires (All-nil (IsPrintable names)))) in
    IfOk-weaker c.releases-contents.result (λ (contents : List Content). contents ≡ releases observer c.push.new.self) (All (IsContentPrintable names))
    (λ contents is. subst (All (IsContentPrintable names)) (sym is) named) c.releases-contents.ensures
