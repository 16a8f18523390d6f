use Rattle.std.proofs.Common.{◌≡◌, IfOk, ◌∙◌, ap, subst, sym}
use Rattle.lio_labels.specs.declared.label.Label.{Label}
use Rattle.lio_values.specs.declared.act.Act.{Act}
use Rattle.lio_values.specs.declared.act.Act.TheVariants.{Expose, Release}
use Rattle.lio_values.specs.Erasure.{erase_content, erase_act}
use Rattle.lio_values.proofs.act.Act.erase.Goals as goal

pub returns-in_ok-content-in-Release : goal.returns-in_ok-content-in-Release
returns-in_ok-content-in-Release c =
    let P : Act → Type 0 = λ v. IfOk c.released.result (λ act. act ≡ v) in
    let seen = c.in_ok-content-in-Release.ensures ∙ ap (λ (label : Label). erase_content c.args.observer.now label c.in-Release.content) c.get.ensures in
    subst P
    (ap (Release c.in-Release.source c.in-Release.target c.in-Release.power) seen ∙ ap (erase_act c.args.observer.now) (sym c.in-Release.is))
    c.released.ensures

pub returns-in_ok-seen-in-Expose : goal.returns-in_ok-seen-in-Expose
returns-in_ok-seen-in-Expose c =
    let P : Act → Type 0 = λ v. IfOk c.exposed.result (λ act. act ≡ v) in
    let seen = c.in_ok-seen-in-Expose.ensures ∙ ap (λ (label : Label). erase_content c.args.observer.now label c.in-Expose.content) c.get-in-Expose.ensures in
    subst P
    (ap (Expose c.in-Expose.source c.in-Expose.target c.in-Expose.power) seen ∙ ap (erase_act c.args.observer.now) (sym c.in-Expose.is))
    c.exposed.ensures
