use Rattle.std.proofs.Common.{◌≡◌, ◌∙◌, refl, sym, ap, subst, List, ◌∷◌, All, Some, inl, inr}
use Rattle.std.proofs.lemmas.List.Elements.{All-tail}
use Rattle.lio_values.specs.declared.value.Content.{Content}
use Rattle.lio_values.specs.declared.act.Act.{Act}
use Rattle.lio_values.specs.declared.act.Reply.{Reply}
use Rattle.lio_values.specs.Purity.{IsContentPure}
use Rattle.lio_calculus.specs.Erased.{Opened, opened}
use Rattle.lio_calculus.proofs.Lists.{All-slice_get}
use Rattle.lio_erasure.specs.Acts.{lacks_content}
use Rattle.lio_erasure.specs.LowParts.{LowParts, low_of}
use Rattle.lio_erasure.specs.Turn.{Moves}
use Rattle.lio_erasure.proofs.ContentLemmas.{front-taken, none-left}
use Rattle.lio_erasure.proofs.TurnLemmas.{act-move, lacks-release, takes-turn, told-opens, untold-opens}
use Rattle.lio_erasure.proofs.low.Low.release.Goals as goal

pub own-requires : goal.own-requires
own-requires c = record { task = c.requires.plans.task; is = c.requires.plans.is; planned = c.args.act; onward = c.requires.plans.onward; plans = c.requires.plans.plans; told = inl refl }

pub own-requires-in-Ok-Some : goal.own-requires-in-Ok-Some
own-requires-in-Ok-Some c = record {
  task = c.requires.plans.task;
  is = c.requires.plans.is;
  planned = c.args.act;
  onward = c.requires.plans.onward;
  plans = c.requires.plans.plans;
  told = inr (c.in-Ok-Some.content, All-slice_get IsContentPure c.args.releases.now 0 c.in-Ok-Some.content c.requires.pure (sym (sym c.in-Ok-Some.field-0-is ∙ c.in-Ok-Some.ensures)), c.with_content.ensures);
}

pub returns-then-not-lacks_content-clause-ok : goal.returns-then-not-lacks_content-clause-ok
returns-then-not-lacks_content-clause-ok c =
    let parts = c.args.self.now in
    let new = low_of c.own.new.self in
    let observer = parts.observer in
    let asked = c.args.act in
    let contents = c.args.releases.now in
    let m : Moves (low_of parts) new c.args.k asked c.in_ok-own.field-0 = c.in_ok-own.ensures.ok in
    let moves = act-move parts new c.args.k asked asked c.args.reply c.in_ok-own.field-0 c.requires.plans m in
    takes-turn (low_of parts) new c.args.k contents contents asked c.in_ok-own.field-0 m
    (ap (λ (a : Act). opened observer a m.move.reply contents) moves.0 ∙ ap (λ (r : Reply). opened observer asked r contents) moves.1
    ∙ told-opens observer asked c.args.reply contents (sym (c.if-not-lacks_content.ensures ∙ ap (λ (p : LowParts). lacks_content p.observer asked c.args.reply) c.self.view_is)))

pub returns-in_ok-entry-in-Ok-Some-clause-ok : goal.returns-in_ok-entry-in-Ok-Some-clause-ok
returns-in_ok-entry-in-Ok-Some-clause-ok c =
    let parts = c.args.self.now in
    let new = low_of c.own-in-Ok-Some.new.self in
    let observer = parts.observer in
    let asked = c.args.act in
    let told = c.with_content.result in
    let contents = c.args.releases.now in
    let left : List Content = c.take_front.new.self in
    let entry = c.in_ok-entry-in-Ok-Some.entry in
    let m : Moves (low_of parts) new c.args.k told entry = c.in_ok-entry-in-Ok-Some.ensures.ok in
    let moves = act-move parts new c.args.k asked told c.args.reply entry c.requires.plans m in
    let front : contents ≡ c.in-Ok-Some.content ∷ left =
    front-taken contents left c.take_front.result c.in-Ok-Some.content (sym (sym c.in-Ok-Some.field-0-is ∙ c.in-Ok-Some.ensures)) c.take_front.ensures in
    takes-turn (low_of parts) new c.args.k contents left told entry m
    (ap (λ (a : Act). opened observer a m.move.reply contents) moves.0 ∙ ap (λ (r : Reply). opened observer asked r contents) moves.1
    ∙ ap (opened observer asked c.args.reply) front
    ∙ untold-opens observer asked c.args.reply c.in-Ok-Some.content left (sym (c.if-not-lacks_content.ensures ∙ ap (λ (p : LowParts). lacks_content p.observer asked c.args.reply) c.self.view_is))
    ∙ ap (λ (a : Act). let o : Opened = record { act = a; left = left } in Some o) (sym c.with_content.ensures))

pub returns-in_ok-entry-in-Ok-Some-clause-kept : goal.returns-in_ok-entry-in-Ok-Some-clause-kept
returns-in_ok-entry-in-Ok-Some-clause-kept c =
    let content = c.in-Ok-Some.content in
    let left : List Content = c.take_front.new.self in
    let front : c.args.releases.now ≡ content ∷ left = front-taken c.args.releases.now left c.take_front.result content (sym (sym c.in-Ok-Some.field-0-is ∙ c.in-Ok-Some.ensures)) c.take_front.ensures in
    All-tail IsContentPure content left (subst (All IsContentPure) front c.requires.pure)

pub returns-in-Ok-None-clause-fault : goal.returns-in-Ok-None-clause-fault
returns-in-Ok-None-clause-fault c =
    let parts = c.args.self.now in (
      refl,
      lacks-release parts c.args.k c.args.act c.args.reply c.args.releases.now c.requires.plans
          (sym (c.if-not-lacks_content.ensures ∙ ap (λ (p : LowParts). lacks_content p.observer c.args.act c.args.reply) c.self.view_is))
          (none-left c.args.releases.now (sym (sym c.in-Ok-None.field-0-is ∙ c.in-Ok-None.ensures))),
    )
