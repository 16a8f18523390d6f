use Rattle.std.proofs.Common.{ℕ, ◌∙◌, ap, List, ◌∷◌, ◌++◌, map}
use Rattle.lio_syntax.specs.Environment.{Environment}
use Rattle.lio_syntax.specs.Items.{Back, Item}
use Rattle.lio_task_control.specs.Continuation.{frame_items, stage_items}
use Rattle.lio_task_control.specs.declared.frame.Stage.{Stage}
use Rattle.lio_syntax.specs.Hiding.{hide_environment, hide_item}
use Rattle.lio_task_control.proofs.OwnLemmas.{frame-no_back, hidden-over}
use Rattle.lio_task_control.proofs.frame.Call.erase.Goals as goal

pub returns : goal.returns
returns c = λ lines items.
    let o = c.args.observer.now in
    let was = c.args.self.now in
    let hidden = map (hide_item o) items in
    let new = c.in_ok-caller.caller in
    ap (λ (e : Environment). Back e c.in_ok-name.name ∷ frame_items lines new ++ hidden) c.in_ok-caller.ensures.environment
    ∙ ap (λ (n : List ℕ). Back (hide_environment o was.caller.environment) n ∷ frame_items lines new ++ hidden) c.in_ok-name.ensures.ok
    ∙ ap (λ (rest : List Item). Back (hide_environment o was.caller.environment) was.name ∷ rest)
    (ap (λ (at : ℕ). stage_items lines at new.stage ++ hidden) c.in_ok-caller.ensures.at
    ∙ ap (λ (s : Stage). stage_items lines was.caller.at s ++ hidden) c.in_ok-caller.ensures.stage
    ∙ hidden-over o (frame_items lines was.caller) items (frame-no_back lines was.caller))
