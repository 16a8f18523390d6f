use Rattle.std.proofs.Common.{◌∙◌, sym}
use Rattle.std.specs.Option.{option_map}
use Rattle.lio_front.specs.Sorted.{mode_named, source_named, watch_named}
use Rattle.lio_front.proofs.WalkLemmas.{command-right, commanded-by, modeless, unsourced, unwatched}
use Rattle.lio_front.proofs.words.command.read_command.Goals as goal

pub returns-in_err-source-clause-command : goal.returns-in_err-source-clause-command
returns-in_err-source-clause-command c =
    rw c.from_residual-in_err-source.ensures (c.in_ok-sorted.ensures.1 ∙ command-right c.in_ok-sorted.sorted c.in_ok-sorted.ensures.0
    ∙ unsourced _ _ _ _ (sym c.in_err-source.ensures.source))

pub returns-in_err-view-clause-command : goal.returns-in_err-view-clause-command
returns-in_err-view-clause-command c =
    rw c.from_residual-in_err-view.ensures (c.in_ok-sorted.ensures.1 ∙ command-right c.in_ok-sorted.sorted c.in_ok-sorted.ensures.0
    ∙ unwatched _ _ _ _ (sym c.in_err-view.ensures))

pub returns-in_err-mode-clause-command : goal.returns-in_err-mode-clause-command
returns-in_err-mode-clause-command c =
    rw c.from_residual-in_err-mode.ensures (c.in_ok-sorted.ensures.1 ∙ command-right c.in_ok-sorted.sorted c.in_ok-sorted.ensures.0
    ∙ modeless _ _ _ _ (sym c.in_err-mode.ensures.mode))

pub returns-clause-command : goal.returns-clause-command
returns-clause-command c =
    c.in_ok-sorted.ensures.1 ∙ command-right c.in_ok-sorted.sorted c.in_ok-sorted.ensures.0
    ∙ commanded-by _ _ _ _ (source_named c.in_ok-source.source) (option_map watch_named c.in_ok-view.view) (mode_named c.in_ok-mode.mode) (sym c.in_ok-source.ensures.source) (sym c.in_ok-view.ensures) (sym c.in_ok-mode.ensures.mode)
