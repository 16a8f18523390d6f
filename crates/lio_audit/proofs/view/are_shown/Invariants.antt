use Rattle.std.proofs.Common.{All, take}
use Rattle.lio_calculus.specs.Laws.{IsShownContent}
use Rattle.lio_audit.proofs.view.are_shown.Given as goal

-- none of the contents so far is hidden, and what they keep is pure
abbrev pub invariant-loop-content : goal.invariant-loop-content
invariant-loop-content l = All IsShownContent (take l.content-index l.contents)
