use Rattle.std.proofs.Common.{◌∙◌, ◌++◌, ◌∷◌, [], ap, append_assoc}
use Rattle.lio_syntax.proofs.print.print_line.Goals as goal

pub returns : goal.returns
returns c = c.in_ok-push.ensures.items ∙ ap (λ text. text ++ 10 ∷ []) c.in_ok-print_to.ensures ∙ rw append_assoc
