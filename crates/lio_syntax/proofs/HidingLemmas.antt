-- What blocks stand for, with values hidden.
use Rattle.std.proofs.Common.{◌≡◌, refl, ap, List, ◌∷◌, map}
use Rattle.lio_labels.specs.declared.label.Label.{Label}
use Rattle.lio_syntax.specs.Statements.{Statements, Nothing, Then}
use Rattle.lio_syntax.specs.Items.{Item, Do, enter}
use Rattle.lio_syntax.specs.Hiding.{hide_item}

-- a block holds no values
pub enter-hidden : (observer : Label) (block : Statements) (items : List Item) → enter block (map (hide_item observer) items) ≡ map (hide_item observer) (enter block items)
unfolding enter
enter-hidden observer Nothing items = refl
enter-hidden observer (Then statement block) items = ap (λ (rest : List Item). Do statement ∷ rest) (enter-hidden observer block items)
