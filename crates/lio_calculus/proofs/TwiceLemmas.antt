-- Hiding twice at one label is hiding once.
use Rattle.std.proofs.Common.{◌≡◌, refl, ap, List, [], ◌∷◌, map}
use Rattle.lio_labels.specs.declared.label.Label.{Label}
use Rattle.lio_values.proofs.ErasureLemmas.{value_erased_twice}
use Rattle.lio_syntax.specs.Environment.{Environment}
use Rattle.lio_calculus.specs.Task.{TaskState}
use Rattle.lio_syntax.specs.Items.{Item, Back}
use Rattle.lio_syntax.specs.Hiding.{hide_environment, hide_item}
use Rattle.lio_calculus.specs.Hiding.{hide_task}

pub hide_environment-twice : (observer : Label) (environment : Environment) → hide_environment observer (hide_environment observer environment) ≡ hide_environment observer environment
hide_environment-twice observer [] = refl
hide_environment-twice observer (first ∷ rest) = λ i. record first { value = value_erased_twice observer first.value i } ∷ hide_environment-twice observer rest i

hide_item-twice : (observer : Label) (item : Item) → hide_item observer (hide_item observer item) ≡ hide_item observer item
hide_item-twice observer (Back caller name) = ap (λ (e : Environment). Back e name) (hide_environment-twice observer caller)
hide_item-twice observer item = refl

pub hide_items-twice : (observer : Label) (items : List Item) → map (hide_item observer) (map (hide_item observer) items) ≡ map (hide_item observer) items
hide_items-twice observer [] = refl
hide_items-twice observer (item ∷ items) = λ i. hide_item-twice observer item i ∷ hide_items-twice observer items i

pub hide_task-twice : (observer : Label) (task : TaskState) → hide_task observer (hide_task observer task) ≡ hide_task observer task
hide_task-twice observer task = λ i. record task { environment = hide_environment-twice observer task.environment i; items = hide_items-twice observer task.items i }
