-- What a seat holds stands in a sound configuration.
use Rattle.std.proofs.Common.{◌≡◌, ◌∙◌, refl, sym, ap, subst, ℕ, ◌<◌, length, Contains}
use Rattle.std.proofs.lemmas.List.{length-map}
use mathlib.Core.Option.{some}
use lib.ListN.{get_elem?}
use Rattle.lio_calculus.specs.Step.{cell_at}
use Rattle.lio_calculus.specs.Logs.{folded}
use Rattle.lio_calculus.specs.Journals.{of_cell}
use Rattle.lio_task.specs.Configuration.{cell_of}
use Rattle.lio_task_turns.specs.StateOf.{program_of}
use Rattle.lio_table.specs.declared.view.Beginning.{Beginning}
use Rattle.lio_table.specs.declared.view.Claimed.{Claimed}
use Rattle.lio_table.specs.declared.view.View.{View}
use Rattle.lio_table.specs.Views.{StandIn, cell_after, configuration_from}
use Rattle.lio_table.specs.Rule.{Keeps, TableState}
use Rattle.lio_table.proofs.Turns.{folded-cell, folded-program, folded-size, turns-run}

pub program-from : (first : Beginning) → (configuration_from first).program ≡ program_of first.script first.longest
unfolding configuration_from
program-from first = refl

pub size-from : (first : Beginning) → length (configuration_from first).cells ≡ length first.holders
unfolding configuration_from
size-from first = length-map first.holders (cell_of first.script)

module _ (first : Beginning) (s : TableState) (kept : Keeps first s) (id : ℕ) (view : View) (is : get_elem? s.views id ≡ some view) where
  pub stand : view.first ≡ first → StandIn view (folded (configuration_from first) (λ n. of_cell n kept.journal))
  stand knows = record {
    program = folded-program (configuration_from first) kept.journal kept.turns ∙ program-from first ∙ ap (λ (f : Beginning). program_of f.script f.longest) (sym knows);
    size = folded-size (configuration_from first) kept.journal kept.turns ∙ size-from first ∙ ap (λ (f : Beginning). length f.holders) (sym knows);
    sound = (turns-run (configuration_from first) kept.journal kept.turns).sound;
    cells = cell;
  }
    where
      cell : (node : Claimed) → Contains view.claimed node → cell_at (folded (configuration_from first) (λ n. of_cell n kept.journal)) node.number ≡ cell_after view.first node.number node.log
      cell node has =
          let held = kept.owners.seats id view is node has in
          let within : node.number < length (configuration_from first).cells = subst (λ l. node.number < l) (sym (size-from first)) held.within in
          folded-cell (configuration_from first) kept.journal kept.turns node.number within
          ∙ (λ i. cell_after (sym knows i) node.number (sym held.log i))
