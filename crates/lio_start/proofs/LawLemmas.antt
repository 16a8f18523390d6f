-- The laws.
use Rattle.lio_start.specs.Laws.{EachTaskFits, FaultIsOfFirst, LiteralsAreSaid, StartIsSound, StartIsWellFormed, CellsStandInOrder, EachTaskBegins, TextsAreShort}
use Rattle.lio_start.proofs.FitsLemmas as of_fits
use Rattle.lio_start.proofs.LiteralLemmas as of_literals
use Rattle.lio_start.proofs.PlaceLemmas as of_cells
use Rattle.lio_start.proofs.SoundLemmas as of_start
use Rattle.lio_start.proofs.WellFormedLemmas as of_parts

pub each_task_fits : EachTaskFits
each_task_fits = of_fits.each_task_fits

pub fault_is_of_first : FaultIsOfFirst
fault_is_of_first = of_fits.fault_is_of_first

pub literals_are_said : LiteralsAreSaid
literals_are_said = of_literals.literals_are_said

pub start_is_sound : StartIsSound
start_is_sound = of_start.start_is_sound

pub start_is_well_formed : StartIsWellFormed
start_is_well_formed = of_parts.start_is_well_formed

pub cells_stand_in_order : CellsStandInOrder
cells_stand_in_order = of_cells.cells_stand_in_order

pub each_task_begins : EachTaskBegins
each_task_begins = of_start.each_task_begins

pub texts_are_short : TextsAreShort
texts_are_short = of_start.texts_are_short
