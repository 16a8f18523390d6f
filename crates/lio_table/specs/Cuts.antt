-- How a seat is cut in two, and how two are made one.
use Rattle.std.specs.Prelude.{ℕ, ◌+◌, ◌-◌, [], ◌++◌}
use Rattle.lio_table.specs.declared.view.Beginning.{Beginning}
use Rattle.lio_table.specs.declared.view.View.{View}
use Rattle.lio_table.specs.Views.{with_tickets}

-- the seat that is cut: it has so many tickets fewer left
abbrev pub cut_left : ℕ → View → View
cut_left tickets view = record view { left = view.left - tickets; cuts = view.cuts + 1 }

-- the new seat: it has these tickets left
abbrev pub cut_right : ℕ → View → View
cut_right tickets view = with_tickets view.first tickets (view.cuts + 1)

-- a seat that has taken in what another has drawn and has left
abbrev pub joined : View → View → View
joined view other = record view { drawn = other.drawn ++ view.drawn; left = view.left + other.left; cuts = view.cuts + 1 }

-- nothing
abbrev pub nothing : Beginning
nothing = record { holders = []; longest = 0; script = [] }

-- a seat that was joined into another
abbrev pub spent : View
spent = with_tickets nothing 0 0
