use Rattle.lio_table.proofs.table.Table.draw.Given as goal

-- the ticket is drawn for the entry that is given
abbrev pub ghosts-draw_for : goal.ghosts-draw_for
ghosts-draw_for a = record { entry = a._entry.now }
