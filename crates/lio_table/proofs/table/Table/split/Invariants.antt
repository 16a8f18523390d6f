use Rattle.lio_table.proofs.table.Table.split.Given as goal

-- the new seat is given the tickets that are asked for
abbrev pub ghosts-split_share : goal.ghosts-split_share
ghosts-split_share a = record { tickets = a.tickets }
