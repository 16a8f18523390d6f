use Rattle.lio_tests.proofs.queue.numbers_come_out_as_they_went_in.Given as goal

-- the bound is the one that is given
abbrev pub ghosts-push_and_pop : goal.ghosts-push_and_pop
ghosts-push_and_pop g a = record { bound = a.bound }
