use Rattle.lio_runq.proofs.queue.RunQueue.split_pass.Given as goal

-- the new pass is given the pushes that are asked for
abbrev pub ghosts-split_share : goal.ghosts-split_share
ghosts-split_share g a = record { pushes = a.pushes }
