use Rattle.std.proofs.Common.{◌≡◌, subst, inl, List, ℕ}
use Rattle.lio_outside.specs.Said.{said_with}
use Rattle.lio_ask_main.proofs.asking.say_told.Goals as goal

pub returns-in-Ok-clause-says : goal.returns-in-Ok-clause-says
returns-in-Ok-clause-says g c =
    inl (c.by.ensures, subst (λ (t : List ℕ). g.W.Say.said c.say.new.self ≡ said_with (g.W.Say.said c.args.say.now) t) c.as_slice.ensures.value c.in-Ok.ensures.ok)
