-- Well-formed configurations, with all their parts: what the first configuration of a script has and each turn keeps (the configurations are those of LIO, ICFP 2012).
use Rattle.lio_syntax.specs.Lines.{script_lines}
use Rattle.lio_syntax.specs.Kept.{KeepsRules}
use Rattle.lio_calculus.specs.Step.{Configuration}
use Rattle.lio_calculus.specs.Sound.{IsSound}
use Rattle.lio_calculus_runs.specs.Calls.{CallsFit}
use Rattle.lio_calculus_runs.specs.Turns.{TurnsAreFew}

-- A configuration is well-formed. That its labels are canonical is kept by their type.
pub record IsWellFormed (c : Configuration) : Type 0 where
  -- the parts that noninterference stands on
  pub sound : IsSound c
  -- the lines of the program break no rule of scripts: the names of procedures differ, and so do the parameters of each
  pub rules : KeepsRules (script_lines c.program.procedures)
  -- each call is of a procedure of the program, with as many arguments as this has parameters
  pub calls : CallsFit c
  -- the turns left of all tasks add up to at most 2^40
  pub turns : TurnsAreFew c
