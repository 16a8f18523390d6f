-- A step keeps a configuration sound.
use Rattle.std.proofs.Common.{ℕ}
use Rattle.std.specs.Prelude.{Result, Ok, Err, OnOk}
use Rattle.lio_values.specs.declared.entry.Entry.{Entry}
use Rattle.lio_calculus.specs.Sound.{IsSound}
use Rattle.lio_calculus.specs.Step.{Configuration, Turn}
use Rattle.lio_calculus.proofs.LawLemmas.{turn_keeps_soundness}
use Rattle.lio_calculus.proofs.TurnParts.{parts}
use Rattle.lio_task.specs.declared.config.StepFault.{StepFault}
use Rattle.lio_task.specs.Takes.{Steps}

pub take-sound : {T : Type 0} (c next : Configuration) (k ticket : ℕ) (entry : Entry) (result : Result T StepFault) → IsSound c
    → OnOk result (Steps c next k ticket entry) → OnOk result (IsSound next)
take-sound c next k ticket entry (Ok taken) sound steps =
    let turn : Turn = record { entry = entry; next = next } in
    let p = parts ticket c k turn steps in
    turn_keeps_soundness ticket c k p.task turn sound p.is steps
take-sound c next k ticket entry (Err fault) sound steps = tt
