-- Each turn of the erased calculus lowers the measure.
use Rattle.std.proofs.Common.{◌≡◌, ◌∙◌, refl, sym, ap, subst, ℕ, ◌+◌, ◌-◌, ◌<◌, ◌≤◌, Bool, true, false, if◌then◌else◌, List, [], ◌∷◌, map, Option, Some, None, arith}
use Rattle.std.specs.Prelude.{sum_by}
use Rattle.std.proofs.lemmas.List.Sums.{sum_by-cons}
use Rattle.lio_labels.specs.declared.label.Label.{Label}
use Rattle.lio_labels.specs.Flow.{flows}
use Rattle.lio_values.specs.declared.value.Content.{Content}
use Rattle.lio_values.specs.declared.value.Content.TheVariants.{Kept, Faulted, Hidden}
use Rattle.lio_values.specs.declared.act.Act.{Act}
use Rattle.lio_values.specs.declared.act.Act.TheVariants as act
use Rattle.lio_values.specs.declared.act.Reply.{Reply}
use Rattle.lio_values.specs.declared.act.Reply.TheVariants.{Done}
use Rattle.lio_syntax.specs.Items.{rest_of}
use Rattle.lio_calculus.specs.Task.{TaskState}
use Rattle.lio_calculus.specs.Going.{Onward, Expose, given, released, gone, gone_on}
use Rattle.lio_calculus.specs.Plan.{Program, Target, plan}
use Rattle.lio_calculus.specs.Step.{Cell, Configuration, cell_at, born, Move, move_of, after}
use Rattle.lio_calculus.specs.Erased.{sees, hide_cell, erase_cell, erase, LowTurn, Opened, taking_front, opened_release, opened}
use Rattle.lio_calculus.specs.Sound.{IsTaskOf}
use Rattle.lio_calculus.proofs.InvisibleLemmas.{erase_cell-unseen, erase_cell-seen}
use Rattle.lio_calculus_runs.specs.Rounds.{weight, measure}
use Rattle.lio_calculus_runs.specs.LowLaws.{LowTurnLowersMeasure}
use Rattle.lio_calculus_runs.proofs.LowTurnLemmas.{low-parts}
use Rattle.lio_calculus_runs.proofs.MeasureLemmas.{newborn, measure-after, move-lowers}

-- what a task that goes on weighs doesn't depend on the act
given-weight : (task : TaskState) (name : List ℕ) (one two : Content) → weight (Some (given task name one)) ≡ weight (Some (given task name two))
given-weight task name one two = by one ∙ sym (by two)
  where
    by : (content : Content) → weight (Some (given task name content)) ≡ weight (Some task)
    by (Kept plain) = refl
    by (Faulted fault) = refl
    by Hidden = refl

gone-weight : (task : TaskState) (onward : Onward) (one two : Act) (reply : Reply) → weight (Some (gone task onward one reply)) ≡ weight (Some (gone task onward two reply))
gone-weight task (Expose name label) one two reply = given-weight (record task { label = label }) name (released one) (released two)
gone-weight task onward one two reply = refl

gone_on-weight : (task : TaskState) (onward : Onward) (one two : Act) (reply : Reply) → weight (Some (gone_on task onward one reply)) ≡ weight (Some (gone_on task onward two reply))
unfolding gone_on
gone_on-weight task onward one two reply = gone-weight (record task { items = rest_of task.items; turns = task.turns - 1 }) onward one two reply

-- an act whose content was opened gives birth to whom it did
taking-born : (program : Program) (label : Label) (into : Content → Act) (asked : Act) (contents : List Content) (o : Opened) → ((content : Content) → born program label (into content) ≡ None)
    → taking_front asked into contents ≡ Some o → born program label o.act ≡ None
taking-born program label into asked [] o none is = absurd (cc)
taking-born program label into asked (content ∷ contents) o none is =
    let here : Opened = record { act = into content; left = contents } in
    let same : here ≡ o = cc in
    ap (λ (x : Opened). born program label x.act) (sym same) ∙ none content

kept-born : (program : Program) (label : Label) (asked : Act) (contents : List Content) (o : Opened) → Some (let here : Opened = record { act = asked; left = contents } in here) ≡ Some o → born program label o.act ≡ born program label asked
kept-born program label asked contents o is =
    let here : Opened = record { act = asked; left = contents } in
    let same : here ≡ o = cc in
    ap (λ (x : Opened). born program label x.act) (sym same)

release-born : (observer : Label) (program : Program) (label target : Label) (into : Content → Act) (hidden : Content) (contents : List Content) (o : Opened) → ((content : Content) → born program label (into content) ≡ None)
    → opened_release observer (into hidden) target into hidden contents ≡ Some o → born program label o.act ≡ None
release-born observer program label target into Hidden contents o none is = by (flows target observer) is
  where
    by : (b : Bool) → (if b then taking_front (into Hidden) into contents else Some (record { act = into Hidden; left = contents })) ≡ Some o → born program label o.act ≡ None
    by true i = taking-born program label into (into Hidden) contents o none i
    by false i = kept-born program label (into Hidden) contents o i ∙ none Hidden
release-born observer program label target into (Kept plain) contents o none is = kept-born program label (into (Kept plain)) contents o is ∙ none (Kept plain)
release-born observer program label target into (Faulted fault) contents o none is = kept-born program label (into (Faulted fault)) contents o is ∙ none (Faulted fault)

opened-born : (observer : Label) (program : Program) (label : Label) (asked : Act) (reply : Reply) (contents : List Content) (o : Opened) → opened observer asked reply contents ≡ Some o → born program label o.act ≡ born program label asked
unfolding opened
opened-born observer program label (act.Release source target power content) Done contents o is = release-born observer program label target (act.Release source target power) content contents o (λ c. refl) is
opened-born observer program label (act.Expose source target power content) Done contents o is = release-born observer program label target (act.Expose source target power) content contents o (λ c. refl) is
opened-born observer program label asked reply contents o is = kept-born program label asked contents o is

newborn-same : (program : Program) (label : Label) (one two : Act) (target : Option Target) → born program label one ≡ born program label two → newborn program label one target ≡ newborn program label two target
newborn-same program label one two None is = refl
newborn-same program label one two (Some target) is = ap weight is

-- what is left out weighs nothing
erased-weight : (observer : Label) (cell : Cell) → weight (erase_cell observer cell).task ≤ weight cell.task
erased-weight observer cell = by (sees observer cell) refl
  where
    hidden : (t : Option TaskState) → cell.task ≡ t → weight (hide_cell observer cell).task ≡ weight cell.task
    hidden None e = ap (λ (t : Option TaskState). weight (hide_cell observer (record cell { task = t })).task) e ∙ sym (ap weight e)
    hidden (Some task) e = ap (λ (t : Option TaskState). weight (hide_cell observer (record cell { task = t })).task) e ∙ sym (ap weight e)

    by : (b : Bool) → sees observer cell ≡ b → weight (erase_cell observer cell).task ≤ weight cell.task
    by true is = omega (arith, ap (λ (x : Cell). weight x.task) (erase_cell-seen observer cell is), hidden cell.task refl)
    by false is = omega (arith, ap (λ (x : Cell). weight x.task) (erase_cell-unseen observer cell is))

erased-cells : (observer : Label) (cells : List Cell) → sum_by (λ cell. weight cell.task) (map (erase_cell observer) cells) ≤ sum_by (λ cell. weight cell.task) cells
erased-cells observer [] = omega arith
erased-cells observer (cell ∷ cells) =
    let heavy : Cell → ℕ = λ x. weight x.task in
    omega (arith, erased-weight observer cell, erased-cells observer cells, sum_by-cons heavy (erase_cell observer cell) (map (erase_cell observer) cells), sum_by-cons heavy cell cells)

pub erased-measure : (observer : Label) (c : Configuration) → measure (erase observer c) ≤ measure c
erased-measure observer c = erased-cells observer c.cells

-- a turn whose content was opened
opened-lowers : (observer : Label) (c : Configuration) (k : ℕ) (task : TaskState) (move : Move) (contents : List Content) (o : Opened) → IsTaskOf c k task → move_of (cell_at c) (plan c.program task) ≡ Some move
    → opened observer move.act move.reply contents ≡ Some o → measure (erase observer (after c k task (record move { act = o.act }))) < measure c
opened-lowers observer c k task move contents o is moves opens =
    let seen : Move = record move { act = o.act } in
    let births : newborn c.program task.label o.act move.target ≡ newborn c.program task.label move.act move.target =
    newborn-same c.program task.label o.act move.act move.target (opened-born observer c.program task.label move.act move.reply contents o opens) in
    let goes : weight (Some (gone_on task move.onward o.act move.reply)) ≡ weight (Some (gone_on task move.onward move.act move.reply)) = gone_on-weight task move.onward o.act move.act move.reply in
    let lowers : newborn c.program task.label move.act move.target + weight (Some (gone_on task move.onward move.act move.reply)) < weight (Some task) = move-lowers c task move moves in
    omega (arith, erased-measure observer (after c k task seen), measure-after c k task seen is, births, goes, lowers)

pub low_turn_lowers_measure : LowTurnLowersMeasure
low_turn_lowers_measure observer ticket c k contents turn takes =
    let p = low-parts observer ticket c k contents turn takes in
    subst (λ (t : LowTurn). measure t.next < measure c) p.is_turn (opened-lowers observer c k p.task p.move contents p.o p.is_task p.moves p.opens)
