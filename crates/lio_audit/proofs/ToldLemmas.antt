-- Runs of the erased calculus that their own entries tell: each turn takes the contents that its entry releases, and no others.
use Rattle.std.proofs.Common.{◌≡◌, ◌∙◌, refl, sym, ap, subst, ℕ, suc, ◌+◌, ◌≤◌, Bool, true, false, not, ◌&&◌, if◌then◌else◌, List, [], ◌∷◌, ◌++◌, length, Option, Some, None, option_and_then, arith}
use Rattle.std.specs.Option.{option_map}
use Rattle.lio_labels.specs.declared.label.Label.{Label}
use Rattle.lio_labels.specs.Flow.{flows}
use Rattle.lio_values.specs.declared.value.Content.{Content}
use Rattle.lio_values.specs.declared.value.Content.TheVariants.{Kept, Faulted, Hidden}
use Rattle.lio_values.specs.declared.act.Act.{Act}
use Rattle.lio_values.specs.declared.act.Act.TheVariants as act
use Rattle.lio_values.specs.declared.act.Reply.{Reply}
use Rattle.lio_values.specs.declared.act.Reply.TheVariants.{Done, Got, Told, Refused}
use Rattle.lio_values.specs.Erasure.{erase_act, erase_content, erase_reply}
use Rattle.lio_cells.specs.State.{ready}
use Rattle.lio_events.specs.Views.{released_to}
use Rattle.lio_calculus.specs.Task.{TaskState}
use Rattle.lio_calculus.specs.Plan.{Plan, Over, Own, Visit, plan}
use Rattle.lio_calculus.specs.Hiding.{hide_asked, hide_plan, hide_task}
use Rattle.lio_calculus.specs.Step.{Cell, Configuration, Move, cell_at, met, move_of, number_of, waits}
use Rattle.lio_calculus.specs.Erased.{LowTurn, Opened, erase, low, low_turn, low_with, opened, opened_release, taking_front}
use Rattle.lio_calculus.specs.Sound.{IsTaskOf}
use Rattle.lio_calculus.proofs.PlanHidden.{plan-hidden}
use Rattle.lio_calculus_runs.proofs.LowTurnLemmas.{low-parts}
use Rattle.lio_erasure.proofs.CellLemmas.{cell-erased, task-hidden}

-- the act of a plan
asked_in : Plan → Option Act
asked_in Over = None
asked_in (Own asked reply onward) = Some asked
asked_in (Visit asked target onward) = Some asked

hidden-asked : (observer : Label) (p : Plan) → asked_in (hide_plan observer p) ≡ option_map (hide_asked observer) (asked_in p)
unfolding asked_in
hidden-asked observer Over = refl
hidden-asked observer (Own asked reply onward) = refl
hidden-asked observer (Visit asked target onward) = refl

-- is that of its move
move-asked : (look : ℕ → Cell) (p : Plan) (move : Move) → move_of look p ≡ Some move → asked_in p ≡ Some move.act
unfolding asked_in
move-asked look Over move is = absurd (cc)
move-asked look (Own asked reply onward) move is = let same : record { act = asked; target = None; reply = reply; onward = onward } ≡ move = cc in ap (λ (m : Move). Some m.act) same
move-asked look (Visit asked target onward) move is = by (waits asked && not (ready (met target (look (number_of target)).state) asked)) _ refl is
  where
    by : (b : Bool) (made : Move) → made.act ≡ asked → (if b then None else Some made) ≡ Some move → Some asked ≡ Some move.act
    by true made a e = absurd (cc)
    by false made a e = let same : made ≡ move = cc in ap Some (sym a) ∙ ap (λ (m : Move). Some m.act) same

-- a task of a configuration that is as an observer sees it asks as the observer sees it
asks-hidden : (observer : Label) (c : Configuration) (k : ℕ) (task : TaskState) (move : Move) → erase observer c ≡ c → IsTaskOf c k task → move_of (cell_at c) (plan c.program task) ≡ Some move → hide_asked observer move.act ≡ move.act
asks-hidden observer c k task move erased is moves =
    let cell : option_map (hide_task observer) (cell_at c k).task ≡ (cell_at c k).task = ap (λ (x : Cell). x.task) (task-hidden observer (cell_at c k) task (cell-erased observer c k erased) is) in
    let same : Some (hide_task observer task) ≡ Some task = ap (option_map (hide_task observer)) (sym is) ∙ cell ∙ is in
    let hidden : hide_task observer task ≡ task = cc in
    let asked : asked_in (plan c.program task) ≡ Some move.act = move-asked (cell_at c) (plan c.program task) move moves in
    let both : Some (hide_asked observer move.act) ≡ Some move.act =
    ap (option_map (hide_asked observer)) (sym asked) ∙ sym (hidden-asked observer (plan c.program task)) ∙ ap asked_in (sym (plan-hidden c.program observer task)) ∙ ap (λ (t : TaskState). asked_in (plan c.program t)) hidden ∙ asked in
    cc

-- what is released is at most one content
one-most : (b : Bool) (content : Content) → length (if b then content ∷ [] else []) ≤ 1
one-most true content = omega arith
one-most false content = omega arith

-- a content that isn't hidden stands under a label that the observer sees
held-seen : (observer source : Label) (content : Content) → (content ≡ Hidden → ⊥) → erase_content observer source content ≡ content → flows source observer ≡ true
unfolding erase_content
held-seen observer source content held is = by (flows source observer) refl
  where
    by : (b : Bool) → flows source observer ≡ b → flows source observer ≡ true
    by true e = e
    by false e = absurd (held (sym is ∙ ap (λ (b : Bool). if b then content else Hidden) e))

kept-lists : (observer source target : Label) (shown : Content) → flows source observer ≡ true → length (if not (flows source observer) && flows target observer then shown ∷ [] else []) ≡ 0
kept-lists observer source target shown e = ap (λ (b : Bool). length (if not b && flows target observer then shown ∷ [] else [])) e

above-lists : (observer source target : Label) (shown : Content) → flows target observer ≡ false → length (if not (flows source observer) && flows target observer then shown ∷ [] else []) ≡ 0
above-lists observer source target shown e = ap (λ (b : Bool). length (if not (flows source observer) && b then shown ∷ [] else [])) e ∙ none (not (flows source observer))
  where
    none : (b : Bool) → length (if b && false then shown ∷ [] else []) ≡ 0
    none true = refl
    none false = refl

-- what a release or an exposure of a content shows to the observer
abbrev listed : Label → Label → Label → Content → List Content
listed observer source target content = if not (flows source observer) && flows target observer then erase_content observer target content ∷ [] else []

-- a content that isn't hidden is kept, and nothing is listed
kept-opens : (observer source target : Label) (into : Content → Act) (content : Content) (contents : List Content) (o : Opened) → (content ≡ Hidden → ⊥) → erase_content observer source content ≡ content
    → Some (let here : Opened = record { act = into content; left = contents } in here) ≡ Some o → (held : Content) × (into held ≡ o.act) × (length (listed observer source target held) + length o.left ≤ length contents)
kept-opens observer source target into content contents o held is opens =
    let same : record { act = into content; left = contents } ≡ o = cc in
    let none = kept-lists observer source target (erase_content observer target content) (held-seen observer source content held is) in
    let left : contents ≡ o.left = ap (λ (x : Opened). x.left) same in
    (content, ap (λ (x : Opened). x.act) same, subst (λ (cs : List Content). length (listed observer source target content) + length cs ≤ length contents) left (omega (arith, none)))

-- a release or an exposure, whatever act its content makes, takes as many contents as it lists
opening-lists : (observer source target : Label) (into : Content → Act) (hidden : Content) (contents : List Content) (o : Opened) → erase_content observer source hidden ≡ hidden
    → opened_release observer (into hidden) target into hidden contents ≡ Some o → (content : Content) × (into content ≡ o.act) × (length (listed observer source target content) + length o.left ≤ length contents)
opening-lists observer source target into Hidden contents o held is = by (flows target observer) refl contents is
  where
    by : (b : Bool) → flows target observer ≡ b → (contents : List Content)
        → (if b then taking_front (into Hidden) into contents else Some (let here : Opened = record { act = into Hidden; left = contents } in here)) ≡ Some o
        → (content : Content) × (into content ≡ o.act) × (length (listed observer source target content) + length o.left ≤ length contents)
    by true e [] i = absurd (cc)
    by true e (content ∷ contents) i =
        let same : record { act = into content; left = contents } ≡ o = cc in
        let most = one-most (not (flows source observer) && flows target observer) (erase_content observer target content) in
        let left : contents ≡ o.left = ap (λ (x : Opened). x.left) same in
        (content, ap (λ (x : Opened). x.act) same, subst (λ (cs : List Content). length (listed observer source target content) + length cs ≤ suc (length contents)) left (omega (arith, most)))
    by false e contents i =
        let same : record { act = into Hidden; left = contents } ≡ o = cc in
        let none = above-lists observer source target (erase_content observer target Hidden) e in
        let left : contents ≡ o.left = ap (λ (x : Opened). x.left) same in
        (Hidden, ap (λ (x : Opened). x.act) same, subst (λ (cs : List Content). length (listed observer source target Hidden) + length cs ≤ length contents) left (omega (arith, none)))
opening-lists observer source target into (Kept plain) contents o held is = kept-opens observer source target into (Kept plain) contents o (λ e. absurd (cc)) held is
opening-lists observer source target into (Faulted fault) contents o held is = kept-opens observer source target into (Faulted fault) contents o (λ e. absurd (cc)) held is

-- an act that is seen so takes at least as many contents as it releases
pub opened-lists : (observer : Label) (asked : Act) (reply : Reply) (contents : List Content) (o : Opened) → hide_asked observer asked ≡ asked → opened observer asked reply contents ≡ Some o
    → length (released_to observer (erase_act observer o.act) (erase_reply observer reply)) + length o.left ≤ length contents
unfolding opened released_to hide_asked
opened-lists observer (act.Release source target power content) Done contents o hidden is =
    let l = opening-lists observer source target (act.Release source target power) content contents o (held_in hidden) is in
    subst (λ (a : Act). length (released_to observer (erase_act observer a) Done) + length o.left ≤ length contents) l.1 l.2
  where
    held_in : act.Release source target power (erase_content observer source content) ≡ act.Release source target power content → erase_content observer source content ≡ content
    held_in e = cc
opened-lists observer (act.Release source target power content) (Got value) contents o hidden is =
    let same : record { act = act.Release source target power content; left = contents } ≡ o = cc in
    subst (λ (x : Opened). length (released_to observer (erase_act observer x.act) (erase_reply observer (Got value))) + length x.left ≤ length contents) same (omega arith)
opened-lists observer (act.Release source target power content) (Told told) contents o hidden is =
    let same : record { act = act.Release source target power content; left = contents } ≡ o = cc in
    subst (λ (x : Opened). length (released_to observer (erase_act observer x.act) (erase_reply observer (Told told))) + length x.left ≤ length contents) same (omega arith)
opened-lists observer (act.Release source target power content) (Refused fault) contents o hidden is =
    let same : record { act = act.Release source target power content; left = contents } ≡ o = cc in
    subst (λ (x : Opened). length (released_to observer (erase_act observer x.act) (erase_reply observer (Refused fault))) + length x.left ≤ length contents) same (omega arith)
opened-lists observer (act.Expose source target power content) Done contents o hidden is =
    let l = opening-lists observer source target (act.Expose source target power) content contents o (held_in hidden) is in
    subst (λ (a : Act). length (released_to observer (erase_act observer a) Done) + length o.left ≤ length contents) l.1 l.2
  where
    held_in : act.Expose source target power (erase_content observer source content) ≡ act.Expose source target power content → erase_content observer source content ≡ content
    held_in e = cc
opened-lists observer (act.Expose source target power content) (Got value) contents o hidden is =
    let same : record { act = act.Expose source target power content; left = contents } ≡ o = cc in
    subst (λ (x : Opened). length (released_to observer (erase_act observer x.act) (erase_reply observer (Got value))) + length x.left ≤ length contents) same (omega arith)
opened-lists observer (act.Expose source target power content) (Told told) contents o hidden is =
    let same : record { act = act.Expose source target power content; left = contents } ≡ o = cc in
    subst (λ (x : Opened). length (released_to observer (erase_act observer x.act) (erase_reply observer (Told told))) + length x.left ≤ length contents) same (omega arith)
opened-lists observer (act.Expose source target power content) (Refused fault) contents o hidden is =
    let same : record { act = act.Expose source target power content; left = contents } ≡ o = cc in
    subst (λ (x : Opened). length (released_to observer (erase_act observer x.act) (erase_reply observer (Refused fault))) + length x.left ≤ length contents) same (omega arith)
opened-lists observer (act.NewRef label value) reply contents o hidden is =
    let same : record { act = act.NewRef label value; left = contents } ≡ o = cc in
    subst (λ (x : Opened). length (released_to observer (erase_act observer x.act) (erase_reply observer reply)) + length x.left ≤ length contents) same (omega arith)
opened-lists observer asked reply contents o hidden is =
    let same : record { act = asked; left = contents } ≡ o = cc in
    subst (λ (x : Opened). length (released_to observer (erase_act observer x.act) (erase_reply observer reply)) + length x.left ≤ length contents) same (omega arith)

-- what an act takes stands in front of what is left, and is enough for it
pub record Takes (observer : Label) (asked : Act) (reply : Reply) (contents : List Content) (o : Opened) : Type 0 where
  pub taken : List Content
  pub splits : contents ≡ taken ++ o.left
  pub enough : opened observer asked reply taken ≡ Some (record { act = o.act; left = [] })

takes-none : (asked : Act) (contents : List Content) (o : Opened) → Some (let here : Opened = record { act = asked; left = contents } in here) ≡ Some o → (contents ≡ o.left) × (asked ≡ o.act)
takes-none asked contents o is = let same : record { act = asked; left = contents } ≡ o = cc in (ap (λ (x : Opened). x.left) same, ap (λ (x : Opened). x.act) same)

-- a release or an exposure, whatever act its content makes
opening-takes : (observer target : Label) (into : Content → Act) (hidden : Content) (contents : List Content) (o : Opened) → opened_release observer (into hidden) target into hidden contents ≡ Some o
    → (taken : List Content) × (contents ≡ taken ++ o.left) × (opened_release observer (into hidden) target into hidden taken ≡ Some (record { act = o.act; left = [] }))
opening-takes observer target into Hidden contents o is = by (flows target observer) refl contents is
  where
    opens : (b : Bool) → flows target observer ≡ b → (taken : List Content) → opened_release observer (into Hidden) target into Hidden taken ≡ (if b then taking_front (into Hidden) into taken else Some (record { act = into Hidden; left = taken }))
    opens b e taken = ap (λ (x : Bool). if x then taking_front (into Hidden) into taken else Some (let here : Opened = record { act = into Hidden; left = taken } in here)) e

    by : (b : Bool) → flows target observer ≡ b → (contents : List Content)
        → (if b then taking_front (into Hidden) into contents else Some (let here : Opened = record { act = into Hidden; left = contents } in here)) ≡ Some o
        → (taken : List Content) × (contents ≡ taken ++ o.left) × (opened_release observer (into Hidden) target into Hidden taken ≡ Some (record { act = o.act; left = [] }))
    by true e [] i = absurd (cc)
    by true e (content ∷ contents) i =
        let same : record { act = into content; left = contents } ≡ o = cc in
        (content ∷ [], ap (λ (x : Opened). content ∷ x.left) same, opens true e (content ∷ []) ∙ ap (λ (x : Opened). let here : Opened = record { act = x.act; left = [] } in Some here) same)
    by false e contents i =
        let p = takes-none (into Hidden) contents o i in
        ([], p.0, opens false e [] ∙ ap (λ (a : Act). let here : Opened = record { act = a; left = [] } in Some here) p.1)
opening-takes observer target into (Kept plain) contents o is =
    let p = takes-none (into (Kept plain)) contents o is in ([], p.0, ap (λ (a : Act). let here : Opened = record { act = a; left = [] } in Some here) p.1)
opening-takes observer target into (Faulted fault) contents o is =
    let p = takes-none (into (Faulted fault)) contents o is in ([], p.0, ap (λ (a : Act). let here : Opened = record { act = a; left = [] } in Some here) p.1)

pub opened-takes : (observer : Label) (asked : Act) (reply : Reply) (contents : List Content) (o : Opened) → opened observer asked reply contents ≡ Some o → Takes observer asked reply contents o
unfolding opened
opened-takes observer (act.Release source target power content) Done contents o is =
    let t = opening-takes observer target (act.Release source target power) content contents o is in record { taken = t.0; splits = t.1; enough = t.2 }
opened-takes observer (act.Expose source target power content) Done contents o is =
    let t = opening-takes observer target (act.Expose source target power) content contents o is in record { taken = t.0; splits = t.1; enough = t.2 }
opened-takes observer asked reply contents o is =
    let p = takes-none asked contents o is in
    record { taken = []; splits = p.0; enough = ap (λ (a : Act). let here : Opened = record { act = a; left = [] } in Some here) p.1 }

-- the same of a turn
pub low-lists : (observer : Label) (ticket : ℕ) (c : Configuration) (k : ℕ) (contents : List Content) (turn : LowTurn) → erase observer c ≡ c → low observer ticket c k contents ≡ Some turn
    → length (released_to observer turn.entry.act turn.entry.reply) + length turn.left ≤ length contents
low-lists observer ticket c k contents turn erased takes =
    let p = low-parts observer ticket c k contents turn takes in
    subst (λ (t : LowTurn). length (released_to observer t.entry.act t.entry.reply) + length t.left ≤ length contents) p.is_turn
    (opened-lists observer p.move.act p.move.reply contents p.o (asks-hidden observer c k p.task p.move erased p.is_task p.moves) p.opens)

pub low-takes : (observer : Label) (ticket : ℕ) (c : Configuration) (k : ℕ) (contents : List Content) (turn : LowTurn) → low observer ticket c k contents ≡ Some turn
    → (taken : List Content) × (contents ≡ taken ++ turn.left) × (low observer ticket c k taken ≡ Some (record { entry = turn.entry; next = turn.next; left = [] }))
unfolding low
low-takes observer ticket c k contents turn takes =
    let p = low-parts observer ticket c k contents turn takes in
    let t = opened-takes observer p.move.act p.move.reply contents p.o p.opens in (
      t.taken,
      t.splits ∙ ap (λ (x : LowTurn). t.taken ++ x.left) p.is_turn,
      ap (option_and_then (low_turn observer ticket c k t.taken)) p.is_task
          ∙ ap (option_and_then (λ (m : Move). option_map (low_with observer ticket c k p.task m) (opened observer m.act m.reply t.taken))) p.moves
          ∙ ap (option_map (low_with observer ticket c k p.task p.move)) t.enough
          ∙ ap (λ (x : LowTurn). let here : LowTurn = record { entry = x.entry; next = x.next; left = [] } in Some here) p.is_turn,
    )
