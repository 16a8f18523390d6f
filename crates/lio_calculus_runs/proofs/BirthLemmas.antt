-- Who is born in a turn, and that an order goes on having every task.
use Rattle.std.proofs.Common.{◌≡◌, ◌∙◌, refl, sym, ap, subst, ℕ, ◌⊎◌, inl, inr, Bool, true, false, if◌then◌else◌, List, [], ◌∷◌, ◌++◌, Option, Some, None}
use Rattle.std.specs.Option.{option_map}
use Rattle.lio_labels.specs.declared.label.Label.{Label}
use Rattle.lio_values.specs.declared.act.Act.{Act}
use Rattle.lio_values.specs.declared.act.Act.TheVariants as act
use Rattle.lio_calculus.specs.Task.{TaskState}
use Rattle.lio_calculus.specs.Plan.{Program, Target}
use Rattle.lio_calculus.specs.Step.{Cell, Configuration, cell_at, with_cell, number_of, is_met, born, task_after, met_after, actor_after, target_after, Move, after, Turn, step}
use Rattle.lio_calculus.specs.Sound.{IsTaskOf}
use Rattle.lio_calculus_runs.specs.Round.{born_at, born_in}
use Rattle.lio_calculus_runs.proofs.TurnLemmas.{parts}
use Rattle.lio_calculus_runs.proofs.AfterLemmas.{Changed, Here, Elsewhere, changed}

-- a number in a list
abbrev pub Among : ℕ → List ℕ → Type 0
Among k [] = ⊥
Among k (j ∷ js) = (k ≡ j) ⊎ Among k js

pub among-left : (k : ℕ) (xs ys : List ℕ) → Among k xs → Among k (xs ++ ys)
among-left k [] ys is = absurd is
among-left k (x ∷ xs) ys (inl e) = inl e
among-left k (x ∷ xs) ys (inr q) = inr (among-left k xs ys q)

pub among-right : (k : ℕ) (xs ys : List ℕ) → Among k ys → Among k (xs ++ ys)
among-right k [] ys is = is
among-right k (x ∷ xs) ys is = inr (among-right k xs ys is)

-- each task of a configuration is one of some numbers, or stands in an order
abbrev pub Covers : (ℕ → Type 0) → Configuration → Type 0
Covers P c = (k : ℕ) (task : TaskState) → IsTaskOf c k task → P k

abbrev pub HasAll : List ℕ → Configuration → Type 0
HasAll order c = (k : ℕ) (task : TaskState) → IsTaskOf c k task → Among k order

-- a child stands at the target
born-target : (program : Program) (label : Label) (asked : Act) (n : ℕ) (child : TaskState) → born program label asked ≡ Some child → Among n (born_at asked (Some n))
born-target program label (act.Fork birth) n child is = inl refl
born-target program label (act.Spawn birth) n child is = inl refl
born-target program label asked n child is = absurd (cc)

-- a task of the cells after a target was met was there, or is born
met-covers : (P : ℕ → Type 0) (c : Configuration) (label : Label) (asked : Act) (target : Option Target) → Covers P c
    → Covers (λ n. P n ⊎ Among n (born_at asked (option_map number_of target))) (target_after c label asked target)
met-covers P c label asked None covers k task is = inl (covers k task is)
met-covers P c label asked (Some target) covers k task is = by (is_met target (cell_at c (number_of target)).state) is
  where
    n : ℕ
    n = number_of target

    cell : Cell
    cell = met_after c.program label asked (cell_at c n)

    placed : (old : Option TaskState) → (cell_at c n).task ≡ old → task_after old (born c.program label asked) ≡ Some task → P n ⊎ Among n (born_at asked (Some n))
    placed None e h = inr (born-target c.program label asked n task h)
    placed (Some x) e h = inl (covers n x e)

    here : Changed c n cell k → IsTaskOf (with_cell c n cell) k task → P k ⊎ Among k (born_at asked (Some n))
    here (Here e h) i =
        let is_new : task_after (cell_at c n).task (born c.program label asked) ≡ Some task = sym (ap (λ (x : Cell). x.task) h) ∙ i in
        subst (λ (m : ℕ). P m ⊎ Among m (born_at asked (Some n))) (sym e) (placed (cell_at c n).task refl is_new)
    here (Elsewhere h) i = inl (covers k task (sym (ap (λ (x : Cell). x.task) h) ∙ i))

    by : (b : Bool) → IsTaskOf (if b then with_cell c n cell else c) k task → P k ⊎ Among k (born_at asked (Some n))
    by true i = here (changed c n cell k) i
    by false i = inl (covers k task i)

-- a task after a move was there, or is born in it
pub after-covers : (P : ℕ → Type 0) (c : Configuration) (k : ℕ) (task : TaskState) (move : Move) → IsTaskOf c k task → Covers P c
    → Covers (λ n. P n ⊎ Among n (born_at move.act (option_map number_of move.target))) (after c k task move)
after-covers P c k task move is_task covers n x is = by (changed between k (actor_after task move (cell_at between k)) n)
  where
    between : Configuration
    between = target_after c task.label move.act move.target

    by : Changed between k (actor_after task move (cell_at between k)) n → P n ⊎ Among n (born_at move.act (option_map number_of move.target))
    by (Here e h) = inl (subst P (sym e) (covers k task is_task))
    by (Elsewhere h) = met-covers P c task.label move.act move.target covers n x (sym (ap (λ (y : Cell). y.task) h) ∙ is)

-- a task after a turn was there, or is born in it
turn-covers : (P : ℕ → Type 0) (ticket : ℕ) (c : Configuration) (k : ℕ) (turn : Turn) → step ticket c k ≡ Some turn → Covers P c → Covers (λ n. P n ⊎ Among n (born_in turn.entry)) turn.next
turn-covers P ticket c k turn steps covers =
    let p = parts ticket c k turn steps in
    subst (λ (t : Turn). Covers (λ n. P n ⊎ Among n (born_in t.entry)) t.next) p.is_turn (after-covers P c k p.task p.move p.is_task covers)

pub turn-has_all : (order : List ℕ) (ticket : ℕ) (c : Configuration) (k : ℕ) (turn : Turn) → step ticket c k ≡ Some turn → HasAll order c → HasAll (order ++ born_in turn.entry) turn.next
turn-has_all order ticket c k turn steps all n x is = either (turn-covers (λ m. Among m order) ticket c k turn steps all n x is)
  where
    either : Among n order ⊎ Among n (born_in turn.entry) → Among n (order ++ born_in turn.entry)
    either (inl a) = among-left n order (born_in turn.entry) a
    either (inr b) = among-right n order (born_in turn.entry) b
