-- A configuration that differs from a well-formed one in a task's cell and at most in one other is well-formed, where these two cells are fine.
use Rattle.std.proofs.Common.{◌≡◌, ◌≢◌, ◌∙◌, refl, sym, ap, subst, ℕ, ◌+◌, ◌≤◌, ◌⊎◌, inl, inr, true, false, IsTrue, List, length, All, Some, None, is_some, arith}
use Rattle.std.proofs.Math.Dec.{eqb}
use Rattle.std.proofs.lemmas.Bool.Decides.{eqb_tells}
use Rattle.lio_labels.specs.declared.label.Label.{Label}
use Rattle.lio_labels.specs.Flow.{flows}
use Rattle.lio_values.specs.declared.value.Handle.{Handle}
use Rattle.lio_values.specs.declared.value.Value.{Value}
use Rattle.lio_syntax.specs.Statements.{Procedure}
use Rattle.lio_cells.specs.declared.state.State.{State}
use Rattle.lio_cells.specs.declared.state.State.TheVariants.{Ref, Var, Job}
use Rattle.lio_cells.specs.State.{Kind, Reference, Variable, Channel, Result, is_job, label_of, result_of}
use Rattle.lio_syntax.specs.declared.binding.Binding.{Binding}
use Rattle.lio_syntax.specs.Environment.{Environment}
use Rattle.lio_syntax.specs.Items.{Item, Do, Access, Mark, Back, Fail, open_calls}
use Rattle.lio_calculus.specs.Task.{TaskState}
use Rattle.lio_calculus.specs.Plan.{Program}
use Rattle.lio_calculus.specs.Step.{Cell, Configuration, blank, cell_at}
use Rattle.lio_values.specs.Forest as forest
use Rattle.lio_values.specs.Forest.{Tree, Problem, Inner, Forest}
use Rattle.lio_values.specs.Views.{item_of}
use Rattle.lio_calculus.specs.Sound.{Names, TreeNames, ProblemNames, InnerNames, ItemNames, ItemsName, ValueNames, IsOpen, EachBound, EachInItem, EachInTask, EachInState, ItemSays, block_says, AccessIsRaised, IsTaskOf, IsInRange, IsSound}

-- a property of values that follows from another
all-map : {X : Type 0} (P Q : X → Type 0) → ((x : X) → P x → Q x) → (xs : List X) → All P xs → All Q xs
all-map P Q implies xs all = λ k d within. implies _ (all k d within)

pub bound-map : (P Q : Value → Type 0) → ((v : Value) → P v → Q v) → (environment : Environment) → EachBound P environment → EachBound Q environment
bound-map P Q implies environment each = all-map (λ (b : Binding). P b.value) (λ (b : Binding). Q b.value) (λ b. implies b.value) environment each

item-map : (P Q : Value → Type 0) → ((v : Value) → P v → Q v) → (item : Item) → EachInItem P item → EachInItem Q item
item-map P Q implies (Back caller name) p = bound-map P Q implies caller p
item-map P Q implies (Fail fault) p = implies _ p
item-map P Q implies (Do s) p = tt
item-map P Q implies (Access s) p = tt
item-map P Q implies (Mark code payload handler) p = tt

pub task-map : (P Q : Value → Type 0) → ((v : Value) → P v → Q v) → (task : TaskState) → EachInTask P task → EachInTask Q task
task-map P Q implies task each = record {
  environment = bound-map P Q implies task.environment each.environment;
  items = all-map (EachInItem P) (EachInItem Q) (item-map P Q implies) task.items each.items;
}

pub state-map : (P Q : Value → Type 0) → ((v : Value) → P v → Q v) → (state : State) → EachInState P state → EachInState Q state
state-map P Q implies (Ref label v) p = implies v p
state-map P Q implies (Var label (Some v)) p = implies v p
state-map P Q implies (Job label (Some content)) p = implies _ p
state-map P Q implies state p = tt

-- what handles name they still name
unfoldable pub Extends : Configuration → Configuration → Type 0
Extends c d = (kind : Kind) (handle : Handle) → Names c kind handle → Names d kind handle

module _ (c d : Configuration) (extends : Extends c d) where
  mutual
    unfolding Extends

    tree-extends : (tree : Tree) → TreeNames c tree → TreeNames d tree
    tree-extends (forest.RefOf handle) names = extends Reference handle names
    tree-extends (forest.VarOf handle) names = extends Variable handle names
    tree-extends (forest.ResultOf handle) names = extends Result handle names
    tree-extends (forest.ChanOf handle) names = extends Channel handle names
    tree-extends (forest.Items items) names = items-extend items names
    tree-extends forest.Unit names = tt
    tree-extends (forest.Flag flag) names = tt
    tree-extends (forest.Whole number) names = tt
    tree-extends (forest.Bytes text) names = tt
    tree-extends (forest.Lab label) names = tt
    tree-extends (forest.Power power) names = tt

    problem-extends : (problem : Problem) → ProblemNames c problem → ProblemNames d problem
    problem-extends (forest.User tree) names = tree-extends tree names
    problem-extends problem names = tt

    inner-extends : (inner : Inner) → InnerNames c inner → InnerNames d inner
    inner-extends (forest.Kept tree) names = tree-extends tree names
    inner-extends (forest.Faulted problem at) names = problem-extends problem names
    inner-extends forest.Hidden names = tt

    item-extends : (item : forest.Item) → ItemNames c item → ItemNames d item
    item-extends (forest.Bare tree) names = tree-extends tree names
    item-extends (forest.Sealed label inner) names = inner-extends inner names

    items-extend : (items : Forest) → ItemsName c items → ItemsName d items
    items-extend forest.Nothing names = tt
    items-extend (forest.Then item items) names = (item-extends item names.0, items-extend items names.1)

pub value-extends : (c d : Configuration) → Extends c d → (value : Value) → ValueNames c value → ValueNames d value
value-extends c d extends value names = item-extends c d extends (item_of value) names

-- a task is fine in a configuration, with the state of its cell
pub record Fine (c : Configuration) (state : State) (task : TaskState) : Type 0 where
  pub range : task.first + task.cells ≤ length c.cells
  pub names : EachInTask (ValueNames c) task
  pub clearance : IsTrue (flows task.label task.clearance)
  pub result : (label : Label) → label_of state ≡ Some label → IsTrue (flows task.clearance label)
  pub ended : is_some (result_of state) ≡ task.ended
  pub accesses : AccessIsRaised task
  pub literals : All ItemSays task.items
  pub calls : open_calls task.items ≤ 64
  pub shown : EachInTask IsOpen task

pub fine-of : (c : Configuration) (k : ℕ) (task : TaskState) → IsSound c → IsTaskOf c k task → Fine c (cell_at c k).state task
fine-of c k task sound is = record {
  range = sound.ranges k task is;
  names = sound.names k task is;
  clearance = sound.clearance k task is;
  result = λ label e. sound.result k task label is e;
  ended = sound.ended k task is;
  accesses = sound.accesses k task is;
  literals = sound.literals k task is;
  calls = sound.calls k task is;
  shown = sound.shown k task is;
}

-- it stays fine
pub fine-extends : (c d : Configuration) (one other : State) (task : TaskState) → Extends c d → length d.cells ≡ length c.cells → label_of other ≡ label_of one → is_some (result_of other) ≡ is_some (result_of one) → Fine c one task → Fine d other task
fine-extends c d one other task extends same label result fine = record {
  range = omega (arith, fine.range, same);
  names = task-map (ValueNames c) (ValueNames d) (value-extends c d extends) task fine.names;
  clearance = fine.clearance;
  result = λ l e. fine.result l (sym label ∙ e);
  ended = result ∙ fine.ended;
  accesses = fine.accesses;
  literals = fine.literals;
  calls = fine.calls;
  shown = fine.shown;
}

-- the cells of a configuration after a turn: the actor's, another one, and the rest as they were
pub record Changes (c d : Configuration) (k t : ℕ) (actor other : Cell) : Type 0 where
  pub program : d.program ≡ c.program
  pub size : length d.cells ≡ length c.cells
  pub apart : k ≡ t → ⊥
  pub at_k : cell_at d k ≡ actor
  pub at_t : cell_at d t ≡ other
  pub elsewhere : (n : ℕ) → (n ≡ k → ⊥) → (n ≡ t → ⊥) → cell_at d n ≡ cell_at c n

-- a child in the other cell: its range is a part of its parent's behind the cell itself, and apart from what the parent keeps
pub record IsChild (d : Configuration) (t : ℕ) (parent kept : TaskState) (state : State) (child : TaskState) : Type 0 where
  pub fine : Fine d state child
  pub inside : (n : ℕ) → IsInRange child n → IsInRange parent n
  pub behind : IsInRange child t → ⊥
  pub apart : (n : ℕ) → IsInRange child n → IsInRange kept n → ⊥

-- both cells are fine
pub record Suitable (c d : Configuration) (k t : ℕ) (before task : TaskState) (state : State) (other : Cell) : Type 0 where
  -- the actor
  pub job : is_job state ≡ true
  pub fine : Fine d state task
  pub inside : (n : ℕ) → IsInRange task n → IsInRange before n
  pub beyond : IsInRange task t → ⊥
  pub node_names : EachInState (ValueNames d) state
  pub node_shown : EachInState IsOpen state
  -- the other cell
  pub other_job : is_some other.task ≡ is_job other.state
  pub other_task : (x : TaskState) → other.task ≡ Some x → (IsTaskOf c t x × Fine d other.state x) ⊎ IsChild d t before task other.state x
  pub other_names : EachInState (ValueNames d) other.state
  pub other_shown : EachInState IsOpen other.state
  -- the cell lies in nobody else's range
  pub nobody : (n : ℕ) (x : TaskState) → IsTaskOf c n x → (n ≡ k → ⊥) → IsInRange x t → ⊥
  pub extends : Extends c d

-- one of three places
data Where (k t n : ℕ) : Type 0 where
  AtK : n ≡ k → Where k t n
  AtT : n ≡ t → Where k t n
  Else : (n ≡ k → ⊥) → (n ≡ t → ⊥) → Where k t n

where_is : (k t n : ℕ) → Where k t n
where_is k t n = by (eqb_tells n k) (eqb_tells n t)
  where
    by : (((eqb n k ≡ true) × (n ≡ k)) ⊎ ((eqb n k ≡ false) × (n ≢ k))) → (((eqb n t ≡ true) × (n ≡ t)) ⊎ ((eqb n t ≡ false) × (n ≢ t))) → Where k t n
    by (inl p) q = AtK p.1
    by (inr p) (inl q) = AtT q.1
    by (inr p) (inr q) = Else p.1 q.1

-- the configuration after the turn is well-formed
pub sound-after : (c d : Configuration) (k t : ℕ) (before task : TaskState) (state : State) (other : Cell) → IsSound c → IsTaskOf c k before
    → Changes c d k t (record { state = state; task = Some task }) other → Suitable c d k t before task state other → IsSound d
sound-after c d k t before task state other sound is changes suitable = record {
  jobs = λ n. jobs n (where_is k t n);
  ranges = λ n x h. (fine n x h (where_is k t n)).range;
  free = λ n m x h r. free n m x h r (where_is k t n);
  apart = λ j n m one two h i r q. apart j n m one two h i r q (where_is k t j) (where_is k t n);
  names = λ n x h. (fine n x h (where_is k t n)).names;
  node_names = λ n. node_names n (where_is k t n);
  clearance = λ n x h. (fine n x h (where_is k t n)).clearance;
  result = λ n x label h. (fine n x h (where_is k t n)).result label;
  ended = λ n x h. (fine n x h (where_is k t n)).ended;
  accesses = λ n x h. (fine n x h (where_is k t n)).accesses;
  literals = λ n x h. (fine n x h (where_is k t n)).literals;
  calls = λ n x h. (fine n x h (where_is k t n)).calls;
  program = subst (λ (program : Program). All (λ (procedure : Procedure). IsTrue (block_says procedure.body)) program.procedures) (sym changes.program) sound.program;
  shown = λ n x h. (fine n x h (where_is k t n)).shown;
  node_shown = λ n. node_shown n (where_is k t n);
  few = omega (arith, sound.few, changes.size);
}
  where
    actor : Cell
    actor = record { state = state; task = Some task }

    cell : (n m : ℕ) (x : Cell) → n ≡ m → cell_at d m ≡ x → cell_at d n ≡ x
    cell n m x e h = ap (cell_at d) e ∙ h

    jobs : (n : ℕ) → Where k t n → is_some (cell_at d n).task ≡ is_job (cell_at d n).state
    jobs n (AtK e) = let h : cell_at d n ≡ actor = cell n k actor e changes.at_k in subst (λ (x : Cell). is_some x.task ≡ is_job x.state) (sym h) (sym suitable.job)
    jobs n (AtT e) = let h : cell_at d n ≡ other = cell n t other e changes.at_t in subst (λ (x : Cell). is_some x.task ≡ is_job x.state) (sym h) suitable.other_job
    jobs n (Else p q) = subst (λ (x : Cell). is_some x.task ≡ is_job x.state) (sym (changes.elsewhere n p q)) (sound.jobs n)

    node_names : (n : ℕ) → Where k t n → EachInState (ValueNames d) (cell_at d n).state
    node_names n (AtK e) = subst (λ (x : Cell). EachInState (ValueNames d) x.state) (sym (cell n k actor e changes.at_k)) suitable.node_names
    node_names n (AtT e) = subst (λ (x : Cell). EachInState (ValueNames d) x.state) (sym (cell n t other e changes.at_t)) suitable.other_names
    node_names n (Else p q) = subst (λ (x : Cell). EachInState (ValueNames d) x.state) (sym (changes.elsewhere n p q)) (state-map (ValueNames c) (ValueNames d) (value-extends c d suitable.extends) (cell_at c n).state (sound.node_names n))

    node_shown : (n : ℕ) → Where k t n → EachInState IsOpen (cell_at d n).state
    node_shown n (AtK e) = subst (λ (x : Cell). EachInState IsOpen x.state) (sym (cell n k actor e changes.at_k)) suitable.node_shown
    node_shown n (AtT e) = subst (λ (x : Cell). EachInState IsOpen x.state) (sym (cell n t other e changes.at_t)) suitable.other_shown
    node_shown n (Else p q) = subst (λ (x : Cell). EachInState IsOpen x.state) (sym (changes.elsewhere n p q)) (sound.node_shown n)

    -- the tasks of the cells
    task_k : (n : ℕ) (x : TaskState) → n ≡ k → IsTaskOf d n x → task ≡ x
    task_k n x e h = let one : Some task ≡ Some x = sym (ap (λ (y : Cell). y.task) (cell n k actor e changes.at_k)) ∙ h in cc

    task_t : (n : ℕ) (x : TaskState) → n ≡ t → IsTaskOf d n x → other.task ≡ Some x
    task_t n x e h = sym (ap (λ (y : Cell). y.task) (cell n t other e changes.at_t)) ∙ h

    task_else : (n : ℕ) (x : TaskState) → (n ≡ k → ⊥) → (n ≡ t → ⊥) → IsTaskOf d n x → IsTaskOf c n x
    task_else n x p q h = sym (ap (λ (y : Cell). y.task) (changes.elsewhere n p q)) ∙ h

    fine_t : (x : TaskState) → (IsTaskOf c t x × Fine d other.state x) ⊎ IsChild d t before task other.state x → Fine d other.state x
    fine_t x (inl p) = p.1
    fine_t x (inr p) = p.fine

    fine : (n : ℕ) (x : TaskState) → IsTaskOf d n x → Where k t n → Fine d (cell_at d n).state x
    fine n x h (AtK e) = subst (λ (y : Cell). Fine d y.state x) (sym (cell n k actor e changes.at_k)) (subst (Fine d state) (task_k n x e h) suitable.fine)
    fine n x h (AtT e) = subst (λ (y : Cell). Fine d y.state x) (sym (cell n t other e changes.at_t)) (fine_t x (suitable.other_task x (task_t n x e h)))
    fine n x h (Else p q) =
        let same : cell_at d n ≡ cell_at c n = changes.elsewhere n p q in
        subst (λ (y : Cell). Fine d y.state x) (sym same) (fine-extends c d (cell_at c n).state (cell_at c n).state x suitable.extends changes.size refl refl (fine-of c n x sound (task_else n x p q h)))

    -- a number in a range
    number_k : (n : ℕ) (x : TaskState) → n ≡ k → IsTaskOf d n x → (m : ℕ) → IsInRange x m → IsInRange task m
    number_k n x e h m r = subst (λ (y : TaskState). IsInRange y m) (sym (task_k n x e h)) r

    not_k : (n m : ℕ) (x : TaskState) → IsTaskOf c n x → IsInRange x m → m ≡ k → ⊥
    not_k n m x h r e =
        let empty : cell_at c k ≡ blank = subst (λ (i : ℕ). cell_at c i ≡ blank) e (sound.free n m x h r) in
        let none : Some before ≡ None = sym is ∙ ap (λ (y : Cell). y.task) empty in cc

    blank_else : (m : ℕ) → cell_at c m ≡ blank → (m ≡ k → ⊥) → (m ≡ t → ⊥) → cell_at d m ≡ blank
    blank_else m empty p q = changes.elsewhere m p q ∙ empty

    not_t : (m : ℕ) (x : TaskState) → (IsInRange x t → ⊥) → IsInRange x m → m ≡ t → ⊥
    not_t m x no_ r e = no_ (subst (IsInRange x) e r)

    free_t : (m : ℕ) (x : TaskState) → (IsTaskOf c t x × Fine d other.state x) ⊎ IsChild d t before task other.state x → IsInRange x m → cell_at d m ≡ blank
    free_t m x (inl p) r = blank_else m (sound.free t m x p.0 r) (not_k t m x p.0 r) (not_t m x (suitable.nobody t x p.0 (λ e. changes.apart (sym e))) r)
    free_t m x (inr p) r = blank_else m (sound.free k m before is (p.inside m r)) (not_k k m before is (p.inside m r)) (not_t m x p.behind r)

    free : (n m : ℕ) (x : TaskState) → IsTaskOf d n x → IsInRange x m → Where k t n → cell_at d m ≡ blank
    free n m x h r (AtK e) =
        let q : IsInRange task m = number_k n x e h m r in
        blank_else m (sound.free k m before is (suitable.inside m q)) (not_k k m before is (suitable.inside m q)) (not_t m task suitable.beyond q)
    free n m x h r (AtT e) = free_t m x (suitable.other_task x (task_t n x e h)) r
    free n m x h r (Else p q) = let i : IsTaskOf c n x = task_else n x p q h in blank_else m (sound.free n m x i r) (not_k n m x i r) (not_t m x (suitable.nobody n x i p) r)

    -- no two tasks share a number
    clash : (j n m : ℕ) (one two : TaskState) → IsTaskOf c j one → IsTaskOf c n two → IsInRange one m → IsInRange two m → (j ≡ n → ⊥) → ⊥
    clash j n m one two h i r q differ = differ (sound.apart j n m one two h i r q)

    t_k : (m : ℕ) (x : TaskState) → (IsTaskOf c t x × Fine d other.state x) ⊎ IsChild d t before task other.state x → IsInRange x m → IsInRange task m → ⊥
    t_k m x (inl p) r q = clash t k m x before p.0 is r (suitable.inside m q) (λ e. changes.apart (sym e))
    t_k m x (inr p) r q = p.apart m r q

    t_else : (n m : ℕ) (x y : TaskState) → (IsTaskOf c t x × Fine d other.state x) ⊎ IsChild d t before task other.state x → IsTaskOf c n y → (n ≡ k → ⊥) → (n ≡ t → ⊥) → IsInRange x m → IsInRange y m → ⊥
    t_else n m x y (inl p) i a b r q = clash t n m x y p.0 i r q (λ e. b (sym e))
    t_else n m x y (inr p) i a b r q = clash k n m before y is i (p.inside m r) q (λ e. a (sym e))

    apart : (j n m : ℕ) (one two : TaskState) → IsTaskOf d j one → IsTaskOf d n two → IsInRange one m → IsInRange two m → Where k t j → Where k t n → j ≡ n
    apart j n m one two h i r q (AtK e) (AtK f) = e ∙ sym f
    apart j n m one two h i r q (AtT e) (AtT f) = e ∙ sym f
    apart j n m one two h i r q (AtK e) (AtT f) = absurd (t_k m two (suitable.other_task two (task_t n two f i)) q (number_k j one e h m r))
    apart j n m one two h i r q (AtT e) (AtK f) = absurd (t_k m one (suitable.other_task one (task_t j one e h)) r (number_k n two f i m q))
    apart j n m one two h i r q (AtK e) (Else a b) = absurd (clash k n m before two is (task_else n two a b i) (suitable.inside m (number_k j one e h m r)) q (λ x. a (sym x)))
    apart j n m one two h i r q (Else a b) (AtK f) = absurd (clash j k m one before (task_else j one a b h) is r (suitable.inside m (number_k n two f i m q)) a)
    apart j n m one two h i r q (AtT e) (Else a b) = absurd (t_else n m one two (suitable.other_task one (task_t j one e h)) (task_else n two a b i) a b r q)
    apart j n m one two h i r q (Else a b) (AtT f) = absurd (t_else j m two one (suitable.other_task two (task_t n two f i)) (task_else j one a b h) a b q r)
    apart j n m one two h i r q (Else a b) (Else a' b') = sound.apart j n m one two (task_else j one a b h) (task_else n two a' b' i) r q
