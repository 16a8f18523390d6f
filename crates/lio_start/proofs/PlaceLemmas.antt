-- Which cell of a first configuration stands at a number: a channel, the job of a task, or nothing.
use Rattle.std.proofs.Common.{◌≡◌, ◌∙◌, refl, sym, ap, ℕ, zero, suc, ◌+◌, ◌-◌, ◌<◌, ◌≤◌, ◌⊎◌, inl, inr, List, [], ◌∷◌, ◌++◌, length, take, map, Option, Some, None, arith}
use Rattle.std.specs.Prelude.{slice_get, slice_index_or, replicate, option_map}
use Rattle.std.proofs.lemmas.Bool.{cases_order}
use Rattle.std.proofs.lemmas.List.{length-append, length-map, length-replicate, get_or_append_left, get_or-append-add, get_or-replicate, get_or_past}
use Rattle.std.proofs.lemmas.List.Sums.{sum_by-cons}
use Rattle.std.proofs.lemmas.Option.{slice_get_within, get_or_from_slice_get, slice_get-map}
use Rattle.lio_values.specs.declared.value.Value.{Value}
use Rattle.lio_syntax.specs.Statements.{Procedure}
use Rattle.lio_calculus.specs.Task.{TaskState}
use Rattle.lio_calculus.specs.Step.{Cell, Configuration, blank, cell_at}
use Rattle.lio_calculus.specs.Sound.{IsTaskOf}
use Rattle.lio_policy.specs.Policy.{PolicyParts}
use Rattle.lio_policy.specs.declared.policy.FileEntry.{FileEntry}
use Rattle.lio_policy.specs.declared.policy.TaskEntry.{TaskEntry}
use Rattle.lio_start.specs.Laws.{CellsStandInOrder}
use Rattle.lio_start.specs.Start.{inputs_of, task_of, channel_cell, job_cell, job_cells, cells_in_all, ranges_from, start_of}

-- how many numbers the tasks before a place own
abbrev pub cells_before : List TaskEntry → ℕ → ℕ
cells_before [] i = 0
cells_before (task ∷ tasks) zero = 0
cells_before (task ∷ tasks) (suc i) = task.cells + cells_before tasks i

-- where nothing is at a place the list has ended
past : {X : Type 0} (xs : List X) (i : ℕ) → slice_get xs i ≡ None → length xs ≤ i
past [] i e = omega arith
past (x ∷ xs) zero e = absurd (cc)
past (x ∷ xs) (suc i) e = omega (arith, past xs i e)

-- the ranges of tasks stand behind each other
pub before-later : (tasks : List TaskEntry) (i j : ℕ) (task : TaskEntry) → slice_get tasks i ≡ Some task → i < j → cells_before tasks i + task.cells ≤ cells_before tasks j
before-later [] i j task e less = absurd (cc)
before-later (first ∷ tasks) i zero task e less = absurd (omega arith)
before-later (first ∷ tasks) zero (suc j) task e less = let is : first ≡ task = cc in omega (arith, ap (λ (t : TaskEntry). t.cells) is)
before-later (first ∷ tasks) (suc i) (suc j) task e less = omega (arith, before-later tasks i j task e (omega arith))

pub before-all : (tasks : List TaskEntry) (i : ℕ) (task : TaskEntry) → slice_get tasks i ≡ Some task → cells_before tasks i + task.cells ≤ cells_in_all tasks
before-all [] i task e = absurd (cc)
before-all (first ∷ tasks) zero task e = let is : first ≡ task = cc in omega (arith, ap (λ (t : TaskEntry). t.cells) is, sum_by-cons (λ (t : TaskEntry). t.cells) first tasks)
before-all (first ∷ tasks) (suc i) task e = omega (arith, before-all tasks i task e, sum_by-cons (λ (t : TaskEntry). t.cells) first tasks)

pub before-sum : (tasks : List TaskEntry) (i : ℕ) → cells_before tasks i ≡ cells_in_all (take i tasks)
before-sum [] zero = refl
before-sum [] (suc i) = refl
before-sum (first ∷ tasks) zero = refl
before-sum (first ∷ tasks) (suc i) = ap (λ (n : ℕ). first.cells + n) (before-sum tasks i) ∙ sym (sum_by-cons (λ (t : TaskEntry). t.cells) first (take i tasks))

-- the jobs
length-job_cells : (script : List Procedure) (inputs : List Value) (tasks : List TaskEntry) (first : ℕ) → length (job_cells script inputs first tasks) ≡ length tasks
unfolding job_cells
length-job_cells script inputs [] first = refl
length-job_cells script inputs (task ∷ tasks) first = ap suc (length-job_cells script inputs tasks _)

job_cells-at : (script : List Procedure) (inputs : List Value) (first : ℕ) (tasks : List TaskEntry) (i : ℕ) (task : TaskEntry) → slice_get tasks i ≡ Some task
    → slice_index_or (job_cells script inputs first tasks) i blank ≡ job_cell script inputs (first + cells_before tasks i) task
unfolding job_cells
job_cells-at script inputs first [] i task e = absurd (cc)
job_cells-at script inputs first (here ∷ tasks) zero task e =
    let is : here ≡ task = cc in
    let same : first ≡ first + 0 = omega arith in
    ap (job_cell script inputs first) is ∙ ap (λ (n : ℕ). job_cell script inputs n task) same
job_cells-at script inputs first (here ∷ tasks) (suc i) task e =
    let same : (first + here.cells) + cells_before tasks i ≡ first + (here.cells + cells_before tasks i) = omega arith in
    job_cells-at script inputs (first + here.cells) tasks i task e ∙ ap (λ (n : ℕ). job_cell script inputs n task) same

-- the cells behind the jobs
nothing-at : (n i : ℕ) → slice_index_or (replicate n blank) i blank ≡ blank
nothing-at n i = by (cases_order i n)
  where
    by : (i ≡ n) ⊎ ((i < n) ⊎ (n < i)) → slice_index_or (replicate n blank) i blank ≡ blank
    by (inl same) = get_or_past (replicate n blank) i blank (omega (arith, length-replicate n blank))
    by (inr (inl less)) = get_or-replicate n i blank blank less
    by (inr (inr more)) = get_or_past (replicate n blank) i blank (omega (arith, length-replicate n blank))

-- a list in three parts
left-at : (xs ys zs : List Cell) (i : ℕ) → i < length xs → slice_index_or (xs ++ (ys ++ zs)) i blank ≡ slice_index_or xs i blank
left-at xs ys zs i within = get_or_append_left xs (ys ++ zs) blank i within

middle-at : (xs ys zs : List Cell) (n i : ℕ) → n ≡ length xs → i < length ys → slice_index_or (xs ++ (ys ++ zs)) (n + i) blank ≡ slice_index_or ys i blank
middle-at xs ys zs n i same within =
    ap (λ (m : ℕ). slice_index_or (xs ++ (ys ++ zs)) (m + i) blank) same ∙ get_or-append-add xs (ys ++ zs) i blank ∙ get_or_append_left ys zs blank i within

right-at : (xs ys zs : List Cell) (n m i : ℕ) → n ≡ length xs → m ≡ length ys → slice_index_or (xs ++ (ys ++ zs)) (n + (m + i)) blank ≡ slice_index_or zs i blank
right-at xs ys zs n m i one two =
    ap (λ (k : ℕ). slice_index_or (xs ++ (ys ++ zs)) (k + (m + i)) blank) one ∙ get_or-append-add xs (ys ++ zs) (m + i) blank
    ∙ ap (λ (k : ℕ). slice_index_or (ys ++ zs) (k + i) blank) two ∙ get_or-append-add ys zs i blank

-- the number of a channel is its place
pub channel-at : (policy : PolicyParts) (script : List Procedure) (inputs : List (List ℕ)) (i : ℕ) (channel : FileEntry) → slice_get policy.channels i ≡ Some channel
    → cell_at (start_of policy script inputs) i ≡ channel_cell channel
unfolding start_of
channel-at policy script inputs i channel e =
    let within : i < length policy.channels = slice_get_within policy.channels i channel e in
    left-at (map channel_cell policy.channels) (job_cells script (inputs_of policy inputs) (ranges_from policy) policy.tasks) (replicate (cells_in_all policy.tasks) blank) i
    (omega (arith, length-map policy.channels channel_cell))
    ∙ get_or_from_slice_get (map channel_cell policy.channels) i (channel_cell channel) blank (slice_get-map channel_cell policy.channels i ∙ ap (option_map channel_cell) e)

-- the tasks follow the channels
pub job-at : (policy : PolicyParts) (script : List Procedure) (inputs : List (List ℕ)) (i : ℕ) (task : TaskEntry) → slice_get policy.tasks i ≡ Some task
    → cell_at (start_of policy script inputs) (length policy.channels + i) ≡ job_cell script (inputs_of policy inputs) (ranges_from policy + cells_before policy.tasks i) task
unfolding start_of
job-at policy script inputs i task e =
    let within : i < length policy.tasks = slice_get_within policy.tasks i task e in
    middle-at (map channel_cell policy.channels) (job_cells script (inputs_of policy inputs) (ranges_from policy) policy.tasks) (replicate (cells_in_all policy.tasks) blank) (length policy.channels) i
    (sym (length-map policy.channels channel_cell)) (omega (arith, length-job_cells script (inputs_of policy inputs) policy.tasks (ranges_from policy)))
    ∙ job_cells-at script (inputs_of policy inputs) (ranges_from policy) policy.tasks i task e

-- nothing stands behind the tasks
pub nothing-behind : (policy : PolicyParts) (script : List Procedure) (inputs : List (List ℕ)) (k : ℕ) → ranges_from policy ≤ k → cell_at (start_of policy script inputs) k ≡ blank
unfolding start_of
nothing-behind policy script inputs k behind =
    let i : ℕ = k - ranges_from policy in
    let same : k ≡ length policy.channels + (length policy.tasks + i) = omega arith in
    ap (cell_at (start_of policy script inputs)) same
    ∙ right-at (map channel_cell policy.channels) (job_cells script (inputs_of policy inputs) (ranges_from policy) policy.tasks) (replicate (cells_in_all policy.tasks) blank)
    (length policy.channels) (length policy.tasks) i (sym (length-map policy.channels channel_cell)) (sym (length-job_cells script (inputs_of policy inputs) policy.tasks (ranges_from policy)))
    ∙ nothing-at (cells_in_all policy.tasks) i

-- how many cells there are
pub length-start : (policy : PolicyParts) (script : List Procedure) (inputs : List (List ℕ)) → length (start_of policy script inputs).cells ≡ ranges_from policy + cells_in_all policy.tasks
unfolding start_of
length-start policy script inputs =
    let jobs : List Cell = job_cells script (inputs_of policy inputs) (ranges_from policy) policy.tasks in
    omega (
      arith,
      length-append (map channel_cell policy.channels) (jobs ++ replicate (cells_in_all policy.tasks) blank),
      length-append jobs (replicate (cells_in_all policy.tasks) blank),
      length-map policy.channels channel_cell,
      length-job_cells script (inputs_of policy inputs) policy.tasks (ranges_from policy),
      length-replicate (cells_in_all policy.tasks) blank,
    )

-- a channel stands at a number
pub record IsChannel (policy : PolicyParts) (c : Configuration) (k : ℕ) : Type 0 where
  pub channel : FileEntry
  pub is : slice_get policy.channels k ≡ Some channel
  pub cell : cell_at c k ≡ channel_cell channel

-- a task stands at a number
pub record IsJob (policy : PolicyParts) (script : List Procedure) (inputs : List (List ℕ)) (c : Configuration) (k : ℕ) : Type 0 where
  pub place : ℕ
  pub entry : TaskEntry
  pub number : k ≡ length policy.channels + place
  pub is : slice_get policy.tasks place ≡ Some entry
  pub cell : cell_at c k ≡ job_cell script (inputs_of policy inputs) (ranges_from policy + cells_before policy.tasks place) entry

-- what stands at a number
pub data Stands (policy : PolicyParts) (script : List Procedure) (inputs : List (List ℕ)) (c : Configuration) (k : ℕ) : Type 0 where
  Channel : IsChannel policy c k → Stands policy script inputs c k
  Task : IsJob policy script inputs c k → Stands policy script inputs c k
  Nothing : cell_at c k ≡ blank → Stands policy script inputs c k

pub stands : (policy : PolicyParts) (script : List Procedure) (inputs : List (List ℕ)) (k : ℕ) → Stands policy script inputs (start_of policy script inputs) k
stands policy script inputs k = by_channel (slice_get policy.channels k) refl
  where
    by_task : (i : ℕ) → k ≡ length policy.channels + i → (o : Option TaskEntry) → slice_get policy.tasks i ≡ o → Stands policy script inputs (start_of policy script inputs) k
    by_task i number (Some entry) e =
        Task (record { place = i; entry = entry; number = number; is = e; cell = ap (cell_at (start_of policy script inputs)) number ∙ job-at policy script inputs i entry e })
    by_task i number None e = Nothing (nothing-behind policy script inputs k (omega (arith, past policy.tasks i e)))

    by_channel : (o : Option FileEntry) → slice_get policy.channels k ≡ o → Stands policy script inputs (start_of policy script inputs) k
    by_channel (Some channel) e = Channel (record { channel = channel; is = e; cell = channel-at policy script inputs k channel e })
    by_channel None e =
        let i : ℕ = k - length policy.channels in
        by_task i (omega (arith, past policy.channels k e)) (slice_get policy.tasks i) refl

-- a task of a first configuration is one of the policy's
pub record IsBegun (policy : PolicyParts) (script : List Procedure) (inputs : List (List ℕ)) (k : ℕ) (task : TaskState) : Type 0 where
  pub job : IsJob policy script inputs (start_of policy script inputs) k
  pub is : task_of script (inputs_of policy inputs) (ranges_from policy + cells_before policy.tasks job.place) job.entry ≡ task

pub begun : (policy : PolicyParts) (script : List Procedure) (inputs : List (List ℕ)) (k : ℕ) (task : TaskState) → IsTaskOf (start_of policy script inputs) k task → IsBegun policy script inputs k task
begun policy script inputs k task e = by (stands policy script inputs k)
  where
    some : (one other : TaskState) → Some one ≡ Some other → one ≡ other
    some one other same = cc

    by : Stands policy script inputs (start_of policy script inputs) k → IsBegun policy script inputs k task
    by (Channel channel) = let none : None ≡ Some task = sym (ap (λ (cell : Cell). cell.task) channel.cell) ∙ e in absurd (cc)
    by (Task job) = record { job = job; is = some _ task (sym (ap (λ (cell : Cell). cell.task) job.cell) ∙ e) }
    by (Nothing nothing) = let none : None ≡ Some task = sym (ap (λ (cell : Cell). cell.task) nothing) ∙ e in absurd (cc)

pub cells_stand_in_order : CellsStandInOrder
cells_stand_in_order policy script texts = record {
  channels = channel-at policy script texts;
  tasks = λ i task e. job-at policy script texts i task e ∙ ap (λ (n : ℕ). job_cell script (inputs_of policy texts) (ranges_from policy + n) task) (before-sum policy.tasks i);
  free = nothing-behind policy script texts;
  size = length-start policy script texts;
}
