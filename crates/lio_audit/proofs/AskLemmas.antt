-- The code's rounds, task by task.
use Rattle.std.proofs.Common.{◌≡◌, ◌∙◌, refl, sym, ap, subst, ℕ, zero, suc, ◌+◌, ◌<◌, ◌≤◌, Bool, true, false, if◌then◌else◌, List, [], ◌∷◌, ◌++◌, length, length-append, drop, get_or, map, Option, Some, None, is_some, append_assoc, append-nil, arith}
use Rattle.std.proofs.Math.ListN.{get_or-append}
use Rattle.lio_values.specs.declared.entry.Entry.{Entry}
use Rattle.lio_syntax.specs.Statements.{Procedure}
use Rattle.lio_events.specs.Tickets.{AreBelow}
use Rattle.lio_calculus.specs.Erased.{low}
use Rattle.lio_calculus_runs.specs.Round.{born_in}
use Rattle.lio_calculus_runs.specs.Rounds.{tasks_from}
use Rattle.lio_calculus_runs.proofs.LowTurnLemmas.{low_ticket_stands_in_the_entry}
use Rattle.lio_task.specs.declared.config.Holder.{Holder}
use Rattle.lio_erasure.specs.Low.{low_cell_of}
use Rattle.lio_erasure.specs.LowParts.{low_of}
use Rattle.lio_erasure.specs.Turn.{TakesTurn}
use Rattle.lio_audit.specs.declared.rerun.Rerun.{Rerun}
use Rattle.lio_audit.specs.declared.view_fault.RerunFault.{RerunFault}
use Rattle.lio_audit.specs.declared.view_fault.RerunFault.TheVariants.{NoRelease, NoMemory}
use Rattle.lio_audit.specs.Asking.{HasAsked, HasCome, Lacks, LacksLater, RerunState, RoundsSay, rerun_of}
use Rattle.lio_audit.proofs.RerunLemmas.{come-further, come-lacks, come-moves, come-none, come-skips, lacks-further}

-- rounds in which nothing was done
pub rerun-same : (old new : Rerun) → low_of new.low ≡ low_of old.low → new.releases ≡ old.releases → new.journal ≡ old.journal → new.order.items ≡ old.order.items → rerun_of new ≡ rerun_of old
rerun-same old new l r j o = λ i. record { observer = (l i).observer; configuration = (l i).configuration; contents = r i; entries = j i; order = o i }

-- a turn was taken, and its entry has its ticket
pub asked-took : (old new : Rerun) (k count : ℕ) (entry : Entry) → TakesTurn (low_of old.low) (low_of new.low) k old.releases new.releases entry → count ≡ length old.journal
    → new.journal ≡ old.journal ++ record entry { ticket = count } ∷ [] → new.order.items ≡ old.order.items ++ born_in (record entry { ticket = count }) → HasAsked (rerun_of old) (rerun_of new) k true
asked-took old new k count entry takes is journal order = (
  record entry { ticket = count },
  record {
    is_step = subst (λ (n : ℕ). low (low_of old.low).observer n (low_of old.low).configuration k old.releases ≡ Some (record { entry = record entry { ticket = count }; next = (low_of new.low).configuration; left = new.releases })) is
        (low_ticket_stands_in_the_entry (low_of old.low).observer 0 count (low_of old.low).configuration k old.releases (record { entry = entry; next = (low_of new.low).configuration; left = new.releases }) takes.turn);
    entries = journal;
    order = order;
    observer = takes.observer;
  },
)

-- a round so far: the tasks from a place on are still to be asked
pub record WalkedTo (old now : RerunState) (moved : Bool) (i : ℕ) : Type 0 where
  pub come : HasCome old now moved (drop i old.order)
  pub born : List ℕ
  pub order : now.order ≡ old.order ++ born
  pub below : AreBelow (length now.entries) now.entries

pub walked-none : (m : RerunState) → AreBelow (length m.entries) m.entries → WalkedTo m m false 0
walked-none m below = record { come = come-none m; born = []; order = sym (append-nil m.order); below = below }

drop-first : (ks : List ℕ) (i : ℕ) → i < length ks → drop i ks ≡ get_or ks i 0 ∷ drop (i + 1) ks
drop-first [] i within = absurd (omega arith)
drop-first (k ∷ ks) zero within = refl
drop-first (k ∷ ks) (suc i) within =
    let more : suc (i + 1) ≡ suc i + 1 = omega arith in
    drop-first ks i (omega arith) ∙ ap (λ (n : ℕ). get_or ks i 0 ∷ drop n (k ∷ ks)) more

-- a task is asked
pub walked-asked : (old now new : RerunState) (moved went : Bool) (i k : ℕ) → WalkedTo old now moved i → i < length old.order → k ≡ get_or now.order i 0 → HasAsked now new k went → AreBelow (length new.entries) new.entries
    → WalkedTo old new (if went then true else moved) (i + 1)
walked-asked old now new moved went i k so_far within is asked below = by went asked
  where
    at : k ≡ get_or old.order i 0
    at = is ∙ ap (λ (ks : List ℕ). get_or ks i 0) so_far.order ∙ get_or-append old.order so_far.born 0 i within

    here : HasCome old now moved (k ∷ drop (i + 1) old.order)
    here = subst (HasCome old now moved) (drop-first old.order i within ∙ ap (λ (j : ℕ). j ∷ drop (i + 1) old.order) (sym at)) so_far.come

    by : (went : Bool) → HasAsked now new k went → WalkedTo old new (if went then true else moved) (i + 1)
    by true a = record {
      come = come-moves old now new moved k (drop (i + 1) old.order) a.0 here a.1;
      born = so_far.born ++ born_in a.0;
      order = a.1.order ∙ ap (λ (ks : List ℕ). ks ++ born_in a.0) so_far.order ∙ append_assoc old.order so_far.born (born_in a.0);
      below = below;
    }
    by false a = subst (λ (m : RerunState). WalkedTo old m moved (i + 1)) (sym a.0) (record {
      come = come-skips old now moved k (drop (i + 1) old.order) here a.1;
      born = so_far.born;
      order = so_far.order;
      below = so_far.below;
    })

-- a task that is asked lacks a content
pub walked-lacks : (old now : RerunState) (moved : Bool) (i k : ℕ) (fault : RerunFault) → WalkedTo old now moved i → i < length old.order → k ≡ get_or now.order i 0 → Lacks now k fault → RoundsSay old fault
walked-lacks old now moved i k (NoRelease n) so_far within is lacks = subst (LacksLater old) (sym lacks.0) (come-lacks old now moved k (drop (i + 1) old.order) here lacks.1)
  where
    at : k ≡ get_or old.order i 0
    at = is ∙ ap (λ (ks : List ℕ). get_or ks i 0) so_far.order ∙ get_or-append old.order so_far.born 0 i within

    here : HasCome old now moved (k ∷ drop (i + 1) old.order)
    here = subst (HasCome old now moved) (drop-first old.order i within ∙ ap (λ (j : ℕ). j ∷ drop (i + 1) old.order) (sym at)) so_far.come
walked-lacks old now moved i k NoMemory so_far within is lacks = tt

-- the order has grown, so a place in the old one is a place in it
pub walked-inside : (old now : RerunState) (moved : Bool) (i : ℕ) → WalkedTo old now moved i → i < length old.order → i < length now.order
walked-inside old now moved i so_far within =
    let long : length now.order ≡ length old.order + length so_far.born = ap (λ (ks : List ℕ). length ks) so_far.order ∙ length-append old.order so_far.born in
    omega arith

-- what comes from a later moment comes from an earlier one
pub record Leads (old now : RerunState) : Type 0 where
  pub comes : (new : RerunState) (moved : Bool) (rest : List ℕ) → HasCome now new moved rest → HasCome old new moved rest
  pub lacks : (k : ℕ) → LacksLater now k → LacksLater old k
  pub below : AreBelow (length now.entries) now.entries

pub leads-none : (m : RerunState) → AreBelow (length m.entries) m.entries → Leads m m
leads-none m below = record { comes = λ new moved rest come. come; lacks = λ k lacks. lacks; below = below }

pub leads-round : (old now new : RerunState) → Leads old now → HasCome now new true [] → AreBelow (length new.entries) new.entries → Leads old new
leads-round old now new leads come below = record {
  comes = λ last moved rest later. leads.comes last moved rest (come-further now new last moved rest come later);
  lacks = λ k later. leads.lacks k (lacks-further now new k come later);
  below = below;
}

-- the tasks of cells that are gone through one by one
has-task : (script : List Procedure) (n : ℕ) (cell : Option Holder) (cells : List (Option Holder)) (b : Bool) → b ≡ is_some (low_cell_of script cell).task
    → tasks_from n (map (low_cell_of script) (cell ∷ cells)) ≡ (if b then n ∷ [] else []) ++ tasks_from (n + 1) (map (low_cell_of script) cells)
unfolding tasks_from
has-task script n cell cells b is = ap (λ (x : Bool). if x then n ∷ tasks_from (n + 1) (map (low_cell_of script) cells) else tasks_from (n + 1) (map (low_cell_of script) cells)) (sym is) ∙ by b
  where
    by : (x : Bool) → (if x then n ∷ tasks_from (n + 1) (map (low_cell_of script) cells) else tasks_from (n + 1) (map (low_cell_of script) cells)) ≡ (if x then n ∷ [] else []) ++ tasks_from (n + 1) (map (low_cell_of script) cells)
    by true = refl
    by false = refl

drop-cell : (cells : List (Option Holder)) (i : ℕ) → i < length cells → drop i cells ≡ get_or cells i None ∷ drop (i + 1) cells
drop-cell [] i within = absurd (omega arith)
drop-cell (k ∷ ks) zero within = refl
drop-cell (k ∷ ks) (suc i) within =
    let more : suc (i + 1) ≡ suc i + 1 = omega arith in
    drop-cell ks i (omega arith) ∙ ap (λ (n : ℕ). get_or ks i None ∷ drop n (k ∷ ks)) more

-- inside a list the default doesn't count
pub same-cell : (cells : List (Option Holder)) (i : ℕ) (one other : Option Holder) → i < length cells → get_or cells i one ≡ get_or cells i other
same-cell [] i one other within = absurd (omega arith)
same-cell (cell ∷ cells) zero one other within = refl
same-cell (cell ∷ cells) (suc i) one other within = same-cell cells i one other (omega arith)

-- the tasks so far, and those of the cells that are left
abbrev pub ListsTasks : List ℕ → List (Option Holder) → ℕ → Type 0
ListsTasks order cells i = (script : List Procedure) → order ++ tasks_from i (map (low_cell_of script) (drop i cells)) ≡ tasks_from 0 (map (low_cell_of script) cells)

pub lists-next : (order : List ℕ) (cells : List (Option Holder)) (i : ℕ) (b : Bool) → ListsTasks order cells i → i < length cells → ((script : List Procedure) → b ≡ is_some (low_cell_of script (get_or cells i None)).task)
    → ListsTasks (order ++ (if b then i ∷ [] else [])) cells (i + 1)
lists-next order cells i b lists within is script =
    append_assoc order (if b then i ∷ [] else []) (tasks_from (i + 1) (map (low_cell_of script) (drop (i + 1) cells)))
    ∙ ap (λ (ks : List ℕ). order ++ ks) (sym (has-task script i (get_or cells i None) (drop (i + 1) cells) b (is script)))
    ∙ ap (λ (cs : List (Option Holder)). order ++ tasks_from i (map (low_cell_of script) cs)) (sym (drop-cell cells i within))
    ∙ lists script

drop-end : (cells : List (Option Holder)) (i : ℕ) → length cells ≤ i → drop i cells ≡ []
drop-end [] zero all = refl
drop-end [] (suc i) all = refl
drop-end (cell ∷ cells) zero all = absurd (omega arith)
drop-end (cell ∷ cells) (suc i) all = drop-end cells i (omega arith)

pub lists-ends : (order : List ℕ) (cells : List (Option Holder)) (i : ℕ) → ListsTasks order cells i → length cells ≤ i → (script : List Procedure) → order ≡ tasks_from 0 (map (low_cell_of script) cells)
unfolding tasks_from
lists-ends order cells i lists past script =
    sym (append-nil order) ∙ ap (λ (cs : List (Option Holder)). order ++ tasks_from i (map (low_cell_of script) cs)) (sym (drop-end cells i past)) ∙ lists script
