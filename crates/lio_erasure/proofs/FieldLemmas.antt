-- The turns of the erased calculus, by the fields of what takes them.
use Rattle.std.proofs.Common.{◌≡◌, ◌∙◌, sym, ap, subst, ℕ, true, false, List, Option, Some, None}
use Rattle.lio_values.specs.declared.act.Act.{Act}
use Rattle.lio_values.specs.declared.act.Reply.{Reply}
use Rattle.lio_values.specs.declared.act.Reply.TheVariants.{Done}
use Rattle.lio_values.specs.declared.entry.Entry.{Entry}
use Rattle.lio_cells.specs.State.{answer, is_absent}
use Rattle.lio_calculus.specs.Step.{Configuration, blank, cell_at, met_after, waits}
use Rattle.lio_task_turns.specs.StateOf.{program_of}
use Rattle.lio_task.specs.declared.task.Task.{Task}
use Rattle.lio_task.specs.declared.config.Holder.{Holder}
use Rattle.lio_erasure.specs.Low.{IsErased, low_cell_of, low_configuration_of, low_task_in, seen_cell}
use Rattle.lio_erasure.specs.LowParts.{LowParts, ErasedState, low_of}
use Rattle.lio_erasure.specs.Turn.{CanAdvance, Follows, IsShown, Moves, PlansOwn, VisitsNew, VisitsNode, placed, served}
use Rattle.lio_erasure.proofs.TurnLemmas.{ActsIn, actor-there, can-advance, met-made, missed-made, new-made, own-made, went_to}

-- the configuration that holders stand for, with the other fields
abbrev pub with_holders : LowParts → List (Option Holder) → Configuration
with_holders parts holders = low_configuration_of parts.script parts.longest holders

-- the configuration of the fields
abbrev pub held : LowParts → Configuration
held parts = with_holders parts parts.holders

-- what contracts see of the fields is as the observer sees it, too
pub erased-now : (inside now : LowParts) → inside ≡ now → IsErased inside.observer (held inside) → IsErased now.observer (held now)
erased-now inside now same = subst (λ (parts : LowParts). IsErased parts.observer (held parts)) same

-- a refusal leaves all as it was
pub same-erased : (inside : LowParts) (went : List (Option Holder)) → with_holders inside went ≡ held inside → IsErased inside.observer (held inside) → IsErased inside.observer (with_holders inside went)
same-erased inside went same = subst (IsErased inside.observer) (sym same)

pub same-low_of : (inside now : LowParts) (went : List (Option Holder)) → inside ≡ now → with_holders inside went ≡ held inside → low_of (went_to inside went) ≡ low_of now
same-low_of inside now went same stays = ap (λ (d : Configuration). let state : ErasedState = record { observer = inside.observer; configuration = d } in state) stays ∙ ap low_of same

-- the task of a turn can go on
pub can-go : (inside now : LowParts) (k : ℕ) (number : Option ℕ) (asked : Act) (reply : Reply) (shown : Entry) → inside ≡ now → ActsIn now k asked reply → IsShown now k number asked reply shown
    → CanAdvance inside.observer (held inside) shown.actor shown.act shown.reply
can-go inside now k number asked reply shown same acts shows =
    subst (λ (parts : LowParts). CanAdvance parts.observer (held parts) shown.actor shown.act shown.reply) (sym same) (can-advance now k number asked reply shown acts shows)

-- and its cell is there
pub actor-held : (inside now : LowParts) (k : ℕ) (number : Option ℕ) (asked : Act) (reply : Reply) (shown : Entry) (task : Task) → inside ≡ now → IsErased inside.observer (held inside) → low_task_in now.holders k ≡ Some task → IsShown now k number asked reply shown
    → is_absent (cell_at (held inside) shown.actor).state ≡ false
actor-held inside now k number asked reply shown task same erased is shows =
    ap (λ (e : Entry). is_absent (cell_at (held inside) e.actor).state) (shows task is)
    ∙ actor-there inside k task erased (ap (λ (parts : LowParts). low_task_in parts.holders k) same ∙ is)

-- a move from what contracts see of the fields, and what the fields are after it is as the observer sees it
abbrev pub Goes_to : LowParts → LowParts → List (Option Holder) → ℕ → Act → Entry → Type 0
Goes_to inside now went k asked shown = Moves (low_of now) (low_of (went_to inside went)) k asked shown × IsErased inside.observer (with_holders inside went)

pub own-goes : (inside now : LowParts) (went : List (Option Holder)) (k : ℕ) (asked : Act) (reply : Reply) (shown : Entry) → inside ≡ now → IsErased inside.observer (held inside)
    → Follows inside.observer (held inside) (served (held inside) k shown.act) (with_holders inside went) shown.actor shown.act shown.reply
    → PlansOwn now k asked reply → IsShown now k None asked reply shown → Goes_to inside now went k asked shown
own-goes inside now went k asked reply shown same erased follows =
    subst (λ (parts : LowParts). PlansOwn parts k asked reply → IsShown parts k None asked reply shown → Goes_to inside parts went k asked shown) same
    (λ p shows. let made = own-made inside went k asked reply shown erased p shows follows in (made.moved, made.erased))

pub met-goes : (inside now : LowParts) (went : List (Option Holder)) (k n : ℕ) (asked : Act) (reply : Reply) (shown : Entry) → inside ≡ now → IsErased inside.observer (held inside)
    → Follows inside.observer (held inside) (served (held inside) n shown.act) (with_holders inside went) shown.actor shown.act shown.reply
    → VisitsNode now k asked n true → reply ≡ answer (cell_at (held now) n).state asked → IsShown now k (Some n) asked reply shown → Goes_to inside now went k asked shown
met-goes inside now went k n asked reply shown same erased follows =
    subst (λ (parts : LowParts). VisitsNode parts k asked n true → reply ≡ answer (cell_at (held parts) n).state asked → IsShown parts k (Some n) asked reply shown → Goes_to inside parts went k asked shown) same
    (λ v replies shows. let made = met-made inside went k n asked reply shown v erased shows replies follows in (made.moved, made.erased))

pub missed-goes : (inside now : LowParts) (went : List (Option Holder)) (k n : ℕ) (asked : Act) (shown : Entry) → inside ≡ now → IsErased inside.observer (held inside) → waits asked ≡ false
    → Follows inside.observer (held inside) (held inside) (with_holders inside went) shown.actor shown.act shown.reply
    → VisitsNode now k asked n false → IsShown now k (Some n) asked Done shown → Goes_to inside now went k asked shown
missed-goes inside now went k n asked shown same erased quick follows =
    subst (λ (parts : LowParts). VisitsNode parts k asked n false → IsShown parts k (Some n) asked Done shown → Goes_to inside parts went k asked shown) same
    (λ v shows. let made = missed-made inside went k n asked shown v quick erased shows follows in (made.moved, made.erased))

-- a node that was made, as the observer sees it
abbrev pub IsMade : LowParts → Entry → Option Holder → Type 0
IsMade parts shown cell = low_cell_of parts.script cell ≡ seen_cell parts.observer (met_after (program_of parts.script parts.longest) shown.at shown.act blank)

pub new-goes : (inside now : LowParts) (went : List (Option Holder)) (k n : ℕ) (asked : Act) (shown : Entry) (cell : Option Holder) → inside ≡ now → IsErased inside.observer (held inside)
    → Follows inside.observer (held inside) (placed (held inside) n (low_cell_of inside.script cell)) (with_holders inside went) shown.actor shown.act shown.reply
    → IsMade now shown cell → VisitsNew now k asked n → IsShown now k (Some n) asked Done shown → Goes_to inside now went k asked shown
new-goes inside now went k n asked shown cell same erased follows =
    subst (λ (parts : LowParts). IsMade parts shown cell → VisitsNew parts k asked n → IsShown parts k (Some n) asked Done shown → Goes_to inside parts went k asked shown) same
    (λ is v shows. let made = new-made inside went k n asked shown v (low_cell_of inside.script cell) erased shows is follows in (made.moved, made.erased))
