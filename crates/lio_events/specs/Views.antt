-- Filters of journals: what an observer sees of a journal, whose entries these are, and what a journal releases to an observer (the erasure of the concurrent
-- calculus of LIO, ICFP 2012).
use Rattle.std.specs.Prelude.{ℕ, ◌+◌, Bool, not, ◌&&◌, List, [], ◌∷◌, ◌++◌, if◌then◌else◌}
use Rattle.lio_labels.specs.declared.label.Label.{Label}
use Rattle.lio_labels.specs.Flow.{flows}
use Rattle.lio_values.specs.declared.value.Content.{Content}
use Rattle.lio_values.specs.declared.act.Act.{Act}
use Rattle.lio_values.specs.declared.act.Act.TheVariants as act
use Rattle.lio_values.specs.declared.act.Reply.{Reply}
use Rattle.lio_values.specs.declared.act.Reply.TheVariants.{Done}
use Rattle.lio_values.specs.declared.entry.Entry.{Entry}
use Rattle.lio_values.specs.Erasure.{erase_entry}

-- whether an observer sees an entry
abbrev pub is_visible : Label → Entry → Bool
is_visible observer entry = flows entry.at observer

-- the view: the entries that an observer sees, each erased, with tickets from a first one
unfoldable pub view : Label → ℕ → List Entry → List Entry
view observer ticket [] = []
view observer ticket (entry ∷ entries) =
    if is_visible observer entry then erase_entry observer (record entry { ticket = ticket }) ∷ view observer (ticket + 1) entries else view observer ticket entries

-- the actors of the entries that an observer sees
unfoldable pub who : Label → List Entry → List ℕ
who observer [] = []
who observer (entry ∷ entries) = if is_visible observer entry then entry.actor ∷ who observer entries else who observer entries

-- the contents that a turn releases to an observer: of a release or an exposure that was carried out, from a label that doesn't flow to it to one that does
unfoldable pub released_to : Label → Act → Reply → List Content
released_to observer (act.Release source target power content) Done = if not (flows source observer) && flows target observer then content ∷ [] else []
released_to observer (act.Expose source target power content) Done = if not (flows source observer) && flows target observer then content ∷ [] else []
released_to observer asked reply = []

-- the contents that a journal releases to an observer
unfoldable pub releases : Label → List Entry → List Content
releases observer [] = []
releases observer (entry ∷ entries) = released_to observer entry.act entry.reply ++ releases observer entries
