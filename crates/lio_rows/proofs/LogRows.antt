-- The logs after a run, and their merge, can be printed, as the journal can.
use Rattle.std.proofs.Common.{◌≡◌, ◌∙◌, ◌<◌, ℕ, true, List, All, ap, arith, get_or, length, nat_lt, subst, sym}
use Rattle.std.proofs.lemmas.Bool.Decides.{nat_tests}
use Rattle.std.proofs.lemmas.List.Elements.{All-contains, All-contains_itself}
use Rattle.lio_values.specs.declared.entry.Entry.{Entry}
use Rattle.lio_events.specs.Printable.{IsPrintable}
use Rattle.lio_calculus.specs.Journals.{IsMerged}
use Rattle.lio_calculus.proofs.JournalLemmas.{one_merge}
use Rattle.lio_task.specs.declared.config.Config.{Config}
use Rattle.lio_task.specs.declared.config.Holder.{Holder}
use Rattle.lio_task.specs.Logs.{log_in}
use Rattle.lio_task.proofs.LogLemmas.{log-at}
use Rattle.lio_rounds.specs.declared.by_rounds.Ran.{Ran}
use Rattle.lio_rounds.specs.Runs.{HasItsLogs}

pub merge_printable : (names : List (List ℕ)) (ran : Ran) (merged : List Entry) → HasItsLogs ran → All (IsPrintable names) ran.journal → IsMerged (log_in ran.config) merged → All (IsPrintable names) merged
merge_printable names ran merged logs printable is = subst (All (IsPrintable names)) (one_merge (log_in ran.config) ran.journal merged logs.merged is) printable

pub logs_printable : (names : List (List ℕ)) (ran : Ran) → HasItsLogs ran → All (IsPrintable names) ran.journal → (n : ℕ) → All (IsPrintable names) (log_in ran.config n)
logs_printable names ran logs printable n k d within =
    All-contains (IsPrintable names) ran.journal _ printable (logs.merged.all n _ (All-contains_itself (log_in ran.config n) k d within))

-- so can the log of a holder that was found
pub found_printable : (names : List (List ℕ)) (config : Config) (n : ℕ) (holders : List Holder) (holder : Holder) (log : List Entry) → holders ≡ config.holders.items → true ≡ nat_lt n (length holders) → holder ≡ get_or holders n holder
    → log ≡ holder.node.log → ((m : ℕ) → All (IsPrintable names) (log_in config m)) → All (IsPrintable names) log
found_printable names config n holders holder log here within is same printable =
    subst (All (IsPrintable names))
    (log-at config n holder (record { within = subst (λ (hs : List Holder). n < length hs) here (lt-tells n (length holders) within); is = is ∙ ap (λ (hs : List Holder). get_or hs n holder) here }) ∙ sym same)
    (printable n)
  where
    lt-tells : (i j : ℕ) → true ≡ nat_lt i j → i < j
    lt-tells i j e = grind (arith, nat_tests)
