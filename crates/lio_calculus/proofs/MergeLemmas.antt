-- Logs with one entry for each ticket have a merge: these entries in the order of their tickets.
use Rattle.std.proofs.Common.{◌≡◌, refl, ap, subst, ℕ, zero, suc, ◌+◌, ◌<◌, ◌≤◌, ◌⊎◌, inl, inr, arith, List, [], ◌∷◌, length, Contains}
use Rattle.lio_values.specs.declared.entry.Entry.{Entry}
use Rattle.lio_calculus.specs.Logs.{Logs}
use Rattle.lio_calculus.specs.Journals.{AreNumberedFrom, HasTicket}
use Rattle.lio_calculus.specs.LogLaws.{LogsHaveAMerge}
use Rattle.lio_calculus.proofs.JournalLemmas.{Shows, has-cases, has-none, numbered-each, numbered-rising}

-- Entries of logs with so many tickets from a first one on.
record Listed (logs : Logs) (first count : ℕ) : Type 0 where
  entries : List Entry
  numbered : AreNumberedFrom first entries
  size : length entries ≡ count
  stand : (e : Entry) → Contains entries e → (n : ℕ) × Contains (logs n) e

listed : (logs : Logs) (first count : ℕ) → ((ticket : ℕ) → first ≤ ticket → ticket < first + count → HasTicket logs ticket) → Listed logs first count
listed logs first zero each = record { entries = []; numbered = tt; size = refl; stand = λ e has. absurd (has-none e has) }
listed logs first (suc count) each =
    let here : HasTicket logs first = each first (omega arith) (omega arith) in
    let later : Listed logs (first + 1) count = listed logs (first + 1) count (λ ticket from within. each ticket (omega arith) (omega arith)) in
    record {
      entries = here.entry ∷ later.entries;
      numbered = (here.is, later.numbered);
      size = ap suc later.size;
      stand = λ e has. by here later e (has-cases here.entry later.entries e has);
    }
  where
    by : (here : HasTicket logs first) (later : Listed logs (first + 1) count) (e : Entry) → (here.entry ≡ e) ⊎ Contains later.entries e → (n : ℕ) × Contains (logs n) e
    by here later e (inl is) = (here.log, subst (Contains (logs here.log)) is here.stands)
    by here later e (inr has) = later.stand e has

pub logs_have_a_merge : LogsHaveAMerge
logs_have_a_merge c logs count logged =
    let all : Listed logs 0 count = listed logs 0 count (λ ticket from within. logged.each ticket (omega arith)) in
    (all.entries, record { all = in-all all; no_other = all.stand; rising = numbered-rising 0 all.entries all.numbered })
  where
    in-all : (all : Listed logs 0 count) (n : ℕ) (e : Entry) → Contains (logs n) e → Contains all.entries e
    in-all all n e has =
        let below : e.ticket < count = logged.no_more n e has in
        let size : length all.entries ≡ count = all.size in
        let shown : Shows all.entries e.ticket = numbered-each 0 e.ticket all.entries all.numbered (omega arith) (omega arith) in
        let stands = all.stand shown.0 shown.1 in
        subst (Contains all.entries) (logged.mergeable.one stands.0 n shown.0 e stands.1 has shown.2) shown.1
