-- What a turn makes of the logs of a configuration.
use Rattle.std.proofs.Common.{◌≡◌, ◌∙◌, refl, sym, ap, subst, ℕ, zero, suc, ◌+◌, ◌<◌, ◌⊎◌, inl, inr, arith, Bool, true, false, cond, List, [], ◌∷◌, ◌++◌, length, get_or, All, Some, None, append-nil}
use Rattle.std.specs.Prelude.{slice_set}
use Rattle.std.proofs.lemmas.Bool.Decides.{nat_tests}
use Rattle.std.proofs.lemmas.List.{get_or-map, get_or-set_other, get_or-set_same, length-map, length-set, map-set, with_items_is}
use Rattle.std.proofs.lemmas.List.Elements.{All-append, All-cons, All-filter, All-nil, All-weaker}
use Rattle.lio_values.specs.declared.entry.Entry.{Entry}
use Rattle.lio_syntax.specs.Statements.{Procedure}
use Rattle.lio_calculus.specs.Effect.{touches}
use Rattle.lio_calculus.specs.Step.{Configuration, Turn}
use Rattle.lio_calculus.proofs.TurnParts.{parts}
use Rattle.lio_calculus.specs.Journals.{of_cell}
use Rattle.lio_calculus.proofs.JournalLemmas.{shown-cases, shows-actor, shows-target}
use Rattle.lio_task.specs.declared.config.Config.{Config}
use Rattle.lio_task.specs.declared.config.Holder.{Holder}
use Rattle.lio_task.specs.Logs.{Appends, AreFresh, HasSameLogs, HaveNoLogs, IsLaterThanLogs, log_in, logs_of}
use Rattle.lio_task.specs.Takes.{Steps}
use Rattle.lio_task.specs.Turns.{AreAsBefore, with_turn}
use Rattle.lio_task.proofs.HolderLemmas.{with_holder}
use Rattle.lio_task.proofs.TurnLemmas.{Lent, StandsAt, with_both}

-- the log of a holder where it stands
pub log-at : (config : Config) (k : ℕ) (holder : Holder) → StandsAt config k holder → log_in config k ≡ holder.node.log
log-at config k holder there = get_or-map (λ (h : Holder). h.node.log) config.holders.items k holder [] there.within ∙ ap (λ (h : Holder). h.node.log) (sym there.is)

-- so a ticket that is greater than all in the logs is greater than all in its own
pub later-at : (config : Config) (k ticket : ℕ) (holder : Holder) (log : List Entry) → StandsAt config k holder → IsLaterThanLogs config ticket → log ≡ holder.node.log → All (λ (before : Entry). before.ticket < ticket) log
later-at config k ticket holder log there later same = subst (All (λ (before : Entry). before.ticket < ticket)) (log-at config k holder there ∙ sym same) (later k)

-- the logs of nodes that have served nothing
no-logs : (holders : List Holder) (n : ℕ) → HaveNoLogs holders → get_or (logs_of holders) n [] ≡ []
no-logs [] n none = refl
no-logs (holder ∷ holders) zero none = none 0 holder (omega arith)
no-logs (holder ∷ holders) (suc n) none = no-logs holders n (λ k h within. none (suc k) h (omega arith))

pub fresh-log : (config : Config) (n : ℕ) → AreFresh config → log_in config n ≡ []
fresh-log config n fresh = no-logs config.holders.items n fresh

-- the logs of a list with another holder in a place
logs-set : (holders : List Holder) (k n : ℕ) (holder : Holder) → get_or (logs_of (slice_set holders k holder)) n [] ≡ get_or (slice_set (logs_of holders) k holder.node.log) n []
logs-set holders k n holder = ap (λ logs. get_or logs n []) (map-set (λ (h : Holder). h.node.log) holders k holder)

within-logs : (holders : List Holder) (k : ℕ) → k < length holders → k < length (logs_of holders)
within-logs holders k within = subst (λ l. k < l) (sym (length-map holders (λ (h : Holder). h.node.log))) within

pub set-same : (holders : List Holder) (k : ℕ) (holder : Holder) → k < length holders → get_or (logs_of (slice_set holders k holder)) k [] ≡ holder.node.log
set-same holders k holder within = logs-set holders k k holder ∙ get_or-set_same (logs_of holders) k holder.node.log [] (within-logs holders k within)

pub set-other : (holders : List Holder) (k n : ℕ) (holder : Holder) → (n ≡ k → ⊥) → get_or (logs_of (slice_set holders k holder)) n [] ≡ get_or (logs_of holders) n []
set-other holders k n holder other = logs-set holders k n holder ∙ get_or-set_other (logs_of holders) k n holder.node.log [] other

-- the part of an entry for a node
part-shown : (n : ℕ) (entry : Entry) → touches n entry ≡ true → of_cell n (entry ∷ []) ≡ entry ∷ []
part-shown n entry shows = ap (λ b. cond b (entry ∷ []) []) shows

part-hidden : (n : ℕ) (entry : Entry) → (touches n entry ≡ true → ⊥) → of_cell n (entry ∷ []) ≡ []
part-hidden n entry hides = ap (λ b. cond b (entry ∷ []) []) (not-true (touches n entry) hides)
  where
    not-true : (b : Bool) → (b ≡ true → ⊥) → b ≡ false
    not-true true h = absurd (h refl)
    not-true false h = refl

same-or-other : (i j : ℕ) → (i ≡ j) ⊎ (i ≡ j → ⊥)
same-or-other i j = grind (arith, nat_tests)

-- one log got the entry: that of the node that it shows
got : (n : ℕ) (entry : Entry) (log before new : List Entry) → touches n entry ≡ true → new ≡ log → log ≡ before ++ entry ∷ [] → new ≡ before ++ of_cell n (entry ∷ [])
got n entry log before new shows same is = same ∙ is ∙ ap (λ part. before ++ part) (sym (part-shown n entry shows))

left : (n : ℕ) (entry : Entry) (before new : List Entry) → (touches n entry ≡ true → ⊥) → new ≡ before → new ≡ before ++ of_cell n (entry ∷ [])
left n entry before new hides same = same ∙ sym (append-nil before) ∙ ap (λ part. before ++ part) (sym (part-hidden n entry hides))

-- a turn that meets no other node
pub alone-appends : (config : Config) (k ticket : ℕ) (holder new : Holder) (entry own : Entry) → StandsAt config k holder → entry.actor ≡ k → entry.target ≡ None → own ≡ entry
    → new.node.log ≡ with_turn holder.node.log own ticket → Appends config (with_holder config k new) (record entry { ticket = ticket })
alone-appends config k ticket holder new entry own there actor target is log n = by (same-or-other n k)
  where
    by : (n ≡ k) ⊎ (n ≡ k → ⊥) → log_in (with_holder config k new) n ≡ log_in config n ++ of_cell n (record entry { ticket = ticket } ∷ [])
    by (inl e) =
        let shows : touches n (record entry { ticket = ticket }) ≡ true = subst (λ m. touches m (record entry { ticket = ticket }) ≡ true) (actor ∙ sym e) (shows-actor (record entry { ticket = ticket })) in
        got n (record entry { ticket = ticket }) new.node.log (log_in config n) (log_in (with_holder config k new) n) shows
        (ap (log_in (with_holder config k new)) e ∙ set-same config.holders.items k new there.within)
        (log ∙ ap (λ (e : Entry). with_turn holder.node.log e ticket) is
        ∙ ap (λ before. before ++ record entry { ticket = ticket } ∷ []) (sym (log-at config k holder there) ∙ ap (log_in config) (sym e)))
    by (inr other) =
        left n (record entry { ticket = ticket }) (log_in config n) (log_in (with_holder config k new) n)
        (λ shows. hidden (shown-cases n (record entry { ticket = ticket }) shows)) (set-other config.holders.items k n new other)
      where
        hidden : (entry.actor ≡ n) ⊎ (entry.target ≡ Some n) → ⊥
        hidden (inl at) = other (sym at ∙ actor)
        hidden (inr at) = let none : None ≡ Some n = sym target ∙ at in absurd (cc)

-- and one that was refused
pub alone-kept : (config : Config) (k : ℕ) (holder new : Holder) → StandsAt config k holder → new.node.log ≡ holder.node.log → HasSameLogs config (with_holder config k new)
alone-kept config k holder new there log n = by (same-or-other n k)
  where
    by : (n ≡ k) ⊎ (n ≡ k → ⊥) → log_in (with_holder config k new) n ≡ log_in config n
    by (inl e) = ap (log_in (with_holder config k new)) e ∙ set-same config.holders.items k new there.within ∙ log ∙ sym (log-at config k holder there) ∙ ap (log_in config) (sym e)
    by (inr other) = set-other config.holders.items k n new other

-- the list with both holders in their places
both-items : (config : Config) (k n : ℕ) (holders : List Holder) (holder now was met : Holder) → Lent config k n holders holder was
    → (with_both config holders k n now met).holders.items ≡ slice_set (slice_set config.holders.items k now) n met
both-items config k n holders holder now was met lent =
    with_items_is config.holders (slice_set (slice_set holders k now) n met) (length-set (slice_set holders k now) n met ∙ length-set holders k now ∙ ap length lent.same ∙ sym config.holders.ok.0)
    ∙ ap (λ (hs : List Holder). slice_set (slice_set hs k now) n met) lent.same

-- the logs then: the actor's, that of the node that was met, and all others
module _ (config : Config) (k n : ℕ) (holders : List Holder) (holder now was met : Holder) (lent : Lent config k n holders holder was) where
  at-place : (m : ℕ) → log_in (with_both config holders k n now met) m ≡ get_or (logs_of (slice_set (slice_set config.holders.items k now) n met)) m []
  at-place m = ap (λ hs. get_or (logs_of hs) m []) (both-items config k n holders holder now was met lent)

  pub at-met : log_in (with_both config holders k n now met) n ≡ met.node.log
  at-met = at-place n ∙ set-same (slice_set config.holders.items k now) n met (subst (λ l. n < l) (sym (length-set config.holders.items k now)) lent.met_is.within)

  pub at-actor : log_in (with_both config holders k n now met) k ≡ now.node.log
  at-actor = at-place k ∙ set-other (slice_set config.holders.items k now) n k met lent.other ∙ set-same config.holders.items k now lent.actor_is.within

  pub at-others : (m : ℕ) → (m ≡ k → ⊥) → (m ≡ n → ⊥) → log_in (with_both config holders k n now met) m ≡ log_in config m
  at-others m away apart = at-place m ∙ set-other (slice_set config.holders.items k now) n m met apart ∙ set-other config.holders.items k m now away

  -- a turn that meets the other holder's node
  pub meeting-appends : (ticket : ℕ) (entry own twin : Entry) → entry.actor ≡ k → entry.target ≡ Some n → own ≡ entry → twin ≡ entry
      → now.node.log ≡ with_turn holder.node.log own ticket → met.node.log ≡ with_turn was.node.log twin ticket → Appends config (with_both config holders k n now met) (record entry { ticket = ticket })
  meeting-appends ticket entry own twin actor target own_is twin_is log met_log m = by (same-or-other m k) (same-or-other m n)
    where
      by : (m ≡ k) ⊎ (m ≡ k → ⊥) → (m ≡ n) ⊎ (m ≡ n → ⊥) → log_in (with_both config holders k n now met) m ≡ log_in config m ++ of_cell m (record entry { ticket = ticket } ∷ [])
      by (inl e) o =
          let shows : touches m (record entry { ticket = ticket }) ≡ true = subst (λ i. touches i (record entry { ticket = ticket }) ≡ true) (actor ∙ sym e) (shows-actor (record entry { ticket = ticket })) in
          got m (record entry { ticket = ticket }) now.node.log (log_in config m) (log_in (with_both config holders k n now met) m) shows
          (ap (log_in (with_both config holders k n now met)) e ∙ at-actor)
          (log ∙ ap (λ (e : Entry). with_turn holder.node.log e ticket) own_is
          ∙ ap (λ before. before ++ record entry { ticket = ticket } ∷ []) (sym (log-at config k holder lent.actor_is) ∙ ap (log_in config) (sym e)))
      by (inr away) (inl e) =
          let shows : touches m (record entry { ticket = ticket }) ≡ true = shows-target m (record entry { ticket = ticket }) (target ∙ ap Some (sym e)) in
          got m (record entry { ticket = ticket }) met.node.log (log_in config m) (log_in (with_both config holders k n now met) m) shows
          (ap (log_in (with_both config holders k n now met)) e ∙ at-met)
          (met_log ∙ ap (λ (e : Entry). with_turn was.node.log e ticket) twin_is
          ∙ ap (λ before. before ++ record entry { ticket = ticket } ∷ []) (sym (log-at config n was lent.met_is) ∙ ap (log_in config) (sym e)))
      by (inr away) (inr apart) =
          left m (record entry { ticket = ticket }) (log_in config m) (log_in (with_both config holders k n now met) m)
          (λ shows. hidden (shown-cases m (record entry { ticket = ticket }) shows)) (at-others m away apart)
        where
          hidden : (entry.actor ≡ m) ⊎ (entry.target ≡ Some m) → ⊥
          hidden (inl at) = away (sym at ∙ actor)
          hidden (inr at) = let same : Some n ≡ Some m = sym target ∙ at in let e : n ≡ m = cc in apart (sym e)

  -- and one that was refused
  pub meeting-kept : (script : List Procedure) → AreAsBefore script holder now was met → HasSameLogs config (with_both config holders k n now met)
  meeting-kept script same m = by (same-or-other m k) (same-or-other m n)
    where
      by : (m ≡ k) ⊎ (m ≡ k → ⊥) → (m ≡ n) ⊎ (m ≡ n → ⊥) → log_in (with_both config holders k n now met) m ≡ log_in config m
      by (inl e) o = ap (log_in (with_both config holders k n now met)) e ∙ at-actor ∙ same.actor.log ∙ sym (log-at config k holder lent.actor_is) ∙ ap (log_in config) (sym e)
      by (inr away) (inl e) = ap (log_in (with_both config holders k n now met)) e ∙ at-met ∙ same.met.log ∙ sym (log-at config n was lent.met_is) ∙ ap (log_in config) (sym e)
      by (inr away) (inr apart) = at-others m away apart

-- a ticket that is greater than none is greater than all in logs without entries
pub fresh-later : (config : Config) (ticket : ℕ) → AreFresh config → IsLaterThanLogs config ticket
fresh-later config ticket fresh n =
    subst (All (λ (before : Entry). before.ticket < ticket)) (sym (fresh-log config n fresh)) (All-nil (λ (before : Entry). before.ticket < ticket))

-- after a step the next ticket is greater than all in the logs again
pub later-next : (c next : Configuration) (old new : Config) (k ticket : ℕ) (entry : Entry) → Steps c next k ticket entry → IsLaterThanLogs old ticket → Appends old new entry → IsLaterThanLogs new (ticket + 1)
later-next c next old new k ticket entry steps later appends n =
    let turn : Turn = record { entry = entry; next = next } in
    let p = parts ticket c k turn steps in
    let at : entry.ticket ≡ ticket = sym (ap (λ (t : Turn). t.entry.ticket) p.made) in
    let above : (e : Entry) → e.ticket < ticket → e.ticket < ticket + 1 = λ e lt. omega arith in
    subst (All (λ (before : Entry). before.ticket < ticket + 1)) (sym (appends n))
    (All-append (λ (before : Entry). before.ticket < ticket + 1) (log_in old n) (of_cell n (entry ∷ []))
    (All-weaker (λ (before : Entry). before.ticket < ticket) (λ (before : Entry). before.ticket < ticket + 1) above (log_in old n) (later n))
    (All-filter (touches n) (λ (before : Entry). before.ticket < ticket + 1) (entry ∷ []) (All-cons (λ (before : Entry). before.ticket < ticket + 1) entry [] (omega arith) (All-nil (λ (before : Entry). before.ticket < ticket + 1)))))
