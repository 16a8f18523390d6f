-- The view of a run of the calculus is a view.
use Rattle.std.proofs.Common.{◌≡◌, ◌∙◌, refl, sym, ap, subst, ℕ, ◌+◌, ◌≤◌, ◌^◌, Bool, true, false, not, ◌&&◌, if◌then◌else◌, IsFalse, List, [], ◌∷◌, ◌++◌, length, All, Some, append-nil, arith, ◌⊎◌, inl, inr}
use Rattle.lio_labels.specs.declared.label.Label.{Label}
use Rattle.lio_labels.specs.Flow.{flows}
use Rattle.lio_values.specs.declared.value.Content.{Content}
use Rattle.lio_values.specs.declared.value.Content.TheVariants.{Hidden}
use Rattle.lio_values.specs.declared.act.Act.{Act}
use Rattle.lio_values.specs.declared.act.Act.TheVariants as act
use Rattle.lio_values.specs.declared.act.Reply.{Reply}
use Rattle.lio_values.specs.declared.act.Reply.TheVariants.{Done}
use Rattle.lio_values.specs.declared.entry.Entry.{Entry}
use Rattle.lio_values.specs.Erasure.{erase_act, erase_content, erase_entry, erase_reply}
use Rattle.lio_events.specs.Views.{is_visible, released_to, releases, view, who}
use Rattle.lio_events.proofs.ViewLemmas.{view-none, view-seen, view-unseen}
use Rattle.lio_calculus.specs.Erased.{erase}
use Rattle.lio_calculus.specs.Laws.{IsShownContent, RunSeenAs}
use Rattle.lio_calculus.specs.Run.{LowRan, Ran, low_run, run}
use Rattle.lio_calculus.specs.Sound.{IsSound}
use Rattle.lio_calculus.specs.Step.{Configuration, Turn, step}
use Rattle.lio_calculus.proofs.ConfigLemmas.{erase-twice}
use Rattle.lio_calculus.proofs.LawLemmas.{run_is_erased_run, turn_keeps_soundness, unseen_turn_releases_nothing}
use Rattle.lio_calculus.proofs.TurnParts.{parts}
use Rattle.lio_calculus.specs.Journals.{actors}
use Rattle.lio_calculus_runs.specs.LowLaws.{RoundsSeenAs}
use Rattle.lio_calculus_runs.specs.LowRounds.{low_rounds}
use Rattle.lio_calculus_runs.proofs.LowEndLemmas.{rounds_are_erased_rounds}
use Rattle.lio_calculus_runs.proofs.LowRoundLemmas.{complete_is_complete_below}
use Rattle.lio_audit.proofs.RunLemmas.{first, run-nothing}
use Rattle.lio_audit.specs.Rerun.{AreRoundsOf, LacksInRounds}
use Rattle.lio_audit.specs.RunLaws.{CompleteRunIsSeen, RoundsAreRerun, ViewReleasesTheSame, seen_of, seen_text}
use Rattle.lio_audit.proofs.FitsLemmas.{lines-fewer, view-over}
use Rattle.lio_audit.proofs.LackLemmas.{complete-lacks_none}
use Rattle.lio_audit.proofs.ViewLemmas.{releases-first}
use Rattle.lio_audit.proofs.WalkLemmas.{rounds_come_or_lack}

-- what comes to the observer isn't hidden from it
shown-twice : (content : Content) (above below : Bool) → (if above && below then (if below then content else Hidden) ∷ [] else []) ≡ (if above && below then content ∷ [] else [])
shown-twice content true true = refl
shown-twice content true false = refl
shown-twice content false below = refl

-- what an erased act releases is what the act releases
released-erased : (observer : Label) (asked : Act) (reply : Reply) → released_to observer (erase_act observer asked) (erase_reply observer reply) ≡ released_to observer asked reply
unfolding released_to erase_content
released-erased observer (act.Release source target power content) Done = shown-twice content (not (flows source observer)) (flows target observer)
released-erased observer (act.Expose source target power content) Done = shown-twice content (not (flows source observer)) (flows target observer)
released-erased observer asked reply = refl

releases-view-one : (observer : Label) (ticket : ℕ) (entry : Entry) (entries : List Entry) → (flows entry.at observer ≡ false → released_to observer entry.act entry.reply ≡ [])
    → ((next : ℕ) → releases observer entries ≡ releases observer (view observer next entries)) → releases observer (entry ∷ entries) ≡ releases observer (view observer ticket (entry ∷ entries))
releases-view-one observer ticket entry entries quiet rest = by (flows entry.at observer) refl
  where
    by : (seen : Bool) → flows entry.at observer ≡ seen → releases observer (entry ∷ entries) ≡ releases observer (view observer ticket (entry ∷ entries))
    by true seen =
        releases-first observer entry entries
        ∙ ap (λ (cs : List Content). released_to observer entry.act entry.reply ++ cs) (rest (ticket + 1))
        ∙ ap (λ (cs : List Content). cs ++ releases observer (view observer (ticket + 1) entries)) (sym (released-erased observer entry.act entry.reply))
        ∙ sym (releases-first observer (erase_entry observer (record entry { ticket = ticket })) (view observer (ticket + 1) entries))
        ∙ ap (releases observer) (sym (view-seen observer ticket entry entries seen))
    by false unseen =
        releases-first observer entry entries ∙ ap (λ (cs : List Content). cs ++ releases observer entries) (quiet unseen) ∙ rest ticket
        ∙ ap (releases observer) (sym (view-unseen observer ticket entry entries unseen))

-- a turn that isn't seen releases nothing
quiet-turn : (observer : Label) (ticket : ℕ) (c : Configuration) (k : ℕ) (turn : Turn) → IsSound c → step ticket c k ≡ Some turn → flows turn.entry.at observer ≡ false → released_to observer turn.entry.act turn.entry.reply ≡ []
quiet-turn observer ticket c k turn sound takes unseen =
    let p = parts ticket c k turn takes in
    let above : IsFalse (flows p.task.label observer) = ap (λ (t : Turn). flows t.entry.at observer) p.made ∙ unseen in
    unseen_turn_releases_nothing observer ticket c k p.task turn sound p.is above takes

releases-view : (observer : Label) (n ticket : ℕ) (c : Configuration) (ks : List ℕ) (ran : Ran) → IsSound c → run ticket c ks ≡ Some ran → releases observer ran.entries ≡ releases observer (view observer n ran.entries)
releases-view observer n ticket c [] ran sound is =
    let none : Ran = record { entries = []; last = c } in
    let begun : Some none ≡ Some ran = sym (run-nothing ticket c) ∙ is in
    let same : none ≡ ran = cc in
    subst (λ (r : Ran). releases observer r.entries ≡ releases observer (view observer n r.entries)) same (ap (releases observer) (sym (view-none observer n)))
releases-view observer n ticket c (k ∷ ks) ran sound is =
    let f = first ticket c k ks ran is in
    let p = parts ticket c k f.turn f.is_step in
    let kept : IsSound f.turn.next = turn_keeps_soundness ticket c k p.task f.turn sound p.is f.is_step in
    subst (λ (r : Ran). releases observer r.entries ≡ releases observer (view observer n r.entries)) (sym f.is_run)
    (releases-view-one observer n f.turn.entry f.rest.entries (quiet-turn observer ticket c k f.turn sound f.is_step) (λ next. releases-view observer next (ticket + 1) f.turn.next ks f.rest kept f.is_rest))

pub view_releases_the_same : ViewReleasesTheSame
view_releases_the_same observer c ks ran sound is = releases-view observer 0 0 c ks ran sound is

-- who is seen are the actors of the view
actors-view : (observer : Label) (ticket : ℕ) (entries : List Entry) → actors (view observer ticket entries) ≡ who observer entries
unfolding view who
actors-view observer ticket [] = refl
actors-view observer ticket (entry ∷ entries) = by (is_visible observer entry) (actors-view observer (ticket + 1) entries) (actors-view observer ticket entries)
  where
    by : (seen : Bool) → actors (view observer (ticket + 1) entries) ≡ who observer entries → actors (view observer ticket entries) ≡ who observer entries
        → actors (if seen then erase_entry observer (record entry { ticket = ticket }) ∷ view observer (ticket + 1) entries else view observer ticket entries) ≡ (if seen then entry.actor ∷ who observer entries else who observer entries)
    by true later here = ap (λ (ks : List ℕ). entry.actor ∷ ks) later
    by false later here = here

pub complete_run_is_seen : CompleteRunIsSeen
complete_run_is_seen names observer c ks ran sound is complete over few =
    let seen : RunSeenAs observer c ran = run_is_erased_run observer c ks ran sound is in
    let same : releases observer ran.entries ≡ releases observer (view observer 0 ran.entries) = view_releases_the_same observer c ks ran sound is in
    let lines : length (view observer 0 ran.entries) ≤ length (seen_text names observer ran) = lines-fewer names (view observer 0 ran.entries) in
    let most : 0 + length (view observer 0 ran.entries) ≤ 2 ^ 64 = omega arith in
    record {
      few = few;
      lines = record { over = view-over names observer 0 ran.entries over most; text = sym (append-nil (seen_text names observer ran)) };
      is_run = record {
        is_run = ap (λ (js : List ℕ). low_run observer 0 (erase observer c) js (releases observer (view observer 0 ran.entries))) (actors-view observer 0 ran.entries)
            ∙ ap (low_run observer 0 (erase observer c) (who observer ran.entries)) (sym same) ∙ seen.erased;
        shown = subst (All IsShownContent) same seen.released;
        none_left = refl;
      };
      complete = complete_is_complete_below observer ran.last seen.sound complete;
    }

pub rounds_are_rerun : RoundsAreRerun
rounds_are_rerun observer c ran sound is = record { gives = by (rounds_come_or_lack observer (erase observer c) (releases observer ran.entries)); only = only; lacks_none = lacks_none }
  where
    seen : RoundsSeenAs observer c ran
    seen = rounds_are_erased_rounds observer c ran sound is

    only : (entries : List Entry) (left : List Content) → AreRoundsOf observer (erase observer c) (releases observer ran.entries) entries left → (entries ≡ view observer 0 ran.entries) × (left ≡ [])
    only entries left r =
        let theirs : LowRan = record { entries = entries; last = r.last; left = left } in
        let both : Some theirs ≡ Some (seen_of observer ran) = sym r.is_run ∙ seen.erased in
        let same : theirs ≡ seen_of observer ran = cc in
        (ap (λ (x : LowRan). x.entries) same, ap (λ (x : LowRan). x.left) same)

    lacks_none : (k : ℕ) → LacksInRounds observer (erase observer c) (releases observer ran.entries) k → ⊥
    lacks_none k l =
        let contents : List Content = releases observer ran.entries in
        let begins = l.begins [] in
        let whole : low_run observer 0 (erase observer c) (l.before ++ begins.0) contents ≡ Some (seen_of observer ran) =
        ap (λ (ks : List ℕ). low_run observer 0 (erase observer c) ks contents) (sym begins.1 ∙ ap (λ (cs : List Content). low_rounds observer (erase observer c) cs) (append-nil contents)) ∙ seen.erased in
        complete-lacks_none observer (erase observer c) l.before begins.0 contents l.ran (seen_of observer ran) k (erase-twice observer c) l.is_run whole seen.complete l.lacks

    by : ((entries : List Entry) × (left : List Content) × AreRoundsOf observer (erase observer c) (releases observer ran.entries) entries left) ⊎ ((k : ℕ) × LacksInRounds observer (erase observer c) (releases observer ran.entries) k)
        → AreRoundsOf observer (erase observer c) (releases observer ran.entries) (view observer 0 ran.entries) []
    by (inl (entries, left, come)) =
        let same = only entries left come in
        subst (λ (cs : List Content). AreRoundsOf observer (erase observer c) (releases observer ran.entries) (view observer 0 ran.entries) cs) same.1
        (subst (λ (es : List Entry). AreRoundsOf observer (erase observer c) (releases observer ran.entries) es left) same.0 come)
    by (inr (k, none)) = absurd (lacks_none k none)
