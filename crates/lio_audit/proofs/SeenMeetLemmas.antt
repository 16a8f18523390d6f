-- Two runs of the erased calculus that their own entries tell, whose lines stand at the front of the same bytes.
use Rattle.std.proofs.Common.{◌≡◌, ◌∙◌, refl, sym, ap, subst, ℕ, suc, ◌+◌, ◌≤◌, ◌<◌, ◌⊎◌, inl, inr, false, true≢false, List, [], ◌∷◌, ◌++◌, length, length-append, get_or, drop, append_assoc, Some, arith, All}
use Rattle.std.proofs.lemmas.List.Elements.{All-cons, All-head, All-nil, All-tail}
use Rattle.lio_labels.specs.declared.label.Label.{Label}
use Rattle.lio_values.specs.declared.value.Content.{Content}
use Rattle.lio_values.specs.declared.entry.Entry.{Entry}
use Rattle.lio_events.specs.JournalText.{entry_text, journal_text}
use Rattle.lio_events.specs.Views.{released_to, releases}
use Rattle.lio_events_reading.specs.Over.{IsEntryOver}
use Rattle.lio_calculus.specs.Erased.{LowTurn, erase, low}
use Rattle.lio_calculus.specs.Laws.{IsShownContent}
use Rattle.lio_calculus.specs.Run.{LowRan, low_ran_after, low_run}
use Rattle.lio_calculus.specs.Step.{Configuration, after, can}
use Rattle.lio_calculus.proofs.ConfigLemmas.{erase-twice}
use Rattle.lio_calculus.specs.Journals.{actors}
use Rattle.lio_calculus_runs.proofs.LowTurnLemmas.{low-parts}
use Rattle.lio_audit.specs.History.{CanGoOn}
use Rattle.lio_audit.specs.View.{AreLinesOf, BeginsSeenTurn, IsLowRunFrom, IsViewOf, SeenStops, SeenStopsAt}
use Rattle.lio_audit.proofs.ViewLineLemmas.{AreOfOne, drop-line}
use Rattle.lio_audit.proofs.LowRunLemmas.{low-actor, low-first, low_run-nothing}
use Rattle.lio_audit.proofs.SeenLemmas.{seen-some}
use Rattle.lio_audit.proofs.ToldLemmas.{low-lists, low-takes}
use Rattle.lio_audit.proofs.ViewLemmas.{releases-first, releases-nothing}

abbrev pub low_of_run : List Entry → Configuration → LowRan
low_of_run es d = record { entries = es; last = d; left = [] }

-- the same lists in two parts, of which the last ones are as long
append-split : {X : Type 0} (xs ys zs ws : List X) → xs ++ ys ≡ zs ++ ws → length ys ≡ length ws → (xs ≡ zs) × (ys ≡ ws)
append-split [] ys [] ws is size = (refl, is)
append-split [] ys (z ∷ zs) ws is size =
    let all : length ys ≡ suc (length (zs ++ ws)) = ap length is in
    let more : length (zs ++ ws) ≡ length zs + length ws = length-append zs ws in
    absurd (omega (arith, all, more, size))
append-split (x ∷ xs) ys [] ws is size =
    let all : suc (length (xs ++ ys)) ≡ length ws = ap length is in
    let more : length (xs ++ ys) ≡ length xs + length ys = length-append xs ys in
    absurd (omega (arith, all, more, size))
append-split {X} (x ∷ xs) ys (z ∷ zs) ws is size =
    let first : x ≡ z = ap (λ (q : List X). get_or q 0 x) is in
    let both = append-split xs ys zs ws (ap (λ (q : List X). drop 1 q) is) size in
    (ap (λ (q : X). q ∷ xs) first ∙ ap (λ (q : List X). z ∷ q) both.0, both.1)

-- the configuration after an erased turn is as the observer sees it
next-erased : (observer : Label) (ticket : ℕ) (c : Configuration) (k : ℕ) (contents : List Content) (turn : LowTurn) → low observer ticket c k contents ≡ Some turn → erase observer turn.next ≡ turn.next
next-erased observer ticket c k contents turn takes =
    let p = low-parts observer ticket c k contents turn takes in
    subst (λ (t : LowTurn). erase observer t.next ≡ t.next) p.is_turn (erase-twice observer (after c k p.task (record p.move { act = p.o.act })))

-- a run takes at least as many contents as its entries release
run-lists : (observer : Label) (ticket : ℕ) (c : Configuration) (ks : List ℕ) (contents : List Content) (ran : LowRan) → erase observer c ≡ c → low_run observer ticket c ks contents ≡ Some ran
    → length (releases observer ran.entries) + length ran.left ≤ length contents
run-lists observer ticket c [] contents ran erased is =
    let none : LowRan = record { entries = []; last = c; left = contents } in
    let begun : Some none ≡ Some ran = sym (low_run-nothing observer ticket c contents) ∙ is in
    let same : none ≡ ran = cc in
    let nothing : length (releases observer []) ≡ 0 = ap length (releases-nothing observer) in
    subst (λ (r : LowRan). length (releases observer r.entries) + length r.left ≤ length contents) same (omega (arith, nothing))
run-lists observer ticket c (k ∷ ks) contents ran erased is =
    let f = low-first observer ticket c k ks contents ran is in
    let one = low-lists observer ticket c k contents f.turn erased f.is_step in
    let rest = run-lists observer (ticket + 1) f.turn.next ks f.turn.left f.rest (next-erased observer ticket c k contents f.turn f.is_step) f.is_rest in
    let released : List Content = released_to observer f.turn.entry.act f.turn.entry.reply in
    let both : length (releases observer (f.turn.entry ∷ f.rest.entries)) ≡ length released + length (releases observer f.rest.entries) =
    ap length (releases-first observer f.turn.entry f.rest.entries) ∙ length-append released (releases observer f.rest.entries) in
    subst (λ (r : LowRan). length (releases observer r.entries) + length r.left ≤ length contents) (sym f.is_run) (omega (arith, one, rest, both))

-- the first turn of a run that its own entries tell takes the contents that its entry releases, and the entries behind it tell the run after it
pub record FirstOwn (observer : Label) (ticket : ℕ) (c : Configuration) (e : Entry) (es : List Entry) (d : Configuration) : Type 0 where
  pub next : Configuration
  pub is_step : low observer ticket c e.actor (released_to observer e.act e.reply) ≡ Some (record { entry = e; next = next; left = [] })
  pub erased : erase observer next ≡ next
  pub is_rest : low_run observer (ticket + 1) next (actors es) (releases observer es) ≡ Some (low_of_run es d)

first-own : (observer : Label) (ticket : ℕ) (c : Configuration) (e : Entry) (es : List Entry) (d : Configuration) → erase observer c ≡ c
    → low_run observer ticket c (actors (e ∷ es)) (releases observer (e ∷ es)) ≡ Some (low_of_run (e ∷ es) d) → FirstOwn observer ticket c e es d
first-own observer ticket c e es d erased told =
    let contents : List Content = releases observer (e ∷ es) in
    let released : List Content = released_to observer e.act e.reply in
    let f = low-first observer ticket c e.actor (actors es) contents (low_of_run (e ∷ es) d) told in
    let entry : e ≡ f.turn.entry = ap (λ (q : LowRan). get_or q.entries 0 e) f.is_run in
    let tail : LowRan → LowRan = λ q. record { entries = drop 1 q.entries; last = q.last; left = q.left } in
    let rest : low_of_run es d ≡ f.rest = ap tail f.is_run in
    let goes : low_run observer (ticket + 1) f.turn.next (actors es) f.turn.left ≡ Some (low_of_run es d) = f.is_rest ∙ ap Some (sym rest) in
    let next : erase observer f.turn.next ≡ f.turn.next = next-erased observer ticket c e.actor contents f.turn f.is_step in
    let one = subst (λ (x : Entry). length (released_to observer x.act x.reply) + length f.turn.left ≤ length contents) (sym entry) (low-lists observer ticket c e.actor contents f.turn erased f.is_step) in
    let later = run-lists observer (ticket + 1) f.turn.next (actors es) f.turn.left (low_of_run es d) next goes in
    let splits : contents ≡ released ++ releases observer es = releases-first observer e es in
    let size : length contents ≡ length released + length (releases observer es) = ap length splits ∙ length-append released (releases observer es) in
    let as_many : length f.turn.left ≡ length (releases observer es) = omega (arith, one, later, size) in
    let t = low-takes observer ticket c e.actor contents f.turn f.is_step in
    let both = append-split t.0 f.turn.left released (releases observer es) (sym t.1 ∙ splits) as_many in
    record {
      next = f.turn.next;
      is_step = ap (low observer ticket c e.actor) (sym both.0) ∙ t.2 ∙ ap (λ (x : Entry). let turn : LowTurn = record { entry = x; next = f.turn.next; left = [] } in Some turn) (sym entry);
      erased = next;
      is_rest = ap (low_run observer (ticket + 1) f.turn.next (actors es)) (sym both.1) ∙ goes;
    }

-- what holds of two lists, one behind the other, holds of each
shown-front : (xs ys : List Content) → All IsShownContent (xs ++ ys) → All IsShownContent xs
shown-front [] ys all = All-nil IsShownContent
shown-front (x ∷ xs) ys all = All-cons IsShownContent x xs (All-head IsShownContent x (xs ++ ys) all) (shown-front xs ys (All-tail IsShownContent x (xs ++ ys) all))

shown-behind : (xs ys : List Content) → All IsShownContent (xs ++ ys) → All IsShownContent ys
shown-behind [] ys all = all
shown-behind (x ∷ xs) ys all = shown-behind xs ys (All-tail IsShownContent x (xs ++ ys) all)

-- they are one run, and the same is left behind them; or a turn after one of them is the next that the other took
abbrev pub SeenMeets : List (List ℕ) → Label → LowRan → LowRan → List ℕ → List ℕ → Type 0
SeenMeets names observer one two r s = ((one ≡ two) × (r ≡ s)) ⊎ (BeginsSeenTurn names observer one.last r ⊎ BeginsSeenTurn names observer two.last s)

-- the line of a run's first turn stands at the front of its lines
goes-on : (names : List (List ℕ)) (observer : Label) (ticket : ℕ) (c d : Configuration) (e : Entry) (es : List Entry) (f : Configuration) (r s : List ℕ) → c ≡ d → IsEntryOver names e → All IsShownContent (releases observer (e ∷ es))
    → FirstOwn observer ticket c e es f → r ≡ journal_text names false (e ∷ es) ++ s → BeginsSeenTurn names observer d r
goes-on names observer ticket c d e es f r s same over shown own is =
    let turn : LowTurn = record { entry = e; next = own.next; left = [] } in
    let has : e.ticket ≡ ticket = (low-actor observer ticket c e.actor (released_to observer e.act e.reply) turn own.is_step).1 in
    let here : low observer e.ticket d e.actor (released_to observer e.act e.reply) ≡ Some turn =
    subst (λ (n : ℕ). low observer n d e.actor (released_to observer e.act e.reply) ≡ Some turn) (sym has) (subst (λ (x : Configuration). low observer ticket x e.actor (released_to observer e.act e.reply) ≡ Some turn) same own.is_step) in
    record {
      turn = turn;
      rest = journal_text names false es ++ s;
      over = over;
      is_turn = record {
        is_step = here;
        shown = shown-front (released_to observer e.act e.reply) (releases observer es) (subst (All IsShownContent) (releases-first observer e es) shown);
        none_left = refl;
      };
      stands = is ∙ append_assoc (entry_text names false e) (journal_text names false es) s;
    }

ends : (observer : Label) (ticket : ℕ) (c d : Configuration) → low_run observer ticket c [] (releases observer []) ≡ Some (low_of_run [] d) → c ≡ d
ends observer ticket c d is =
    let none : LowRan = record { entries = []; last = c; left = releases observer [] } in
    let both : Some none ≡ Some (low_of_run [] d) = sym (low_run-nothing observer ticket c (releases observer [])) ∙ is in
    let same : none ≡ low_of_run [] d = cc in
    ap (λ (r : LowRan). r.last) same

next : (names : List (List ℕ)) (observer : Label) (e x : Entry) (es fs : List Entry) (d f : Configuration) (r s : List ℕ) → e ≡ x → SeenMeets names observer (low_of_run es d) (low_of_run fs f) r s
    → SeenMeets names observer (low_of_run (e ∷ es) d) (low_of_run (x ∷ fs) f) r s
next names observer e x es fs d f r s same (inl both) = inl (ap (low_ran_after e) both.0 ∙ ap (λ (y : Entry). low_of_run (y ∷ fs) f) same, both.1)
next names observer e x es fs d f r s same (inr either) = inr either

pub seen-meet : (names : List (List ℕ)) (observer : Label) (bytes : List ℕ) (ticket : ℕ) (c : Configuration) (es fs : List Entry) (d f : Configuration) (r s : List ℕ) → AreOfOne names es bytes → erase observer c ≡ c
    → All (IsEntryOver names) es → All (IsEntryOver names) fs → All IsShownContent (releases observer es) → All IsShownContent (releases observer fs)
    → low_run observer ticket c (actors es) (releases observer es) ≡ Some (low_of_run es d) → low_run observer ticket c (actors fs) (releases observer fs) ≡ Some (low_of_run fs f)
    → bytes ≡ journal_text names false es ++ r → bytes ≡ journal_text names false fs ++ s → SeenMeets names observer (low_of_run es d) (low_of_run fs f) r s
seen-meet names observer bytes ticket c [] [] d f r s lines erased o p u v one two is bs =
    inl (ap (low_of_run []) (sym (ends observer ticket c d one) ∙ ends observer ticket c f two), sym is ∙ bs)
seen-meet names observer bytes ticket c [] (x ∷ fs) d f r s lines erased o p u v one two is bs =
    inr (inl (goes-on names observer ticket c d x fs f r s (ends observer ticket c d one) (All-head (IsEntryOver names) x fs p) v (first-own observer ticket c x fs f erased two) (sym is ∙ bs)))
seen-meet names observer bytes ticket c (e ∷ es) [] d f r s lines erased o p u v one two is bs =
    inr (inr (goes-on names observer ticket c f e es d s r (ends observer ticket c f two) (All-head (IsEntryOver names) e es o) u (first-own observer ticket c e es d erased one) (sym bs ∙ is)))
seen-meet names observer bytes ticket c (e ∷ es) (x ∷ fs) d f r s lines erased o p u v one two is bs =
    let a = first-own observer ticket c e es d erased one in
    let b = first-own observer ticket c x fs f erased two in
    let at_e : LowTurn = record { entry = e; next = a.next; left = [] } in
    let at_x : LowTurn = record { entry = x; next = b.next; left = [] } in
    let et : e.ticket ≡ ticket = (low-actor observer ticket c e.actor (released_to observer e.act e.reply) at_e a.is_step).1 in
    let xt : x.ticket ≡ ticket = (low-actor observer ticket c x.actor (released_to observer x.act x.reply) at_x b.is_step).1 in
    let A : List ℕ = journal_text names false es ++ r in
    let B : List ℕ = journal_text names false fs ++ s in
    let line : List ℕ = entry_text names false e in
    let front : bytes ≡ line ++ A = is ∙ append_assoc line (journal_text names false es) r in
    let other : bytes ≡ entry_text names false x ++ B = bs ∙ append_assoc (entry_text names false x) (journal_text names false fs) s in
    let same : e ≡ x = lines.0 e x A B (All-head (IsEntryOver names) e es o) (All-head (IsEntryOver names) x fs p) (et ∙ sym xt) front other in
    let behind : drop (length line) bytes ≡ A = drop-line names e es bytes r is in
    let behind' : drop (length line) bytes ≡ B = ap (λ (y : Entry). drop (length (entry_text names false y)) bytes) same ∙ drop-line names x fs bytes s bs in
    let took : low observer ticket c e.actor (released_to observer e.act e.reply) ≡ Some at_x =
    subst (λ (y : Entry). low observer ticket c y.actor (released_to observer y.act y.reply) ≡ Some at_x) (sym same) b.is_step in
    let turns : Some at_e ≡ Some at_x = sym a.is_step ∙ took in
    let turn : at_e ≡ at_x = cc in
    let two' : low_run observer (ticket + 1) a.next (actors fs) (releases observer fs) ≡ Some (low_of_run fs f) =
    subst (λ (t : LowTurn). low_run observer (ticket + 1) t.next (actors fs) (releases observer fs) ≡ Some (low_of_run fs f)) (sym turn) b.is_rest in
    next names observer e x es fs d f r s same
    (seen-meet names observer (drop (length line) bytes) (ticket + 1) a.next es fs d f r s lines.1 a.erased (All-tail (IsEntryOver names) e es o) (All-tail (IsEntryOver names) x fs p)
    (shown-behind (released_to observer e.act e.reply) (releases observer es) (subst (All IsShownContent) (releases-first observer e es) u))
    (shown-behind (released_to observer x.act x.reply) (releases observer fs) (subst (All IsShownContent) (releases-first observer x fs) v)) a.is_rest two' behind behind')

-- no line stands at the front of nothing
none-begins : (names : List (List ℕ)) (observer : Label) (c : Configuration) → BeginsSeenTurn names observer c [] → ⊥
none-begins names observer c b =
    let some : 0 < length (entry_text names false b.turn.entry) = seen-some names b.turn.entry in
    let long : 0 ≡ length (entry_text names false b.turn.entry) + length b.rest = ap (λ (q : List ℕ). length q) b.stands ∙ length-append (entry_text names false b.turn.entry) b.rest in
    absurd (omega arith)

stops-not : (names : List (List ℕ)) (observer : Label) (c : Configuration) (rest : List ℕ) → SeenStops names observer c rest → BeginsSeenTurn names observer c rest → ⊥
stops-not names observer c [] s b = none-begins names observer c b
stops-not names observer c (byte ∷ bytes) s b = s b

-- the run that lines tell, with none left
told : (observer : Label) (c : Configuration) (ran : LowRan) → IsLowRunFrom observer c ran → low_run observer 0 c (actors ran.entries) (releases observer ran.entries) ≡ Some (low_of_run ran.entries ran.last)
told observer c ran is = is.is_run ∙ ap (λ (cs : List Content). let whole : LowRan = record { entries = ran.entries; last = ran.last; left = cs } in Some whole) is.none_left

own-run : (observer : Label) (c : Configuration) (ran : LowRan) → IsLowRunFrom observer c ran → ran ≡ low_of_run ran.entries ran.last
own-run observer c ran is = ap (λ (cs : List Content). let whole : LowRan = record { entries = ran.entries; last = ran.last; left = cs } in whole) is.none_left

-- the lines of the first of two runs are of one entry each
meets : (names : List (List ℕ)) (observer : Label) (c : Configuration) (bytes : List ℕ) (one two : LowRan) (r s : List ℕ) → AreOfOne names one.entries bytes → erase observer c ≡ c → AreLinesOf names one.entries bytes r → IsLowRunFrom observer c one
    → AreLinesOf names two.entries bytes s → IsLowRunFrom observer c two → SeenMeets names observer (low_of_run one.entries one.last) (low_of_run two.entries two.last) r s
meets names observer c bytes one two r s lines erased a b x y =
    seen-meet names observer bytes 0 c one.entries two.entries one.last two.last r s lines erased a.over x.over b.shown y.shown (told observer c one b) (told observer c two y) a.text x.text

turned : (names : List (List ℕ)) (observer : Label) (one two : LowRan) (r s : List ℕ) → SeenMeets names observer one two r s → SeenMeets names observer two one s r
turned names observer one two r s (inl both) = inl (sym both.0, sym both.1)
turned names observer one two r s (inr (inl b)) = inr (inr b)
turned names observer one two r s (inr (inr b)) = inr (inl b)

-- bytes are the view of no other run
pub view-of_one : (names : List (List ℕ)) (observer : Label) (c : Configuration) (bytes : List ℕ) (one two : LowRan) → AreOfOne names one.entries bytes → erase observer c ≡ c → IsViewOf names observer c bytes one → IsViewOf names observer c bytes two → two ≡ one
view-of_one names observer c bytes one two lines erased a b = by (meets names observer c bytes one two [] [] lines erased a.lines a.is_run b.lines b.is_run)
  where
    by : SeenMeets names observer (low_of_run one.entries one.last) (low_of_run two.entries two.last) [] [] → two ≡ one
    by (inl both) = own-run observer c two b.is_run ∙ sym both.0 ∙ sym (own-run observer c one a.is_run)
    by (inr (inl b)) = absurd (none-begins names observer one.last b)
    by (inr (inr b)) = absurd (none-begins names observer two.last b)

-- a view doesn't stop
view-goes_on : (names : List (List ℕ)) (observer : Label) (c : Configuration) (bytes : List ℕ) (ran : LowRan) (line : ℕ) → IsViewOf names observer c bytes ran → (stop : SeenStopsAt names observer c bytes line)
    → SeenMeets names observer (low_of_run ran.entries ran.last) (low_of_run stop.ran.entries stop.ran.last) [] stop.rest → ⊥
view-goes_on names observer c bytes ran line a stop (inl both) =
    let goes : CanGoOn stop.ran.last = subst (λ (r : List ℕ). SeenStops names observer stop.ran.last r) (sym both.1) stop.stops in
    absurd (true≢false (sym goes.1 ∙ ap (λ (q : LowRan). can q.last goes.0) (sym both.0) ∙ a.complete goes.0))
view-goes_on names observer c bytes ran line a stop (inr (inl b)) = none-begins names observer ran.last b
view-goes_on names observer c bytes ran line a stop (inr (inr b)) = stops-not names observer stop.ran.last stop.rest stop.stops b

pub view-stops_nowhere : (names : List (List ℕ)) (observer : Label) (c : Configuration) (bytes : List ℕ) (ran : LowRan) (line : ℕ) → AreOfOne names ran.entries bytes → erase observer c ≡ c → IsViewOf names observer c bytes ran → SeenStopsAt names observer c bytes line → ⊥
view-stops_nowhere names observer c bytes ran line lines erased a stop =
    view-goes_on names observer c bytes ran line a stop (meets names observer c bytes ran stop.ran [] stop.rest lines erased a.lines a.is_run stop.lines stop.is_run)

pub stopped-no_view : (names : List (List ℕ)) (observer : Label) (c : Configuration) (bytes : List ℕ) (line : ℕ) (ran : LowRan) (stop : SeenStopsAt names observer c bytes line) → AreOfOne names stop.ran.entries bytes → erase observer c ≡ c
    → IsViewOf names observer c bytes ran → ⊥
stopped-no_view names observer c bytes line ran stop lines erased a =
    view-goes_on names observer c bytes ran line a stop (turned names observer (low_of_run stop.ran.entries stop.ran.last) (low_of_run ran.entries ran.last) stop.rest []
    (meets names observer c bytes stop.ran ran stop.rest [] lines erased stop.lines stop.is_run a.lines a.is_run))

-- bytes stop at no other line
pub stopped-once : (names : List (List ℕ)) (observer : Label) (c : Configuration) (bytes : List ℕ) (one two : ℕ) (a : SeenStopsAt names observer c bytes one) → AreOfOne names a.ran.entries bytes → erase observer c ≡ c → SeenStopsAt names observer c bytes two → two ≡ one
stopped-once names observer c bytes one two a lines erased b = by (meets names observer c bytes a.ran b.ran a.rest b.rest lines erased a.lines a.is_run b.lines b.is_run)
  where
    by : SeenMeets names observer (low_of_run a.ran.entries a.ran.last) (low_of_run b.ran.entries b.ran.last) a.rest b.rest → two ≡ one
    by (inl both) = b.line_is ∙ ap (λ (q : LowRan). length q.entries + 1) (sym both.0) ∙ sym a.line_is
    by (inr (inl t)) = absurd (stops-not names observer a.ran.last a.rest a.stops t)
    by (inr (inr t)) = absurd (stops-not names observer b.ran.last b.rest b.stops t)
