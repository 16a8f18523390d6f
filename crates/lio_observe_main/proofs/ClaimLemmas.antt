-- How the steps before the check stand together.
use Rattle.std.proofs.Common.{◌≡◌, ◌∙◌, refl, sym, ap, subst, ℕ, ◌+◌, ◌≤◌, arith, List, length, take, Option, Some, None, Result, Ok, Err}
use Rattle.std.specs.Option.{option_map}
use Rattle.std.proofs.lemmas.List.{length-take, take_all}
use Rattle.lio_outside.specs.FileMap.{FileMap, bytes_of}
use Rattle.lio_outside.specs.Count.{Faults}
use Rattle.lio_outside.specs.Steps.{Steps, Over, ◌>>=◌, asked, or_refused}
use Rattle.lio_outside.specs.Asking.{Give}
use Rattle.lio_outside.proofs.StepsLemmas.{give-parts, give-refused, give-then, refuse-behind, refuse-first}
use Rattle.lio_audit.specs.History.{most_history_bytes}
use Rattle.lio_labels.specs.declared.label.Label.{Label}
use Rattle.lio_policy.specs.declared.policy.Policy.{Policy}
use Rattle.lio_front.specs.declared.status.Status.{Status}
use Rattle.lio_front.specs.declared.status.Status.TheVariants.{BadWords, Missing}
use Rattle.lio_front.specs.declared.loading.Front.{Front}
use Rattle.lio_front.specs.Status.{Says, cause_of}
use Rattle.lio_front.specs.Loading.{loading}
use Rattle.lio_observe_main.specs.Claim.{Claim}
use Rattle.lio_observe_main.specs.Verdict.{claiming, holding, texts_seen}
use Rattle.lio_observe_main.specs.Words.{Command}

abbrev Held : Type 0
Held = List (List ℕ) × List ℕ

-- the view, and the steps behind the texts
abbrev view_of : List ℕ → Steps (List ℕ) Status
view_of view = asked (Missing view) view most_history_bytes

abbrev with_view : List (List ℕ) → List ℕ → Steps Held Status
with_view texts bytes = Over (Ok (texts, bytes))

abbrev behind_texts : List ℕ → List (List ℕ) → Steps Held Status
behind_texts view texts = view_of view >>= with_view texts

-- the texts and the view are there
pub give-held : (told : Option FileMap) (observer : Label) (policy : Policy) (view : List ℕ) (texts : List (List ℕ)) (bytes : List ℕ) → Give told (texts_seen observer policy.longest policy.inputs) (Ok texts)
    → Give told (view_of view) (Ok bytes) → Give told (holding observer policy view) (Ok (texts, bytes))
give-held told observer policy view texts bytes first second =
    give-then told (texts_seen observer policy.longest policy.inputs) (behind_texts view) texts (Ok (texts, bytes)) first
    (give-then told (view_of view) (with_view texts) bytes (Ok (texts, bytes)) second refl)

-- a text isn't
pub refuse-texts : (told : Option FileMap) (observer : Label) (policy : Policy) (view : List ℕ) (before after : Faults) (fault : Status) → Says told (texts_seen observer policy.longest policy.inputs) before after fault
    → Says told (holding observer policy view) before after fault
refuse-texts told observer policy view before after fault says =
    refuse-first (cause_of fault) told (texts_seen observer policy.longest policy.inputs) (behind_texts view) before after fault says

-- the view isn't
pub refuse-view : (told : Option FileMap) (observer : Label) (policy : Policy) (view : List ℕ) (texts : List (List ℕ)) (before middle after : Faults) (fault : Status) → before.count ≤ middle.count
    → Give told (texts_seen observer policy.longest policy.inputs) (Ok texts) → Says told (view_of view) middle after fault → Says told (holding observer policy view) before after fault
refuse-view told observer policy view texts before middle after fault first gave says =
    refuse-behind (cause_of fault) told (texts_seen observer policy.longest policy.inputs) (behind_texts view) texts before middle after fault first gave
    (refuse-first (cause_of fault) told (view_of view) (with_view texts) middle after fault says)

-- the steps of a command, and those behind its parts
abbrev front_steps : Command → Steps Front Status
front_steps command = loading command.policy command.script (Some command.label)

abbrev held_steps : Command → Front → Label → Steps Held Status
held_steps command read observer = holding observer read.policy command.view

abbrev claim_with : Front → Label → Held → Claim
claim_with read observer held = record { job = record { policy = read.policy; script = read.script; inputs = held.0 }; observer = observer; view = held.1 }

abbrev with_held : Front → Label → Held → Steps Claim Status
with_held read observer held = Over (Ok (claim_with read observer held))

abbrev behind_label : Command → Front → Label → Steps Claim Status
behind_label command read observer = held_steps command read observer >>= with_held read observer

abbrev label_of : Front → Steps Label Status
label_of read = Over (or_refused BadWords read.observer)

abbrev behind_front : Command → Front → Steps Claim Status
behind_front command read = label_of read >>= behind_label command read

-- the policy, the label or the script isn't read
pub refuse-front : (told : Option FileMap) (command : Command) (before after : Faults) (fault : Status) → Says told (loading command.policy command.script (Some command.label)) before after fault
    → Says told (claiming command) before after fault
refuse-front told command before after fault says = refuse-first (cause_of fault) told (front_steps command) (behind_front command) before after fault says

-- there is no label
pub give-unlabelled : (told : Option FileMap) (command : Command) (read : Front) → Give told (loading command.policy command.script (Some command.label)) (Ok read) → read.observer ≡ None → Give told (claiming command) (Err BadWords)
give-unlabelled told command read gave none =
    give-then told (front_steps command) (behind_front command) read (Err BadWords) gave
    (give-refused told (label_of read) (behind_label command read) BadWords (ap (or_refused BadWords) none))

-- a text or the view isn't there
pub refuse-held : (told : Option FileMap) (command : Command) (read : Front) (observer : Label) (before middle after : Faults) (fault : Status) → before.count ≤ middle.count
    → Give told (loading command.policy command.script (Some command.label)) (Ok read) → read.observer ≡ Some observer → Says told (holding observer read.policy command.view) middle after fault
    → Says told (claiming command) before after fault
refuse-held told command read observer before middle after fault first gave some says =
    let cause = cause_of fault in
    refuse-behind cause told (front_steps command) (behind_front command) read before middle after fault first gave
    (refuse-behind cause told (label_of read) (behind_label command read) observer middle middle after fault (omega arith) (ap (or_refused BadWords) some)
    (refuse-first cause told (held_steps command read observer) (with_held read observer) middle after fault says))

-- all is there
pub give-claim : (told : Option FileMap) (command : Command) (read : Front) (observer : Label) (held : Held) → Give told (loading command.policy command.script (Some command.label)) (Ok read) → read.observer ≡ Some observer
    → Give told (holding observer read.policy command.view) (Ok held) → Give told (claiming command) (Ok (claim_with read observer held))
give-claim told command read observer held gave some holds =
    give-then told (front_steps command) (behind_front command) read (Ok (claim_with read observer held)) gave
    (give-then told (label_of read) (behind_label command read) observer (Ok (claim_with read observer held)) (ap (or_refused BadWords) some)
    (give-then told (held_steps command read observer) (with_held read observer) held (Ok (claim_with read observer held)) holds refl))

-- a file of which no more was given than the limit was given whole
take-whole : (all : List ℕ) (limit : ℕ) (bytes : List ℕ) → take (limit + 1) all ≡ bytes → length bytes ≤ limit → all ≡ bytes
take-whole all limit bytes is few =
    let short : length all ≤ limit + 1 = omega (arith, length-take (limit + 1) all, ap length is, few) in
    sym (take_all (limit + 1) all short) ∙ is

whole-of : (there : Option (List ℕ)) (limit : ℕ) (bytes : List ℕ) → option_map (take (limit + 1)) there ≡ Some bytes → length bytes ≤ limit → there ≡ Some bytes
whole-of None limit bytes is few = absurd (cc)
whole-of (Some all) limit bytes is few =
    let taken : take (limit + 1) all ≡ bytes = cc in
    ap Some (take-whole all limit bytes taken few)

view-whole : (files : FileMap) (view bytes : List ℕ) → Give (Some files) (view_of view) (Ok bytes) → length bytes ≤ most_history_bytes → bytes_of files view ≡ Some bytes
view-whole files view bytes (None, got, gave) few = absurd (cc)
view-whole files view bytes (Some read, got, gave) few =
    let same : read ≡ bytes = cc in
    whole-of (bytes_of files view) most_history_bytes bytes (got ∙ ap Some same) few

-- what was given is one
abbrev ok_held : Held → Result Held Status
ok_held held = Ok held

the-held : (one two : Held) → ok_held one ≡ ok_held two → one ≡ two
the-held one two same = cc

abbrev ok_claim : Claim → Result Claim Status
ok_claim claim = Ok claim

pub the-claim : (one two : Claim) → ok_claim one ≡ ok_claim two → one ≡ two
the-claim one two same = cc

-- the bytes of a claim are those that were given
the-view : (texts : List (List ℕ)) (bytes : List ℕ) (held : Held) (read : Front) (observer : Label) (claim : Claim) → ok_held (texts, bytes) ≡ ok_held held → ok_claim (claim_with read observer held) ≡ ok_claim claim → bytes ≡ claim.view
the-view texts bytes held read observer claim first second =
    ap (λ (h : Held). h.1) (the-held (texts, bytes) held first) ∙ ap (λ (c : Claim). c.view) (the-claim (claim_with read observer held) claim second)

-- the bytes that are checked are the whole file, where they are no more than views may have
pub claim-whole : (files : FileMap) (command : Command) (claim : Claim) → Give (Some files) (claiming command) (Ok claim) → length claim.view ≤ most_history_bytes → bytes_of files command.view ≡ Some claim.view
claim-whole files command claim gave few =
    let told : Option FileMap = Some files in
    let read = give-parts told (front_steps command) (behind_front command) claim gave in
    let labelled = give-parts told (label_of read.0) (behind_label command read.0) claim read.2 in
    let held = give-parts told (held_steps command read.0 labelled.0) (with_held read.0 labelled.0) claim labelled.2 in
    let texts = give-parts told (texts_seen labelled.0 read.0.policy.longest read.0.policy.inputs) (behind_texts command.view) held.0 held.1 in
    let viewed = give-parts told (view_of command.view) (with_view texts.0) held.0 texts.2 in
    let same : viewed.0 ≡ claim.view = the-view texts.0 viewed.0 held.0 read.0 labelled.0 claim viewed.2 held.2 in
    subst (λ (bytes : List ℕ). bytes_of files command.view ≡ Some bytes) same
    (view-whole files command.view viewed.0 viewed.1 (subst (λ (bytes : List ℕ). length bytes ≤ most_history_bytes) (sym same) few))
