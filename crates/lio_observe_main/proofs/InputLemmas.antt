-- The texts of the inputs that an observer sees, over what the store gave under their names.
use Rattle.std.proofs.Common.{◌≡◌, ◌∙◌, sym, ap, refl, subst, ℕ, suc, ◌+◌, ◌<◌, ◌≤◌, arith, true, false, List, [], ◌∷◌, ◌++◌, length, get_or, take, drop, drop-cons, add-one, Bool, Option, Ok}
use Rattle.std.proofs.Math.Seq.{take-suc}
use Rattle.std.proofs.lemmas.List.{take-append-drop, take_all}
use Rattle.lio_outside.specs.FileMap.{FileMap}
use Rattle.lio_outside.specs.Count.{Faults}
use Rattle.lio_outside.specs.Steps.{Steps, Over, ◌>>=◌, asked}
use Rattle.lio_outside.specs.Asking.{Cause, Give, Refuse}
use Rattle.lio_outside.proofs.StepsLemmas.{give-then, refuse-behind, refuse-first}
use Rattle.lio_labels.specs.Flow.{flows}
use Rattle.lio_labels.specs.declared.label.Label.{Label}
use Rattle.lio_policy.specs.declared.policy.FileEntry.{FileEntry}
use Rattle.lio_front.specs.declared.status.Status.{Status}
use Rattle.lio_front.specs.declared.status.Status.TheVariants.{Missing}
use Rattle.lio_front.specs.Status.{Says, cause_of}
use Rattle.lio_observe_main.specs.Verdict.{text_by, text_seen, texts_seen}

-- an input that the observer doesn't see
pub give-unseen : (told : Option FileMap) (observer : Label) (longest : ℕ) (input : FileEntry) (text : List ℕ) → flows input.label observer ≡ false → text ≡ [] → Give told (text_seen observer longest input) (Ok text)
give-unseen told observer longest input text unseen is = subst (λ (sees : Bool). Give told (text_by sees longest input) (Ok text)) (sym unseen) (ap Ok (sym is))

-- one that it sees
pub give-seen : (told : Option FileMap) (observer : Label) (longest : ℕ) (input : FileEntry) (text : List ℕ) → flows input.label observer ≡ true → Give told (asked (Missing input.file) input.file longest) (Ok text)
    → Give told (text_seen observer longest input) (Ok text)
give-seen told observer longest input text sees gave = subst (λ (b : Bool). Give told (text_by b longest input) (Ok text)) (sym sees) gave

pub says-seen : (told : Option FileMap) (observer : Label) (longest : ℕ) (input : FileEntry) (before after : Faults) (fault : Status) → flows input.label observer ≡ true
    → Says told (asked (Missing input.file) input.file longest) before after fault → Says told (text_seen observer longest input) before after fault
says-seen told observer longest input before after fault sees says = subst (λ (b : Bool). Says told (text_by b longest input) before after fault) (sym sees) says

-- each of these inputs was given its text, as far as the observer sees it
abbrev pub EachGave : Option FileMap → Label → ℕ → List FileEntry → List (List ℕ) → Type 0
EachGave told observer longest [] [] = Unit {0}
EachGave told observer longest [] (text ∷ texts) = ⊥
EachGave told observer longest (input ∷ inputs) [] = ⊥
EachGave told observer longest (input ∷ inputs) (text ∷ texts) = Give told (text_seen observer longest input) (Ok text) × EachGave told observer longest inputs texts

EachGave-push : (told : Option FileMap) (observer : Label) (longest : ℕ) (inputs : List FileEntry) (texts : List (List ℕ)) (input : FileEntry) (text : List ℕ)
    → EachGave told observer longest inputs texts → Give told (text_seen observer longest input) (Ok text) → EachGave told observer longest (inputs ++ input ∷ []) (texts ++ text ∷ [])
EachGave-push told observer longest [] [] input text each gave = (gave, tt)
EachGave-push told observer longest [] (t ∷ texts) input text each gave = absurd each
EachGave-push told observer longest (i ∷ inputs) [] input text each gave = absurd each
EachGave-push told observer longest (i ∷ inputs) (t ∷ texts) input text each gave = (each.0, EachGave-push told observer longest inputs texts input text each.1 gave)

pub EachGave-length : (told : Option FileMap) (observer : Label) (longest : ℕ) (inputs : List FileEntry) (texts : List (List ℕ)) → EachGave told observer longest inputs texts → length texts ≡ length inputs
EachGave-length told observer longest [] [] each = refl
EachGave-length told observer longest [] (t ∷ texts) each = absurd each
EachGave-length told observer longest (i ∷ inputs) [] each = absurd each
EachGave-length told observer longest (i ∷ inputs) (t ∷ texts) each = ap suc (EachGave-length told observer longest inputs texts each.1)

-- the steps behind an input's text
abbrev next : Label → ℕ → List FileEntry → List ℕ → Steps (List (List ℕ)) Status
next observer longest inputs text = texts_seen observer longest inputs >>= λ others. Over (Ok (text ∷ others))

-- all inputs are given
pub give-each : (told : Option FileMap) (observer : Label) (longest : ℕ) (inputs : List FileEntry) (given : List (List ℕ)) → EachGave told observer longest inputs given → Give told (texts_seen observer longest inputs) (Ok given)
give-each told observer longest [] [] each = refl
give-each told observer longest [] (t ∷ given) each = absurd each
give-each told observer longest (i ∷ inputs) [] each = absurd each
give-each told observer longest (i ∷ inputs) (t ∷ given) each =
    give-then told (text_seen observer longest i) (next observer longest inputs) t (Ok (t ∷ given)) each.0
    (give-then told (texts_seen observer longest inputs) (λ others. Over (Ok (t ∷ others))) given (Ok (t ∷ given)) (give-each told observer longest inputs given each.1) refl)

-- one isn't fetched, behind some that are given
refuse-each : (cause : Cause) (told : Option FileMap) (observer : Label) (longest : ℕ) (inputs : List FileEntry) (input : FileEntry) (after : List FileEntry) (given : List (List ℕ)) (begun middle ended : Faults) (fault : Status)
    → EachGave told observer longest inputs given → begun.count ≤ middle.count → Refuse cause told (text_seen observer longest input) middle ended fault
    → Refuse cause told (texts_seen observer longest (inputs ++ input ∷ after)) begun ended fault
refuse-each cause told observer longest [] input after [] begun middle ended fault each below says =
    refuse-first cause told (text_seen observer longest input) (next observer longest after) begun ended fault
    (refuse-behind cause told (Over (Ok input)) (λ i. text_seen observer longest i) input begun middle ended fault below refl says)
refuse-each cause told observer longest [] input after (t ∷ given) begun middle ended fault each below says = absurd each
refuse-each cause told observer longest (i ∷ inputs) input after [] begun middle ended fault each below says = absurd each
refuse-each cause told observer longest (i ∷ inputs) input after (t ∷ given) begun middle ended fault each below says =
    refuse-behind cause told (text_seen observer longest i) (next observer longest (inputs ++ input ∷ after)) t begun begun ended fault (omega arith) each.0
    (refuse-first cause told (texts_seen observer longest (inputs ++ input ∷ after)) (λ others. Over (Ok (t ∷ others))) begun ended fault
    (refuse-each cause told observer longest inputs input after given begun middle ended fault each.1 below says))

-- those around a place
around : (entries : List FileEntry) (i : ℕ) (entry : FileEntry) → i < length entries → entry ≡ get_or entries i entry → entries ≡ take i entries ++ entry ∷ drop (i + 1) entries
around entries i entry below is =
    sym (take-append-drop i entries)
    ∙ ap (λ (rest : List FileEntry). take i entries ++ rest) (drop-cons entries i entry below ∙ ap (λ (e : FileEntry). e ∷ drop (suc i) entries) (sym is) ∙ ap (λ (n : ℕ). entry ∷ drop n entries) (sym (add-one i)))

pub says-input : (told : Option FileMap) (observer : Label) (longest : ℕ) (inputs : List FileEntry) (i : ℕ) (input : FileEntry) (given : List (List ℕ)) (begun middle ended : Faults) (fault : Status)
    → i < length inputs → input ≡ get_or inputs i input → EachGave told observer longest (take i inputs) given → begun.count ≤ middle.count → Says told (text_seen observer longest input) middle ended fault
    → Says told (texts_seen observer longest inputs) begun ended fault
says-input told observer longest inputs i input given begun middle ended fault below at each first says =
    subst (λ (xs : List FileEntry). Says told (texts_seen observer longest xs) begun ended fault) (sym (around inputs i input below at))
    (refuse-each (cause_of fault) told observer longest (take i inputs) input (drop (i + 1) inputs) given begun middle ended fault each first says)

-- those before the next place
take-next : (entries : List FileEntry) (i : ℕ) (entry : FileEntry) → i < length entries → entry ≡ get_or entries i entry → take (i + 1) entries ≡ take i entries ++ entry ∷ []
take-next entries i entry below is = ap (λ (n : ℕ). take n entries) (add-one i) ∙ take-suc entries i entry below ∙ ap (λ (e : FileEntry). take i entries ++ e ∷ []) (sym is)

-- one input more was given its text
pub inputs-next : (told : Option FileMap) (observer : Label) (longest : ℕ) (inputs : List FileEntry) (i : ℕ) (input : FileEntry) (given : List (List ℕ)) (text : List ℕ) → i < length inputs → input ≡ get_or inputs i input
    → EachGave told observer longest (take i inputs) given → Give told (text_seen observer longest input) (Ok text) → EachGave told observer longest (take (i + 1) inputs) (given ++ text ∷ [])
inputs-next told observer longest inputs i input given text below at each gave =
    subst (λ (before : List FileEntry). EachGave told observer longest before (given ++ text ∷ [])) (sym (take-next inputs i input below at)) (EachGave-push told observer longest (take i inputs) given input text each gave)

-- all inputs were
pub inputs-end : (told : Option FileMap) (observer : Label) (longest : ℕ) (inputs : List FileEntry) (i : ℕ) (given : List (List ℕ)) → length inputs ≤ i → EachGave told observer longest (take i inputs) given → EachGave told observer longest inputs given
inputs-end told observer longest inputs i given past each = subst (λ (before : List FileEntry). EachGave told observer longest before given) (take_all i inputs past) each
