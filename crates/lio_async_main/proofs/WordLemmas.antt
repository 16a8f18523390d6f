-- The host's words that ask for what words of the host over futures ask for.
use Rattle.std.proofs.Common.{◌≡◌, ◌∙◌, ap, refl, ℕ, Bool, true, false, not, ◌&&◌, ◌||◌, List, [], ◌∷◌, length, take, drop, codes, bytes_eq, ◌==◌, if◌then◌else◌, Option, None, Some}
use Rattle.lio_front.specs.declared.words.said.Name.{Name}
use Rattle.lio_front.specs.declared.words.said.Name.TheVariants.{History, View, Observer, Make, Workers, Check}
use Rattle.lio_front.specs.declared.words.place.Place.TheVariants.{Anywhere}
use Rattle.lio_front.specs.Command.{Command, Files, Rounds, Watch, command_by, command_of, commanded, is_name}
use Rattle.lio_front.specs.Walk.{Dashes, Plain, Said, said, said_behind, said_by, walked, walked_by, with_plain}
use Rattle.lio_async_main.specs.Words.{host_words}

-- a word that doesn't begin with `-` is no option
by-other : (rest : List ℕ) (name : Name) (byte : ℕ) (bytes : List ℕ) (else_ : Said) → (byte == 45) ≡ false → said_by (45 ∷ rest) name (byte ∷ bytes) else_ ≡ else_
by-other rest name byte bytes else_ is =
    ap (λ (b : Bool). if b && bytes_eq (take (length rest) bytes) rest then said_behind name (drop (length rest) bytes) else else_) is

not-false : (b : Bool) → not b ≡ true → b ≡ false
not-false true is = absurd (cc)
not-false false is = refl

said-plain : (word : List ℕ) → is_name word ≡ true → said word ≡ Plain
said-plain [] is = absurd (cc)
said-plain (byte ∷ bytes) is =
    let other : (byte == 45) ≡ false = not-false (byte == 45) is in
    let word : List ℕ = byte ∷ bytes in
    let checked : Said = said_by (codes "--check") Check word Plain in
    let counted : Said = said_by (codes "--workers") Workers word checked in
    let made : Said = said_by (codes "--make") Make word counted in
    let observed : Said = said_by (codes "--observer") Observer word made in
    let viewed : Said = said_by (codes "--view") View word observed in
    let kept : Said = said_by (codes "--history") History word viewed in
    ap (λ (b : Bool). if b && bytes_eq bytes (codes "-") then Dashes else kept) other
    ∙ by-other (codes "-history") History byte bytes viewed other
    ∙ by-other (codes "-view") View byte bytes observed other
    ∙ by-other (codes "-observer") Observer byte bytes made other
    ∙ by-other (codes "-make") Make byte bytes counted other
    ∙ by-other (codes "-workers") Workers byte bytes checked other
    ∙ by-other (codes "-check") Check byte bytes Plain other

-- two plain words before others
walked-names : (policy script : List ℕ) (words : List (List ℕ)) → is_name policy ≡ true → is_name script ≡ true → walked Anywhere (policy ∷ script ∷ words) ≡ with_plain policy (with_plain script (walked Anywhere words))
walked-names policy script words first second =
    ap (λ (s : Said). walked_by s policy (λ place. walked place (script ∷ words))) (said-plain policy first)
    ∙ ap (λ (s : Said). with_plain policy (walked_by s script (λ place. walked place words))) (said-plain script second)

pub both : (a b : Bool) → a ≡ true → b ≡ true → (a && b) ≡ true
both true b first second = second
both false b first second = absurd (cc)

-- the command of two names
pub command-of_two : (policy script : List ℕ) → is_name policy ≡ true → is_name script ≡ true
    → command_of (policy ∷ script ∷ []) ≡ Some (record { source = Files policy script; history = None; watch = None; mode = Rounds })
unfolding command_by
command-of_two policy script first second =
    ap command_by (walked-names policy script [] first second)
    ∙ ap (λ (b : Bool). commanded (if b then Some (Files policy script) else None) None (Some None) (Some Rounds)) (both (is_name policy) (is_name script) first second)

-- the command of two names and a view
pub command-of_four : (policy script file label : List ℕ) → is_name policy ≡ true → is_name script ≡ true → is_name file ≡ true → is_name label ≡ true
    → command_of (policy ∷ script ∷ codes "--view" ∷ file ∷ codes "--observer" ∷ label ∷ []) ≡ Some (record { source = Files policy script; history = None; watch = Some (record { file = file; label = label }); mode = Rounds })
unfolding command_by
command-of_four policy script file label first second third fourth =
    let watch : Watch = record { file = file; label = label } in
    let by : Bool → Bool → Bool → Option Command = λ (a : Bool) (b : Bool) (c : Bool).
    if not b || not c then None else commanded (if a then Some (Files policy script) else None) None (Some (Some watch)) (Some Rounds) in
    ap command_by (walked-names policy script (codes "--view" ∷ file ∷ codes "--observer" ∷ label ∷ []) first second)
    ∙ wrong (not (is_name file)) (not (is_name label)) (commanded (if is_name policy && is_name script then Some (Files policy script) else None) None (Some (Some watch)) (Some Rounds))
    ∙ ap (λ (a : Bool). by a (is_name file) (is_name label)) (both (is_name policy) (is_name script) first second)
    ∙ ap (λ (b : Bool). by true b (is_name label)) third
    ∙ ap (λ (c : Bool). by true true c) fourth
  where
    wrong : (b c : Bool) (x : Option Command) → (if b || c || false || false || false then None else x) ≡ (if b || c then None else x)
    wrong true c x = refl
    wrong false true x = refl
    wrong false false x = refl

-- the words of the host are none where the names aren't
pub none-of_two : (policy script : List ℕ) → (is_name policy && is_name script) ≡ false → host_words (policy ∷ script ∷ []) ≡ []
none-of_two policy script is = ap (λ (b : Bool). if b then policy ∷ script ∷ [] else []) is

pub some-of_two : (policy script : List ℕ) → (is_name policy && is_name script) ≡ true → host_words (policy ∷ script ∷ []) ≡ policy ∷ script ∷ []
some-of_two policy script is = ap (λ (b : Bool). if b then policy ∷ script ∷ [] else []) is

pub none-of_four : (policy script file label : List ℕ) → (is_name policy && is_name script && is_name file && is_name label) ≡ false → host_words (policy ∷ script ∷ file ∷ label ∷ []) ≡ []
none-of_four policy script file label is = ap (λ (b : Bool). if b then policy ∷ script ∷ codes "--view" ∷ file ∷ codes "--observer" ∷ label ∷ [] else []) is

pub some-of_four : (policy script file label : List ℕ) → (is_name policy && is_name script && is_name file && is_name label) ≡ true
    → host_words (policy ∷ script ∷ file ∷ label ∷ []) ≡ policy ∷ script ∷ codes "--view" ∷ file ∷ codes "--observer" ∷ label ∷ []
some-of_four policy script file label is = ap (λ (b : Bool). if b then policy ∷ script ∷ codes "--view" ∷ file ∷ codes "--observer" ∷ label ∷ [] else []) is

pub first-of_both : (a b : Bool) → (a && b) ≡ true → a ≡ true
first-of_both true b is = refl
first-of_both false b is = absurd (cc)

pub second-of_both : (a b : Bool) → (a && b) ≡ true → b ≡ true
second-of_both true b is = is
second-of_both false b is = absurd (cc)
