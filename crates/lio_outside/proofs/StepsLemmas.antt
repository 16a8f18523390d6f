-- What steps give, and why they are refused, part by part.
use Rattle.std.proofs.Common.{◌≡◌, refl, sym, subst, ℕ, ◌≤◌, List, Option, Some, None, Result, Ok, Err, inl, inr, ap, ◌∙◌}
use Rattle.lio_outside.specs.FileMap.{FileMap}
use Rattle.lio_outside.specs.Fetch.{given, IsGiven, IsMissing}
use Rattle.lio_outside.specs.Count.{Faults, FailedAt}
use Rattle.lio_outside.specs.Steps.{Steps, Over, Ask, ◌>>=◌, asked, outcome}
use Rattle.lio_outside.specs.Asking.{AskFor, Cause, IsNotThere, IsNotRead, IsWanting, IsSaid, IsNever, Gave, Give, Refuse}
use Rattle.lio_outside.proofs.CountLemmas.{FailedAt-in_part, IsMissing-in_part}

-- steps that give something, and the steps after them
pub give-then : {A B E : Type 0} → (told : Option FileMap) (first : Steps A E) (next : A → Steps B E) (a : A) (is : Result B E) → Give told first (Ok a) → Give told (next a) is → Give told (first >>= next) is
give-then told (Over (Ok b)) next a is gave rest = let same : b ≡ a = cc in subst (λ x. Give told (next x) is) (sym same) rest
give-then told (Over (Err fault)) next a is gave rest = absurd (cc)
give-then told (Ask name limit go) next a is (bytes, got, gave) rest = (bytes, got, give-then told (go bytes) next a is gave rest)

-- a refused step ends them
pub give-refused : {A B E : Type 0} → (told : Option FileMap) (first : Steps A E) (next : A → Steps B E) (fault : E) → Give told first (Err fault) → Give told (first >>= next) (Err fault)
give-refused told (Over (Ok b)) next fault gave = absurd (cc)
give-refused told (Over (Err other)) next fault gave = let same : other ≡ fault = cc in ap Err same
give-refused told (Ask name limit go) next fault (bytes, got, gave) = (bytes, got, give-refused told (go bytes) next fault gave)

ask-first : {A B E : Type 0} → (told : Option FileMap) (first : Steps A E) (next : A → Steps B E) (file : List ℕ) → AskFor told first file → AskFor told (first >>= next) file
ask-first told (Over is) next file ask = absurd ask
ask-first told (Ask name limit go) next file (inl same) = inl same
ask-first told (Ask name limit go) next file (inr (bytes, got, ask)) = inr (bytes, got, ask-first told (go bytes) next file ask)

ask-behind : {A B E : Type 0} → (told : Option FileMap) (first : Steps A E) (next : A → Steps B E) (a : A) (file : List ℕ) → Give told first (Ok a) → AskFor told (next a) file → AskFor told (first >>= next) file
ask-behind told (Over (Ok b)) next a file gave ask = let same : b ≡ a = cc in subst (λ x. AskFor told (next x) file) (sym same) ask
ask-behind told (Over (Err fault)) next a file gave ask = absurd (cc)
ask-behind told (Ask name limit go) next a file (bytes, got, gave) ask = inr (bytes, got, ask-behind told (go bytes) next a file gave ask)

-- the first steps are refused
pub refuse-first : {A B E : Type 0} → (cause : Cause) (told : Option FileMap) (first : Steps A E) (next : A → Steps B E) (before after : Faults) (fault : E) → Refuse cause told first before after fault → Refuse cause told (first >>= next) before after fault
refuse-first (IsNotThere name) told first next before after fault says = (give-refused told first next fault says.0, says.1)
refuse-first (IsNotRead name) told first next before after fault says = (ask-first told first next name says.0, says.1)
refuse-first IsWanting told first next before after fault says = tt
refuse-first IsSaid told first next before after fault says = give-refused told first next fault says
refuse-first IsNever told first next before after fault says = absurd says

-- the steps behind the first are refused
pub refuse-behind : {A B E : Type 0} → (cause : Cause) (told : Option FileMap) (first : Steps A E) (next : A → Steps B E) (a : A) (before middle after : Faults) (fault : E) → before.count ≤ middle.count
    → Give told first (Ok a) → Refuse cause told (next a) middle after fault → Refuse cause told (first >>= next) before after fault
refuse-behind (IsNotThere name) told first next a before middle after fault below gave says =
    (give-then told first next a (Err fault) gave says.0, IsMissing-in_part told name before middle after below says.1)
refuse-behind (IsNotRead name) told first next a before middle after fault below gave says = (ask-behind told first next a name gave says.0, FailedAt-in_part name before middle after below says.1)
refuse-behind IsWanting told first next a before middle after fault below gave says = tt
refuse-behind IsSaid told first next a before middle after fault below gave says = give-then told first next a (Err fault) gave says
refuse-behind IsNever told first next a before middle after fault below gave says = absurd says

-- what was refused at the end of the work was refused in the whole
pub refuse-in_part : {A E : Type 0} → (cause : Cause) (told : Option FileMap) (steps : Steps A E) (before start after : Faults) (fault : E) → before.count ≤ start.count → Refuse cause told steps start after fault → Refuse cause told steps before after fault
refuse-in_part (IsNotThere name) told steps before start after fault below says = (says.0, IsMissing-in_part told name before start after below says.1)
refuse-in_part (IsNotRead name) told steps before start after fault below says = (says.0, FailedAt-in_part name before start after below says.1)
refuse-in_part IsWanting told steps before start after fault below says = tt
refuse-in_part IsSaid told steps before start after fault below says = says
refuse-in_part IsNever told steps before start after fault below says = absurd says

-- what steps gave, part by part
pub give-parts : {A B E : Type 0} → (told : Option FileMap) (first : Steps A E) (next : A → Steps B E) (b : B) → Give told (first >>= next) (Ok b) → (a : A) × Give told first (Ok a) × Give told (next a) (Ok b)
give-parts told (Over (Ok a)) next b gave = (a, refl, gave)
give-parts told (Over (Err fault)) next b gave = absurd (cc)
give-parts told (Ask name limit go) next b (bytes, got, gave) = let parts = give-parts told (go bytes) next b gave in (parts.0, (bytes, got, parts.1), parts.2)

gave-given : (told : Option FileMap) (name : List ℕ) (limit : ℕ) (bytes : List ℕ) → IsGiven told name limit bytes → Gave told name limit (Some bytes)
gave-given None name limit bytes given = tt
gave-given (Some files) name limit bytes given = given

-- a name that is reported missing is there under no limit
gave-missing : (told : Option FileMap) (name : List ℕ) (limit : ℕ) (before now : Faults) → IsMissing told name before now → Gave told name limit None
gave-missing None name limit before now missing = tt
gave-missing (Some files) name limit before now missing = rw missing refl

-- a file that is there
pub give-asked : {E : Type 0} → (told : Option FileMap) (missing : E) (name : List ℕ) (limit : ℕ) (bytes : List ℕ) → IsGiven told name limit bytes → Give told (asked missing name limit) (Ok bytes)
give-asked told missing name limit bytes given = (Some bytes, gave-given told name limit bytes given, refl)

-- a file that isn't there
pub refuse-missing : {E : Type 0} → (told : Option FileMap) (missing : E) (name : List ℕ) (limit : ℕ) (before after : Faults) → IsMissing told name before after → Refuse (IsNotThere name) told (asked missing name limit) before after missing
refuse-missing told missing name limit before after is = ((None, gave-missing told name limit before after is, refl), is)

-- a file that can't be read
pub refuse-unread : {E : Type 0} → (told : Option FileMap) (missing : E) (name : List ℕ) (limit : ℕ) (before after : Faults) (fault : E) → FailedAt name before after → Refuse (IsNotRead name) told (asked missing name limit) before after fault
refuse-unread told missing name limit before after fault failed = (inl refl, failed)

-- what steps give over a store that tells its files is their outcome over these files
pub give-outcome : {A E : Type 0} → (files : FileMap) (steps : Steps A E) (is : Result A E) → Give (Some files) steps is → outcome (given files) steps ≡ is
give-outcome files (Over got) is gave = gave
give-outcome files (Ask name limit go) is (bytes, got, gave) = ap (λ b. outcome (given files) (go b)) got ∙ give-outcome files (go bytes) is gave
