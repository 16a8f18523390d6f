-- The places that are noted at nodes.
use Rattle.std.proofs.Common.{◌≡◌, ◌≢◌, ◌⊎◌, ℕ, zero, suc, ◌<◌, inl, inr, Bool, true, false, true≢false, if◌then◌else◌, List, [], ◌∷◌, ◌++◌, map, length, length-append, get_or, set, Option, Some, None, Vec, sym, ◌∙◌, ap, subst, arith}
use Rattle.std.specs.declared.alloc.Global.{Global}
use Rattle.std.proofs.lemmas.Bool.{cases_eq, cases_lt}
use Rattle.std.proofs.lemmas.List.{length-map, map-append, map-set, get_or_past, get_or-set_same, get_or-set_other}
use Rattle.std.proofs.Math.ListN.{get_or-append}
use Rattle.std.proofs.Math.Seq.{get_or-append_seam}
use Rattle.lio_rounds.specs.Awake.{Lists, noted_at, Waits}

abbrev items : Vec ℕ Global → List ℕ
items v = v.items

-- one more place of a list

lists-more : (places : List ℕ) (more place : ℕ) → Lists places place → Lists (places ++ more ∷ []) place
lists-more places more place h =
    let long = length-append places (more ∷ []) in
    (h.0, omega (arith, long, h.1), get_or-append places (more ∷ []) 0 h.0 h.1 ∙ h.2)

lists-last : (places : List ℕ) (place : ℕ) → Lists (places ++ place ∷ []) place
lists-last places place = let long = length-append places (place ∷ []) in (length places, omega (arith, long), get_or-append_seam places place [] 0)

-- one more place, if memory for it is left
pub pushed-more : (ok : Bool) (places pushed : List ℕ) (more place : ℕ) → pushed ≡ (if ok then places ++ more ∷ [] else places) → Lists places place → Lists pushed place
pushed-more true places pushed more place is h = subst (λ (ps : List ℕ). Lists ps place) (sym is) (lists-more places more place h)
pushed-more false places pushed more place is h = subst (λ (ps : List ℕ). Lists ps place) (sym is) h

pub pushed-last : (ok : Bool) (places pushed : List ℕ) (place : ℕ) → pushed ≡ (if ok then places ++ place ∷ [] else places) → ok ≡ true → Lists pushed place
pushed-last true places pushed place is e = subst (λ (ps : List ℕ). Lists ps place) (sym is) (lists-last places place)
pushed-last false places pushed place is e = absurd (true≢false (sym e))

-- another list comes last

pub waits-more : (waiting : List (Vec ℕ Global)) (v : Vec ℕ Global) (n place : ℕ) → Waits waiting n place → Waits (waiting ++ v ∷ []) n place
waits-more waiting v n place h =
    elim (cases_lt n (length waiting)) [
      | inl l ↦
          let inside : n < length (map items waiting) = omega (arith, l, length-map waiting items) in
          let same : noted_at (waiting ++ v ∷ []) n ≡ noted_at waiting n =
          ap (λ (ls : List (List ℕ)). get_or ls n []) (map-append items waiting (v ∷ [])) ∙ get_or-append (map items waiting) (v.items ∷ []) [] n inside in
          subst (λ (ls : List ℕ). Lists ls place) (sym same) h
      | inr g ↦
          let none : noted_at waiting n ≡ [] = get_or_past (map items waiting) n [] (omega (arith, g, length-map waiting items)) in
          let empty : Lists [] place = subst (λ (ls : List ℕ). Lists ls place) none h in
          absurd (omega (arith, empty.1))
    ]

-- a node has another list

noted-set : (waiting : List (Vec ℕ Global)) (m n : ℕ) (v : Vec ℕ Global) → noted_at (set waiting m v) n ≡ get_or (set (map items waiting) m v.items) n []
noted-set waiting m n v = ap (λ (ls : List (List ℕ)). get_or ls n []) (map-set items waiting m v)

pub waits-other : (waiting : List (Vec ℕ Global)) (m n place : ℕ) (v : Vec ℕ Global) → n ≢ m → Waits waiting n place → Waits (set waiting m v) n place
waits-other waiting m n place v other h =
    subst (λ (ls : List ℕ). Lists ls place) (sym (noted-set waiting m n v ∙ get_or-set_other (map items waiting) m n v.items [] other)) h

pub waits-same : (waiting : List (Vec ℕ Global)) (m place : ℕ) (v : Vec ℕ Global) → m < length waiting → Lists v.items place → Waits (set waiting m v) m place
waits-same waiting m place v inside h =
    subst (λ (ls : List ℕ). Lists ls place) (sym (noted-set waiting m m v ∙ get_or-set_same (map items waiting) m v.items [] (omega (arith, inside, length-map waiting items)))) h

-- where a node's list keeps its places, all do
pub waits-kept : (waiting : List (Vec ℕ Global)) (m n place : ℕ) (v : Vec ℕ Global) → m < length waiting → (Lists (noted_at waiting m) place → Lists v.items place)
    → Waits waiting n place → Waits (set waiting m v) n place
waits-kept waiting m n place v inside keeps h =
    elim (cases_eq n m) [
      | inl e ↦ subst (λ (k : ℕ). Waits (set waiting m v) k place) (sym e) (waits-same waiting m place v inside (keeps (subst (λ (k : ℕ). Waits waiting k place) e h)))
      | inr d ↦ waits-other waiting m n place v d h
    ]

-- the list of a node
pub noted-is : (waiting : List (Vec ℕ Global)) (m : ℕ) (v d : Vec ℕ Global) → m < length waiting → v ≡ get_or waiting m d → noted_at waiting m ≡ v.items
noted-is waiting m v d inside is = by waiting m inside is
  where
    by : (waiting : List (Vec ℕ Global)) (m : ℕ) → m < length waiting → v ≡ get_or waiting m d → noted_at waiting m ≡ v.items
    by [] m inside is = absurd (omega arith)
    by (w ∷ waiting) zero inside is = ap items (sym is)
    by (w ∷ waiting) (suc m) inside is = by waiting m (omega arith) is

-- a number is there, or another one or none is
pub cases_number : (o : Option ℕ) (n : ℕ) → (o ≡ Some n) ⊎ (o ≢ Some n)
cases_number None n = inr (λ e. cc)
cases_number (Some m) n = elim (cases_eq m n) [ inl e ↦ inl (ap Some e) | inr d ↦ inr (λ e. d (cc)) ]
