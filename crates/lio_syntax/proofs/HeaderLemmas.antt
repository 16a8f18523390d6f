-- On tables of procedures.
use Rattle.std.proofs.Common.{◌≡◌, ℕ, Bool, true, false, cond, if◌then◌else◌, List, [], ◌∷◌, refl, ap, sym, ◌∙◌, Option, Some, None, Vec, bytes_eq, is_some, true≢false}
use Rattle.std.specs.Global.{Global}
use Rattle.std.specs.Map.{lookup}
use Rattle.std.proofs.lemmas.Slice.Eq.{bytes_eq-Decides}
use Rattle.indexmap.specs.IndexMap.{insert_entry}
use Rattle.lio_syntax.specs.Rules.{or_else}

-- what a table has under a name
abbrev pub under : List ℕ → List (Vec ℕ Global × ℕ) → Option ℕ
under name entries = lookup (λ key. bytes_eq name key.items) entries

pub or_else-none : {X : Type 0} (o : Option X) → or_else o None ≡ o
or_else-none None = refl
or_else-none (Some x) = refl

pub or_else-assoc : {X : Type 0} (o p q : Option X) → or_else (or_else o p) q ≡ or_else o (or_else p q)
or_else-assoc None p q = refl
or_else-assoc (Some x) p q = refl

-- an entry behind the others
under-more : (q : List ℕ) (entry : Vec ℕ Global × ℕ) (entries others : List (Vec ℕ Global × ℕ)) (new : Option ℕ) → under q others ≡ or_else (under q entries) new
    → under q (entry ∷ others) ≡ or_else (under q (entry ∷ entries)) new
under-more q entry entries others new e = by (bytes_eq q entry.0.items)
  where
    by : (b : Bool) → cond b (Some entry.1) (under q others) ≡ or_else (cond b (Some entry.1) (under q entries)) new
    by true = refl
    by false = e

-- the entries with the key, of which none has the name, have what they had and, under the name, what is put there
abbrev Inserts : List ℕ → List ℕ → Vec ℕ Global → ℕ → List (Vec ℕ Global × ℕ) → Type 0
Inserts q name key count entries =
    under q (insert_entry (λ k l. bytes_eq k.items l.items) entries key count) ≡ or_else (under q entries) (if bytes_eq q name then Some count else None)

insert-cons : (q name : List ℕ) (key : Vec ℕ Global) (count : ℕ) (entry : Vec ℕ Global × ℕ) (entries : List (Vec ℕ Global × ℕ)) → key.items ≡ name
    → under name (entry ∷ entries) ≡ None → (under name entries ≡ None → Inserts q name key count entries) → (b : Bool) → bytes_eq name entry.0.items ≡ b → Inserts q name key count (entry ∷ entries)
insert-cons q name key count entry entries same none rest true e =
    let some : Some entry.1 ≡ None = sym (ap (λ c. cond c (Some entry.1) (under name entries)) e) ∙ none in absurd (cc)
insert-cons q name key count entry entries same none rest false e =
    let others : under name entries ≡ None = sym (ap (λ c. cond c (Some entry.1) (under name entries)) e) ∙ none in
    let other : bytes_eq key.items entry.0.items ≡ false = ap (λ items. bytes_eq items entry.0.items) same ∙ e in
    rw other (under-more q entry entries _ _ (rest others))

pub under-insert : (q name : List ℕ) (key : Vec ℕ Global) (count : ℕ) (entries : List (Vec ℕ Global × ℕ)) → key.items ≡ name → under name entries ≡ None
    → Inserts q name key count entries
under-insert q name key count [] same none = rw same refl
under-insert q name key count (entry ∷ entries) same none =
    insert-cons q name key count entry entries same none (under-insert q name key count entries same) (bytes_eq name entry.0.items) refl

-- a name that is there already
pub under-again : (q name : List ℕ) (count : ℕ) (entries : List (Vec ℕ Global × ℕ)) → is_some (under name entries) ≡ true
    → under q entries ≡ or_else (under q entries) (if bytes_eq q name then Some count else None)
under-again q name count entries some = by (bytes_eq q name) refl
  where
    there : (o : Option ℕ) → is_some o ≡ true → o ≡ or_else o (Some count)
    there None e = absurd (true≢false (sym e))
    there (Some n) e = refl

    by : (b : Bool) → bytes_eq q name ≡ b → under q entries ≡ or_else (under q entries) (if b then Some count else None)
    by false e = sym (or_else-none (under q entries))
    by true e = let same : q ≡ name = (bytes_eq-Decides q name).0 e in there (under q entries) (ap (λ n. is_some (under n entries)) same ∙ some)

-- a name that isn't there
pub not_there : (o : Option ℕ) → is_some o ≡ false → o ≡ None
not_there None e = refl
not_there (Some n) e = absurd (true≢false e)
