use Rattle.std.proofs.Common.{◌≡◌, ℕ, ◌+◌, ◌<◌, List, [], ◌∷◌, ◌++◌, map, take, length, get_or, sym, ◌∙◌, ap, arith, append_assoc, append-nil}
use Rattle.std.specs.Prelude.{bit_or}
use Rattle.std.proofs.lemmas.List.{take_more, take_all, map-append}
use Rattle.std.proofs.lemmas.Grind.{flat_map-append}
use Rattle.lio_clauses.specs.Bits.{unions}
use Rattle.lio_clauses.proofs.reduce.all_unions.Goals as goal

-- one more clause of the right side
inner : (before right : List ℕ) (a j : ℕ) → j < length right
    → (before ++ map (bit_or a) (take j right)) ++ bit_or a (get_or right j 0) ∷ [] ≡ before ++ map (bit_or a) (take (j + 1) right)
inner before right a j l =
    rw (take_more right j 0 l, map-append (bit_or a) (take j right) (get_or right j 0 ∷ []))
    (append_assoc before (map (bit_or a) (take j right)) (bit_or a (get_or right j 0) ∷ []))

-- one more clause of the left side
outer : (left right : List ℕ) (i : ℕ) → i < length left → unions (take i left) right ++ map (bit_or (get_or left i 0)) right ≡ unions (take (i + 1) left) right
outer left right i l =
    rw (take_more left i 0 l, flat_map-append (λ a. map (bit_or a) right) (take i left) (get_or left i 0 ∷ []))
    (ap (λ v. unions (take i left) right ++ v) (sym (append-nil (map (bit_or (get_or left i 0)) right))))

pub lefts-init : goal.lefts-init
lefts-init c = c.new-clauses.ensures.items

pub rights-init : goal.rights-init
rights-init c = c.lefts.invariant ∙ sym (append-nil (unions (take c.lefts.a-index c.args.left.now) c.args.right.now))

pub rights-preserved : goal.rights-preserved
rights-preserved c =
    let before : List ℕ = unions (take c.lefts.a-index c.args.left.now) c.args.right.now in
    let a : ℕ = get_or c.args.left.now c.lefts.a-index 0 in
    c.in_ok-push.ensures.ok ∙ ap (λ v. v ++ bit_or a (get_or c.args.right.now c.rights.b-index 0) ∷ []) c.rights.invariant
    ∙ inner before c.args.right.now a c.rights.b-index (omega arith)

pub lefts-preserved : goal.lefts-preserved
lefts-preserved c =
    let before : List ℕ = unions (take c.lefts.a-index c.args.left.now) c.args.right.now in
    let a : ℕ = get_or c.args.left.now c.lefts.a-index 0 in
    let whole : take c.rights.b-index c.args.right.now ≡ c.args.right.now = take_all c.rights.b-index c.args.right.now (omega arith) in
    c.rights.invariant ∙ ap (λ v. before ++ map (bit_or a) v) whole ∙ outer c.args.left.now c.args.right.now c.lefts.a-index (omega arith)

pub returns : goal.returns
returns c =
    let whole : take c.lefts.a-index c.args.left.now ≡ c.args.left.now = take_all c.lefts.a-index c.args.left.now (omega arith) in
    c.lefts.invariant ∙ ap (λ v. unions v c.args.right.now) whole
