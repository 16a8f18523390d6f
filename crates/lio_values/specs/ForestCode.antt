-- What stands in a list of values, one after the other from the front, is that of no other list. So contracts tell lists apart.
use Rattle.std.specs.Prelude.{◌≡◌, ℕ, ◌==◌, true, false, ℤ, pos, List, [], ◌∷◌, get_or, if◌then◌else◌, refl}
use Rattle.std.proofs.Common.{ap, ◌∙◌}
use Rattle.std.specs.Coded.{Coded, code_by, coded_list, coded×, coded_ℕ, coded_ℤ}
use Rattle.lio_labels.specs.contracts.label.Label as label_contract
use Rattle.lio_labels.specs.declared.label.Label.{Label}
use Rattle.lio_labels.specs.contracts.privilege.Priv as power_contract
use Rattle.lio_labels.specs.declared.privilege.Priv.{Priv}
use Rattle.lio_values.specs.declared.value.Handle.{Handle}
use Rattle.lio_values.specs.Forest.{Tree, Problem, Inner, Item, Forest, Unit as unit, Flag, Whole, Bytes, Lab, Power, RefOf, VarOf, ResultOf, ChanOf, Items, FlowCurrent, FlowClearance, FlowRaise, FlowPrivilege, BadType, Overflow, DivZero, TooLong, NoTurns, NoCells, ChildTurns, Depth, LabelWide, User, Kept, Faulted, Hidden, Bare, Sealed, Nothing, Then}

-- what stands at a place, without what is below it: which of the cases it is, a number with sign, and its other numbers, labels and privileges
record Token : Type 0 where
  case : ℕ
  whole : ℤ
  numbers : List ℕ
  labels : List Label
  powers : List Priv

token_code : Coded Token
token_code = code_by (ℕ × (ℤ × (List ℕ × (List Label × List Priv))))
    (coded× coded_ℕ (coded× coded_ℤ (coded× (coded_list coded_ℕ) (coded× (coded_list label_contract.the_row.coded) (coded_list power_contract.the_row.coded)))))
    (λ t. (t.case, (t.whole, (t.numbers, (t.labels, t.powers))))) (λ t. record { case = t.0; whole = t.1.0; numbers = t.1.1.0; labels = t.1.1.1.0; powers = t.1.1.1.1 }) (λ t. refl)

abbrev alone : ℕ → Token
alone case = record { case = case; whole = pos 0; numbers = []; labels = []; powers = [] }

abbrev with_labels : ℕ → List Label → Token
with_labels case labels = record { case = case; whole = pos 0; numbers = []; labels = labels; powers = [] }

abbrev with_numbers : ℕ → List ℕ → Token
with_numbers case numbers = record { case = case; whole = pos 0; numbers = numbers; labels = []; powers = [] }

abbrev of_handle : ℕ → Handle → Token
of_handle case handle = record { case = case; whole = pos 0; numbers = handle.number ∷ []; labels = handle.label ∷ []; powers = [] }

-- ---- the tokens of a list, in front of others
unfoldable mutual
  tree_tokens : Tree → List Token → List Token
  tree_tokens unit rest = alone 0 ∷ rest
  tree_tokens (Flag true) rest = alone 1 ∷ rest
  tree_tokens (Flag false) rest = alone 2 ∷ rest
  tree_tokens (Whole number) rest = record { case = 3; whole = number; numbers = []; labels = []; powers = [] } ∷ rest
  tree_tokens (Bytes text) rest = with_numbers 4 text ∷ rest
  tree_tokens (Lab label) rest = with_labels 5 (label ∷ []) ∷ rest
  tree_tokens (Power privilege) rest = record { case = 6; whole = pos 0; numbers = []; labels = []; powers = privilege ∷ [] } ∷ rest
  tree_tokens (RefOf handle) rest = of_handle 7 handle ∷ rest
  tree_tokens (VarOf handle) rest = of_handle 8 handle ∷ rest
  tree_tokens (ResultOf handle) rest = of_handle 9 handle ∷ rest
  tree_tokens (ChanOf handle) rest = of_handle 10 handle ∷ rest
  tree_tokens (Items forest) rest = alone 11 ∷ forest_tokens forest rest

  problem_tokens : Problem → List Token → List Token
  problem_tokens (FlowCurrent current target) rest = with_labels 12 (current ∷ target ∷ []) ∷ rest
  problem_tokens (FlowClearance target clearance) rest = with_labels 13 (target ∷ clearance ∷ []) ∷ rest
  problem_tokens (FlowRaise raised clearance) rest = with_labels 14 (raised ∷ clearance ∷ []) ∷ rest
  problem_tokens (FlowPrivilege power source target) rest = record { case = 15; whole = pos 0; numbers = []; labels = source ∷ target ∷ []; powers = power ∷ [] } ∷ rest
  problem_tokens BadType rest = alone 16 ∷ rest
  problem_tokens Overflow rest = alone 17 ∷ rest
  problem_tokens DivZero rest = alone 18 ∷ rest
  problem_tokens TooLong rest = alone 19 ∷ rest
  problem_tokens NoTurns rest = alone 20 ∷ rest
  problem_tokens (NoCells asked left) rest = with_numbers 21 (asked ∷ left ∷ []) ∷ rest
  problem_tokens (ChildTurns asked left) rest = with_numbers 22 (asked ∷ left ∷ []) ∷ rest
  problem_tokens Depth rest = alone 23 ∷ rest
  problem_tokens (LabelWide left right) rest = with_labels 24 (left ∷ right ∷ []) ∷ rest
  problem_tokens (User tree) rest = alone 25 ∷ tree_tokens tree rest

  inner_tokens : Inner → List Token → List Token
  inner_tokens (Kept tree) rest = alone 26 ∷ tree_tokens tree rest
  inner_tokens (Faulted problem at) rest = with_labels 27 (at ∷ []) ∷ problem_tokens problem rest
  inner_tokens Hidden rest = alone 28 ∷ rest

  item_tokens : Item → List Token → List Token
  item_tokens (Bare tree) rest = alone 29 ∷ tree_tokens tree rest
  item_tokens (Sealed label inner) rest = with_labels 30 (label ∷ []) ∷ inner_tokens inner rest

  forest_tokens : Forest → List Token → List Token
  forest_tokens Nothing rest = alone 31 ∷ rest
  forest_tokens (Then item forest) rest = alone 32 ∷ item_tokens item (forest_tokens forest rest)

-- ---- the way back, from the last token to the first: what has been put together so far
data Grown : Type 0 where
  Over : Grown
  OnTree : Tree → Grown → Grown
  OnProblem : Problem → Grown → Grown
  OnInner : Inner → Grown → Grown
  OnItem : Item → Grown → Grown
  OnForest : Forest → Grown → Grown

abbrev in_items : Grown → Grown
in_items (OnForest forest k) = OnTree (Items forest) k
in_items other = Over

abbrev in_user : Grown → Grown
in_user (OnTree tree k) = OnProblem (User tree) k
in_user other = Over

abbrev in_kept : Grown → Grown
in_kept (OnTree tree k) = OnInner (Kept tree) k
in_kept other = Over

abbrev in_faulted : Label → Grown → Grown
in_faulted at (OnProblem problem k) = OnInner (Faulted problem at) k
in_faulted at other = Over

abbrev in_bare : Grown → Grown
in_bare (OnTree tree k) = OnItem (Bare tree) k
in_bare other = Over

abbrev in_sealed : Label → Grown → Grown
in_sealed label (OnInner inner k) = OnItem (Sealed label inner) k
in_sealed label other = Over

abbrev in_then : Grown → Grown
in_then (OnItem item (OnForest forest k)) = OnForest (Then item forest) k
in_then other = Over

-- a token's label, number or privilege at a place
abbrev label : Token → ℕ → Label
label token place = get_or token.labels place (record { secrecy = []; integrity = [] })

abbrev number : Token → ℕ → ℕ
number token place = get_or token.numbers place 0

abbrev power : Token → Priv
power token = get_or token.powers 0 (record { power = [] })

abbrev handle : Token → Handle
handle token = record { number = number token 0; label = label token 0 }

-- a token in front of what has been put together
abbrev before : ℕ → Token → Grown → Grown
before case token k =
    if case == 0 then OnTree unit k
    else (if case == 1 then OnTree (Flag true) k
    else (if case == 2 then OnTree (Flag false) k
    else (if case == 3 then OnTree (Whole token.whole) k
    else (if case == 4 then OnTree (Bytes token.numbers) k
    else (if case == 5 then OnTree (Lab (label token 0)) k
    else (if case == 6 then OnTree (Power (power token)) k
    else (if case == 7 then OnTree (RefOf (handle token)) k
    else (if case == 8 then OnTree (VarOf (handle token)) k
    else (if case == 9 then OnTree (ResultOf (handle token)) k
    else (if case == 10 then OnTree (ChanOf (handle token)) k
    else (if case == 11 then in_items k
    else (if case == 12 then OnProblem (FlowCurrent (label token 0) (label token 1)) k
    else (if case == 13 then OnProblem (FlowClearance (label token 0) (label token 1)) k
    else (if case == 14 then OnProblem (FlowRaise (label token 0) (label token 1)) k
    else (if case == 15 then OnProblem (FlowPrivilege (power token) (label token 0) (label token 1)) k
    else (if case == 16 then OnProblem BadType k
    else (if case == 17 then OnProblem Overflow k
    else (if case == 18 then OnProblem DivZero k
    else (if case == 19 then OnProblem TooLong k
    else (if case == 20 then OnProblem NoTurns k
    else (if case == 21 then OnProblem (NoCells (number token 0) (number token 1)) k
    else (if case == 22 then OnProblem (ChildTurns (number token 0) (number token 1)) k
    else (if case == 23 then OnProblem Depth k
    else (if case == 24 then OnProblem (LabelWide (label token 0) (label token 1)) k
    else (if case == 25 then in_user k
    else (if case == 26 then in_kept k
    else (if case == 27 then in_faulted (label token 0) k
    else (if case == 28 then OnInner Hidden k
    else (if case == 29 then in_bare k
    else (if case == 30 then in_sealed (label token 0) k
    else (if case == 31 then OnForest Nothing k
    else in_then k)))))))))))))))))))))))))))))))

unfoldable grown : List Token → Grown
grown [] = Over
grown (token ∷ tokens) = before token.case token (grown tokens)

abbrev forest_in : Grown → Forest
forest_in (OnForest forest k) = forest
forest_in other = Nothing

mutual
  unfolding grown tree_tokens problem_tokens inner_tokens item_tokens forest_tokens

  grown-tree : (tree : Tree) (rest : List Token) → grown (tree_tokens tree rest) ≡ OnTree tree (grown rest)
  grown-tree unit rest = refl
  grown-tree (Flag true) rest = refl
  grown-tree (Flag false) rest = refl
  grown-tree (Whole number) rest = refl
  grown-tree (Bytes text) rest = refl
  grown-tree (Lab label) rest = refl
  grown-tree (Power privilege) rest = refl
  grown-tree (RefOf handle) rest = refl
  grown-tree (VarOf handle) rest = refl
  grown-tree (ResultOf handle) rest = refl
  grown-tree (ChanOf handle) rest = refl
  grown-tree (Items forest) rest = ap in_items (grown-forest forest rest)

  grown-problem : (problem : Problem) (rest : List Token) → grown (problem_tokens problem rest) ≡ OnProblem problem (grown rest)
  grown-problem (FlowCurrent current target) rest = refl
  grown-problem (FlowClearance target clearance) rest = refl
  grown-problem (FlowRaise raised clearance) rest = refl
  grown-problem (FlowPrivilege power source target) rest = refl
  grown-problem BadType rest = refl
  grown-problem Overflow rest = refl
  grown-problem DivZero rest = refl
  grown-problem TooLong rest = refl
  grown-problem NoTurns rest = refl
  grown-problem (NoCells asked left) rest = refl
  grown-problem (ChildTurns asked left) rest = refl
  grown-problem Depth rest = refl
  grown-problem (LabelWide left right) rest = refl
  grown-problem (User tree) rest = ap in_user (grown-tree tree rest)

  grown-inner : (inner : Inner) (rest : List Token) → grown (inner_tokens inner rest) ≡ OnInner inner (grown rest)
  grown-inner (Kept tree) rest = ap in_kept (grown-tree tree rest)
  grown-inner (Faulted problem at) rest = ap (in_faulted at) (grown-problem problem rest)
  grown-inner Hidden rest = refl

  grown-item : (item : Item) (rest : List Token) → grown (item_tokens item rest) ≡ OnItem item (grown rest)
  grown-item (Bare tree) rest = ap in_bare (grown-tree tree rest)
  grown-item (Sealed label inner) rest = ap (in_sealed label) (grown-inner inner rest)

  grown-forest : (forest : Forest) (rest : List Token) → grown (forest_tokens forest rest) ≡ OnForest forest (grown rest)
  grown-forest Nothing rest = refl
  grown-forest (Then item forest) rest = ap in_then (grown-item item (forest_tokens forest rest) ∙ ap (OnItem item) (grown-forest forest rest))

-- a list is stored as its tokens
pub forest_code : Coded Forest
forest_code = code_by (List Token) (coded_list token_code) (λ forest. forest_tokens forest []) (λ tokens. forest_in (grown tokens)) (λ forest. ap forest_in (grown-forest forest []))
