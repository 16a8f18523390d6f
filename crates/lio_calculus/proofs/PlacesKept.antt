-- What throwing, returning and entering keep.
use Rattle.std.proofs.Common.{◌≡◌, refl, ℕ, ◌≤◌, pos, IsTrue, List, [], ◌∷◌, All, arith}
use Rattle.std.proofs.lemmas.Bool.{and_parts}
use Rattle.std.proofs.lemmas.List.Elements.{All-nil, All-head, All-tail, All-cons}
use Rattle.lio_values.specs.declared.fault.Fault.{Fault}
use Rattle.lio_values.specs.declared.value.Plain.TheVariants.{Whole}
use Rattle.lio_values.specs.declared.value.Content.TheVariants.{Faulted}
use Rattle.lio_values.specs.declared.value.Value.{Value}
use Rattle.lio_values.specs.declared.value.Value.TheVariants.{Sealed}
use Rattle.lio_syntax.specs.Statements.{Statement, Statements, Nothing, Then}
use Rattle.lio_syntax.specs.Environment.{Environment}
use Rattle.lio_syntax.specs.Items.{Item, Do, Access, Mark, Back, Fail, enter, rest_of, open_calls}
use Rattle.lio_syntax.specs.Throwing.{code_of, thrown, returned}
use Rattle.lio_calculus.specs.Sound.{EachBound, EachInItem, ItemSays, statement_says, block_says}
use Rattle.lio_calculus.proofs.Closed.{IsClosed}
use Rattle.lio_calculus.proofs.PlanEach.{bind-each}

-- entering a block
pub enter-all : (Q : Item → Type 0) → ((s : Statement) → Q (Do s)) → (block : Statements) (items : List Item) → All Q items → All Q (enter block items)
unfolding enter
enter-all Q free Nothing items all = all
enter-all Q free (Then s block) items all = All-cons Q (Do s) (enter block items) (free s) (enter-all Q free block items all)

pub enter-says : (block : Statements) (items : List Item) → IsTrue (block_says block) → All ItemSays items → All ItemSays (enter block items)
unfolding enter block_says statement_says
enter-says Nothing items said all = all
enter-says (Then s block) items said all =
    let parts = and_parts (statement_says s) (block_says block) said in
    All-cons ItemSays (Do s) (enter block items) parts.0 (enter-says block items parts.1 all)

pub enter-calls : (block : Statements) (items : List Item) → open_calls (enter block items) ≡ open_calls items
unfolding enter open_calls
enter-calls Nothing items = refl
enter-calls (Then s block) items = enter-calls block items

-- what is behind the first item
pub rest-all : (Q : Item → Type 0) (items : List Item) → All Q items → All Q (rest_of items)
rest-all Q [] all = all
rest-all Q (item ∷ items) all = All-tail Q item items all

pub rest-calls : (items : List Item) → open_calls (rest_of items) ≤ open_calls items
unfolding open_calls
rest-calls [] = omega arith
rest-calls (Do s ∷ items) = omega arith
rest-calls (Access s ∷ items) = omega arith
rest-calls (Mark code payload handler ∷ items) = omega arith
rest-calls (Back caller name ∷ items) = omega arith
rest-calls (Fail fault ∷ items) = omega arith

-- a property of items that a handler's block keeps
abbrev pub KeepsHandlers : (Item → Type 0) → Type 0
KeepsHandlers Q = (code payload : List ℕ) (handler : Statements) (items : List Item) → Q (Mark code payload handler) → All Q items → All Q (enter handler items)

pub thrown-all : (Q : Item → Type 0) (fault : Fault) → Q (Fail fault) → KeepsHandlers Q → (environment : Environment) (items : List Item) → All Q items → All Q (thrown fault environment items).items
unfolding thrown
thrown-all Q fault failing handles environment [] all = All-cons Q (Fail fault) [] failing (All-nil Q)
thrown-all Q fault failing handles environment (Mark code payload handler ∷ items) all = handles code payload handler items (All-head Q (Mark code payload handler) items all) (All-tail Q (Mark code payload handler) items all)
thrown-all Q fault failing handles environment (Back caller name ∷ items) all = thrown-all Q fault failing handles caller items (All-tail Q (Back caller name) items all)
thrown-all Q fault failing handles environment (Do s ∷ items) all = thrown-all Q fault failing handles environment items (All-tail Q (Do s) items all)
thrown-all Q fault failing handles environment (Access s ∷ items) all = thrown-all Q fault failing handles environment items (All-tail Q (Access s) items all)
thrown-all Q fault failing handles environment (Fail before ∷ items) all = thrown-all Q fault failing handles environment items (All-tail Q (Fail before) items all)

pub thrown-bound : (P : Value → Type 0) → IsClosed P → (fault : Fault) (environment : Environment) (items : List Item) → P (Sealed fault.at (Faulted fault)) → EachBound P environment → All (EachInItem P) items → EachBound P (thrown fault environment items).environment
unfolding thrown
thrown-bound P closed fault environment [] p each all = each
thrown-bound P closed fault environment (Mark code payload handler ∷ items) p each all =
    bind-each P _ payload _ (bind-each P environment code _ each (closed.simple (Whole (pos (code_of fault.kind))) tt)) (closed.payload fault.at fault p)
thrown-bound P closed fault environment (Back caller name ∷ items) p each all = thrown-bound P closed fault caller items p (All-head (EachInItem P) (Back caller name) items all) (All-tail (EachInItem P) (Back caller name) items all)
thrown-bound P closed fault environment (Do s ∷ items) p each all = thrown-bound P closed fault environment items p each (All-tail (EachInItem P) (Do s) items all)
thrown-bound P closed fault environment (Access s ∷ items) p each all = thrown-bound P closed fault environment items p each (All-tail (EachInItem P) (Access s) items all)
thrown-bound P closed fault environment (Fail before ∷ items) p each all = thrown-bound P closed fault environment items p each (All-tail (EachInItem P) (Fail before) items all)

pub thrown-calls : (fault : Fault) (environment : Environment) (items : List Item) → open_calls (thrown fault environment items).items ≤ open_calls items
unfolding thrown open_calls
thrown-calls fault environment [] = omega arith
thrown-calls fault environment (Mark code payload handler ∷ items) = omega (arith, enter-calls handler items)
thrown-calls fault environment (Back caller name ∷ items) = omega (arith, thrown-calls fault caller items)
thrown-calls fault environment (Do s ∷ items) = thrown-calls fault environment items
thrown-calls fault environment (Access s ∷ items) = thrown-calls fault environment items
thrown-calls fault environment (Fail before ∷ items) = thrown-calls fault environment items

-- returning
pub returned-all : (Q : Item → Type 0) (value : Value) (environment : Environment) (items : List Item) → All Q items → All Q (returned value environment items).items
unfolding returned
returned-all Q value environment [] all = all
returned-all Q value environment (Back caller name ∷ items) all = All-tail Q (Back caller name) items all
returned-all Q value environment (Do s ∷ items) all = returned-all Q value environment items (All-tail Q (Do s) items all)
returned-all Q value environment (Access s ∷ items) all = returned-all Q value environment items (All-tail Q (Access s) items all)
returned-all Q value environment (Mark code payload handler ∷ items) all = returned-all Q value environment items (All-tail Q (Mark code payload handler) items all)
returned-all Q value environment (Fail fault ∷ items) all = returned-all Q value environment items (All-tail Q (Fail fault) items all)

pub returned-bound : (P : Value → Type 0) (value : Value) (environment : Environment) (items : List Item) → P value → EachBound P environment → All (EachInItem P) items → EachBound P (returned value environment items).environment
unfolding returned
returned-bound P value environment [] p each all = each
returned-bound P value environment (Back caller name ∷ items) p each all = bind-each P caller name value (All-head (EachInItem P) (Back caller name) items all) p
returned-bound P value environment (Do s ∷ items) p each all = returned-bound P value environment items p each (All-tail (EachInItem P) (Do s) items all)
returned-bound P value environment (Access s ∷ items) p each all = returned-bound P value environment items p each (All-tail (EachInItem P) (Access s) items all)
returned-bound P value environment (Mark code payload handler ∷ items) p each all = returned-bound P value environment items p each (All-tail (EachInItem P) (Mark code payload handler) items all)
returned-bound P value environment (Fail fault ∷ items) p each all = returned-bound P value environment items p each (All-tail (EachInItem P) (Fail fault) items all)

pub returned-calls : (value : Value) (environment : Environment) (items : List Item) → open_calls (returned value environment items).items ≤ open_calls items
unfolding returned open_calls
returned-calls value environment [] = omega arith
returned-calls value environment (Back caller name ∷ items) = omega arith
returned-calls value environment (Do s ∷ items) = returned-calls value environment items
returned-calls value environment (Access s ∷ items) = returned-calls value environment items
returned-calls value environment (Mark code payload handler ∷ items) = returned-calls value environment items
returned-calls value environment (Fail fault ∷ items) = returned-calls value environment items
