-- What the effects make of a place.
use Rattle.std.proofs.Common.{◌≡◌, ℕ, zero, suc, ◌+◌, ◌<◌, List, [], ◌∷◌, ◌++◌, length, take, get_or, refl, ap, sym, ◌∙◌, arith}
use Rattle.std.proofs.lemmas.List.{take_more, take_more_set, set-get_or}
use Rattle.std.proofs.Math.ListN.{set, length-set}
use Rattle.std.proofs.lemmas.Grind.{common_steps}
use Rattle.std.specs.Prelude.{Result, Ok, Err, OnErr}
use Rattle.lio_values.specs.declared.fault.Fault.{Fault}
use Rattle.lio_values.specs.declared.value.Value.{Value}
use Rattle.lio_syntax_lines.specs.declared.line.Line.{Line}
use Rattle.lio_syntax_lines.specs.declared.line.Simple.{Simple}
use Rattle.lio_syntax.specs.Statements.{Statements, Nothing, Then}
use Rattle.lio_syntax.specs.Statements as statement
use Rattle.lio_task_control.specs.declared.frame.Frame.{Frame}
use Rattle.lio_task_control.specs.declared.frame.Call.{Call}
use Rattle.lio_task_control.specs.declared.continuation.Continuation.{Continuation}
use Rattle.lio_syntax.specs.Environment.{Environment, bind}
use Rattle.lio_syntax.specs.Items.{Item, Do, Access, Mark, Back, Fail, enter, rest_of, open_calls}
use Rattle.lio_syntax.specs.Throwing.{Place, thrown, returned}
use Rattle.lio_task_control.specs.Continuation.{frame_items, frame_over, call_over, calls_over, place_of}
use Rattle.lio_task_control.specs.Front.{AtStatement, IsOwn, IsBack, Begins, entered, entered_other}
use Rattle.lio_task_control.specs.Parts.{IsOutside, IsAccessed, SameCalls, outermost}
use Rattle.lio_task_control.proofs.OwnLemmas.{frame-no_back, returned-over, open_calls-over}

pub at_own : (items : List Item) → AtStatement items → IsOwn items
at_own [] at = absurd at
at_own (Do statement ∷ items) at = at
at_own (Access statement ∷ items) at = at
at_own (Mark code payload handler ∷ items) at = absurd at
at_own (Back environment name ∷ items) at = absurd at
at_own (Fail fault ∷ items) at = absurd at

-- the calls that are open
open_calls-calls : (lines : List Line) (calls : List Call) (items : List Item) → open_calls (calls_over lines calls items) ≡ length calls + open_calls items
unfolding calls_over open_calls
open_calls-calls lines [] items = omega arith
open_calls-calls lines (call ∷ calls) items =
    omega (arith, open_calls-calls lines calls (call_over lines call items), open_calls-over (frame_items lines call.caller) items (frame-no_back lines call.caller))

-- the first of items that the running procedure itself still has to do comes from its frame
pub outside-calls : (lines : List Line) (calls : List Call) (items : List Item) → IsOutside items → IsOutside (calls_over lines calls items)
unfolding calls_over
outside-calls lines [] items outside = outside
outside-calls lines (call ∷ calls) items outside = outside-calls lines calls (call_over lines call items) (tt {0})

pub own_or_outside : (items : List Item) → IsOwn items → IsOutside items → ⊥
own_or_outside [] own outside = own
own_or_outside (Do statement ∷ items) own outside = outside
own_or_outside (Access statement ∷ items) own outside = outside
own_or_outside (Mark code payload handler ∷ items) own outside = outside
own_or_outside (Back environment name ∷ items) own outside = own
own_or_outside (Fail fault ∷ items) own outside = outside

-- one more call
calls_over-append : (lines : List Line) (xs ys : List Call) (items : List Item) → calls_over lines (xs ++ ys) items ≡ calls_over lines ys (calls_over lines xs items)
unfolding calls_over
calls_over-append lines [] ys items = refl
calls_over-append lines (x ∷ xs) ys items = calls_over-append lines xs ys (call_over lines x items)

pub calls_over-push : (lines : List Line) (xs : List Call) (call : Call) (items : List Item) → calls_over lines (xs ++ call ∷ []) items ≡ call_over lines call (calls_over lines xs items)
unfolding calls_over
calls_over-push lines xs call items = calls_over-append lines xs (call ∷ []) items

pub take-next : {X : Type 0} (xs : List X) (i : ℕ) (x : X) → i < length xs → x ≡ get_or xs i x → take (i + 1) xs ≡ take i xs ++ x ∷ []
take-next xs i x within is = take_more xs i x within ∙ ap (λ y. take i xs ++ y ∷ []) (sym is)

pub calls_over-take : (lines : List Line) (calls : List Call) (i : ℕ) (call : Call) (items : List Item) → i < length calls → call ≡ get_or calls i call
    → calls_over lines (take (i + 1) calls) items ≡ call_over lines call (calls_over lines (take i calls) items)
calls_over-take lines calls i call items within is =
    ap (λ (cs : List Call). calls_over lines cs items) (take-next calls i call within is) ∙ calls_over-push lines (take i calls) call items

-- what the frame goes back to
abbrev pub below : List Line → List Call → List Item
below lines calls = calls_over lines calls []

-- equal environments and equal items make equal places
pub place_eq : (e f : Environment) (is js : List Item) → e ≡ f → is ≡ js → (let one : Place = record { environment = e; items = is } in let other : Place = record { environment = f; items = js } in one ≡ other)
place_eq e f is js p q =
    let at : Environment → List Item → Place = λ e is. record { environment = e; items = is } in
    ap (λ e. at e is) p ∙ ap (at f) q

-- what is done to the items of a frame is done to those before other items, where they begin in it
pub rest_over : (items others : List Item) → IsOutside others → IsOwn (items ++ others) → rest_of items ++ others ≡ rest_of (items ++ others)
rest_over [] others outside own = absurd (own_or_outside others own outside)
rest_over (item ∷ items) others outside own = refl

enter-append : (block : Statements) (xs ys : List Item) → enter block xs ++ ys ≡ enter block (xs ++ ys)
unfolding enter
enter-append Nothing xs ys = refl
enter-append (Then statement block) xs ys = ap (λ (items : List Item). Do statement ∷ items) (enter-append block xs ys)

entered_over : (items others : List Item) → IsOutside others → IsOwn (items ++ others) → entered items ++ others ≡ entered (items ++ others)
entered_over [] others outside own = absurd (own_or_outside others own outside)
entered_over (Do (statement.Do s) ∷ items) others outside own = refl
entered_over (Do (statement.If a block) ∷ items) others outside own = enter-append block items others
entered_over (Do (statement.IfElse a block other) ∷ items) others outside own = enter-append block items others
entered_over (Do (statement.While a block) ∷ items) others outside own = enter-append block (Do (statement.While a block) ∷ items) others
entered_over (Do (statement.Try block x y handler) ∷ items) others outside own = enter-append block (Mark x y handler ∷ items) others
entered_over (Access s ∷ items) others outside own = refl
entered_over (Mark x y handler ∷ items) others outside own = refl
entered_over (Back environment name ∷ items) others outside own = refl
entered_over (Fail fault ∷ items) others outside own = refl

entered_other_over : (items others : List Item) → IsOutside others → IsOwn (items ++ others) → entered_other items ++ others ≡ entered_other (items ++ others)
entered_other_over [] others outside own = absurd (own_or_outside others own outside)
entered_other_over (Do (statement.Do s) ∷ items) others outside own = refl
entered_other_over (Do (statement.If a block) ∷ items) others outside own = refl
entered_other_over (Do (statement.IfElse a block other) ∷ items) others outside own = enter-append other items others
entered_other_over (Do (statement.While a block) ∷ items) others outside own = refl
entered_other_over (Do (statement.Try block x y handler) ∷ items) others outside own = refl
entered_other_over (Access s ∷ items) others outside own = refl
entered_other_over (Mark x y handler ∷ items) others outside own = refl
entered_other_over (Back environment name ∷ items) others outside own = refl
entered_other_over (Fail fault ∷ items) others outside own = refl

pub outside_below : (lines : List Line) (calls : List Call) → IsOutside (below lines calls)
outside_below lines calls = outside-calls lines calls [] (tt {0})

-- the frame is moved on
pub moved : (lines : List Line) (calls : List Call) (old new : Frame) → frame_items lines new ≡ rest_of (frame_items lines old) → IsOwn (frame_over lines old (below lines calls))
    → frame_over lines new (below lines calls) ≡ rest_of (frame_over lines old (below lines calls))
moved lines calls old new is own = ap (λ (items : List Item). items ++ below lines calls) is ∙ rest_over (frame_items lines old) (below lines calls) (outside_below lines calls) own

pub moved_in : (lines : List Line) (calls : List Call) (old new : Frame) → frame_items lines new ≡ entered (frame_items lines old) → IsOwn (frame_over lines old (below lines calls))
    → frame_over lines new (below lines calls) ≡ entered (frame_over lines old (below lines calls))
moved_in lines calls old new is own = ap (λ (items : List Item). items ++ below lines calls) is ∙ entered_over (frame_items lines old) (below lines calls) (outside_below lines calls) own

pub moved_other : (lines : List Line) (calls : List Call) (old new : Frame) → frame_items lines new ≡ entered_other (frame_items lines old) → IsOwn (frame_over lines old (below lines calls))
    → frame_over lines new (below lines calls) ≡ entered_other (frame_over lines old (below lines calls))
moved_other lines calls old new is own = ap (λ (items : List Item). items ++ below lines calls) is ∙ entered_other_over (frame_items lines old) (below lines calls) (outside_below lines calls) own

-- the access of the statement that comes first
begins_do : (items others : List Item) (simple : Simple) → IsOutside others → Begins (items ++ others) (statement.Do simple) → items ≡ Do (statement.Do simple) ∷ rest_of items
begins_do [] [] simple outside e = let wrong : [] ≡ Do (statement.Do simple) ∷ [] = e in absurd (cc)
begins_do [] (Do s ∷ others) simple outside e = absurd outside
begins_do [] (Access s ∷ others) simple outside e = absurd outside
begins_do [] (Mark x y handler ∷ others) simple outside e = absurd outside
begins_do [] (Back environment name ∷ others) simple outside e = let wrong : Back environment name ∷ others ≡ Do (statement.Do simple) ∷ others = e in absurd (cc)
begins_do [] (Fail fault ∷ others) simple outside e = absurd outside
begins_do (item ∷ items) others simple outside e =
    let same : item ∷ items ++ others ≡ Do (statement.Do simple) ∷ items ++ others = e in
    let is : item ≡ Do (statement.Do simple) = cc in ap (λ (i : Item). i ∷ items) is

accessed_over : (old new others : List Item) (simple : Simple) → IsAccessed old new → old ≡ Do (statement.Do simple) ∷ rest_of old → new ++ others ≡ Access simple ∷ rest_of (old ++ others)
accessed_over old new others simple is e =
    ap (λ (items : List Item). items ++ others) (is simple (rest_of old) e) ∙ sym (ap (λ (items : List Item). Access simple ∷ rest_of (items ++ others)) e)

pub moved_access : (lines : List Line) (calls : List Call) (old new : Frame) (simple : Simple) → IsAccessed (frame_items lines old) (frame_items lines new) → Begins (frame_over lines old (below lines calls)) (statement.Do simple)
    → frame_over lines new (below lines calls) ≡ Access simple ∷ rest_of (frame_over lines old (below lines calls))
moved_access lines calls old new simple is begins =
    accessed_over (frame_items lines old) (frame_items lines new) (below lines calls) simple is (begins_do (frame_items lines old) (below lines calls) simple (outside_below lines calls) begins)

-- a procedure begins
pub body_over : (lines : List Line) (calls : List Call) (new : Frame) (block : Statements) → frame_items lines new ≡ enter block [] → frame_over lines new (below lines calls) ≡ enter block (below lines calls)
body_over lines calls new block is = ap (λ (items : List Item). items ++ below lines calls) is ∙ enter-append block [] (below lines calls)

pub items_over : (lines : List Line) (new : Frame) (items others : List Item) → frame_items lines new ≡ items → frame_over lines new others ≡ items ++ others
items_over lines new items others is = ap (λ (first : List Item). first ++ others) is

pub no_calls : (lines : List Line) (calls : List Call) → calls ≡ [] → (let none : List Item = [] in below lines calls ≡ none)
unfolding calls_over
no_calls lines calls is = ap (λ cs. calls_over lines cs []) is

-- one more call
pub called : (lines : List Line) (calls news : List Call) (call : Call) → news ≡ calls ++ call ∷ [] → below lines news ≡ call_over lines call (below lines calls)
called lines calls news call is = ap (λ cs. calls_over lines cs []) is ∙ calls_over-push lines calls call []

-- the calls that are open
pub open_calls-place : (lines : List Line) (c : Continuation) → open_calls (place_of lines c).items ≡ length c.calls.items
unfolding place_of open_calls
open_calls-place lines c =
    omega (arith, open_calls-over (frame_items lines c.frame) (below lines c.calls.items) (frame-no_back lines c.frame), open_calls-calls lines c.calls.items [])

-- going back to the innermost call
pub went_back : (lines : List Line) (value : Value) (environment : Environment) (frame : Frame) (calls rest : List Call) (call : Call) → calls ≡ rest ++ call ∷ []
    → returned value environment (frame_over lines frame (below lines calls)) ≡ record { environment = bind call.caller.environment call.name value; items = frame_over lines call.caller (below lines rest) }
unfolding returned
went_back lines value environment frame calls rest call is =
    returned-over value environment (frame_items lines frame) (below lines calls) (frame-no_back lines frame) ∙ ap (returned value environment) (called lines rest calls call is)

pub went_nowhere : (lines : List Line) (value : Value) (environment : Environment) (frame : Frame) (calls : List Call) → calls ≡ []
    → returned value environment (frame_over lines frame (below lines calls)) ≡ record { environment = environment; items = [] }
unfolding returned
went_nowhere lines value environment frame calls is =
    returned-over value environment (frame_items lines frame) (below lines calls) (frame-no_back lines frame) ∙ ap (returned value environment) (no_calls lines calls is)

pub returned-own : (value : Value) (environment : Environment) (items : List Item) → AtStatement items → returned value environment items ≡ returned value environment (rest_of items)
unfolding returned
returned-own value environment [] at = absurd at
returned-own value environment (Do statement ∷ items) at = refl
returned-own value environment (Access statement ∷ items) at = refl
returned-own value environment (Mark code payload handler ∷ items) at = absurd at
returned-own value environment (Back caller name ∷ items) at = absurd at
returned-own value environment (Fail fault ∷ items) at = absurd at

pub thrown-own : (fault : Fault) (environment : Environment) (items : List Item) → AtStatement items → thrown fault environment items ≡ thrown fault environment (rest_of items)
unfolding thrown
thrown-own fault environment [] at = absurd at
thrown-own fault environment (Do statement ∷ items) at = refl
thrown-own fault environment (Access statement ∷ items) at = refl
thrown-own fault environment (Mark code payload handler ∷ items) at = absurd at
thrown-own fault environment (Back caller name ∷ items) at = absurd at
thrown-own fault environment (Fail before ∷ items) at = absurd at

-- what holds, where an error is answered
pub on_err : {X E : Type 0} (r : Result X E) (P : Type 0) → P → OnErr r P
on_err (Ok x) P p = tt {0}
on_err (Err e) P p = p

-- a call on top, by its parts
pub called_back : (lines : List Line) (calls news : List Call) (call : Call) (frame : Frame) (environment : Environment) (name : List ℕ) (items : List Item)
    → news ≡ calls ++ call ∷ [] → call.caller ≡ frame → frame.environment ≡ environment → call.name ≡ name → frame_over lines frame (below lines calls) ≡ items
    → below lines news ≡ Back environment name ∷ items
called_back lines calls news call frame environment name items new is e n i =
    called lines calls news call new
    ∙ ap (λ (f : Frame). Back f.environment call.name ∷ frame_over lines f (below lines calls)) is
    ∙ ap (λ (e : Environment). Back e call.name ∷ frame_over lines frame (below lines calls)) e
    ∙ ap (λ (n : List ℕ). Back environment n ∷ frame_over lines frame (below lines calls)) n
    ∙ ap (λ (is : List Item). Back environment name ∷ is) i

pub none_left : {X : Type 0} (xs : List X) → length xs ≡ 0 → xs ≡ []
none_left [] e = refl
none_left (x ∷ xs) e = absurd (omega arith)

-- the last of a list
pub last_set : {X : Type 0} (xs : List X) (n i : ℕ) (x : X) → n ≡ i + 1 → n ≡ length xs → set xs i x ≡ take i xs ++ x ∷ []
last_set {X = X} xs n i x is all =
    let whole : take (i + 1) (set xs i x) ≡ set xs i x = grind (arith, common_steps, length-set {A = X}) in sym whole ∙ take_more_set xs i x (omega arith)

pub last_get : {X : Type 0} (xs : List X) (n i : ℕ) (x : X) → n ≡ i + 1 → n ≡ length xs → x ≡ get_or xs i x → xs ≡ take i xs ++ x ∷ []
last_get xs n i x is all here =
    let whole : take (i + 1) xs ≡ xs = grind (arith, common_steps) in sym whole ∙ take-next xs i x (omega arith) here

-- a call that is set again as it is
pub set_same : (calls : List Call) (i : ℕ) (call new : Call) → call ≡ get_or calls i call → new ≡ call → set calls i new ≡ calls
set_same calls i call new at is = ap (set calls i) (is ∙ at) ∙ set-get_or calls i call

-- where a call is open, the way back to a caller comes below the frame
back_over : (lines : List Line) (calls : List Call) (items : List Item) → IsBack items → IsBack (calls_over lines calls items)
unfolding calls_over
back_over lines [] items back = back
back_over lines (call ∷ calls) items back = back_over lines calls (call_over lines call items) (tt {0})

pub back_below : (lines : List Line) (calls : List Call) → 0 < length calls → IsBack (below lines calls)
unfolding calls_over
back_below lines [] some = absurd (omega arith)
back_below lines (call ∷ calls) some = back_over lines calls (call_over lines call []) (tt {0})

-- the environment of the frame above so many calls
pub above : List Call → Frame → ℕ → Environment
above [] frame n = frame.environment
above (call ∷ calls) frame zero = call.caller.environment
above (call ∷ calls) frame (suc n) = above calls frame n

pub above-all : (calls : List Call) (frame : Frame) (n : ℕ) → n ≡ length calls → above calls frame n ≡ frame.environment
unfolding above
above-all [] frame n is = refl
above-all (call ∷ calls) frame zero is = absurd (omega arith)
above-all (call ∷ calls) frame (suc n) is = above-all calls frame n (omega arith)

pub above-at : (calls : List Call) (frame : Frame) (n : ℕ) (call : Call) → n < length calls → call ≡ get_or calls n call → above calls frame n ≡ call.caller.environment
unfolding above
above-at [] frame n call within is = absurd (omega arith)
above-at (first ∷ calls) frame zero call within is = ap (λ (c : Call). c.caller.environment) (sym is)
above-at (first ∷ calls) frame (suc n) call within is = above-at calls frame n call (omega arith) is

pub above-none : (calls : List Call) (frame : Frame) (n : ℕ) → n ≡ 0 → above calls frame n ≡ outermost calls frame
unfolding above
above-none [] frame n is = refl
above-none (call ∷ calls) frame zero is = refl
above-none (call ∷ calls) frame (suc n) is = absurd (omega arith)

-- throwing past the innermost of so many calls
pub thrown-call : (lines : List Line) (fault : Fault) (environment : Environment) (calls : List Call) (n i : ℕ) (call : Call) → n ≡ i + 1 → i < length calls → call ≡ get_or calls i call
    → thrown fault environment (below lines (take n calls)) ≡ thrown fault call.caller.environment (frame_over lines call.caller (below lines (take i calls)))
unfolding thrown
thrown-call lines fault environment calls n i call is within at =
    ap (λ (k : ℕ). thrown fault environment (below lines (take k calls))) is ∙ ap (thrown fault environment) (calls_over-take lines calls i call [] within at)

-- throwing past all
pub thrown-none : (lines : List Line) (fault : Fault) (environment : Environment) (calls : List Call) (n : ℕ) → n ≡ 0
    → thrown fault environment (below lines (take n calls)) ≡ record { environment = environment; items = Fail fault ∷ [] }
unfolding thrown
thrown-none lines fault environment calls n is =
    let none : take n calls ≡ [] = grind (arith, common_steps) in ap (λ cs. thrown fault environment (below lines cs)) none ∙ ap (thrown fault environment) (no_calls lines [] refl)

pub take_all : {X : Type 0} (xs : List X) (n : ℕ) → n ≡ length xs → take n xs ≡ xs
take_all xs n is = grind (arith, common_steps)

-- going on in the outermost procedure
pub resumed_outermost : (calls news after : List Call) (frame new : Frame) → news ≡ take 1 calls → (news ≡ [] → (after ≡ []) × (new ≡ frame))
    → ((cs : List Call) (call : Call) → news ≡ cs ++ call ∷ [] → (after ≡ cs) × (new ≡ call.caller)) → (after ≡ []) × (new.environment ≡ outermost calls frame)
resumed_outermost [] news after frame new is none some = let r = none is in (r.0, ap (λ (f : Frame). f.environment) r.1)
resumed_outermost (call ∷ calls) news after frame new is none some = let r = some [] call is in (r.0, ap (λ (f : Frame). f.environment) r.1)

-- equal calls and frames stand for the same place
pub same_place : (lines : List Line) (old new : Continuation) → SameCalls old new → place_of lines new ≡ place_of lines old
unfolding place_of
same_place lines old new same =
    ap (λ (cs : List Call). let p : Place = record { environment = new.frame.environment; items = frame_over lines new.frame (below lines cs) } in p) same.calls
    ∙ ap (λ (f : Frame). let p : Place = record { environment = f.environment; items = frame_over lines f (below lines old.calls.items) } in p) same.frame
