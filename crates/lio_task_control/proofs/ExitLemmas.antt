-- Where one goes on, and where a fault is caught: what the table of places says of what a procedure still has to do.
use Rattle.std.specs.Prelude.{slice_get, Option, Some, None}
use Rattle.std.proofs.Common.{◌≡◌, ℕ, zero, suc, ◌+◌, ◌<◌, ◌≤◌, true, List, [], ◌∷◌, ◌++◌, length, drop, refl, ap, sym, subst, ◌∙◌, add-one, arith}
use Rattle.std.proofs.lemmas.Option.{slice_get_past}
use Rattle.lio_values.specs.declared.fault.Fault.{Fault}
use Rattle.lio_syntax_lines.specs.declared.line.Line.{Line}
use Rattle.lio_syntax_lines.specs.declared.line.Line.TheVariants as line
use Rattle.lio_syntax.specs.Statements.{Statement, Statements, Nothing, Then}
use Rattle.lio_syntax.specs.Behind.{Behind, Outside, Block, First, Tried, behind}
use Rattle.lio_syntax.specs.OpenBlocks.{accepts}
use Rattle.lio_syntax.specs.Closing.{end_of, IsInside}
use Rattle.lio_syntax.specs.declared.places.Place.{Place}
use Rattle.lio_syntax.specs.Places.{else_at, behind_else, first_place, settled, settled_by, blocks_by, blocks_behind, blocks_at, place_by, place_or, place_at}
use Rattle.lio_syntax.proofs.GrammarLemmas.{Fits, accepted}
use Rattle.lio_syntax.proofs.PlaceLemmas.{EndLine, end_line, Shape, here}
use Rattle.lio_syntax.specs.Environment.{Environment}
use Rattle.lio_syntax.specs.Items.{Item, Do, enter, rest_of}
use Rattle.lio_syntax.specs.Throwing.{Place as Stand, thrown}
use Rattle.lio_task_control.specs.Continuation.{block_of, block_at, innermost, marked, passed, outer_at, items_at}
use Rattle.lio_task_control.specs.Parts.{EndsAll, SettlesAt, CatchesNothing, with_fault}
use Rattle.lio_task_control.proofs.BlockLemmas.{block_at-proc, block_at-else, block_at-end, block_at-catch, block_at-none}
use Rattle.lio_task_control.proofs.ItemLemmas.{Marks, marks, none_marks, proc_marks, outer_next, end_outer, ending, StatementAt, do_at, while_at, if_at, try_at, catch_at}

-- what comes at a place, if a `catch` stands there
abbrev pub mark_items : Option Line → List Item → List Item
mark_items (Some (line.Catch x y)) items = items
mark_items line items = []

-- a fault in the items is caught by the `catch` at a place, if one stands there
abbrev pub Catches : List Line → ℕ → List Item → Type 0
Catches lines at items = (fault : Fault) (environment : Environment) (others : List Item)
    → thrown fault environment (items ++ others) ≡ thrown fault environment (mark_items (slice_get lines at) (items_at lines at) ++ others)

-- behind a block these items come
record Exit (lines : List Line) (place : Place) (items : List Item) : Type 0 where
  same : items_at lines place.behind ≡ items
  ends : EndsAll (slice_get lines place.behind) (items_at lines place.behind)
  caught : Catches lines place.handler items

Exits : List Line → List Place → List (List Item) → Type 0
Exits lines [] [] = Unit {0}
Exits lines [] (items ∷ outer) = ⊥
Exits lines (place ∷ places) [] = ⊥
Exits lines (place ∷ places) (items ∷ outer) = Exit lines place items × Exits lines places outer

drop_exits : (lines : List Line) (places : List Place) (outer : List (List Item)) → Exits lines places outer → Exits lines (drop 1 places) (drop 1 outer)
unfolding Exits
drop_exits lines [] [] x = x
drop_exits lines [] (items ∷ outer) x = absurd x
drop_exits lines (place ∷ places) [] x = absurd x
drop_exits lines (place ∷ places) (items ∷ outer) x = x.1

-- where nothing is left
ends_all : (l : Option Line) (items : List Item) → items ≡ [] → EndsAll l items
ends_all None items e = tt {0}
ends_all (Some (line.Proc name parameters)) items e = tt {0}
ends_all (Some (line.If a)) items e = tt {0}
ends_all (Some line.Else) items e = e
ends_all (Some (line.While a)) items e = tt {0}
ends_all (Some line.Try) items e = tt {0}
ends_all (Some (line.Catch x y)) items e = tt {0}
ends_all (Some line.End) items e = e
ends_all (Some (line.Do simple)) items e = tt {0}

mark_none : (l : Option Line) (items : List Item) → items ≡ [] → mark_items l items ≡ []
mark_none None items e = refl
mark_none (Some (line.Proc name parameters)) items e = refl
mark_none (Some (line.If a)) items e = refl
mark_none (Some line.Else) items e = refl
mark_none (Some (line.While a)) items e = refl
mark_none (Some line.Try) items e = refl
mark_none (Some (line.Catch x y)) items e = e
mark_none (Some line.End) items e = refl
mark_none (Some (line.Do simple)) items e = refl

catches_none : (lines : List Line) (at : ℕ) (items : List Item) → items_at lines at ≡ [] → items ≡ [] → Catches lines at items
catches_none lines at items none e = λ fault environment others.
    ap (λ (is : List Item). thrown fault environment (is ++ others)) (e ∙ sym (mark_none (slice_get lines at) (items_at lines at) none))

outside_none : (lines : List Line) (k : Behind) → Fits [] k → block_of k ≡ Nothing
unfolding Fits
outside_none lines (Outside procedures) fits = refl
outside_none lines (Block block k) fits = absurd fits
outside_none lines (First block other k) fits = absurd fits
outside_none lines (Tried block x y handler k) fits = absurd fits

first_items : (lines : List Line) → accepts [] lines ≡ true → items_at lines 0 ≡ []
unfolding items_at outer_at block_at enter
first_items lines placed = ap (λ (b : Statements). enter b []) (outside_none lines (behind lines) (accepted [] lines placed).fits)

first_exit : (lines : List Line) (places : List Place) (outer : List (List Item)) → accepts [] lines ≡ true → Exits lines places outer → Exit lines (first_place places) (innermost outer)
unfolding Exits
first_exit lines [] [] placed x =
    let none = first_items lines placed in record { same = none; ends = ends_all (slice_get lines 0) (items_at lines 0) none; caught = catches_none lines 0 [] none refl }
first_exit lines [] (items ∷ outer) placed x = absurd x
first_exit lines (place ∷ places) [] placed x = absurd x
first_exit lines (place ∷ places) (items ∷ outer) placed x = x.0

-- throwing passes over statements
thrown-enter : (fault : Fault) (environment : Environment) (block : Statements) (items others : List Item) → thrown fault environment (enter block items ++ others) ≡ thrown fault environment (items ++ others)
unfolding thrown enter
thrown-enter fault environment Nothing items others = refl
thrown-enter fault environment (Then statement block) items others = thrown-enter fault environment block items others

catches_at : (lines : List Line) (at handler : ℕ) (outer : List (List Item)) → outer_at lines at ≡ outer → Catches lines handler (innermost outer) → Catches lines handler (items_at lines at)
unfolding items_at
catches_at lines at handler outer is caught = λ fault environment others.
    thrown-enter fault environment (block_at lines at) (innermost (outer_at lines at)) others
    ∙ ap (λ (o : List (List Item)). thrown fault environment (innermost o ++ others)) is ∙ caught fault environment others

-- where a block ends one goes on behind it
settled_line : (lines : List Line) (at exit : ℕ) (l : Option Line) → accepts [] lines ≡ true → slice_get lines at ≡ l → items_at lines exit ≡ innermost (outer_at lines at) → EndsAll (slice_get lines exit) (items_at lines exit)
    → SettlesAt lines at (settled_by l at exit)
settled_line lines at exit None placed is e ends = record { same = refl; ends = subst (λ (l : Option Line). EndsAll l (items_at lines at)) (sym is) (tt {0}) }
settled_line lines at exit (Some (line.Proc name parameters)) placed is e ends = record { same = refl; ends = subst (λ (l : Option Line). EndsAll l (items_at lines at)) (sym is) (tt {0}) }
settled_line lines at exit (Some (line.If a)) placed is e ends = record { same = refl; ends = subst (λ (l : Option Line). EndsAll l (items_at lines at)) (sym is) (tt {0}) }
settled_line lines at exit (Some line.Else) placed is e ends = record { same = e ∙ sym (ending lines at (block_at-else lines at placed is)); ends = ends }
settled_line lines at exit (Some (line.While a)) placed is e ends = record { same = refl; ends = subst (λ (l : Option Line). EndsAll l (items_at lines at)) (sym is) (tt {0}) }
settled_line lines at exit (Some line.Try) placed is e ends = record { same = refl; ends = subst (λ (l : Option Line). EndsAll l (items_at lines at)) (sym is) (tt {0}) }
settled_line lines at exit (Some (line.Catch x y)) placed is e ends = record { same = refl; ends = subst (λ (l : Option Line). EndsAll l (items_at lines at)) (sym is) (tt {0}) }
settled_line lines at exit (Some line.End) placed is e ends = record { same = e ∙ sym (ending lines at (block_at-end lines at placed is)); ends = ends }
settled_line lines at exit (Some (line.Do simple)) placed is e ends = record { same = refl; ends = subst (λ (l : Option Line). EndsAll l (items_at lines at)) (sym is) (tt {0}) }

settled_exit : (lines : List Line) (at : ℕ) (place : Place) (outer : List (List Item)) → accepts [] lines ≡ true → outer_at lines at ≡ outer → Exit lines place (innermost outer) → SettlesAt lines at (settled lines at place.behind)
unfolding settled
settled_exit lines at place outer placed is x = settled_line lines at place.behind (slice_get lines at) placed refl (x.same ∙ sym (ap innermost is)) x.ends

-- behind a statement in a block
exit_behind : (lines : List Line) (at next : ℕ) (place : Place) (items : List Item) (outer : List (List Item)) → accepts [] lines ≡ true → outer_at lines next ≡ outer → Exit lines place (innermost outer) → items_at lines next ≡ items
    → Exit lines (record { behind = settled lines next place.behind; handler = place.handler }) items
exit_behind lines at next place items outer placed is x same =
    let s = settled_exit lines next place outer placed is x in
    record {
      same = s.same ∙ same;
      ends = s.ends;
      caught = subst (Catches lines place.handler) same (catches_at lines next place.handler outer is x.caught);
    }

proc_ends : (lines : List Line) (name : List ℕ) (parameters : List (List ℕ)) (k : Behind) (at : ℕ) → Shape (line.Proc name parameters) k → EndLine lines k at → slice_get lines at ≡ Some line.End
unfolding Shape EndLine
proc_ends lines name parameters (Outside procedures) at shape e = absurd shape
proc_ends lines name parameters (Block body k) at shape e = e
proc_ends lines name parameters (First block other k) at shape e = absurd shape
proc_ends lines name parameters (Tried block x y handler k) at shape e = absurd shape

proc_inside : (name : List ℕ) (parameters : List (List ℕ)) (k : Behind) → Shape (line.Proc name parameters) k → IsInside k
unfolding Shape
proc_inside name parameters (Outside procedures) shape = absurd shape
proc_inside name parameters (Block body k) shape = tt {0}
proc_inside name parameters (First block other k) shape = absurd shape
proc_inside name parameters (Tried block x y handler k) shape = absurd shape

-- one line more
exits_line : (lines : List Line) (at : ℕ) (l : Line) → accepts [] lines ≡ true → slice_get lines at ≡ Some l → Exits lines (blocks_at lines at) (outer_at lines at)
    → Exits lines (blocks_by l lines at (blocks_at lines at)) (passed (Some l) (items_at lines at) (outer_at lines at))
unfolding Exits
exits_line lines at (line.Proc name parameters) placed is x =
    let h = here lines at (line.Proc name parameters) placed is in
    let k = behind (drop (at + 1) lines) in
    let e = end_of lines (at + 1) in
    let ends = proc_ends lines name parameters k e h.shape (end_line lines (at + 1) placed h.within) in
    let outer = end_outer lines (at + 1) placed h.within (proc_inside name parameters k h.shape) ∙ outer_next lines at (line.Proc name parameters) is in
    let none : items_at lines e ≡ [] = ending lines e (block_at-end lines e placed ends) ∙ ap innermost outer in
    (record { same = none; ends = ends_all (slice_get lines e) (items_at lines e) none; caught = catches_none lines e [] none refl }, x)
exits_line lines at (line.If a) placed is x =
    let s = if_at lines at a placed is in
    let next = behind_else lines at (else_at lines at) in
    (exit_behind lines at next (first_place (blocks_at lines at)) (rest_of (items_at lines at)) (outer_at lines at) placed s.outer (first_exit lines (blocks_at lines at) (outer_at lines at) placed x) (sym (ap rest_of s.items)), x)
exits_line lines at line.Else placed is x = x
exits_line lines at (line.While a) placed is x =
    let first = first_exit lines (blocks_at lines at) (outer_at lines at) placed x in
    (record { same = refl; ends = subst (λ (l : Option Line). EndsAll l (items_at lines at)) (sym is) (tt {0}); caught = catches_at lines at (first_place (blocks_at lines at)).handler (outer_at lines at) refl first.caught }, x)
exits_line lines at line.Try placed is x =
    let t = try_at lines at placed is in
    let c = end_of lines (at + 1) in
    let same : items_at lines c ≡ marked (items_at lines at) = ending lines c (block_at-catch lines c t.code t.payload placed t.says) ∙ ap innermost t.catch_is in (
      record {
        same = same;
        ends = subst (λ (l : Option Line). EndsAll l (items_at lines c)) (sym t.says) (tt {0});
        caught = λ fault environment others.
            ap (λ (is : List Item). thrown fault environment (is ++ others)) (sym same) ∙ ap (λ (l : Option Line). thrown fault environment (mark_items l (items_at lines c) ++ others)) (sym t.says);
      },
      x,
    )
exits_line lines at (line.Catch u v) placed is x =
    let m = catch_at lines at u v placed is in
    let others = drop_exits lines (blocks_at lines at) (outer_at lines at) x in (
      exit_behind lines at (end_of lines (at + 1) + 1) (first_place (drop 1 (blocks_at lines at))) (rest_of (items_at lines at)) (drop 1 (outer_at lines at)) placed m.outer
          (first_exit lines (drop 1 (blocks_at lines at)) (drop 1 (outer_at lines at)) placed others) (sym (ap rest_of m.items)),
      others,
    )
exits_line lines at line.End placed is x = drop_exits lines (blocks_at lines at) (outer_at lines at) x
exits_line lines at (line.Do simple) placed is x = x

exits_next : (lines : List Line) (at : ℕ) (l : Line) → accepts [] lines ≡ true → slice_get lines at ≡ Some l → Exits lines (blocks_at lines at) (outer_at lines at) → Exits lines (blocks_at lines (suc at)) (outer_at lines (suc at))
unfolding blocks_at
exits_next lines at l placed is x =
    let places : blocks_by l lines at (blocks_at lines at) ≡ blocks_behind (slice_get lines at) lines at (blocks_at lines at) = ap (λ (o : Option Line). blocks_behind o lines at (blocks_at lines at)) (sym is) in
    let outer : passed (Some l) (items_at lines at) (outer_at lines at) ≡ outer_at lines (suc at) = sym (outer_next lines at l is) ∙ ap (outer_at lines) (add-one at) in
    subst (Exits lines (blocks_behind (slice_get lines at) lines at (blocks_at lines at))) outer
    (subst (λ (ps : List Place). Exits lines ps (passed (Some l) (items_at lines at) (outer_at lines at))) places (exits_line lines at l placed is x))

some_line : (lines : List Line) (at : ℕ) → at < length lines → (l : Line) × (slice_get lines at ≡ Some l)
some_line [] at within = absurd (omega (arith, within))
some_line (l ∷ lines) zero within = (l, refl)
some_line (l ∷ lines) (suc at) within = some_line lines at (omega (arith, within))

exits : (lines : List Line) (at : ℕ) → accepts [] lines ≡ true → at ≤ length lines → Exits lines (blocks_at lines at) (outer_at lines at)
unfolding blocks_at outer_at Exits
exits lines zero placed within = tt {0}
exits lines (suc at) placed within =
    let l = some_line lines at (omega (arith, within)) in exits_next lines at l.0 placed l.1 (exits lines at placed (omega (arith, within)))

-- outside of procedures nothing is left
drop_none : (lines : List Line) (at : ℕ) → slice_get lines at ≡ None → drop at lines ≡ []
drop_none [] zero e = refl
drop_none [] (suc at) e = refl
drop_none (x ∷ lines) zero e = let wrong : Some x ≡ None = e in absurd (cc)
drop_none (x ∷ lines) (suc at) e = drop_none lines at e

pub none_items : (lines : List Line) (at : ℕ) → accepts [] lines ≡ true → slice_get lines at ≡ None → items_at lines at ≡ []
none_items lines at placed is =
    let outer = none_marks (outer_at lines at) (subst (λ (ls : List Line). Marks (behind ls) (outer_at lines at)) (drop_none lines at is) (marks lines at placed)) in
    ending lines at (block_at-none lines at is) ∙ ap innermost outer

pub proc_items : (lines : List Line) (at : ℕ) (name : List ℕ) (parameters : List (List ℕ)) → accepts [] lines ≡ true → slice_get lines at ≡ Some (line.Proc name parameters) → items_at lines at ≡ []
unfolding behind
proc_items lines at name parameters placed is =
    let h = here lines at (line.Proc name parameters) placed is in
    let outer = proc_marks name parameters (behind (drop (at + 1) lines)) (outer_at lines at) h.shape (subst (λ (ls : List Line). Marks (behind ls) (outer_at lines at)) h.same (marks lines at placed)) in
    ending lines at (block_at-proc lines at name parameters placed is) ∙ ap innermost outer

-- a procedure begins with its body
pub proc_body : (lines : List Line) (at : ℕ) (name : List ℕ) (parameters : List (List ℕ)) → slice_get lines at ≡ Some (line.Proc name parameters) → items_at lines (at + 1) ≡ enter (block_at lines (at + 1)) []
unfolding items_at
proc_body lines at name parameters is = ap (λ (o : List (List Item)). enter (block_at lines (at + 1)) (innermost o)) (outer_next lines at (line.Proc name parameters) is)

-- the line of a place of the table
row : (lines : List Line) (at : ℕ) (l : Line) → slice_get lines at ≡ Some l → place_at lines at ≡ place_by l lines at (blocks_at lines at)
unfolding place_at
row lines at l is = ap (λ (o : Option Line). place_or o lines at (blocks_at lines at)) is

-- past the last line
pub past_row : (lines : List Line) (at : ℕ) → length lines ≤ at → at ≡ (place_at lines at).behind
unfolding place_at
past_row lines at past = ap (λ (o : Option Line). (place_or o lines at (blocks_at lines at)).behind) (sym (slice_get_past lines at past))

get_less : (lines : List Line) (at : ℕ) (l : Line) → slice_get lines at ≡ Some l → at ≤ length lines
get_less [] at l e = let wrong : None ≡ Some l = e in absurd (cc)
get_less (x ∷ lines) zero l e = omega arith
get_less (x ∷ lines) (suc at) l e = omega (arith, get_less lines at l e)

-- the blocks around a line
first_at : (lines : List Line) (at : ℕ) (l : Line) → accepts [] lines ≡ true → slice_get lines at ≡ Some l → Exit lines (first_place (blocks_at lines at)) (innermost (outer_at lines at))
first_at lines at l placed is = first_exit lines (blocks_at lines at) (outer_at lines at) placed (exits lines at placed (get_less lines at l is))

behind_statement : (lines : List Line) (at next : ℕ) (l : Line) (first : Statement) → accepts [] lines ≡ true → slice_get lines at ≡ Some l → StatementAt lines at next first
    → items_at lines (settled lines next (first_place (blocks_at lines at)).behind) ≡ rest_of (items_at lines at)
behind_statement lines at next l first placed is s =
    (settled_exit lines next (first_place (blocks_at lines at)) (outer_at lines at) placed s.outer (first_at lines at l placed is)).same ∙ sym (ap rest_of s.items)

-- at the end of a block
end_settled : (lines : List Line) (at : ℕ) (l : Line) → accepts [] lines ≡ true → slice_get lines at ≡ Some l → SettlesAt lines at (settled lines at (first_place (blocks_at lines at)).behind)
end_settled lines at l placed is = settled_exit lines at (first_place (blocks_at lines at)) (outer_at lines at) placed refl (first_at lines at l placed is)

pub else_settles : (lines : List Line) (at : ℕ) → accepts [] lines ≡ true → slice_get lines at ≡ Some line.Else → SettlesAt lines at (place_at lines at).behind
else_settles lines at placed is = subst (λ (p : Place). SettlesAt lines at p.behind) (sym (row lines at line.Else is)) (end_settled lines at line.Else placed is)

pub end_settles : (lines : List Line) (at : ℕ) → accepts [] lines ≡ true → slice_get lines at ≡ Some line.End → SettlesAt lines at (place_at lines at).behind
end_settles lines at placed is = subst (λ (p : Place). SettlesAt lines at p.behind) (sym (row lines at line.End is)) (end_settled lines at line.End placed is)

nothing_left : (items others : List Item) → items ≡ others → others ≡ [] → items ≡ rest_of others
nothing_left items others same none = same ∙ none ∙ sym (ap rest_of none)

behind_row : (lines : List Line) (at : ℕ) (l : Line) → accepts [] lines ≡ true → slice_get lines at ≡ Some l → EndsAll (Some l) (items_at lines at)
    → items_at lines (place_by l lines at (blocks_at lines at)).behind ≡ rest_of (items_at lines at)
behind_row lines at (line.Proc name parameters) placed is ends = nothing_left (items_at lines at) (items_at lines at) refl (proc_items lines at name parameters placed is)
behind_row lines at (line.If a) placed is ends = behind_statement lines at (behind_else lines at (else_at lines at)) (line.If a) _ placed is (if_at lines at a placed is)
behind_row lines at line.Else placed is ends = nothing_left _ (items_at lines at) (end_settled lines at line.Else placed is).same ends
behind_row lines at (line.While a) placed is ends = behind_statement lines at (end_of lines (at + 1) + 1) (line.While a) _ placed is (while_at lines at a placed is)
behind_row lines at line.Try placed is ends = behind_statement lines at (end_of lines (end_of lines (at + 1) + 1) + 1) line.Try _ placed is (try_at lines at placed is).statement
behind_row lines at (line.Catch u v) placed is ends =
    let m = catch_at lines at u v placed is in
    let x = exits lines at placed (get_less lines at (line.Catch u v) is) in
    let first = first_exit lines (drop 1 (blocks_at lines at)) (drop 1 (outer_at lines at)) placed (drop_exits lines (blocks_at lines at) (outer_at lines at) x) in
    (settled_exit lines (end_of lines (at + 1) + 1) (first_place (drop 1 (blocks_at lines at))) (drop 1 (outer_at lines at)) placed m.outer first).same ∙ sym (ap rest_of m.items)
behind_row lines at line.End placed is ends = nothing_left _ (items_at lines at) (end_settled lines at line.End placed is).same ends
behind_row lines at (line.Do simple) placed is ends = behind_statement lines at (at + 1) (line.Do simple) _ placed is (do_at lines at simple placed is)

behind_line : (lines : List Line) (at : ℕ) (l : Option Line) → accepts [] lines ≡ true → slice_get lines at ≡ l → EndsAll (slice_get lines at) (items_at lines at) → items_at lines (place_at lines at).behind ≡ rest_of (items_at lines at)
unfolding place_at
behind_line lines at None placed is ends =
    ap (λ (o : Option Line). items_at lines (place_or o lines at (blocks_at lines at)).behind) is ∙ nothing_left (items_at lines at) (items_at lines at) refl (none_items lines at placed is)
behind_line lines at (Some l) placed is ends =
    ap (λ (o : Option Line). items_at lines (place_or o lines at (blocks_at lines at)).behind) is
    ∙ behind_row lines at l placed is (subst (λ (o : Option Line). EndsAll o (items_at lines at)) is ends)

-- behind what a place stands for, which is no end of a block
pub goes_behind : (lines : List Line) (at : ℕ) → accepts [] lines ≡ true → EndsAll (slice_get lines at) (items_at lines at) → items_at lines (place_at lines at).behind ≡ rest_of (items_at lines at)
goes_behind lines at placed ends = behind_line lines at (slice_get lines at) placed refl ends

first_catches : (lines : List Line) (at : ℕ) (l : Line) → accepts [] lines ≡ true → slice_get lines at ≡ Some l → Catches lines (first_place (blocks_at lines at)).handler (items_at lines at)
first_catches lines at l placed is = catches_at lines at (first_place (blocks_at lines at)).handler (outer_at lines at) refl (first_at lines at l placed is).caught

catches_row : (lines : List Line) (at : ℕ) (l : Line) → accepts [] lines ≡ true → slice_get lines at ≡ Some l → Catches lines (place_by l lines at (blocks_at lines at)).handler (items_at lines at)
catches_row lines at (line.Proc name parameters) placed is = let none = proc_items lines at name parameters placed is in catches_none lines at (items_at lines at) none none
catches_row lines at (line.If a) placed is = first_catches lines at (line.If a) placed is
catches_row lines at line.Else placed is = first_catches lines at line.Else placed is
catches_row lines at (line.While a) placed is = first_catches lines at (line.While a) placed is
catches_row lines at line.Try placed is = first_catches lines at line.Try placed is
catches_row lines at (line.Catch u v) placed is = λ fault environment others. ap (λ (l : Option Line). thrown fault environment (mark_items l (items_at lines at) ++ others)) (sym is)
catches_row lines at line.End placed is = first_catches lines at line.End placed is
catches_row lines at (line.Do simple) placed is = first_catches lines at (line.Do simple) placed is

catches_by : (lines : List Line) (at : ℕ) (l : Option Line) → accepts [] lines ≡ true → slice_get lines at ≡ l → Catches lines (place_or l lines at (blocks_at lines at)).handler (items_at lines at)
catches_by lines at None placed is = let none = none_items lines at placed is in catches_none lines at (items_at lines at) none none
catches_by lines at (Some l) placed is = catches_row lines at l placed is

-- where a fault is caught
catches : (lines : List Line) (at : ℕ) → accepts [] lines ≡ true → Catches lines (place_at lines at).handler (items_at lines at)
unfolding place_at
catches lines at placed = catches_by lines at (slice_get lines at) placed refl

pub past_caught : (lines : List Line) (at : ℕ) → accepts [] lines ≡ true → length lines ≤ at → CatchesNothing (items_at lines at)
past_caught lines at placed past = λ fault environment others. ap (λ (is : List Item). thrown fault environment (is ++ others)) (none_items lines at placed (slice_get_past lines at past))

pub none_caught : (lines : List Line) (at handler : ℕ) → accepts [] lines ≡ true → handler ≡ (place_at lines at).handler → slice_get lines handler ≡ None → CatchesNothing (items_at lines at)
none_caught lines at handler placed is none = λ fault environment others.
    subst (λ (n : ℕ). Catches lines n (items_at lines at)) (sym is) (catches lines at placed) fault environment others
    ∙ ap (λ (l : Option Line). thrown fault environment (mark_items l (items_at lines handler) ++ others)) none

mark_other : (l : Line) (items : List Item) → ((x y : List ℕ) → l ≡ line.Catch x y → ⊥) → mark_items (Some l) items ≡ []
mark_other (line.Proc name parameters) items unlike = refl
mark_other (line.If a) items unlike = refl
mark_other line.Else items unlike = refl
mark_other (line.While a) items unlike = refl
mark_other line.Try items unlike = refl
mark_other (line.Catch x y) items unlike = absurd (unlike x y refl)
mark_other line.End items unlike = refl
mark_other (line.Do simple) items unlike = refl

pub other_caught : (lines : List Line) (at handler : ℕ) (l : Line) → accepts [] lines ≡ true → handler ≡ (place_at lines at).handler → slice_get lines handler ≡ Some l → ((x y : List ℕ) → l ≡ line.Catch x y → ⊥) → CatchesNothing (items_at lines at)
other_caught lines at handler l placed is found unlike = λ fault environment others.
    subst (λ (n : ℕ). Catches lines n (items_at lines at)) (sym is) (catches lines at placed) fault environment others
    ∙ ap (λ (o : Option Line). thrown fault environment (mark_items o (items_at lines handler) ++ others)) found
    ∙ ap (λ (items : List Item). thrown fault environment (items ++ others)) (mark_other l (items_at lines handler) unlike)

enter-append : (block : Statements) (xs ys : List Item) → enter block (xs ++ ys) ≡ enter block xs ++ ys
unfolding enter
enter-append Nothing xs ys = refl
enter-append (Then statement block) xs ys = ap (λ (items : List Item). Do statement ∷ items) (enter-append block xs ys)

-- a handler begins
pub is_caught : (lines : List Line) (at handler : ℕ) (x y : List ℕ) → accepts [] lines ≡ true → handler ≡ (place_at lines at).handler → slice_get lines handler ≡ Some (line.Catch x y)
    → (fault : Fault) (environment : Environment) (others : List Item) → thrown fault environment (items_at lines at ++ others) ≡ record { environment = with_fault fault environment x y; items = items_at lines (handler + 1) ++ others }
unfolding thrown
is_caught lines at handler x y placed is found fault environment others =
    let m = catch_at lines handler x y placed found in
    let next = items_at lines (end_of lines (handler + 1) + 1) in
    subst (λ (n : ℕ). Catches lines n (items_at lines at)) (sym is) (catches lines at placed) fault environment others
    ∙ ap (λ (o : Option Line). thrown fault environment (mark_items o (items_at lines handler) ++ others)) found
    ∙ ap (λ (items : List Item). thrown fault environment (items ++ others)) m.items
    ∙ ap (λ (items : List Item). let p : Stand = record { environment = with_fault fault environment x y; items = items } in p) (enter-append (block_at lines (handler + 1)) next others ∙ ap (λ (items : List Item). items ++ others) (sym m.block))
