-- What a frame stands for, by its stage.
use Rattle.std.specs.Prelude.{slice_get, Option, Some, None, MatchOption}
use Rattle.std.proofs.Common.{◌≡◌, ℕ, ◌+◌, List, [], ◌∷◌, ◌++◌, refl, ap, sym, subst, ◌∙◌}
use Rattle.lio_values.specs.declared.fault.Fault.{Fault}
use Rattle.lio_syntax_lines.specs.declared.line.Line.{Line}
use Rattle.lio_syntax_lines.specs.declared.line.Simple.{Simple}
use Rattle.lio_syntax_lines.specs.declared.line.Line.TheVariants as line
use Rattle.lio_syntax.specs.Statements as statement
use Rattle.lio_task_control.specs.declared.frame.Frame.{Frame}
use Rattle.lio_task_control.specs.declared.frame.Stage.{Stage}
use Rattle.lio_task_control.specs.declared.frame.Stage.TheVariants as stage
use Rattle.lio_task_control.specs.declared.front.Front.{Front}
use Rattle.lio_task_control.specs.declared.front.Front.TheVariants as front
use Rattle.lio_task_control.specs.declared.places.Handler.{Handler}
use Rattle.lio_syntax.specs.Environment.{Environment}
use Rattle.lio_syntax.specs.Items.{Item, Do, Access, Mark, Back, Fail, enter, rest_of}
use Rattle.lio_syntax.specs.Throwing.{thrown}
use Rattle.lio_task_control.specs.Continuation.{block_at, items_at, accessed, stage_items, frame_items, body_by, body_at}
use Rattle.lio_task_control.specs.Front.{IsFront, Begins, entered, entered_other}
use Rattle.lio_task_control.specs.Parts.{CatchesNothing, IsCaught, IsAccessed, gone_to}

-- the body of a procedure
pub body_none : (lines : List Line) (at : ℕ) → slice_get lines at ≡ None → enter (body_at lines at) [] ≡ []
unfolding body_at enter
body_none lines at is = ap (λ (o : Option Line). enter (body_by o (block_at lines (at + 1))) []) is

pub body_other : (lines : List Line) (at : ℕ) (l : Line) → slice_get lines at ≡ Some l → ((name : List ℕ) (parameters : List (List ℕ)) → l ≡ line.Proc name parameters → ⊥) → enter (body_at lines at) [] ≡ []
unfolding body_at enter
body_other lines at (line.Proc name parameters) is unlike = absurd (unlike name parameters refl)
body_other lines at (line.If a) is unlike = ap (λ (o : Option Line). enter (body_by o (block_at lines (at + 1))) []) is
body_other lines at line.Else is unlike = ap (λ (o : Option Line). enter (body_by o (block_at lines (at + 1))) []) is
body_other lines at (line.While a) is unlike = ap (λ (o : Option Line). enter (body_by o (block_at lines (at + 1))) []) is
body_other lines at line.Try is unlike = ap (λ (o : Option Line). enter (body_by o (block_at lines (at + 1))) []) is
body_other lines at (line.Catch x y) is unlike = ap (λ (o : Option Line). enter (body_by o (block_at lines (at + 1))) []) is
body_other lines at line.End is unlike = ap (λ (o : Option Line). enter (body_by o (block_at lines (at + 1))) []) is
body_other lines at (line.Do simple) is unlike = ap (λ (o : Option Line). enter (body_by o (block_at lines (at + 1))) []) is

pub body_begins : (lines : List Line) (at : ℕ) (name : List ℕ) (parameters : List (List ℕ)) → slice_get lines at ≡ Some (line.Proc name parameters) → enter (block_at lines (at + 1)) [] ≡ enter (body_at lines at) []
unfolding body_at
body_begins lines at name parameters is = sym (ap (λ (o : Option Line). enter (body_by o (block_at lines (at + 1))) []) is)

-- the access in the place of its statement
pub accessed_none : (items : List Item) → items ≡ [] → accessed items ≡ []
accessed_none items none = ap accessed none

pub accessed_simple : (items : List Item) (simple : Simple) → ((others : List Item) → Begins (items ++ others) (statement.Do simple)) → (others : List Item) → accessed items ++ others ≡ Access simple ∷ rest_of (accessed items ++ others)
accessed_simple [] simple h others = let wrong : [] ≡ Do (statement.Do simple) ∷ [] = h [] in absurd (cc)
accessed_simple (Do (statement.Do s) ∷ items) simple h others =
    let same : Do (statement.Do s) ∷ items ++ others ≡ Do (statement.Do simple) ∷ items ++ others = h others in
    let is : s ≡ simple = cc in ap (λ (x : Simple). Access x ∷ items ++ others) is
accessed_simple (Do (statement.If a block) ∷ items) simple h others = let wrong : Do (statement.If a block) ∷ items ++ others ≡ Do (statement.Do simple) ∷ items ++ others = h others in absurd (cc)
accessed_simple (Do (statement.IfElse a block other) ∷ items) simple h others = let wrong : Do (statement.IfElse a block other) ∷ items ++ others ≡ Do (statement.Do simple) ∷ items ++ others = h others in absurd (cc)
accessed_simple (Do (statement.While a block) ∷ items) simple h others = let wrong : Do (statement.While a block) ∷ items ++ others ≡ Do (statement.Do simple) ∷ items ++ others = h others in absurd (cc)
accessed_simple (Do (statement.Try block x y handler) ∷ items) simple h others = let wrong : Do (statement.Try block x y handler) ∷ items ++ others ≡ Do (statement.Do simple) ∷ items ++ others = h others in absurd (cc)
accessed_simple (Access s ∷ items) simple h others = let wrong : Access s ∷ items ++ others ≡ Do (statement.Do simple) ∷ items ++ others = h others in absurd (cc)
accessed_simple (Mark x y handler ∷ items) simple h others = let wrong : Mark x y handler ∷ items ++ others ≡ Do (statement.Do simple) ∷ items ++ others = h others in absurd (cc)
accessed_simple (Back environment name ∷ items) simple h others = let wrong : Back environment name ∷ items ++ others ≡ Do (statement.Do simple) ∷ items ++ others = h others in absurd (cc)
accessed_simple (Fail fault ∷ items) simple h others = let wrong : Fail fault ∷ items ++ others ≡ Do (statement.Do simple) ∷ items ++ others = h others in absurd (cc)

-- a front of a simple statement
simple_not : (simple : Simple) (items : List Item) (f : Front) → IsFront (Do (statement.Do simple) ∷ items) f → ((s : _) → f ≡ front.Simple s → ⊥) → ⊥
simple_not simple items front.Nothing h unlike = let wrong : Do (statement.Do simple) ∷ items ≡ [] = h in cc
simple_not simple items front.Back h unlike = h
simple_not simple items front.Mark h unlike = h
simple_not simple items (front.Fail fault) h unlike = let wrong : Do (statement.Do simple) ∷ items ≡ Fail fault.now ∷ items = h in cc
simple_not simple items (front.Access s) h unlike = let wrong : Do (statement.Do simple) ∷ items ≡ Access s.now ∷ items = h in cc
simple_not simple items (front.Simple s) h unlike = unlike s refl
simple_not simple items (front.Choice condition) h unlike = h
simple_not simple items (front.Loop condition) h unlike = h
simple_not simple items front.Guarded h unlike = h

pub accessed_other : (items : List Item) (f : Front) → ((s : _) → f ≡ front.Simple s → ⊥) → ((others : List Item) → IsFront (items ++ others) f) → (others : List Item) → IsFront (accessed items ++ others) f
accessed_other [] f unlike h others = h others
accessed_other (Do (statement.Do s) ∷ items) f unlike h others = absurd (simple_not s (items ++ others) f (h others) unlike)
accessed_other (Do (statement.If a block) ∷ items) f unlike h others = h others
accessed_other (Do (statement.IfElse a block other) ∷ items) f unlike h others = h others
accessed_other (Do (statement.While a block) ∷ items) f unlike h others = h others
accessed_other (Do (statement.Try block x y handler) ∷ items) f unlike h others = h others
accessed_other (Access s ∷ items) f unlike h others = h others
accessed_other (Mark x y handler ∷ items) f unlike h others = h others
accessed_other (Back environment name ∷ items) f unlike h others = h others
accessed_other (Fail fault ∷ items) f unlike h others = h others

-- where one goes on doesn't depend on whether a statement or its access comes first
record Accesses (items : List Item) : Type 0 where
  rest : rest_of items ≡ rest_of (accessed items)
  block : entered items ≡ entered (accessed items)
  other : entered_other items ≡ entered_other (accessed items)

accesses : (items : List Item) → Accesses items
accesses [] = record { rest = refl; block = refl; other = refl }
accesses (Do (statement.Do s) ∷ items) = record { rest = refl; block = refl; other = refl }
accesses (Do (statement.If a block) ∷ items) = record { rest = refl; block = refl; other = refl }
accesses (Do (statement.IfElse a block other) ∷ items) = record { rest = refl; block = refl; other = refl }
accesses (Do (statement.While a block) ∷ items) = record { rest = refl; block = refl; other = refl }
accesses (Do (statement.Try block x y handler) ∷ items) = record { rest = refl; block = refl; other = refl }
accesses (Access s ∷ items) = record { rest = refl; block = refl; other = refl }
accesses (Mark x y handler ∷ items) = record { rest = refl; block = refl; other = refl }
accesses (Back environment name ∷ items) = record { rest = refl; block = refl; other = refl }
accesses (Fail fault ∷ items) = record { rest = refl; block = refl; other = refl }

pub gone_past : (lines : List Line) (at : ℕ) (s : Stage) (items : List Item) → items ≡ rest_of (items_at lines at) → gone_to s items ≡ rest_of (stage_items lines at s)
gone_past lines at stage.Rest items e = e
gone_past lines at stage.Access items e = e ∙ (accesses (items_at lines at)).rest
gone_past lines at stage.Nothing items e = refl
gone_past lines at (stage.Fail fault) items e = refl

pub gone_in : (lines : List Line) (at : ℕ) (s : Stage) (items : List Item) → items ≡ entered (items_at lines at) → gone_to s items ≡ entered (stage_items lines at s)
gone_in lines at stage.Rest items e = e
gone_in lines at stage.Access items e = e ∙ (accesses (items_at lines at)).block
gone_in lines at stage.Nothing items e = refl
gone_in lines at (stage.Fail fault) items e = refl

pub gone_other : (lines : List Line) (at : ℕ) (s : Stage) (items : List Item) → items ≡ entered_other (items_at lines at) → gone_to s items ≡ entered_other (stage_items lines at s)
gone_other lines at stage.Rest items e = e
gone_other lines at stage.Access items e = e ∙ (accesses (items_at lines at)).other
gone_other lines at stage.Nothing items e = refl
gone_other lines at (stage.Fail fault) items e = refl

-- no access stands for a statement that opens no block
accessed_not : (items others : List Item) (simple : Simple) → accessed items ≡ Do (statement.Do simple) ∷ others → ⊥
accessed_not [] others simple e = cc
accessed_not (Do (statement.Do s) ∷ items) others simple e = let wrong : Access s ∷ items ≡ Do (statement.Do simple) ∷ others = e in cc
accessed_not (Do (statement.If a block) ∷ items) others simple e = cc
accessed_not (Do (statement.IfElse a block other) ∷ items) others simple e = cc
accessed_not (Do (statement.While a block) ∷ items) others simple e = cc
accessed_not (Do (statement.Try block x y handler) ∷ items) others simple e = cc
accessed_not (Access s ∷ items) others simple e = cc
accessed_not (Mark x y handler ∷ items) others simple e = cc
accessed_not (Back environment name ∷ items) others simple e = cc
accessed_not (Fail fault ∷ items) others simple e = cc

pub access_stage : (lines : List Line) (at : ℕ) (s : Stage) → IsAccessed (stage_items lines at s) (accessed (items_at lines at))
access_stage lines at stage.Rest = λ simple items e. ap accessed e
access_stage lines at stage.Access = λ simple items e. absurd (accessed_not (items_at lines at) items simple e)
access_stage lines at stage.Nothing = λ simple items e. let wrong : [] ≡ Do (statement.Do simple) ∷ items = e in absurd (cc)
access_stage lines at (stage.Fail fault) = λ simple items e. let wrong : Fail fault ∷ [] ≡ Do (statement.Do simple) ∷ items = e in absurd (cc)

-- throwing passes over an access as over its statement
thrown-accessed : (fault : Fault) (environment : Environment) (items others : List Item) → thrown fault environment (accessed items ++ others) ≡ thrown fault environment (items ++ others)
unfolding thrown
thrown-accessed fault environment [] others = refl
thrown-accessed fault environment (Do (statement.Do s) ∷ items) others = refl
thrown-accessed fault environment (Do (statement.If a block) ∷ items) others = refl
thrown-accessed fault environment (Do (statement.IfElse a block other) ∷ items) others = refl
thrown-accessed fault environment (Do (statement.While a block) ∷ items) others = refl
thrown-accessed fault environment (Do (statement.Try block x y handler) ∷ items) others = refl
thrown-accessed fault environment (Access s ∷ items) others = refl
thrown-accessed fault environment (Mark x y handler ∷ items) others = refl
thrown-accessed fault environment (Back caller name ∷ items) others = refl
thrown-accessed fault environment (Fail before ∷ items) others = refl

abbrev pub Handles : List Line → List Item → Option Handler → Type 0
Handles lines items found = MatchOption found (CatchesNothing items) (IsCaught lines items)

accessed_handles : (lines : List Line) (items : List Item) (found : Option Handler) → Handles lines items found → Handles lines (accessed items) found
accessed_handles lines items None h = λ fault environment others. thrown-accessed fault environment items others ∙ h fault environment others
accessed_handles lines items (Some handler) h = λ fault environment others. thrown-accessed fault environment items others ∙ h fault environment others

pub rest_handles : (lines : List Line) (frame : Frame) (found : Option Handler) → frame.stage ≡ stage.Rest → Handles lines (items_at lines frame.at) found → Handles lines (frame_items lines frame) found
rest_handles lines frame found is h = subst (λ (s : Stage). Handles lines (stage_items lines frame.at s) found) (sym is) h

pub access_handles : (lines : List Line) (frame : Frame) (found : Option Handler) → frame.stage ≡ stage.Access → Handles lines (items_at lines frame.at) found → Handles lines (frame_items lines frame) found
access_handles lines frame found is h = subst (λ (s : Stage). Handles lines (stage_items lines frame.at s) found) (sym is) (accessed_handles lines (items_at lines frame.at) found h)

pub nothing_handles : (lines : List Line) (frame : Frame) → frame.stage ≡ stage.Nothing → CatchesNothing (frame_items lines frame)
nothing_handles lines frame is = λ fault environment others. ap (λ (s : Stage). thrown fault environment (stage_items lines frame.at s ++ others)) is

pub fail_handles : (lines : List Line) (frame : Frame) (before : Fault) → frame.stage ≡ stage.Fail before → CatchesNothing (frame_items lines frame)
unfolding thrown
fail_handles lines frame before is = λ fault environment others. ap (λ (s : Stage). thrown fault environment (stage_items lines frame.at s ++ others)) is
