-- Plans in which each principal has a name.
use Rattle.std.proofs.Common.{◌≡◌, refl, ℕ, List, Option, Some, None}
use Rattle.std.specs.Prelude.{option_and_then, slice_get}
use Rattle.lio_labels.specs.LabelPrint.{AreNamed}
use Rattle.lio_values.specs.PlainText.{IsPlainNamed}
use Rattle.lio_values.specs.Named.{IsFaultNamed, IsContentNamed, IsValueNamed}
use Rattle.lio_events.specs.Printable.{IsActNamed, IsRaiseOf, IsReplyNamed}
use Rattle.lio_syntax.specs.Statements.{Procedure}
use Rattle.lio_calculus.specs.Going.{Onward, Bind, Seal, Enter, Repeat, Try, Call, Return, Leave, Raise, RaiseTo, Unlabel, Lower, Release, Expose, HoldReference, HoldVariable, Fork, Throw}
use Rattle.lio_calculus.specs.Plan.{Plan, Over, Own, Visit}
use Rattle.lio_calculus.specs.Step.{body_of}
use Rattle.lio_calculus.specs.Sound.{EachBound}
use Rattle.lio_calculus.proofs.Lists.{All-slice_get}
use Rattle.lio_calculus_runs.specs.Script.{IsOperandNamed, IsSimpleNamed, IsBlockNamed, IsScriptNamed}

-- each principal in the way a task goes on has a name; what it goes on with out of its act or reply is told there
abbrev pub IsOnwardNamed : List (List ℕ) → Onward → Type 0
IsOnwardNamed names (Bind name value) = IsValueNamed names value
IsOnwardNamed names (Seal name label plain) = AreNamed names label × IsPlainNamed names plain
IsOnwardNamed names (Enter block) = IsBlockNamed names block
IsOnwardNamed names (Repeat condition block) = IsOperandNamed names condition × IsBlockNamed names block
IsOnwardNamed names (Try block code payload handler) = IsBlockNamed names block × IsBlockNamed names handler
IsOnwardNamed names (Call name environment body) = EachBound (IsValueNamed names) environment × IsBlockNamed names body
IsOnwardNamed names (Return value) = IsValueNamed names value
IsOnwardNamed names (Leave caller name) = EachBound (IsValueNamed names) caller
IsOnwardNamed names (Raise label) = AreNamed names label
IsOnwardNamed names (RaiseTo label access) = AreNamed names label × IsSimpleNamed names access
IsOnwardNamed names (Unlabel name label source content) = AreNamed names label × IsContentNamed names content
IsOnwardNamed names (Lower label) = AreNamed names label
IsOnwardNamed names (Release name label) = AreNamed names label
IsOnwardNamed names (Expose name label) = AreNamed names label
IsOnwardNamed names (HoldReference name label) = AreNamed names label
IsOnwardNamed names (HoldVariable name label) = AreNamed names label
IsOnwardNamed names (Fork name label cells turns) = AreNamed names label
IsOnwardNamed names (Throw fault) = IsFaultNamed names fault
IsOnwardNamed names onward = Unit {0}

-- each principal in a plan has a name, and a raise names an operation that raises
abbrev pub IsPlanNamed : List (List ℕ) → Plan → Type 0
IsPlanNamed names Over = Unit {0}
IsPlanNamed names (Own asked reply onward) = IsActNamed names asked × IsRaiseOf asked × IsReplyNamed names reply × IsOnwardNamed names onward
IsPlanNamed names (Visit asked target onward) = IsActNamed names asked × IsRaiseOf asked × IsOnwardNamed names onward

-- the body of a procedure, if it is there
pub body_named : (names : List (List ℕ)) (script : List Procedure) (n : ℕ) → IsScriptNamed names script → IsBlockNamed names (body_of (slice_get script n))
unfolding IsBlockNamed
body_named names script n named = by (slice_get script n) refl
  where
    by : (o : Option Procedure) → slice_get script n ≡ o → IsBlockNamed names (body_of o)
    by None e = tt
    by (Some procedure) e = All-slice_get (λ (x : Procedure). IsBlockNamed names x.body) script n procedure named e

pub found_named : (names : List (List ℕ)) (script : List Procedure) (place : Option ℕ) → IsScriptNamed names script → IsBlockNamed names (body_of (option_and_then (slice_get script) place))
unfolding IsBlockNamed
found_named names script None named = tt
found_named names script (Some n) named = body_named names script n named
