-- What the plan of a statement that opens no block can be, case by case: the statement with what it looked up, and the plan.
use Rattle.std.proofs.Common.{◌≡◌, ◌∙◌, refl, ap, subst, IsTrue, ℕ, ◌+◌, ◌-◌, ◌<◌, ◌≤◌, Bool, true, false, if◌then◌else◌, nat_le, List, Option, Some, None, Result, Ok, Err, arith, []}
use Rattle.std.specs.Prelude.{option_and_then, slice_get, ◌==◌}
use Rattle.std.proofs.lemmas.Bool.Decides.{nat_tests}
use Rattle.lio_labels.specs.declared.label.Label.{Label}
use Rattle.lio_labels.specs.declared.privilege.Priv.{Priv}
use Rattle.lio_values.specs.declared.fault.FaultKind.{FaultKind}
use Rattle.lio_values.specs.declared.fault.FaultKind.TheVariants.{NoCells, ChildTurns, Depth, User}
use Rattle.lio_values.specs.declared.value.Handle.{Handle}
use Rattle.lio_values.specs.declared.value.Plain.{Plain}
use Rattle.lio_values.specs.declared.value.Plain.TheVariants.{Unit as unit}
use Rattle.lio_values.specs.declared.value.Content.TheVariants.{Kept, Hidden}
use Rattle.lio_values.specs.declared.value.Value.{Value}
use Rattle.lio_values.specs.declared.value.Value.TheVariants.{Bare, Sealed}
use Rattle.lio_values.specs.declared.act.Act.{Act}
use Rattle.lio_values.specs.declared.act.Act.TheVariants as act
use Rattle.lio_values.specs.declared.act.Op.{Op}
use Rattle.lio_values.specs.declared.act.Op.TheVariants as op
use Rattle.lio_values.specs.declared.act.Reply.TheVariants.{Done}
use Rattle.lio_syntax_lines.specs.declared.operators.One.{One}
use Rattle.lio_syntax_lines.specs.declared.operators.Two.{Two}
use Rattle.lio_syntax_lines.specs.declared.line.Operand.{Operand}
use Rattle.lio_syntax_lines.specs.declared.line.Simple.{Simple}
use Rattle.lio_syntax_lines.specs.declared.line.Simple.TheVariants as line
use Rattle.lio_syntax.specs.Statements.{Procedure}
use Rattle.lio_guards.specs.declared.verdict.Verdict.{Verdict}
use Rattle.lio_guards.specs.declared.verdict.Verdict.TheVariants.{Go, No}
use Rattle.lio_guards.specs.Guard.{guarded_relabel, guarded_expose}
use Rattle.lio_operators.specs.Operators.{operate1, operate2}
use Rattle.lio_cells.specs.State.{Kind, Reference, Variable, Channel, Result as result}
use Rattle.lio_syntax.specs.Environment.{bind_all}
use Rattle.lio_syntax.specs.Items.{open_calls}
use Rattle.lio_values.specs.Measures.{is_pure}
use Rattle.lio_calculus.specs.Operands.{bound, all_bound, pure_of, Labelled, sealed_of, seen_as, label_of, power_of, text_of, reference_of, variable_of, result_of, channel_of, count_of}
use Rattle.lio_calculus.specs.Task.{TaskState}
use Rattle.lio_calculus.specs.Going.{Onward, Bind, Seal, Call, Return, Raise, RaiseTo, Unlabel, Lower, Release, Expose, HoldReference, HoldVariable, Fork, Spawn, BindReply, Advance}
use Rattle.lio_calculus.specs.Plan.{Program, Plan, Own, Visit, Node, New, stepping, refused, bad_type, ending, verdict_on, procedure_at, birth_of, with_seen, with_verdict, with_cells, with_turns, computed, calling, returning, raising, new_variable, exposed_to, plan_simple, ending_with}
use Rattle.lio_calculus.proofs.SoundLemmas.{seen-plain}

-- a statement with an access: the operation of its raise; and the act, the node and the way of going on of the access, whose handle it names
pub data Reaches (task : TaskState) : Simple → Op → Act → Kind → Handle → Onward → Type 0 where
  Reads : {x : List ℕ} {r : Operand} {handle : Handle} → seen_as reference_of task.environment r ≡ Some handle
      → Reaches task (line.Read x r) op.Read act.Read Reference handle (BindReply x)
  Takes : {x : List ℕ} {v : Operand} {handle : Handle} → seen_as variable_of task.environment v ≡ Some handle
      → Reaches task (line.Take x v) op.Take act.Take Variable handle (BindReply x)
  Puts : {v a : Operand} {handle : Handle} {value : Value} → seen_as variable_of task.environment v ≡ Some handle
      → bound task.environment a ≡ Some value → Reaches task (line.Put v a) op.Put (act.Put value) Variable handle Advance
  Waits : {x : List ℕ} {r : Operand} {handle : Handle} → seen_as result_of task.environment r ≡ Some handle
      → Reaches task (line.Wait x r) op.Wait act.Wait result handle (BindReply x)

-- what a guard tests of an act: an operation on a label, a release from a label to another, an exposure of what has a label, or nothing
pub data Test : Type 0 where
  On : Op → Label → Test
  Between : Label → Label → Priv → Test
  Using : Label → Priv → Test
  Free : Test

abbrev pub verdict_of : TaskState → Test → Verdict
verdict_of task (On o target) = verdict_on task o target
verdict_of task (Between source target power) = guarded_relabel task.label task.clearance source target power
verdict_of task (Using source power) = guarded_expose task.label task.clearance source power
verdict_of task Free = Go task.label

-- what an exposure shows where it is refused
abbrev pub exposure : TaskState → Labelled → Priv → Act
exposure task sealed power = act.Expose sealed.label (exposed_to sealed.label (guarded_expose task.label task.clearance sealed.label power)) power Hidden

-- the act that a statement asks for, with what it looked up, and its test
pub data Asks (program : Program) (task : TaskState) : Simple → Act → Test → Type 0 where
  Sealing : {x : List ℕ} {l a : Operand} {label : Label} → seen_as label_of task.environment l ≡ Some label
      → Asks program task (line.Label x l a) (act.Seal label) (On op.Seal label)
  Unlabelling : {x : List ℕ} {a : Operand} {sealed : Labelled} → option_and_then sealed_of (bound task.environment a) ≡ Some sealed
      → Asks program task (line.Unlabel x a) (act.Raise op.Unlabel sealed.label) (On op.Unlabel sealed.label)
  Tainting : {l : Operand} {label : Label} → seen_as label_of task.environment l ≡ Some label
      → Asks program task (line.Taint l) (act.Raise op.Taint label) (On op.Taint label)
  Lowering : {l : Operand} {label : Label} → seen_as label_of task.environment l ≡ Some label
      → Asks program task (line.Lower l) (act.Lower label) (On op.Lower label)
  Releasing : {x : List ℕ} {a l p : Operand} {sealed : Labelled} {target : Label} {power : Priv}
      → option_and_then sealed_of (bound task.environment a) ≡ Some sealed → seen_as label_of task.environment l ≡ Some target
      → seen_as power_of task.environment p ≡ Some power
      → Asks program task (line.Relabel x a l p) (act.Release sealed.label target power Hidden) (Between sealed.label target power)
  Exposing : {x : List ℕ} {a p : Operand} {sealed : Labelled} {power : Priv}
      → option_and_then sealed_of (bound task.environment a) ≡ Some sealed → seen_as power_of task.environment p ≡ Some power
      → Asks program task (line.UnlabelUsing x a p) (exposure task sealed power) (Using sealed.label power)
  Referring : {x : List ℕ} {l a : Operand} {label : Label} {value : Value} → seen_as label_of task.environment l ≡ Some label
      → bound task.environment a ≡ Some value → Asks program task (line.NewRef x l a) (act.NewRef label value) (On op.NewRef label)
  Holding : {x : List ℕ} {l : Operand} {label : Label} → seen_as label_of task.environment l ≡ Some label
      → Asks program task (line.NewVar x l) (act.NewVar label None) (On op.NewVar label)
  Filling : {x : List ℕ} {l a : Operand} {label : Label} {value : Value} → seen_as label_of task.environment l ≡ Some label
      → bound task.environment a ≡ Some value → Asks program task (line.FullVar x l a) (act.NewVar label (Some value)) (On op.NewVar label)
  Raising : {s : Simple} {o : Op} {asked : Act} {kind : Kind} {handle : Handle} {onward : Onward} → Reaches task s o asked kind handle onward
      → Asks program task s (act.Raise o handle.label) (On o handle.label)
  Writing : {r a : Operand} {handle : Handle} {value : Value} → seen_as reference_of task.environment r ≡ Some handle
      → bound task.environment a ≡ Some value → Asks program task (line.Write r a) (act.Write value) (On op.Write handle.label)
  Sending : {c a : Operand} {handle : Handle} {text : List ℕ} → seen_as channel_of task.environment c ≡ Some handle
      → seen_as text_of task.environment a ≡ Some text → Asks program task (line.Send c a) (act.Send text) (On op.Send handle.label)
  Forking : {x : List ℕ} {l t n : Operand} {p : List ℕ} {arguments : List Operand} {label : Label} {turns cells place : ℕ} {vs : List Value}
      → seen_as label_of task.environment l ≡ Some label → all_bound task.environment arguments ≡ Some vs
      → Asks program task (line.Fork x l t n p arguments) (act.Fork (birth_of place vs label label turns (task.first + 1) cells)) (On op.Fork label)
  Spawning : {t n : Operand} {p : List ℕ} {arguments : List Operand} {turns cells place : ℕ} {vs : List Value}
      → all_bound task.environment arguments ≡ Some vs
      → Asks program task (line.Spawn t n p arguments) (act.Spawn (birth_of place vs task.clearance task.clearance turns (task.first + 1) cells)) Free

-- the cases
pub data Outcome (program : Program) (task : TaskState) : Simple → Plan → Type 0 where
  Mistyped : {s : Simple} → Outcome program task s (bad_type task)
  Refused : {s : Simple} {asked : Act} {test : Test} {kind : FaultKind} → Asks program task s asked test → verdict_of task test ≡ No kind
      → Outcome program task s (refused task asked kind)
  LacksCells : {s : Simple} {asked : Act} {test : Test} {count : ℕ} → Asks program task s asked test
      → Outcome program task s (refused task asked (NoCells count task.cells))
  LacksTurns : {s : Simple} {asked : Act} {test : Test} {turns : ℕ} → Asks program task s asked test
      → Outcome program task s (refused task asked (ChildTurns turns (task.turns - 1)))
  Binds : {x : List ℕ} {a : Operand} {value : Value} → bound task.environment a ≡ Some value
      → Outcome program task (line.Let x a) (stepping (Bind x value))
  Computes1 : {x : List ℕ} {o : One} {a : Operand} {value made : Value} → bound task.environment a ≡ Some value
      → operate1 program.longest o value ≡ Ok made → Outcome program task (line.LetOne x o a) (stepping (Bind x made))
  Fails1 : {x : List ℕ} {o : One} {a : Operand} {value : Value} {kind : FaultKind} → bound task.environment a ≡ Some value
      → operate1 program.longest o value ≡ Err kind → Outcome program task (line.LetOne x o a) (refused task act.Step kind)
  Computes2 : {x : List ℕ} {a : Operand} {o : Two} {b : Operand} {left right made : Value} → bound task.environment a ≡ Some left
      → bound task.environment b ≡ Some right → operate2 program.longest o left right ≡ Ok made
      → Outcome program task (line.LetTwo x a o b) (stepping (Bind x made))
  Fails2 : {x : List ℕ} {a : Operand} {o : Two} {b : Operand} {left right : Value} {kind : FaultKind} → bound task.environment a ≡ Some left
      → bound task.environment b ≡ Some right → operate2 program.longest o left right ≡ Err kind
      → Outcome program task (line.LetTwo x a o b) (refused task act.Step kind)
  Calls : {x p : List ℕ} {arguments : List Operand} {vs : List Value} {procedure : Procedure} → all_bound task.environment arguments ≡ Some vs
      → option_and_then (slice_get program.procedures) (procedure_at program p) ≡ Some procedure → open_calls task.items < 64
      → Outcome program task (line.Call x p arguments) (stepping (Call x (bind_all [] procedure.parameters vs) procedure.body))
  IsTooDeep : {x p : List ℕ} {arguments : List Operand} → Outcome program task (line.Call x p arguments) (refused task act.Step Depth)
  Returns : {a : Operand} {value : Value} → bound task.environment a ≡ Some value → Outcome program task (line.Return a) (stepping (Return value))
  Finishes : {a : Operand} {plain : Plain} → bound task.environment a ≡ Some (Bare plain) → IsTrue (is_pure plain)
      → Outcome program task (line.Return a) (ending (Kept plain))
  Stops : Outcome program task line.Stop (ending (Kept unit))
  Throws : {a : Operand} {plain : Plain} → bound task.environment a ≡ Some (Bare plain) → IsTrue (is_pure plain)
      → Outcome program task (line.Throw a) (refused task act.Step (User plain))
  Seals : {x : List ℕ} {l a : Operand} {label : Label} {plain : Plain} → seen_as label_of task.environment l ≡ Some label
      → bound task.environment a ≡ Some (Bare plain) → IsTrue (is_pure plain) → Outcome program task (line.Label x l a) (Own (act.Seal label) Done (Seal x label plain))
  Unlabels : {x : List ℕ} {a : Operand} {sealed : Labelled} {current : Label} → option_and_then sealed_of (bound task.environment a) ≡ Some sealed
      → verdict_on task op.Unlabel sealed.label ≡ Go current
      → Outcome program task (line.Unlabel x a) (Own (act.Raise op.Unlabel sealed.label) Done (Unlabel x current sealed.label sealed.content))
  Taints : {l : Operand} {label current : Label} → seen_as label_of task.environment l ≡ Some label → verdict_on task op.Taint label ≡ Go current
      → Outcome program task (line.Taint l) (Own (act.Raise op.Taint label) Done (Raise current))
  Lowers : {l : Operand} {label current : Label} → seen_as label_of task.environment l ≡ Some label → verdict_on task op.Lower label ≡ Go current
      → Outcome program task (line.Lower l) (Own (act.Lower label) Done (Lower label))
  Releases : {x : List ℕ} {a l p : Operand} {sealed : Labelled} {target : Label} {power : Priv} {current : Label}
      → Asks program task (line.Relabel x a l p) (act.Release sealed.label target power Hidden) (Between sealed.label target power)
      → option_and_then sealed_of (bound task.environment a) ≡ Some sealed
      → guarded_relabel task.label task.clearance sealed.label target power ≡ Go current
      → Outcome program task (line.Relabel x a l p) (Own (act.Release sealed.label target power sealed.content) Done (Release x target))
  Exposes : {x : List ℕ} {a p : Operand} {sealed : Labelled} {power : Priv} {current : Label}
      → Asks program task (line.UnlabelUsing x a p) (exposure task sealed power) (Using sealed.label power)
      → option_and_then sealed_of (bound task.environment a) ≡ Some sealed
      → guarded_expose task.label task.clearance sealed.label power ≡ Go current
      → Outcome program task (line.UnlabelUsing x a p) (Own (act.Expose sealed.label current power sealed.content) Done (Expose x current))
  MakesReference : {x : List ℕ} {l a : Operand} {label : Label} {value : Value} {current : Label}
      → Asks program task (line.NewRef x l a) (act.NewRef label value) (On op.NewRef label) → verdict_on task op.NewRef label ≡ Go current
      → 1 ≤ task.cells → Outcome program task (line.NewRef x l a) (Visit (act.NewRef label value) (New task.first) (HoldReference x label))
  MakesVariable : {s : Simple} {x : List ℕ} {label : Label} {value : Option Value} {current : Label}
      → Asks program task s (act.NewVar label value) (On op.NewVar label) → verdict_on task op.NewVar label ≡ Go current
      → 1 ≤ task.cells → Outcome program task s (Visit (act.NewVar label value) (New task.first) (HoldVariable x label))
  IsRaised : {s : Simple} {o : Op} {asked : Act} {kind : Kind} {handle : Handle} {onward : Onward} {current : Label}
      → Reaches task s o asked kind handle onward → verdict_on task o handle.label ≡ Go current
      → Outcome program task s (Own (act.Raise o handle.label) Done (RaiseTo current s))
  Writes : {r a : Operand} {handle : Handle} {value : Value} {current : Label} → seen_as reference_of task.environment r ≡ Some handle
      → bound task.environment a ≡ Some value → verdict_on task op.Write handle.label ≡ Go current
      → Outcome program task (line.Write r a) (Visit (act.Write value) (Node Reference handle) Advance)
  Sends : {c a : Operand} {handle : Handle} {text : List ℕ} {current : Label} → seen_as channel_of task.environment c ≡ Some handle
      → seen_as text_of task.environment a ≡ Some text → verdict_on task op.Send handle.label ≡ Go current
      → Outcome program task (line.Send c a) (Visit (act.Send text) (Node Channel handle) Advance)
  MakesChild : {x : List ℕ} {l t n : Operand} {p : List ℕ} {arguments : List Operand} {label : Label} {turns cells place : ℕ} {vs : List Value} {current : Label}
      → Asks program task (line.Fork x l t n p arguments) (act.Fork (birth_of place vs label label turns (task.first + 1) cells)) (On op.Fork label)
      → procedure_at program p ≡ Some place → verdict_on task op.Fork label ≡ Go current → cells + 1 ≤ task.cells → turns ≤ task.turns - 1
      → Outcome program task (line.Fork x l t n p arguments)
      (Visit (act.Fork (birth_of place vs label label turns (task.first + 1) cells)) (New task.first) (Fork x label cells turns))
  MakesOrphan : {t n : Operand} {p : List ℕ} {arguments : List Operand} {turns cells place : ℕ} {vs : List Value}
      → Asks program task (line.Spawn t n p arguments) (act.Spawn (birth_of place vs task.clearance task.clearance turns (task.first + 1) cells)) Free
      → procedure_at program p ≡ Some place → cells + 1 ≤ task.cells → turns ≤ task.turns - 1
      → Outcome program task (line.Spawn t n p arguments)
      (Visit (act.Spawn (birth_of place vs task.clearance task.clearance turns (task.first + 1) cells)) (New task.first) (Spawn cells turns))

-- a view of pure values shows a bare value that is pure
seen-pure : (task : TaskState) (a : Operand) (plain : Plain) → seen_as pure_of task.environment a ≡ Some plain
    → (bound task.environment a ≡ Some (Bare plain)) × IsTrue (is_pure plain)
seen-pure task a plain e =
    let seen = seen-plain pure_of task.environment a plain e in
    let pure = by seen.0 (is_pure seen.0) refl seen.2 in
    (seen.1 ∙ ap (λ (p : Plain). Some (Bare p)) pure.0, pure.1)
  where
    by : (p : Plain) (b : Bool) → is_pure p ≡ b → (if b then Some p else None) ≡ Some plain → (p ≡ plain) × IsTrue (is_pure plain)
    by p true is found = let same : p ≡ plain = cc in (same, subst (λ (q : Plain). IsTrue (is_pure q)) same is)
    by p false is found = absurd (cc)

nat_le-tells : (m n : ℕ) → nat_le m n ≡ true → m ≤ n
nat_le-tells m n e = grind (arith, nat_tests)

nat_le-fails : (m n : ℕ) → nat_le m n ≡ false → n < m
nat_le-fails m n e = grind (arith, nat_tests)

-- the parts of a plan
module _ {program : Program} {task : TaskState} {s : Simple} where
  seen-out : {X : Type 0} (seen : Option X) (next : X → Plan) → ((x : X) → seen ≡ Some x → Outcome program task s (next x)) → Outcome program task s (with_seen task seen next)
  seen-out None next fine = Mistyped
  seen-out (Some x) next fine = fine x refl

  if-out : (b : Bool) (yes_ no_ : Plan) → (b ≡ true → Outcome program task s yes_) → (b ≡ false → Outcome program task s no_) → Outcome program task s (if b then yes_ else no_)
  if-out true yes_ no_ fine other = fine refl
  if-out false yes_ no_ fine other = other refl

  tested : (asked : Act) (test : Test) (next : Label → Plan) → Asks program task s asked test
      → ((current : Label) → verdict_of task test ≡ Go current → Outcome program task s (next current)) → Outcome program task s (with_verdict task asked (verdict_of task test) next)
  tested asked test next asks fine = by (verdict_of task test) refl
    where
      by : (v : Verdict) → verdict_of task test ≡ v → Outcome program task s (with_verdict task asked v next)
      by (Go current) e = fine current e
      by (No kind) e = Refused asks e

  cells-out : (asked : Act) (test : Test) (count : ℕ) (p : Plan) → Asks program task s asked test → (count ≤ task.cells → Outcome program task s p)
      → Outcome program task s (with_cells task asked count p)
  cells-out asked test count p asks fine = if-out (nat_le count task.cells) p _ (λ e. fine (nat_le-tells count task.cells e)) (λ e. LacksCells asks)

  turns-out : (asked : Act) (test : Test) (count : ℕ) (p : Plan) → Asks program task s asked test → (count ≤ task.turns - 1 → Outcome program task s p)
      → Outcome program task s (with_turns task asked count p)
  turns-out asked test count p asks fine = if-out (nat_le count (task.turns - 1)) p _ (λ e. fine (nat_le-tells count (task.turns - 1) e)) (λ e. LacksTurns asks)

  raising-out : {asked : Act} {kind : Kind} {onward : Onward} (o : Op) (handle : Handle) → Reaches task s o asked kind handle onward → Outcome program task s (raising task o s handle)
  raising-out o handle r = tested (act.Raise o handle.label) (On o handle.label) _ (Raising r) (λ current e. IsRaised r e)

  new_variable-out : (x : List ℕ) (label : Label) (value : Option Value) → Asks program task s (act.NewVar label value) (On op.NewVar label)
      → Outcome program task s (new_variable task x label value)
  new_variable-out x label value asks =
      tested (act.NewVar label value) (On op.NewVar label) _ asks
      (λ current e. cells-out (act.NewVar label value) (On op.NewVar label) 1 _ asks (λ room. MakesVariable asks e room))

-- what an operator gives, calls and returns
module _ (program : Program) (task : TaskState) where
  computed1-out : (x : List ℕ) (o : One) (a : Operand) (value : Value) (made : Result Value FaultKind) → bound task.environment a ≡ Some value
      → operate1 program.longest o value ≡ made → Outcome program task (line.LetOne x o a) (computed task x made)
  computed1-out x o a value (Ok made) e f = Computes1 e f
  computed1-out x o a value (Err kind) e f = Fails1 e f

  computed2-out : (x : List ℕ) (a : Operand) (o : Two) (b : Operand) (left right : Value) (made : Result Value FaultKind) → bound task.environment a ≡ Some left
      → bound task.environment b ≡ Some right → operate2 program.longest o left right ≡ made → Outcome program task (line.LetTwo x a o b) (computed task x made)
  computed2-out x a o b left right (Ok made) e f g = Computes2 e f g
  computed2-out x a o b left right (Err kind) e f g = Fails2 e f g

  calling-out : (x p : List ℕ) (arguments : List Operand) (vs : List Value) (procedure : Option Procedure) → all_bound task.environment arguments ≡ Some vs
      → option_and_then (slice_get program.procedures) (procedure_at program p) ≡ procedure → Outcome program task (line.Call x p arguments) (calling task x vs procedure)
  calling-out x p arguments vs None all found = Mistyped
  calling-out x p arguments vs (Some procedure) all found =
      if-out (nat_le 64 (open_calls task.items)) _ _ (λ deep. IsTooDeep) (λ shallow. Calls all found (nat_le-fails 64 (open_calls task.items) shallow))

  returning-out : (a : Operand) (value : Value) → bound task.environment a ≡ Some value → Outcome program task (line.Return a) (returning task value)
  returning-out a (Bare plain) e = if-out (open_calls task.items == 0) _ _ (λ none. finishing (is_pure plain) refl) (λ some. Returns e)
    where
      finishing : (pure : Bool) → is_pure plain ≡ pure → Outcome program task (line.Return a) (ending_with task (if pure then Some plain else None))
      finishing true is = Finishes e is
      finishing false is = Mistyped
  returning-out a (Sealed label content) e = if-out (open_calls task.items == 0) _ _ (λ none. Mistyped) (λ some. Returns e)

-- the plan of a statement that opens no block
pub outcome : (program : Program) (task : TaskState) (s : Simple) → Outcome program task s (plan_simple program task s)
unfolding plan_simple
outcome program task (line.Let x a) = seen-out (bound task.environment a) _ (λ value e. Binds e)
outcome program task (line.LetOne x o a) = seen-out (bound task.environment a) _ (λ value e. computed1-out program task x o a value (operate1 program.longest o value) e refl)
outcome program task (line.LetTwo x a o b) =
    seen-out (bound task.environment a) _ (λ left e. seen-out (bound task.environment b) _
    (λ right f. computed2-out program task x a o b left right (operate2 program.longest o left right) e f refl))
outcome program task (line.Call x p arguments) =
    seen-out (all_bound task.environment arguments) _ (λ vs e. calling-out program task x p arguments vs (option_and_then (slice_get program.procedures) (procedure_at program p)) e refl)
outcome program task (line.Return a) = seen-out (bound task.environment a) _ (returning-out program task a)
outcome program task line.Stop = Stops
outcome program task (line.Throw a) =
    seen-out (seen_as pure_of task.environment a) _ (λ plain e. let seen = seen-pure task a plain e in Throws seen.0 seen.1)
outcome program task (line.Label x l a) =
    seen-out (seen_as label_of task.environment l) _ (λ label e. seen-out (seen_as pure_of task.environment a) _
    (λ plain f. tested (act.Seal label) (On op.Seal label) _ (Sealing e) (λ current g. let seen = seen-pure task a plain f in Seals e seen.0 seen.1)))
outcome program task (line.Unlabel x a) =
    seen-out (option_and_then sealed_of (bound task.environment a)) _
    (λ s e. tested (act.Raise op.Unlabel s.label) (On op.Unlabel s.label) _ (Unlabelling e) (λ current g. Unlabels e g))
outcome program task (line.UnlabelUsing x a p) =
    seen-out (option_and_then sealed_of (bound task.environment a)) _ (λ s e. seen-out (seen_as power_of task.environment p) _
    (λ power f. tested (exposure task s power) (Using s.label power) _ (Exposing e f) (λ current g. Exposes (Exposing e f) e g)))
outcome program task (line.Taint l) =
    seen-out (seen_as label_of task.environment l) _ (λ label e. tested (act.Raise op.Taint label) (On op.Taint label) _ (Tainting e) (λ current g. Taints e g))
outcome program task (line.Lower l) =
    seen-out (seen_as label_of task.environment l) _ (λ label e. tested (act.Lower label) (On op.Lower label) _ (Lowering e) (λ current g. Lowers e g))
outcome program task (line.Relabel x a l p) =
    seen-out (option_and_then sealed_of (bound task.environment a)) _ (λ s e. seen-out (seen_as label_of task.environment l) _ (λ target f. seen-out (seen_as power_of task.environment p) _
    (λ power g. tested (act.Release s.label target power Hidden) (Between s.label target power) _ (Releasing e f g) (λ current h. Releases (Releasing e f g) e h))))
outcome program task (line.NewRef x l a) =
    seen-out (seen_as label_of task.environment l) _ (λ label e. seen-out (bound task.environment a) _
    (λ value f. tested (act.NewRef label value) (On op.NewRef label) _ (Referring e f)
    (λ current g. cells-out (act.NewRef label value) (On op.NewRef label) 1 _ (Referring e f) (λ room. MakesReference (Referring e f) g room))))
outcome program task (line.NewVar x l) = seen-out (seen_as label_of task.environment l) _ (λ label e. new_variable-out x label None (Holding e))
outcome program task (line.FullVar x l a) =
    seen-out (seen_as label_of task.environment l) _ (λ label e. seen-out (bound task.environment a) _ (λ value f. new_variable-out x label (Some value) (Filling e f)))
outcome program task (line.Read x r) = seen-out (seen_as reference_of task.environment r) _ (λ handle e. raising-out op.Read handle (Reads e))
outcome program task (line.Write r a) =
    seen-out (seen_as reference_of task.environment r) _ (λ handle e. seen-out (bound task.environment a) _
    (λ value f. tested (act.Write value) (On op.Write handle.label) _ (Writing e f) (λ current g. Writes e f g)))
outcome program task (line.Take x v) = seen-out (seen_as variable_of task.environment v) _ (λ handle e. raising-out op.Take handle (Takes e))
outcome program task (line.Put v a) =
    seen-out (seen_as variable_of task.environment v) _ (λ handle e. seen-out (bound task.environment a) _ (λ value f. raising-out op.Put handle (Puts e f)))
outcome program task (line.Fork x l t n p arguments) =
    seen-out (seen_as label_of task.environment l) _ (λ label e. seen-out (seen_as count_of task.environment t) _ (λ turns f. seen-out (seen_as count_of task.environment n) _
    (λ cells g. seen-out (procedure_at program p) _ (λ place h. seen-out (all_bound task.environment arguments) _
    (λ vs i. let asks : Asks program task (line.Fork x l t n p arguments) (act.Fork (birth_of place vs label label turns (task.first + 1) cells)) (On op.Fork label) = Forking e i in
    tested _ (On op.Fork label) _ asks (λ current j. cells-out _ (On op.Fork label) (cells + 1) _ asks (λ room. turns-out _ (On op.Fork label) turns _ asks (λ enough. MakesChild asks h j room enough))))))))
outcome program task (line.Spawn t n p arguments) =
    seen-out (seen_as count_of task.environment t) _ (λ turns f. seen-out (seen_as count_of task.environment n) _ (λ cells g. seen-out (procedure_at program p) _
    (λ place h. seen-out (all_bound task.environment arguments) _
    (λ vs i. cells-out _ Free (cells + 1) _ (Spawning i) (λ room. turns-out _ Free turns _ (Spawning i) (λ enough. MakesOrphan (Spawning i) h room enough))))))
outcome program task (line.Wait x r) = seen-out (seen_as result_of task.environment r) _ (λ handle e. raising-out op.Wait handle (Waits e))
outcome program task (line.Send c a) =
    seen-out (seen_as channel_of task.environment c) _ (λ handle e. seen-out (seen_as text_of task.environment a) _
    (λ text f. tested (act.Send text) (On op.Send handle.label) _ (Sending e f) (λ current g. Sends e f g)))
