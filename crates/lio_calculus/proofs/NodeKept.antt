-- What a node keeps as acts meet it.
use Rattle.std.proofs.Common.{◌≡◌, ◌∙◌, refl, sym, ap, ℕ, Bool, true, false, ◌&&◌, IsTrue, List, Option, Some, None, true≢false}
use Rattle.std.specs.Option.{option_map_or}
use Rattle.lio_labels.specs.declared.label.Label.{Label}
use Rattle.lio_labels.specs.Equality.{same_label}
use Rattle.lio_values.specs.declared.value.Handle.{Handle}
use Rattle.lio_values.specs.declared.value.Content.{Content}
use Rattle.lio_values.specs.declared.value.Value.{Value}
use Rattle.lio_values.specs.declared.act.Act.{Act}
use Rattle.lio_values.specs.declared.act.Act.TheVariants as act
use Rattle.lio_cells.specs.declared.state.State.{State}
use Rattle.lio_cells.specs.declared.state.State.TheVariants.{Absent, Ref, Var, Chan, Job}
use Rattle.lio_cells.specs.State.{Kind, Reference, is_of, label_of, answer, state_after}
use Rattle.lio_calculus.specs.Step.{is_named, has_label}
use Rattle.lio_calculus.specs.Sound.{EachInState}
use Rattle.lio_calculus.proofs.Closed.{IsClosed}
use Rattle.lio_calculus.proofs.PlanEach.{EachInAct}
use Rattle.lio_calculus.proofs.PlanKept.{is_visit}
use Rattle.lio_calculus.proofs.GoneKept.{EachInReply}

-- nodes of one kind with one label
pub record Alike (one other : State) : Type 0 where
  pub kinds : (kind : Kind) → is_of kind one ≡ is_of kind other
  pub label : label_of one ≡ label_of other

same : (state : State) → Alike state state
same state = record { kinds = λ kind. refl; label = refl }

references : (label : Label) (v w : Value) → Alike (Ref label v) (Ref label w)
references label v w = record { kinds = by; label = refl }
  where
    by : (kind : Kind) → is_of kind (Ref label v) ≡ is_of kind (Ref label w)
    by Reference = refl
    by kind = refl

variables : (label : Label) (v w : Option Value) → Alike (Var label v) (Var label w)
variables label v w = record { kinds = by; label = refl }
  where
    by : (kind : Kind) → is_of kind (Var label v) ≡ is_of kind (Var label w)
    by Reference = refl
    by kind = refl

channels : (label : Label) (v w : List ℕ) → Alike (Chan label v) (Chan label w)
channels label v w = record { kinds = by; label = refl }
  where
    by : (kind : Kind) → is_of kind (Chan label v) ≡ is_of kind (Chan label w)
    by Reference = refl
    by kind = refl

jobs : (label : Label) (v w : Option Content) → Alike (Job label v) (Job label w)
jobs label v w = record { kinds = by; label = refl }
  where
    by : (kind : Kind) → is_of kind (Job label v) ≡ is_of kind (Job label w)
    by Reference = refl
    by kind = refl

-- an act leaves a node of its kind with its label, where there is one
pub reference-after : (label : Label) (v : Value) (asked : Act) → Alike (Ref label v) (state_after (Ref label v) asked)
unfolding state_after
reference-after label v (act.Write w) = references label v w
reference-after label v asked = same _

pub variable-after : (label : Label) (v : Option Value) (asked : Act) → Alike (Var label v) (state_after (Var label v) asked)
unfolding state_after
variable-after label v act.Take = variables label v None
variable-after label v (act.Put w) = variables label v (Some w)
variable-after label v asked = same _

pub channel-after : (label : Label) (bytes : List ℕ) (asked : Act) → Alike (Chan label bytes) (state_after (Chan label bytes) asked)
unfolding state_after
channel-after label bytes (act.Send text) = channels label bytes _
channel-after label bytes asked = same _

pub job-after : (label : Label) (r : Option Content) (asked : Act) → Alike (Job label r) (state_after (Job label r) asked)
unfolding state_after
job-after label r (act.Ended content) = jobs label r (Some content)
job-after label r asked = same _

absent-unnamed : (kind : Kind) (handle : Handle) → IsTrue (is_named kind handle Absent) → ⊥
absent-unnamed Reference handle e = true≢false (sym e)
absent-unnamed kind handle e = true≢false (sym e)

alike-named : (kind : Kind) (handle : Handle) (one other : State) → Alike one other → IsTrue (is_named kind handle one) → IsTrue (is_named kind handle other)
alike-named kind handle one other alike named =
    sym (ap (λ (b : Bool). b && has_label other handle.label) (alike.kinds kind)) ∙ sym (ap (λ (l : Option Label). is_of kind one && option_map_or (λ x. same_label x handle.label) l false) alike.label) ∙ named

-- what a handle names it still names
pub named-after : (kind : Kind) (handle : Handle) (state : State) (asked : Act) → IsTrue (is_named kind handle state) → IsTrue (is_named kind handle (state_after state asked))
named-after kind handle Absent asked named = absurd (absent-unnamed kind handle named)
named-after kind handle (Ref label v) asked named = alike-named kind handle _ _ (reference-after label v asked) named
named-after kind handle (Var label v) asked named = alike-named kind handle _ _ (variable-after label v asked) named
named-after kind handle (Chan label bytes) asked named = alike-named kind handle _ _ (channel-after label bytes asked) named
named-after kind handle (Job label r) asked named = alike-named kind handle _ _ (job-after label r asked) named

-- the values in a node that was there
pub each-after : (P : Value → Type 0) (state : State) (asked : Act) → is_visit asked ≡ true → EachInState P state → EachInAct P asked → EachInState P (state_after state asked)
unfolding state_after
each-after P (Ref label v) (act.Write w) visit each p = p
each-after P Absent (act.Write w) visit each p = tt
each-after P (Var label None) (act.Write w) visit each p = tt
each-after P (Var label (Some v)) (act.Write w) visit each p = each
each-after P (Chan label bytes) (act.Write w) visit each p = tt
each-after P (Job label None) (act.Write w) visit each p = tt
each-after P (Job label (Some content)) (act.Write w) visit each p = each
each-after P Absent act.Take visit each p = tt
each-after P (Ref label v) act.Take visit each p = each
each-after P (Var label v) act.Take visit each p = tt
each-after P (Chan label bytes) act.Take visit each p = tt
each-after P (Job label None) act.Take visit each p = tt
each-after P (Job label (Some content)) act.Take visit each p = each
each-after P Absent (act.Put w) visit each p = tt
each-after P (Ref label v) (act.Put w) visit each p = each
each-after P (Var label v) (act.Put w) visit each p = p
each-after P (Chan label bytes) (act.Put w) visit each p = tt
each-after P (Job label None) (act.Put w) visit each p = tt
each-after P (Job label (Some content)) (act.Put w) visit each p = each
each-after P Absent (act.Send text) visit each p = tt
each-after P (Ref label v) (act.Send text) visit each p = each
each-after P (Var label None) (act.Send text) visit each p = tt
each-after P (Var label (Some v)) (act.Send text) visit each p = each
each-after P (Chan label bytes) (act.Send text) visit each p = tt
each-after P (Job label None) (act.Send text) visit each p = tt
each-after P (Job label (Some content)) (act.Send text) visit each p = each
each-after P state act.Read visit each p = each
each-after P state act.Wait visit each p = each
each-after P state asked visit each p = absurd (true≢false (sym visit))

-- what a node answers
pub answer-each : (P : Value → Type 0) → IsClosed P → (state : State) (asked : Act) → EachInState P state → EachInReply P (answer state asked)
unfolding answer
answer-each P closed Absent act.Read each = tt
answer-each P closed (Ref label v) act.Read each = each
answer-each P closed (Var label v) act.Read each = tt
answer-each P closed (Chan label bytes) act.Read each = tt
answer-each P closed (Job label r) act.Read each = tt
answer-each P closed Absent act.Take each = tt
answer-each P closed (Ref label v) act.Take each = tt
answer-each P closed (Var label None) act.Take each = tt
answer-each P closed (Var label (Some v)) act.Take each = each
answer-each P closed (Chan label bytes) act.Take each = tt
answer-each P closed (Job label r) act.Take each = tt
answer-each P closed Absent act.Wait each = tt
answer-each P closed (Ref label v) act.Wait each = tt
answer-each P closed (Var label v) act.Wait each = tt
answer-each P closed (Chan label bytes) act.Wait each = tt
answer-each P closed (Job label None) act.Wait each = tt
answer-each P closed (Job label (Some content)) act.Wait each = λ other. closed.again label other content each
answer-each P closed state asked each = tt
