-- A plan seals a value only by an act that says so, and releases or exposes a content only by an act that does.
use Rattle.std.proofs.Common.{◌≡◌, refl, ap, List}
use Rattle.lio_labels.specs.declared.label.Label.{Label}
use Rattle.lio_values.specs.declared.value.Content.{Content}
use Rattle.lio_values.specs.declared.act.Act.{Act}
use Rattle.lio_values.specs.declared.act.Act.TheVariants as act
use Rattle.lio_syntax.specs.Items.{Item}
use Rattle.lio_calculus.specs.Task.{TaskState}
use Rattle.lio_calculus.specs.Going.{Onward, Seal, Release, Expose}
use Rattle.lio_calculus.specs.Guarded.{IsReleaseOf}
use Rattle.lio_calculus.specs.Plan.{Program, Plan, Over, Own, Visit, plan}
use Rattle.lio_calculus.proofs.Outcome.{Reads}
use Rattle.lio_calculus.proofs.Outcome as out
use Rattle.lio_calculus.proofs.PlanCases.{ItemsCase, Does, Visits, plan-by}
use Rattle.lio_erasure.specs.Acts.{with_content}

-- what an act says of how its task goes on: the label under which a value is sealed, and the one to which a content is released or exposed
abbrev pub Leads : Act → Onward → Type 0
Leads asked (Seal name label plain) = asked ≡ act.Seal label
Leads asked (Release name label) = IsReleaseOf asked label
Leads asked (Expose name label) = IsReleaseOf asked label
Leads asked onward = Unit {0}

abbrev pub LeadsPlan : Plan → Type 0
LeadsPlan Over = Unit {0}
LeadsPlan (Own asked reply onward) = Leads asked onward
LeadsPlan (Visit asked target onward) = Leads asked onward

-- the act with another content says the same
told-releases : (asked : Act) (content : Content) (label : Label) → IsReleaseOf asked label → IsReleaseOf (with_content asked content) label
told-releases (act.Release source target power hidden) content label leads = leads
told-releases (act.Expose source target power hidden) content label leads = leads
told-releases asked content label leads = absurd leads

pub told-leads : (asked : Act) (content : Content) (onward : Onward) → Leads asked onward → Leads (with_content asked content) onward
told-leads asked content (Seal name label plain) leads = ap (λ (a : Act). with_content a content) leads
told-leads asked content (Release name label) leads = told-releases asked content label leads
told-leads asked content (Expose name label) leads = told-releases asked content label leads
told-leads asked content onward leads = tt

-- the cases of a plan
items-lead : {program : Program} {task : TaskState} {items : List Item} {p : Plan} → ItemsCase program task items p → LeadsPlan p
items-lead (Does (out.Seals e f pure)) = refl
items-lead (Does (out.Releases asks e f)) = refl
items-lead (Does (out.Exposes asks e f)) = refl
items-lead (Visits (Reads e)) = tt
items-lead (Visits r) = tt
items-lead o = tt

-- the plan of a task
pub plan-leads : (program : Program) (task : TaskState) → LeadsPlan (plan program task)
plan-leads program task = plan-by LeadsPlan program task tt tt (λ p going o. items-lead o)
