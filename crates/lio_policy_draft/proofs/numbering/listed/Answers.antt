use Rattle.std.proofs.Common.{◌∙◌, ◌-◌, length, sym, arith}
use Rattle.std.proofs.lemmas.Option.{slice_get_past}
use Rattle.serde_json.specs.View.{view}
use Rattle.lio_policy_draft.specs.Entries.{placed}
use Rattle.lio_policy_draft.specs.declared.numbering.EntryKind.TheVariants.{Principal, Channel, Input, Task}
use Rattle.lio_policy_draft.proofs.EntryLemmas.{answers, lengths, length_placed, principal_at, channel_at, input_at, task_at, principals, channels, inputs, tasks}
use Rattle.lio_policy_draft.proofs.numbering.listed.Goals as goal

pub returns-then-index-principals : goal.returns-then-index-principals
returns-then-index-principals c =
    let d = view c.args.document.now in
    let p = lengths _ _ c.list_at-principals.ensures in
    answers _ Principal _ (principals d) c.args.number _ c.list_at-principals.ensures (principal_at d c.args.number (omega arith)) c.item_at.ensures

pub returns-then-index-channels : goal.returns-then-index-channels
returns-then-index-channels c =
    let d = view c.args.document.now in
    let p = lengths _ _ c.list_at-principals.ensures in
    let q = lengths _ _ c.list_at-channels.ensures in
    answers _ Channel _ (channels d) _ _ c.list_at-channels.ensures (channel_at d c.args.number _ (omega arith) (omega arith)) c.item_at-then-index-channels.ensures

pub returns-then-index-inputs : goal.returns-then-index-inputs
returns-then-index-inputs c =
    let d = view c.args.document.now in
    let p = lengths _ _ c.list_at-principals.ensures in
    let q = lengths _ _ c.list_at-channels.ensures in
    let i = lengths _ _ c.list_at-inputs.ensures in
    answers _ Input _ (inputs d) _ _ c.list_at-inputs.ensures (input_at d c.args.number _ (omega arith) (omega arith)) c.item_at-then-index-inputs.ensures

pub returns-then-index-tasks : goal.returns-then-index-tasks
returns-then-index-tasks c =
    let d = view c.args.document.now in
    let p = lengths _ _ c.list_at-principals.ensures in
    let q = lengths _ _ c.list_at-channels.ensures in
    let i = lengths _ _ c.list_at-inputs.ensures in
    answers _ Task _ (tasks d) _ _ c.list_at-tasks.ensures (task_at d c.args.number _ (omega arith)) c.item_at-then-index-tasks.ensures

pub returns : goal.returns
returns c =
    let d = view c.args.document.now in
    let p = lengths _ _ c.list_at-principals.ensures in
    let q = lengths _ _ c.list_at-channels.ensures in
    let i = lengths _ _ c.list_at-inputs.ensures in
    let t = lengths _ _ c.list_at-tasks.ensures in
    let index = c.args.number - length (principals d) - length (channels d) - length (inputs d) in
    sym (slice_get_past (placed Task 1 (tasks d)) index (omega (arith, length_placed Task 1 (tasks d)))) ∙ task_at d c.args.number index (omega arith)
