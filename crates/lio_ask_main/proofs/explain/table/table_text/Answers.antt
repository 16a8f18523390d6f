use Rattle.std.proofs.Common.{◌∙◌, ap, List, ℕ}
use Rattle.lio_policy.specs.declared.flows.MayFlow.{MayFlow}
use Rattle.lio_ask_main.specs.Explained.{table_with}
use Rattle.lio_ask_main.proofs.explain.table.table_text.Goals as goal

pub returns : goal.returns
returns c =
    let rest : List ℕ = c.as_bytes-rest.result.now in
    (rest, c.in_ok-text.ensures ∙ ap (λ (rows : List (List MayFlow)). table_with c.args.policy.now rows rest) (c.as_slice-table.ensures ∙ c.in_ok-rows.ensures))
