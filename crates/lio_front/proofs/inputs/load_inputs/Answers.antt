use Rattle.std.proofs.Common.{◌≡◌, ◌∙◌, ap, subst, sym, arith, ℕ, ◌+◌, ◌<◌, ◌≤◌, List, [], ◌∷◌, ◌++◌, length, get_or, take, Option, Ok}
use Rattle.std.proofs.lemmas.Result.{err_from_is_err_and}
use Rattle.lio_outside.specs.FileMap.{FileMap}
use Rattle.lio_outside.specs.Steps.{asked}
use Rattle.lio_outside.specs.Asking.{Give}
use Rattle.lio_policy.specs.declared.policy.FileEntry.{FileEntry}
use Rattle.lio_policy.specs.declared.policy.Policy.{Policy}
use Rattle.lio_front.specs.declared.status.Status.TheVariants.{Missing}
use Rattle.lio_front.specs.Status.{Says}
use Rattle.lio_front.proofs.InputLemmas.{EachGave, EachGave-length, give-each, inputs-end, inputs-next, says-input}
use Rattle.lio_front.proofs.inputs.load_inputs.Goals as goal

pub returns-in_err-bytes-clause-err : goal.returns-in_err-bytes-clause-err
returns-in_err-bytes-clause-err g c =
    let p = err_from_is_err_and c.from_residual.result c.from_residual.ensures.1 in
    let inputs = c.args.policy.now.inputs in
    let i = c.loop-input.input-index in
    let input : FileEntry = c.input-item.result in
    let fault = c.in_err-bytes.field-0.0 in
    let told = g.S.Store.holds c.args.store.now in
    let middle = g.S.Store.faults c.loop-input.store in
    let ended = g.S.Store.faults c.fetch.new.store in
    let items_are : c.as_slice-input-items.result.now ≡ inputs = c.as_slice-input-items.ensures ∙ ap (λ (q : Policy). q.inputs) c.policy.view_is in
    let below : i < length inputs = subst (λ (xs : List FileEntry). i < length xs) items_are c.loop-input-test.true in
    let at : input ≡ get_or inputs i input = subst (λ (xs : List FileEntry). input ≡ get_or xs i input) items_are c.input-item.is in
    let says : Says told (asked (Missing input.file) input.file c.args.policy.now.longest) middle ended fault =
    subst (λ (t : Option FileMap). Says t (asked (Missing input.file) input.file c.args.policy.now.longest) middle ended fault) c.loop-input.invariant.files
    (subst (λ (q : Policy). Says (g.S.Store.holds c.loop-input.store) (asked (Missing input.file) input.file q.longest) middle ended fault) c.policy.view_is
    (subst (λ (name : List ℕ). Says (g.S.Store.holds c.loop-input.store) (asked (Missing name) name c.policy.inside.longest) middle ended fault) c.bytes.ensures c.in_err-bytes.ensures.err)) in
    rw (p.1, p.2) (says-input told c.args.policy.now.longest inputs i input c.loop-input.texts (g.S.Store.faults c.args.store.now) middle ended fault below at c.loop-input.invariant.each c.loop-input.invariant.count says)

pub loop-input-preserved : goal.loop-input-preserved
loop-input-preserved g c =
    let inputs = c.args.policy.now.inputs in
    let i = c.loop-input.input-index in
    let input : FileEntry = c.input-item.result in
    let text : List ℕ = c.in_ok-bytes.bytes.items in
    let told = g.S.Store.holds c.args.store.now in
    let items_are : c.as_slice-input-items.result.now ≡ inputs = c.as_slice-input-items.ensures ∙ ap (λ (q : Policy). q.inputs) c.policy.view_is in
    let below : i < length inputs = subst (λ (xs : List FileEntry). i < length xs) items_are c.loop-input-test.true in
    let at : input ≡ get_or inputs i input = subst (λ (xs : List FileEntry). input ≡ get_or xs i input) items_are c.input-item.is in
    let gave : Give told (asked (Missing input.file) input.file c.args.policy.now.longest) (Ok text) =
    subst (λ (t : Option FileMap). Give t (asked (Missing input.file) input.file c.args.policy.now.longest) (Ok text)) c.loop-input.invariant.files
    (subst (λ (q : Policy). Give (g.S.Store.holds c.loop-input.store) (asked (Missing input.file) input.file q.longest) (Ok text)) c.policy.view_is
    (subst (λ (name : List ℕ). Give (g.S.Store.holds c.loop-input.store) (asked (Missing name) name c.policy.inside.longest) (Ok text)) c.bytes.ensures c.in_ok-bytes.ensures.ok)) in
    let pushed : c.push.new.self ≡ c.loop-input.texts ++ text ∷ [] = c.in_ok-push.ensures.ok ∙ ap (λ (t : List ℕ). c.loop-input.texts ++ t ∷ []) (c.in_ok-of.ensures.ok ∙ c.as_slice.ensures.value) in
    record {
      files = c.in_ok-bytes.ensures.files ∙ c.loop-input.invariant.files;
      count = omega (arith, c.loop-input.invariant.count, c.in_ok-bytes.ensures.count);
      each = subst (λ (texts : List (List ℕ)). EachGave told c.args.policy.now.longest (take (i + 1) inputs) texts) (sym pushed)
          (inputs-next told c.args.policy.now.longest inputs i input c.loop-input.texts text below at c.loop-input.invariant.each gave);
    }

pub returns-clause-ok : goal.returns-clause-ok
returns-clause-ok g c =
    let inputs = c.args.policy.now.inputs in
    let told = g.S.Store.holds c.args.store.now in
    let items_are : c.as_slice-input-items.result.now ≡ inputs = c.as_slice-input-items.ensures ∙ ap (λ (q : Policy). q.inputs) c.policy.view_is in
    let past : length inputs ≤ c.loop-input.input-index = subst (λ (xs : List FileEntry). length xs ≤ c.loop-input.input-index) items_are c.loop-input-test.false in
    give-each told c.args.policy.now.longest inputs c.loop-input.texts (inputs-end told c.args.policy.now.longest inputs c.loop-input.input-index c.loop-input.texts past c.loop-input.invariant.each)

pub returns-clause-each : goal.returns-clause-each
returns-clause-each g c =
    let inputs = c.args.policy.now.inputs in
    let told = g.S.Store.holds c.args.store.now in
    let items_are : c.as_slice-input-items.result.now ≡ inputs = c.as_slice-input-items.ensures ∙ ap (λ (q : Policy). q.inputs) c.policy.view_is in
    let past : length inputs ≤ c.loop-input.input-index = subst (λ (xs : List FileEntry). length xs ≤ c.loop-input.input-index) items_are c.loop-input-test.false in
    EachGave-length told c.args.policy.now.longest inputs c.loop-input.texts (inputs-end told c.args.policy.now.longest inputs c.loop-input.input-index c.loop-input.texts past c.loop-input.invariant.each)
