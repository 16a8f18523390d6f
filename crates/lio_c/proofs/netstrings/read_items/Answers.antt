use Rattle.std.proofs.Common.{◌∙◌, ap, List, ℕ, [], ◌∷◌, ◌++◌}
use Rattle.lio_c.proofs.ItemLemmas.{read-more, read-none, shorter}
use Rattle.lio_c.proofs.netstrings.read_items.Goals as goal

pub loop-rest-init : goal.loop-rest-init
loop-rest-init c = read-none c.args.bytes.now c.new-items.result c.new-items.ensures

pub loop-rest-preserved : goal.loop-rest-preserved
loop-rest-preserved c =
    read-more c.args.bytes.now c.loop-rest.rest.now c.in-Some.item.now c.in-Some.behind.now c.loop-rest.items c.push.new.self c.loop-rest.invariant c.in-Some.ensures
    (c.in_ok-push.ensures.ok ∙ ap (λ (t : List ℕ). c.loop-rest.items ++ t ∷ []) c.in_ok-of.ensures.ok)

pub loop-rest-smaller : goal.loop-rest-smaller
loop-rest-smaller c = shorter c.loop-rest.rest.now c.in-Some.item.now c.in-Some.behind.now c.in-Some.ensures
