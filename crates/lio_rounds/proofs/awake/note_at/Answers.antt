use Rattle.std.proofs.Common.{◌≡◌, ℕ, ◌<◌, ◌∷◌, [], ◌++◌, sym, ◌∙◌, ap, subst, arith, List, Vec, length, is_ok}
use Rattle.std.specs.declared.alloc.Global.{Global}
use Rattle.lio_rounds.specs.Awake.{Lists, noted_at, Waits}
use Rattle.lio_rounds.proofs.ListLemmas.{waits-more, waits-same, waits-kept, pushed-more, pushed-last, noted-is}
use Rattle.lio_rounds.proofs.awake.note_at.Goals as goal

pub returns-then-is_err-clause-waiting : goal.returns-then-is_err-clause-waiting
returns-then-is_err-clause-waiting c =
    λ n i h. subst (λ (w : List (Vec ℕ Global)). Waits w n i) (sym c.try_reserve.ensures.items) (c.loop-alloc.invariant n i h)

pub loop-alloc-preserved : goal.loop-alloc-preserved
loop-alloc-preserved c =
    λ n i h.
    let pushed : c.push_reserved.new.self.items ≡ c.loop-alloc.waiting.items ++ c.new.result ∷ [] =
    c.push_reserved.ensures.items ∙ ap (λ (w : List (Vec ℕ Global)). w ++ c.new.result ∷ []) c.try_reserve.ensures.items in
    subst (λ (w : List (Vec ℕ Global)). Waits w n i) (sym pushed) (waits-more c.loop-alloc.waiting.items c.new.result n i (c.loop-alloc.invariant n i h))

pub returns-clause-noted : goal.returns-clause-noted
returns-clause-noted c =
    λ ok. waits-same c.loop-alloc.waiting.items c.args.node c.args.place c.push.new.self (omega (arith, c.loop-alloc-test.false, c.len.ensures))
    (pushed-last (is_ok c.push.result) c.index_mut.result.now.items c.push.new.self.items c.args.place c.push.ensures.items (sym c.is_ok.ensures.value ∙ ok))

pub returns-clause-waiting : goal.returns-clause-waiting
returns-clause-waiting c =
    let before : List (Vec ℕ Global) = c.loop-alloc.waiting.items in
    let inside : c.args.node < length before = omega (arith, c.loop-alloc-test.false, c.len.ensures) in
    let noted : noted_at before c.args.node ≡ c.index_mut.result.now.items = noted-is before c.args.node c.index_mut.result.now c.index_mut.result.now inside c.index_mut.ensures.value in
    λ n i h. waits-kept before c.args.node n i c.push.new.self inside
    (λ l. pushed-more (is_ok c.push.result) c.index_mut.result.now.items c.push.new.self.items c.args.place i c.push.ensures.items (subst (λ (ps : List ℕ). Lists ps i) noted l))
    (c.loop-alloc.invariant n i h)
