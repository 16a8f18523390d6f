use Rattle.std.specs.Ordering.{nat_cmp}
use Rattle.std.specs.Cmp.Lexicographic.{slice_cmp}
use Rattle.std.proofs.Common.{◌≡◌, ◌∙◌, rules, subst}
use Rattle.std.proofs.lemmas.Fn.{always_returns_same}
use Rattle.lio_syntax.specs.declared.binding.Binding.{Binding}
use Rattle.lio_task_control.specs.Bound.{AreInOrder}
use Rattle.lio_task_control.proofs.OrderLemmas.{halved}
use Rattle.lio_task_control.proofs.environment.Environment.search.Goals as goal

pub returns : goal.returns
returns c =
    let ord = λ (b : Binding). slice_cmp nat_cmp b.name c.args.name.now in
    halved _ _ c.args.name.now c.binary_search_by.result (c.deref.ensures.value ∙ c.self.view_is) (subst AreInOrder c.self.view_is c.self.invariant) c.binary_search_by.ensures.bound
    (c.binary_search_by.ensures.position ord (always_returns_same _ (λ a r. r ≡ ord a.0.now) _ (λ a r q k. search rules)))
