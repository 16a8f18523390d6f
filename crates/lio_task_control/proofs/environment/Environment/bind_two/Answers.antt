use Rattle.std.proofs.Common.{◌∙◌, ap}
use Rattle.lio_syntax.specs.Environment.{bind}
use Rattle.lio_task_control.proofs.OrderLemmas.{bound_twice, bound_twice_in_order}
use Rattle.lio_task_control.proofs.environment.Environment.bind_two.Goals as goal

pub invariant_of-self : goal.invariant_of-self
invariant_of-self c =
    bound_twice_in_order _ _ c.args.first.now c.args.second.now _ _ c.assign.new.place c.assign-in-Some-Some.new.place _ _ c.self.view_is c.self.invariant
    c.in-Some-Some.ensures c.in-Some-Some.ensures' c.index_mut.ensures.value c.index_mut-in-Some-Some.ensures.value

pub returns-in-Some-Some-clause-ok : goal.returns-in-Some-Some-clause-ok
returns-in-Some-Some-clause-ok c =
    bound_twice _ _ c.args.first.now c.args.second.now _ _ c.assign.new.place c.assign-in-Some-Some.new.place _ _ c.self.view_is c.self.invariant
    c.in-Some-Some.ensures c.in-Some-Some.ensures' c.index_mut.ensures.value c.index_mut-in-Some-Some.ensures.value
    ∙ ap (λ v. bind (bind c.args.self.now c.args.first.now v) c.args.second.now c.assign-in-Some-Some.new.place) c.assign.ensures
    ∙ ap (bind (bind c.args.self.now c.args.first.now c.args.value) c.args.second.now) c.assign-in-Some-Some.ensures
