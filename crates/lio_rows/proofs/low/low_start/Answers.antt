use Rattle.std.proofs.Common.{◌≡◌, ◌∙◌, ap}
use Rattle.lio_calculus.specs.Erased.{erase}
use Rattle.lio_policy.specs.Policy.{PolicyParts}
use Rattle.lio_start.specs.Job.{first_of}
use Rattle.lio_erasure.specs.Low.{low_configuration_of}
use Rattle.lio_erasure.specs.LowParts.{ErasedState, low_of}
use Rattle.lio_rows.proofs.LowNames.{seen_by, seen_is_of_sound, seen_names_only}
use Rattle.lio_rows.proofs.low.low_start.Goals as goal

pub new-requires-clause-seen : goal.new-requires-clause-seen
new-requires-clause-seen c =
    let job = c.args.job.now in
    let script = c.in_ok-script.script in
    let longest = c.policy.inside.longest in
    let seen =
    seen_by job script c.in_ok-observer.observer longest c.in_ok-seen.seen (c.in_ok-script.ensures ∙ c.script.ensures.script)
    (ap (λ (p : PolicyParts). p.longest) (c.policy.view_is ∙ c.policy-policy.ensures.policy)) c.in_ok-seen.ensures.seen in
    seen_is_of_sound job c.in_ok-observer.observer (low_configuration_of script longest c.in_ok-seen.seen) c.policy-policy.ensures.job seen

pub returns : goal.returns
returns c =
    let job = c.args.job.now in
    let script = c.in_ok-script.script in
    let longest = c.policy.inside.longest in
    let seen =
    seen_by job script c.in_ok-observer.observer longest c.in_ok-seen.seen (c.in_ok-script.ensures ∙ c.script.ensures.script)
    (ap (λ (p : PolicyParts). p.longest) (c.policy.view_is ∙ c.policy-policy.ensures.policy)) c.in_ok-seen.ensures.seen in
    let same : (low_of c.new.result).configuration ≡ erase c.in_ok-observer.observer (first_of job) = ap (λ (s : ErasedState). s.configuration) c.new.ensures ∙ seen in
    seen_names_only job c.in_ok-observer.observer (low_of c.new.result).configuration c.policy-policy.ensures.job same
