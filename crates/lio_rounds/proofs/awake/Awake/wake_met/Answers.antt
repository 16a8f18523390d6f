use Rattle.std.proofs.Common.{◌∙◌, inl, inr}
use Rattle.lio_rounds.proofs.ListLemmas.{cases_number}
use Rattle.lio_rounds.proofs.awake.Awake.wake_met.Goals as goal

pub returns-clause-asleep : goal.returns-clause-asleep
returns-clause-asleep c =
    λ place asleep.
    let last = c.wake-2.ensures.asleep place asleep in
    let first = c.wake.ensures.asleep place last.0 in (
      first.0,
      λ n meets waits. elim meets [
        | inl t ↦ first.1 n t waits
        | inr e ↦ elim (cases_number c.args.entry.now.target n) [
          | inl t ↦ first.1 n t waits
          | inr other ↦ last.1 n (c.ended_in.ensures ∙ e) (c.wake.ensures.waiting n place other waits)
        ]
      ],
    )
