use Rattle.std.proofs.Common.{◌≡◌, ◌∙◌, ℕ, ◌||◌, true, List, take, ap, sym, subst, Some}
use Rattle.lio_outside.specs.Taken.{is_among}
use Rattle.lio_front.specs.Clash.{is_read}
use Rattle.lio_front.proofs.TakenLemmas.{first_taken-find}
use Rattle.lio_front.proofs.clashes.first_taken.Goals as goal

pub returns-then-is_taken : goal.returns-then-is_taken
returns-then-is_taken c =
    let read = is_read c.args.read.now c.args.policy.now in
    let before = take c.loop-place.place c.args.names.now in
    let name : List ℕ = c.index-names-place.result in
    let taken : (read name || is_among before name) ≡ true =
    subst (λ (n : List ℕ). (read n || is_among before n) ≡ true) c.bytes.ensures (sym c.is_taken.ensures ∙ c.if-is_taken.true) in
    ap Some c.in_ok-copy.ensures.ok ∙ sym (c.loop-place.invariant ∙ first_taken-find read c.args.names.now c.loop-place.place name c.loop-place-test.true c.index-names-place.is taken)
