use Rattle.std.proofs.Common.{◌≡◌, ◌∙◌, ap, sym, Some, None, is_some, true≢false}
use Rattle.lio_clauses.specs.Names.{number_of}
use Rattle.lio_clauses.proofs.NameLemmas.{number_of-bytes_of, place_of-Some, None-absent, absent-None}
use Rattle.lio_clauses.proofs.names.Names.find.Goals as goal

pub returns-in_err-place-clause-number : goal.returns-in_err-place-clause-number
returns-in_err-place-clause-number c =
    c.from_residual.ensures ∙ c.in_err-place.ensures.index ∙ sym (number_of-bytes_of c.self.inside.set.keys c.args.name.now)
    ∙ ap (λ names. number_of names c.args.name.now) c.self.view_is

pub returns-in_err-place-clause-none : goal.returns-in_err-place-clause-none
returns-in_err-place-clause-none c =
    let none : number_of c.args.self.now c.args.name.now ≡ None = sym (returns-in_err-place-clause-number c) ∙ c.from_residual.ensures in
    (λ _. None-absent c.args.self.now c.args.name.now none, λ _. ap is_some c.from_residual.ensures)

pub returns-clause-number : goal.returns-clause-number
returns-clause-number c =
    c.in_ok-place.ensures.index ∙ sym (number_of-bytes_of c.self.inside.set.keys c.args.name.now)
    ∙ ap (λ names. number_of names c.args.name.now) c.self.view_is

pub returns-clause-found : goal.returns-clause-found
returns-clause-found c = place_of-Some c.args.self.now c.args.name.now c.in_ok-place.place (sym (returns-clause-number c))

pub returns-clause-none : goal.returns-clause-none
returns-clause-none c =
    (λ e. absurd (true≢false e), λ absent. absurd (let none : Some c.in_ok-place.place ≡ None = returns-clause-number c ∙ absent-None c.args.self.now c.args.name.now absent in cc))
