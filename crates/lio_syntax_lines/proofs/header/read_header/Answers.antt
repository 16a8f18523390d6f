use Rattle.std.proofs.Common.{◌≡◌, ℕ, List, [], ◌∷◌, sym, ◌∙◌, ap, Option, Some, None, Bor, MatchOption}
use Rattle.std.specs.Option.{option_map}
use Rattle.lio_syntax_lines.specs.Words.{words, without_return}
use Rattle.lio_syntax_lines.specs.Header.{Signature, signature}
use Rattle.lio_syntax_lines.proofs.HeaderLemmas.{none-blank, none-comment, none-other, header-proc}
use Rattle.lio_syntax_lines.proofs.header.read_header.Goals as goal

-- what is read of the words behind the first is what is read of the line
of_rest : (r : Option (Bor (List ℕ) × ℕ)) (o : Option (List ℕ × List (List ℕ))) (p : Option Signature) → p ≡ option_map signature o
    → MatchOption r (o ≡ None) (λ h. option_map signature o ≡ Some (record { name = h.0.now; count = h.1 }))
    → MatchOption r (p ≡ None) (λ h. p ≡ Some (record { name = h.0.now; count = h.1 }))
of_rest None o p e h = e ∙ ap (option_map signature) h
of_rest (Some x) o p e h = e ∙ h

pub returns-in_err-first : goal.returns-in_err-first
returns-in_err-first c = λ names. let e : words (without_return c.args.bytes.now) ≡ [] = ap words (sym c.without_return.ensures) ∙ sym c.of-words.ensures ∙ c.in_err-first.ensures in rw c.from_residual.ensures (none-blank names _ e)

pub returns-then-starts_with : goal.returns-then-starts_with
returns-then-starts_with c = λ names.
    let e : words (without_return c.args.bytes.now) ≡ c.in_ok-first.first.now ∷ c.next.new.self = ap words (sym c.without_return.ensures) ∙ sym c.of-words.ensures ∙ c.in_ok-first.ensures in
    none-comment names _ _ _ e (sym c.if-starts_with.ensures.value)

pub returns-then-not-is_proc : goal.returns-then-not-is_proc
returns-then-not-is_proc c = λ names.
    let e : words (without_return c.args.bytes.now) ≡ c.in_ok-first.first.now ∷ c.next.new.self = ap words (sym c.without_return.ensures) ∙ sym c.of-words.ensures ∙ c.in_ok-first.ensures in
    none-other names _ _ _ e (sym c.if-not-is_proc.ensures)

pub returns : goal.returns
returns c = λ names.
    let e : words (without_return c.args.bytes.now) ≡ c.in_ok-first.first.now ∷ c.next.new.self = ap words (sym c.without_return.ensures) ∙ sym c.of-words.ensures ∙ c.in_ok-first.ensures in
    of_rest c.first_line.result _ _ (header-proc names _ _ _ e (sym c.if-starts_with.ensures.value) (sym c.if-not-is_proc.ensures)) c.first_line.ensures
