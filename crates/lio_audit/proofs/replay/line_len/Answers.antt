use Rattle.std.proofs.Common.{◌≡◌, ◌∙◌, ap, sym, arith, ℕ, List, ◌++◌, length, drop, true, Some, None}
use Rattle.std.proofs.lemmas.Bool.Decides.{Decides-eqb}
use Rattle.std.proofs.lemmas.Slice.Eq.{strip_prefix_is}
use Rattle.lio_events.specs.JournalText.{entry_text}
use Rattle.lio_audit.proofs.replay.line_len.Goals as goal

pub returns-in-Some : goal.returns-in-Some
returns-in-Some c =
    let bytes : List ℕ = c.args.bytes.now in
    let line : List ℕ = entry_text c.args.names.now true c.args.entry.now in
    let p : List ℕ = c.as_slice.result.now in
    let is : p ≡ line = c.as_slice.ensures.value ∙ c.in_ok-line.ensures in
    let m = c.in-Some.ensures.cases in
    let stripped : bytes ≡ p ++ drop (length p) bytes = strip_prefix_is Decides-eqb bytes p (Some c.in-Some.field-0) m ∙ ap (λ (r : List ℕ). p ++ r) m.1 in
    let len : c.len.result ≡ length p = c.len.ensures ∙ sym c.as_slice.ensures.len in
    record {
      text = stripped ∙ ap (λ (q : List ℕ). q ++ drop (length p) bytes) is ∙ ap (λ (n : ℕ). line ++ drop n bytes) (sym len);
      len_is = len ∙ ap (λ (q : List ℕ). length q) is;
      within = omega (arith, len, m.2);
    }

pub returns : goal.returns
returns c = λ rest e.
    let p : List ℕ = c.as_slice.result.now in
    let is : p ≡ entry_text c.args.names.now true c.args.entry.now = c.as_slice.ensures.value ∙ c.in_ok-line.ensures in
    strip_prefix_is Decides-eqb c.args.bytes.now p None c.in-None.ensures.cases rest (e ∙ ap (λ (q : List ℕ). q ++ rest) (sym is))
