-- Births are found.
use Rattle.std.proofs.Common.{◌≡◌, ℕ, ◌^◌, ◌<◌, ◌≤◌, ◌==◌, true, false, zero, suc, List, [], ◌∷◌, ◌++◌, length, drop, refl, ap, sym, ◌∙◌, arith, append_assoc, codes, true≢false, not, ne_eqb, append-nil, ℤ, pos, negsuc}
use Rattle.std.specs.Prelude.{decimal}
use Rattle.std.specs.Fmt.{signed_decimal}
use Rattle.std.specs.List.{list_all}
use Rattle.std.proofs.lemmas.Bool.{and_parts}
use Rattle.std.proofs.lemmas.Bool.Decides.{nat_tests}
use Rattle.std.proofs.lemmas.Fmt.{digits_decimal, decimal_nonempty}
use Rattle.lio_labels.specs.declared.label.Label.{Label}
use Rattle.lio_values.specs.declared.value.Plain.TheVariants.{Unit as unit, Flag, Whole}
use Rattle.lio_values.specs.declared.value.Value.{Value}
use Rattle.lio_values.specs.declared.value.Value.TheVariants.{Bare, Sealed}
use Rattle.lio_values.specs.declared.act.Birth.{Birth}
use Rattle.lio_values.specs.ValueText.{labels_text, value_text}
use Rattle.lio_events.specs.EntryText.{args_text}
use Rattle.lio_events_reading.specs.Births.{birth_behind, begins_argument, is_no_colon}
use Rattle.lio_syntax_lines.specs.Literals.{is_digit, is_whole}
use Rattle.lio_syntax_lines.proofs.PrintedLemmas.{own}
use Rattle.lio_events_reading.specs.Fits.{ValueFits}
use Rattle.lio_events_reading.specs.Labels.{both_text, AreLabelsOver}
use Rattle.lio_events_reading.specs.Numbers.{blank_decimal}
use Rattle.lio_events_reading.specs.Over.{AreValuesOver, IsBirthOver, IsValueOver}
use Rattle.lio_events_reading.specs.Reading.{Ends, Finds, FindsBefore}
use Rattle.lio_events_reading.proofs.ActLemmas.{colon}

-- an argument is no colon
no_colon_digit : (byte : ℕ) → is_digit byte ≡ true → not (byte == 58) ≡ true
no_colon_digit byte e = let high : byte ≤ 57 = grind (arith, nat_tests) in rw (ne_eqb byte 58 (omega arith)) refl

no_colon_digits : (digits rest : List ℕ) → 0 < length digits → list_all is_digit digits ≡ true → is_no_colon (digits ++ rest) ≡ true
no_colon_digits [] rest some all = absurd (omega arith)
no_colon_digits (digit ∷ digits) rest some all = no_colon_digit digit (and_parts (is_digit digit) (list_all is_digit digits) all).0

no_colon_whole : (z : ℤ) (rest : List ℕ) → is_whole z ≡ true → is_no_colon (signed_decimal z ++ rest) ≡ true
no_colon_whole (pos n) rest e = let small : n < 2 ^ 64 = grind (arith, nat_tests) in no_colon_digits (decimal n) rest (decimal_nonempty n small) (digits_decimal own n small)
no_colon_whole (negsuc n) rest e = refl

pub no_colon : (names : List (List ℕ)) (value : Value) (rest : List ℕ) → ValueFits value → is_no_colon (value_text names value ++ rest) ≡ true
no_colon names (Sealed label content) rest fits = refl
no_colon names (Bare (Whole z)) rest fits = no_colon_whole z rest fits
no_colon names (Bare (Flag true)) rest fits = refl
no_colon names (Bare (Flag false)) rest fits = refl
no_colon names (Bare unit) rest fits = refl
no_colon names (Bare plain) rest fits = refl

-- the arguments that are left
pub record Left (names : List (List ℕ)) (found : List Value) (text : List ℕ) (all : List Value) (rest : List ℕ) : Type 0 where
  pub more : List Value
  pub are : all ≡ found ++ more
  pub over : AreValuesOver names more
  pub stands : text ≡ args_text names more ++ (colon ++ rest)

pub none_left : (names : List (List ℕ)) (found : List Value) (text : List ℕ) (all : List Value) (rest : List ℕ) → begins_argument text ≡ false → Left names found text all rest → (found ≡ all) × (text ≡ colon ++ rest)
none_left names found text all rest e left = by left.more left.are left.over left.stands
  where
    by : (more : List Value) → all ≡ found ++ more → AreValuesOver names more → text ≡ args_text names more ++ (colon ++ rest) → (found ≡ all) × (text ≡ colon ++ rest)
    by [] are over stands = (sym (are ∙ append-nil found), stands)
    by (value ∷ more) are over stands =
        let blank : List ℕ = codes " " in
        let here : text ≡ blank ++ (value_text names value ++ (args_text names more ++ (colon ++ rest))) =
        stands ∙ append_assoc (blank ++ value_text names value) (args_text names more) (colon ++ rest) in
        let yes : begins_argument text ≡ true = ap begins_argument here ∙ no_colon names value (args_text names more ++ (colon ++ rest)) (over 0 value (omega arith)).1 in
        absurd (true≢false (sym yes ∙ e))

pub args_end : (names : List (List ℕ)) (more : List Value) (rest : List ℕ) → Ends (args_text names more ++ (colon ++ rest))
args_end names [] rest = refl
args_end names (value ∷ more) rest = refl

pub one_less : (names : List (List ℕ)) (found : List Value) (text one : List ℕ) (value : Value) (next : List ℕ) (all : List Value) (rest : List ℕ) → begins_argument text ≡ true → one ≡ drop 1 text
    → Finds (value_text names) (IsValueOver names) one value next → Left names found text all rest → Left names (found ++ value ∷ []) next all rest
one_less names found text one value next all rest e d finds left = by left.more left.are left.over left.stands
  where
    by : (more : List Value) → all ≡ found ++ more → AreValuesOver names more → text ≡ args_text names more ++ (colon ++ rest) → Left names (found ++ value ∷ []) next all rest
    by [] are over stands = let no : begins_argument text ≡ false = ap begins_argument stands in absurd (true≢false (sym e ∙ no))
    by (v ∷ more) are over stands =
        let blank : List ℕ = codes " " in
        let here : text ≡ (blank ++ value_text names v) ++ (args_text names more ++ (colon ++ rest)) = stands ∙ append_assoc (blank ++ value_text names v) (args_text names more) (colon ++ rest) in
        let g = finds v (args_text names more ++ (colon ++ rest)) (over 0 v (omega arith)) (args_end names more rest) (d ∙ ap (λ bytes. drop 1 bytes) here) in
        record {
          more = more;
          are = are ∙ sym (append_assoc found (v ∷ []) more) ∙ ap (λ x. (found ++ x ∷ []) ++ more) (sym g.0);
          over = λ k def within. over (suc k) def (omega arith);
          stands = g.1;
        }

pub one_is_over : (names : List (List ℕ)) (value : Value) → IsValueOver names value → AreValuesOver names (value ∷ [])
one_is_over names value over zero d within = over
one_is_over names value over (suc k) d within = absurd (omega arith)

pub regroup : (s p l t f c a end : List ℕ) → (((((((((s ++ p) ++ l) ++ s) ++ t) ++ s) ++ f) ++ s) ++ c) ++ a) ++ end ≡ (s ++ p) ++ (l ++ ((s ++ t) ++ ((s ++ f) ++ ((s ++ c) ++ (a ++ end)))))
regroup s p l t f c a end = simp append_assoc

pub finds_birth : (names : List (List ℕ)) (old : List ℕ) (proc_at : ℕ) (one : List ℕ) (result clearance : Label) (two : List ℕ) (turns : ℕ) (three : List ℕ) (first : ℕ) (four : List ℕ) (cells : ℕ) (five : List ℕ)
    (args : List Value) (left : List ℕ) → Finds blank_decimal (λ n. n < 2 ^ 32) old proc_at one → Finds (both_text names) (AreLabelsOver names) one (result, clearance) two → Finds blank_decimal (λ n. n < 2 ^ 32) two turns three
    → Finds blank_decimal (λ n. n < 2 ^ 32) three first four → Finds blank_decimal (λ n. n < 2 ^ 32) four cells five → FindsBefore colon (args_text names) (AreValuesOver names) five args left
    → FindsBefore colon (birth_behind names) (IsBirthOver names) old (record { proc_at = proc_at; args = args; result = result; clearance = clearance; turns = turns; first = first; cells = cells }) left
finds_birth names old proc_at one result clearance two turns three first four cells five args left p l t f c a birth rest o is =
    let end : List ℕ = colon ++ rest in
    let over : AreValuesOver names birth.args = λ k def within. (o.0.2 k def within, o.1.args k def within, o.2 k def within) in
    let here : old ≡ blank_decimal birth.proc_at ++ (labels_text names birth.result birth.clearance ++ (blank_decimal birth.turns ++ (blank_decimal birth.first ++ (blank_decimal birth.cells ++ (args_text names birth.args ++ end))))) =
    is ∙ regroup (codes " ") (decimal birth.proc_at) (labels_text names birth.result birth.clearance) (decimal birth.turns) (decimal birth.first) (decimal birth.cells) (args_text names birth.args) end in
    let gp = p birth.proc_at _ o.1.proc_at refl here in
    let gl = l (birth.result, birth.clearance) _ ((o.0.0, o.1.result), (o.0.1, o.1.clearance)) refl gp.1 in
    let gt = t birth.turns _ o.1.turns refl gl.1 in
    let gf = f birth.first _ o.1.first refl gt.1 in
    let gc = c birth.cells (args_text names birth.args ++ end) o.1.cells (args_end names birth.args rest) gf.1 in
    let ga = a birth.args rest over gc.1 in
    let make : ℕ → Label × Label → ℕ → ℕ → ℕ → List Value → Birth = λ x y z u v w. record { proc_at = x; args = w; result = y.0; clearance = y.1; turns = z; first = u; cells = v } in (
      ap (λ x. make x (result, clearance) turns first cells args) gp.0 ∙ ap (λ y. make birth.proc_at y turns first cells args) gl.0 ∙ ap (λ z. make birth.proc_at (birth.result, birth.clearance) z first cells args) gt.0
          ∙ ap (λ u. make birth.proc_at (birth.result, birth.clearance) birth.turns u cells args) gf.0 ∙ ap (λ v. make birth.proc_at (birth.result, birth.clearance) birth.turns birth.first v args) gc.0
          ∙ ap (λ w. make birth.proc_at (birth.result, birth.clearance) birth.turns birth.first birth.cells w) ga.0,
      ga.1,
    )
