-- The text of an entry has one line end, its last byte.
use Rattle.std.proofs.Common.{◌≡◌, ℕ, zero, suc, ◌+◌, ◌/◌, ◌%◌, ◌==◌, Bool, true, false, not, ◌&&◌, All, List, [], ◌∷◌, ◌++◌, length, refl, ap, sym, ◌∙◌, arith, append_assoc, codes, ne_eqb, Option, Some, None, ℤ, pos, negsuc}
use Rattle.std.specs.Prelude.{decimal, nat_le, nat_lt, if◌then◌else◌}
use Rattle.std.specs.Fmt.{digit_glyph, digits, digits_onto, signed_decimal}
use Rattle.std.specs.List.{flat_map, list_all}
use Rattle.std.proofs.lemmas.Bool.{and_parts}
use Rattle.std.proofs.lemmas.List.Sums.{sum_by-append}
use Rattle.lio_clauses.specs.Names.{AreNames}
use Rattle.lio_clauses.specs.FormulaPrint.{formula_text}
use Rattle.lio_labels.specs.declared.label.Label.{Label}
use Rattle.lio_labels.specs.declared.privilege.Priv.{Priv}
use Rattle.lio_labels.specs.LabelPrint.{AreNamed, label_text}
use Rattle.lio_values.specs.declared.value.Handle.{Handle}
use Rattle.lio_values.specs.declared.value.Content.{Content}
use Rattle.lio_values.specs.declared.value.Value.{Value}
use Rattle.lio_values.specs.declared.act.Op.{Op}
use Rattle.lio_values.specs.declared.act.Op.TheVariants as op
use Rattle.lio_values.specs.declared.act.Act.{Act}
use Rattle.lio_values.specs.declared.act.Act.TheVariants.{Step, Seal, Raise, Lower, Release, Expose, NewRef, NewVar, Fork, Spawn, Read, Write, Take, Put, Wait, Send, Ended}
use Rattle.lio_values.specs.declared.act.Birth.{Birth}
use Rattle.lio_values.specs.declared.act.Reply.{Reply}
use Rattle.lio_values.specs.declared.act.Reply.TheVariants.{Done, Got, Told, Refused}
use Rattle.lio_values.specs.declared.entry.Entry.{Entry}
use Rattle.lio_values.specs.Forest.{Tree, Problem, Inner, Item, Forest, Unit as unit, Flag, Whole, Bytes, Lab, Power, RefOf, VarOf, ResultOf, ChanOf, Items, FlowCurrent, FlowClearance, FlowRaise, FlowPrivilege, BadType, Overflow, DivZero, TooLong, NoTurns, NoCells, ChildTurns, Depth, LabelWide, User, Kept, Faulted, Hidden, Bare, Sealed, Nothing, Then}
use Rattle.lio_values.specs.ForestText.{further_text, handle_text, inner_text, item_text, items_text, label_in_brackets, labels_text, numbers_text, power_text, problem_text, tree_text, AreItemsNamed, IsInnerNamed, IsItemNamed, IsPowerNamed, IsProblemNamed, IsTreeNamed}
use Rattle.lio_values.specs.Quoted.{escaped, hex_digit, quoted}
use Rattle.lio_values.specs.ValueText.{value_text}
use Rattle.lio_values.specs.Named.{IsContentNamed, IsValueNamed}
use Rattle.lio_events.specs.EntryText.{act_text, args_text, birth_text, line_text, op_text, option_text, release_text, reply_text, target_text}
use Rattle.lio_events.specs.JournalText.{entry_text, journal_text}
use Rattle.lio_events.specs.Printable.{IsActNamed, IsBirthNamed, IsOptionNamed, IsPrintable, IsReplyNamed}
use Rattle.lio_syntax_lines.proofs.SolidLemmas.{is_in_label}
use Rattle.lio_syntax_lines.proofs.LabelLemmas.{both, is_clean, is_inline, clean_label, list_all-append, list_all-weaker}
use Rattle.lio_events_reading.specs.Laws.{LinesAreEntries, TextIsOneLine}
use Rattle.lio_events_reading.specs.Lines.{IsOneLine, ends_no_line, line_ends}
use Rattle.lio_events_reading.proofs.LabelLemmas.{clean_formula}

-- no line end stands in a text
abbrev HasNoEnd : List ℕ → Type 0
HasNoEnd text = list_all ends_no_line text ≡ true

parts : (xs ys : List ℕ) → list_all ends_no_line (xs ++ ys) ≡ (list_all ends_no_line xs && list_all ends_no_line ys)
parts xs ys = list_all-append ends_no_line xs ys

-- in a number
either : (b : Bool) (xs ys : List ℕ) → HasNoEnd xs → HasNoEnd ys → HasNoEnd (if b then xs else ys)
either true xs ys e f = e
either false xs ys e f = f

glyph : (d : ℕ) → ends_no_line (digit_glyph false d) ≡ true
glyph d = by (nat_lt d 10)
  where
    by : (b : Bool) → ends_no_line (if b then 48 + d else (if false then 55 + d else 87 + d)) ≡ true
    by true = rw (ne_eqb (48 + d) 10 (omega arith)) refl
    by false = rw (ne_eqb (87 + d) 10 (omega arith)) refl

digits-onto : (k n : ℕ) (acc : List ℕ) → HasNoEnd acc → HasNoEnd (digits_onto k 10 false n acc)
digits-onto zero n acc e = e
digits-onto (suc k) n acc e =
    let more : HasNoEnd (digit_glyph false (n % 10) ∷ acc) = rw (glyph (n % 10), e) refl in
    either (n / 10 == 0) (digit_glyph false (n % 10) ∷ acc) (digits_onto k 10 false (n / 10) (digit_glyph false (n % 10) ∷ acc)) more (digits-onto k (n / 10) (digit_glyph false (n % 10) ∷ acc) more)

number : (n : ℕ) → HasNoEnd (decimal n)
unfolding digits
number n = digits-onto 64 n [] refl

signed : (z : ℤ) → HasNoEnd (signed_decimal z)
signed (pos n) = number n
signed (negsuc n) = number (suc n)

-- in a text in quotes
hex : (n : ℕ) → ends_no_line (hex_digit n) ≡ true
hex n = by (nat_lt n 10)
  where
    by : (b : Bool) → ends_no_line (if b then n + 48 else n + 87) ≡ true
    by true = rw (ne_eqb (n + 48) 10 (omega arith)) refl
    by false = rw (ne_eqb (n + 87) 10 (omega arith)) refl

byte-escaped : (byte : ℕ) → HasNoEnd (escaped byte)
unfolding escaped
byte-escaped byte = by (byte == 34) (byte == 92) (byte == 10) (nat_le 32 byte && nat_le byte 126) refl
  where
    by : (a b c d : Bool) → (byte == 10) ≡ c
        → HasNoEnd (if a then codes "\\\"" else (if b then codes "\\\\" else (if c then codes "\\n" else (if d then byte ∷ [] else codes "\\x" ++ hex_digit (byte / 16) ∷ hex_digit (byte % 16) ∷ []))))
    by true b c d e = refl
    by false true c d e = refl
    by false false true d e = refl
    by false false false true e = rw e refl
    by false false false false e = rw (hex (byte / 16), hex (byte % 16)) refl

all-escaped : (bytes : List ℕ) → HasNoEnd (flat_map escaped bytes)
all-escaped [] = refl
all-escaped (byte ∷ bytes) = simp (parts, byte-escaped byte, all-escaped bytes) refl

in-quotes : (bytes : List ℕ) → HasNoEnd (quoted bytes)
in-quotes bytes = simp (parts, all-escaped bytes) refl

-- in labels, privileges and handles
clean-no_end : (byte : ℕ) → is_clean byte ≡ true → ends_no_line byte ≡ true
clean-no_end byte e = (and_parts (ends_no_line byte) (not (byte == 13)) (and_parts (is_inline byte) (is_in_label byte) e).0).0

in-brackets : (sign text : List ℕ) → HasNoEnd sign → HasNoEnd text → HasNoEnd (sign ++ text ++ codes ">")
in-brackets sign text e f = simp (parts, e, f) refl

in-label : (names : List (List ℕ)) (label : Label) → AreNames names → AreNamed names label → HasNoEnd (label_in_brackets names label)
in-label names label known named =
    let inside : HasNoEnd (label_text names label) = list_all-weaker is_clean ends_no_line clean-no_end (label_text names label) (clean_label names label known named) in
    in-brackets (codes "<") (label_text names label) refl inside

in-labels : (names : List (List ℕ)) (one two : Label) → AreNames names → AreNamed names one → AreNamed names two → HasNoEnd (labels_text names one two)
in-labels names one two known first second = simp (parts, in-label names one known first, in-label names two known second) refl

in-numbers : (one two : ℕ) → HasNoEnd (numbers_text one two)
in-numbers one two = simp (parts, number one, number two) refl

in-power : (names : List (List ℕ)) (privilege : Priv) → AreNames names → IsPowerNamed names privilege → HasNoEnd (power_text names privilege)
in-power names privilege known named =
    let inside : HasNoEnd (formula_text names privilege.power) = list_all-weaker is_clean ends_no_line clean-no_end (formula_text names privilege.power) (clean_formula names privilege.power known named) in
    in-brackets (codes "power<") (formula_text names privilege.power) refl inside

in-handle : (names : List (List ℕ)) (kind : List ℕ) (handle : Handle) → AreNames names → HasNoEnd kind → AreNamed names handle.label → HasNoEnd (handle_text names kind handle)
in-handle names kind handle known e named = simp (parts, e, number handle.number, in-label names handle.label known named) refl

-- in values
mutual
  in-tree : (names : List (List ℕ)) (tree : Tree) → AreNames names → IsTreeNamed names tree → HasNoEnd (tree_text names tree)
  in-tree names unit known named = refl
  in-tree names (Flag true) known named = refl
  in-tree names (Flag false) known named = refl
  in-tree names (Whole z) known named = signed z
  in-tree names (Bytes text) known named = in-quotes text
  in-tree names (Lab label) known named = in-label names label known named
  in-tree names (Power privilege) known named = in-power names privilege known named
  in-tree names (RefOf handle) known named = in-handle names (codes "ref#") handle known refl named
  in-tree names (VarOf handle) known named = in-handle names (codes "var#") handle known refl named
  in-tree names (ResultOf handle) known named = in-handle names (codes "result#") handle known refl named
  in-tree names (ChanOf handle) known named = in-handle names (codes "chan#") handle known refl named
  in-tree names (Items items) known named = simp (parts, in-items names items known named) refl

  in-problem : (names : List (List ℕ)) (problem : Problem) → AreNames names → IsProblemNamed names problem → HasNoEnd (problem_text names problem)
  in-problem names (FlowCurrent one two) known named = in-labels names one two known named.0 named.1
  in-problem names (FlowClearance one two) known named = in-labels names one two known named.0 named.1
  in-problem names (FlowRaise one two) known named = in-labels names one two known named.0 named.1
  in-problem names (FlowPrivilege power one two) known named = simp (parts, in-power names power known named.0, in-labels names one two known named.1 named.2) refl
  in-problem names BadType known named = refl
  in-problem names Overflow known named = refl
  in-problem names DivZero known named = refl
  in-problem names TooLong known named = refl
  in-problem names NoTurns known named = refl
  in-problem names (NoCells one two) known named = in-numbers one two
  in-problem names (ChildTurns one two) known named = in-numbers one two
  in-problem names Depth known named = refl
  in-problem names (LabelWide one two) known named = in-labels names one two known named.0 named.1
  in-problem names (User tree) known named = simp (parts, in-tree names tree known named) refl

  in-inner : (names : List (List ℕ)) (inner : Inner) → AreNames names → IsInnerNamed names inner → HasNoEnd (inner_text names inner)
  in-inner names (Kept tree) known named = in-tree names tree known named
  in-inner names (Faulted problem at) known named = simp (parts, in-problem names problem known named.0, in-label names at known named.1) refl
  in-inner names Hidden known named = refl

  in-item : (names : List (List ℕ)) (item : Item) → AreNames names → IsItemNamed names item → HasNoEnd (item_text names item)
  in-item names (Bare tree) known named = in-tree names tree known named
  in-item names (Sealed label inner) known named = simp (parts, in-label names label known named.0, in-inner names inner known named.1) refl

  in-items : (names : List (List ℕ)) (items : Forest) → AreNames names → AreItemsNamed names items → HasNoEnd (items_text names items)
  in-items names Nothing known named = refl
  in-items names (Then item items) known named = simp (parts, in-item names item known named.0, in-further names items known named.1) refl

  in-further : (names : List (List ℕ)) (items : Forest) → AreNames names → AreItemsNamed names items → HasNoEnd (further_text names items)
  in-further names Nothing known named = refl
  in-further names (Then item items) known named = simp (parts, in-item names item known named.0, in-further names items known named.1) refl

in-option : (names : List (List ℕ)) (value : Option Value) → AreNames names → IsOptionNamed names value → HasNoEnd (option_text names value)
in-option names None known named = refl
in-option names (Some value) known named = in-item names _ known named

in-args : (names : List (List ℕ)) (args : List Value) → AreNames names → All (IsValueNamed names) args → HasNoEnd (args_text names args)
in-args names [] known named = refl
in-args names (value ∷ args) known named =
    let first : HasNoEnd (value_text names value) = in-item names _ known (named 0 value (omega arith)) in
    simp (parts, first, in-args names args known (λ k d within. named (suc k) d (omega arith))) refl

-- in acts and replies
in-birth : (names : List (List ℕ)) (word : List ℕ) (birth : Birth) → AreNames names → HasNoEnd word → IsBirthNamed names birth → HasNoEnd (birth_text names word birth)
in-birth names word birth known e named =
    simp (parts, e, number birth.proc_at, in-labels names birth.result birth.clearance known named.0 named.1, number birth.turns, number birth.first, number birth.cells, in-args names birth.args known named.2) refl

in-release : (names : List (List ℕ)) (word : List ℕ) (source target : Label) (power : Priv) (content : Content) → AreNames names → HasNoEnd word → AreNamed names source → AreNamed names target → IsPowerNamed names power
    → IsContentNamed names content → HasNoEnd (release_text names word source target power content)
in-release names word source target power content known e s t p c = simp (parts, e, in-labels names source target known s t, in-power names power known p, in-inner names _ known c) refl

in-op : (asked : Op) → HasNoEnd (op_text asked)
in-op op.Unlabel = refl
in-op other = refl

in-act : (names : List (List ℕ)) (act : Act) → AreNames names → IsActNamed names act → HasNoEnd (act_text names act)
in-act names Step known named = refl
in-act names (Seal label) known named = in-label names label known named
in-act names (Raise asked label) known named = simp (parts, in-op asked, in-label names label known named) refl
in-act names (Lower label) known named = in-label names label known named
in-act names (Release source target power content) known named = in-release names (codes "release") source target power content known refl named.0 named.1 named.2 named.3
in-act names (Expose source target power content) known named = in-release names (codes "expose") source target power content known refl named.0 named.1 named.2 named.3
in-act names (NewRef label value) known named = simp (parts, in-label names label known named.0, in-item names _ known named.1) refl
in-act names (NewVar label value) known named = simp (parts, in-label names label known named.0, in-option names value known named.1) refl
in-act names (Fork birth) known named = in-birth names (codes "fork") birth known refl named
in-act names (Spawn birth) known named = in-birth names (codes "spawn") birth known refl named
in-act names Read known named = refl
in-act names (Write value) known named = in-item names _ known named
in-act names Take known named = refl
in-act names (Put value) known named = in-item names _ known named
in-act names Wait known named = refl
in-act names (Send text) known named = in-quotes text
in-act names (Ended content) known named = in-inner names _ known named

in-reply : (names : List (List ℕ)) (reply : Reply) → AreNames names → IsReplyNamed names reply → HasNoEnd (reply_text names reply)
in-reply names Done known named = refl
in-reply names (Got value) known named = in-item names _ known named
in-reply names (Told content) known named = in-inner names _ known named
in-reply names (Refused fault) known named = simp (parts, in-problem names _ known named.0, in-label names fault.at known named.1) refl

in-target : (target : Option ℕ) → HasNoEnd (target_text target)
in-target None = refl
in-target (Some n) = number n

-- the body of a line, without its ticket
body : List (List ℕ) → Entry → List ℕ
body names entry =
    decimal entry.actor ++ codes " " ++ target_text entry.target ++ codes " " ++ label_in_brackets names entry.at ++ codes " " ++ act_text names entry.act ++ codes " : " ++ reply_text names entry.reply

in-body : (names : List (List ℕ)) (entry : Entry) → AreNames names → IsPrintable names entry → HasNoEnd (body names entry)
unfolding body
in-body names entry known printable =
    simp (parts, number entry.actor, in-target entry.target, in-label names entry.at known printable.at, in-act names entry.act known printable.act, in-reply names entry.reply known printable.reply) refl

pub text_is_one_line : TextIsOneLine
unfolding entry_text line_text body
text_is_one_line names true entry known printable = record {
  body = (decimal entry.ticket ++ codes " ") ++ body names entry;
  is = sym (append_assoc (decimal entry.ticket ++ codes " ") (body names entry) (codes "\n"));
  whole = both ends_no_line (decimal entry.ticket ++ codes " ") (body names entry) (both ends_no_line (decimal entry.ticket) (codes " ") (number entry.ticket) refl) (in-body names entry known printable);
}
text_is_one_line names false entry known printable = record { body = body names entry; is = refl; whole = in-body names entry known printable }

-- a text without a line end has none
no_ends : (text : List ℕ) → HasNoEnd text → line_ends text ≡ 0
no_ends [] e = refl
no_ends (byte ∷ text) e = by (byte == 10) refl (no_ends text)
  where
    by : (b : Bool) → (byte == 10) ≡ b → (HasNoEnd text → line_ends text ≡ 0) → line_ends (byte ∷ text) ≡ 0
    by true is others = let no : false ≡ true = sym (ap (λ (c : Bool). not c && list_all ends_no_line text) is) ∙ e in absurd (cc)
    by false is others = let more : HasNoEnd text = sym (ap (λ (c : Bool). not c && list_all ends_no_line text) is) ∙ e in rw (is, others more) refl

one_end : (text : List ℕ) → IsOneLine text → line_ends text ≡ 1
one_end text line =
    let sums : line_ends (line.body ++ codes "\n") ≡ line_ends line.body + line_ends (codes "\n") = sum_by-append _ line.body (codes "\n") in
    let none : line_ends line.body ≡ 0 = no_ends line.body line.whole in
    let whole : line_ends text ≡ line_ends line.body + 1 = ap line_ends line.is ∙ sums in
    omega arith

pub lines_are_entries : LinesAreEntries
lines_are_entries names ticket [] known printable = refl
lines_are_entries names ticket (entry ∷ entries) known printable =
    let text : List ℕ = entry_text names ticket entry in
    let sums : line_ends (text ++ journal_text names ticket entries) ≡ line_ends text + line_ends (journal_text names ticket entries) = sum_by-append _ text (journal_text names ticket entries) in
    let first : line_ends text ≡ 1 = one_end text (text_is_one_line names ticket entry known (printable 0 entry (omega arith))) in
    let others : line_ends (journal_text names ticket entries) ≡ length entries = lines_are_entries names ticket entries known (λ k d within. printable (suc k) d (omega arith)) in
    omega arith
