-- Statements that open no block: what is printed of one is read as it, and what it is made of are operands.
use Rattle.std.proofs.Common.{◌≡◌, ℕ, suc, true, false, All, List, [], ◌∷◌, ◌++◌, map, refl, ap, arith, append_assoc, Some, codes}
use Rattle.std.proofs.lemmas.List.{append-nil}
use Rattle.std.proofs.lemmas.List.Elements.{All-nil, All-cons}
use Rattle.std.specs.List.{list_all, flat_map, AllByRecursion}
use Rattle.std.specs.Option.{option_map}
use Rattle.lio_clauses.specs.Names.{AreNames}
use Rattle.lio_syntax_lines.specs.declared.keyword.Keyword.{Keyword}
use Rattle.lio_syntax_lines.specs.declared.keyword.Keyword.TheVariants as keyword
use Rattle.lio_syntax_lines.specs.declared.operators.One.{One}
use Rattle.lio_syntax_lines.specs.declared.operators.One.TheVariants as one_op
use Rattle.lio_syntax_lines.specs.declared.operators.Two.{Two}
use Rattle.lio_syntax_lines.specs.declared.operators.Two.TheVariants as two_op
use Rattle.lio_syntax_lines.specs.Keyword.{word_of, keyword_of}
use Rattle.lio_syntax_lines.specs.Operators.{one_word, two_word, one_of, two_of}
use Rattle.lio_syntax_lines.proofs.SolidLemmas.{solid_keyword, solid_one, solid_two, solid_plain}
use Rattle.lio_syntax_lines.proofs.LabelLemmas.{is_inline}
use Rattle.lio_syntax_lines.proofs.InlineLemmas.{Good, good_name, good_literal, literal_no_name, literal_back}
use Rattle.lio_syntax_lines.specs.declared.line.Operand.{Operand}
use Rattle.lio_syntax_lines.specs.declared.line.Operand.TheVariants.{Name, Literal}
use Rattle.lio_syntax_lines.specs.declared.line.Simple.{Simple}
use Rattle.lio_syntax_lines.specs.declared.line.Simple.TheVariants.{Let, LetOne, LetTwo, Call, Return, Stop, Throw, Label, Unlabel, UnlabelUsing, Taint, Lower, Relabel, NewRef, NewVar, FullVar, Read, Write, Take, Put, Fork, Spawn, Wait, Send}
use Rattle.lio_syntax_lines.specs.declared.line.Line.TheVariants.{Do}
use Rattle.lio_syntax_lines.specs.Simple.{simple_operands, simple}
use Rattle.lio_syntax_lines.specs.Line.{form}
use Rattle.lio_syntax_lines.specs.Forms.{operands, one, two, three, name_one, name_two, name_three, called, call, spawn, fork, unary, binary, expression, assignment, with_power, unlabelling, begins_comment}
use Rattle.lio_syntax_lines.specs.Words.{spaced}
use Rattle.lio_syntax_lines.specs.Operands.{operand_text, operand_spaced, operands_spaced}
use Rattle.lio_syntax_lines.specs.Simple.{simple_text}
use Rattle.lio_syntax_lines.specs.Operands.{operand_of, IsOperand}
use Rattle.lio_syntax_lines.specs.Simple.{IsSimple}

-- words of the language
pub keyword_back : (k : Keyword) → keyword_of (word_of k) ≡ Some k
unfolding keyword_of
keyword_back keyword.Proc = refl
keyword_back k = refl

pub keyword_inline : (k : Keyword) → list_all is_inline (word_of k) ≡ true
keyword_inline keyword.Proc = refl
keyword_inline k = refl

pub keyword_no_comment : (k : Keyword) → begins_comment (word_of k) ≡ false
keyword_no_comment keyword.Proc = refl
keyword_no_comment k = refl

one_back : (op : One) → one_of (one_word op) ≡ Some op
unfolding one_of
one_back one_op.Not = refl
one_back op = refl

one_inline : (op : One) → list_all is_inline (one_word op) ≡ true
one_inline one_op.Not = refl
one_inline op = refl

two_back : (op : Two) → two_of (two_word op) ≡ Some op
unfolding two_of
two_back two_op.Add = refl
two_back op = refl

two_inline : (op : Two) → list_all is_inline (two_word op) ≡ true
two_inline two_op.Add = refl
two_inline op = refl

pub good_keyword : (k : Keyword) → Good (word_of k)
good_keyword k = record { solid = solid_keyword k; inline = keyword_inline k }

good_one : (op : One) → Good (one_word op)
good_one op = record { solid = solid_one op; inline = one_inline op }

good_two : (op : Two) → Good (two_word op)
good_two op = record { solid = solid_two op; inline = two_inline op }

good_equals : Good (codes "=")
good_equals = record { solid = solid_plain _ refl; inline = refl }

good_using : Good (codes "using")
good_using = record { solid = solid_plain _ refl; inline = refl }

-- operands
pub good_operand : (names : List (List ℕ)) (a : Operand) → AreNames names → IsOperand names a → Good (operand_text names a)
good_operand names (Name name) known h = good_name name h
good_operand names (Literal plain) known h = good_literal names plain known h

pub operand_back : (names : List (List ℕ)) (a : Operand) → AreNames names → IsOperand names a → operand_of names (operand_text names a) ≡ Some a
unfolding operand_of
operand_back names (Name name) known h = rw h refl
operand_back names (Literal plain) known h = rw (literal_no_name names plain h, literal_back names plain known h) refl

abbrev texts : List (List ℕ) → List Operand → List (List ℕ)
texts names arguments = map (operand_text names) arguments

operands_back : (names : List (List ℕ)) (arguments : List Operand) → AreNames names → All (IsOperand names) arguments → operands names (texts names arguments) ≡ Some arguments
unfolding operands
operands_back names [] known h = refl
operands_back names (a ∷ arguments) known h =
    rw (operand_back names a known (h 0 a (omega arith)), operands_back names arguments known (λ k d l. h (suc k) d (omega arith))) refl

good_operands : (names : List (List ℕ)) (arguments : List Operand) → AreNames names → All (IsOperand names) arguments → AllByRecursion Good (texts names arguments)
good_operands names [] known h = tt
good_operands names (a ∷ arguments) known h = (good_operand names a known (h 0 a (omega arith)), good_operands names arguments known (λ k d l. h (suc k) d (omega arith)))

operands_texts : (names : List (List ℕ)) (arguments : List Operand) → operands_spaced names arguments ≡ flat_map spaced (texts names arguments)
unfolding operands_spaced
operands_texts names [] = refl
operands_texts names (a ∷ arguments) = ap (λ rest. operand_spaced names a ++ rest) (operands_texts names arguments)

-- the words of a line: its first word and the others
abbrev pub simple_first : Simple → Keyword
simple_first (Let x a) = keyword.Let
simple_first (LetOne x op a) = keyword.Let
simple_first (LetTwo x a op b) = keyword.Let
simple_first (Call x p arguments) = keyword.Call
simple_first (Return a) = keyword.Return
simple_first Stop = keyword.Stop
simple_first (Throw a) = keyword.Throw
simple_first (Label x l a) = keyword.Label
simple_first (Unlabel x a) = keyword.Unlabel
simple_first (UnlabelUsing x a p) = keyword.Unlabel
simple_first (Taint l) = keyword.Taint
simple_first (Lower l) = keyword.Lower
simple_first (Relabel x a l p) = keyword.Relabel
simple_first (NewRef x l a) = keyword.NewRef
simple_first (NewVar x l) = keyword.NewVar
simple_first (FullVar x l a) = keyword.FullVar
simple_first (Read x r) = keyword.Read
simple_first (Write r a) = keyword.Write
simple_first (Take x v) = keyword.Take
simple_first (Put v a) = keyword.Put
simple_first (Fork x l t c p arguments) = keyword.Fork
simple_first (Spawn t c p arguments) = keyword.Spawn
simple_first (Wait x r) = keyword.Wait
simple_first (Send c a) = keyword.Send

abbrev pub simple_rest : List (List ℕ) → Simple → List (List ℕ)
simple_rest names (Let x a) = x ∷ codes "=" ∷ operand_text names a ∷ []
simple_rest names (LetOne x op a) = x ∷ codes "=" ∷ one_word op ∷ operand_text names a ∷ []
simple_rest names (LetTwo x a op b) = x ∷ codes "=" ∷ operand_text names a ∷ two_word op ∷ operand_text names b ∷ []
simple_rest names (Call x p arguments) = x ∷ p ∷ texts names arguments
simple_rest names (Return a) = operand_text names a ∷ []
simple_rest names Stop = []
simple_rest names (Throw a) = operand_text names a ∷ []
simple_rest names (Label x l a) = x ∷ operand_text names l ∷ operand_text names a ∷ []
simple_rest names (Unlabel x a) = x ∷ operand_text names a ∷ []
simple_rest names (UnlabelUsing x a p) = x ∷ operand_text names a ∷ codes "using" ∷ operand_text names p ∷ []
simple_rest names (Taint l) = operand_text names l ∷ []
simple_rest names (Lower l) = operand_text names l ∷ []
simple_rest names (Relabel x a l p) = x ∷ operand_text names a ∷ operand_text names l ∷ operand_text names p ∷ []
simple_rest names (NewRef x l a) = x ∷ operand_text names l ∷ operand_text names a ∷ []
simple_rest names (NewVar x l) = x ∷ operand_text names l ∷ []
simple_rest names (FullVar x l a) = x ∷ operand_text names l ∷ operand_text names a ∷ []
simple_rest names (Read x r) = x ∷ operand_text names r ∷ []
simple_rest names (Write r a) = operand_text names r ∷ operand_text names a ∷ []
simple_rest names (Take x v) = x ∷ operand_text names v ∷ []
simple_rest names (Put v a) = operand_text names v ∷ operand_text names a ∷ []
simple_rest names (Fork x l t c p arguments) = x ∷ operand_text names l ∷ operand_text names t ∷ operand_text names c ∷ p ∷ texts names arguments
simple_rest names (Spawn t c p arguments) = operand_text names t ∷ operand_text names c ∷ p ∷ texts names arguments
simple_rest names (Wait x r) = x ∷ operand_text names r ∷ []
simple_rest names (Send c a) = operand_text names c ∷ operand_text names a ∷ []

-- they are good words
pub good_simple : (names : List (List ℕ)) (statement : Simple) → AreNames names → IsSimple names statement → AllByRecursion Good (simple_rest names statement)
good_simple names (Let x a) known h = (good_name x h.0, (good_equals, (good_operand names a known h.1, tt)))
good_simple names (LetOne x op a) known h = (good_name x h.0, (good_equals, (good_one op, (good_operand names a known h.1, tt))))
good_simple names (LetTwo x a op b) known h = (good_name x h.0, (good_equals, (good_operand names a known h.1, (good_two op, (good_operand names b known h.2, tt)))))
good_simple names (Call x p arguments) known h = (good_name x h.0, (good_name p h.1, good_operands names arguments known h.2))
good_simple names (Return a) known h = (good_operand names a known h, tt)
good_simple names Stop known h = tt
good_simple names (Throw a) known h = (good_operand names a known h, tt)
good_simple names (Label x l a) known h = (good_name x h.0, (good_operand names l known h.1, (good_operand names a known h.2, tt)))
good_simple names (Unlabel x a) known h = (good_name x h.0, (good_operand names a known h.1, tt))
good_simple names (UnlabelUsing x a p) known h = (good_name x h.0, (good_operand names a known h.1, (good_using, (good_operand names p known h.2, tt))))
good_simple names (Taint l) known h = (good_operand names l known h, tt)
good_simple names (Lower l) known h = (good_operand names l known h, tt)
good_simple names (Relabel x a l p) known h = (good_name x h.0, (good_operand names a known h.1, (good_operand names l known h.2, (good_operand names p known h.3, tt))))
good_simple names (NewRef x l a) known h = (good_name x h.0, (good_operand names l known h.1, (good_operand names a known h.2, tt)))
good_simple names (NewVar x l) known h = (good_name x h.0, (good_operand names l known h.1, tt))
good_simple names (FullVar x l a) known h = (good_name x h.0, (good_operand names l known h.1, (good_operand names a known h.2, tt)))
good_simple names (Read x r) known h = (good_name x h.0, (good_operand names r known h.1, tt))
good_simple names (Write r a) known h = (good_operand names r known h.0, (good_operand names a known h.1, tt))
good_simple names (Take x v) known h = (good_name x h.0, (good_operand names v known h.1, tt))
good_simple names (Put v a) known h = (good_operand names v known h.0, (good_operand names a known h.1, tt))
good_simple names (Fork x l t c p arguments) known h =
    (good_name x h.0, (good_operand names l known h.1, (good_operand names t known h.2, (good_operand names c known h.3, (good_name p h.4, good_operands names arguments known h.5)))))
good_simple names (Spawn t c p arguments) known h = (good_operand names t known h.0, (good_operand names c known h.1, (good_name p h.2, good_operands names arguments known h.3)))
good_simple names (Wait x r) known h = (good_name x h.0, (good_operand names r known h.1, tt))
good_simple names (Send c a) known h = (good_operand names c known h.0, (good_operand names a known h.1, tt))

-- the text of a line is its words, with one blank between two
abbrev pub Spelled : List ℕ → Keyword → List (List ℕ) → Type 0
Spelled text k rest = text ≡ word_of k ++ flat_map spaced rest

pub spell_one : (k a : List ℕ) → k ++ a ≡ k ++ (a ++ [])
spell_one k a = simp append-nil

pub spell_two : (k a b : List ℕ) → (k ++ a) ++ b ≡ k ++ (a ++ (b ++ []))
spell_two k a b = simp (append_assoc, append-nil)

spell_three : (k a b c : List ℕ) → ((k ++ a) ++ b) ++ c ≡ k ++ (a ++ (b ++ (c ++ [])))
spell_three k a b c = simp (append_assoc, append-nil)

spell_four : (k a b c d : List ℕ) → (((k ++ a) ++ b) ++ c) ++ d ≡ k ++ (a ++ (b ++ (c ++ (d ++ []))))
spell_four k a b c d = simp (append_assoc, append-nil)

spell_five : (k a b c d e : List ℕ) → ((((k ++ a) ++ b) ++ c) ++ d) ++ e ≡ k ++ (a ++ (b ++ (c ++ (d ++ (e ++ [])))))
spell_five k a b c d e = simp (append_assoc, append-nil)

spell_call : (k x p r : List ℕ) → ((k ++ x) ++ p) ++ r ≡ k ++ (x ++ (p ++ r))
spell_call k x p r = simp append_assoc

spell_spawn : (k t c p r : List ℕ) → (((k ++ t) ++ c) ++ p) ++ r ≡ k ++ (t ++ (c ++ (p ++ r)))
spell_spawn k t c p r = simp append_assoc

spell_fork : (k x l t c p r : List ℕ) → (((((k ++ x) ++ l) ++ t) ++ c) ++ p) ++ r ≡ k ++ (x ++ (l ++ (t ++ (c ++ (p ++ r)))))
spell_fork k x l t c p r = simp append_assoc

pub simple_spelled : (names : List (List ℕ)) (statement : Simple) → Spelled (simple_text names statement) (simple_first statement) (simple_rest names statement)
simple_spelled names (Let x a) = spell_three (word_of keyword.Let) (spaced x) (spaced (codes "=")) (operand_spaced names a)
simple_spelled names (LetOne x op a) = spell_four (word_of keyword.Let) (spaced x) (spaced (codes "=")) (spaced (one_word op)) (operand_spaced names a)
simple_spelled names (LetTwo x a op b) = spell_five (word_of keyword.Let) (spaced x) (spaced (codes "=")) (operand_spaced names a) (spaced (two_word op)) (operand_spaced names b)
simple_spelled names (Call x p arguments) = rw (operands_texts names arguments) (spell_call (word_of keyword.Call) (spaced x) (spaced p) (flat_map spaced (texts names arguments)))
simple_spelled names (Return a) = spell_one (word_of keyword.Return) (operand_spaced names a)
simple_spelled names Stop = refl
simple_spelled names (Throw a) = spell_one (word_of keyword.Throw) (operand_spaced names a)
simple_spelled names (Label x l a) = spell_three (word_of keyword.Label) (spaced x) (operand_spaced names l) (operand_spaced names a)
simple_spelled names (Unlabel x a) = spell_two (word_of keyword.Unlabel) (spaced x) (operand_spaced names a)
simple_spelled names (UnlabelUsing x a p) = spell_four (word_of keyword.Unlabel) (spaced x) (operand_spaced names a) (spaced (codes "using")) (operand_spaced names p)
simple_spelled names (Taint l) = spell_one (word_of keyword.Taint) (operand_spaced names l)
simple_spelled names (Lower l) = spell_one (word_of keyword.Lower) (operand_spaced names l)
simple_spelled names (Relabel x a l p) = spell_four (word_of keyword.Relabel) (spaced x) (operand_spaced names a) (operand_spaced names l) (operand_spaced names p)
simple_spelled names (NewRef x l a) = spell_three (word_of keyword.NewRef) (spaced x) (operand_spaced names l) (operand_spaced names a)
simple_spelled names (NewVar x l) = spell_two (word_of keyword.NewVar) (spaced x) (operand_spaced names l)
simple_spelled names (FullVar x l a) = spell_three (word_of keyword.FullVar) (spaced x) (operand_spaced names l) (operand_spaced names a)
simple_spelled names (Read x r) = spell_two (word_of keyword.Read) (spaced x) (operand_spaced names r)
simple_spelled names (Write r a) = spell_two (word_of keyword.Write) (operand_spaced names r) (operand_spaced names a)
simple_spelled names (Take x v) = spell_two (word_of keyword.Take) (spaced x) (operand_spaced names v)
simple_spelled names (Put v a) = spell_two (word_of keyword.Put) (operand_spaced names v) (operand_spaced names a)
simple_spelled names (Fork x l t c p arguments) =
    rw (operands_texts names arguments) (spell_fork (word_of keyword.Fork) (spaced x) (operand_spaced names l) (operand_spaced names t) (operand_spaced names c) (spaced p) (flat_map spaced (texts names arguments)))
simple_spelled names (Spawn t c p arguments) =
    rw (operands_texts names arguments) (spell_spawn (word_of keyword.Spawn) (operand_spaced names t) (operand_spaced names c) (spaced p) (flat_map spaced (texts names arguments)))
simple_spelled names (Wait x r) = spell_two (word_of keyword.Wait) (spaced x) (operand_spaced names r)
simple_spelled names (Send c a) = spell_two (word_of keyword.Send) (operand_spaced names c) (operand_spaced names a)

-- the words of a line are of its form
pub simple_back : (names : List (List ℕ)) (statement : Simple) → AreNames names → IsSimple names statement → simple names (simple_first statement) (simple_rest names statement) ≡ Some statement
unfolding simple assignment expression unary binary one two three name_one name_two name_three called call spawn fork with_power unlabelling
simple_back names (Let x a) known h = rw (h.0, operand_back names a known h.1) refl
simple_back names (LetOne x op a) known h = rw (h.0, one_back op, operand_back names a known h.1) refl
simple_back names (LetTwo x a op b) known h = rw (h.0, operand_back names a known h.1, two_back op, operand_back names b known h.2) refl
simple_back names (Call x p arguments) known h = rw (h.0, h.1, operands_back names arguments known h.2) refl
simple_back names (Return a) known h = rw (operand_back names a known h) refl
simple_back names Stop known h = refl
simple_back names (Throw a) known h = rw (operand_back names a known h) refl
simple_back names (Label x l a) known h = rw (h.0, operand_back names l known h.1, operand_back names a known h.2) refl
simple_back names (Unlabel x a) known h = rw (h.0, operand_back names a known h.1) refl
simple_back names (UnlabelUsing x a p) known h = rw (h.0, operand_back names a known h.1, operand_back names p known h.2) refl
simple_back names (Taint l) known h = rw (operand_back names l known h) refl
simple_back names (Lower l) known h = rw (operand_back names l known h) refl
simple_back names (Relabel x a l p) known h = rw (h.0, operand_back names a known h.1, operand_back names l known h.2, operand_back names p known h.3) refl
simple_back names (NewRef x l a) known h = rw (h.0, operand_back names l known h.1, operand_back names a known h.2) refl
simple_back names (NewVar x l) known h = rw (h.0, operand_back names l known h.1) refl
simple_back names (FullVar x l a) known h = rw (h.0, operand_back names l known h.1, operand_back names a known h.2) refl
simple_back names (Read x r) known h = rw (h.0, operand_back names r known h.1) refl
simple_back names (Write r a) known h = rw (operand_back names r known h.0, operand_back names a known h.1) refl
simple_back names (Take x v) known h = rw (h.0, operand_back names v known h.1) refl
simple_back names (Put v a) known h = rw (operand_back names v known h.0, operand_back names a known h.1) refl
simple_back names (Fork x l t c p arguments) known h =
    rw (h.0, operand_back names l known h.1, operand_back names t known h.2, operand_back names c known h.3, h.4, operands_back names arguments known h.5) refl
simple_back names (Spawn t c p arguments) known h = rw (operand_back names t known h.0, operand_back names c known h.1, h.2, operands_back names arguments known h.3) refl
simple_back names (Wait x r) known h = rw (h.0, operand_back names r known h.1) refl
simple_back names (Send c a) known h = rw (operand_back names c known h.0, operand_back names a known h.1) refl

pub form-simple : (names : List (List ℕ)) (statement : Simple) (ws : List (List ℕ)) → form names (simple_first statement) ws ≡ option_map Do (simple names (simple_first statement) ws)
unfolding form
form-simple names (Let x a) ws = refl
form-simple names statement ws = refl

-- the operands of a statement that is made of names and operands
made_two : (names : List (List ℕ)) (a b : Operand) → IsOperand names a → IsOperand names b → All (IsOperand names) (a ∷ b ∷ [])
made_two names a b first second = All-cons (IsOperand names) a (b ∷ []) first (All-cons (IsOperand names) b [] second (All-nil (IsOperand names)))

made_one : (names : List (List ℕ)) (a : Operand) → IsOperand names a → All (IsOperand names) (a ∷ [])
made_one names a is = All-cons (IsOperand names) a [] is (All-nil (IsOperand names))

pub operands_made : (names : List (List ℕ)) (statement : Simple) → IsSimple names statement → All (IsOperand names) (simple_operands statement)
operands_made names (Let x a) h = made_one names a h.1
operands_made names (LetOne x op a) h = made_one names a h.1
operands_made names (LetTwo x a op b) h = made_two names a b h.1 h.2
operands_made names (Call x p arguments) h = h.2
operands_made names (Return a) h = made_one names a h
operands_made names Stop h = All-nil (IsOperand names)
operands_made names (Throw a) h = made_one names a h
operands_made names (Label x l a) h = made_two names l a h.1 h.2
operands_made names (Unlabel x a) h = made_one names a h.1
operands_made names (UnlabelUsing x a p) h = made_two names a p h.1 h.2
operands_made names (Taint l) h = made_one names l h
operands_made names (Lower l) h = made_one names l h
operands_made names (Relabel x a l p) h = All-cons (IsOperand names) a (l ∷ p ∷ []) h.1 (made_two names l p h.2 h.3)
operands_made names (NewRef x l a) h = made_two names l a h.1 h.2
operands_made names (NewVar x l) h = made_one names l h.1
operands_made names (FullVar x l a) h = made_two names l a h.1 h.2
operands_made names (Read x r) h = made_one names r h.1
operands_made names (Write r a) h = made_two names r a h.0 h.1
operands_made names (Take x v) h = made_one names v h.1
operands_made names (Put v a) h = made_two names v a h.0 h.1
operands_made names (Fork x l t c p arguments) h =
    All-cons (IsOperand names) l (t ∷ c ∷ arguments) h.1
    (All-cons (IsOperand names) t (c ∷ arguments) h.2 (All-cons (IsOperand names) c arguments h.3 h.5))
operands_made names (Spawn t c p arguments) h =
    All-cons (IsOperand names) t (c ∷ arguments) h.0 (All-cons (IsOperand names) c arguments h.1 h.3)
operands_made names (Wait x r) h = made_one names r h.1
operands_made names (Send c a) h = made_two names c a h.0 h.1
