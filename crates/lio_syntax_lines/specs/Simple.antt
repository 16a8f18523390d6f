-- Statements that open no block: the line of each, one equation a statement in each of four tables: its form, its text, what it is made of, its operands.
use Rattle.std.specs.Prelude.{ℕ, List, [], ◌∷◌, ◌++◌, codes, Option, None, All}
use Rattle.std.specs.Option.{option_map}
use Rattle.lio_syntax_lines.specs.declared.keyword.Keyword.{Keyword}
use Rattle.lio_syntax_lines.specs.declared.keyword.Keyword.TheVariants as keyword
use Rattle.lio_syntax_lines.specs.declared.line.Operand.{Operand}
use Rattle.lio_syntax_lines.specs.declared.line.Simple.{Simple}
use Rattle.lio_syntax_lines.specs.declared.line.Simple.TheVariants.{Let, LetOne, LetTwo, Call, Return, Stop, Throw, Label, Unlabel, UnlabelUsing, Taint, Lower, Relabel, NewRef, NewVar, FullVar, Read, Write, Take, Put, Fork, Spawn, Wait, Send}
use Rattle.lio_syntax_lines.specs.Keyword.{word_of}
use Rattle.lio_syntax_lines.specs.Operators.{one_word, two_word}
use Rattle.lio_syntax_lines.specs.Words.{spaced}
use Rattle.lio_syntax_lines.specs.Literals.{IsName}
use Rattle.lio_syntax_lines.specs.Operands.{IsOperand, operand_spaced, operands_spaced}
use Rattle.lio_syntax_lines.specs.Forms.{ended, one, two, name_one, name_two, name_three, call, spawn, fork, assignment, unlabelling}

-- the statement that begins with the word, if there is such a form
unfoldable pub simple : List (List ℕ) → Keyword → List (List ℕ) → Option Simple
simple names keyword.Let ws = assignment names ws
simple names keyword.Call ws = option_map (λ p. Call p.0 p.1 p.2) (call names ws)
simple names keyword.Return ws = option_map Return (one names ws)
simple names keyword.Stop ws = ended Stop ws
simple names keyword.Throw ws = option_map Throw (one names ws)
simple names keyword.Label ws = option_map (λ p. Label p.0 p.1 p.2) (name_two names ws)
simple names keyword.Unlabel ws = unlabelling names ws
simple names keyword.Taint ws = option_map Taint (one names ws)
simple names keyword.Lower ws = option_map Lower (one names ws)
simple names keyword.Relabel ws = option_map (λ p. Relabel p.0 p.1 p.2 p.3) (name_three names ws)
simple names keyword.NewRef ws = option_map (λ p. NewRef p.0 p.1 p.2) (name_two names ws)
simple names keyword.NewVar ws = option_map (λ p. NewVar p.0 p.1) (name_one names ws)
simple names keyword.FullVar ws = option_map (λ p. FullVar p.0 p.1 p.2) (name_two names ws)
simple names keyword.Read ws = option_map (λ p. Read p.0 p.1) (name_one names ws)
simple names keyword.Write ws = option_map (λ p. Write p.0 p.1) (two names ws)
simple names keyword.Take ws = option_map (λ p. Take p.0 p.1) (name_one names ws)
simple names keyword.Put ws = option_map (λ p. Put p.0 p.1) (two names ws)
simple names keyword.Fork ws = option_map (λ p. Fork p.0 p.1 p.2 p.3 p.4 p.5) (fork names ws)
simple names keyword.Spawn ws = option_map (λ p. Spawn p.0 p.1 p.2 p.3) (spawn names ws)
simple names keyword.Wait ws = option_map (λ p. Wait p.0 p.1) (name_one names ws)
simple names keyword.Send ws = option_map (λ p. Send p.0 p.1) (two names ws)
simple names keyword.Proc ws = None
simple names keyword.If ws = None
simple names keyword.Else ws = None
simple names keyword.While ws = None
simple names keyword.Try ws = None
simple names keyword.Catch ws = None
simple names keyword.End ws = None

-- the text of a statement: its words, with one blank between two
abbrev pub simple_text : List (List ℕ) → Simple → List ℕ
simple_text names (Let x a) = word_of keyword.Let ++ spaced x ++ spaced (codes "=") ++ operand_spaced names a
simple_text names (LetOne x op a) = word_of keyword.Let ++ spaced x ++ spaced (codes "=") ++ spaced (one_word op) ++ operand_spaced names a
simple_text names (LetTwo x a op b) = word_of keyword.Let ++ spaced x ++ spaced (codes "=") ++ operand_spaced names a ++ spaced (two_word op) ++ operand_spaced names b
simple_text names (Call x p arguments) = word_of keyword.Call ++ spaced x ++ spaced p ++ operands_spaced names arguments
simple_text names (Return a) = word_of keyword.Return ++ operand_spaced names a
simple_text names Stop = word_of keyword.Stop
simple_text names (Throw a) = word_of keyword.Throw ++ operand_spaced names a
simple_text names (Label x l a) = word_of keyword.Label ++ spaced x ++ operand_spaced names l ++ operand_spaced names a
simple_text names (Unlabel x a) = word_of keyword.Unlabel ++ spaced x ++ operand_spaced names a
simple_text names (UnlabelUsing x a p) = word_of keyword.Unlabel ++ spaced x ++ operand_spaced names a ++ spaced (codes "using") ++ operand_spaced names p
simple_text names (Taint l) = word_of keyword.Taint ++ operand_spaced names l
simple_text names (Lower l) = word_of keyword.Lower ++ operand_spaced names l
simple_text names (Relabel x a l p) = word_of keyword.Relabel ++ spaced x ++ operand_spaced names a ++ operand_spaced names l ++ operand_spaced names p
simple_text names (NewRef x l a) = word_of keyword.NewRef ++ spaced x ++ operand_spaced names l ++ operand_spaced names a
simple_text names (NewVar x l) = word_of keyword.NewVar ++ spaced x ++ operand_spaced names l
simple_text names (FullVar x l a) = word_of keyword.FullVar ++ spaced x ++ operand_spaced names l ++ operand_spaced names a
simple_text names (Read x r) = word_of keyword.Read ++ spaced x ++ operand_spaced names r
simple_text names (Write r a) = word_of keyword.Write ++ operand_spaced names r ++ operand_spaced names a
simple_text names (Take x v) = word_of keyword.Take ++ spaced x ++ operand_spaced names v
simple_text names (Put v a) = word_of keyword.Put ++ operand_spaced names v ++ operand_spaced names a
simple_text names (Fork x l t c p arguments) = word_of keyword.Fork ++ spaced x ++ operand_spaced names l ++ operand_spaced names t ++ operand_spaced names c ++ spaced p ++ operands_spaced names arguments
simple_text names (Spawn t c p arguments) = word_of keyword.Spawn ++ operand_spaced names t ++ operand_spaced names c ++ spaced p ++ operands_spaced names arguments
simple_text names (Wait x r) = word_of keyword.Wait ++ spaced x ++ operand_spaced names r
simple_text names (Send c a) = word_of keyword.Send ++ operand_spaced names c ++ operand_spaced names a

-- what a statement is made of, over the names of principals: names and operands
abbrev pub IsSimple : List (List ℕ) → Simple → Type 0
IsSimple names (Let x a) = IsName x × IsOperand names a
IsSimple names (LetOne x op a) = IsName x × IsOperand names a
IsSimple names (LetTwo x a op b) = IsName x × IsOperand names a × IsOperand names b
IsSimple names (Call x p arguments) = IsName x × IsName p × All (IsOperand names) arguments
IsSimple names (Return a) = IsOperand names a
IsSimple names Stop = Unit {0}
IsSimple names (Throw a) = IsOperand names a
IsSimple names (Label x l a) = IsName x × IsOperand names l × IsOperand names a
IsSimple names (Unlabel x a) = IsName x × IsOperand names a
IsSimple names (UnlabelUsing x a p) = IsName x × IsOperand names a × IsOperand names p
IsSimple names (Taint l) = IsOperand names l
IsSimple names (Lower l) = IsOperand names l
IsSimple names (Relabel x a l p) = IsName x × IsOperand names a × IsOperand names l × IsOperand names p
IsSimple names (NewRef x l a) = IsName x × IsOperand names l × IsOperand names a
IsSimple names (NewVar x l) = IsName x × IsOperand names l
IsSimple names (FullVar x l a) = IsName x × IsOperand names l × IsOperand names a
IsSimple names (Read x r) = IsName x × IsOperand names r
IsSimple names (Write r a) = IsOperand names r × IsOperand names a
IsSimple names (Take x v) = IsName x × IsOperand names v
IsSimple names (Put v a) = IsOperand names v × IsOperand names a
IsSimple names (Fork x l t c p arguments) = IsName x × IsOperand names l × IsOperand names t × IsOperand names c × IsName p × All (IsOperand names) arguments
IsSimple names (Spawn t c p arguments) = IsOperand names t × IsOperand names c × IsName p × All (IsOperand names) arguments
IsSimple names (Wait x r) = IsName x × IsOperand names r
IsSimple names (Send c a) = IsOperand names c × IsOperand names a

-- the operands of a statement, in the order of its form
abbrev pub simple_operands : Simple → List Operand
simple_operands (Let x a) = a ∷ []
simple_operands (LetOne x op a) = a ∷ []
simple_operands (LetTwo x a op b) = a ∷ b ∷ []
simple_operands (Call x p arguments) = arguments
simple_operands (Return a) = a ∷ []
simple_operands Stop = []
simple_operands (Throw a) = a ∷ []
simple_operands (Label x l a) = l ∷ a ∷ []
simple_operands (Unlabel x a) = a ∷ []
simple_operands (UnlabelUsing x a p) = a ∷ p ∷ []
simple_operands (Taint l) = l ∷ []
simple_operands (Lower l) = l ∷ []
simple_operands (Relabel x a l p) = a ∷ l ∷ p ∷ []
simple_operands (NewRef x l a) = l ∷ a ∷ []
simple_operands (NewVar x l) = l ∷ []
simple_operands (FullVar x l a) = l ∷ a ∷ []
simple_operands (Read x r) = r ∷ []
simple_operands (Write r a) = r ∷ a ∷ []
simple_operands (Take x v) = v ∷ []
simple_operands (Put v a) = v ∷ a ∷ []
simple_operands (Fork x l t c p arguments) = l ∷ t ∷ c ∷ arguments
simple_operands (Spawn t c p arguments) = t ∷ c ∷ arguments
simple_operands (Wait x r) = r ∷ []
simple_operands (Send c a) = c ∷ a ∷ []
