-- The first words of lines.
use Rattle.std.specs.Prelude.{ℕ, List, codes, bytes_eq, Option}
use Rattle.std.specs.List.{find}
use Rattle.lio_syntax_lines.specs.declared.keyword.Keyword.{Keyword}
use Rattle.lio_syntax_lines.specs.declared.keyword.Keyword.TheVariants.{Proc, Let, If, Else, While, Try, Catch, End, Call, Return, Stop, Throw, Label, Unlabel, Taint, Lower, Relabel, NewRef, NewVar, FullVar, Read, Write, Take, Put, Fork, Spawn, Wait, Send}
use Rattle.lio_syntax_lines.specs.declared.keyword.TheConstants.{KEYWORDS}

-- each keyword's word
abbrev pub word_of : Keyword → List ℕ
word_of Proc = codes "proc"
word_of Let = codes "let"
word_of If = codes "if"
word_of Else = codes "else"
word_of While = codes "while"
word_of Try = codes "try"
word_of Catch = codes "catch"
word_of End = codes "end"
word_of Call = codes "call"
word_of Return = codes "return"
word_of Stop = codes "stop"
word_of Throw = codes "throw"
word_of Label = codes "label"
word_of Unlabel = codes "unlabel"
word_of Taint = codes "taint"
word_of Lower = codes "lower"
word_of Relabel = codes "relabel"
word_of NewRef = codes "newref"
word_of NewVar = codes "newvar"
word_of FullVar = codes "fullvar"
word_of Read = codes "read"
word_of Write = codes "write"
word_of Take = codes "take"
word_of Put = codes "put"
word_of Fork = codes "fork"
word_of Spawn = codes "spawn"
word_of Wait = codes "wait"
word_of Send = codes "send"

-- the keyword that a word is
unfoldable pub keyword_of : List ℕ → Option Keyword
keyword_of word = find (λ keyword. bytes_eq (word_of keyword) word) KEYWORDS
