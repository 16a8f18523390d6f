-- The first words of plain values, kinds of faults, acts and replies, and those of operations.
use Rattle.std.specs.Prelude.{ℕ, List, codes, bytes_eq, Option}
use Rattle.std.specs.List.{find}
use Rattle.lio_events_reading.specs.declared.words.PlainWord.{PlainWord}
use Rattle.lio_events_reading.specs.declared.words.PlainWord.TheVariants as plain
use Rattle.lio_events_reading.specs.declared.words.KindWord.{KindWord}
use Rattle.lio_events_reading.specs.declared.words.KindWord.TheVariants as kind
use Rattle.lio_events_reading.specs.declared.words.ActWord.{ActWord}
use Rattle.lio_events_reading.specs.declared.words.ActWord.TheVariants as act
use Rattle.lio_events_reading.specs.declared.words.ReplyWord.{ReplyWord}
use Rattle.lio_events_reading.specs.declared.words.ReplyWord.TheVariants as reply
use Rattle.lio_events_reading.specs.declared.words.OpWord.{OpWord}
use Rattle.lio_events_reading.specs.declared.words.OpWord.TheVariants as op
use Rattle.lio_events_reading.specs.declared.words.TheConstants.{PLAIN_WORDS, KIND_WORDS, ACT_WORDS, REPLY_WORDS, OP_WORDS}

-- the first word of a plain value, and which one a word is
abbrev pub plain_word : PlainWord → List ℕ
plain_word plain.Power = codes "power"
plain_word plain.Ref = codes "ref"
plain_word plain.Var = codes "var"
plain_word plain.Result = codes "result"
plain_word plain.Chan = codes "chan"

abbrev pub plain_of : List ℕ → Option PlainWord
plain_of word = find (λ known. bytes_eq (plain_word known) word) PLAIN_WORDS

-- the first word of a kind of fault, and which one a word is
abbrev pub kind_word : KindWord → List ℕ
kind_word kind.FlowCurrent = codes "flow_current"
kind_word kind.FlowClearance = codes "flow_clearance"
kind_word kind.FlowRaise = codes "flow_raise"
kind_word kind.FlowPrivilege = codes "flow_privilege"
kind_word kind.BadType = codes "bad_type"
kind_word kind.Overflow = codes "overflow"
kind_word kind.DivZero = codes "div_zero"
kind_word kind.TooLong = codes "too_long"
kind_word kind.NoTurns = codes "no_turns"
kind_word kind.NoCells = codes "no_cells"
kind_word kind.ChildTurns = codes "child_turns"
kind_word kind.Depth = codes "depth"
kind_word kind.LabelWide = codes "label_wide"
kind_word kind.User = codes "user"

abbrev pub kind_of : List ℕ → Option KindWord
kind_of word = find (λ known. bytes_eq (kind_word known) word) KIND_WORDS

-- the first word of an act, and which one a word is
abbrev pub act_word : ActWord → List ℕ
act_word act.Step = codes "step"
act_word act.Seal = codes "seal"
act_word act.Raise = codes "raise"
act_word act.Lower = codes "lower"
act_word act.Release = codes "release"
act_word act.Expose = codes "expose"
act_word act.NewRef = codes "newref"
act_word act.NewVar = codes "newvar"
act_word act.Fork = codes "fork"
act_word act.Spawn = codes "spawn"
act_word act.Read = codes "read"
act_word act.Write = codes "write"
act_word act.Take = codes "take"
act_word act.Put = codes "put"
act_word act.Wait = codes "wait"
act_word act.Send = codes "send"
act_word act.Ended = codes "ended"

abbrev pub act_of : List ℕ → Option ActWord
act_of word = find (λ known. bytes_eq (act_word known) word) ACT_WORDS

-- the first word of a reply, and which one a word is
abbrev pub reply_word : ReplyWord → List ℕ
reply_word reply.Done = codes "ok"
reply_word reply.Got = codes "got"
reply_word reply.Told = codes "told"
reply_word reply.Refused = codes "no"

abbrev pub reply_of : List ℕ → Option ReplyWord
reply_of word = find (λ known. bytes_eq (reply_word known) word) REPLY_WORDS

-- the word of an operation that raises the current label, and which one a word is
abbrev pub op_word : OpWord → List ℕ
op_word op.Unlabel = codes "unlabel"
op_word op.Taint = codes "taint"
op_word op.Read = codes "read"
op_word op.Wait = codes "wait"
op_word op.Take = codes "take"
op_word op.Put = codes "put"

abbrev pub op_of : List ℕ → Option OpWord
op_of word = find (λ known. bytes_eq (op_word known) word) OP_WORDS
