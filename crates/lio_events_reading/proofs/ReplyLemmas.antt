-- Replies are found.
use Rattle.std.proofs.Common.{◌≡◌, ℕ, List, ◌++◌, refl, Some}
use Rattle.lio_values.specs.declared.act.Reply.{Reply}
use Rattle.lio_values.specs.declared.act.Reply.TheVariants as reply
use Rattle.lio_events.specs.EntryText.{reply_text}
use Rattle.lio_events_reading.specs.declared.words.ReplyWord.{ReplyWord}
use Rattle.lio_events_reading.specs.declared.words.ReplyWord.TheVariants as say
use Rattle.lio_events_reading.specs.Words.{reply_word, reply_of}
use Rattle.lio_events_reading.specs.Behind.{word_of_reply, reply_behind}
use Rattle.lio_events_reading.specs.Cut.{IsWord}
use Rattle.lio_events_reading.specs.Reading.{Ends}
use Rattle.lio_events_reading.proofs.ReadingLemmas.{Begins}

is_word : (t : ReplyWord) → IsWord (reply_word t)
is_word say.Done = refl
is_word t = refl

is_known : (t : ReplyWord) → reply_of (reply_word t) ≡ Some t
is_known say.Done = refl
is_known t = refl

split : (names : List (List ℕ)) (value : Reply) → reply_text names value ≡ reply_word (word_of_reply value) ++ reply_behind names value
split names reply.Done = refl
split names other = refl

ends : (names : List (List ℕ)) (value : Reply) (rest : List ℕ) → Ends rest → Ends (reply_behind names value ++ rest)
ends names reply.Done rest e = e
ends names (reply.Got value) rest e = refl
ends names (reply.Told content) rest e = refl
ends names (reply.Refused fault) rest e = refl

pub reply_begins : (names : List (List ℕ)) → Begins (reply_text names) (reply_behind names) word_of_reply reply_word reply_of
reply_begins names = record { is_word = is_word; is_known = is_known; split = split names; ends = ends names }
