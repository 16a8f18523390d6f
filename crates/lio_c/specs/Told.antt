-- What a caller is told.
use Rattle.std.specs.Prelude.{◌≡◌, ℕ, List, ◌++◌, length, drop, nat_le, if◌then◌else◌, ◌⊎◌}
use Rattle.lio_front.specs.Status.{exit_status}
use Rattle.lio_front.specs.declared.status.Status.{Status}
use Rattle.lio_c.specs.Answers.{Answers}
use Rattle.lio_c.specs.Bundle.{IsRefusal}
use Rattle.lio_c.specs.declared.refusal.Refusal.{Refusal}
use Rattle.lio_c.specs.declared.refusal.Refusal.TheVariants.{WordsBroken, WordNotText, FilesBroken, FileAlone, FileTwice, NoMemory}
use Rattle.lio_c.specs.declared.told.Told.{Told}

-- what is told of an answer whose reply has so many bytes
abbrev pub answer_told : Status → ℕ → Told
answer_told status needed = record { status = exit_status status; place = 0; needed = needed }

-- what is told where no call is made
abbrev pub refusal_told : Refusal → Told
refusal_told (WordsBroken place) = record { status = 20; place = place; needed = 0 }
refusal_told (WordNotText number) = record { status = 21; place = number; needed = 0 }
refusal_told (FilesBroken place) = record { status = 22; place = place; needed = 0 }
refusal_told (FileAlone number) = record { status = 23; place = number; needed = 0 }
refusal_told (FileTwice number) = record { status = 24; place = number; needed = 0 }
refusal_told NoMemory = record { status = 9; place = 0; needed = 0 }

-- bytes with a reply at their front, where they have room for all of it; else as they are
abbrev pub with_reply : List ℕ → List ℕ → List ℕ
with_reply reply bytes = if nat_le (length reply) (length bytes) then reply ++ drop (length reply) bytes else bytes

-- a call was made: its status and the length of its reply are told, and the reply stands at the front, where there was room for all of it
pub record TellsReply (words files before after : List ℕ) (told : Told) : Type 0 where
  pub status : Status
  pub reply : List ℕ
  pub answers : Answers words files status reply
  pub told_is : told ≡ answer_told status (length reply)
  pub after_is : after ≡ with_reply reply before

-- no call was made: why is told, and nothing was written
pub record TellsRefusal (words files before after : List ℕ) (told : Told) : Type 0 where
  pub refusal : Refusal
  pub why : IsRefusal words files refusal
  pub told_is : told ≡ refusal_told refusal
  pub after_is : after ≡ before

-- what is told, and what is left in the bytes for the reply, of a call by the bytes of words and of files
abbrev pub Tells : List ℕ → List ℕ → List ℕ → List ℕ → Told → Type 0
Tells words files before after told = TellsReply words files before after told ⊎ TellsRefusal words files before after told
