-- The words of a call on one thread.
use Rattle.std.proofs.Common.{◌≡◌, ◌∙◌, ap, refl, ℕ, Bool, true, false, List, [], Option, None, Some, if◌then◌else◌}
use Rattle.lio_front.specs.Command.{Command, command_by, command_of}
use Rattle.lio_c.specs.Alone.{alone_words, is_alone, words_by}

-- no words give no command
no-command : command_of [] ≡ None
unfolding command_by
no-command = refl

-- words that give no command
pub alone-none : (words : List (List ℕ)) → command_of words ≡ None → command_of (alone_words words) ≡ None
alone-none words is = ap (λ (o : Option Command). command_of (words_by words o)) is ∙ is

-- a command on one thread
pub alone-some : (words : List (List ℕ)) (command : Command) → command_of words ≡ Some command → is_alone command.mode ≡ true → command_of (alone_words words) ≡ Some command
alone-some words command is alone =
    ap (λ (o : Option Command). command_of (words_by words o)) is ∙ ap (λ (b : Bool). command_of (if b then words else [])) alone ∙ is

-- a command by workers
pub alone-workers : (words : List (List ℕ)) (command : Command) → command_of words ≡ Some command → is_alone command.mode ≡ false → command_of (alone_words words) ≡ None
alone-workers words command is alone =
    ap (λ (o : Option Command). command_of (words_by words o)) is ∙ ap (λ (b : Bool). command_of (if b then words else [])) alone ∙ no-command
