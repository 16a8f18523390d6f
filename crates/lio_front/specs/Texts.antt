-- The texts that were fetched.
use Rattle.std.specs.Prelude.{ℕ, List, Option, IfSome, Vec}
use Rattle.lio_outside.specs.FileMap.{FileMap}
use Rattle.lio_outside.specs.Fetch.{IsGiven}
use Rattle.lio_front.specs.declared.texts.Texts.{Texts}
use Rattle.lio_front.specs.Loading.{most_policy_bytes, most_script_bytes}

-- the bytes, where they are there, are those that the store gave under a name
abbrev pub AreFetched : {A : Type 0} → Option FileMap → List ℕ → ℕ → Option (Vec ℕ A) → Type 0
AreFetched told name limit text = IfSome text (λ bytes. IsGiven told name limit bytes.items)

-- the bytes of a policy and of a script are those that the store gave under these names
pub record AreTexts (told : Option FileMap) (policy_file script_file : List ℕ) (texts : Texts) : Type 0 where
  pub policy : AreFetched told policy_file most_policy_bytes texts.policy
  pub script : AreFetched told script_file most_script_bytes texts.script
