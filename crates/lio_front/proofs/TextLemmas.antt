-- The texts that are handed back, step by step.
use Rattle.std.proofs.Common.{◌≡◌, subst, sym, ℕ, List, Option, Vec}
use Rattle.std.specs.declared.alloc.Global.{Global}
use Rattle.lio_outside.specs.FileMap.{FileMap}
use Rattle.lio_front.specs.declared.texts.Texts.{Texts}
use Rattle.lio_front.specs.Loading.{most_policy_bytes, most_script_bytes}
use Rattle.lio_front.specs.Texts.{AreFetched, AreTexts}

-- the policy was fetched, or wasn't
pub texts-policy : (told : Option FileMap) (policy script : List ℕ) (one two : Texts) → (AreFetched told policy most_policy_bytes one.policy → AreFetched told policy most_policy_bytes two.policy) → two.script ≡ one.script
    → AreTexts told policy script one → AreTexts told policy script two
texts-policy told policy script one two read same are = record {
  policy = read are.policy;
  script = subst (λ (text : Option (Vec ℕ Global)). AreFetched told script most_script_bytes text) (sym same) are.script;
}

-- then the script
pub texts-script : (told then : Option FileMap) (policy script : List ℕ) (one two : Texts) → then ≡ told → (AreFetched then script most_script_bytes one.script → AreFetched then script most_script_bytes two.script) → two.policy ≡ one.policy
    → AreTexts told policy script one → AreTexts told policy script two
texts-script told then policy script one two is read same are = record {
  policy = subst (λ (text : Option (Vec ℕ Global)). AreFetched told policy most_policy_bytes text) (sym same) are.policy;
  script = subst (λ (t : Option FileMap). AreFetched t script most_script_bytes one.script → AreFetched t script most_script_bytes two.script) is read are.script;
}
