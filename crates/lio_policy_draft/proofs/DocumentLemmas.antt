-- When a text is a document.
use Rattle.std.proofs.Common.{◌≡◌, ◌∙◌, ℕ, ◌<◌, ◌≤◌, ◌&&◌, nat_le, if◌then◌else◌, Bool, true, false, List, length, None, refl, ap, arith}
use Rattle.std.specs.Str.{IsUtf8, is_utf8}
use Rattle.std.proofs.lemmas.Str.{IsUtf8-from_is_utf8, is_utf8-from_IsUtf8}
use Rattle.serde_json.specs.Read.{read}
use Rattle.lio_policy_draft.specs.Drafted.{document_of}

within : (n : ℕ) → n ≤ 1048576 → nat_le n 1048576 ≡ true
within n h = grind arith

beyond : (n : ℕ) → 1048576 < n → nat_le n 1048576 ≡ false
beyond n h = grind arith

-- a text that is too long is none
pub too_long : (bytes : List ℕ) → 1048576 < length bytes → document_of bytes ≡ None
unfolding document_of
too_long bytes h = ap (λ b. if b && is_utf8 bytes then read bytes else None) (beyond (length bytes) h)

-- a text that is not is what is read from it
pub is_read : (bytes : List ℕ) → length bytes ≤ 1048576 → IsUtf8 bytes → document_of bytes ≡ read bytes
unfolding document_of
is_read bytes h utf8 =
    ap (λ b. if b && is_utf8 bytes then read bytes else None) (within (length bytes) h) ∙ ap (λ b. if b then read bytes else None) (is_utf8-from_IsUtf8 bytes utf8)

-- and a text from which nothing is read is none
pub is_refused : (bytes : List ℕ) → length bytes ≤ 1048576 → (IsUtf8 bytes → read bytes ≡ None) → document_of bytes ≡ None
unfolding document_of
is_refused bytes h none =
    ap (λ b. if b && is_utf8 bytes then read bytes else None) (within (length bytes) h) ∙ by (is_utf8 bytes) refl
  where
    by : (b : Bool) → is_utf8 bytes ≡ b → (if b then read bytes else None) ≡ None
    by true e = none (IsUtf8-from_is_utf8 bytes e)
    by false e = refl
