-- Lists in lines.
use Rattle.std.specs.Prelude.{ℕ, ◌==◌, ◌&&◌, ◌||◌, not, Bool, true, false, List, [], ◌∷◌}
use Rattle.lio_values.specs.declared.value.Value.{Value}

-- no `]` is first
abbrev pub is_no_end : List ℕ → Bool
is_no_end [] = true
is_no_end (byte ∷ bytes) = not (byte == 93)

-- an item stands at the front: `[` and no `]` behind it, or `,`
abbrev pub begins_item : List ℕ → Bool
begins_item [] = false
begins_item (byte ∷ bytes) = byte == 91 && is_no_end bytes || byte == 44

-- how many bytes stand before the next item: `[` before the first, and else `, `
abbrev pub sign_len : List Value → ℕ
sign_len [] = 1
sign_len (value ∷ values) = 2
