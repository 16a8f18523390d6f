-- Births in lines.
use Rattle.std.specs.Prelude.{ℕ, ◌==◌, ◌&&◌, not, Bool, true, false, List, [], ◌∷◌, ◌++◌, codes, decimal}
use Rattle.lio_values.specs.declared.act.Birth.{Birth}
use Rattle.lio_values.specs.ValueText.{labels_text}
use Rattle.lio_events.specs.EntryText.{args_text}

-- a birth behind its word
abbrev pub birth_behind : List (List ℕ) → Birth → List ℕ
birth_behind names birth =
    codes " " ++ decimal birth.proc_at ++ labels_text names birth.result birth.clearance
    ++ codes " " ++ decimal birth.turns ++ codes " " ++ decimal birth.first ++ codes " " ++ decimal birth.cells ++ args_text names birth.args

-- no colon is first
abbrev pub is_no_colon : List ℕ → Bool
is_no_colon [] = true
is_no_colon (byte ∷ bytes) = not (byte == 58)

-- an argument stands at the front: a blank, and no colon behind it
abbrev pub begins_argument : List ℕ → Bool
begins_argument [] = false
begins_argument (byte ∷ bytes) = byte == 32 && is_no_colon bytes
