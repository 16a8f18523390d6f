-- What the words of the host over futures ask for, as words of the host.
use Rattle.std.specs.Prelude.{ℕ, ◌&&◌, List, [], ◌∷◌, codes, if◌then◌else◌}
use Rattle.lio_front.specs.Command.{is_name}

-- the words of the host that ask for the same: the files of the policy and of the script, and with four words also the file of a view and the text of its observer's label; none where there aren't two
-- or four words, or one of them is empty or begins with `-`
abbrev pub host_words : List (List ℕ) → List (List ℕ)
host_words (policy ∷ script ∷ []) = if is_name policy && is_name script then policy ∷ script ∷ [] else []
host_words (policy ∷ script ∷ view ∷ label ∷ []) =
    if is_name policy && is_name script && is_name view && is_name label then policy ∷ script ∷ codes "--view" ∷ view ∷ codes "--observer" ∷ label ∷ [] else []
host_words other = []
