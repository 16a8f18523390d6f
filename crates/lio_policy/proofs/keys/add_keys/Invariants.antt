use Rattle.std.proofs.Common.{◌≡◌, ◌++◌, drop, map}
use Rattle.lio_policy_draft.specs.Converted.{first_failing}
use Rattle.lio_policy.specs.Rules.{behind, key_fails}
use Rattle.lio_policy.proofs.keys.add_keys.Given as goal

-- the table holds the keys so far before those that are left, and the first entry that fails is among these
abbrev pub invariant-loop-place : goal.invariant-loop-place
invariant-loop-place g l =
    (l.table ++ map (g.K.Key.key_of l.by) (drop l.place l.items) ≡ l.initial.table ++ map (g.K.Key.key_of l.by) l.items)
    × (first_failing l.place (behind (key_fails (g.K.Key.is_wrong l.by)) l.table (map (g.K.Key.key_of l.by) (drop l.place l.items)))
    ≡ first_failing 0 (behind (key_fails (g.K.Key.is_wrong l.by)) l.initial.table (map (g.K.Key.key_of l.by) l.items)))
