-- How large a policy of a version may be.
use Rattle.std.specs.Prelude.{ℕ, ◌==◌, if◌then◌else◌}
use Rattle.lio_policy_draft.specs.declared.limits.Limits.{Limits}

-- the limits of the first and of the second version
abbrev pub first_limits : Limits
first_limits = record { longest = 65536; entries = 256; turns = 1048576; cells = 65536; depth = 0 }

abbrev pub second_limits : Limits
second_limits = record { longest = 262144; entries = 1024; turns = 4194304; cells = 262144; depth = 8 }

-- the limits of a version; they are those of the first but for the second
unfoldable pub limits_of : ℕ → Limits
limits_of version = if version == 2 then second_limits else first_limits
