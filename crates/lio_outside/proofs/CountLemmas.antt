-- When a count of faults rose, and a name was reported missing.
use Rattle.std.proofs.Common.{ℕ, ◌≤◌, Some, None, arith}
use Rattle.lio_outside.specs.Count.{FailedInPart, Rose, RoseInPart, RoseNotAtRest}
use Rattle.lio_outside.specs.Fetch.{MissingInPart}

pub Rose-in_part : RoseInPart
Rose-in_part before start end now up within later rose = grind arith

pub Rose-at_rest : RoseNotAtRest
Rose-at_rest count below rose = grind arith

Rose-earlier : (before start now : ℕ) → before ≤ start → Rose start now → Rose before now
Rose-earlier before start now up rose = grind arith

pub FailedAt-in_part : FailedInPart
FailedAt-in_part name before start now up (rose, last) = (Rose-earlier before.count start.count now.count up rose, last)

pub IsMissing-in_part : MissingInPart
IsMissing-in_part None name before start now up missing = FailedAt-in_part name before start now up missing
IsMissing-in_part (Some files) name before start now up missing = missing
