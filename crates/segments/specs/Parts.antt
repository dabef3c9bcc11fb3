-- Limits of what a part of the state holds.
use Rattle.std.specs.Prelude.{ℕ}

-- no flag of a part has such a place: sums of places do not wrap
abbrev pub flags_limit : ℕ
flags_limit = 8589934592

-- a number of two bytes is below that
abbrev pub pair_limit : ℕ
pair_limit = 65536
