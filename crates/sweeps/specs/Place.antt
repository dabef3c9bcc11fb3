-- The places of elements among their siblings.
use Rattle.std.specs.Prelude.{ℕ}

-- no row of an accepted page has a greater place
abbrev pub place_limit : ℕ
place_limit = 65536
