-- The decimal places of 2^-150, and how digits compare with them.
use Rattle.std.specs.Prelude.{ℕ, Bool, true, false, List, [], ◌∷◌, ltb}
use Rattle.combinators.specs.Choice.{pick, and, is}

-- "The table of the 150 decimal places of 2^-150, read as one number, is 5^150": 2^-150 = 5^150 / 10^150 = 0.000..007006492321624085.., to its last
-- place, the 150th. The first 45 are zeros
unfoldable pub places : List ℕ
places = 0 ∷ 0 ∷ 0 ∷ 0 ∷ 0 ∷ 0 ∷ 0 ∷ 0 ∷ 0 ∷ 0 ∷ 0 ∷ 0 ∷ 0 ∷ 0 ∷ 0 ∷ 0 ∷ 0 ∷ 0 ∷ 0 ∷ 0 ∷ 0 ∷ 0 ∷ 0 ∷ 0 ∷ 0 ∷ 0 ∷ 0 ∷ 0 ∷ 0 ∷ 0 ∷ 0 ∷ 0 ∷ 0 ∷ 0 ∷ 0 ∷ 0 ∷ 0 ∷ 0 ∷ 0 ∷ 0 ∷ 0 ∷ 0 ∷ 0 ∷ 0 ∷ 0 ∷ 7 ∷ 0 ∷ 0 ∷ 6 ∷ 4 ∷ 9 ∷ 2 ∷ 3 ∷ 2 ∷ 1 ∷ 6 ∷ 2 ∷ 4 ∷ 0 ∷ 8 ∷ 5 ∷ 3 ∷ 5 ∷ 4 ∷ 6 ∷ 1 ∷ 8 ∷ 6 ∷ 4 ∷ 7 ∷ 9 ∷ 1 ∷ 6 ∷ 4 ∷ 4 ∷ 9 ∷ 5 ∷ 8 ∷ 0 ∷ 6 ∷ 5 ∷ 6 ∷ 4 ∷ 0 ∷ 1 ∷ 3 ∷ 0 ∷ 9 ∷ 7 ∷ 0 ∷ 9 ∷ 3 ∷ 8 ∷ 2 ∷ 5 ∷ 7 ∷ 8 ∷ 8 ∷ 5 ∷ 8 ∷ 7 ∷ 8 ∷ 5 ∷ 3 ∷ 4 ∷ 1 ∷ 4 ∷ 1 ∷ 9 ∷ 4 ∷ 4 ∷ 8 ∷ 9 ∷ 5 ∷ 5 ∷ 4 ∷ 1 ∷ 3 ∷ 4 ∷ 2 ∷ 9 ∷ 3 ∷ 0 ∷ 3 ∷ 0 ∷ 0 ∷ 7 ∷ 4 ∷ 3 ∷ 3 ∷ 1 ∷ 9 ∷ 0 ∷ 9 ∷ 4 ∷ 1 ∷ 8 ∷ 1 ∷ 0 ∷ 6 ∷ 0 ∷ 7 ∷ 9 ∷ 1 ∷ 0 ∷ 1 ∷ 5 ∷ 6 ∷ 2 ∷ 5 ∷ []

-- every digit is 0
unfoldable pub all_zero : List ℕ → Bool
all_zero [] = true
all_zero (d ∷ ds) = and (is d 0) (all_zero ds)

-- the digits behind a point, compared with those of a second number: the first that differ decide. Past the end of either
-- stand zeros, so digits that end before they differ are at most the second, and so are equal ones
unfoldable pub at_most : List ℕ → List ℕ → Bool
at_most [] ts = true
at_most (d ∷ ds) [] = all_zero (d ∷ ds)
at_most (d ∷ ds) (t ∷ ts) = pick (ltb d t) true (pick (ltb t d) false (at_most ds ts))
