-- The property White_Space of the Unicode Character Database (PropList.txt): 25 code points.
use Rattle.std.specs.Prelude.{ℕ, zero, suc, ◌-◌, Bool, false, List, [], ◌∷◌, ◌++◌}
use Rattle.combinators.specs.Choice.{or, within}
use Rattle.combinators.specs.All.{member}

-- the code points
abbrev pub white_space : List ℕ
white_space =
    0x09 ∷ 0x0a ∷ 0x0b ∷ 0x0c ∷ 0x0d ∷ 0x20 ∷ 0x85 ∷ 0xa0 ∷ 0x1680 ∷ 0x2000 ∷ 0x2001 ∷ 0x2002 ∷ 0x2003 ∷ 0x2004 ∷ 0x2005 ∷ 0x2006
    ∷ 0x2007 ∷ 0x2008 ∷ 0x2009 ∷ 0x200a ∷ 0x2028 ∷ 0x2029 ∷ 0x202f ∷ 0x205f ∷ 0x3000 ∷ []

-- `char::is_whitespace`
unfoldable pub is_white_space : ℕ → Bool
is_white_space v = member v white_space

-- the same by the ranges that PropList.txt lists
pub record Range : Type 0 where
  pub first : ℕ
  pub last : ℕ

abbrev pub ranges : List Range
ranges =
    record { first = 0x09; last = 0x0d } ∷ record { first = 0x20; last = 0x20 } ∷ record { first = 0x85; last = 0x85 } ∷ record { first = 0xa0; last = 0xa0 }
    ∷ record { first = 0x1680; last = 0x1680 } ∷ record { first = 0x2000; last = 0x200a } ∷ record { first = 0x2028; last = 0x2028 }
    ∷ record { first = 0x2029; last = 0x2029 } ∷ record { first = 0x202f; last = 0x202f } ∷ record { first = 0x205f; last = 0x205f }
    ∷ record { first = 0x3000; last = 0x3000 } ∷ []

-- k numbers from n on
unfoldable pub up_from : ℕ → ℕ → List ℕ
up_from zero n = []
up_from (suc k) n = n ∷ up_from k (suc n)

-- all numbers of the ranges
unfoldable pub numbers : List Range → List ℕ
numbers [] = []
numbers (r ∷ rs) = up_from (suc r.last - r.first) r.first ++ numbers rs

-- v is in one of the ranges
unfoldable pub in_ranges : ℕ → List Range → Bool
in_ranges v [] = false
in_ranges v (r ∷ rs) = or (within v r.first r.last) (in_ranges v rs)
