-- Numbers of a compiled sheet: groups of seven bits, lowest first, top bit set on all but the last, at most five groups and below 2^32. Padding is
-- read, but none is written.
use Rattle.std.specs.Prelude.{ℕ, zero, suc, ◌+◌, ◌-◌, ◌*◌, ◌/◌, ◌%◌, ◌≡◌, refl, List, [], ◌∷◌, map, leb, ltb, length, get_or}
use Rattle.combinators.specs.Choice.{pick, within}
use Rattle.compiled.specs.Decoded.{Decoded, read, fault, and_then}

-- how many values a group has: its byte is below that in the last group, and from there on in the others
abbrev pub group_values : ℕ
group_values = 128

abbrev pub most_groups : ℕ
most_groups = 5

-- 2^32
abbrev pub number_limit : ℕ
number_limit = 4294967296

-- ---- written

-- in at most k + 1 groups
unfoldable pub group_bytes : ℕ → ℕ → List ℕ
group_bytes zero v = v ∷ []
group_bytes (suc k) v = pick (ltb v group_values) (v ∷ []) ((v % group_values + group_values) ∷ group_bytes k (v / group_values))

-- of a number below 2^32, as all of a sheet are
unfoldable pub number_bytes : ℕ → List ℕ
number_bytes v = group_bytes 4 v

-- ---- read

-- the number v that starts at i and ends before n
unfoldable pub limited : ℕ → ℕ → ℕ → Decoded ℕ
limited i n v = pick (ltb v number_limit) (read n v) (fault i)

-- at most k groups more of the number that starts at i: those before n are worth v, and the next is worth `scale` for each. "the byte where the
-- failing number .. starts" is the fault of too many groups, of a number from 2^32 on and of one that the bytes break off in, be it before its first
-- byte.
unfoldable pub groups_at : ℕ → List ℕ → ℕ → ℕ → ℕ → ℕ → Decoded ℕ
groups_at zero t i v scale n = fault i
groups_at (suc k) t i v scale n =
    pick (leb (length t) n) (fault i)
    (pick (ltb (get_or t n 0) group_values) (limited i (n + 1) (v + get_or t n 0 * scale))
    (groups_at k t i (v + (get_or t n 0 - group_values) * scale) (scale * group_values) (n + 1)))

-- the number at i
unfoldable pub number_at : List ℕ → ℕ → Decoded ℕ
number_at t i = groups_at most_groups t i 0 1 i

-- a number from lo to hi; one out of its range is a fault where it starts
unfoldable pub ranged_at : List ℕ → ℕ → ℕ → ℕ → Decoded ℕ
ranged_at t i lo hi = and_then (number_at t i) (λ n v. pick (within v lo hi) (read n v) (fault i))

-- ---- cases

-- 127, 128 and 300
pub case-numbers : map number_bytes (127 ∷ 128 ∷ 300 ∷ []) ≡ (0x7f ∷ []) ∷ (0x80 ∷ 0x01 ∷ []) ∷ (0xac ∷ 0x02 ∷ []) ∷ []
unfolding number_bytes group_bytes pick
case-numbers = refl

-- 300, and 300 with two groups of padding; the greatest number
pub case-read : number_at (0xac ∷ 0x02 ∷ []) 0 ≡ read 2 300
unfolding number_at groups_at limited pick
case-read = refl

pub case-padding : number_at (0xff ∷ 0xac ∷ 0x82 ∷ 0x80 ∷ 0x00 ∷ []) 1 ≡ read 5 300
unfolding number_at groups_at limited pick
case-padding = refl

pub case-greatest : number_at (0xff ∷ 0xff ∷ 0xff ∷ 0xff ∷ 0x0f ∷ []) 0 ≡ read 5 4294967295
unfolding number_at groups_at limited pick
case-greatest = refl

-- six groups, a fifth group above 15
pub case-six-groups : number_at (0 ∷ 0x80 ∷ 0x80 ∷ 0x80 ∷ 0x80 ∷ 0x80 ∷ 0x00 ∷ []) 1 ≡ fault 1
unfolding number_at groups_at limited pick
case-six-groups = refl

pub case-fifth-group : number_at (0 ∷ 0x80 ∷ 0x80 ∷ 0x80 ∷ 0x80 ∷ 0x10 ∷ []) 1 ≡ fault 1
unfolding number_at groups_at limited pick
case-fifth-group = refl

-- the bytes break off in a number, and before one
pub case-missing : number_at (0x01 ∷ 0x83 ∷ []) 1 ≡ fault 1
unfolding number_at groups_at limited pick
case-missing = refl

pub case-no-byte : number_at (0x01 ∷ []) 1 ≡ fault 1
unfolding number_at groups_at limited pick
case-no-byte = refl
