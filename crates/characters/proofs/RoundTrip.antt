-- UTF-8 there and back: what is written reads back, and what is read was written.
use Rattle.std.specs.Char.{OutOfScalarRange}
use Rattle.std.proofs.Common.{Option, Some, None}
use Prim.Native.Nat.{ℕ, ◌+◌, ◌*◌, ◌/◌, ◌%◌, ◌≤◌, ◌<◌}
use mathlib.Core.Path.{◌≡◌, refl, sym, ap, ◌∙◌}
use mathlib.Core.Bool.{true}
use mathlib.Core.List.{List, [], ◌∷◌, ◌++◌}
use mathlib.Core.Logic.{⊎_elim}
use native.Mathlib.Omega.{arith}
use lib.ListN.{length, get_or, take}
use lib.Seq.{length-take-le}
use Rattle.combinators.specs.Choice.{pick, is, within}
use Rattle.combinators.proofs.Rules.{ranges, pick-holds, by_order, within-true, within-yes, lt-or-ge}
use Rattle.combinators.proofs.Lists.{front-one, front-two, front-three, front-four}
use Rattle.characters.specs.Utf8.{is_scalar, continuation, utf8, is_continuation, lead_of, two, three, four, scalar_tail, scalar_by, scalar_of}
use Rattle.combinators.specs.declared.taken.Taken.{Taken}
use Rattle.characters.specs.declared.utf8.Lead.{Lead}
use Rattle.characters.proofs.Scalars.{
  utf8-ascii,
  utf8-two,
  utf8-three,
  utf8-four,
  by_scalar,
  scalar-low,
  scalar-high,
  continuation-range,
  scalar-some,
}
use Rattle.characters.proofs.Reading.{at_ascii, by_row}

-- ---- what is written reads back
-- a byte of ASCII is read as its scalar value
pub ascii-read : (a : ℕ) (t : List ℕ) → a ≤ 0x7f → scalar_of (a ∷ t) ≡ Some (record { taken = 1; value = a })
ascii-read a t h = sym (at_ascii (a ∷ t) (λ z. omega arith) a refl h)

-- any other text is read by the row of its first byte
starts : (a : ℕ) (t : List ℕ) → 0x7f < a → (l : Option Lead) → l ≡ lead_of a → scalar_of (a ∷ t) ≡ scalar_by l (a ∷ t)
starts a t h l e = by_row (a ∷ t) (λ z. omega arith) a refl h l e

-- the first byte has a row of so many bytes, and the bytes behind it are in their ranges
module _ (lo hi a : ℕ) (t : List ℕ) (high : 0x7f < a) where
  -- a lead byte of length two and a second byte within its bounds are read as one scalar value
  reads_two : (b : ℕ) → Some (record { long = 2; low = lo; high = hi }) ≡ lead_of a → within b lo hi ≡ true → scalar_of (a ∷ b ∷ t) ≡ Some (record { taken = 2; value = two a b })
  unfolding scalar_by scalar_tail pick is
  reads_two b e h = rw (starts a (b ∷ t) high _ e, h)

  -- a lead byte of length three, a second byte within its bounds and a continuation byte are read as one scalar value
  reads_three : (b c : ℕ) → Some (record { long = 3; low = lo; high = hi }) ≡ lead_of a → within b lo hi ≡ true → is_continuation c ≡ true
      → scalar_of (a ∷ b ∷ c ∷ t) ≡ Some (record { taken = 3; value = three a b c })
  unfolding scalar_by scalar_tail pick is
  reads_three b c e h k = rw (starts a (b ∷ c ∷ t) high _ e, h, k)

  -- a lead byte of length four, a second byte within its bounds and two continuation bytes are read as one scalar value
  reads-four : (b c d : ℕ) → Some (record { long = 4; low = lo; high = hi }) ≡ lead_of a → within b lo hi ≡ true → is_continuation c ≡ true
      → is_continuation d ≡ true → scalar_of (a ∷ b ∷ c ∷ d ∷ t) ≡ Some (record { taken = 4; value = four a b c d })
  unfolding scalar_by scalar_tail pick is
  reads-four b c d e h k l = rw (starts a (b ∷ c ∷ d ∷ t) high _ e, h, k, l)

-- a continuation byte is one
pub continues : (v : ℕ) → is_continuation (continuation v) ≡ true
unfolding is_continuation continuation
continues v = within-yes (0x80 + v % 64) 0x80 0xbf (omega arith) (omega arith)

-- the low six bits of a continuation byte are those that went into it
low-six : (x : ℕ) → (0x80 + x % 64) % 64 ≡ x % 64
low-six x = omega arith

-- a number is its bits: three, six, six and six
by_bits : (v : ℕ) → v ≤ 0x10ffff
    → (0xf0 + v / 262144 % 8) % 8 * 262144 + (0x80 + v / 4096 % 64) % 64 * 4096 + (0x80 + v / 64 % 64) % 64 * 64 + (0x80 + v % 64) % 64 ≡ v
by_bits v h =
    let top : (0xf0 + v / 262144 % 8) % 8 ≡ v / 262144 = omega arith in
    rw (top, low-six (v / 4096), low-six (v / 64), low-six v) (omega arith)

-- what is to be shown of v
abbrev Back : List ℕ → ℕ → Type 0
Back t v = scalar_of (utf8 v ++ t) ≡ Some (record { taken = length (utf8 v); value = v })

-- the first bytes from a₀ to a₁ have the row of so many bytes, with the second from lo to hi
abbrev Row : ℕ → ℕ → ℕ → ℕ → ℕ → Type 0
Row a₀ a₁ n lo hi = (x : ℕ) → a₀ ≤ x → x ≤ a₁ → Some (record { long = n; low = lo; high = hi }) ≡ lead_of x

module _ (t : List ℕ) (v : ℕ) where
  -- a scalar value of one byte reads back
  back-ascii : v ≤ 0x7f → Back t v
  back-ascii h = rw (utf8-ascii v h) (ascii-read v t h)

  -- a scalar value of two bytes reads back
  back-two : 0x7f < v → v ≤ 0x7ff → Back t v
  unfolding lead_of two continuation is_continuation
  back-two l h =
      let a : ℕ = 0xc0 + v / 64 in
      let b : ℕ = 0x80 + v % 64 in
      let row : Row 0xc2 0xdf 2 0x80 0xbf = λ x l h. search ranges depth 20 in
      let e : a % 32 * 64 + b % 64 ≡ v = omega arith in
      rw (utf8-two v l h) (reads_two 0x80 0xbf a t (omega arith) b (row a (omega arith) (omega arith)) (continues v) ∙ ap (λ x. Some (record { taken = 2; value = x })) e)

  module _ (a₀ a₁ lo hi : ℕ) where
    -- three bytes, the first with this row
    back-three : Row a₀ a₁ 3 lo hi → 0x7ff < v → v ≤ 0xffff
        → (a₀ ≤ 0xe0 + v / 4096) × (0xe0 + v / 4096 ≤ a₁) × (lo ≤ 0x80 + v / 64 % 64) × (0x80 + v / 64 % 64 ≤ hi) → Back t v
    unfolding three continuation
    back-three row l h fits =
        let a : ℕ = 0xe0 + v / 4096 in
        let b : ℕ = 0x80 + v / 64 % 64 in
        let c : ℕ = 0x80 + v % 64 in
        let e : a % 16 * 4096 + b % 64 * 64 + c % 64 ≡ v = omega arith in
        rw (utf8-three v l h)
        (reads_three lo hi a t (omega arith) b c (row a (omega arith) (omega arith)) (within-yes b lo hi (omega arith) (omega arith)) (continues v) ∙ ap (λ x. Some (record { taken = 3; value = x })) e)

    -- four bytes, the first with this row
    back-four : Row a₀ a₁ 4 lo hi → 0xffff < v → v ≤ 0x10ffff
        → (a₀ ≤ 0xf0 + v / 262144 % 8) × (0xf0 + v / 262144 % 8 ≤ a₁) × (lo ≤ 0x80 + v / 4096 % 64) × (0x80 + v / 4096 % 64 ≤ hi) → Back t v
    unfolding four continuation
    back-four row l h fits =
        let a : ℕ = 0xf0 + v / 262144 % 8 in
        let b : ℕ = 0x80 + v / 4096 % 64 in
        let c : ℕ = 0x80 + v / 64 % 64 in
        let d : ℕ = 0x80 + v % 64 in
        rw (utf8-four v l)
        (reads-four lo hi a t (omega arith) b c d (row a (omega arith) (omega arith)) (within-yes b lo hi (omega arith) (omega arith)) (continues (v / 64)) (continues v)
        ∙ ap (λ x. Some (record { taken = 4; value = x })) (by_bits v h))

  -- below the surrogates: five rows
  back_low : v ≤ 0xd7ff → Back t v
  unfolding lead_of
  back_low top =
      ⊎_elim (λ h. back-ascii (omega arith))
      (λ l. ⊎_elim (λ h. back-two l (omega arith))
      (λ l. ⊎_elim (λ h. back-three 0xe0 0xe0 0xa0 0xbf (λ x a₀ a₁. search ranges depth 20) l (omega arith) (omega arith))
      (λ l. ⊎_elim (λ h. back-three 0xe1 0xec 0x80 0xbf (λ x a₀ a₁. search ranges depth 20) (omega arith) (omega arith) (omega arith))
      (λ l. back-three 0xed 0xed 0x80 0x9f (λ x a₀ a₁. search ranges depth 20) (omega arith) (omega arith) (omega arith))
      (lt-or-ge v 0xd000)) (lt-or-ge v 0x1000)) (lt-or-ge v 0x800)) (lt-or-ge v 0x80)

  -- above the surrogates: four rows
  back-high : 0xe000 ≤ v → v ≤ 0x10ffff → Back t v
  unfolding lead_of
  back-high least top =
      ⊎_elim (λ h. back-three 0xee 0xef 0x80 0xbf (λ x a₀ a₁. search ranges depth 20) (omega arith) (omega arith) (omega arith))
      (λ l. ⊎_elim (λ h. back-four 0xf0 0xf0 0x90 0xbf (λ x a₀ a₁. search ranges depth 20) l top (omega arith))
      (λ l. ⊎_elim (λ h. back-four 0xf1 0xf3 0x80 0xbf (λ x a₀ a₁. search ranges depth 20) (omega arith) top (omega arith))
      (λ l. back-four 0xf4 0xf4 0x80 0x8f (λ x a₀ a₁. search ranges depth 20) (omega arith) top (omega arith))
      (lt-or-ge v 0x100000)) (lt-or-ge v 0x40000)) (lt-or-ge v 0x10000)

-- the bytes of a scalar value read as that value, whatever follows them
pub read_back : (v : ℕ) (t : List ℕ) → is_scalar v ≡ true → scalar_of (utf8 v ++ t) ≡ Some (record { taken = length (utf8 v); value = v })
read_back v t e = by_scalar (Back t v) v e (back_low t v) (back-high t v)

-- ---- what is read was written
-- a text begins with the n bytes of the scalar value v: so no longer form is read, no surrogate, and nothing above U+10FFFF
pub record Read (s : List ℕ) (n v : ℕ) : Type 0 where
  pub scalar : is_scalar v ≡ true
  pub bytes : take n s ≡ utf8 v
  pub long : n ≡ length (utf8 v)
  pub inside-text : n ≤ length s
  pub some : 1 ≤ n

-- two bytes are the bytes of what they stand for
bytes-two : (a b : ℕ) → 0xc2 ≤ a → a ≤ 0xdf → 0x80 ≤ b → b ≤ 0xbf → utf8 (two a b) ≡ a ∷ b ∷ []
unfolding two continuation
bytes-two a b a₀ a₁ b₀ b₁ =
    let v : ℕ = a % 32 * 64 + b % 64 in
    let p : 0xc0 + v / 64 ≡ a = omega arith in
    let q : 0x80 + v % 64 ≡ b = omega arith in
    rw (p, q) at (utf8-two v (omega arith) (omega arith))

-- and so are three that stand for no less than three bytes can
bytes-three : (a b c : ℕ) → 0xe0 ≤ a → a ≤ 0xef → 0x80 ≤ b → b ≤ 0xbf → 0x80 ≤ c → c ≤ 0xbf → 0x800 ≤ three a b c
    → utf8 (three a b c) ≡ a ∷ b ∷ c ∷ []
unfolding three continuation
bytes-three a b c a₀ a₁ b₀ b₁ c₀ c₁ l =
    let v : ℕ = a % 16 * 4096 + b % 64 * 64 + c % 64 in
    let p : 0xe0 + v / 4096 ≡ a = omega arith in
    let q : 0x80 + v / 64 % 64 ≡ b = omega arith in
    let r : 0x80 + v % 64 ≡ c = omega arith in
    rw (p, q, r) at (utf8-three v l (omega arith))

-- what is read of four bytes is written as the same four
bytes-four : (a b c d : ℕ) → 0xf0 ≤ a → a ≤ 0xf4 → 0x80 ≤ b → b ≤ 0xbf → 0x80 ≤ c → c ≤ 0xbf → 0x80 ≤ d → d ≤ 0xbf → 0x10000 ≤ four a b c d
    → utf8 (four a b c d) ≡ a ∷ b ∷ c ∷ d ∷ []
unfolding four continuation
bytes-four a b c d a₀ a₁ b₀ b₁ c₀ c₁ d₀ d₁ l =
    let v : ℕ = a % 8 * 262144 + b % 64 * 4096 + c % 64 * 64 + d % 64 in
    let p : 0xf0 + v / 262144 % 8 ≡ a = omega arith in
    let q : 0x80 + v / 4096 % 64 ≡ b = omega arith in
    let r : 0x80 + v / 64 % 64 ≡ c = omega arith in
    let t : 0x80 + v % 64 ≡ d = omega arith in
    rw (p, q, r, t) at (utf8-four v l)

-- what is read from a text that holds it is a scalar value, and the bytes that it takes are the bytes of that value
abbrev Written : List ℕ → Option (Taken ℕ) → Type 0
Written s (Some c) = c.taken ≤ length s → (is_scalar c.value ≡ true) × (take c.taken s ≡ utf8 c.value)
Written s None = Unit

module _ (s : List ℕ) where
  -- its bytes, and what the first two, three and four stand for
  abbrev byte : ℕ → ℕ
  byte i = get_or s i 0

  abbrev of_two : ℕ
  of_two = two (byte 0) (byte 1)

  abbrev of_three : ℕ
  of_three = three (byte 0) (byte 1) (byte 2)

  abbrev of_four : ℕ
  of_four = four (byte 0) (byte 1) (byte 2) (byte 3)

  -- two bytes of these ranges
  read-two : 0xc2 ≤ byte 0 → byte 0 ≤ 0xdf → 0x80 ≤ byte 1 → byte 1 ≤ 0xbf → Written s (Some (record { taken = 2; value = of_two }))
  unfolding two
  read-two a₀ a₁ b₀ b₁ n = (scalar-low _ (omega arith), front-two s n ∙ sym (bytes-two _ _ a₀ a₁ b₀ b₁))

  -- three, where they stand for a scalar value that has no shorter form
  read-three : 0xe0 ≤ byte 0 → byte 0 ≤ 0xef → 0x80 ≤ byte 1 → byte 1 ≤ 0xbf → is_continuation (byte 2) ≡ true
      → (0x800 ≤ of_three) × (is_scalar of_three ≡ true) → Written s (Some (record { taken = 3; value = of_three }))
  read-three a₀ a₁ b₀ b₁ e g n =
      let c = continuation-range (byte 2) e in
      (g.1, front-three s n ∙ sym (bytes-three _ _ _ a₀ a₁ b₀ b₁ c.0 c.1 g.0))

  -- four, where they stand for a code point that has no shorter form
  read-four : 0xf0 ≤ byte 0 → byte 0 ≤ 0xf4 → 0x80 ≤ byte 1 → byte 1 ≤ 0xbf → is_continuation (byte 2) ≡ true → is_continuation (byte 3) ≡ true
      → (0x10000 ≤ of_four) × (of_four ≤ 0x10ffff) → Written s (Some (record { taken = 4; value = of_four }))
  read-four a₀ a₁ b₀ b₁ e p g n =
      let c = continuation-range (byte 2) e in
      let d = continuation-range (byte 3) p in
      (scalar-high _ (omega arith) g.1, front-four s n ∙ sym (bytes-four _ _ _ _ a₀ a₁ b₀ b₁ c.0 c.1 d.0 d.1 g.0))

  -- a byte of ASCII
  read-ascii : byte 0 ≤ 0x7f → Written s (Some (record { taken = 1; value = byte 0 }))
  read-ascii h n = (scalar-low _ (omega arith), front-one s n ∙ sym (utf8-ascii _ h))

  -- a first byte that starts no sequence
  row-none : Written s (scalar_by None s)
  unfolding scalar_by
  row-none = tt

  -- the row of two bytes
  row-two : 0xc2 ≤ byte 0 → byte 0 ≤ 0xdf → Written s (scalar_by (Some (record { long = 2; low = 0x80; high = 0xbf })) s)
  unfolding scalar_by scalar_tail pick is
  row-two a₀ a₁ = pick-holds (Written s) _ _ _ (λ e. let b = within-true _ 0x80 0xbf e in read-two a₀ a₁ b.0 b.1) (λ _. tt)

  module _ (lo hi : ℕ) (l : 0x80 ≤ lo) (h : hi ≤ 0xbf) where
    -- a row of three bytes, where each second byte in its range makes a scalar value that has no shorter form
    row-three : 0xe0 ≤ byte 0 → byte 0 ≤ 0xef
        → ((b c : ℕ) → lo ≤ b → b ≤ hi → (0x800 ≤ three (byte 0) b c) × (is_scalar (three (byte 0) b c) ≡ true))
        → Written s (scalar_by (Some (record { long = 3; low = lo; high = hi })) s)
    unfolding scalar_by scalar_tail pick is
    row-three a₀ a₁ g =
        pick-holds (Written s) _ _ _
        (λ e. let b = within-true _ lo hi e in
        pick-holds (Written s) _ _ _ (λ p. read-three a₀ a₁ (omega arith) (omega arith) p (g (byte 1) (byte 2) b.0 b.1)) (λ _. tt))
        (λ _. tt)

    -- a row of four
    row-four : 0xf0 ≤ byte 0 → byte 0 ≤ 0xf4
        → ((b c d : ℕ) → lo ≤ b → b ≤ hi → (0x10000 ≤ four (byte 0) b c d) × (four (byte 0) b c d ≤ 0x10ffff))
        → Written s (scalar_by (Some (record { long = 4; low = lo; high = hi })) s)
    unfolding scalar_by scalar_tail pick is
    row-four a₀ a₁ g =
        pick-holds (Written s) _ _ _
        (λ e. let b = within-true _ lo hi e in
        pick-holds (Written s) _ _ _
        (λ p. pick-holds (Written s) _ _ _ (λ q. read-four a₀ a₁ (omega arith) (omega arith) p q (g (byte 1) (byte 2) (byte 3) b.0 b.1)) (λ _. tt))
        (λ _. tt))
        (λ _. tt)

  -- the rows of the table, one by one
  by-lead : Written s (scalar_by (lead_of (byte 0)) s)
  unfolding lead_of three four
  by-lead =
      let P : Option Lead → Type 0 = λ r. Written s (scalar_by r s) in
      let a : ℕ = byte 0 in
      by_order P a 0xc1 _ _ (λ _. row-none)
      (λ l. by_order P a 0xdf _ _ (row-two l)
      (λ l. by_order P a 0xe0 _ _
      (λ h. row-three 0xa0 0xbf (omega arith) (omega arith) l (omega arith) (λ b c p q. (omega arith, scalar-low _ (omega arith))))
      (λ l. by_order P a 0xec _ _
      (λ h. row-three 0x80 0xbf (omega arith) (omega arith) (omega arith) (omega arith) (λ b c p q. (omega arith, scalar-low _ (omega arith))))
      (λ l. by_order P a 0xed _ _
      (λ h. row-three 0x80 0x9f (omega arith) (omega arith) (omega arith) (omega arith) (λ b c p q. (omega arith, scalar-low _ (omega arith))))
      (λ l. by_order P a 0xef _ _
      (λ h. row-three 0x80 0xbf (omega arith) (omega arith) (omega arith) h (λ b c p q. (omega arith, scalar-high _ (omega arith) (omega arith))))
      (λ l. by_order P a 0xf0 _ _ (λ h. row-four 0x90 0xbf (omega arith) (omega arith) l (omega arith) (λ b c d p q. omega arith))
      (λ l. by_order P a 0xf3 _ _ (λ h. row-four 0x80 0xbf (omega arith) (omega arith) (omega arith) (omega arith) (λ b c d p q. omega arith))
      (λ l. by_order P a 0xf4 _ _ (λ h. row-four 0x80 0x8f (omega arith) (omega arith) (omega arith) h (λ b c d p q. omega arith))
      (λ _. row-none)))))))))

  -- so of every text
  written : Written s (scalar_of s)
  unfolding scalar_of
  written = pick-holds (Written s) _ _ _ (λ _. tt) (λ _. by_order (Written s) (byte 0) 0x7f _ _ read-ascii (λ _. by-lead))

-- what a text is read as stands at its start
pub written_back : (s : List ℕ) (n v : ℕ) → scalar_of s ≡ Some (record { taken = n; value = v }) → Read s n v
written_back s n v e =
    let p = scalar-some s n v e in
    let w : Written s (Some (record { taken = n; value = v })) = rw e at (written s) in
    let r = w p.1 in
    record {
      scalar = r.0;
      bytes = r.1;
      long = sym (length-take-le n s p.1) ∙ ap length r.1;
      inside-text = p.1;
      some = p.0;
    }

-- so a number that is no scalar value is never read
pub never-read : (s : List ℕ) (n v : ℕ) → scalar_of s ≡ Some (record { taken = n; value = v }) → OutOfScalarRange v → ⊥
never-read s n v e o =
    by_scalar ⊥ v (written_back s n v e).scalar (λ h. ⊎_elim (λ r. omega (arith, r.0)) (λ r. omega arith) o) (λ l h. ⊎_elim (λ r. omega (arith, r.1)) (λ r. omega arith) o)
