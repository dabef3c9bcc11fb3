-- How far a reading reaches: what is read takes at least a byte and ends within the bytes, and so does the place of a fault.
use mathlib.Core.Path.{◌≡◌, refl}
use mathlib.Core.Bool.{Bool, true}
use mathlib.Core.List.{List, [], ◌∷◌}
use Prim.Native.Nat.{ℕ, zero, suc, ◌+◌, ◌-◌, ◌*◌, ◌≤◌, ◌<◌}
use native.Mathlib.Omega.{arith}
use borrow.Author.Tests.{leb-true, leb-false}
use lib.Dec.{leb, ltb}
use lib.ListN.{length, get_or}
use Rattle.combinators.specs.Choice.{pick, is, within}
use Rattle.combinators.proofs.Rules.{pick-holds}
use Rattle.syntax.specs.Layout.{colour_slot, display_slot, white_space_slot, content_slot, visibility_slot, last_slot, style_in, flag, white_space_number}
use Rattle.syntax.specs.RuleLayout.{star_kind, nth_kind, attribute_equal_kind, pseudo_number}
use Rattle.syntax.specs.Selector.{none, after}
use Rattle.syntax.specs.Style.{agent_origin, author_origin, StyleDecl}
use Rattle.syntax.specs.Declaration.{pre_wrap}
use Rattle.compiled.specs.Decoded.{Decoded, read, fault, and_then, mapped, counted}
use Rattle.compiled.specs.Number.{group_values, most_groups, number_limit, limited, groups_at, number_at, ranged_at}
use Rattle.compiled.specs.Text.{span_at}
use Rattle.compiled.specs.declared.texts.Span.{Span}
use Rattle.compiled.specs.Component.{is_mark, name_at, numbers_at, names_at, body_at, written_at, component_at, component_in}
use Rattle.compiled.specs.Style.{greatest_colour, content_at, number_up_to, value_at, style_numbers_at, style_at}
use Rattle.compiled.specs.Sheet.{CompiledSelector, head_at, styles_at, selector_at, selectors_at, whole_at, decode, decode_by}

-- what was read from i on takes at least `least` bytes and ends within the `len` bytes that there are; a fault lies within them or at their end
unfoldable pub Reaches : {A : Type 0} → ℕ → ℕ → ℕ → Decoded A → Type 0
Reaches least len i (read n a) = (i + least ≤ n) × (n ≤ len)
Reaches least len i (fault p) = i ≤ len → p ≤ len

-- a fault where the reading starts
pub reaches-fault : (A : Type 0) (len i k : ℕ) → Reaches {A = A} k len i (fault i)
unfolding Reaches
reaches-fault A len i k = λ h. h

module _ {A : Type 0} (len i : ℕ) where
  -- a value that ends within the bytes, and takes so many, reaches no further
  pub reaches-read : (k n : ℕ) (a : A) → i + k ≤ n → n ≤ len → Reaches k len i (read n a)
  unfolding Reaches
  reaches-read k n a h l = (h, l)

  -- where a value that was read ends
  pub reaches_end : (k n : ℕ) (a : A) (d : Decoded A) → Reaches k len i d → d ≡ read n a → (i + k ≤ n) × (n ≤ len)
  unfolding Reaches
  reaches_end k n a d h e = rw e at h

module _ {A : Type 0} (len : ℕ) where
  -- what takes more bytes takes fewer
  pub reaches-less : (d : Decoded A) (least i k j : ℕ) → Reaches least len i d → j + k ≤ i + least → j ≤ i → (j ≤ len → i ≤ len) → Reaches k len j d
  unfolding Reaches
  reaches-less (read n a) least i k j h l m f = (omega arith, h.1)
  reaches-less (fault p) least i k j h l m f = λ g. h (f g)

module _ {A B : Type 0} (len : ℕ) where
  -- a reading behind another ends within the bytes, and takes at least what both take
  pub reaches_then : (d : Decoded A) (f : ℕ → A → Decoded B) (j k i : ℕ) → Reaches j len i d → ((n : ℕ) (a : A) → n ≤ len → Reaches k len n (f n a))
      → Reaches (j + k) len i (and_then d f)
  unfolding and_then Reaches
  reaches_then (read n a) f j k i h g = reaches-less len (f n a) k n (j + k) i (g n a h.1) (omega arith) (omega arith) (λ _. h.1)
  reaches_then (fault p) f j k i h g = h

  -- as f of what was read
  pub reaches-mapped : (f : A → B) (d : Decoded A) (k i : ℕ) → Reaches k len i d → Reaches k len i (mapped f d)
  unfolding mapped Reaches
  reaches-mapped f (read n a) k i h = h
  reaches-mapped f (fault p) k i h = h

module _ {A : Type 0} (len : ℕ) (u : ℕ → Decoded A) (one : (n : ℕ) → n ≤ len → Reaches 0 len n (u n)) where
  -- so many values, each of which ends within the bytes, end within them together
  pub reaches-counted : (k i : ℕ) → i ≤ len → Reaches 0 len i (counted u k i)
  unfolding counted
  reaches-counted zero i h = reaches-read len i 0 i [] (omega arith) h
  reaches-counted (suc k) i h =
      reaches_then len (u i) (λ n a. mapped (λ r. a ∷ r) (counted u k n)) 0 0 i (one i h)
      (λ n a l. reaches-mapped len (λ r. a ∷ r) (counted u k n) 0 n (reaches-counted k n l))

module _ (t : List ℕ) where
  -- ---- numbers
  -- a number in its range ends within the bytes, and one out of it is a fault where it starts
  limited-reaches : (i n v : ℕ) → i < n → n ≤ length t → Reaches 1 (length t) i (limited i n v)
  unfolding limited
  limited-reaches i n v h l = pick-holds (Reaches 1 (length t) i) (ltb v number_limit) (read n v) (fault i) (λ _. reaches-read (length t) i 1 n v (omega arith) l) (λ _. reaches-fault ℕ (length t) i 1)

  -- groups from n on, of a number that starts at i, end within the bytes or are a fault where it starts
  groups-reaches : (k i v scale n : ℕ) → i ≤ n → Reaches 1 (length t) i (groups_at k t i v scale n)
  unfolding groups_at
  groups-reaches zero i v scale n h = reaches-fault ℕ (length t) i 1
  groups-reaches (suc k) i v scale n h =
      pick-holds (Reaches 1 (length t) i) (leb (length t) n) _ _ (λ _. reaches-fault ℕ (length t) i 1)
      (λ e. let l = leb-false (length t) n e in
      pick-holds (Reaches 1 (length t) i) (ltb (get_or t n 0) group_values) _ _ (λ _. limited-reaches i (n + 1) _ (omega arith) (omega arith))
      (λ _. groups-reaches k i (v + (get_or t n 0 - group_values) * scale) (scale * group_values) (n + 1) (omega arith)))

  -- a number takes at least a byte and ends within the bytes
  pub number-reaches : (i : ℕ) → Reaches 1 (length t) i (number_at t i)
  unfolding number_at
  number-reaches i = groups-reaches most_groups i 0 1 i (omega arith)

  -- a choice by a test of what was read: what passes stays, what does not is a fault where it starts
  reaches-test : {A B : Type 0} (d : Decoded A) (i : ℕ) (f : ℕ → A → Bool) (g : ℕ → A → Decoded B) → Reaches 1 (length t) i d
      → ((n : ℕ) (a : A) → f n a ≡ true → n ≤ length t → Reaches 0 (length t) n (g n a))
      → Reaches 1 (length t) i (and_then d (λ n a. pick (f n a) (g n a) (fault i)))
  unfolding and_then Reaches
  reaches-test (read n a) i f g h p =
      pick-holds (Reaches 1 (length t) i) (f n a) (g n a) (fault i)
      (λ e. reaches-less (length t) (g n a) 0 n 1 i (p n a e h.1) (omega arith) (omega arith) (λ _. h.1)) (λ _ l. l)
  reaches-test (fault q) i f g h p = h

  -- a number in a range takes at least a byte and ends within the bytes
  pub ranged-reaches : (i lo hi : ℕ) → Reaches 1 (length t) i (ranged_at t i lo hi)
  unfolding ranged_at
  ranged-reaches i lo hi = reaches-test (number_at t i) i (λ n v. within v lo hi) (λ n v. read n v) (number-reaches i) (λ n v e l. reaches-read (length t) n 0 n v (omega arith) l)

  -- ---- texts
  -- a text takes at least a byte and ends within the bytes
  pub span-reaches : (i : ℕ) → Reaches 1 (length t) i (span_at t i)
  unfolding span_at
  span-reaches i =
      reaches-test (number_at t i) i (λ n v. leb (n + v) (length t)) (λ n v. read (n + v) (record { start = n; size = v })) (number-reaches i)
      (λ n v e l. reaches-read (length t) n 0 (n + v) _ (omega arith) (leb-true (n + v) (length t) e))

  -- fewer bytes from the same place
  weaker : {A : Type 0} (k n : ℕ) (d : Decoded A) → Reaches k (length t) n d → Reaches 0 (length t) n d
  weaker k n d h = reaches-less (length t) d k n 0 n h (omega arith) (omega arith) (λ g. g)

  -- ---- components
  -- what stands behind a component's kind ends within the bytes
  body-reaches : (kind n : ℕ) → n ≤ length t → Reaches 0 (length t) n (body_at t kind n)
  unfolding body_at name_at numbers_at names_at
  body-reaches kind n l =
      pick-holds (Reaches 0 (length t) n) (is_mark kind) _ _ (λ _. reaches-read (length t) n 0 n _ (omega arith) l)
      (λ _. pick-holds (Reaches 0 (length t) n) (is kind nth_kind) _ _
      (λ _. weaker 2 n _ (reaches_then (length t) (number_at t n) _ 1 1 n (number-reaches n) (λ m a _. reaches-mapped (length t) _ (number_at t m) 1 m (number-reaches m))))
      (λ _. pick-holds (Reaches 0 (length t) n) (is kind attribute_equal_kind) _ _
      (λ _. weaker 2 n _ (reaches_then (length t) (span_at t n) _ 1 1 n (span-reaches n) (λ m x _. reaches-mapped (length t) _ (span_at t m) 1 m (span-reaches m))))
      (λ _. weaker 1 n _ (reaches-mapped (length t) _ (span_at t n) 1 n (span-reaches n)))))

  -- what the bytes of a component say
  pub written-reaches : (i : ℕ) → Reaches 1 (length t) i (written_at t i)
  unfolding written_at
  written-reaches i =
      reaches_then (length t) (ranged_at t i star_kind attribute_equal_kind) (λ n kind. body_at t kind n) 1 0 i (ranged-reaches i star_kind attribute_equal_kind) (λ n kind l. body-reaches kind n l)

  -- a component takes at least a byte and ends within the bytes
  pub component-reaches : (i : ℕ) → Reaches 1 (length t) i (component_at t i)
  unfolding component_at
  component-reaches i = reaches-mapped (length t) (component_in t) (written_at t i) 1 i (written-reaches i)

  -- ---- styles
  -- a number up to a greatest one ends within the bytes
  up-to-reaches : (greatest from n : ℕ) → Reaches 0 (length t) n (number_up_to greatest t from n)
  unfolding number_up_to
  up-to-reaches greatest from n = weaker 1 n _ (reaches-mapped (length t) _ (ranged_at t n 0 greatest) 1 n (ranged-reaches n 0 greatest))

  -- a style's value ends within the bytes
  pub value-reaches : (from slot n : ℕ) → n ≤ length t → Reaches 0 (length t) n (value_at t from slot n)
  unfolding value_at content_at
  value-reaches from slot n l =
      pick-holds (Reaches 0 (length t) n) (is slot display_slot) _ _ (λ _. reaches-read (length t) n 0 n _ (omega arith) l)
      (λ _. pick-holds (Reaches 0 (length t) n) (is slot content_slot) _ _
      (λ _. weaker 1 n _ (reaches-mapped (length t) _ (span_at t n) 1 n (span-reaches n)))
      (λ _. pick-holds (Reaches 0 (length t) n) (is slot white_space_slot) _ _
      (λ _. up-to-reaches (white_space_number pre_wrap) from n)
      (λ _. pick-holds (Reaches 0 (length t) n) (is slot visibility_slot) _ _
      (λ _. up-to-reaches (flag true) from n)
      (λ _. up-to-reaches greatest_colour from n))))

  -- what the bytes of a style say
  pub style-numbers-reach : (i : ℕ) → Reaches 1 (length t) i (style_numbers_at t i)
  unfolding style_numbers_at
  style-numbers-reach i =
      reaches_then (length t) (ranged_at t i 0 1) _ 1 0 i (ranged-reaches i 0 1)
      (λ n important _. weaker 1 n _ (reaches_then (length t) (number_at t n) _ 1 0 n (number-reaches n)
      (λ k from _. weaker 1 k _ (reaches_then (length t) (ranged_at t k colour_slot last_slot) _ 1 0 k (ranged-reaches k colour_slot last_slot)
      (λ m slot l. reaches-mapped (length t) _ (value_at t from slot m) 0 m (value-reaches from slot m l))))))

  -- a style takes at least a byte and ends within the bytes
  pub style-reaches : (i : ℕ) → Reaches 1 (length t) i (style_at t i)
  unfolding style_at
  style-reaches i = reaches-mapped (length t) (style_in t) (style_numbers_at t i) 1 i (style-numbers-reach i)

  -- ---- selectors
  -- the numbers before the components
  pub head-reaches : (least i : ℕ) → Reaches 3 (length t) i (head_at t least i)
  unfolding head_at
  head-reaches least i =
      reaches_then (length t) (ranged_at t i least author_origin) _ 1 2 i (ranged-reaches i least author_origin)
      (λ n origin _. reaches_then (length t) (ranged_at t n (pseudo_number none) (pseudo_number after)) _ 1 1 n (ranged-reaches n (pseudo_number none) (pseudo_number after))
      (λ m pseudo _. reaches-mapped (length t) _ (number_at t m) 1 m (number-reaches m)))

  -- the styles with their count
  pub styles-reach : (i : ℕ) → Reaches 1 (length t) i (styles_at (style_at t) t i)
  unfolding styles_at
  styles-reach i =
      reaches_then (length t) (number_at t i) (λ n count. counted (style_at t) count n) 1 0 i (number-reaches i)
      (λ n count l. reaches-counted (length t) (style_at t) (λ m _. weaker 1 m _ (style-reaches m)) count n l)

  -- components one behind the other
  pub components-reach : (k i : ℕ) → i ≤ length t → Reaches 0 (length t) i (counted (component_at t) k i)
  components-reach k i l = reaches-counted (length t) (component_at t) (λ m _. weaker 1 m _ (component-reaches m)) k i l

  -- a selector takes at least four bytes and ends within the bytes
  pub selector-reaches : (least i : ℕ) → Reaches 4 (length t) i (selector_at (style_at t) t least i)
  unfolding selector_at
  selector-reaches least i =
      reaches_then (length t) (head_at t least i) _ 3 1 i (head-reaches least i)
      (λ n h l. reaches_then (length t) (counted (component_at t) h.count n) _ 0 1 n (components-reach h.count n l)
      (λ m cs _. reaches-mapped (length t) _ (styles_at (style_at t) t m) 1 m (styles-reach m)))

  -- selectors one behind the other end within the bytes
  selectors-reach : (k least i : ℕ) → i ≤ length t → Reaches 0 (length t) i (selectors_at (style_at t) t k least i)
  unfolding selectors_at
  selectors-reach zero least i l = reaches-read (length t) i 0 i [] (omega arith) l
  selectors-reach (suc k) least i l =
      reaches_then (length t) (selector_at (style_at t) t least i) _ 0 0 i (weaker 4 i _ (selector-reaches least i))
      (λ n s m. reaches-mapped (length t) (λ r. s ∷ r) (selectors_at (style_at t) t k s.origin n) 0 n (selectors-reach k s.origin n m))

  -- a sheet takes at least a byte and ends within the bytes
  pub sheet-reaches : Reaches 1 (length t) 0 (decode t)
  unfolding decode decode_by whole_at
  sheet-reaches =
      reaches_then (length t) (number_at t 0) (λ n count. whole_at (style_at t) t count n) 1 0 0 (number-reaches 0)
      (λ n count l. reaches_then (length t) (selectors_at (style_at t) t count agent_origin n) _ 0 0 n (selectors-reach count agent_origin n l)
      (λ m ss k. pick-holds (Reaches 0 (length t) m) (is m (length t)) (read m ss) (fault m) (λ _. reaches-read (length t) m 0 m ss (omega arith) k)
      (λ _. reaches-fault (List (CompiledSelector StyleDecl)) (length t) m 0)))

-- ---- what holds of every value that is read
unfoldable pub Holds : {A : Type 0} → (ℕ → A → Type 0) → Decoded A → Type 0
Holds P (read n a) = P n a
Holds P (fault p) = Unit

module _ {A : Type 0} (P : ℕ → A → Type 0) where
  -- of the one that was read
  pub holds_read : (d : Decoded A) (n : ℕ) (a : A) → Holds P d → d ≡ read n a → P n a
  unfolding Holds
  holds_read d n a h e = rw e at h

  -- what holds of a value holds of its reading
  pub holds-value : (n : ℕ) (a : A) → P n a → Holds P (read n a)
  unfolding Holds
  holds-value n a h = h

  -- of a fault anything holds
  pub holds-fault : (p : ℕ) → Holds P (fault p)
  unfolding Holds
  holds-fault p = tt

module _ {A B : Type 0} (P : ℕ → B → Type 0) where
  -- of what is read behind
  pub holds_then : (d : Decoded A) (f : ℕ → A → Decoded B) → ((n : ℕ) (a : A) → d ≡ read n a → Holds P (f n a)) → Holds P (and_then d f)
  unfolding and_then Holds
  holds_then (read n a) f h = h n a refl
  holds_then (fault p) f h = tt

  -- of f of what was read
  pub holds-mapped : (f : A → B) (d : Decoded A) → ((n : ℕ) (a : A) → d ≡ read n a → P n (f a)) → Holds P (mapped f d)
  unfolding mapped Holds
  holds-mapped f (read n a) h = h n a refl
  holds-mapped f (fault p) h = tt

module _ (t : List ℕ) (i : ℕ) where
  -- what is read of a text ends with it
  pub span-holds : Holds (λ n x. x.start + x.size ≡ n) (span_at t i)
  unfolding span_at
  span-holds =
      holds_then (λ n x. x.start + x.size ≡ n) (number_at t i) _
      (λ n v _. pick-holds (Holds (λ m x. x.start + x.size ≡ m)) (leb (n + v) (length t)) (read (n + v) (record { start = n; size = v })) (fault i)
      (λ _. holds-value (λ m x. x.start + x.size ≡ m) (n + v) (record { start = n; size = v }) refl) (λ _. holds-fault (λ m x. x.start + x.size ≡ m) i))

  -- a text that was read lies within the bytes
  pub span-inside : (n : ℕ) (x : Span) → span_at t i ≡ read n x → x.start + x.size ≤ length t
  span-inside n x e =
      let a = holds_read (λ m y. y.start + y.size ≡ m) (span_at t i) n x span-holds e in
      let b = (reaches_end (length t) i 1 n x (span_at t i) (span-reaches t i) e).1 in
      omega arith
