-- The block of a rule: '{', declarations, ';' or none, '}'.
use mathlib.Core.Path.{◌≡◌, refl, sym, ap, ◌∙◌}
use mathlib.Core.Bool.{Bool, true, false}
use mathlib.Core.List.{List, [], ◌∷◌, map}
use Prim.Native.Nat.{ℕ, ◌+◌, ◌*◌, ◌^◌, ◌≤◌, ◌<◌}
use native.Mathlib.Omega.{arith}
use lib.ListN.{length, get_or, drop, length-drop, length-map}
use lib.Seq.{sets}
use Rattle.std.specs.Prelude.{Option, Some, None, Ok}
use Prim.Native.Char.{code as ascii}
use Rattle.combinators.specs.Choice.{pick, is}
use Rattle.combinators.specs.Store.{wiped}
use Rattle.combinators.proofs.Lists.{lent_from, rest, byte-there}
use Rattle.lexer.specs.Whitespace.{skip_whitespace}
use Rattle.syntax.specs.Declaration.{Decl, color, background_color, height, max_height, overflow, overflow_y, display, white_space, content, visibility, unknown, Declaration}
use Rattle.syntax.specs.Layout.{declaration_width, declaration_rows, declaration_texts}
use Rattle.syntax.proofs.RowSizes.{length-declarations}
use Rattle.declarations.specs.DeclRow.{named_decl}
use Rattle.declarations.specs.Rules.{Rules, starts_at, declarations_of}
use Rattle.declarations.specs.Leaving.{kept, Leaves, leaves, used_rules, rules_answer, rules_of, rules_left}
use Rattle.declarations.specs.declared.rules.RulesRead.{RulesRead}
use Rattle.declarations.proofs.StyleAttribute.{bounded}
use Rattle.declarations.proofs.LeastLengths.{semicolon-there}
use Rattle.selectors.specs.Outcome.{reads, fails, on_outcome, behind}
use Rattle.sheets.specs.Sheet.{spaced, past_semicolon, before_end, block_of}
use Rattle.selectors.specs.declared.readings.Read.{Read}
use Rattle.sheets.specs.Rules.{block_at, BlockRoom}
use Rattle.selectors.specs.Reading.{reading, written}
use Rattle.combinators.proofs.ZeroLaws.{zeros-back}
use Rattle.selectors.proofs.ReadingLaws.{sized}

-- ---- `parse_block`: the place behind a ';', if there is one, and behind white space
module _ (s : List ℕ) (e : ℕ) (h : e ≤ length s) {t : Bool} (et : t ≡ is (get_or s e 0) (ascii ";")) where
  -- a ';' is passed, and the place behind it lies within the text
  pub semicolon-past : t ≡ true → (e + 1 ≡ past_semicolon s e) × (e + 1 ≤ length s)
  unfolding past_semicolon pick
  semicolon-past f = (rw (← et, f), omega (arith, semicolon-there s e et f))

  -- none, so the same place
  pub semicolon-none : t ≡ false → (e ≡ past_semicolon s e) × (e ≤ length s)
  unfolding past_semicolon pick
  semicolon-none f = (rw (← et, f), h)

-- what a choice between a place and the next says
next-or-same : (t : Bool) (e : ℕ) → e ≤ pick t (e + 1) e
unfolding pick
next-or-same true e = omega arith
next-or-same false e = omega arith

module _ (s : List ℕ) (n : ℕ) {e p f : ℕ} (ee : e ≡ n + skip_whitespace (drop n s)) (ep : p ≡ past_semicolon s e)
    (ef : f ≡ p + skip_whitespace (drop p s)) where
  -- the three steps are the definition
  pub end_is : f ≡ before_end s n
  unfolding before_end spaced
  end_is = ef ∙ rw (ep, ee)

  -- white space and a semicolon lead forward
  pub end-behind : n ≤ f
  unfolding past_semicolon
  end-behind = omega (arith, ee, ef, ep, next-or-same (is (get_or s e 0) (ascii ";")) e)

-- ---- declarations that start elsewhere
-- a name is kept where names are
pub named-same : (d : Decl) → named_decl true d ≡ d
unfolding named_decl pick
named-same (color c) = refl
named-same (background_color c) = refl
named-same (height z) = refl
named-same (max_height z) = refl
named-same (overflow o) = refl
named-same (overflow_y o) = refl
named-same (display n) = refl
named-same (white_space w) = refl
named-same (content t) = refl
named-same (visibility z) = refl
named-same (unknown t) = refl

-- what is kept of declarations of a text at d, itself at `at`
kept-starts : (at d : ℕ) (ds : List Declaration) → map (kept true (at + d)) ds ≡ map (starts_at at) (map (starts_at d) ds)
unfolding kept starts_at
kept-starts at d [] = refl
kept-starts at d (x ∷ ds) =
    let e : at + d + x.start ≡ at + (d + x.start) = omega arith in
    rw (named-same x.decl, e, kept-starts at d ds)

-- ---- `parse_block`: what it ensures, return by return
module _ (s : List ℕ) (n at : ℕ) (rules : List ℕ) (place : ℕ) (tokens brackets store : List ℕ) (fill : ℕ)
    (o : BlockRoom s n at rules place tokens brackets store fill) where
  -- what the function ensures
  abbrev pub Blocked : Option Read → List ℕ → List ℕ → List ℕ → List ℕ → Type 0
  Blocked r y x b z = (Ok r ≡ reading length (declaration_rows fill) declaration_texts (block_at at s n))
      × ((y ≡ sets rules place (written (declaration_rows fill) (block_at at s n)))
      × ((x ≡ tokens) × ((b ≡ brackets) × (z ≡ sets store fill (written declaration_texts (block_at at s n))))))

  -- where it does not read
  failed : block_of s n ≡ fails → {y x b z : List ℕ} → y ≡ rules → x ≡ tokens → b ≡ brackets → z ≡ store → Blocked None y x b z
  unfolding block_at behind reading written on_outcome
  failed e ey ex eb ez = (rw e, (ey ∙ rw e, (ex, (eb, ez ∙ rw e))))

  module _ {w : ℕ} (ew : w ≡ n + skip_whitespace (drop n s)) {t : Bool} (et : t ≡ is (get_or s w 0) (ascii "{")) where
    -- without an opening brace there is no block
    pub brace-missing : t ≡ false → Blocked None rules tokens brackets store
    unfolding block_of spaced pick
    brace-missing f = failed (rw (← ew, ← et, f)) refl refl refl refl

    module _ (f : t ≡ true) where
      -- it is within the text
      pub brace-there : w < length s
      brace-there = byte-there s w (ascii "{") (omega arith) (sym et ∙ f)

      -- declarations from d on
      module _ {d : ℕ} (ed : d ≡ w + 1 + skip_whitespace (drop (w + 1) s)) (hd : d ≤ length s) where
        -- the declarations, by where they start in the whole text
        abbrev found : Rules
        found = declarations_of (drop d s)

        -- the declarations, by where they start in the whole text
        abbrev ds : List Declaration
        ds = map (starts_at at) (map (starts_at d) found.declarations)

        -- what `parse_rules` left: the declarations of the block, written at the place
        module _ {r : RulesRead} {y x b z : List ℕ}
            (e : record { answer = r; rules = y; tokens = x; brackets = b; store = z } ≡ rules_left true (at + d) (lent_from s d) rules place tokens brackets store fill) where
          -- what was left is what these declarations leave
          left_is : record { answer = r; rules = y; tokens = x; brackets = b; store = z } ≡ leaves (rules_answer found.taken ds) ds (used_rules true (drop d s)) rules place tokens brackets store fill
          unfolding rules_left rules_of
          left_is =
              e ∙ ap (λ l. rules_left true (at + d) l rules place tokens brackets store fill) (rest s d)
              ∙ ap (λ (l : List Declaration). leaves (rules_answer found.taken l) l (used_rules true (drop d s)) rules place tokens brackets store fill) (kept-starts at d found.declarations)

          -- the bytes taken are those of the declarations
          taken_is : r.taken ≡ found.taken
          unfolding leaves rules_answer
          taken_is = ap (λ (l : Leaves RulesRead). l.answer.taken) left_is

          -- as many declarations are counted as there are
          count-is : r.count ≡ length ds
          unfolding leaves rules_answer
          count-is = ap (λ (l : Leaves RulesRead). l.answer.count) left_is

          -- as many bytes are counted as their texts have
          text-is : r.text ≡ length (declaration_texts ds)
          unfolding leaves rules_answer
          text-is = ap (λ (l : Leaves RulesRead). l.answer.text) left_is

          -- the store of rules holds their rows
          rules-are : y ≡ sets rules place (declaration_rows fill ds)
          unfolding leaves
          rules-are = ap (λ (l : Leaves RulesRead). l.rules) left_is

          -- the tokens are wiped
          tokens-are : x ≡ tokens
          unfolding leaves
          tokens-are = ap (λ (l : Leaves RulesRead). l.tokens) left_is ∙ o.tokens-zeros.wiping _

          -- so are the brackets
          brackets-are : b ≡ brackets
          unfolding leaves
          brackets-are = ap (λ (l : Leaves RulesRead). l.brackets) left_is ∙ o.brackets-zeros.wiping _

          -- the text store holds their texts
          store_is : z ≡ sets store fill (declaration_texts ds)
          unfolding leaves
          store_is = ap (λ (l : Leaves RulesRead). l.store) left_is ∙ ap (λ (l : List ℕ). sets l fill (declaration_texts ds)) (o.store-zeros.wiping _)

          -- how much was read
          ds-long : length ds ≡ length found.declarations
          ds-long = length-map (map (starts_at d) found.declarations) (starts_at at) ∙ length-map found.declarations (starts_at d)

          -- they end within the text
          pub taken-within : d + r.taken ≤ length s
          taken-within = omega (arith, taken_is, (bounded true (drop d s)).within, length-drop d s)

          -- each takes a byte or more
          count-le : r.count ≤ r.taken
          count-le = omega (arith, taken_is, count-is, ds-long, (bounded true (drop d s)).count)

          -- so their rows have room
          pub numbers_fit : declaration_width * r.count < 2 ^ 64
          numbers_fit = omega (arith, count-le, taken-within, o.start-bits)

          -- behind them, at g, '}' or not
          module _ {g : ℕ} (eg : g ≡ before_end s (d + r.taken)) {u : Bool} (eu : u ≡ is (get_or s g 0) (ascii "}")) where
            -- the place where '}' should stand
            end-at : g ≡ before_end s (d + found.taken)
            end-at = eg ∙ ap (λ k. before_end s (d + k)) taken_is

            -- without a closing brace there is no block, and rows and texts are wiped
            pub end-missing : u ≡ false → {y' z' : List ℕ} → y' ≡ wiped place (declaration_width * r.count) y → z' ≡ wiped fill r.text z → Blocked None y' x b z'
            unfolding block_of spaced pick
            end-missing v ey ez =
                failed (rw (← ew, ← et, f, ← ed, ← end-at, ← eu, v))
                (ey ∙ ap (wiped place (declaration_width * r.count)) rules-are
                ∙ zeros-back rules place o.rules-zeros (declaration_rows fill ds) (declaration_width * r.count) (omega (arith, count-is, length-declarations fill ds)))
                tokens-are brackets-are
                (ez ∙ ap (wiped fill r.text) store_is ∙ zeros-back store fill o.store-zeros (declaration_texts ds) r.text (omega (arith, text-is)))

            module _ (v : u ≡ true) where
              -- it is within the text
              pub end-there : g < length s
              end-there = byte-there s g (ascii "}") (omega arith) (sym eu ∙ v)

              module _ {i : ℕ} (ei : i ≡ g + 1 + skip_whitespace (drop (g + 1) s)) where
                -- with both braces the block reads as its declarations
                block-is : block_at at s n ≡ reads i ds
                unfolding block_at block_of behind on_outcome spaced pick
                block-is =
                    let z : 0 + i ≡ i = omega arith in
                    rw (← ew, ← et, f, ← ed, ← end-at, ← eu, v, ← ei, z)

                -- and its rows and texts are left
                pub block_read : Blocked (Some (sized i r.count (declaration_width * r.count) r.text)) y x b z
                unfolding reading written on_outcome
                block_read = (rw (block-is, length-declarations fill ds, count-is, text-is), (rules-are ∙ rw block-is, (tokens-are, (brackets-are, store_is ∙ rw block-is))))
