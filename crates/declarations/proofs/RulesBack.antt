-- What `parse_rules` leaves reads back: the rows and texts are those of the declarations that the text means.
use mathlib.Core.Path.{◌≡◌, refl, ap}
use mathlib.Core.Bool.{Bool}
use mathlib.Core.List.{List, [], ◌∷◌, map}
use Prim.Native.Nat.{ℕ, ◌+◌, ◌≤◌}
use native.Mathlib.Omega.{arith}
use lib.ListN.{length, drop, length-map}
use Rattle.combinators.specs.Store.{wiped}
use Rattle.combinators.proofs.Wiped.{length-wiped}
use Rattle.syntax.specs.Declaration.{Decl, color, background_color, height, max_height, overflow, overflow_y, display, white_space, content, visibility, unknown, Declaration}
use Rattle.syntax.specs.Layout.{declaration_text, declaration_texts, declarations_at}
use Rattle.syntax.specs.Stream.{texts_many}
use Rattle.syntax.proofs.Back.{DeclFits, DeclarationsFit, declarations-written}
use Rattle.syntax.proofs.RowSizes.{length-declarations}
use Rattle.declarations.specs.DeclRow.{named_decl}
use Rattle.declarations.specs.Rules.{declarations_of}
use Rattle.declarations.specs.Leaving.{kept, used_rules, rules_of, leaves, rules_left, RulesRoom}
use Rattle.declarations.proofs.StyleAttribute.{bounded}

-- a declaration that fits a row fits it without its name
named-fits : (names : Bool) (d : Decl) → DeclFits d → DeclFits (named_decl names d)
unfolding named_decl DeclFits
named-fits names (color c) h = h
named-fits names (background_color c) h = h
named-fits names (height z) h = tt
named-fits names (max_height z) h = tt
named-fits names (overflow o) h = tt
named-fits names (overflow_y o) h = tt
named-fits names (display n) h = tt
named-fits names (white_space w) h = tt
named-fits names (content t) h = tt
named-fits names (visibility z) h = tt
named-fits names (unknown t) h = tt

module _ (names : Bool) (at : ℕ) where
  -- declarations that fit rows fit them as they are kept, with their starts moved and names left out
  kept-fit : (ds : List Declaration) → DeclarationsFit ds → DeclarationsFit (map (kept names at) ds)
  unfolding kept
  kept-fit [] h = tt
  kept-fit (d ∷ ds) h = (named-fits names d.decl h.0, kept-fit ds h.1)

  -- texts do not depend on where the text starts
  kept-texts : (ds : List Declaration) → declaration_texts (map (kept names at) ds) ≡ declaration_texts (map (kept names 0) ds)
  unfolding declaration_texts texts_many kept declaration_text
  kept-texts [] = refl
  kept-texts (d ∷ ds) = rw (kept-texts ds)

-- what `parse_rules` leaves reads back, by its count, as the declarations that the text means, their starts moved, and with names of unknown ones only if asked
pub rules-back : (names : Bool) (at : ℕ) (s rules : List ℕ) (place : ℕ) (tokens brackets store : List ℕ) (fill : ℕ) → RulesRoom s at rules place tokens brackets store fill →
    let l = rules_left names at s rules place tokens brackets store fill in
    let ds = rules_of names at (declarations_of s) in
    declarations_at (drop place l.rules) l.store (length ds) ≡ ds
unfolding rules_left leaves rules_of
rules-back names at s rules place tokens brackets store fill o =
    let b = bounded names s in
    let r = declarations_of s in
    let ds = map (kept names at) r.declarations in
    let u = used_rules names s in
    let n : length ds ≡ length r.declarations = length-map r.declarations (kept names at) in
    let t : declaration_texts ds ≡ declaration_texts (map (kept names 0) r.declarations) = kept-texts names at r.declarations in
    let x : length (declaration_texts (map (kept names 0) r.declarations)) ≤ length s + 2 = unfold rules_of in omega (arith, b.text, b.within) in
    declarations-written ds rules place (wiped fill u.bytes store) fill (kept-fit names at r.declarations b.fit)
    (omega (arith, length-declarations fill ds, n, b.count, b.within, o.for-rules))
    (omega (arith, ap length t, length-wiped fill u.bytes store, o.room.for-texts))
