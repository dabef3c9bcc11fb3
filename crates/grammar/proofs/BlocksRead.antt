-- A block of declarations is read whole.
use mathlib.Core.Path.{◌≡◌, refl, ap, sym, subst, ◌∙◌}
use mathlib.Core.Bool.{false}
use mathlib.Core.List.{List, [], ◌∷◌, ◌++◌, map, append_assoc}
use Prim.Native.Nat.{ℕ, zero, suc, ◌+◌, ◌≤◌}
use native.Mathlib.Nat.{add-zero}
use native.Mathlib.Omega.{arith}
use lib.ListN.{length, get_or, drop, length-append}
use lib.Seq.{drop-append_seam, drop-drop}
use Prim.Native.Char.{code as ascii}
use Rattle.combinators.specs.Choice.{pick, or, and, is, within}
use Rattle.combinators.specs.Parsed.{ok, err, on_parsed, behind}
use Rattle.combinators.specs.Repeat.{many, took}
use Rattle.lexer.specs.Name.{is_nmstart, folded_char, ident_escape_of, nmstart_of, name_from, dash, name_of, ident_of}
use Rattle.lexer.specs.Whitespace.{is_whitespace, comment_of, whitespace_item, skip_whitespace}
use Rattle.lexer.proofs.SyntaxWhitespace.{Blank, none, white, comment, skips-blank}
use Rattle.syntax.specs.Declaration.{Declaration}
use Rattle.declarations.specs.Rules.{property_of, declaration_of, starts_at, more_rules, declarations_of}
use Rattle.selectors.specs.Outcome.{reads}
use Rattle.sheets.specs.Sheet.{spaced, past_semicolon, before_end, block_of}
use Rattle.grammar.specs.Nth.{Blanks}
use Rattle.grammar.proofs.Places.{Unblank, white-first, comment-first, blank-first, rest-on, rest-one, byte-on, spaced-on, spaced-none}
use Rattle.grammar.specs.Values.{written_importance}
use Rattle.grammar.specs.Declarations.{property, written_value}
use Rattle.grammar.specs.Sheets.{Item, Next, Shut, closed, parted, End, Block, empty, filled, written_item, written_next, written_nexts, written_shut, written_end, written_block, means_item, means_nexts, means_block}
use Rattle.grammar.proofs.ValuesRead.{unspaced, ValueEnds, before-semicolon, before-brace}
use Rattle.grammar.proofs.TokensRead.{name-item}
use Rattle.grammar.proofs.DeclarationsRead.{block-items, declaration-read}

-- ---- where declarations end
-- no white space and no comment begins with a semicolon
unmarked : Unblank (λ x. is x (ascii ";"))
unfolding is
unmarked = record { of_space = refl; of-tab = refl; of-line-feed = refl; of-carriage-return = refl; of-form-feed = refl; of-solidus = refl }

-- so white space before what does not
blank-unmarked : {b : List ℕ} (t : List ℕ) → Blank b → is (get_or t 0 0) (ascii ";") ≡ false → is (get_or (b ++ t) 0 0) (ascii ";") ≡ false
blank-unmarked t h e = blank-first (λ x. is x (ascii ";")) unmarked t h e

-- a semicolon, white space and the brace, with r behind them
parted-onto : (c : Blanks) (r : List ℕ) → written_shut (parted c) ++ r ≡ ascii ";" ∷ (c.bytes ++ (ascii "}" ∷ r))
unfolding written_shut
parted-onto c r = ap (λ (l : List ℕ). (ascii ";") ∷ l) (append_assoc c.bytes (ascii "}" ∷ []) r)

-- the end, with r behind it
end-onto : (q : End) (r : List ℕ) → written_end q ++ r ≡ q.gap.bytes ++ (written_shut q.shut ++ r)
unfolding written_end
end-onto q r = append_assoc q.gap.bytes (written_shut q.shut) r

-- a value ends before it
shut-value : (b : Blanks) (s : Shut) (r : List ℕ) → ValueEnds (b.bytes ++ (written_shut s ++ r))
unfolding written_shut
shut-value b closed r = before-brace b r
shut-value b (parted c) r = before-semicolon b ((c.bytes ++ (ascii "}" ∷ [])) ++ r)

-- with the white space before it
end-value : (q : End) (r : List ℕ) → ValueEnds (written_end q ++ r)
end-value q r = subst ValueEnds (sym (end-onto q r)) (shut-value q.gap q.shut r)

-- and before more declarations
nexts-value : (ms : List Next) (t : List ℕ) → ValueEnds t → ValueEnds (written_nexts ms ++ t)
unfolding written_nexts written_next
nexts-value [] t h = h
nexts-value (m ∷ ms) t h = before-semicolon unspaced (((m.lead.bytes ++ written_item m.item) ++ written_nexts ms) ++ t)

-- no declaration begins with a brace or a semicolon
undeclared : (r : List ℕ) → (declaration_of (ascii "}" ∷ r) ≡ err) × (declaration_of (ascii ";" ∷ r) ≡ err)
unfolding declaration_of property_of on_parsed ident_of name_of name_from dash nmstart_of folded_char ident_escape_of is_nmstart behind skip_whitespace many took whitespace_item is_whitespace comment_of pick or and within is
undeclared r = (refl, refl)

-- ---- declarations behind the first
-- none: a semicolon or none, white space or none, and the brace
unmarked-stops : (l : ℕ) (t : List ℕ) (at : ℕ) → is (get_or t 0 0) (ascii ";") ≡ false → more_rules l t at ≡ record { declarations = []; taken = at }
unfolding more_rules pick
unmarked-stops zero t at e = refl
unmarked-stops (suc l) t at e = rw e

-- a semicolon that no declaration follows
semicolon-stops : (l : ℕ) (b t : List ℕ) (at : ℕ) → skip_whitespace (b ++ t) ≡ length b → declaration_of t ≡ err
    → more_rules l (ascii ";" ∷ (b ++ t)) at ≡ record { declarations = []; taken = at }
unfolding more_rules pick is on_parsed
semicolon-stops zero b t at e d = refl
semicolon-stops (suc l) b t at e d =
    let w : 1 + length b ≡ suc (length b) = omega arith in
    rw (e, w, drop-append_seam b t, d)

-- white space before a semicolon
spaced-stops : {b : List ℕ} (c r : List ℕ) (l at : ℕ) → Blank b → Blank c
    → more_rules l (b ++ (ascii ";" ∷ (c ++ (ascii "}" ∷ r)))) at ≡ record { declarations = []; taken = at }
spaced-stops c r l at none k = semicolon-stops l c (ascii "}" ∷ r) at (skips-blank c (ascii "}" ∷ r) k (block-items r).0) (undeclared r).0
spaced-stops c r l at (white x b w h) k =
    unmarked-stops l ((x ∷ b) ++ (ascii ";" ∷ (c ++ (ascii "}" ∷ r)))) at (white-first (λ x. is x (ascii ";")) unmarked w)
spaced-stops c r l at (comment y b w h) k =
    let z = ascii ";" ∷ (c ++ (ascii "}" ∷ r)) in
    unmarked-stops l ((y ++ b) ++ z) at
    (ap (λ (t : List ℕ). is (get_or t 0 0) (ascii ";")) (append_assoc y b z) ∙ comment-first (λ x. is x (ascii ";")) unmarked (b ++ z) w)

-- so at the end of the block
shut-stops : (b : Blanks) (s : Shut) (r : List ℕ) (l at : ℕ) → more_rules l (b.bytes ++ (written_shut s ++ r)) at ≡ record { declarations = []; taken = at }
shut-stops b closed r l at =
    unfold written_shut in unmarked-stops l (b.bytes ++ (ascii "}" ∷ r)) at (blank-unmarked (ascii "}" ∷ r) b.blank (unfold is in refl))
shut-stops b (parted c) r l at = ap (λ (t : List ℕ). more_rules l (b.bytes ++ t) at) (parted-onto c r) ∙ spaced-stops c.bytes r l at b.blank c.blank

-- with the white space before it
end-stops : (q : End) (r : List ℕ) (l at : ℕ) → more_rules l (written_end q ++ r) at ≡ record { declarations = []; taken = at }
end-stops q r l at = ap (λ (t : List ℕ). more_rules l t at) (end-onto q r) ∙ shut-stops q.gap q.shut r l at

-- one, and others behind it
next-step : (l : ℕ) (b d t : List ℕ) (at : ℕ) (x : Declaration) (ds : List Declaration) (n : ℕ) → skip_whitespace (b ++ (d ++ t)) ≡ length b → declaration_of (d ++ t) ≡ ok (length d) x
    → more_rules l t (at + (1 + length b + length d)) ≡ record { declarations = ds; taken = n }
    → more_rules (suc l) (ascii ";" ∷ (b ++ (d ++ t))) at ≡ record { declarations = starts_at (at + (1 + length b)) x ∷ ds; taken = n }
unfolding more_rules pick is on_parsed
next-step l b d t at x ds n e p q =
    let w : 1 + length b ≡ suc (length b) = omega arith in
    let o : drop (1 + length b) (ascii ";" ∷ (b ++ (d ++ t))) ≡ d ++ t = rw w (drop-append_seam b (d ++ t)) in
    let u : drop (1 + length b + length d) (ascii ";" ∷ (b ++ (d ++ t))) ≡ t = sym (drop-drop (length d) (1 + length b) (ascii ";" ∷ (b ++ (d ++ t)))) ∙ ap (drop (length d)) o ∙ drop-append_seam d t in
    rw (e, o, p, u, q)

-- what is written, with t behind it
next-onto : (m : Next) (ms : List Next) (t : List ℕ)
    → written_nexts (m ∷ ms) ++ t ≡ ascii ";" ∷ (m.lead.bytes ++ (written_item m.item ++ (written_nexts ms ++ t)))
unfolding written_nexts written_next
next-onto m ms t =
    let b = m.lead.bytes in
    let d = written_item m.item in
    ap (λ (l : List ℕ). (ascii ";") ∷ l)
    (append_assoc (b ++ d) (written_nexts ms) t ∙ append_assoc b d (written_nexts ms ++ t))

-- how many bytes a further declaration takes: a semicolon, white space and itself
next-length : (m : Next) → length (written_next m) ≡ 1 + length m.lead.bytes + length (written_item m.item)
unfolding written_next
next-length m = omega (arith, length-append m.lead.bytes (written_item m.item))

-- and of all of them
nexts-length : (m : Next) (ms : List Next) → length (written_nexts (m ∷ ms)) ≡ length (written_next m) + length (written_nexts ms)
unfolding written_nexts
nexts-length m ms = length-append (written_next m) (written_nexts ms)

-- a declaration begins no white space
item-item : (d : Item) (t : List ℕ) → whitespace_item (written_item d ++ t) ≡ 0
unfolding written_item
item-item d t =
    let q = d.before_colon.bytes ++ (ascii ":" ∷ (written_value d.declared ++ written_importance d.importance)) in
    ap whitespace_item (append_assoc (property d.declared).bytes q t) ∙ name-item (property d.declared) (q ++ t)

-- a declaration where it starts
pub moved_item : (at k : ℕ) (d : Item) → starts_at at (means_item k d) ≡ means_item (at + k) d
unfolding starts_at means_item
moved_item at k d = refl

-- declarations behind the first, where they start
pub moved-nexts : (at k : ℕ) (ms : List Next) → map (starts_at at) (means_nexts k ms) ≡ means_nexts (at + k) ms
unfolding means_nexts
moved-nexts at k [] = refl
moved-nexts at k (m ∷ ms) =
    let i : at + (k + (1 + length m.lead.bytes)) ≡ at + k + (1 + length m.lead.bytes) = omega arith in
    let j : at + (k + length (written_next m)) ≡ at + k + length (written_next m) = omega arith in
    rw (moved_item at (k + (1 + length m.lead.bytes)) m.item, moved-nexts at (k + length (written_next m)) ms, i, j)

-- behind one of them the text is shorter
shorter : (m : Next) (ms : List Next) (t : List ℕ) (l : ℕ) → length (written_nexts (m ∷ ms) ++ t) ≤ suc l → length (written_nexts ms ++ t) ≤ l
shorter m ms t l h =
    omega (
      arith,
      ap length (next-onto m ms t),
      length-append m.lead.bytes (written_item m.item ++ (written_nexts ms ++ t)),
      length-append (written_item m.item) (written_nexts ms ++ t),
    )

-- declarations behind the first, up to the end of the block
nexts-read : (ms : List Next) (q : End) (r : List ℕ) (l at : ℕ) → length (written_nexts ms ++ (written_end q ++ r)) ≤ l
    → more_rules l (written_nexts ms ++ (written_end q ++ r)) at ≡ record { declarations = means_nexts at ms; taken = at + length (written_nexts ms) }
unfolding means_nexts
nexts-read [] q r l at h = unfold written_nexts in (end-stops q r l at ∙ ap (λ (n : ℕ). record { declarations = []; taken = n }) (sym (add-zero at)))
nexts-read (m ∷ ms) q r zero at h = absurd (omega (arith, ap length (next-onto m ms (written_end q ++ r))))
nexts-read (m ∷ ms) q r (suc l) at h =
    let e = written_end q ++ r in
    let t = written_nexts ms ++ e in
    let d = written_item m.item in
    let g = m.lead.bytes in
    let k : at + (1 + length g + length d) ≡ at + length (written_next m) = omega (arith, next-length m) in
    let n : at + length (written_next m) + length (written_nexts ms) ≡ at + length (written_nexts (m ∷ ms)) = omega (arith, nexts-length m ms) in
    ap (λ (x : List ℕ). more_rules (suc l) x at) (next-onto m ms e)
    ∙ next-step l g d t at (means_item 0 m.item) (means_nexts (at + length (written_next m)) ms) (at + length (written_nexts (m ∷ ms)))
    (skips-blank g (d ++ t) m.lead.blank (item-item m.item t))
    (declaration-read m.item t (nexts-value ms e (end-value q r)))
    (ap (more_rules l t) k ∙ nexts-read ms q r l (at + length (written_next m)) (shorter m ms e l h) ∙ ap (λ (i : ℕ). record { declarations = means_nexts (at + length (written_next m)) ms; taken = i }) n)
    ∙ ap (λ (x : Declaration). record { declarations = x ∷ means_nexts (at + length (written_next m)) ms; taken = at + length (written_nexts (m ∷ ms)) })
    (moved_item (at + (1 + length g)) 0 m.item ∙ ap (λ (i : ℕ). means_item i m.item) (add-zero (at + (1 + length g))))

-- ---- all declarations of a block
-- where a first declaration reads, and others behind it, these are the declarations of the text
some_read : (s : List ℕ) (n : ℕ) (d : Declaration) (t : List ℕ) (ds : List Declaration) (m : ℕ) → declaration_of s ≡ ok n d → drop n s ≡ t
    → more_rules (length s) t n ≡ record { declarations = ds; taken = m } → declarations_of s ≡ record { declarations = d ∷ ds; taken = m }
unfolding declarations_of on_parsed
some_read s n d t ds m e p q = rw (e, p, q)

-- where the first does not read there is none
none_read : (s : List ℕ) → declaration_of s ≡ err → declarations_of s ≡ record { declarations = []; taken = 0 }
unfolding declarations_of on_parsed
none_read s e = rw e

-- the declarations of a block, up to its end
declarations-read : (d : Item) (ms : List Next) (q : End) (r : List ℕ)
    → declarations_of (written_item d ++ (written_nexts ms ++ (written_end q ++ r)))
    ≡ record { declarations = means_item 0 d ∷ means_nexts (length (written_item d)) ms; taken = length (written_item d) + length (written_nexts ms) }
declarations-read d ms q r =
    let t = written_nexts ms ++ (written_end q ++ r) in
    let w = written_item d in
    some_read (w ++ t) (length w) (means_item 0 d) t _ _ (declaration-read d t (nexts-value ms (written_end q ++ r) (end-value q r))) (drop-append_seam w t)
    (nexts-read ms q r (length (w ++ t)) (length w) (omega (arith, length-append w t)))

-- ---- a block, by the places of its parts: `{` at n, declarations at d, the brace at f, and what follows it at g
module _ (t : List ℕ) (n d f g : ℕ) (ds : List Declaration) (m : ℕ) where
  -- where each part stands, the block reads
  parts-read : spaced t n ≡ n → get_or t n 0 ≡ ascii "{" → spaced t (n + 1) ≡ d → declarations_of (drop d t) ≡ record { declarations = ds; taken = m }
      → before_end t (d + m) ≡ f → get_or t f 0 ≡ ascii "}" → spaced t (f + 1) ≡ g → block_of t n ≡ reads g (map (starts_at d) ds)
  unfolding block_of pick is
  parts-read po bo pd r pf bf pg = rw (po, pd, r, bo, pf, bf, pg)

-- the end of the declarations at i: a semicolon or none, white space or none, and the brace
record EndAt (t : List ℕ) (i : ℕ) (q : End) (z : List ℕ) : Type 0 where
  f : ℕ
  brace-to : before_end t i ≡ f
  brace : drop f t ≡ ascii "}" ∷ z
  last : f + 1 ≡ i + length (written_end q)

-- where a brace stands, no semicolon is passed over
unmarked-brace : (t : List ℕ) (i e : ℕ) (z : List ℕ) → spaced t i ≡ e → drop e t ≡ ascii "}" ∷ z → before_end t i ≡ e
unfolding before_end past_semicolon pick is
unmarked-brace t i e z p h = rw (p, byte-on t e (ascii "}") z h) (spaced-none t e (ascii "}" ∷ z) (block-items z).0 h)

-- where a semicolon stands, it is
marked-brace : (t : List ℕ) (i e : ℕ) (c : Blanks) (z : List ℕ) → spaced t i ≡ e → drop e t ≡ ascii ";" ∷ (c.bytes ++ (ascii "}" ∷ z))
    → before_end t i ≡ e + 1 + length c.bytes
unfolding before_end past_semicolon pick is
marked-brace t i e c z p h =
    let x = c.bytes ++ (ascii "}" ∷ z) in
    rw (p, byte-on t e (ascii ";") x h)
    (spaced-on t (e + 1) c.bytes (ascii "}" ∷ z) c.blank (block-items z).0 (rest-one t e (ascii ";") x h))

-- so the end stands where it was written
shut_at : (t : List ℕ) (i : ℕ) (b : Blanks) (s : Shut) (z : List ℕ) → drop i t ≡ b.bytes ++ (written_shut s ++ z) → EndAt t i (record { gap = b; shut = s }) z
unfolding written_shut written_end
shut_at t i b closed z h =
    let k = rest-on t i b.bytes (ascii "}" ∷ z) h in
    record {
      f = i + length b.bytes;
      brace-to = unmarked-brace t i (i + length b.bytes) z (spaced-on t i b.bytes (ascii "}" ∷ z) b.blank (block-items z).0 h) k;
      brace = k;
      last = omega (arith, length-append b.bytes (ascii "}" ∷ []));
    }
shut_at t i b (parted c) z h =
    let x = c.bytes ++ (ascii "}" ∷ z) in
    let e = i + length b.bytes in
    let k : drop i t ≡ b.bytes ++ (ascii ";" ∷ x) = h ∙ ap (λ (l : List ℕ). b.bytes ++ l) (parted-onto c z) in
    let j = rest-on t i b.bytes (ascii ";" ∷ x) k in
    record {
      f = e + 1 + length c.bytes;
      brace-to = marked-brace t i e c z (spaced-on t i b.bytes (ascii ";" ∷ x) b.blank (block-items x).1 k) j;
      brace = rest-on t (e + 1) c.bytes (ascii "}" ∷ z) (rest-one t e (ascii ";") x j);
      last =
          omega (
            arith,
            length-append b.bytes (ascii ";" ∷ (c.bytes ++ (ascii "}" ∷ []))),
            length-append c.bytes (ascii "}" ∷ []),
          );
    }

-- with the white space before it
end-at : (t : List ℕ) (i : ℕ) (q : End) (z : List ℕ) → drop i t ≡ written_end q ++ z → EndAt t i q z
end-at t i q z h = shut_at t i q.gap q.shut z (h ∙ end-onto q z)

-- how long the white space and what closes the block are
end-length : (q : End) → length (written_end q) ≡ length q.gap.bytes + length (written_end (record { gap = unspaced; shut = q.shut }))
unfolding written_end
end-length q = length-append q.gap.bytes (written_shut q.shut)

-- what closes a block begins no white space and no declaration
shut-first : (s : Shut) (z : List ℕ) → (whitespace_item (written_shut s ++ z) ≡ 0) × (declaration_of (written_shut s ++ z) ≡ err)
unfolding written_shut
shut-first closed z = ((block-items z).0, (undeclared z).0)
shut-first (parted c) z = let x = (c.bytes ++ (ascii "}" ∷ [])) ++ z in ((block-items x).1, (undeclared x).1)

-- a block and the white space behind it are read whole
module _ (c : Blanks) (r : List ℕ) (hr : whitespace_item r ≡ 0) (t : List ℕ) (n : ℕ) where
  -- at an opening brace the block begins, and its contents follow
  opens : (x : List ℕ) → drop n t ≡ ascii "{" ∷ x → (spaced t n ≡ n) × (get_or t n 0 ≡ ascii "{") × (drop (n + 1) t ≡ x)
  opens x h =
      (spaced-none t n (ascii "{" ∷ x) (block-items x).3 h, byte-on t n (ascii "{") x h, rest-one t n (ascii "{") x h)

  -- a block without declarations is read whole
  empty-read : (q : End) → drop n t ≡ ascii "{" ∷ (written_end q ++ (c.bytes ++ r)) → block_of t n ≡ reads (n + 1 + length (written_end q) + length c.bytes) []
  empty-read q h =
      let z = c.bytes ++ r in
      let b = q.gap.bytes in
      let y = written_shut q.shut ++ z in
      let d = n + 1 + length b in
      let o = opens (written_end q ++ z) h in
      let e : drop (n + 1) t ≡ b ++ y = o.2 ∙ end-onto q z in
      let k : drop d t ≡ y = rest-on t (n + 1) b y e in
      let g = shut_at t (d + 0) unspaced q.shut z (ap (λ (i : ℕ). drop i t) (add-zero d) ∙ k) in
      let j : g.f + 1 + length c.bytes ≡ n + 1 + length (written_end q) + length c.bytes = omega (arith, g.last, end-length q) in
      parts-read t n d g.f (g.f + 1 + length c.bytes) [] 0 o.0 o.1 (spaced-on t (n + 1) b y q.gap.blank (shut-first q.shut z).0 e)
      (ap declarations_of k ∙ none_read y (shut-first q.shut z).1) g.brace-to (byte-on t g.f (ascii "}") z g.brace)
      (spaced-on t (g.f + 1) c.bytes r c.blank hr (rest-one t g.f (ascii "}") z g.brace))
      ∙ ap (λ (i : ℕ). reads i []) j

  -- a block with one declaration or more is read whole
  filled-read : (b : Blanks) (x : Item) (ms : List Next) (q : End)
      → drop n t ≡ ascii "{" ∷ (b.bytes ++ (written_item x ++ (written_nexts ms ++ (written_end q ++ (c.bytes ++ r)))))
      → block_of t n
      ≡ reads (n + 1 + length b.bytes + (length (written_item x) + length (written_nexts ms)) + length (written_end q) + length c.bytes)
      (map (starts_at (n + 1 + length b.bytes)) (means_item 0 x ∷ means_nexts (length (written_item x)) ms))
  filled-read b x ms q h =
      let z = c.bytes ++ r in
      let y = written_end q ++ z in
      let p = written_item x ++ (written_nexts ms ++ y) in
      let d = n + 1 + length b.bytes in
      let m = length (written_item x) + length (written_nexts ms) in
      let o = opens (b.bytes ++ p) h in
      let k : drop d t ≡ p = rest-on t (n + 1) b.bytes p o.2 in
      let j : d + length (written_item x) + length (written_nexts ms) ≡ d + m = omega arith in
      let i : drop (d + m) t ≡ y = ap (λ (i : ℕ). drop i t) (sym j) ∙ rest-on t (d + length (written_item x)) (written_nexts ms) y (rest-on t d (written_item x) (written_nexts ms ++ y) k) in
      let g = end-at t (d + m) q z i in
      parts-read t n d g.f (d + m + length (written_end q) + length c.bytes) _ m o.0 o.1
      (spaced-on t (n + 1) b.bytes p b.blank (item-item x (written_nexts ms ++ y)) o.2)
      (ap declarations_of k ∙ declarations-read x ms q z)
      g.brace-to (byte-on t g.f (ascii "}") z g.brace)
      (spaced-on t (g.f + 1) c.bytes r c.blank hr (rest-one t g.f (ascii "}") z g.brace) ∙ ap (λ (i : ℕ). i + length c.bytes) g.last)

  -- any block of the grammar
  pub block_read : (k : Block) → drop n t ≡ written_block k ++ (c.bytes ++ r)
      → block_of t n ≡ reads (n + length (written_block k) + length c.bytes) (means_block n k)
  unfolding written_block means_block
  block_read (empty q) h = empty-read q h ∙ ap (λ (i : ℕ). reads i []) (omega arith)
  block_read (filled b x ms q) h =
      let z = c.bytes ++ r in
      let w = written_item x in
      let v = written_nexts ms in
      let u = written_end q in
      let d = n + 1 + length b.bytes in
      let o : (b.bytes ++ (w ++ (v ++ u))) ++ z ≡ b.bytes ++ (w ++ (v ++ (u ++ z))) = append_assoc b.bytes (w ++ (v ++ u)) z ∙ ap (λ (l : List ℕ). b.bytes ++ l) (append_assoc w (v ++ u) z ∙ ap (λ (l : List ℕ). w ++ l) (append_assoc v u z)) in
      let i : d + (length w + length v) + length u + length c.bytes ≡ n + length (ascii "{" ∷ (b.bytes ++ (w ++ (v ++ u)))) + length c.bytes = omega (arith, length-append b.bytes (w ++ (v ++ u)), length-append w (v ++ u), length-append v u) in
      let m : map (starts_at d) (means_item 0 x ∷ means_nexts (length w) ms) ≡ means_item d x ∷ means_nexts (d + length w) ms = rw (moved_item d 0 x, moved-nexts d (length w) ms, add-zero d) in
      filled-read b x ms q (h ∙ ap (λ (l : List ℕ). (ascii "{") ∷ l) o)
      ∙ ap (λ (ds : List Declaration). reads (d + (length w + length v) + length u + length c.bytes) ds) m
      ∙ ap (λ (p : ℕ). reads p (means_item d x ∷ means_nexts (d + length w) ms)) i
