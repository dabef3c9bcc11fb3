-- Sheets of the grammar are read to their end, and the rules that are read are what they mean.
use mathlib.Core.Path.{◌≡◌, refl, ap, sym, subst, ◌∙◌}
use mathlib.Core.Bool.{true, false}
use mathlib.Core.List.{List, [], ◌∷◌, ◌++◌, map, append_assoc, append-nil}
use Prim.Native.Nat.{ℕ, zero, suc, ◌+◌, ◌-◌, ◌≤◌}
use native.Mathlib.Nat.{zero-add, add-zero}
use native.Mathlib.Omega.{arith}
use lib.ListN.{length, get_or, drop, length-append, drop_of_length-le}
use lib.Seq.{drop-append-add, drop-append_seam, drop-drop}
use borrow.Author.Tests.{not-true}
use Prim.Native.Char.{code as ascii}
use Rattle.combinators.specs.Choice.{pick, or, and, is, within}
use Rattle.combinators.specs.Parsed.{ok, on_parsed}
use Rattle.combinators.specs.Parsed as parser
use Rattle.combinators.specs.Repeat.{many, took}
use Rattle.combinators.proofs.Rules.{never, neither}
use Rattle.lexer.specs.Name.{is_nmstart, folded_char, ident_escape_of, nmstart_of, name_from, dash, name_of, ident_of}
use Rattle.lexer.specs.Token.{Token, token_of}
use Rattle.lexer.specs.Token as tokens
use Rattle.lexer.specs.Whitespace.{is_whitespace, comment_of, whitespace_item, skip_whitespace}
use Rattle.lexer.proofs.SyntaxName.{ident_code_point, ident-sequence}
use Rattle.lexer.proofs.SyntaxWhitespace.{skips-blank}
use Rattle.syntax.specs.Declaration.{Declaration}
use Rattle.syntax.specs.Selector.{Selector, RuleSet}
use Rattle.values.specs.Value.{Placed, bracket_of, closing, ending, step_of, Statement, stop, cons, on_step, scan, statement_of}
use Rattle.values.specs.Value as values
use Rattle.declarations.specs.Rules.{starts_at}
use Rattle.selectors.specs.Outcome.{reads, fails, on_outcome, behind, parsed, or_else}
use Rattle.selectors.specs.Selector.{class_of, attr_of, hash_of, pseudo_class_of, marked, blank_of, component_of, components_of, components_from, some_of, with_element_of, without_element_of, body_of, selector_of}
use Rattle.selectors.specs.SelectorList.{selectors_of}
use Rattle.sheets.specs.Sheet.{spaced, block_of, ruleset_of, statement_end, at_rule_of, statements_of, moved_by, sheet_from, sheet_of}
use Rattle.grammar.specs.Nth.{Blanks}
use Rattle.grammar.specs.Selectors.{written_group, means_group}
use Rattle.grammar.specs.Tokens.{brace, written_opening, closer, means_opening, means_closer, ends_name, folded}
use Rattle.grammar.specs.Balanced.{Balanced, written_balanced, Clear, Outside, Tight}
use Rattle.grammar.specs.Sheets.{Block, empty, filled, Rule, AtEnd, semicolon, braces, AtRule, Sheet, rule, at_rule, written_item, written_block, written_rule, written_at_end, written_at, written_statement, written_statements, written_sheet, means_block, means_rule, means_statements, means_sheet, unread_behind, unread, SheetRead}
use Rattle.grammar.specs.Sheets as sheets
use Rattle.grammar.proofs.ComponentsRead.{behind-blank}
use Rattle.grammar.proofs.Places.{rest-on, rest-one, byte-on, spaced-on, spaced-none}
use Rattle.grammar.proofs.GroupsRead.{group-item, group-read}
use Rattle.grammar.proofs.TokensRead.{name-item, token-read, semicolon-token, opening-begins, closer-read}
use Rattle.grammar.proofs.ValuesRead.{unspaced, conses, Passes, passes_on, passes-token, opening-goes, Halts, halts, closed, at-semicolon, at-brace, halts-ends}
use Rattle.grammar.proofs.BalancedRead.{Level, balanced-pass}
use Rattle.grammar.proofs.DeclarationsRead.{block-items}
use Rattle.grammar.proofs.BlocksRead.{block_read, moved_item, moved-nexts}

-- ---- at-rules
-- the token that a statement ends with
behind-scan : (l : ℕ) (t : List ℕ) (at n : ℕ) (k : Token) (cs : List ℕ) → token_of t ≡ ok n k → step_of true (bracket_of k) cs ≡ values.behind
    → scan (suc l) true t at cs ≡ cons (record { token = k; start = at + skip_whitespace t }) (stop (at + n) true)
unfolding scan on_parsed on_step
behind-scan l t at n k cs e p = rw (e, p)

-- tokens before it change neither where the statement ends nor that its brackets are right
conses-end : (ps : List Placed) (r : Statement) → ((conses ps r).taken ≡ r.taken) × ((conses ps r).balanced ≡ r.balanced)
unfolding conses cons
conses-end [] r = (refl, refl)
conses-end (p ∷ ps) r = conses-end ps r

-- so a statement of tokens that pass and one that ends it is taken whole
statement-whole : {s t : List ℕ} {cs : List ℕ} {ks : List Token} (p : Passes true s t 0 [] cs ks) (n : ℕ) (k : Token) → token_of t ≡ ok n k
    → step_of true (bracket_of k) cs ≡ values.behind → ((statement_of true s).taken ≡ p.taken + n) × ((statement_of true s).balanced ≡ true)
unfolding statement_of
statement-whole {s} {t} {cs} p n k e b =
    let l = length s - p.turns in
    let m : length s + 1 ≡ p.turns + suc l = omega (arith, p.few, p.all) in
    let w : scan (length s + 1) true s 0 [] ≡ conses p.placed (cons (record { token = k; start = 0 + p.taken + skip_whitespace t }) (stop (0 + p.taken + n) true)) =
    ap (λ (i : ℕ). scan i true s 0 []) m ∙ p.goes (suc l) ∙ ap (conses p.placed) (behind-scan l t (0 + p.taken) n k cs e b) in
    let c = conses-end p.placed (cons (record { token = k; start = 0 + p.taken + skip_whitespace t }) (stop (0 + p.taken + n) true)) in
    (ap (λ (r : Statement). r.taken) w ∙ c.0 ∙ taken-behind _ _ n, ap (λ (r : Statement). r.balanced) w ∙ c.1 ∙ balanced-behind _ _)
  where
    taken-behind : (q : Placed) (i n : ℕ) → (cons q (stop (0 + i + n) true)).taken ≡ i + n
    taken-behind q i n = unfold cons stop in omega arith

    balanced-behind : (q : Placed) (i : ℕ) → (cons q (stop i true)).balanced ≡ true
    balanced-behind q i = unfold cons stop in refl

-- a semicolon ends a statement, and so does the brace that closes a block outside all brackets
end-steps : (step_of true (bracket_of tokens.semicolon) [] ≡ values.behind) × (step_of true (bracket_of (means_closer brace)) (ascii "}" ∷ []) ≡ values.behind)
unfolding step_of bracket_of means_closer closing ending is pick
end-steps = (refl, refl)

-- what is written behind the name of an at-rule
unfoldable written_body : AtRule → List ℕ
written_body a = written_balanced a.prelude ++ (a.gap.bytes ++ written_at_end a.end)

-- a statement with x behind it, which is taken to its end
record Ended (w x : List ℕ) : Type 0 where
  taken : (statement_of true (w ++ x)).taken ≡ length w
  balanced : (statement_of true (w ++ x)).balanced ≡ true

-- by the tokens that pass and the one that ends it
ended_by : (w x : List ℕ) {s t : List ℕ} {cs : List ℕ} {ks : List Token} → w ++ x ≡ s → (p : Passes true s t 0 [] cs ks) (n : ℕ) (k : Token) → token_of t ≡ ok n k
    → step_of true (bracket_of k) cs ≡ values.behind → n + length x ≡ length t → Ended w x
ended_by w x {s} {t} e p n k o b z =
    let q = statement-whole p n k o b in
    let m : p.taken + n ≡ length w = omega (arith, p.all, ap length e, length-append w x) in
    record { taken = ap (λ (l : List ℕ). (statement_of true l).taken) e ∙ q.0 ∙ m; balanced = ap (λ (l : List ℕ). (statement_of true l).balanced) e ∙ q.1 }

module _ (v : Balanced) (h : Clear v) (o : Outside v) (r : Tight v) (g : Blanks) (x : List ℕ) where
  -- text up to a semicolon
  semicolon-ends : Ended (written_balanced v ++ (g.bytes ++ written_at_end semicolon)) x
  unfolding written_at_end Level
  semicolon-ends =
      let y = ascii ";" ∷ x in
      let e : (written_balanced v ++ (g.bytes ++ (ascii ";" ∷ []))) ++ x ≡ written_balanced v ++ (g.bytes ++ y) =
      append_assoc (written_balanced v) (g.bytes ++ (ascii ";" ∷ [])) x ∙ ap (λ (l : List ℕ). written_balanced v ++ l) (append_assoc g.bytes (ascii ";" ∷ []) x) in
      ended_by (written_balanced v ++ (g.bytes ++ (ascii ";" ∷ []))) x e (balanced-pass true [] v (g.bytes ++ y) 0 h o r (halts g.blank (at-semicolon x))).passes
      (length g.bytes + 1) tokens.semicolon (token-read g y 1 tokens.semicolon (semicolon-token x)) end-steps.0 (omega (arith, length-append g.bytes y))

  -- or up to the end of a block
  braces-end : (w : Balanced) (c : Clear w) (t : Tight w) (b : Blanks) → Ended (written_balanced v ++ (g.bytes ++ written_at_end (braces w c t b))) x
  unfolding written_at_end written_opening closer Level
  braces-end w c t b =
      let z = b.bytes ++ (ascii "}" ∷ x) in
      let y = written_balanced w ++ z in
      let f = written_balanced w ++ (b.bytes ++ (ascii "}" ∷ [])) in
      let i : f ++ x ≡ y =
      append_assoc (written_balanced w) (b.bytes ++ (ascii "}" ∷ [])) x ∙ ap (λ (l : List ℕ). written_balanced w ++ l) (append_assoc b.bytes (ascii "}" ∷ []) x) in
      let e : (written_balanced v ++ (g.bytes ++ (ascii "{" ∷ f))) ++ x ≡ written_balanced v ++ (g.bytes ++ (ascii "{" ∷ y)) =
      append_assoc (written_balanced v) (g.bytes ++ (ascii "{" ∷ f)) x
      ∙ ap (λ (l : List ℕ). written_balanced v ++ l) (append_assoc g.bytes (ascii "{" ∷ f) x ∙ ap (λ (l : List ℕ). g.bytes ++ (ascii "{" ∷ l)) i) in
      let p = (balanced-pass true [] v (g.bytes ++ (ascii "{" ∷ y)) 0 h o r (halts g.blank (at-brace y))).passes in
      let q = passes-token {include = true} g (ascii "{" ∷ []) y (0 + p.taken) (means_opening brace) [] (ascii "}" ∷ []) (opening-begins brace y) (opening-goes true g brace []) in
      let m = (balanced-pass true (ascii "}" ∷ []) w z (0 + p.taken + q.taken) c tt t (halts b.blank (closed brace x))).passes in
      ended_by (written_balanced v ++ (g.bytes ++ (ascii "{" ∷ f))) x e (passes_on p (passes_on q m)) (length b.bytes + 1) (means_closer brace) (closer-read b brace x) end-steps.1
      (omega (arith, length-append b.bytes (ascii "}" ∷ x)))

  -- either way an at-rule ends where its statement does
  body-ends : (e : AtEnd) → Ended (written_balanced v ++ (g.bytes ++ written_at_end e)) x
  body-ends semicolon = semicolon-ends
  body-ends (braces w c t b) = braces-end w c t b

-- a token ends before white space and the end of an at-rule
at-halts : (g : Blanks) (e : AtEnd) (x : List ℕ) → Halts ((g.bytes ++ written_at_end e) ++ x)
unfolding written_at_end
at-halts g semicolon x = subst Halts (sym (append_assoc g.bytes (ascii ";" ∷ []) x)) (halts g.blank (at-semicolon x))
at-halts g (braces w c t b) x =
    let f = written_balanced w ++ (b.bytes ++ (ascii "}" ∷ [])) in
    subst Halts (sym (append_assoc g.bytes (ascii "{" ∷ f) x)) (halts g.blank (at-brace (f ++ x)))

-- what an ident sequence ends before
name-ends : (x : ℕ) → ends_name x ≡ true → (ident_code_point x ≡ false) × ¬ (x ≡ ascii "\\")
unfolding ends_name
name-ends x e =
    let n = neither _ _ (not-true _ e) in
    (n.0, λ q. never (sym n.1 ∙ ap (λ (y : ℕ). is y (ascii "\\")) q ∙ (unfold is in refl)))

-- the body of an at-rule ends its name
body-first : (w z : List ℕ) → ends_name (get_or w 0 0) ≡ true → Halts z → ends_name (get_or (w ++ z) 0 0) ≡ true
body-first [] z e h = halts-ends h
body-first (y ∷ w) z e h = e

-- ---- an at-rule where it stands
-- '@' begins no white space, no selector and no block
at_first : (l : List ℕ) → (whitespace_item (ascii "@" ∷ l) ≡ 0) × (selectors_of (ascii "@" ∷ l) ≡ reads 0 [])
unfolding selectors_of selector_of body_of with_element_of without_element_of some_of components_from components_of component_of marked blank_of class_of attr_of hash_of pseudo_class_of on_outcome or_else parsed on_parsed ident_of name_of name_from dash nmstart_of folded_char ident_escape_of is_nmstart parser.behind skip_whitespace many took whitespace_item is_whitespace comment_of pick or and within is
at_first l = (refl, refl)

-- where no selector stands behind white space, and no block, there is no rule
no-rule : (t : List ℕ) (w : ℕ) (u : List ℕ) → skip_whitespace t ≡ w → drop w t ≡ u → selectors_of u ≡ reads 0 [] → whitespace_item u ≡ 0 → is (get_or t w 0) (ascii "{") ≡ false
    → ruleset_of t ≡ fails
unfolding ruleset_of on_outcome behind
no-rule t w u e d p z f = rw (e, d, p, no_block) refl
  where
    no_block : block_of t (w + 0) ≡ fails
    no_block = unfold block_of pick in rw (ap (spaced t) (add-zero w) ∙ spaced-none t w u z d, f)

-- an at-rule is a statement without a rule
at-statement : (t : List ℕ) (n : ℕ) → ruleset_of t ≡ fails → at_rule_of t ≡ reads n [] → statements_of t ≡ reads n []
unfolding statements_of behind on_outcome or_else
at-statement t n e p = rw (e, p)

-- by its parts: '@' at w, its name, and its body
at-by : (t : List ℕ) (w : ℕ) (name body x value : List ℕ) → skip_whitespace t ≡ w → get_or t w 0 ≡ ascii "@" → spaced t (w + 1) ≡ w + 1 → drop (w + 1) t ≡ name ++ (body ++ x)
    → ident_of (name ++ (body ++ x)) ≡ ok (length name) value → Ended body x → at_rule_of t ≡ reads (w + 1 + length name + length body) []
unfolding at_rule_of pick is on_parsed
at-by t w name body x value e b s d i h = rw (e, b, s, d, i) (end_by (w + 1 + length name) (rest-on t (w + 1) name (body ++ x) d))
  where
    end_by : (n : ℕ) → drop n t ≡ body ++ x → statement_end t n ≡ reads (n + length body) []
    end_by n k = unfold statement_end pick in rw (k, h.balanced, h.taken)

-- what is written, with x behind it
at-onto : (a : AtRule) (x : List ℕ) → written_at a ++ x ≡ ascii "@" ∷ (a.name.bytes ++ (written_body a ++ x))
unfolding written_at written_body
at-onto a x = ap (λ (l : List ℕ). (ascii "@") ∷ l) (append_assoc a.name.bytes (written_balanced a.prelude ++ (a.gap.bytes ++ written_at_end a.end)) x)

-- and how long it is
at_length : (a : AtRule) → length (written_at a) ≡ 1 + length a.name.bytes + length (written_body a)
unfolding written_at written_body
at_length a = omega (arith, length-append a.name.bytes (written_balanced a.prelude ++ (a.gap.bytes ++ written_at_end a.end)))

-- the name of an at-rule is read whole, folded
at_name : (a : AtRule) (x : List ℕ) → ident_of (a.name.bytes ++ (written_body a ++ x)) ≡ ok (length a.name.bytes) (folded a.name)
unfolding written_body folded
at_name a x =
    let z = (a.gap.bytes ++ written_at_end a.end) ++ x in
    let e = name-ends _ (ap (λ (l : List ℕ). ends_name (get_or l 0 0)) (append_assoc (written_balanced a.prelude) (a.gap.bytes ++ written_at_end a.end) x)
    ∙ body-first (written_balanced a.prelude) z a.ends (at-halts a.gap a.end x)) in
    ident-sequence a.name.bytes (written_body a ++ x) a.name.sequence e.0 e.1

-- an at-rule of the grammar, behind white space or none, is read whole, and says nothing
at_read : (b : Blanks) (a : AtRule) (x : List ℕ) → statements_of (b.bytes ++ (written_at a ++ x)) ≡ reads (length b.bytes + length (written_at a)) []
at_read b a x =
    let n = a.name.bytes in
    let y = n ++ (written_body a ++ x) in
    let t = b.bytes ++ (written_at a ++ x) in
    let w = length b.bytes in
    let f = at_first y in
    let d : drop w t ≡ ascii "@" ∷ y = drop-append_seam b.bytes (written_at a ++ x) ∙ at-onto a x in
    let s : skip_whitespace t ≡ w = ap (λ (l : List ℕ). skip_whitespace (b.bytes ++ l)) (at-onto a x) ∙ skips-blank b.bytes (ascii "@" ∷ y) b.blank f.0 in
    let c = byte-on t w (ascii "@") y d in
    let i = rest-one t w (ascii "@") y d in
    let p = spaced-none t (w + 1) y (name-item a.name (written_body a ++ x)) i in
    let m : w + 1 + length n + length (written_body a) ≡ w + length (written_at a) = omega (arith, at_length a) in
    at-statement t (w + length (written_at a)) (no-rule t w (ascii "@" ∷ y) s d f.1 f.0 (ap (λ (j : ℕ). is j (ascii "{")) c ∙ (unfold is in refl)))
    (at-by t w n (written_body a) x (folded a.name) s c p i (at_name a x) (unfold written_body in body-ends a.prelude a.clear a.outside a.tight a.gap x a.end) ∙ ap (λ (j : ℕ). reads j []) m)

-- ---- rules
-- a block begins with a brace
record Braced (t : List ℕ) : Type 0 where
  inside : List ℕ
  braced : t ≡ ascii "{" ∷ inside

-- so does any block of the grammar
block-braced : (k : Block) (x : List ℕ) → Braced (written_block k ++ x)
unfolding written_block
block-braced (empty e) x = record { inside = _; braced = refl }
block-braced (filled b d ms e) x = record { inside = _; braced = refl }

-- what is written, with x behind it
rule-onto : (r : Rule) (x : List ℕ) → written_rule r ++ x ≡ written_group r.selectors ++ (written_block r.block ++ (r.behind.bytes ++ x))
unfolding written_rule
rule-onto r x =
    append_assoc (written_group r.selectors) (written_block r.block ++ r.behind.bytes) x
    ∙ ap (λ (l : List ℕ). written_group r.selectors ++ l) (append_assoc (written_block r.block) r.behind.bytes x)

-- and how long it is
rule-length : (r : Rule) → length (written_rule r) ≡ length (written_group r.selectors) + length (written_block r.block) + length r.behind.bytes
unfolding written_rule
rule-length r =
    omega (
      arith,
      length-append (written_group r.selectors) (written_block r.block ++ r.behind.bytes),
      length-append (written_block r.block) r.behind.bytes,
    )

-- it begins with no white space
rule-item : (r : Rule) (x : List ℕ) → whitespace_item (written_rule r ++ x) ≡ 0
rule-item r x = ap whitespace_item (rule-onto r x) ∙ group-item r.selectors (written_block r.block ++ (r.behind.bytes ++ x))

-- white space before a block does not matter
block-behind : (t : List ℕ) (n m : ℕ) → spaced t n ≡ spaced t m → block_of t n ≡ block_of t m
unfolding block_of
block-behind t n m e = rw e

-- a rule behind w bytes of white space, by its selectors and its block
ruleset-by : (t : List ℕ) (w : ℕ) (u : List ℕ) (n : ℕ) (ss : List Selector) (m : ℕ) (ds : List Declaration) → skip_whitespace t ≡ w → drop w t ≡ u → selectors_of u ≡ reads n ss
    → block_of t (w + n) ≡ reads m ds → ruleset_of t ≡ reads m (record { selectors = ss; declarations = ds; start = w })
unfolding ruleset_of behind on_outcome
ruleset-by t w u n ss m ds e d p q = rw (e, d, p, q, zero-add m)

-- a rule of the grammar, behind white space or none
rule-read : (b : Blanks) (r : Rule) (x : List ℕ) → whitespace_item x ≡ 0
    → ruleset_of (b.bytes ++ (written_rule r ++ x)) ≡ reads (length b.bytes + length (written_rule r)) (means_rule (length b.bytes) r)
unfolding means_rule
rule-read b r x h =
    let y = written_block r.block ++ (r.behind.bytes ++ x) in
    let t = b.bytes ++ (written_rule r ++ x) in
    let w = length b.bytes in
    let g = written_group r.selectors in
    let v = block-braced r.block (r.behind.bytes ++ x) in
    let k = group-read r.selectors v.inside in
    let z = ascii "{" ∷ v.inside in
    let j : g ++ y ≡ g ++ z = ap (λ (l : List ℕ). g ++ l) v.braced in
    let d : drop w t ≡ g ++ y = drop-append_seam b.bytes (written_rule r ++ x) ∙ rule-onto r x in
    let i : drop (w + k.taken) t ≡ k.left.bytes ++ z = sym (drop-drop k.taken w t) ∙ ap (drop k.taken) (d ∙ j) ∙ k.rest in
    let f : drop (w + length g) t ≡ z = rest-on t w g z (d ∙ j) in
    let a : w + k.taken + length k.left.bytes ≡ w + length g = omega (arith, k.whole) in
    let e : spaced t (w + k.taken) ≡ spaced t (w + length g) =
    spaced-on t (w + k.taken) k.left.bytes z k.left.blank (block-items v.inside).3 i ∙ a ∙ sym (spaced-none t (w + length g) z (block-items v.inside).3 f) in
    let m : w + length g + length (written_block r.block) + length r.behind.bytes ≡ w + length (written_rule r) = omega (arith, rule-length r) in
    ruleset-by t w (g ++ y) k.taken (means_group r.selectors) _ _ (skips-blank b.bytes (written_rule r ++ x) b.blank (rule-item r x)) d (ap selectors_of j ∙ k.selectors)
    (block-behind t (w + k.taken) (w + length g) e ∙ block_read r.behind x h t (w + length g) r.block (f ∙ sym v.braced)
    ∙ ap (λ (i : ℕ). reads i (means_block (w + length g) r.block)) m)

-- a rule that is read is a statement of that one rule
statement-by : (t : List ℕ) (n : ℕ) (k : RuleSet) → ruleset_of t ≡ reads n k → statements_of t ≡ reads n (k ∷ [])
unfolding statements_of behind on_outcome or_else
statement-by t n k e = rw (e, zero-add n)

-- ---- sheets
-- a statement, and the sheet behind it
sheet-step : (l : ℕ) (t : List ℕ) (at n : ℕ) (rs : List RuleSet) (u : List ℕ) (m : ℕ) (ks : List RuleSet) → statements_of t ≡ reads n rs → drop n t ≡ u
    → sheet_from l u (at + n) ≡ reads m ks → sheet_from (suc l) t at ≡ reads m (map (moved_by at) rs ++ ks)
unfolding sheet_from behind on_outcome
sheet-step l t at n rs u m ks e d q = rw (e, d, q, zero-add m)

-- where there is none, it ends
sheet-stop : (l : ℕ) (t : List ℕ) (at : ℕ) → statements_of t ≡ fails → sheet_from l t at ≡ reads at []
unfolding sheet_from on_outcome
sheet-stop zero t at e = refl
sheet-stop (suc l) t at e = rw e

-- a rule where it stands
moved-block : (at k : ℕ) (b : Block) → map (starts_at at) (means_block k b) ≡ means_block (at + k) b
unfolding means_block
moved-block at k (empty e) = refl
moved-block at k (filled b d ms e) =
    let i = k + 1 + length b.bytes in
    let j : at + i ≡ at + k + 1 + length b.bytes = omega arith in
    let n : at + (i + length (written_item d)) ≡ at + k + 1 + length b.bytes + length (written_item d) = omega arith in
    rw (moved_item at i d, moved-nexts at (i + length (written_item d)) ms, j, n)

-- so with its start and its declarations
moved-rule : (at k : ℕ) (r : Rule) → moved_by at (means_rule k r) ≡ means_rule (at + k) r
unfolding moved_by means_rule
moved-rule at k r =
    let i : at + (k + length (written_group r.selectors)) ≡ at + k + length (written_group r.selectors) = omega arith in
    rw (moved-block at (k + length (written_group r.selectors)) r.block, i)

-- statements begin with no white space
statements-item : (ss : List sheets.Statement) → whitespace_item (written_statements ss) ≡ 0
unfolding written_statements written_statement
statements-item [] = unfold whitespace_item is_whitespace comment_of pick or is in refl
statements-item (rule r ∷ ss) = rule-item r (written_statements ss)
statements-item (at_rule a ∷ ss) =
    let x = written_statements ss in
    ap whitespace_item (append_assoc (written_at a) a.behind.bytes x ∙ at-onto a (a.behind.bytes ++ x)) ∙ (at_first (a.name.bytes ++ (written_body a ++ (a.behind.bytes ++ x)))).0

-- nothing begins at the end of the text
end-first : (whitespace_item [] ≡ 0) × (selectors_of [] ≡ reads 0 [])
unfolding selectors_of selector_of body_of with_element_of without_element_of some_of components_from components_of on_outcome or_else on_parsed ident_of name_of name_from dash nmstart_of folded_char ident_escape_of is_nmstart parser.behind skip_whitespace many took whitespace_item is_whitespace comment_of pick or and within is
end-first = (refl, refl)

-- so white space alone is no statement
blank-statement : (b : Blanks) → statements_of b.bytes ≡ fails
blank-statement b =
    let t = b.bytes in
    let s : skip_whitespace t ≡ length t = ap skip_whitespace (sym (append-nil t)) ∙ skips-blank t [] b.blank end-first.0 in
    let z : get_or t (length t) 0 ≡ 0 = ap (λ (l : List ℕ). get_or l (length t) 0) (sym (append-nil t)) ∙ behind-blank t [] in
    no-statement t (no-rule t (length t) [] s (drop_of_length-le t {i = length t} (omega arith)) end-first.1 end-first.0 (ap (λ (j : ℕ). is j (ascii "{")) z ∙ (unfold is in refl)))
    (no-at t (length t) s z)
  where
    no-at : (t : List ℕ) (w : ℕ) → skip_whitespace t ≡ w → get_or t w 0 ≡ 0 → at_rule_of t ≡ fails
    no-at t w e z = unfold at_rule_of pick is in rw (e, z)

    no-statement : (t : List ℕ) → ruleset_of t ≡ fails → at_rule_of t ≡ fails → statements_of t ≡ fails
    no-statement t e p = unfold statements_of behind on_outcome or_else in rw (e, p)

-- a rule is not empty
block-some : (k : Block) → 1 ≤ length (written_block k)
unfolding written_block
block-some (empty e) = omega arith
block-some (filled b d ms e) = omega arith

-- statements behind white space, from a byte on
record FromRead (b : Blanks) (ss : List sheets.Statement) (l at : ℕ) : Type 0 where
  place : ℕ
  from : sheet_from l (b.bytes ++ written_statements ss) at ≡ reads place (means_statements (at + length b.bytes) ss)
  whole : place + length (unread_behind b ss) ≡ at + length b.bytes + length (written_statements ss)

-- they are read, but for white space that no statement follows
from-read : (ss : List sheets.Statement) (b : Blanks) (l at : ℕ) → length b.bytes + length (written_statements ss) ≤ l → FromRead b ss l at
unfolding written_statements written_statement means_statements unread_behind
from-read [] b l at h =
    record {
      place = at;
      from = ap (λ (t : List ℕ). sheet_from l t at) (append-nil b.bytes) ∙ sheet-stop l b.bytes at (blank-statement b);
      whole = omega arith;
    }
from-read (rule r ∷ ss) b zero at h = absurd (omega (arith, length-append (written_rule r) (written_statements ss), rule-length r, block-some r.block))
from-read (rule r ∷ ss) b (suc l) at h =
    let x = written_statements ss in
    let w = length b.bytes in
    let n = w + length (written_rule r) in
    let q = length-append (written_rule r) x in
    let k = from-read ss unspaced l (at + n) (omega (arith, q, rule-length r, block-some r.block)) in
    let d : drop n (b.bytes ++ (written_rule r ++ x)) ≡ x = drop-append-add b.bytes (written_rule r ++ x) (length (written_rule r)) ∙ drop-append_seam (written_rule r) x in
    let i : at + n + 0 ≡ at + w + length (written_rule r) = omega arith in
    record {
      place = k.place;
      from =
          sheet-step l (b.bytes ++ (written_rule r ++ x)) at n (means_rule w r ∷ []) x k.place (means_statements (at + n + 0) ss) (statement-by _ n _ (rule-read b r x (statements-item ss))) d k.from
          ∙ ap (λ (j : RuleSet). reads k.place (j ∷ means_statements (at + n + 0) ss)) (moved-rule at w r)
          ∙ ap (λ (j : ℕ). reads k.place (means_rule (at + w) r ∷ means_statements j ss)) i;
      whole = omega (arith, k.whole, q);
    }
from-read (at_rule a ∷ ss) b zero at h = absurd (omega (arith, length-append (written_at a ++ a.behind.bytes) (written_statements ss), length-append (written_at a) a.behind.bytes, at_length a))
from-read (at_rule a ∷ ss) b (suc l) at h =
    let x = written_statements ss in
    let c = a.behind.bytes in
    let w = length b.bytes in
    let n = w + length (written_at a) in
    let q = length-append (written_at a ++ c) x in
    let p = length-append (written_at a) c in
    let k = from-read ss a.behind l (at + n) (omega (arith, q, p, at_length a)) in
    let o : b.bytes ++ ((written_at a ++ c) ++ x) ≡ b.bytes ++ (written_at a ++ (c ++ x)) = ap (λ (t : List ℕ). b.bytes ++ t) (append_assoc (written_at a) c x) in
    let d : drop n (b.bytes ++ (written_at a ++ (c ++ x))) ≡ c ++ x = drop-append-add b.bytes (written_at a ++ (c ++ x)) (length (written_at a)) ∙ drop-append_seam (written_at a) (c ++ x) in
    let i : at + n + length c ≡ at + w + length (written_at a ++ c) = omega (arith, p) in
    record {
      place = k.place;
      from =
          ap (λ (t : List ℕ). sheet_from (suc l) t at) o ∙ sheet-step l (b.bytes ++ (written_at a ++ (c ++ x))) at n [] (c ++ x) k.place (means_statements (at + n + length c) ss) (at_read b a (c ++ x)) d k.from
          ∙ ap (λ (j : ℕ). reads k.place (means_statements j ss)) i;
      whole = omega (arith, k.whole, q, p);
    }

-- every sheet that the grammar derives is read to its end, and the rules are what it means
pub sheet-read : (s : Sheet) → SheetRead s
unfolding sheet_of written_sheet means_sheet unread
sheet-read s =
    let t = s.lead.bytes ++ written_statements s.statements in
    let q = length-append s.lead.bytes (written_statements s.statements) in
    let k = from-read s.statements s.lead (length t) 0 (omega (arith, q)) in
    record {
      place = k.place;
      sheet = k.from ∙ ap (λ (i : ℕ). reads k.place (means_statements i s.statements)) (zero-add (length s.lead.bytes));
      whole = omega (arith, k.whole, q);
    }

-- where nothing is left, it is read whole
pub sheet-whole : (s : Sheet) → unread s ≡ [] → sheet_of (written_sheet s) ≡ reads (length (written_sheet s)) (means_sheet s)
sheet-whole s e =
    let k = sheet-read s in
    k.sheet ∙ ap (λ (n : ℕ). reads n (means_sheet s)) (sym (add-zero k.place) ∙ ap (λ (l : List ℕ). k.place + length l) (sym e) ∙ k.whole)

-- so are rules alone
rules-left : (b : Blanks) (r : Rule) (rs : List Rule) → unread_behind b (map rule (r ∷ rs)) ≡ []
unfolding unread_behind
rules-left b r [] = refl
rules-left b r (q ∷ rs) = rules-left unspaced q rs

-- white space or none, and one rule or more, each with white space or none behind it, are read whole
pub rules-read : (b : Blanks) (r : Rule) (rs : List Rule)
    → sheet_of (b.bytes ++ written_statements (map rule (r ∷ rs))) ≡ reads (length (b.bytes ++ written_statements (map rule (r ∷ rs)))) (means_statements (length b.bytes) (map rule (r ∷ rs)))
unfolding written_sheet means_sheet unread
rules-read b r rs = sheet-whole (record { lead = b; statements = map rule (r ∷ rs) }) (rules-left b r rs)
