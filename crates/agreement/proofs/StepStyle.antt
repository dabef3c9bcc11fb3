-- The style of an element by compiled bytes: where its parent's says the computed style of its path, contents read in the compiled bytes and the texts so far, it
-- says the computed style of the element's.
use Prim.Native.Nat.{ℕ, ◌+◌}
use mathlib.Core.Path.{◌≡◌, refl, ap, sym, subst, ◌∙◌}
use mathlib.Core.Bool.{false}
use mathlib.Core.List.{List, [], ◌∷◌, ◌++◌, map, append_assoc}
use native.Mathlib.Omega.{arith}
use lib.ListN.{length, drop, length-append}
use lib.Seq.{drop_at}
use Rattle.syntax.specs.Selector.{RuleSet}
use Rattle.syntax.specs.Style.{agent_origin, user_origin, author_origin, StyleValue}
use Rattle.syntax.specs.declared.styles.Value.{Value}
use Rattle.cascade.specs.declared.slots.Cascade.TheVariants.{Crate}
use Rattle.cascade.specs.Record.{ComputedStyle, empty_style, Declared, inherit_by, from_rule, from_attribute, crate_declared, declared_by, finish_by, cascade_by}
use Rattle.cascade.specs.Related.{Each, SameStyle}
use Rattle.cascade.specs.Slot.{update_by}
use Rattle.cascade.specs.Specificity.{inline_specificity}
use Rattle.cascade.proofs.Relating.{each_append, each_map, SameAttribute, SameDeclared, attribute-declared, inherit-same, merges-same, empty-same}
use Rattle.page.specs.Path.{Element, Path}
use Rattle.compiled.specs.Sheet.{encode}
use Rattle.compiled.proofs.Fits.{SheetFits}
use Rattle.styles.specs.declared.settings.Settings.{Settings}
use Rattle.styles.specs.Said.{Rules, rules_say, sources_from, meant_rule, meant_rules, counted_attributes, attributes_say}
use Rattle.styles.specs.Computed.{cascaded, sources_along, computed_style}
use Rattle.styles.specs.StyleCall.{inline_contents, placed_attributes}
use Rattle.styles.specs.Says.{Says}
use Rattle.styles.proofs.Lying.{Lies}
use Rattle.styles.proofs.Placed.{attributes-placed}
use Rattle.segments.specs.Down.{matching_of}
use Rattle.runner.specs.Walked.{walked, meant_selector}
use Rattle.runner.specs.PageRows.{selectors_declare, style_below}
use Rattle.agreement.specs.Demand.{sheets_selectors}
use Rattle.runner.proofs.RowBelow.{declared_below}
use Rattle.agreement.proofs.WalkedBack.{walked-said}
use Rattle.agreement.proofs.Declaring.{declared-alike, matching-alike, selectors-declare}

module _ (rules : Rules RuleSet) (settings : Settings) where
  abbrev code : List ℕ
  code = encode (sheets_selectors rules)

  -- a style says the computed style at a path: its contents are read in the compiled bytes and in what the text store has so far, whatever follows
  abbrev pub SaysComputed : List ℕ → ComputedStyle Value → Path → Type 0
  SaysComputed filled s p = (more : List ℕ) → SameStyle (Says (code ++ (filled ++ more))) s (computed_style Crate rules settings p)

  -- the document's, which has none
  pub document-styled : (filled : List ℕ) → SaysComputed filled empty_style []
  unfolding computed_style sources_along cascaded
  document-styled filled more = empty-same (Says (code ++ (filled ++ more)))

  -- it stays so where the store is filled further
  pub styled-further : (filled new : List ℕ) (s : ComputedStyle Value) (p : Path) → SaysComputed filled s p → SaysComputed (filled ++ new) s p
  styled-further filled new s p h more =
      subst (λ (t : List ℕ). SameStyle (Says (code ++ t)) s (computed_style Crate rules settings p)) (sym (append_assoc filled new more)) (h (new ++ more))

  module _ (fits : SheetFits (sheets_selectors rules)) (filled : List ℕ) (e : Element) (up : Path) where
    abbrev new : List ℕ
    new = inline_contents settings e

    abbrev counts : ℕ
    counts = length code + length filled

    -- the inline contents lie behind the compiled bytes and what the store has
    contents-there : (more : List ℕ) → Lies (code ++ ((filled ++ new) ++ more)) counts new
    contents-there more =
        record {
          within = omega (arith, length-append code ((filled ++ new) ++ more), length-append (filled ++ new) more, length-append filled new);
          there = record {
            more = more;
            held =
                ap (drop counts) (ap (λ (x : List ℕ). code ++ x) (append_assoc filled new more) ∙ sym (append_assoc code filled (new ++ more)))
                ∙ drop_at (code ++ filled) (new ++ more) counts (length-append code filled);
          };
        }

    -- what is declared for the element, its inline contents there
    abbrev declared : List (Declared Value)
    declared = declared_below (matching_of (e ∷ up) (walked code)) settings counts e

    -- the same with the styles themselves is what the sheets and the attributes say
    meant-declared : selectors_declare (matching_of (e ∷ up) (map meant_selector (sheets_selectors rules))) ++ map (from_attribute false inline_specificity) (attributes_say (counted_attributes settings e))
        ≡ declared_by Crate (sources_from (meant_rules rules) (attributes_say (counted_attributes settings e)) (e ∷ up))
    unfolding declared_by crate_declared sources_from meant_rules
    meant-declared =
        let a : List (Declared StyleValue) = map (from_rule agent_origin) (rules_say (e ∷ up) (map meant_rule rules.agent)) in
        let u : List (Declared StyleValue) = map (from_rule user_origin) (rules_say (e ∷ up) (map meant_rule rules.user)) in
        let w : List (Declared StyleValue) = map (from_rule author_origin) (rules_say (e ∷ up) (map meant_rule rules.author)) in
        let i : List (Declared StyleValue) = map (from_attribute false inline_specificity) (attributes_say (counted_attributes settings e)) in
        let rest : (a ++ (u ++ w)) ++ i ≡ a ++ (u ++ (w ++ i)) = simp append_assoc in
        ap (λ (x : List (Declared StyleValue)). x ++ i) (selectors-declare (e ∷ up) rules.agent rules.user rules.author) ∙ rest

    -- so all that is declared says what the sheets and the attributes say
    declared-right : (more : List ℕ)
        → Each (SameDeclared (Says (code ++ ((filled ++ new) ++ more)))) declared (declared_by Crate (sources_from (meant_rules rules) (attributes_say (counted_attributes settings e)) (e ∷ up)))
    declared-right more =
        let t : List ℕ = code ++ ((filled ++ new) ++ more) in
        subst (Each (SameDeclared (Says t)) declared) meant-declared
        (each_append (SameDeclared (Says t))
        (declared-alike (Says t) (matching-alike (Says t) (e ∷ up) (walked-said (sheets_selectors rules) fits ((filled ++ new) ++ more))))
        (each_map (SameAttribute (Says t)) (SameDeclared (Says t)) (from_attribute false inline_specificity) (from_attribute false inline_specificity) (λ a b. attribute-declared (Says t) false false inline_specificity a b refl)
        (by-contents t (contents-there more))))
      where
        by-contents : (t : List ℕ) → Lies t counts new → Each (SameAttribute (Says t)) (placed_attributes counts (counted_attributes settings e)) (attributes_say (counted_attributes settings e))
        by-contents t h = attributes-placed t (counted_attributes settings e) counts (unfold inline_contents in h)

    -- the style of the element below one that is right
    pub styled-below : (s : ComputedStyle Value) → SaysComputed filled s up → SaysComputed (filled ++ new) (style_below s (matching_of (e ∷ up) (walked code)) settings counts e) (e ∷ up)
    unfolding style_below computed_style sources_along cascaded cascade_by inherit_by update_by finish_by
    styled-below s h more =
        let t : List ℕ = code ++ ((filled ++ new) ++ more) in
        let above : SameStyle (Says t) s (computed_style Crate rules settings up) = styled-further filled new s up h more in
        merges-same (Says t) Crate (declared-right more) (inherit_by Crate s) (inherit_by Crate (computed_style Crate rules settings up)) (inherit-same (Says t) Crate s (computed_style Crate rules settings up) above)
