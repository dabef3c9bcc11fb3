-- The cascade by those styles that decide is the cascade by all of them, down a path.
use mathlib.Core.Path.{◌≡◌, refl, ap, sym, ◌∙◌}
use mathlib.Core.List.{List, [], ◌∷◌, ◌++◌, map, foldl, foldl-append}
use Prim.Native.Nat.{ℕ, ◌+◌}
use lib.ListN.{length}
use Rattle.syntax.specs.Style.{agent_origin, user_origin, author_origin}
use Rattle.syntax.specs.declared.styles.Value.{Value}
use Rattle.cascade.specs.declared.slots.Cascade.{Cascade}
use Rattle.cascade.specs.Record.{ComputedStyle, Formed, Declared, AttributeStyle, merge_by, from_rule, inherit_by, handed_by, finish_by, cascade_by}
use Rattle.cascade.specs.Slot.{update_by}
use Rattle.cascade.proofs.Cascading.{inherit-by-formed, merges-formed}
use Rattle.page.specs.Path.{Path}
use Rattle.styles.specs.declared.settings.Settings.{Settings}
use Rattle.styles.specs.Computed.{cascaded}
use Rattle.styles.specs.Merged.{early_declared, late_declared}
use Rattle.styles.specs.Said.{Rules, StyledRule, rules_say, counted_attributes, sources_from}
use Rattle.styles.specs.StyleCall.{path_contents, placed_attributes, placed_from}
use Rattle.styles.proofs.Called.{cascaded-formed}
use Rattle.styles.proofs.Merging.{declared-parts}
use Rattle.rule_styles.specs.Deciding.{deciding_rule}
use Rattle.rule_styles.proofs.DecidingSame.{rules-same}

-- three sheets, by the styles that decide
abbrev pub decided : Rules (StyledRule Value) → Rules (StyledRule Value)
decided r = record { agent = map deciding_rule r.agent; user = map deciding_rule r.user; author = map deciding_rule r.author }

module _ (c : Cascade) (rules : Rules (StyledRule Value)) where
  abbrev merged : ComputedStyle Value → List (Declared Value) → ComputedStyle Value
  merged s ds = foldl (merge_by (update_by c)) s ds

  -- declarations in five parts
  parts : (s : ComputedStyle Value) (a u e w l : List (Declared Value)) → merged s (a ++ (u ++ (e ++ (w ++ l)))) ≡ merged (merged (merged (merged (merged s a) u) e) w) l
  parts s a u e w l =
      foldl-append (merge_by (update_by c)) s a (u ++ (e ++ (w ++ l)))
      ∙ foldl-append (merge_by (update_by c)) (merged s a) u (e ++ (w ++ l))
      ∙ foldl-append (merge_by (update_by c)) (merged (merged s a) u) e (w ++ l)
      ∙ foldl-append (merge_by (update_by c)) (merged (merged (merged s a) u) e) w l

  -- at one element, below any formed parent, the deciding styles of the rules cascade to the same style as all of them
  element-decided : (parent : ComputedStyle Value) → Formed parent → (xs : List (AttributeStyle Value)) (p : Path)
      → cascade_by c parent (sources_from (decided rules) xs p) ≡ cascade_by c parent (sources_from rules xs p)
  unfolding cascade_by sources_from
  element-decided parent f xs p =
      let s₀ = inherit_by c parent in
      let f₀ = inherit-by-formed c parent f in
      let A = map (from_rule agent_origin) (rules_say p rules.agent) in
      let U = map (from_rule user_origin) (rules_say p rules.user) in
      let W = map (from_rule author_origin) (rules_say p rules.author) in
      let A' = map (from_rule agent_origin) (rules_say p (map deciding_rule rules.agent)) in
      let U' = map (from_rule user_origin) (rules_say p (map deciding_rule rules.user)) in
      let W' = map (from_rule author_origin) (rules_say p (map deciding_rule rules.author)) in
      let E = early_declared c xs in
      let L = late_declared c xs in
      let f₁ = merges-formed (update_by c) A s₀ f₀ in
      let f₂ = merges-formed (update_by c) U (merged s₀ A) f₁ in
      let f₃ = merges-formed (update_by c) E (merged (merged s₀ A) U) f₂ in
      ap (finish_by c (handed_by parent))
      (ap (merged s₀) (declared-parts c (sources_from (decided rules) xs p))
      ∙ parts s₀ A' U' E W' L
      ∙ ap (λ (s : ComputedStyle Value). merged (merged (merged (merged s U') E) W') L) (rules-same c agent_origin p rules.agent s₀ f₀)
      ∙ ap (λ (s : ComputedStyle Value). merged (merged (merged s E) W') L) (rules-same c user_origin p rules.user (merged s₀ A) f₁)
      ∙ ap (λ (s : ComputedStyle Value). merged s L) (rules-same c author_origin p rules.author (merged (merged (merged s₀ A) U) E) f₃)
      ∙ sym (parts s₀ A U E W L)
      ∙ ap (merged s₀) (sym (declared-parts c (sources_from rules xs p))))

  -- so down a path, from the top on: the deciding styles compute the same style as all of them
  pub path-decided : (from : ℕ) (settings : Settings) (p : Path) → cascaded c (placed_from (decided rules) from settings p) ≡ cascaded c (placed_from rules from settings p)
  unfolding placed_from cascaded
  path-decided from settings [] = refl
  path-decided from settings (e ∷ up) =
      let xs = placed_attributes (from + length (path_contents settings up)) (counted_attributes settings e) in
      ap (λ (s : ComputedStyle Value). cascade_by c s (sources_from (decided rules) xs (e ∷ up))) (path-decided from settings up)
      ∙ element-decided (cascaded c (placed_from rules from settings up)) (cascaded-formed c (placed_from rules from settings up)) xs (e ∷ up)
