-- The styles of rules one behind the other: the loop of `style_rules`.
use mathlib.Core.Path.{◌≡◌, refl, sym, ap, ◌∙◌}
use mathlib.Core.List.{List, [], ◌++◌}
use Prim.Native.Nat.{ℕ, zero, suc, ◌+◌, ◌-◌, ◌*◌, ◌/◌, ◌^◌, ◌≤◌, ◌<◌}
use native.Mathlib.Omega.{arith}
use lib.ListN.{length, get_or, drop, length-append, length-drop, length-map}
use lib.Seq.{sets, length-sets}
use Rattle.combinators.proofs.Wiped.{sets-append}
use Rattle.syntax.specs.Layout.{declaration_width, style_width}
use Rattle.syntax.specs.RuleLayout.{component_width, selector_components, selector_head, rule_head, rule_selectors, rule_declarations, read_selector, read_rule}
use Rattle.syntax.specs.Stream.{Read, read_many, texts_many}
use Rattle.combinators.proofs.ZeroLaws.{zeros-behind}
use Rattle.origins.specs.Rules.{selectors_read, rule_styles}
use Rattle.origins.proofs.WalkLaws.{component-rest, declaration-rest}
use Rattle.styles.specs.StyleCall.{in_numbers}
use Rattle.rule_styles.specs.Deciding.{deciding}
use Rattle.rule_styles.specs.Placing.{kept_head, placed_all, lying_styles, contents_at, styles_placed, styled_rule, rules_contents_at, styled_rules, kept, kept_rules}
use Rattle.rule_styles.specs.PlacingRoom.{ContentsRoom, RuleKeptRoom, RuleLies, EachLies, RulesKeptRoom}
use Rattle.rule_styles.specs.declared.placing.Placed.{Placed}
use Rattle.rule_styles.proofs.DecidingBounds.{deciding-fewer}
use Rattle.rule_styles.proofs.PlacingKept.{length-kept}
use Rattle.rule_styles.proofs.PlacingRule.{numbers-long, placed-long, rule-styles-few}

-- ---- what is left of a stream is no longer than the stream
-- behind values one behind the other, if so behind each
many-short : {A : Type 0} (u : List ℕ → Read A) → ((t : List ℕ) → length (u t).rest ≤ length t) → (k : ℕ) (t : List ℕ) → length (read_many u k t).rest ≤ length t
unfolding read_many
many-short u h zero t = omega arith
many-short u h (suc k) t = omega (arith, many-short u h k (u t).rest, h t)

module _ (text : List ℕ) where
  -- what is left behind a selector is no longer than the stream
  selector-short : (t : List ℕ) → length (read_selector text t).rest ≤ length t
  unfolding read_selector
  selector-short t =
      let n = get_or t selector_components 0 in
      omega (arith, ap length (component-rest text n (drop selector_head t)), length-drop (component_width * n) (drop selector_head t), length-drop selector_head t)

  -- behind the selectors of a rule
  selectors-short : (t : List ℕ) → length (selectors_read text t).rest ≤ length t - rule_head
  unfolding selectors_read
  selectors-short t = omega (arith, many-short (read_selector text) selector-short (get_or t rule_selectors 0) (drop rule_head t), length-drop rule_head t)

  -- behind a rule: its declarations are passed over
  rule-rest : (t : List ℕ) → length (read_rule text t).rest ≡ length (selectors_read text t).rest - declaration_width * get_or t rule_declarations 0
  unfolding read_rule selectors_read
  rule-rest t =
      let n = get_or t rule_declarations 0 in
      let s = (selectors_read text t).rest in
      ap length (declaration-rest text n s) ∙ length-drop (declaration_width * n) s

  -- so no more is left
  rule-short : (t : List ℕ) → length (read_rule text t).rest ≤ length t
  rule-short t = omega (arith, rule-rest t, selectors-short t)

  -- a rule that is there has its head and its declarations
  pub rule-takes : (t : List ℕ) → RuleLies text t → length (read_rule text t).rest + rule_head + declaration_width * get_or t rule_declarations 0 ≤ length t
  rule-takes t l = omega (arith, rule-rest t, selectors-short t, l.head, l.declared)

  -- what is left behind rules is no longer than the stream
  pub rules-short : (n : ℕ) (t : List ℕ) → length (read_many (read_rule text) n t).rest ≤ length t
  rules-short n t = many-short (read_rule text) rule-short n t

  -- ---- what is kept of a rule takes no more numbers than its head and its declarations
  -- as many styles are placed as it has
  styles-long : (f : ℕ) (t : List ℕ) → length (styles_placed text f t) ≡ length (rule_styles t) / style_width
  unfolding styles_placed lying_styles
  styles-long f t =
      length-map (placed_all text f (lying_styles t)) in_numbers ∙ placed-long text (lying_styles t) f ∙ numbers-long (length (rule_styles t) / style_width) (rule_styles t)

  -- and no more are kept
  pub kept-short : (f : ℕ) (t : List ℕ) → length (kept (deciding (styles_placed text f t))) ≤ kept_head + style_width * get_or t rule_declarations 0
  kept-short f t =
      omega (arith, length-kept (deciding (styles_placed text f t)), deciding-fewer (styles_placed text f t), styles-long f t, rule-styles-few t)

  -- what lies behind rules lies behind those that follow the first
  pub rest-behind : (n : ℕ) (t : List ℕ) → (read_many (read_rule text) (suc n) t).rest ≡ (read_many (read_rule text) n (read_rule text t).rest).rest
  unfolding read_many
  rest-behind n t = refl

  -- ---- room, for the first rule and for those behind it
  module _ (n : ℕ) (t tokens : List ℕ) (place : ℕ) (o : RulesKeptRoom text (suc n) t tokens place) where
    -- of rules that lie in the rows, the first does
    first-lies : RuleLies text t
    unfolding EachLies
    first-lies = o.lie.0

    -- and so are the others
    others-lie : EachLies text n (read_rule text t).rest
    unfolding EachLies
    others-lie = o.lie.1

    -- the store has room for what is kept of the first rule
    pub first-room : RuleKeptRoom t tokens place
    first-room =
        record {
          texts = text;
          declared = first-lies.declared;
          styled = omega (arith, o.room, ap length (rest-behind n t), rules-short n (read_rule text t).rest, rule-takes t first-lies);
          zeros = o.zeros;
        }

    -- room for the others, when the first is kept
    pub others-room : (f : ℕ) (w : List ℕ) → w ≡ sets tokens place (kept (deciding (styles_placed text f t)))
        → RulesKeptRoom text n (read_rule text t).rest w (place + length (kept (deciding (styles_placed text f t))))
    others-room f w e =
        let k = kept (deciding (styles_placed text f t)) in
        record {
          lie = others-lie;
          room = omega (arith, o.room, ap length (rest-behind n t), rule-takes t first-lies, kept-short f t, ap length e, length-sets tokens place k);
          zeros = rw e (zeros-behind tokens place o.zeros k);
        }

  -- ---- the first rule, and those behind it
  module _ (k : ℕ) (t : List ℕ) where
    -- what is kept of them
    pub one_kept : (f : ℕ) → kept_rules (styled_rules text f (suc k) t)
        ≡ kept (deciding (styles_placed text f t)) ++ kept_rules (styled_rules text (f + length (contents_at text t)) k (read_rule text t).rest)
    unfolding kept_rules styled_rules styled_rule texts_many
    one_kept f = refl

    -- the contents of the first rule, and those of the rules behind it
    one-content : rules_contents_at text (suc k) t ≡ contents_at text t ++ rules_contents_at text k (read_rule text t).rest
    unfolding rules_contents_at
    one-content = refl

  -- of no rule nothing is kept
  pub none_kept : (f : ℕ) (t : List ℕ) → kept_rules (styled_rules text f zero t) ≡ []
  unfolding kept_rules styled_rules texts_many
  none_kept f t = refl

  -- no rules have no contents
  none-content : (t : List ℕ) → rules_contents_at text zero t ≡ []
  unfolding rules_contents_at
  none-content t = refl

  -- reading no rules takes no number
  pub none_rest : (t : List ℕ) → (read_many (read_rule text) zero t).rest ≡ t
  unfolding read_many
  none_rest t = refl

-- ---- the loop of `style_rules`
module _ (rules : List ℕ) (at count : ℕ) (sheet tokens₀ : List ℕ) (place : ℕ) (contents₀ : List ℕ) (fill : ℕ) where
  -- what is kept of n rules from a place on
  abbrev kept_from : ℕ → ℕ → ℕ → List ℕ
  kept_from f rows n = kept_rules (styled_rules sheet f n (drop rows rules))

  -- the contents of n rules from a place on, one behind the other
  abbrev contents_from : ℕ → ℕ → List ℕ
  contents_from rows n = rules_contents_at sheet n (drop rows rules)

  -- what lies behind them
  abbrev rest_from : ℕ → ℕ → List ℕ
  rest_from rows n = (read_many (read_rule sheet) n (drop rows rules)).rest

  -- what is left to keep leaves what the whole leaves
  pub record Styling (tokens contents : List ℕ) (rows p f n : ℕ) : Type 0 where
    pub kept-left : sets tokens p (kept_from f rows n) ≡ sets tokens₀ place (kept_from fill at count)
    pub place-left : p + length (kept_from f rows n) ≡ place + length (kept_from fill at count)
    pub contents-left : sets contents f (contents_from rows n) ≡ sets contents₀ fill (contents_from at count)
    pub fill-left : f + length (contents_from rows n) ≡ fill + length (contents_from at count)
    pub rest-left : rest_from rows n ≡ rest_from at count
    pub room : RulesKeptRoom sheet n (drop rows rules) tokens p
    pub row-length : length tokens ≡ length tokens₀
    pub contents-length : length contents ≡ length contents₀

  module _ (o : RulesKeptRoom sheet count (drop at rules) tokens₀ place) (r : ContentsRoom contents₀ fill (contents_from at count)) where
    -- before the first rule nothing is kept, and all rules are left
    pub styling-begin : (n : ℕ) → n ≡ count → Styling tokens₀ contents₀ at place fill n
    styling-begin n e =
        rw e (record {
          kept-left = refl;
          place-left = refl;
          contents-left = refl;
          fill-left = refl;
          rest-left = refl;
          room = o;
          row-length = refl;
          contents-length = refl;
        })

    module _ (tokens contents : List ℕ) (rows p f : ℕ) where
      -- the rules that are left
      abbrev t : List ℕ
      t = drop rows rules

      -- room for the next rule
      next-room : (k : ℕ) → Styling tokens contents rows p f (suc k) → RuleKeptRoom t tokens p × ContentsRoom contents f (contents_at sheet t)
      next-room k c =
          let e = ap length (one-content sheet k t) ∙ length-append (contents_at sheet t) (rules_contents_at sheet k (read_rule sheet t).rest) in
          let b : f + length (contents_at sheet t) ≤ length contents = omega (arith, e, r.room, c.fill-left, c.contents-length) in
          let d : f + length (contents_at sheet t) < 2 ^ 32 = omega (arith, e, r.bits, c.fill-left) in
          (first-room sheet k t tokens p c.room, record { room = b; bits = d })

      -- with one rule kept, the rules behind it are left
      next-kept : (k : ℕ) → Styling tokens contents rows p f (suc k) → (w z : List ℕ) → w ≡ sets tokens p (kept (deciding (styles_placed sheet f t)))
          → z ≡ sets contents f (contents_at sheet t) → (next : ℕ) → drop next rules ≡ (read_rule sheet t).rest
          → Styling w z next (p + length (kept (deciding (styles_placed sheet f t)))) (f + length (contents_at sheet t)) k
      next-kept k c w z ew ez next d =
          let a = kept (deciding (styles_placed sheet f t)) in
          let b = contents_at sheet t in
          let others = kept_rules (styled_rules sheet (f + length b) k (read_rule sheet t).rest) in
          let behind = rules_contents_at sheet k (read_rule sheet t).rest in
          record {
            kept-left = rw (d, ew) (sym (sets-append tokens p a others) ∙ ap (sets tokens p) (sym (one_kept sheet k t f)) ∙ c.kept-left);
            place-left = rw d (omega (arith, length-append a others, ap length (one_kept sheet k t f), c.place-left));
            contents-left = rw (d, ez) (sym (sets-append contents f b behind) ∙ ap (sets contents f) (sym (one-content sheet k t)) ∙ c.contents-left);
            fill-left = rw d (omega (arith, length-append b behind, ap length (one-content sheet k t), c.fill-left));
            rest-left = ap (λ (l : List ℕ). (read_many (read_rule sheet) k l).rest) d ∙ sym (rest-behind sheet k t) ∙ c.rest-left;
            room = rw d (others-room sheet k t tokens p c.room f w ew);
            row-length = ap length ew ∙ length-sets tokens p a ∙ c.row-length;
            contents-length = ap length ez ∙ length-sets contents f b ∙ c.contents-length;
          }

      -- room for the next, while any is left
      pub styling-room : (n : ℕ) → Styling tokens contents rows p f n → 0 < n → RuleKeptRoom t tokens p × ContentsRoom contents f (contents_at sheet t)
      styling-room zero c h = absurd (omega arith)
      styling-room (suc k) c h = next-room k c

      -- a turn: the next rule is kept, with its contents, and the rules behind it are left
      pub styling-more : (n m : ℕ) → Styling tokens contents rows p f n → n ≡ suc m → (w z : List ℕ) (x : Placed)
          → w ≡ sets tokens p (kept (deciding (styles_placed sheet f t))) → z ≡ sets contents f (contents_at sheet t)
          → x ≡ record { place = p + length (kept (deciding (styles_placed sheet f t))); fill = f + length (contents_at sheet t) }
          → (next : ℕ) → ((store : List ℕ) → drop next rules ≡ (read_rule store t).rest) → Styling w z next x.place x.fill m
      styling-more n m c h w z x ew ez ex next d = rw ex (next-kept m (rw h at c) w z ew ez next (d sheet))

      -- when no rule is left, the styles of all are kept, their contents are stored, and all three places are behind them
      pub styling-done : (n : ℕ) → Styling tokens contents rows p f n → n ≤ 0
          → (tokens ≡ sets tokens₀ place (kept_from fill at count))
          × ((contents ≡ sets contents₀ fill (contents_from at count))
          × ((drop rows rules ≡ rest_from at count) × ((p ≡ place + length (kept_from fill at count)) × (f ≡ fill + length (contents_from at count)))))
      styling-done zero c h = (
        ap (sets tokens p) (sym (none_kept sheet f t)) ∙ c.kept-left,
        (
          ap (sets contents f) (sym (none-content sheet t)) ∙ c.contents-left,
          (
            sym (none_rest sheet t) ∙ c.rest-left,
            (omega (arith, c.place-left, ap length (none_kept sheet f t)), omega (arith, c.fill-left, ap length (none-content sheet t))),
          ),
        ),
      )
      styling-done (suc k) c h = absurd (omega arith)
