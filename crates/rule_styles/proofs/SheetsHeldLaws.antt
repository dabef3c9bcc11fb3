-- Sheets as `read_sheets` leaves them: each lies where its rules say, and the stores suffice for the styles of all three.
use mathlib.Core.Path.{◌≡◌, refl, ap, sym, subst, ◌∙◌}
use mathlib.Core.List.{List, [], ◌++◌, append_assoc, append-nil}
use Prim.Native.Nat.{ℕ, ◌+◌, ◌-◌, ◌*◌, ◌≤◌, ◌<◌}
use native.Mathlib.Omega.{arith}
use lib.ListN.{length, take, drop, length-append, length-drop}
use lib.Seq.{sets, length-sets, length-take-le, take_at}
use Rattle.combinators.specs.Store.{cleared, Zeros}
use Rattle.combinators.proofs.Cleared.{length-cleared}
use Rattle.combinators.proofs.Lists.{lent_from}
use Rattle.combinators.proofs.Wiped.{sets-append}
use Rattle.syntax.specs.RuleLayout.{rule_rows, rule_texts}
use Rattle.syntax.specs.Selector.{RuleSet}
use Rattle.combinators.proofs.ZeroLaws.{zeros-behind, clear-zeros}
use Rattle.origins.specs.Reading.{Sheets, SheetsRules, sheets_of, sheets_rows, sheets_texts, sheets_rules}
use Rattle.origins.specs.declared.reading.SheetRules.{SheetRules}
use Rattle.origins.proofs.ChecksLaws.{none-long}
use Rattle.origins.proofs.Parts.{sets-take}
use Rattle.origins.proofs.SheetsKnown.{Came, came, from_first, from_second, from-third, rows_held, texts_held, texts-length, agent-keeps, user-keeps, author-keeps, zr, zt, rows_are, texts-are, place₁, place₂, place₃, agent-back, user-back, author-back}
use Rattle.styles.specs.Said.{Rules}
use Rattle.styles.specs.StyleCall.{rules_contents, sheets_contents, placed_rules, placed_sheets}
use Rattle.rule_styles.specs.Placing.{sheet_text, rules_contents_at, rules_selectors, kept_rules}
use Rattle.rule_styles.specs.PlacingRoom.{ContentsRoom, RulesKeptRoom}
use Rattle.rule_styles.specs.Held.{sheets_from, SheetsHeld, sheets_kept, styled_places}
use Rattle.rule_styles.specs.Held.{StyledSheets}
use Rattle.rule_styles.proofs.PlacingParts.{text-lent}
use Rattle.rule_styles.proofs.SheetsStyled.{contents-short, SheetLies, sheet-room, sheet-contents-room, sheet-kept-short}

-- a sheet that lies where y says lies where an x equal to it says
lies-by : {rows texts : List ℕ} {end : ℕ} {rs : List RuleSet} (x y : SheetRules) → x ≡ y → SheetLies rows texts end y rs → SheetLies rows texts end x rs
lies-by x y e l = rw e l

module _ {s : SheetsRules} {rows tokens texts : List ℕ} (h : SheetsHeld s rows tokens texts) where
  abbrev meant : Sheets
  meant = sheets_of h.agent h.user h.author

  -- the three sheets came to rules, and s says where they lie
  pub m : Came meant s
  m = came meant s h.read

  abbrev pub a : List RuleSet
  a = m.agent

  abbrev pub u : List RuleSet
  u = m.user

  abbrev pub w : List RuleSet
  w = m.author

  -- the rules store is the cleared one with the rows of all three sheets at its start
  pub er : rows ≡ sets (cleared 0 h.rows₀) 0 (rows_held h.lent m)
  unfolding sheets_rows
  er = h.rows_are ∙ ap (λ (v : Sheets). sets (cleared 0 h.rows₀) 0 (sheets_rows v)) m.is

  -- the text store is the cleared one with the texts of all three sheets at its start
  pub et : texts ≡ sets (cleared 0 h.texts₀) 0 (texts_held h.lent m)
  unfolding sheets_texts
  et = h.texts-are ∙ ap (λ (v : Sheets). sets (cleared 0 h.texts₀) 0 (sheets_texts v)) m.is

  abbrev pub read : Rules RuleSet
  read = record { agent = a; user = u; author = w }

  -- the rules that lie there are those that were read
  pub sheets-are : sheets_from rows texts s ≡ read
  unfolding sheets_from
  sheets-are = rw (agent-back h.lent m er et, user-back h.lent m er et, author-back h.lent m er et) refl

  -- the texts end where those of agent, user and author together do
  pub end_is : s.end ≡ length (rule_texts a) + length (rule_texts u) + length (rule_texts w)
  unfolding sheets_rules
  end_is = ap (λ (v : SheetsRules). v.end) m.lie

  -- the texts end where those of all three sheets together do
  pub end-held : s.end ≡ length (texts_held h.lent m)
  end-held = end_is ∙ sym (texts-length h.lent m)

  -- how long the stores are, and what lies there
  pub rows_long : length rows ≡ length h.rows₀
  rows_long = ap length er ∙ length-sets (cleared 0 h.rows₀) 0 (rows_held h.lent m) ∙ length-cleared 0 h.rows₀

  -- the store of tokens is as long as the one that was lent
  pub tokens-long : length tokens ≡ length h.tokens₀
  tokens-long = ap length h.tokens-are ∙ length-cleared 0 h.tokens₀

  -- the text store is as long as the one that was lent
  pub texts-long : length texts ≡ length h.texts₀
  texts-long = ap length et ∙ length-sets (cleared 0 h.texts₀) 0 (texts_held h.lent m) ∙ length-cleared 0 h.texts₀

  abbrev pub bytes : ℕ
  bytes = length h.agent + length h.user + length h.author

  pub record Sizes : Type 0 where
    pub rows_short : length (rule_rows 0 a) + length (rule_rows 0 u) + length (rule_rows 0 w) ≤ 8 * bytes
    pub texts-short : length (rule_texts a) + length (rule_texts u) + length (rule_texts w) ≤ bytes
    pub few : bytes ≤ 3 * 32768

  -- the rows of all three are at most eight numbers for each byte of the sheets, and their texts at most a byte for each
  pub sizes : Sizes
  sizes =
      let ka = agent-keeps h.lent m in
      let ku = user-keeps h.lent m in
      let kw = author-keeps h.lent m in
      let short = none-long (length h.agent) (length h.user) (length h.author) h.lent.within in
      record {
        rows_short = omega (arith, ka.wide, ku.wide, kw.wide, ka.within, ku.within, kw.within);
        texts-short = omega (arith, ka.long, ku.long, kw.long, ka.within, ku.within, kw.within);
        few = omega (arith, short.0, short.1, short.2);
      }

  -- the store of tokens is zero throughout
  pub tokens-zero : Zeros tokens 0
  tokens-zero = rw h.tokens-are (clear-zeros h.tokens₀)

  -- ---- each sheet, in any stores that hold what was read and anything behind it
  module _ {rows' texts' : List ℕ} (X Y : List ℕ) (rx : rows' ≡ rows_held h.lent m ++ X) (tx : texts' ≡ texts_held h.lent m ++ Y) where
    -- the bytes from a place up to the end of the texts are q, where q stands there and is that long
    window : (from : ℕ) (q more : List ℕ) → drop from texts' ≡ q ++ more → length q ≡ s.end - from → sheet_text texts' from s.end ≡ q
    unfolding sheet_text
    window from q more e k = ap (take (s.end - from)) e ∙ take_at q more (s.end - from) k

    -- the agent's sheet lies where s says, whatever stands behind rows and texts
    pub agent-lies-in : SheetLies rows' texts' s.end s.agent a
    agent-lies-in =
        let T = rule_texts a in
        let q = rule_texts u ++ rule_texts w in
        lies-by _ _ (place₁ h.lent m er et) (record {
          behind = (rule_rows 0 u ++ rule_rows 0 w) ++ X;
          counted = refl;
          rows_at = ap (drop 0) rx ∙ from_first (rule_rows 0 a) (rule_rows 0 u) (rule_rows 0 w) X;
          held = record { more = q; held = window 0 (T ++ q) Y tx (omega (arith, end_is, length-append T q, length-append (rule_texts u) (rule_texts w))) };
          ordered = omega arith;
          fit = (agent-keeps h.lent m).fit;
        })

    -- the user's sheet lies where s says, whatever stands behind rows and texts
    pub user-lies-in : SheetLies rows' texts' s.end s.user u
    user-lies-in =
        let n = length (rule_rows 0 a) in
        let f = length (rule_texts a) in
        lies-by _ _ (place₂ h.lent m er et) (record {
          behind = rule_rows 0 w ++ X;
          counted = refl;
          rows_at = ap (drop n) rx ∙ from_second (rule_rows 0 a) (rule_rows 0 u) (rule_rows 0 w) X n refl;
          held =
              record {
                more = rule_texts w;
                held =
                    window f (rule_texts u ++ rule_texts w) Y
                    (ap (drop f) tx ∙ from_second (rule_texts a) (rule_texts u) (rule_texts w) Y f refl ∙ sym (append_assoc (rule_texts u) (rule_texts w) Y))
                    (omega (arith, end_is, length-append (rule_texts u) (rule_texts w)));
              };
          ordered = omega (arith, end_is);
          fit = (user-keeps h.lent m).fit;
        })

    -- the author's sheet lies where s says, whatever stands behind rows and texts
    pub author-lies-in : SheetLies rows' texts' s.end s.author w
    author-lies-in =
        let n = length (rule_rows 0 a) + length (rule_rows 0 u) in
        let f = length (rule_texts a) + length (rule_texts u) in
        lies-by _ _ (place₃ h.lent m er et) (record {
          behind = X;
          counted = refl;
          rows_at = ap (drop n) rx ∙ from-third (rule_rows 0 a) (rule_rows 0 u) (rule_rows 0 w) X n refl;
          held =
              record {
                more = [];
                held =
                    window f (rule_texts w) Y (ap (drop f) tx ∙ from-third (rule_texts a) (rule_texts u) (rule_texts w) Y f refl) (omega (arith, end_is))
                    ∙ sym (append-nil (rule_texts w));
              };
          ordered = omega (arith, end_is);
          fit = (author-keeps h.lent m).fit;
        })

  -- the agent's sheet lies in the stores as they were left
  pub agent-lies : SheetLies rows texts s.end s.agent a
  agent-lies = agent-lies-in (zr h.lent m er et) (zt h.lent m er et) (rows_are h.lent m er et) (texts-are h.lent m er et)

  -- the user's sheet lies in the stores as they were left
  pub user-lies : SheetLies rows texts s.end s.user u
  user-lies = user-lies-in (zr h.lent m er et) (zt h.lent m er et) (rows_are h.lent m er et) (texts-are h.lent m er et)

  -- the author's sheet lies in the stores as they were left
  pub author-lies : SheetLies rows texts s.end s.author w
  author-lies = author-lies-in (zr h.lent m er et) (zt h.lent m er et) (rows_are h.lent m er et) (texts-are h.lent m er et)

  -- the author's rows start behind those of the agent and the user
  pub author-place : s.author.place ≡ length (rule_rows 0 a) + length (rule_rows 0 u)
  author-place = ap (λ (x : SheetRules). x.place) (place₃ h.lent m er et)

  -- ---- the styles of the three, one behind the other
  abbrev pub Kept : ℕ → List RuleSet → List ℕ
  Kept fill rs = kept_rules (placed_rules fill rs)

  abbrev pub fa : ℕ
  fa = length (rules_contents a)

  abbrev pub fu : ℕ
  fu = fa + length (rules_contents u)

  abbrev pub pa : ℕ
  pa = length (Kept 0 a)

  abbrev pub pu : ℕ
  pu = pa + length (Kept fa u)

  pub record Fits : Type 0 where
    pub kept-a : pa + length (rules_selectors a) ≤ length (rule_rows 0 a)
    pub kept-u : length (Kept fa u) + length (rules_selectors u) ≤ length (rule_rows 0 u)
    pub kept-w : length (Kept fu w) + length (rules_selectors w) ≤ length (rule_rows 0 w)
    pub contents-a : length (rules_contents a) ≤ length (rule_texts a)
    pub contents-u : length (rules_contents u) ≤ length (rule_texts u)
    pub contents-w : length (rules_contents w) ≤ length (rule_texts w)
    pub tokens-room : 8 * bytes + 64 ≤ length tokens
    pub texts-room : 2 * bytes + 12 ≤ length texts
    pub rows-room : 8 * bytes + 64 ≤ length rows

  -- what is kept of each sheet, with a number for each selector, is no longer than its rows, and the stores have that room
  pub fits : Fits
  fits =
      record {
        kept-a = sheet-kept-short agent-lies 0;
        kept-u = sheet-kept-short user-lies fa;
        kept-w = sheet-kept-short author-lies fu;
        contents-a = contents-short a;
        contents-u = contents-short u;
        contents-w = contents-short w;
        tokens-room = omega (arith, tokens-long, h.lent.least.for-tokens);
        texts-room = omega (arith, texts-long, h.lent.least.for-texts);
        rows-room = omega (arith, rows_long, h.lent.least.for-rules);
      }

  -- the author's rows end before the end of the rules store
  pub author-before : s.author.place + length (rule_rows 0 w) < length rows
  author-before = omega (arith, author-place, sizes.rows_short, fits.rows-room)

  -- ---- the stores while the styles are made: the text store is split where the texts end, which lies in it
  pub end_in : s.end ≤ length texts
  end_in = omega (arith, end_is, sizes.texts-short, fits.texts-room)

  module _ {front contents : List ℕ} (ef : front ≡ take s.end texts) (ec : contents ≡ drop s.end texts) where
    -- what is lent of the texts from its place on is the text of a sheet
    pub its-text : (from : ℕ) → lent_from front from ≡ sheet_text texts from s.end
    its-text = text-lent texts front s.end ef

    -- the front is as long as that place says
    front-long : length front ≡ s.end
    front-long = ap length ef ∙ length-take-le s.end texts end_in

    -- the texts of each sheet start in it
    pub agent-in : s.agent.from ≤ length front
    agent-in = omega (arith, front-long, agent-lies.ordered)

    pub user-in : s.user.from ≤ length front
    user-in = omega (arith, front-long, user-lies.ordered)

    pub author-in : s.author.from ≤ length front
    author-in = omega (arith, front-long, author-lies.ordered)

    -- what lies behind the texts
    contents-long : length contents ≡ length texts - s.end
    contents-long = ap length ec ∙ length-drop s.end texts

    -- the store of tokens has room for what is kept of the agent's rules
    pub agent-room : RulesKeptRoom (lent_from front s.agent.from) s.agent.count (drop s.agent.place rows) tokens 0
    agent-room = sheet-room agent-lies (its-text s.agent.from) tokens 0 tokens-zero (omega (arith, sizes.rows_short, fits.tokens-room))

    -- there is room for the contents of the agent's rules
    pub agent-contents-room : ContentsRoom contents 0 (rules_contents_at (lent_from front s.agent.from) s.agent.count (drop s.agent.place rows))
    agent-contents-room = sheet-contents-room agent-lies (its-text s.agent.from) contents 0 (omega (arith, contents-long, end_is, sizes.texts-short, fits.contents-a, fits.texts-room)) (omega (arith, sizes.texts-short, sizes.few, fits.contents-a))

    module _ {t₁ c₁ : List ℕ} {p₁ f₁ : ℕ} (et₁ : t₁ ≡ sets tokens 0 (Kept 0 a)) (ec₁ : c₁ ≡ sets contents 0 (rules_contents a)) (ep₁' : p₁ ≡ 0 + pa) (ef₁' : f₁ ≡ 0 + fa) where
      -- what is kept of the agent's rules ends at pa
      ep₁ : p₁ ≡ pa
      ep₁ = omega (arith, ep₁')

      -- the contents of the agent's rules end at fa
      ef₁ : f₁ ≡ fa
      ef₁ = omega (arith, ef₁')

      -- behind what is kept of the agent's rules the store of tokens is zero
      zeros₁ : Zeros t₁ pa
      zeros₁ = let z : 0 + pa ≡ pa = omega arith in rw et₁ (subst (Zeros (sets tokens 0 (Kept 0 a))) z (zeros-behind tokens 0 tokens-zero (Kept 0 a)))

      -- with that stored, the store of tokens is as long as it was
      long-t₁ : length t₁ ≡ length tokens
      long-t₁ = ap length et₁ ∙ length-sets tokens 0 (Kept 0 a)

      -- with the agent's contents stored, the store of contents is as long as it was
      long-c₁ : length c₁ ≡ length texts - s.end
      long-c₁ = ap length ec₁ ∙ length-sets contents 0 (rules_contents a) ∙ contents-long

      -- behind what is kept of the agent's rules there is room for the user's
      pub user-room : RulesKeptRoom (lent_from front s.user.from) s.user.count (drop s.user.place rows) t₁ p₁
      user-room = rw ep₁ (sheet-room user-lies (its-text s.user.from) t₁ pa zeros₁ (omega (arith, long-t₁, sizes.rows_short, fits.kept-a, fits.tokens-room)))

      -- behind the agent's contents there is room for those of the user's rules
      pub user-contents-room : ContentsRoom c₁ f₁ (rules_contents_at (lent_from front s.user.from) s.user.count (drop s.user.place rows))
      user-contents-room =
          rw ef₁ (sheet-contents-room user-lies (its-text s.user.from) c₁ fa (omega (arith, long-c₁, end_is, sizes.texts-short, fits.contents-a, fits.contents-u, fits.texts-room)) (omega (arith, sizes.texts-short, sizes.few, fits.contents-a, fits.contents-u)))

      module _ {t₂ c₂ : List ℕ} {p₂ f₂ : ℕ} (et₂ : t₂ ≡ sets t₁ p₁ (Kept f₁ u)) (ec₂ : c₂ ≡ sets c₁ f₁ (rules_contents u)) (ep₂ : p₂ ≡ p₁ + length (Kept f₁ u)) (ef₂ : f₂ ≡ f₁ + length (rules_contents u)) where
        -- what is kept of both sheets ends at pu
        place₂-is : p₂ ≡ pu
        place₂-is = ep₂ ∙ ap (λ (n : ℕ). p₁ + length (Kept n u)) ef₁ ∙ ap (λ (n : ℕ). n + length (Kept fa u)) ep₁

        -- the contents of both sheets end at fu
        fill₂-is : f₂ ≡ fu
        fill₂-is = ef₂ ∙ ap (λ (n : ℕ). n + length (rules_contents u)) ef₁

        -- behind what is kept of both sheets the store of tokens is zero
        zeros₂ : Zeros t₂ p₂
        zeros₂ = rw (et₂, ep₂) (zeros-behind t₁ p₁ (rw ep₁ zeros₁) (Kept f₁ u))

        -- with both stored, the store of tokens is as long as it was
        long-t₂ : length t₂ ≡ length tokens
        long-t₂ = ap length et₂ ∙ length-sets t₁ p₁ (Kept f₁ u) ∙ long-t₁

        -- with the contents of both stored, the store of contents is as long as it was
        long-c₂ : length c₂ ≡ length texts - s.end
        long-c₂ = ap length ec₂ ∙ length-sets c₁ f₁ (rules_contents u) ∙ long-c₁

        -- behind what is kept of the agent's and the user's rules there is room for the author's
        pub author-room : RulesKeptRoom (lent_from front s.author.from) s.author.count (drop s.author.place rows) t₂ p₂
        author-room = sheet-room author-lies (its-text s.author.from) t₂ p₂ zeros₂ (omega (arith, place₂-is, long-t₂, sizes.rows_short, fits.kept-a, fits.kept-u, fits.tokens-room))

        -- behind the contents of both there is room for those of the author's rules
        pub author-contents-room : ContentsRoom c₂ f₂ (rules_contents_at (lent_from front s.author.from) s.author.count (drop s.author.place rows))
        author-contents-room =
            sheet-contents-room author-lies (its-text s.author.from) c₂ f₂ (omega (arith, fill₂-is, long-c₂, end_is, sizes.texts-short, fits.contents-a, fits.contents-u, fits.contents-w, fits.texts-room))
            (omega (arith, fill₂-is, sizes.texts-short, sizes.few, fits.contents-a, fits.contents-u, fits.contents-w))

        -- with the author's styles made, those of all three sheets are kept, with their contents
        module _ {t₃ c₃ : List ℕ} {p₃ f₃ : ℕ} (n : ℕ) (et₃ : t₃ ≡ sets t₂ p₂ (Kept f₂ w)) (ec₃ : c₃ ≡ sets c₂ f₂ (rules_contents w)) (ep₃ : p₃ ≡ p₂ + length (Kept f₂ w)) (ef₃ : f₃ ≡ f₂ + length (rules_contents w))
            (en : n ≡ s.author.place + length (rule_rows 0 w)) where
          -- the store of tokens is as it was, with what is kept of all three sheets at its start
          tokens-left : t₃ ≡ sets tokens 0 (sheets_kept read)
          unfolding sheets_kept placed_sheets
          tokens-left =
              let z : 0 + pa ≡ pa = omega arith in
              et₃
              ∙ ap (λ (k : ℕ). sets t₂ p₂ (Kept k w)) fill₂-is
              ∙ ap (λ (l : List ℕ). sets l p₂ (Kept fu w)) (et₂ ∙ ap (λ (k : ℕ). sets t₁ p₁ (Kept k u)) ef₁ ∙ ap (λ (k : ℕ). sets t₁ k (Kept fa u)) ep₁)
              ∙ ap (λ (k : ℕ). sets (sets t₁ pa (Kept fa u)) k (Kept fu w)) place₂-is
              ∙ sym (sets-append t₁ pa (Kept fa u) (Kept fu w))
              ∙ ap (λ (l : List ℕ). sets l pa (Kept fa u ++ Kept fu w)) et₁
              ∙ ap (λ (k : ℕ). sets (sets tokens 0 (Kept 0 a)) k (Kept fa u ++ Kept fu w)) (sym z)
              ∙ sym (sets-append tokens 0 (Kept 0 a) (Kept fa u ++ Kept fu w))

          -- the store of contents has those of all three sheets at its start
          contents-left : c₃ ≡ sets contents 0 (sheets_contents read)
          unfolding sheets_contents
          contents-left =
              let z : 0 + fa ≡ fa = omega arith in
              ec₃
              ∙ ap (λ (k : ℕ). sets c₂ k (rules_contents w)) fill₂-is
              ∙ ap (λ (l : List ℕ). sets l fu (rules_contents w)) (ec₂ ∙ ap (λ (k : ℕ). sets c₁ k (rules_contents u)) ef₁)
              ∙ sym (sets-append c₁ fa (rules_contents u) (rules_contents w))
              ∙ ap (λ (l : List ℕ). sets l fa (rules_contents u ++ rules_contents w)) ec₁
              ∙ ap (λ (k : ℕ). sets (sets contents 0 (rules_contents a)) k (rules_contents u ++ rules_contents w)) (sym z)
              ∙ sym (sets-append contents 0 (rules_contents a) (rules_contents u ++ rules_contents w))

          -- the text store is as it was, with the contents of all three sheets behind their texts
          texts-left : front ++ c₃ ≡ sets texts s.end (sheets_contents read)
          texts-left =
              ap (λ (l : List ℕ). front ++ l) (contents-left ∙ ap (λ (l : List ℕ). sets l 0 (sheets_contents read)) ec) ∙ ap (λ (l : List ℕ). l ++ sets (drop s.end texts) 0 (sheets_contents read)) ef
              ∙ sets-take s.end texts (sheets_contents read) end_in

          -- the place behind the rows
          rows_end : n ≡ length (rule_rows 0 a) + length (rule_rows 0 u) + length (rule_rows 0 w)
          rows_end = omega (arith, en, author-place)

          -- an answer with these places of rules, styles and contents is the one that the sheets ask for
          places-left : (v : StyledSheets) → v.sheets.agent ≡ record { rules = s.agent; styles = 0 } → v.sheets.user ≡ record { rules = s.user; styles = p₁ } → v.sheets.author ≡ record { rules = s.author; styles = p₂ }
              → v.sheets.end ≡ s.end → v.rows ≡ n → v.behind ≡ p₃ → v.fill ≡ f₃ → v ≡ styled_places s read
          unfolding styled_places sheets_contents placed_sheets
          places-left v ea eu ew ee er₁ eb ef =
              let k : f₃ ≡ length (rules_contents a ++ (rules_contents u ++ rules_contents w)) = omega (arith, ef₃, fill₂-is, length-append (rules_contents a) (rules_contents u ++ rules_contents w), length-append (rules_contents u) (rules_contents w)) in
              let b : p₃ ≡ pu + length (Kept fu w) = ep₃ ∙ ap (λ (i : ℕ). p₂ + length (Kept i w)) fill₂-is ∙ ap (λ (i : ℕ). i + length (Kept fu w)) place₂-is in
              rw (ea, eu ∙ ap (λ (i : ℕ). record { rules = s.user; styles = i }) ep₁, ew ∙ ap (λ (i : ℕ). record { rules = s.author; styles = i }) place₂-is, ee, er₁ ∙ rows_end, eb ∙ b, ef ∙ k) refl

          -- what `style_sheets` answers and leaves
          pub styled-left : (v : StyledSheets) → v.sheets.agent ≡ record { rules = s.agent; styles = 0 } → v.sheets.user ≡ record { rules = s.user; styles = p₁ } → v.sheets.author ≡ record { rules = s.author; styles = p₂ }
              → v.sheets.end ≡ s.end → v.rows ≡ n → v.behind ≡ p₃ → v.fill ≡ f₃
              → (v ≡ styled_places s (sheets_from rows texts s)) × ((t₃ ≡ sets tokens 0 (sheets_kept (sheets_from rows texts s))) × (front ++ c₃ ≡ sets texts s.end (sheets_contents (sheets_from rows texts s))))
          styled-left v ea eu ew ee er₁ eb ef = rw sheets-are (places-left v ea eu ew ee er₁ eb ef, (tokens-left, texts-left))
