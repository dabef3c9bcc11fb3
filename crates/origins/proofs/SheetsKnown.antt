-- What the answer of `read_sheets` tells of the three sheets: that each was read, and that the rules which lie in the stores are those that it means.
use mathlib.Core.Path.{◌≡◌, refl, ap, sym, ◌∙◌}
use mathlib.Core.List.{List, ◌++◌, append_assoc}
use Prim.Native.Nat.{ℕ, ◌+◌, ◌*◌, ◌-◌, ◌^◌, ◌≤◌, ◌<◌}
use native.Mathlib.Omega.{arith}
use lib.ListN.{length, drop, replicate, length-append}
use lib.Seq.{sets, drop_at}
use Rattle.combinators.specs.Store.{cleared}
use Rattle.combinators.specs.All.{All}
use Rattle.combinators.proofs.Cleared.{cleared-is, length-cleared}
use Rattle.syntax.specs.Layout.{style_width}
use Rattle.syntax.specs.RuleLayout.{rule_rows, rule_texts}
use Rattle.syntax.specs.Selector.{RuleSet}
use Rattle.syntax.proofs.RuleRows.{RulesFit, rules-back}
use Rattle.selectors.specs.Outcome.{Outcome, reads, fails, panics, on_outcome}
use Rattle.sheets.specs.Sheet.{sheet_of}
use Rattle.sheets.specs.SheetAnswer.{padded}
use Rattle.sheets.proofs.SheetBounds.{SheetKeeps, sheet-keeps}
use Rattle.sheets.proofs.SheetLaws.{sheet-never-fails, stored}
use Rattle.combinators.proofs.ZeroLaws.{clear-zeros}
use Rattle.origins.specs.Reading.{Sheets, rules, panicked, and_then, sheets_of, sheets_rules, sheets_answer, rules_from, SheetsRoom}
use Rattle.origins.specs.Checks.{Lent}
use Rattle.origins.specs.Rules.{RulesRoom}
use Rattle.origins.specs.declared.reading.SheetRules.{SheetRules}
use Rattle.origins.specs.Reading.{SheetsRules}
use Rattle.std.specs.Prelude.{Ok, Err}
use Rattle.origins.specs.declared.reading.SheetPanic.{SheetPanic}
use Rattle.origins.proofs.ChecksLaws.{none-long}
use Rattle.origins.proofs.RuleStyles.{each-room, styles-few-enough}

-- ---- a sheet that others follow was read
record Followed (o : Outcome (List RuleSet)) (next : List RuleSet → Sheets) (s : Sheets) : Type 0 where
  stop : ℕ
  read : List RuleSet
  was : o ≡ reads stop read
  then : next read ≡ s

-- a sheet with another behind it was read, where all three came to rules
followed : (o : Outcome (List RuleSet)) → (o ≡ fails → ⊥) → (which : ℕ) (next : List RuleSet → Sheets) (a u w : List RuleSet)
    → and_then which o next ≡ rules a u w → Followed o next (rules a u w)
unfolding and_then on_outcome
followed (reads n rs) never which next a u w e = record { stop = n; read = rs; was = refl; then = e }
followed fails never which next a u w e = absurd (never refl)
followed (panics p) never which next a u w e = absurd (let z : ◌≡◌ {A = ℕ} 0 1 = cc in omega arith)

pub record Known (agent user author : List ℕ) (a u w : List RuleSet) : Type 0 where
  pub agent-stop : ℕ
  pub user-stop : ℕ
  pub author-stop : ℕ
  pub agent-read : sheet_of agent ≡ reads agent-stop a
  pub user-read : sheet_of user ≡ reads user-stop u
  pub author-read : sheet_of author ≡ reads author-stop w

-- three sheets that were read, and came to the rules a, u and w, were read as these
known_by : {agent user author : List ℕ} {a u w x y z : List RuleSet} (i j k : ℕ) → sheet_of agent ≡ reads i x → sheet_of user ≡ reads j y → sheet_of author ≡ reads k z
    → rules x y z ≡ rules a u w → Known agent user author a u w
known_by {agent} {user} {author} {a} {u} {w} {x} {y} {z} i j k p q r e =
    let ea : x ≡ a = cc in
    let eu : y ≡ u = cc in
    let ew : z ≡ w = cc in
    record {
      agent-stop = i;
      user-stop = j;
      author-stop = k;
      agent-read = p ∙ ap (reads i) ea;
      user-read = q ∙ ap (reads j) eu;
      author-read = r ∙ ap (reads k) ew;
    }

-- sheets that came to rules were all read
pub sheets-known : (agent user author : List ℕ) (a u w : List RuleSet) → sheets_of agent user author ≡ rules a u w → Known agent user author a u w
unfolding sheets_of
sheets-known agent user author a u w e =
    let p = followed (sheet_of agent) (sheet-never-fails agent) _ _ a u w e in
    let q = followed (sheet_of user) (sheet-never-fails user) _ _ a u w p.then in
    let r = followed (sheet_of author) (sheet-never-fails author) _ _ a u w q.then in
    known_by p.stop q.stop r.stop p.was q.was r.was r.then

-- ---- by the answer
pub record Came (m : Sheets) (s : SheetsRules) : Type 0 where
  pub agent : List RuleSet
  pub user : List RuleSet
  pub author : List RuleSet
  pub is : m ≡ rules agent user author
  pub lie : s ≡ sheets_rules agent user author

-- an answer with rules says what the three sheets mean, and where each one's rules lie
pub came : (m : Sheets) (s : SheetsRules) → Ok s ≡ sheets_answer m → Came m s
unfolding sheets_answer
came (rules a u w) s h = record { agent = a; user = u; author = w; is = refl; lie = cc }
came (panicked which q) s h = absurd (let z : ◌≡◌ {A = ℕ} 0 1 = cc in omega arith)

-- an answer with a panic says in which sheet, and at which byte
pub panic-known : (s : Sheets) (panic : SheetPanic) → Err panic ≡ sheets_answer s → s ≡ panicked panic.text panic.place
unfolding sheets_answer
panic-known (rules a u w) panic e = absurd (let z : ◌≡◌ {A = ℕ} 0 1 = cc in omega arith)
panic-known (panicked v q) panic e = let z : record { text = v; place = q } ≡ panic = cc in ap (λ (r : SheetPanic). panicked r.text r.place) z

-- ---- three lists, one behind the other, and what lies from each on
module _ (xs ys zs more : List ℕ) where
  abbrev whole : List ℕ
  whole = (xs ++ (ys ++ zs)) ++ more

  -- from the start on lies all of it, in order
  pub from_first : drop 0 whole ≡ xs ++ ((ys ++ zs) ++ more)
  from_first = append_assoc xs (ys ++ zs) more

  -- from the end of the first on lie the second and the third
  pub from_second : (n : ℕ) → n ≡ length xs → drop n whole ≡ ys ++ (zs ++ more)
  from_second n e = ap (drop n) from_first ∙ drop_at xs ((ys ++ zs) ++ more) n (sym e) ∙ append_assoc ys zs more

  -- from the end of the second on lies the third
  pub from-third : (n : ℕ) → n ≡ length xs + length ys → drop n whole ≡ zs ++ more
  from-third n e =
      ap (λ (r : List ℕ). drop n (r ++ more)) (sym (append_assoc xs ys zs)) ∙ ap (drop n) (append_assoc (xs ++ ys) zs more)
      ∙ drop_at (xs ++ ys) (zs ++ more) n (length-append xs ys ∙ sym e)

-- ---- rules whose rows and texts lie from a place on
record Lies (rows texts : List ℕ) (s : SheetRules) (rs : List RuleSet) : Type 0 where
  behind : List ℕ
  more : List ℕ
  counted : s.count ≡ length rs
  rows_at : drop s.place rows ≡ rule_rows 0 rs ++ behind
  texts-at : drop s.from texts ≡ rule_texts rs ++ more

module _ {rows texts : List ℕ} {s : SheetRules} {rs : List RuleSet} (l : Lies rows texts s rs) (fit : RulesFit rs) where
  -- the rules that lie in the stores are read back
  back : rules_from rows texts s ≡ rs
  unfolding rules_from
  back = rw (l.counted, l.rows_at) (rules-back (drop s.from texts) rs 0 l.behind fit (record { more = l.more; held = l.texts-at }))

  -- and can be asked for their styles
  styled : (n : ℕ) → All (λ r. style_width * (length r.declarations + 1) ≤ n) rs → RulesRoom s.count (drop s.place rows) n
  styled n h =
      record {
        texts = drop s.from texts;
        each = rw (l.counted, l.rows_at) (each-room (drop s.from texts) n rs 0 l.behind fit (record { more = l.more; held = l.texts-at }) h);
      }

-- ---- stores that were cleared
-- a buffer cleared throughout, whatever it is that long
pub zeros_of : (l m : List ℕ) → length l ≡ length m → cleared 0 l ≡ replicate (length m) 0
zeros_of l m e =
    let z : length l - 0 ≡ length m = omega (arith, e) in
    cleared-is 0 l ∙ ap (λ (n : ℕ). replicate n 0) z

-- one that was cleared, and is as it was then, is zero throughout
pub zeros-kept : (l : List ℕ) {y x : List ℕ} → y ≡ cleared 0 l → x ≡ y → x ≡ replicate (length l) 0
zeros-kept l c e = e ∙ c ∙ zeros_of l l refl

-- room for the three sheets in stores of the least lengths
pub room-cleared : {agent user author rules₀ tokens₀ brackets₀ texts₀ t y x b : List ℕ} → Lent agent user author rules₀ tokens₀ brackets₀ texts₀
    → t ≡ cleared 0 texts₀ → y ≡ cleared 0 rules₀ → x ≡ cleared 0 tokens₀ → b ≡ cleared 0 brackets₀ → length rules₀ < 2 ^ 64 → SheetsRoom agent user author y x b t
room-cleared {agent} {user} {author} {rules₀} {tokens₀} {brackets₀} {texts₀} o et ey ex eb h =
    let w = none-long (length agent) (length user) (length author) o.within in
    rw (et, ey, ex, eb)
    (record {
      agent-within = w.0;
      user-within = w.1;
      author-within = w.2;
      rules-zeros = clear-zeros rules₀;
      tokens-zeros = clear-zeros tokens₀;
      brackets-zeros = clear-zeros brackets₀;
      texts-zeros = clear-zeros texts₀;
      row-bits = omega (arith, h, length-cleared 0 rules₀);
      for-rules = omega (arith, o.least.for-rules, length-cleared 0 rules₀);
      for-tokens = omega (arith, o.least.for-tokens, length-cleared 0 tokens₀);
      for-brackets = omega (arith, o.least.for-brackets, length-cleared 0 brackets₀);
      for-texts = omega (arith, o.least.for-texts, length-cleared 0 texts₀);
    })

-- ---- what lies in the stores is what the sheets mean
module _ {agent user author rules₀ tokens brackets texts₀ : List ℕ} (o : Lent agent user author rules₀ tokens brackets texts₀)
    {s : SheetsRules} (m : Came (sheets_of agent user author) s) where
  -- each of the three sheets was read, up to its stop
  pub known : Known agent user author m.agent m.user m.author
  known = sheets-known agent user author m.agent m.user m.author m.is

  -- the agent's rules, with their rows and texts, are within the bounds of its sheet
  pub agent-keeps : SheetKeeps agent known.agent-stop m.agent
  agent-keeps = sheet-keeps agent known.agent-stop m.agent known.agent-read

  -- the user's rules, with their rows and texts, are within the bounds of its sheet
  pub user-keeps : SheetKeeps user known.user-stop m.user
  user-keeps = sheet-keeps user known.user-stop m.user known.user-read

  -- the author's rules, with their rows and texts, are within the bounds of its sheet
  pub author-keeps : SheetKeeps author known.author-stop m.author
  author-keeps = sheet-keeps author known.author-stop m.author known.author-read

  abbrev pub rows_held : List ℕ
  rows_held = rule_rows 0 m.agent ++ (rule_rows 0 m.user ++ rule_rows 0 m.author)

  abbrev pub texts_held : List ℕ
  texts_held = rule_texts m.agent ++ (rule_texts m.user ++ rule_texts m.author)

  -- the rows of all three are as long as those of each together
  pub rows-length : length rows_held ≡ length (rule_rows 0 m.agent) + length (rule_rows 0 m.user) + length (rule_rows 0 m.author)
  rows-length =
      omega (arith, length-append (rule_rows 0 m.agent) (rule_rows 0 m.user ++ rule_rows 0 m.author), length-append (rule_rows 0 m.user) (rule_rows 0 m.author))

  -- the texts of all three are as long as those of each together
  pub texts-length : length texts_held ≡ length (rule_texts m.agent) + length (rule_texts m.user) + length (rule_texts m.author)
  texts-length =
      omega (arith, length-append (rule_texts m.agent) (rule_texts m.user ++ rule_texts m.author), length-append (rule_texts m.user) (rule_texts m.author))

  -- rows and texts are no more than the stores hold
  pub rows_fit : length rows_held ≤ length rules₀
  rows_fit =
      omega (arith, rows-length, agent-keeps.wide, user-keeps.wide, author-keeps.wide, agent-keeps.within, user-keeps.within, author-keeps.within, o.least.for-rules)

  -- their texts are no longer than the text store
  pub texts-fit : length texts_held ≤ length texts₀
  texts-fit =
      omega (arith, texts-length, agent-keeps.long, user-keeps.long, author-keeps.long, agent-keeps.within, user-keeps.within, author-keeps.within, o.least.for-texts)

  -- how the texts lie there
  pub texts-lie : sets (cleared 0 texts₀) 0 texts_held ≡ padded texts_held (length texts₀)
  texts-lie = stored texts_held texts₀ texts-fit

  module _ {rows texts : List ℕ} (er : rows ≡ sets (cleared 0 rules₀) 0 rows_held) (et : texts ≡ sets (cleared 0 texts₀) 0 texts_held) where
    unfoldable pub zr : List ℕ
    zr = replicate (length rules₀ - length rows_held) 0

    unfoldable pub zt : List ℕ
    zt = replicate (length texts₀ - length texts_held) 0

    -- the rules store is these rows, and zeros behind them
    pub rows_are : rows ≡ rows_held ++ zr
    unfolding padded zr
    rows_are = er ∙ stored rows_held rules₀ rows_fit

    -- the text store is these texts, and zeros behind them
    pub texts-are : texts ≡ texts_held ++ zt
    unfolding padded zt
    texts-are = et ∙ texts-lie

    -- where the rules of each sheet lie
    pub place₁ : s.agent ≡ record { count = length m.agent; place = 0; from = 0 }
    unfolding sheets_rules
    place₁ = ap (λ (v : SheetsRules). v.agent) m.lie

    -- the user's rules lie behind the agent's rows, and their texts behind the agent's texts
    pub place₂ : s.user ≡ record { count = length m.user; place = length (rule_rows 0 m.agent); from = length (rule_texts m.agent) }
    unfolding sheets_rules
    place₂ = ap (λ (v : SheetsRules). v.user) m.lie

    -- the author's rules lie behind the rows of the other two, and their texts behind their texts
    pub place₃ : s.author
        ≡ record { count = length m.author; place = length (rule_rows 0 m.agent) + length (rule_rows 0 m.user); from = length (rule_texts m.agent) + length (rule_texts m.user) }
    unfolding sheets_rules
    place₃ = ap (λ (v : SheetsRules). v.author) m.lie

    -- the agent's rows and texts lie at the places that the answer has for it
    agent-lies : Lies rows texts s.agent m.agent
    agent-lies =
        rw place₁
        (record {
          behind = _;
          more = _;
          counted = refl;
          rows_at = ap (drop 0) rows_are ∙ from_first (rule_rows 0 m.agent) (rule_rows 0 m.user) (rule_rows 0 m.author) zr;
          texts-at = ap (drop 0) texts-are ∙ from_first (rule_texts m.agent) (rule_texts m.user) (rule_texts m.author) zt;
        })

    -- the user's rows and texts lie at the places that the answer has for it
    user-lies : Lies rows texts s.user m.user
    user-lies =
        let n = length (rule_rows 0 m.agent) in
        let f = length (rule_texts m.agent) in
        rw place₂
        (record {
          behind = _;
          more = _;
          counted = refl;
          rows_at = ap (drop n) rows_are ∙ from_second (rule_rows 0 m.agent) (rule_rows 0 m.user) (rule_rows 0 m.author) zr n refl;
          texts-at = ap (drop f) texts-are ∙ from_second (rule_texts m.agent) (rule_texts m.user) (rule_texts m.author) zt f refl;
        })

    -- the author's rows and texts lie at the places that the answer has for it
    author-lies : Lies rows texts s.author m.author
    author-lies =
        let n = length (rule_rows 0 m.agent) + length (rule_rows 0 m.user) in
        let f = length (rule_texts m.agent) + length (rule_texts m.user) in
        rw place₃
        (record {
          behind = _;
          more = _;
          counted = refl;
          rows_at = ap (drop n) rows_are ∙ from-third (rule_rows 0 m.agent) (rule_rows 0 m.user) (rule_rows 0 m.author) zr n refl;
          texts-at = ap (drop f) texts-are ∙ from-third (rule_texts m.agent) (rule_texts m.user) (rule_texts m.author) zt f refl;
        })

    -- the rules that lie there are those of the sheets
    pub agent-back : rules_from rows texts s.agent ≡ m.agent
    agent-back = back agent-lies agent-keeps.fit

    -- the rules that are read back at the user's places are the user's
    pub user-back : rules_from rows texts s.user ≡ m.user
    user-back = back user-lies user-keeps.fit

    -- the rules that are read back at the author's places are the author's
    pub author-back : rules_from rows texts s.author ≡ m.author
    author-back = back author-lies author-keeps.fit

    -- the store of tokens has room for the styles of each
    pub agent-styled : RulesRoom s.agent.count (drop s.agent.place rows) (length tokens)
    agent-styled = styled agent-lies agent-keeps.fit (length tokens) (styles-few-enough agent _ _ known.agent-read _ _ (omega arith) o.least.for-tokens)

    -- the store of tokens has room for the styles of each of the user's rules
    pub user-styled : RulesRoom s.user.count (drop s.user.place rows) (length tokens)
    user-styled = styled user-lies user-keeps.fit (length tokens) (styles-few-enough user _ _ known.user-read _ _ (omega arith) o.least.for-tokens)

    -- the store of tokens has room for the styles of each of the author's rules
    pub author-styled : RulesRoom s.author.count (drop s.author.place rows) (length tokens)
    author-styled = styled author-lies author-keeps.fit (length tokens) (styles-few-enough author _ _ known.author-read _ _ (omega arith) o.least.for-tokens)

    -- the texts of each sheet lie in the store
    pub texts-within : (s.agent.from ≤ length texts) × (s.user.from ≤ length texts) × (s.author.from ≤ length texts)
    texts-within =
        let l : length texts ≡ length texts_held + length zt = ap length texts-are ∙ length-append texts_held zt in (
          omega (arith, ap (λ (v : SheetRules). v.from) place₁),
          omega (arith, l, texts-length, ap (λ (v : SheetRules). v.from) place₂),
          omega (arith, l, texts-length, ap (λ (v : SheetRules). v.from) place₃),
        )
