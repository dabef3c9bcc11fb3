-- The least lengths suffice, for every number of text bytes.
use Prim.Native.Nat.{ℕ, zero, suc, ◌+◌, ◌*◌, ◌≤◌, ◌<◌}
use mathlib.Core.Path.{◌≡◌, refl, ap}
use mathlib.Core.Bool.{true}
use mathlib.Core.List.{List, []}
use native.Mathlib.Nat.{add-mul, mul-le-mul_right}
use native.Mathlib.Omega.{arith}
use lib.ListN.{length, length-append}
use Rattle.combinators.specs.Choice.{is}
use Rattle.combinators.specs.LeastLengths.{stores_suffice, Least}
use Rattle.combinators.specs.declared.refusals.Refusal.{Refusal}
use Rattle.combinators.proofs.LeastLaws.{least}
use Rattle.combinators.proofs.Rules.{pick-holds}
use Rattle.origins.specs.Checks.{Lent}
use Rattle.origins.specs.Reading.{Sheets, rules, panicked, sheets_of, sheets_rows, sheets_texts, sheets_rules}
use Rattle.origins.proofs.SheetsKnown.{Came, rows_fit, texts-fit}
use Rattle.cascade.specs.declared.slots.Cascade.TheVariants.{Crate}
use Rattle.page.specs.Accepted.{attributes_before, texts_end, bytes_before, depth_limit}
use Rattle.page.specs.Ancestors.{depth_of}
use Rattle.page.specs.Path.{Attribute}
use Rattle.page.specs.PathOf.{attributes_from, element_at}
use Rattle.page.specs.Rows.{node_count, node_at, element_kind}
use Rattle.page.proofs.AcceptedPages.{Accepted, accepted}
use Rattle.page.proofs.RowFacts.{shallow}
use Rattle.page.proofs.Sums.{bytes-within, attributes-before-within}
use Rattle.compiled.specs.Sheet.{compiled_limit}
use Rattle.styles.specs.declared.settings.Settings.{Settings}
use Rattle.styles.specs.Room.{values_of}
use Rattle.styles.proofs.Room.{attributes-counted, values-short, inline-short}
use Rattle.page.specs.Lent.{Page}
use Rattle.styles.specs.Lent.{SheetTexts}
use Rattle.attributes.specs.Merging.{InlineRoom}
use Rattle.styling.specs.StyleAnswer.{call_bytes}
use Rattle.styling.proofs.StyleCalls.{call-lent}
use Rattle.runner.specs.LeastLengths.{run_text_bytes, rows_least}
use Rattle.runner.specs.PageRows.{row_contents, contents_before, page_rows}
use Rattle.runner.specs.State.{depths, part_width}
use Rattle.runner.proofs.PageContents.{contents-short}
use Rattle.runner.proofs.PageRowLaws.{rows_long}
use Rattle.running.specs.Ready.{texts_most}
use Rattle.agreement.specs.Calls.{AcceptedPage}
use Rattle.agreement.specs.LeastSuffice.{sheets_bytes, NoneLong, RoomFor, LeastSuffice}

-- what suffices for n bytes suffices for fewer
least-fewer : (n m numbers tokens brackets texts : ℕ) → m ≤ n → Least n numbers tokens brackets texts → Least m numbers tokens brackets texts
least-fewer n m numbers tokens brackets texts h l =
    record {
      for-texts = omega (arith, h, l.for-texts);
      for-brackets = omega (arith, h, l.for-brackets);
      for-rules = omega (arith, h, l.for-rules);
      for-tokens = omega (arith, h, l.for-tokens);
    }

-- stores of the least lengths have room for the rows and the texts of three sheets; sheets that are not read have none
sheets-room : {agent user author rules₀ tokens brackets texts₀ : List ℕ} → Lent agent user author rules₀ tokens brackets texts₀ → (m : Sheets) → sheets_of agent user author ≡ m
    → (length (sheets_rows m) ≤ length rules₀) × (length (sheets_texts m) ≤ length texts₀)
unfolding sheets_rows sheets_texts
sheets-room {agent} {user} {author} l (rules a u w) e =
    let c : Came (sheets_of agent user author) (sheets_rules a u w) = record { agent = a; user = u; author = w; is = e; lie = refl } in
    (rows_fit l c, texts-fit l c)
sheets-room l (panicked which place) e = (omega arith, omega arith)

-- a part at a depth that is not above the limit is one of all parts
part-inside : (d w : ℕ) → d ≤ depth_limit → d * w + w ≤ depths * w
part-inside d w h =
    let a : (d + 1) * w ≤ depths * w = mul-le-mul_right w (omega (arith, h)) in
    let e = add-mul d 1 w in
    omega arith

-- ---- the texts of a page, row by row
abbrev attributes_of : Page → ℕ → List Attribute
attributes_of g i = attributes_from g.attributes g.text (node_at g.nodes i).attribute_count (node_at g.nodes i).first_attribute

-- behind at most as many bytes as the rows before it have in the byte text, and two for each of their attributes, a row's values and two bytes for each of its own
-- attributes end within the same of all rows up to it
row-behind : (g : Page) (i fill : ℕ) → fill ≤ texts_most g i → fill + values_of (attributes_of g i) + 2 * length (attributes_of g i) ≤ texts_most g (suc i)
unfolding bytes_before texts_end attributes_before
row-behind g i fill h =
    let row = node_at g.nodes i in
    omega (
      arith,
      h,
      values-short g.attributes g.text row.attribute_count row.first_attribute (bytes_before g.nodes g.attributes i + row.name_length),
      attributes-counted g.attributes g.text row.attribute_count row.first_attribute,
    )

module _ (settings : Settings) (g : Page) where
  -- the contents of a row are at most two bytes for each of its attributes longer than their values
  row-contents-short : (i : ℕ) → length (row_contents settings g i) ≤ values_of (attributes_of g i) + 2 * length (attributes_of g i)
  unfolding row_contents element_at
  row-contents-short i =
      pick-holds (λ (x : List ℕ). length x ≤ values_of (attributes_of g i) + 2 * length (attributes_of g i)) (is (node_at g.nodes i).kind element_kind) _ []
      (λ _. inline-short settings (element_at g.nodes g.attributes g.text i)) (λ _. omega arith)

  -- so the contents of the rows before a row are no more than these can leave
  before-short : (i : ℕ) → length (contents_before settings g i) ≤ texts_most g i
  unfolding contents_before
  before-short zero = omega arith
  before-short (suc i) =
      omega (
        arith,
        length-append (contents_before settings g i) (row_contents settings g i),
        row-contents-short i,
        row-behind g i (length (contents_before settings g i)) (before-short i),
      )

module _ (n : ℕ) (rules₀ tokens brackets texts₀ : List ℕ) (enough : stores_suffice n (length rules₀) (length tokens) (length brackets) (length texts₀) ≡ true) where
  -- the same for any number of bytes up to n
  up-to : (m : ℕ) → m ≤ n → Least m (length rules₀) (length tokens) (length brackets) (length texts₀)
  up-to m h = least-fewer n m (length rules₀) (length tokens) (length brackets) (length texts₀) h (least refl enough)

  -- three sheets have the lengths that reading them asks for
  sheets-lent : (s : SheetTexts) → NoneLong s → sheets_bytes s ≤ n → Lent s.agent s.user s.author rules₀ tokens brackets texts₀
  sheets-lent s short h =
      record { within = short; least = up-to (sheets_bytes s) h }

  -- the attributes of each row of an accepted page have room behind all that the rows before it can leave
  row-room : (g : Page) (code : List ℕ) → AcceptedPage g → length code ≤ compiled_limit → run_text_bytes g ≤ n → (i fill : ℕ) → i < node_count g.nodes → fill ≤ texts_most g i
      → InlineRoom (attributes_of g i) (length code) fill rules₀ tokens brackets texts₀
  row-room g code page few h i fill there filled =
      let ok : Accepted g.nodes g.attributes g.text = accepted g.nodes g.attributes g.text page in
      let l = up-to (run_text_bytes g) h in
      let s : fill + values_of (attributes_of g i) + 2 * length (attributes_of g i) ≤ run_text_bytes g =
      omega (
        arith,
        row-behind g i fill filled,
        bytes-within g.nodes g.attributes g.text ok (suc i) (omega (arith, there)),
        attributes-before-within g.nodes g.attributes g.text ok (suc i) (omega (arith, there)),
      ) in
      record {
        for-rules = omega (arith, s, l.for-rules);
        for-tokens = omega (arith, s, l.for-tokens);
        for-brackets = omega (arith, s, l.for-brackets);
        for-texts = omega (arith, s, l.for-texts);
        bits = omega (arith, s, few, ok.few_bytes, ok.few-attributes);
      }

  -- sheets, style calls, each row of a run and its texts all have room in these stores
  room_for : RoomFor n rules₀ tokens brackets texts₀
  room_for =
      record {
        fewer = up-to;
        sheet-rows = λ s short h. (sheets-room (sheets-lent s short h) (sheets_of s.agent s.user s.author) refl).0;
        sheet-texts = λ s short h. (sheets-room (sheets-lent s short h) (sheets_of s.agent s.user s.author) refl).1;
        style-path = λ s g out short width h page i e.
            call-lent Crate (record { document_styles = true }) s g i out texts₀ rules₀ tokens brackets (record { within = short; row = width; least = up-to (call_bytes s g) h }) refl
            (ap (λ (r : Refusal). r.number) page) refl e;
        run_row = λ settings g code page few h i there. row-room g code page few h i (length (contents_before settings g i)) there (before-short settings g i);
        run-behind = row-room;
        run-texts = λ settings g page h. omega (arith, contents-short settings g page, (up-to (run_text_bytes g) h).for-texts);
      }

-- the style rows of a page are as many numbers as their least length
rows-whole : (code : List ℕ) (settings : Settings) (g : Page) → length (page_rows code settings g) ≡ rows_least g
unfolding page_rows
rows-whole code settings g = rows_long code settings g (node_count g.nodes)

-- for every n, stores of the least lengths for n bytes have room for all that takes at most n bytes; rows and state of theirs have room for a run
pub least-suffice : LeastSuffice
least-suffice =
    record {
      room = room_for;
      run-rows = rows-whole;
      run-state = λ code g page i there.
          part-inside (depth_of g.nodes i) (part_width code) (shallow g.nodes g.attributes g.text (accepted g.nodes g.attributes g.text page) i there);
    }
