-- What reading declarations leaves in the lent stores: the rows and texts of what was read; what was written on the way is zero again, and
-- nothing else has changed.
use Rattle.std.specs.Prelude.{ℕ, zero, suc, ◌+◌, ◌-◌, ◌*◌, ◌^◌, ◌≤◌, ◌<◌, Bool, false, Option, Some, None, Result, Ok, Err, ◌≡◌, List, [], ◌∷◌, map, length, get_or, drop}
use Rattle.std.proofs.lemmas.List.Edits.{sets}
use Prim.Native.Char.{code as ascii}
use Rattle.combinators.specs.Choice.{pick, is}
use Rattle.combinators.specs.declared.lent.Stores.{Stores}
use Rattle.combinators.specs.Parsed.{Parsed, ok, on_parsed}
use Rattle.combinators.specs.Store.{wiped, most}
use Rattle.combinators.specs.Part.{part}
use Rattle.lexer.specs.Name.{ident_of, name_text}
use Rattle.lexer.specs.TokenRow.{token_width}
use Rattle.lexer.specs.Whitespace.{skip_whitespace}
use Rattle.lexer.specs.Token.{text_of}
use Rattle.syntax.specs.Declaration.{Declaration}
use Rattle.syntax.specs.Stream.{texts_many}
use Rattle.syntax.specs.Layout.{declaration_width, flag, declaration_text, declaration_rows, declaration_texts, style_width, style_rows, style_texts}
use Rattle.syntax.specs.Style.{StyleDecl}
use Rattle.values.specs.Value.{statement_of}
use Rattle.values.specs.Layout.{texts_of, Room}
use Rattle.values.specs.Property.{decl_of}
use Rattle.values.specs.View.{tokens_at}
use Rattle.values.specs.DeclAnswer.{decl_answer, text_length, numbers_of}
use Rattle.values.specs.declared.properties.Decl as declared
use Rattle.values.specs.ColourAnswer.{colour_answer}
use Rattle.declarations.specs.Rules.{property_of, declaration_of, Rules, more_rules, declarations_of}
use Rattle.declarations.specs.DeclRow.{named_decl, kept_text, row_by}
use Rattle.declarations.specs.Attribute.{style_attribute, colour_attribute}
use Rattle.declarations.specs.declared.attributes.StylesRead.{StylesRead}
use Rattle.declarations.specs.declared.rules.PropertyHead.{PropertyHead}
use Rattle.declarations.specs.declared.rules.NoProperty.{NoProperty}
use Rattle.declarations.specs.declared.rules.DeclarationRead.{DeclarationRead}
use Rattle.declarations.specs.declared.rules.RulesRead.{RulesRead}

-- ---- what is kept: declarations of a text that starts at a byte; the names of unknown ones only if asked
unfoldable pub kept : Bool → ℕ → Declaration → Declaration
kept names at d = record { decl = named_decl names d.decl; important = d.important; start = at + d.start }

unfoldable pub kept_of : Bool → ℕ → Parsed Declaration → List Declaration
kept_of names at p = on_parsed p (λ n d. kept names at d ∷ []) []

-- ---- what is used on the way: tokens, and bytes of text
pub record Used : Type 0 where
  pub tokens : ℕ
  pub bytes : ℕ

unfoldable pub unused : Used
unused = record { tokens = 0; bytes = 0 }

-- by a declaration, also one that does not read: its name and the tokens of its value
unfoldable pub used_by : List ℕ → Used
used_by s =
    on_parsed (property_of s)
    (λ v name. let ts = (statement_of false (drop v s)).tokens in record { tokens = length ts; bytes = length name + length (texts_of ts) })
    (record { tokens = 0; bytes = length (name_text (ident_of s)) })

-- by one declaration that keeps n bytes of text, and by more behind it
unfoldable pub used_then : Used → ℕ → Used → Used
used_then u n w = record { tokens = most u.tokens w.tokens; bytes = most u.bytes (n + w.bytes) }

unfoldable pub text_kept : Bool → Declaration → ℕ
text_kept names d = length (declaration_text (kept names 0 d))

-- by declarations behind a first one, as `more_rules` reads them
unfoldable pub used_more : Bool → ℕ → List ℕ → Used
used_more names zero s = unused
used_more names (suc l) s =
    let w = 1 + skip_whitespace (drop 1 s) in
    pick (is (get_or s 0 0) (ascii ";"))
    (on_parsed (declaration_of (drop w s)) (λ n d. used_then (used_by (drop w s)) (text_kept names d) (used_more names l (drop (w + n) s))) (used_by (drop w s)))
    unused

unfoldable pub used_rules : Bool → List ℕ → Used
used_rules names s =
    on_parsed (declaration_of s) (λ n d. used_then (used_by s) (text_kept names d) (used_more names (length s) (drop n s))) (used_by s)

-- ---- what is left
pub record Leaves (A : Type 0) : Type 0 where
  pub answer : A
  pub rules : List ℕ
  pub tokens : List ℕ
  pub brackets : List ℕ
  pub store : List ℕ

-- by a call that is lent the stores: its answer, and what they then hold
abbrev pub leaving : {A : Type 0} → A → Stores → Leaves A
leaving a stores = record { answer = a; rules = stores.rules.now; tokens = stores.tokens.now; brackets = stores.brackets.now; store = stores.texts.now }

unfoldable pub leaves : {A : Type 0} → A → List Declaration → Used → List ℕ → ℕ → List ℕ → List ℕ → List ℕ → ℕ → Leaves A
leaves a ds u rules place tokens brackets store fill =
    record {
      answer = a;
      rules = sets rules place (declaration_rows fill ds);
      tokens = wiped 0 (token_width * u.tokens) tokens;
      brackets = wiped 0 u.tokens brackets;
      store = sets (wiped fill u.bytes store) fill (declaration_texts ds);
    }

-- by `parse_property`
unfoldable pub property_answer : List ℕ → Result PropertyHead NoProperty
property_answer s = on_parsed (property_of s) (λ v name. Ok (record { value = v; name = length name })) (Err (record { name = length (name_text (ident_of s)) }))

-- by `parse_declaration`
unfoldable pub declaration_answer : Bool → Parsed Declaration → Option DeclarationRead
declaration_answer names p = on_parsed p (λ n d. Some (record { taken = n; text = text_kept names d })) None

unfoldable pub declaration_left : Bool → ℕ → List ℕ → List ℕ → ℕ → List ℕ → List ℕ → List ℕ → ℕ → Leaves (Option DeclarationRead)
declaration_left names at s = leaves (declaration_answer names (declaration_of s)) (kept_of names at (declaration_of s)) (used_by s)

-- by `parse_rules`
unfoldable pub rules_answer : ℕ → List Declaration → RulesRead
rules_answer taken ds = record { taken = taken; count = length ds; text = length (declaration_texts ds) }

unfoldable pub rules_of : Bool → ℕ → Rules → List Declaration
rules_of names at r = map (kept names at) r.declarations

unfoldable pub more_left : Bool → ℕ → List ℕ → ℕ → List ℕ → ℕ → List ℕ → List ℕ → List ℕ → ℕ → Leaves RulesRead
more_left names at s from =
    let r = more_rules (length s) (drop from s) from in
    leaves (rules_answer r.taken (rules_of names at r)) (rules_of names at r) (used_more names (length s) (drop from s))

unfoldable pub rules_left : Bool → ℕ → List ℕ → List ℕ → ℕ → List ℕ → List ℕ → List ℕ → ℕ → Leaves RulesRead
rules_left names at s =
    let r = declarations_of s in
    leaves (rules_answer r.taken (rules_of names at r)) (rules_of names at r) (used_rules names s)

-- ---- a declaration put down: its name of n bytes lies at f in the store, before t bytes of the texts of its tokens
pub record PutRoom (start : ℕ) (tokens : List ℕ) (count : ℕ) (store : List ℕ) (f n t : ℕ) : Type 0 where
  pub for-tokens : token_width * count ≤ length tokens
  pub texts : length (texts_many text_of (tokens_at tokens store count)) ≤ t
  pub inside : f + (n + t) ≤ length store
  pub bits : f + (n + t) < 2 ^ 32
  pub start-bits : start < 2 ^ 32

-- the declaration that the stores say
unfoldable pub decl_said : Bool → List ℕ → ℕ → List ℕ → ℕ → ℕ → declared.Decl
decl_said names tokens count store f n = decl_answer (named_decl names (decl_of (part store f n) (tokens_at tokens store count)))

pub record Put (names important : Bool) (start : ℕ) (tokens : List ℕ) (count : ℕ) (rules : List ℕ) (place : ℕ) (store : List ℕ) (f n t r : ℕ)
    (rules' store' : List ℕ) : Type 0 where
  pub kept : r ≡ text_length (decl_said names tokens count store f n)
  pub row : rules' ≡ sets rules place (row_by (flag important) start f (numbers_of (decl_said names tokens count store f n)))
  pub left : store' ≡ sets (wiped f (n + t) store) f (kept_text (numbers_of (decl_said names tokens count store f n)) store f n)

-- ---- what is asked for: the stores' room for the text s at a byte, and where rows go
pub record RulesRoom (s : List ℕ) (at : ℕ) (rules : List ℕ) (place : ℕ) (tokens brackets store : List ℕ) (fill : ℕ) : Type 0 where
  pub room : Room (length s) fill tokens brackets store
  pub for-rules : place + declaration_width * length s ≤ length rules
  pub row-bits : place + declaration_width * length s < 2 ^ 64
  pub start-bits : at + length s < 2 ^ 32

-- a property that was read: its value starts at v, and its name of n bytes lies at f in the store
pub record PropertyRead (s : List ℕ) (v n : ℕ) (store : List ℕ) (f : ℕ) : Type 0 where
  pub reads : property_of s ≡ ok v (part store f n)
  pub long : length (part store f n) ≡ n

-- for declarations behind a first one, from a byte on; texts need room only where something is left to read
pub record MoreRoom (s : List ℕ) (from at : ℕ) (rules : List ℕ) (place : ℕ) (tokens brackets store : List ℕ) (fill : ℕ) : Type 0 where
  pub some : 1 ≤ from
  pub within : from ≤ length s
  pub room : from < length s → Room (length s - from) fill tokens brackets store
  pub for-rules : place + declaration_width * (length s - from) ≤ length rules
  pub row-bits : place + declaration_width * (length s - from) < 2 ^ 64
  pub start-bits : at + length s < 2 ^ 32

-- what was read behind a byte is no more than there is, but for two bytes of text
pub record MoreRead (s : List ℕ) (from : ℕ) (r : RulesRead) : Type 0 where
  pub count : from + r.count ≤ length s
  pub text : from + r.text ≤ length s + 2

-- ---- by `parse_color_attribute`: nothing in the stores
pub record ColourLeft : Type 0 where
  pub answer : Option ℕ
  pub tokens : List ℕ
  pub brackets : List ℕ
  pub store : List ℕ

unfoldable pub colour_left : List ℕ → List ℕ → List ℕ → List ℕ → ℕ → ColourLeft
colour_left s tokens brackets store fill =
    let ts = (statement_of false s).tokens in
    record {
      answer = colour_answer (colour_attribute s);
      tokens = wiped 0 (token_width * length ts) tokens;
      brackets = wiped 0 (length ts) brackets;
      store = wiped fill (length (texts_of ts)) store;
    }

-- ---- by `parse_style_attribute`: the rows of its styles in the store of tokens, and the texts of their contents
unfoldable pub styles_answer : List StyleDecl → StylesRead
styles_answer ds = record { count = length ds; text = length (style_texts ds) }

unfoldable pub style_left : List ℕ → List ℕ → List ℕ → List ℕ → List ℕ → ℕ → Leaves StylesRead
style_left s rules tokens brackets store fill =
    let ds = style_attribute s in
    let u = used_rules false s in
    record {
      answer = styles_answer ds;
      rules = wiped 0 (declaration_width * length (declarations_of s).declarations) rules;
      tokens = sets (wiped 0 (token_width * u.tokens) tokens) 0 (style_rows fill ds);
      brackets = wiped 0 u.tokens brackets;
      store = sets (wiped fill u.bytes store) fill (style_texts ds);
    }

pub record StyleRoom (s rules tokens brackets store : List ℕ) (fill : ℕ) : Type 0 where
  pub for-declarations : RulesRoom s 0 rules 0 tokens brackets store fill
  pub for-styles : style_width * (length s + 1) ≤ length tokens
