-- What goes to the row of a declaration: its numbers, and the text that is kept. Any three numbers are a declaration.
use Rattle.std.specs.Prelude.{ℕ, ◌+◌, ◌^◌, ◌≤◌, ◌<◌, Bool, List, [], ◌∷◌, length}
use Rattle.combinators.specs.Choice.{pick, or, is}
use Rattle.combinators.specs.Part.{part}
use Rattle.syntax.specs.Declaration.{Decl, color, background_color, height, max_height, overflow, overflow_y, display, white_space, content, visibility, unknown}
use Rattle.syntax.specs.Layout.{content_kind, unknown_kind}
use Rattle.values.specs.declared.properties.Decl as declared
use Rattle.values.specs.declared.properties.Decl.TheVariants as code
use Rattle.values.specs.declared.properties.DeclNumbers.{DeclNumbers}

-- ---- names of unknown declarations: rules keep them, style attributes do not
unfoldable pub named_decl : Bool → Decl → Decl
named_decl names (color c) = color c
named_decl names (background_color c) = background_color c
named_decl names (height z) = height z
named_decl names (max_height z) = max_height z
named_decl names (overflow o) = overflow o
named_decl names (overflow_y o) = overflow_y o
named_decl names (display n) = display n
named_decl names (white_space w) = white_space w
named_decl names (content t) = content t
named_decl names (visibility z) = visibility z
named_decl names (unknown t) = unknown (pick names t [])

unfoldable pub named_by : Bool → declared.Decl → declared.Decl
named_by names (code.Color v) = code.Color v
named_by names (code.BackgroundColor v) = code.BackgroundColor v
named_by names (code.Height z) = code.Height z
named_by names (code.MaxHeight z) = code.MaxHeight z
named_by names (code.Overflow v) = code.Overflow v
named_by names (code.OverflowY v) = code.OverflowY v
named_by names (code.Display z) = code.Display z
named_by names (code.WhiteSpace v) = code.WhiteSpace v
named_by names (code.Content n) = code.Content n
named_by names (code.Visibility z) = code.Visibility z
named_by names (code.Unknown n) = code.Unknown (pick names n 0)

-- the same of any three numbers
unfoldable pub named_numbers_by : Bool → DeclNumbers → DeclNumbers
named_numbers_by names d = record { kind = d.kind; value = d.value; text = pick (is d.kind unknown_kind) (pick names d.text 0) d.text }

-- ---- its text behind a name of n bytes at f: a content lies behind the name
unfoldable pub shift : DeclNumbers → ℕ → ℕ
shift d n = pick (is d.kind content_kind) n 0

unfoldable pub kept_text : DeclNumbers → List ℕ → ℕ → ℕ → List ℕ
kept_text d store f n = part store (f + shift d n) d.text

-- a name of n bytes at f and t bytes more are there, and the text among them
pub record Keeping (d : DeclNumbers) (store : List ℕ) (f n t : ℕ) : Type 0 where
  pub inside : f + (n + t) ≤ length store
  pub among : shift d n + d.text ≤ n + t
  pub bits : f + (n + t) < 2 ^ 64

-- ---- its row, where its text starts at f: important i, first byte s

-- where the text starts, or the declaration's number: a content and an unknown declaration have a text
unfoldable pub row_value : ℕ → DeclNumbers → ℕ
row_value f d = pick (or (is d.kind content_kind) (is d.kind unknown_kind)) f d.value

unfoldable pub row_by : ℕ → ℕ → ℕ → DeclNumbers → List ℕ
row_by i s f d = d.kind ∷ i ∷ s ∷ row_value f d ∷ d.text ∷ []

-- what fits the numbers of a row
pub record Narrow (d : DeclNumbers) (start fill : ℕ) : Type 0 where
  pub text-fits : d.text < 2 ^ 32
  pub start_fits : start < 2 ^ 32
  pub fill-fits : fill < 2 ^ 32
