-- What a component in compiled bytes is for a row, as the code meets it.
use Rattle.std.specs.Prelude.{ℕ, ◌≡◌, Bool, List, [], ◌∷◌, Option, Some, None}
use Rattle.std.specs.Borrow.{Bor}
use Rattle.combinators.specs.Choice.{pick, and, is}
use Rattle.syntax.specs.RuleLayout.{star_kind, child_kind}
use Rattle.page.specs.Path.{Element, Path}
use Rattle.page.specs.PathOf.{attributes_from}
use Rattle.page.specs.Rows.{attribute_rows}
use Rattle.compiled.specs.Decoded.{read, on_decoded}
use Rattle.compiled.specs.Component.{written_at}
use Rattle.compiled.specs.declared.texts.Span.{Span}
use Rattle.compiled.specs.declared.components.Written.TheVariants as written
use Rattle.segments.specs.Segments.{Piece, tested}
use Rattle.segments.specs.Sweep.{on_piece, piece_at}
use Rattle.sweeps.specs.declared.elements.Handed.{Handed}
use Rattle.sweeps.specs.declared.pieces.Met.{Met}
use Rattle.sweeps.specs.declared.pieces.NameAt.{NameAt}
use Rattle.sweeps.specs.declared.pieces.Met.TheVariants as met

-- ---- the row

-- an element as it is handed: its name, all of its attribute rows, and its place among its siblings
unfoldable pub handed_element : List ℕ → List ℕ → List ℕ → ℕ → Element
handed_element name attributes text place =
    record { name = name; attributes = attributes_from attributes text (attribute_rows attributes) 0; place = place }

unfoldable pub handed : Handed → Element
handed e = handed_element e.name.now e.attributes.now e.text.now e.place

-- the path of an element alone, or the empty one of the document
unfoldable pub row_alone : Option (Bor Handed) → Path
row_alone (Some e) = handed e.now ∷ []
row_alone None = []

-- ---- a component that ends at n, where `ok` says whether the tests so far pass
unfoldable pub met_of : Path → Bool → ℕ → Piece → Met
met_of row ok n x = on_piece x (λ c. met.Test n (and ok (tested row c))) (λ _. met.Child n) (λ _. met.Descendant n)

unfoldable pub met_at : List ℕ → Path → Bool → ℕ → Option Met
met_at code row ok i = on_decoded (piece_at code i) (λ n x. Some (met_of row ok n x)) (λ _. None)

-- one that is its kind alone
unfoldable pub mark_met : ℕ → ℕ → Bool → Met
mark_met n kind ok = pick (is kind star_kind) (met.Test n ok) (pick (is kind child_kind) (met.Child n) (met.Descendant n))

-- ---- a component of one text
-- there is none
unfoldable pub Nameless : List ℕ → ℕ → Type 0
Nameless code i = (n kind : ℕ) (x : Span) → written_at code i ≡ read n (written.Name kind x) → ⊥

-- what is told of it: what is read of it; or that there is none
unfoldable pub NamedAt : List ℕ → ℕ → Option NameAt → Type 0
NamedAt code i (Some x) = written_at code i ≡ read x.next (written.Name x.kind x.text)
NamedAt code i None = Nameless code i
