-- Declarations: `parse_declaration` and `parse_rules` of src/css/parser.rs.
use Rattle.std.specs.Prelude.{ℕ, zero, suc, ◌+◌, List, [], ◌∷◌, length, get_or, drop}
use Prim.Native.Char.{code as ascii}
use Rattle.combinators.specs.Choice.{pick, is}
use Rattle.combinators.specs.Parsed.{Parsed, ok, err, on_parsed}
use Rattle.lexer.specs.Name.{ident_of}
use Rattle.lexer.specs.Whitespace.{skip_whitespace}
use Rattle.syntax.specs.Declaration.{Declaration}
use Rattle.values.specs.Value.{value_of}
use Rattle.values.specs.Property.{decl_of}

-- behind a name that n bytes of s take: white space or none, ':', white space or none
unfoldable pub colon_behind : ℕ → List ℕ → List ℕ → Parsed (List ℕ)
colon_behind n name s =
    let c = n + skip_whitespace (drop n s) in
    pick (is (get_or s c 0) (ascii ":")) (ok (c + 1 + skip_whitespace (drop (c + 1) s)) name) err

-- a property's name and all up to its value
unfoldable pub property_of : List ℕ → Parsed (List ℕ)
property_of s = on_parsed (ident_of s) (λ n name. colon_behind n name s) err

-- the value behind v bytes
unfoldable pub value_behind : ℕ → List ℕ → List ℕ → Parsed Declaration
value_behind v name s =
    on_parsed (value_of (drop v s))
    (λ m value. ok (v + m) (record { decl = decl_of name value.tokens; important = value.important; start = skip_whitespace s }))
    err

-- `parse_declaration`; it starts at the first byte of its name
unfoldable pub declaration_of : List ℕ → Parsed Declaration
declaration_of s = on_parsed (property_of s) (λ v name. value_behind v name s) err

-- declarations, and the first byte not read
pub record Rules : Type 0 where
  pub declarations : List Declaration
  pub taken : ℕ

unfoldable pub starts_at : ℕ → Declaration → Declaration
starts_at at d = record { decl = d.decl; important = d.important; start = at + d.start }

-- behind a declaration: ';', white space or none, and another declaration; else it stops before the ';'
unfoldable pub more_rules : ℕ → List ℕ → ℕ → Rules
more_rules zero s at = record { declarations = []; taken = at }
more_rules (suc l) s at =
    let w = 1 + skip_whitespace (drop 1 s) in
    pick (is (get_or s 0 0) (ascii ";"))
    (on_parsed (declaration_of (drop w s))
    (λ n d. let r = more_rules l (drop (w + n) s) (at + (w + n)) in
    record { declarations = starts_at (at + w) d ∷ r.declarations; taken = r.taken })
    (record { declarations = []; taken = at }))
    (record { declarations = []; taken = at })

-- `parse_rules`
unfoldable pub declarations_of : List ℕ → Rules
declarations_of s =
    on_parsed (declaration_of s)
    (λ n d. let r = more_rules (length s) (drop n s) n in record { declarations = d ∷ r.declarations; taken = r.taken })
    (record { declarations = []; taken = 0 })
