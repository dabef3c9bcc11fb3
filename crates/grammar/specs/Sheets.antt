-- Sheets in the words of CSS Syntax Level 3 (section 5.4.1, Consume a list of rules; 5.4.2, an at-rule; 5.4.3, a qualified rule; 5.4.4, a style
-- block's contents; 5.4.6, a declaration) and Selectors Level 3 (section 5, groups of selectors), as far as the reader agrees with the documents: how
-- a sheet is written, what it means, and what it is to be read. Sections and what is quoted were not held against the documents' texts.
use Rattle.std.specs.Prelude.{◌≡◌, true, List, [], ◌∷◌, ◌++◌, ℕ, ◌+◌, length, get_or}
use Prim.Native.Char.{code as ascii}
use Rattle.lexer.proofs.SyntaxWhitespace.{none}
use Rattle.syntax.specs.Declaration.{Declaration}
use Rattle.syntax.specs.Selector.{RuleSet}
use Rattle.selectors.specs.Outcome.{reads}
use Rattle.sheets.specs.Sheet.{sheet_of}
use Rattle.grammar.specs.Nth.{Blanks}
use Rattle.grammar.specs.Selectors.{Group, written_group, means_group}
use Rattle.grammar.specs.Tokens.{Ident, ends_name}
use Rattle.grammar.specs.Values.{Importance, written_importance, is_marked}
use Rattle.grammar.specs.Balanced.{Balanced, written_balanced, Clear, Outside, Tight}
use Rattle.grammar.specs.Declarations.{Declared, property, written_value, means_declared}

-- ---- what is written
-- a declaration: a property's name, white space or none, `:`, its value, and `!important` or not
pub record Item : Type 0 where
  pub declared : Declared
  pub before_colon : Blanks
  pub importance : Importance

-- `;`, white space or none, and a declaration. The document allows white space before the `;` too, where the reader stops.
pub record Next : Type 0 where
  pub lead : Blanks
  pub item : Item

-- what closes a block: `}`, or `;`, white space or none, and `}`
pub data Shut : Type 0 where
  closed : Shut
  parted : Blanks → Shut

-- with white space or none before it
pub record End : Type 0 where
  pub gap : Blanks
  pub shut : Shut

-- `{`, declarations parted by `;`, and the end
pub data Block : Type 0 where
  empty : End → Block
  filled : Blanks → Item → List Next → End → Block

-- a group of selectors, a block, and the white space behind it
pub record Rule : Type 0 where
  pub selectors : Group
  pub block : Block
  pub behind : Blanks

-- how an at-rule ends: with `;`, or with a block of any text, white space or none, and `}`
pub data AtEnd : Type 0 where
  semicolon : AtEnd
  braces : (v : Balanced) → Clear v → Tight v → Blanks → AtEnd

-- `@` and a name, any text up to the end, and the white space behind it
pub record AtRule : Type 0 where
  pub name : Ident
  pub prelude : Balanced
  pub ends : ends_name (get_or (written_balanced prelude) 0 0) ≡ true
  pub clear : Clear prelude
  pub outside : Outside prelude
  pub tight : Tight prelude
  pub gap : Blanks
  pub end : AtEnd
  pub behind : Blanks

pub data Statement : Type 0 where
  rule : Rule → Statement
  at_rule : AtRule → Statement

-- white space or none, and statements
pub record Sheet : Type 0 where
  pub lead : Blanks
  pub statements : List Statement

-- ---- how it is written
unfoldable pub written_item : Item → List ℕ
written_item d =
    (property d.declared).bytes
    ++ (d.before_colon.bytes ++ (ascii ":" ∷ (written_value d.declared ++ written_importance d.importance)))

unfoldable pub written_next : Next → List ℕ
written_next m = ascii ";" ∷ (m.lead.bytes ++ written_item m.item)

unfoldable pub written_nexts : List Next → List ℕ
written_nexts [] = []
written_nexts (m ∷ ms) = written_next m ++ written_nexts ms

unfoldable pub written_shut : Shut → List ℕ
written_shut closed = ascii "}" ∷ []
written_shut (parted b) = ascii ";" ∷ (b.bytes ++ (ascii "}" ∷ []))

unfoldable pub written_end : End → List ℕ
written_end e = e.gap.bytes ++ written_shut e.shut

unfoldable pub written_block : Block → List ℕ
written_block (empty e) = ascii "{" ∷ written_end e
written_block (filled b d ms e) = ascii "{" ∷ (b.bytes ++ (written_item d ++ (written_nexts ms ++ written_end e)))

unfoldable pub written_rule : Rule → List ℕ
written_rule r = written_group r.selectors ++ (written_block r.block ++ r.behind.bytes)

unfoldable pub written_at_end : AtEnd → List ℕ
written_at_end semicolon = ascii ";" ∷ []
written_at_end (braces v c t b) = ascii "{" ∷ (written_balanced v ++ (b.bytes ++ (ascii "}" ∷ [])))

-- without the white space behind it
unfoldable pub written_at : AtRule → List ℕ
written_at a = ascii "@" ∷ (a.name.bytes ++ (written_balanced a.prelude ++ (a.gap.bytes ++ written_at_end a.end)))

unfoldable pub written_statement : Statement → List ℕ
written_statement (rule r) = written_rule r
written_statement (at_rule a) = written_at a ++ a.behind.bytes

unfoldable pub written_statements : List Statement → List ℕ
written_statements [] = []
written_statements (s ∷ ss) = written_statement s ++ written_statements ss

unfoldable pub written_sheet : Sheet → List ℕ
written_sheet s = s.lead.bytes ++ written_statements s.statements

-- ---- what it means, where it starts at a byte
unfoldable pub means_item : ℕ → Item → Declaration
means_item at d = record { decl = means_declared d.declared; important = is_marked d.importance; start = at }

unfoldable pub means_nexts : ℕ → List Next → List Declaration
means_nexts at [] = []
means_nexts at (m ∷ ms) = means_item (at + (1 + length m.lead.bytes)) m.item ∷ means_nexts (at + length (written_next m)) ms

unfoldable pub means_block : ℕ → Block → List Declaration
means_block at (empty e) = []
means_block at (filled b d ms e) = let i = at + 1 + length b.bytes in means_item i d ∷ means_nexts (i + length (written_item d)) ms

unfoldable pub means_rule : ℕ → Rule → RuleSet
means_rule at r =
    record {
      selectors = means_group r.selectors;
      declarations = means_block (at + length (written_group r.selectors)) r.block;
      start = at;
    }

-- an at-rule says nothing: the engine knows no at-keyword, and CSS 2.1 (section 4.2, At-rules with unknown at-keywords) ignores one that is not known,
-- "together with everything up to the end of the block that contains the invalid at-keyword, or up to and including the next semicolon (;), or up to
-- and including the next block ({...}), whichever comes first"
unfoldable pub means_statements : ℕ → List Statement → List RuleSet
means_statements at [] = []
means_statements at (rule r ∷ ss) = means_rule at r ∷ means_statements (at + length (written_rule r)) ss
means_statements at (at_rule a ∷ ss) = means_statements (at + length (written_statement (at_rule a))) ss

unfoldable pub means_sheet : Sheet → List RuleSet
means_sheet s = means_statements (length s.lead.bytes) s.statements

-- ---- what it is to be read: the rules that it means, up to its end. The reader takes white space with what stands before it in a rule, and with what
-- stands behind it elsewhere; so white space behind a last at-rule, or in a sheet with nothing else, is left.
unfoldable pub unread_behind : Blanks → List Statement → List ℕ
unread_behind b [] = b.bytes
unread_behind b (rule r ∷ ss) = unread_behind (record { bytes = []; blank = none }) ss
unread_behind b (at_rule a ∷ ss) = unread_behind a.behind ss

unfoldable pub unread : Sheet → List ℕ
unread s = unread_behind s.lead s.statements

pub record SheetRead (s : Sheet) : Type 0 where
  pub place : ℕ
  pub sheet : sheet_of (written_sheet s) ≡ reads place (means_sheet s)
  pub whole : place + length (unread s) ≡ length (written_sheet s)
