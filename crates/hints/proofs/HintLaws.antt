-- What a hint excludes: a component of one text that the table does not have fails at every element that the hint fits. And hints that fit.
use Prim.Native.Nat.{ℕ, zero, suc, ◌+◌, ◌*◌, ◌/◌, ◌%◌, ◌<◌}
use mathlib.Core.Path.{◌≡◌, refl, sym, ap, subst, ◌∙◌}
use mathlib.Core.Bool.{Bool, true, false, not}
use mathlib.Core.List.{List, [], ◌∷◌}
use native.Mathlib.Omega.{arith}
use borrow.Author.Tests.{leb-false}
use lib.Dec.{leb}
use lib.ListN.{length, get_or, take, drop, replicate}
use Rattle.std.proofs.lemmas.Bool.{not-true}
use Rattle.std.proofs.lemmas.List.{get_or-drop, get_or-take, get_or-replicate, get_or_default}
use Rattle.combinators.specs.Choice.{pick, or, is}
use Rattle.combinators.specs.Store.{filled_part}
use Rattle.combinators.proofs.Rules.{never, either, is_true, and_yes}
use Rattle.combinators.proofs.Words.{same-is}
use Rattle.syntax.specs.RuleLayout.{class_kind, element_kind, hash_kind, attribute_kind}
use Rattle.page.specs.Path.{Attribute, Element}
use Rattle.page.specs.PathOf.{attributes_from}
use Rattle.page.specs.Rows.{attribute_width, attribute_rows}
use Rattle.matching.specs.Matches.{any_attribute, is_class, is_id, is_named, has_class, has_id, has_attribute, name_is, here, step}
use Rattle.compiled.specs.Component.{is_name, named_of}
use Rattle.segments.specs.Segments.{tested}
use Rattle.sweeps.specs.Met.{handed_element, handed}
use Rattle.sweeps.specs.declared.elements.Handed.{Handed}
use Rattle.hints.specs.Hints.{kinds, starts, spread, start_of, place_of, may_begin, marked, nameless, MayHave, Covers, Keeps, Open, AttributesFit, Fits, FailsAt, NameFails}
use Rattle.hints.specs.declared.hints.Hint.{Hint}
use Rattle.hints.proofs.TableLaws.{mark-keeps, mark-has, covers-kept}

-- ---- what a component of one text asks for
module _ (e : Element) (x : List ℕ) where
  -- a type selector, for the name
  element-tested : tested (e ∷ []) (named_of element_kind x) ≡ name_is x e
  unfolding tested named_of step here pick is
  element-tested = and_yes _

  -- which is then that name
  name-is : name_is x e ≡ true → e.name ≡ x
  unfolding name_is
  name-is t = same-is e.name x t

  -- a class asks whether an attribute has it
  class-tested : tested (e ∷ []) (named_of class_kind x) ≡ any_attribute (is_class x) e.attributes
  unfolding tested named_of step here has_class pick is
  class-tested = and_yes _

  -- an id asks whether an attribute is it
  id-tested : tested (e ∷ []) (named_of hash_kind x) ≡ any_attribute (is_id x) e.attributes
  unfolding tested named_of step here has_id pick is
  id-tested = and_yes _

  -- an attribute asks whether one has that name
  attribute-tested : tested (e ∷ []) (named_of attribute_kind x) ≡ any_attribute (is_named x) e.attributes
  unfolding tested named_of step here has_attribute pick is
  attribute-tested = and_yes _

-- these kinds have one text
pub element-is-name : is_name element_kind ≡ true
unfolding is_name or is
element-is-name = refl

-- a class is a kind of one text
pub class-is-name : is_name class_kind ≡ true
unfolding is_name or is
class-is-name = refl

-- an id is a kind of one text
pub hash-is-name : is_name hash_kind ≡ true
unfolding is_name or is
hash-is-name = refl

-- an attribute is a kind of one text
pub attribute-is-name : is_name attribute_kind ≡ true
unfolding is_name or is
attribute-is-name = refl

-- what asks for a text that an element may have passes only where that is marked
module _ (h : Hint) (kind : ℕ) (asks tests : List ℕ → Bool) (same : (x : List ℕ) → tests x ≡ asks x) (c : Covers h kind asks) where
  not-covered : (x : List ℕ) → may_begin h.may kind (length x) (get_or x 0 0) ≡ false → tests x ≡ false
  not-covered x d = go (tests x) refl
    where
      go : (t : Bool) → tests x ≡ t → t ≡ false
      go true e = never (sym d ∙ c x (sym (same x) ∙ e))
      go false e = refl

-- ---- the return of `name_fails`
module _ (h : Hint) (size byte : ℕ) (e : Element) (fit : Fits h e) where
  -- a kind of one text whose flag is not set
  abbrev Excluded : ℕ → Type 0
  Excluded kind = may_begin h.may kind size byte ≡ false

  -- by what the hint covers of that kind
  by_kind : (kind : ℕ) → is_name kind ≡ true → (asks : List ℕ → Bool) → ((x : List ℕ) → tested (e ∷ []) (named_of kind x) ≡ asks x) → Covers h kind asks → Excluded kind → FailsAt e kind size byte
  by_kind kind n asks same c d =
      record { named = n; fails = λ x l b. not-covered h kind asks (λ y. tested (e ∷ []) (named_of kind y)) same c x (rw (l, b) d) }

  -- the name of the element is the only one that passes
  name-covered : Covers h element_kind (λ x. name_is x e)
  name-covered x t = subst (λ (y : List ℕ). MayHave h element_kind y) (name-is e x t) fit.name

  -- a kind is one of the four of one text, or is none of them, of which nothing is told
  kind-fails : (kind : ℕ) → Excluded kind → is_name kind ≡ true → FailsAt e kind size byte
  unfolding is_name
  kind-fails kind d n =
      let at = λ (k : ℕ) (f : Excluded k → FailsAt e k size byte) (q : is kind k ≡ true). subst (λ (m : ℕ). Excluded m → FailsAt e m size byte) (sym (is_true kind k q)) f d in
      either _ _ _ n (at class_kind (by_kind class_kind class-is-name _ (class-tested e) fit.attributes.classes))
      (λ n. either _ _ _ n (at element_kind (by_kind element_kind element-is-name _ (element-tested e) name-covered))
      (λ n. either _ _ _ n (at hash_kind (by_kind hash_kind hash-is-name _ (id-tested e) fit.attributes.ids))
      (at attribute_kind (by_kind attribute_kind attribute-is-name _ (attribute-tested e) fit.attributes.names))))

-- a flag of the table that is read as not set says so
pub flag-unset : (may : List Bool) (i : ℕ) → i < length may → (kind size byte : ℕ) → i ≡ place_of kind size byte → not (get_or may i false) ≡ true → may_begin may kind size byte ≡ false
unfolding may_begin
flag-unset may i l kind size byte e n = ap (λ (j : ℕ). get_or may j true) (sym e) ∙ get_or_default may i true false l ∙ not-true _ n

-- where a flag of the table is not set, a component of that kind, length and first byte fails
pub flag-fails : (h : Hint) (kind size byte : ℕ) → kind < kinds → may_begin h.may kind size byte ≡ false → NameFails h kind size byte
flag-fails h kind size byte l d e fit = go (is_name kind) refl
  where
    go : (t : Bool) → is_name kind ≡ t → FailsAt e kind size byte
    go true n = kind-fails h size byte e fit kind d n
    go false n = never (sym d ∙ fit.others kind size byte l n)

-- ---- the return of `clear`
-- its rows, filled one after the other
pub rows-filled : (any : Bool)
    → filled_part any (attribute_kind * starts) starts
    (filled_part any (hash_kind * starts) starts
    (filled_part false (element_kind * starts) starts
    (filled_part any (class_kind * starts) starts (replicate (kinds * starts) true))))
    ≡ nameless any
unfolding filled_part nameless
rows-filled any = refl

-- a row of one flag says that flag of every text
row-says : (may : List Bool) (v : Bool) (kind : ℕ) → take starts (drop (kind * starts) may) ≡ replicate starts v → (size byte : ℕ) → may_begin may kind size byte ≡ v
unfolding may_begin place_of start_of
row-says may v kind e size byte =
    let s : ℕ = (byte + spread * size) % starts in
    let l : s < starts = omega arith in
    sym (get_or-drop (kind * starts) may s true) ∙ sym (get_or-take starts (drop (kind * starts) may) s true l) ∙ ap (λ (row : List Bool). get_or row s true) e ∙ get_or-replicate starts s v true l

-- a kind that has not one text has a row that says nothing
nameless-open : (any : Bool) (kind : ℕ) → kind < kinds → is_name kind ≡ false → (size byte : ℕ) → may_begin (nameless any) kind size byte ≡ true
unfolding nameless is_name or is
nameless-open any zero l n = row-says (nameless any) true 0 refl
nameless-open any (suc zero) l n = never (sym n)
nameless-open any (suc (suc zero)) l n = never (sym n)
nameless-open any (suc (suc (suc zero))) l n = never (sym n)
nameless-open any (suc (suc (suc (suc zero)))) l n = row-says (nameless any) true 4 refl
nameless-open any (suc (suc (suc (suc (suc zero))))) l n = row-says (nameless any) true 5 refl
nameless-open any (suc (suc (suc (suc (suc (suc zero)))))) l n = row-says (nameless any) true 6 refl
nameless-open any (suc (suc (suc (suc (suc (suc (suc zero))))))) l n = never (sym n)
nameless-open any (suc (suc (suc (suc (suc (suc (suc (suc k)))))))) l n = absurd (omega arith)

module _ (h : Hint) (any : Bool) (e : h.may ≡ nameless any) where
  -- so nothing is told of such kinds
  pub open-nameless : Open h
  open-nameless kind size byte l n = ap (λ (m : List Bool). may_begin m kind size byte) e ∙ nameless-open any kind l n size byte

  -- where any text may be, each of the three rows says so
  row-any : any ≡ true → (kind : ℕ) → take starts (drop (kind * starts) (nameless true)) ≡ replicate starts true → (asks : List ℕ → Bool) → Covers h kind asks
  row-any a kind r asks x t =
      ap (λ (m : List Bool). may_begin m kind (length x) (get_or x 0 0)) (e ∙ ap nameless a) ∙ row-says (nameless true) true kind r (length x) (get_or x 0 0)

  -- so attributes may have any texts
  any-fits : any ≡ true → (attributes : List Attribute) → AttributesFit h attributes
  unfolding nameless
  any-fits a attributes = record { classes = row-any a class_kind refl _; ids = row-any a hash_kind refl _; names = row-any a attribute_kind refl _ }

  -- and where there is no attribute, none has any
  none-fits : AttributesFit h []
  unfolding any_attribute
  none-fits = record { classes = λ x t. never t; ids = λ x t. never t; names = λ x t. never t }

  -- ---- the returns of `tell_attributes`
  -- where any text may be if there is an attribute
  pub few-fit : (name rows text : List ℕ) (place : ℕ) → any ≡ leb attribute_width (length rows) → AttributesFit h (handed_element name rows text place).attributes
  unfolding handed_element attributes_from
  few-fit name rows text place q = go (leb attribute_width (length rows)) refl
    where
      go : (t : Bool) → leb attribute_width (length rows) ≡ t → AttributesFit h (attributes_from rows text (attribute_rows rows) 0)
      go true l = any-fits (q ∙ l) _
      go false l = let few : length rows < attribute_width = leb-false _ _ l in let z : length rows / attribute_width ≡ 0 = omega arith in rw z none-fits

-- the attributes that are handed are those of the element
pub handed-fit : (h : Hint) (x : Handed) (a : List Attribute) → a ≡ (handed x).attributes → AttributesFit h a
    → (place : ℕ) → AttributesFit h (handed_element x.name.now x.attributes.now x.text.now place).attributes
unfolding handed handed_element
handed-fit h x a q f place = subst (λ (y : List Attribute). AttributesFit h y) q f

-- ---- the return of `hint_of`
-- the name is marked, and what is told of attributes stays
pub hint-fits : (h r : Hint) (name rows text : List ℕ) → r.may ≡ marked h.may element_kind name → Open h
    → ((place : ℕ) → AttributesFit h (handed_element name rows text place).attributes) → (place : ℕ) → Fits r (handed_element name rows text place)
unfolding handed_element
hint-fits h r name rows text e o a place =
    let keep : Keeps h r = mark-keeps h r element_kind name e in
    record {
      others = λ kind size byte l n. keep kind size byte (o kind size byte l n);
      name = mark-has h r element_kind name e;
      attributes =
          record {
            classes = covers-kept h r keep class_kind _ (a place).classes;
            ids = covers-kept h r keep hash_kind _ (a place).ids;
            names = covers-kept h r keep attribute_kind _ (a place).names;
          };
    }
