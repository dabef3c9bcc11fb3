-- What `parse_value` leaves, from what `parse_to_end_of_statement` left.
use mathlib.Core.Path.{◌≡◌, refl, sym, ap, ◌∙◌}
use mathlib.Core.Bool.{Bool, true, false}
use mathlib.Core.List.{List}
use Prim.Native.Nat.{ℕ, ◌+◌, ◌*◌, ◌^◌, ◌≤◌, ◌<◌}
use native.Mathlib.Omega.{arith}
use lib.ListN.{length}
use lib.Seq.{length-sets}
use Rattle.combinators.specs.Choice.{pick}
use Rattle.values.specs.Value.{Statement, statement_of, tokens_of, marked}
use Rattle.values.specs.Layout.{rows_of, texts_of, Left, left, statement_answer, value_answer, value_left, Room}
use Rattle.lexer.specs.TokenRow.{token_width}
use Rattle.values.specs.View.{tokens_at}
use Rattle.std.specs.Prelude.{Result, Ok, Err}
use Rattle.values.specs.declared.statements.Statement as declared
use Rattle.values.specs.declared.statements.Unbalanced.{Unbalanced}
use Rattle.values.specs.declared.statements.Value as value
use Rattle.values.proofs.Views.{statement-back}
use Rattle.values.proofs.Sizes.{statement-sized, rows_long}

-- an answer with a statement comes of right brackets alone, and has its numbers
pub record Whole (r : Statement) (n : declared.Statement) : Type 0 where
  pub balanced : r.balanced ≡ true
  pub taken : n.taken ≡ r.taken
  pub count : n.count ≡ length r.tokens
  pub text : n.text ≡ length (texts_of r.tokens)

pub whole : (r : Statement) (n : declared.Statement) → Ok n ≡ statement_answer r → Whole r n
unfolding statement_answer
whole r n = go r.balanced refl
  where
    go : (v : Bool) → r.balanced ≡ v → ◌≡◌ {A = Result declared.Statement Unbalanced} (Ok n) (pick v (Ok (record { taken = r.taken; count = length r.tokens; text = length (texts_of r.tokens) })) (Err (record { 0 = record { taken = r.taken; count = length r.tokens; text = length (texts_of r.tokens) } }))) → Whole r n
    go true b e = unfold pick in let q : n ≡ record { taken = r.taken; count = length r.tokens; text = length (texts_of r.tokens) } = cc in record { balanced = b; taken = ap (λ (m : declared.Statement). m.taken) q; count = ap (λ (m : declared.Statement). m.count) q; text = ap (λ (m : declared.Statement). m.text) q }
    go false b e = unfold pick in absurd (cc)

-- an answer without one comes of a wrong bracket alone, and has its numbers
pub record Broken (r : Statement) (n : Unbalanced) : Type 0 where
  pub balanced : r.balanced ≡ false
  pub taken : n.0.taken ≡ r.taken
  pub count : n.0.count ≡ length r.tokens
  pub text : n.0.text ≡ length (texts_of r.tokens)

pub broken : (r : Statement) (n : Unbalanced) → Err n ≡ statement_answer r → Broken r n
unfolding statement_answer
broken r n = go r.balanced refl
  where
    go : (v : Bool) → r.balanced ≡ v → ◌≡◌ {A = Result declared.Statement Unbalanced} (Err n) (pick v (Ok (record { taken = r.taken; count = length r.tokens; text = length (texts_of r.tokens) })) (Err (record { 0 = record { taken = r.taken; count = length r.tokens; text = length (texts_of r.tokens) } }))) → Broken r n
    go true b e = unfold pick in absurd (cc)
    go false b e = unfold pick in let q : n ≡ record { 0 = record { taken = r.taken; count = length r.tokens; text = length (texts_of r.tokens) } } = cc in record { balanced = b; taken = ap (λ (m : Unbalanced). m.0.taken) q; count = ap (λ (m : Unbalanced). m.0.count) q; text = ap (λ (m : Unbalanced). m.0.text) q }

-- the answer of a value
value-whole : (r : Statement) (n : declared.Statement) → Whole r n → (i : Bool) → i ≡ (marked (tokens_of r.tokens)).important
    → Ok (record { statement = n; important = i }) ≡ value_answer r
unfolding value_answer pick
value-whole r n h i e = rw (h.balanced, e, ← h.taken, ← h.count, ← h.text)

-- where a bracket is wrong, no value is answered, with the numbers of what stands before it
value-broken : (r : Statement) (n : Unbalanced) → Broken r n → Err n ≡ value_answer r
unfolding value_answer pick
value-broken r n h = rw (h.balanced, ← h.taken, ← h.count, ← h.text)

-- the room that a statement takes
module _ (include : Bool) (s rows brackets store : List ℕ) (fill : ℕ) (room : Room (length s) fill rows brackets store) where
  abbrev r : Statement
  r = statement_of include s

  -- the rows of the statement's tokens fit the store
  pub rows-room : length (rows_of fill r.tokens) ≤ length rows
  rows-room = let h = statement-sized include s in omega (arith, rows_long r.tokens fill, h.counted, h.within, room.for-tokens)

  -- their texts fit the store behind the fill
  pub texts-room : fill + length (texts_of r.tokens) ≤ length store
  texts-room = omega (arith, (statement-sized include s).text, room.for-texts)

  -- the fill behind their texts fits 32 bits
  pub texts-bits : fill + length (texts_of r.tokens) < 2 ^ 32
  texts-bits = omega (arith, (statement-sized include s).text, room.bits)

  module _ {a : Result declared.Statement Unbalanced} {x b z : List ℕ} (e : record { answer = a; rows = x; brackets = b; store = z } ≡ left r rows brackets store fill) where
    -- its answer and its stores
    said : a ≡ statement_answer r
    unfolding left
    said = ap (λ (l : Left). l.answer) e

    -- the rows are those that the statement leaves
    same_rows : x ≡ (left r rows brackets store fill).rows
    same_rows = ap (λ (l : Left). l.rows) e

    -- the brackets are those that the statement leaves
    same-brackets : b ≡ (left r rows brackets store fill).brackets
    same-brackets = ap (λ (l : Left). l.brackets) e

    -- the texts are those that the statement leaves
    same_store : z ≡ (left r rows brackets store fill).store
    same_store = ap (λ (l : Left). l.store) e

    -- with an answer of its own
    left_as : (v : Result value.Value Unbalanced) → v ≡ value_answer r → record { answer = v; rows = x; brackets = b; store = z } ≡ value_left r rows brackets store fill
    unfolding value_left
    left_as v ev = rw (ev, same_rows, same-brackets, same_store)

    module _ {n : declared.Statement} (ea : a ≡ Ok n) where
      -- the answer's numbers are those of a statement with right brackets
      numbers : Whole r n
      numbers = whole r n (sym ea ∙ said)

      -- the rows hold the tokens
      pub value-counted : token_width * n.count ≤ length x
      unfolding left
      value-counted =
          let h = statement-sized include s in
          let l = ap length same_rows ∙ length-sets rows 0 (rows_of fill r.tokens) in
          omega (arith, l, numbers.count, h.counted, h.within, room.for-tokens)

      -- the rows read back as the tokens of the value
      back : tokens_at x z n.count ≡ tokens_of r.tokens
      back =
          rw (same_rows, same_store, numbers.count)
          (statement-back include s rows brackets store fill rows-room texts-room texts-bits)

      -- the return where the brackets are right: a value, with the mark that its last tokens say
      pub value-left : {i : Bool} → i ≡ (marked (tokens_at x z n.count)).important
          → record { answer = Ok (record { statement = n; important = i }); rows = x; brackets = b; store = z } ≡ value_left r rows brackets store fill
      value-left {i} ei = left_as _ (value-whole r n numbers i (ei ∙ ap (λ ks. (marked ks).important) back))

    -- the return where a bracket was wrong: no value
    pub no-value-left : {n : Unbalanced} → a ≡ Err n → record { answer = Err n; rows = x; brackets = b; store = z } ≡ value_left r rows brackets store fill
    no-value-left {n} ea = left_as _ (value-broken r n (broken r n (sym ea ∙ said)))
