-- When a run call refuses nothing, and what it then leaves: nothing of it depends on what its buffers held.
use Prim.Native.Nat.{ℕ, ◌≤◌}
use mathlib.Core.Path.{◌≡◌, refl, ap, sym, ◌∙◌}
use mathlib.Core.Bool.{Bool, true, false, not}
use mathlib.Core.List.{List}
use native.Mathlib.Omega.{arith}
use borrow.Author.Tests.{ltb-false, le-ltb}
use lib.Dec.{ltb}
use lib.ListN.{length}
use Rattle.std.proofs.Common.{Option, Some, None}
use Rattle.std.proofs.lemmas.Bool.{not-true, not-false, not_from_true, not_from_false}
use Rattle.combinators.specs.Choice.{is}
use Rattle.combinators.specs.Refusal.{no_refusal, refused, refused_at, too_long, short_store, bad_row, bad_text, bad_bytes}
use Rattle.combinators.specs.declared.refusals.Refusal.{Refusal}
use Rattle.combinators.proofs.Rules.{pick-holds, pick_true, pick-false, is_true, is_false, is-yes}
use Rattle.syntax.specs.Style.{StyleDecl}
use Rattle.page.specs.Accepted.{first_bad_row, first_bad_text, refused_row, page_refusal}
use Rattle.compiled.specs.Answer.{bytes_refusal}
use Rattle.compiled.specs.Decoded.{Decoded, read, fault, on_decoded}
use Rattle.compiled.specs.Sheet.{CompiledSelector, compiled_limit, decode}
use Rattle.styles.specs.declared.settings.Settings.{Settings}
use Rattle.page.specs.Lent.{Page}
use Rattle.styling.proofs.StyleCalls.{Quiet, quiet}
use Rattle.running.specs.RunAnswer.{RunLeft, unchanged, ran, run_suffices, run_call}
use Rattle.agreement.specs.Calls.{RunBuffers, run_with, SameLengths}

-- ---- bytes that are a sheet
-- bytes that are refused with the number 0, by what reading them says, are not refused
quiet-bytes : (d : Decoded (List (CompiledSelector StyleDecl))) → (on_decoded d (λ _ _. no_refusal) (λ p. refused_at bad_bytes p)).number ≡ 0 → on_decoded d (λ _ _. no_refusal) (λ p. refused_at bad_bytes p) ≡ no_refusal
unfolding on_decoded
quiet-bytes (read n ss) e = refl
quiet-bytes (fault p) e = absurd (omega (arith, e))

-- ---- a page is never refused for its bytes
-- a row at fault is refused by its number, and where there is none, what comes behind decides
row-number : (number : ℕ) (row : Option ℕ) (others : Refusal) → ¬ (number ≡ bad_bytes) → ¬ (others.number ≡ bad_bytes) → ¬ ((refused_row number row others).number ≡ bad_bytes)
unfolding refused_row
row-number number (Some row) others n m = n
row-number number None others n m = m

pub page-number : (nodes attributes text : List ℕ) → ¬ ((page_refusal nodes attributes text).number ≡ bad_bytes)
unfolding page_refusal
page-number nodes attributes text =
    pick-holds Other _ _ _
    (λ _. pick-holds Other _ _ _ (λ _ e. omega (arith, e))
    (λ _. row-number bad_row (first_bad_row nodes attributes) _ (λ e. omega (arith, e))
    (row-number bad_text (first_bad_text nodes attributes text) _ (λ e. omega (arith, e)) (λ e. omega (arith, e)))))
    (λ _ e. omega (arith, e))
  where
    Other : Refusal → Type 0
    Other r = r.number ≡ bad_bytes → ⊥

-- what a run asks for
pub record RunTakes (code : List ℕ) (g : Page) (b : RunBuffers) : Type 0 where
  pub few : length code ≤ compiled_limit
  pub suffices : run_suffices b.rows b.texts b.state b.rules b.tokens b.brackets code g ≡ true
  pub page : page_refusal g.nodes g.attributes g.text ≡ no_refusal
  pub bytes : bytes_refusal code ≡ no_refusal

module _ (code : List ℕ) (settings : Settings) (g : Page) (b : RunBuffers) where
  abbrev left : Refusal → RunLeft
  left r = unchanged b.rows b.texts b.state b.rules b.tokens b.brackets r

  abbrev page : Refusal
  page = page_refusal g.nodes g.attributes g.text

  abbrev enough : Bool
  enough = run_suffices b.rows b.texts b.state b.rules b.tokens b.brackets code g

  abbrev leaves : RunLeft
  leaves = ran b.rows b.texts b.state b.rules b.tokens b.brackets code settings g

  -- ---- where it refuses nothing
  abbrev Claimed : RunLeft → Type 0
  Claimed l = l.answer.refusal ≡ no_refusal → RunTakes code g b

  -- one that refuses claims nothing
  refusing : (r : Refusal) → ¬ (r.number ≡ 0) → Claimed (left r)
  unfolding unchanged
  refusing r n e = absurd (n (ap (λ (q : Refusal). q.number) e))

  -- what the tests before it told
  takes : length code ≤ compiled_limit → enough ≡ true → is page.number no_refusal.number ≡ true → is (bytes_refusal code).number no_refusal.number ≡ true → RunTakes code g b
  unfolding Quiet bytes_refusal
  takes f e p q =
      record { few = f; suffices = e; page = quiet g.nodes g.attributes g.text (is_true _ _ p); bytes = quiet-bytes (decode code) (is_true _ _ q) }

  -- a run that refuses nothing has bytes, page and buffers as a run asks for
  pub run-tells : (run_with code settings g b).answer.refusal ≡ no_refusal → RunTakes code g b
  unfolding run_call
  run-tells =
      pick-holds Claimed (ltb compiled_limit (length code)) _ _ (λ _. refusing (refused too_long) (λ e. omega (arith, e)))
      (λ f. pick-holds Claimed (not enough) _ _ (λ _. refusing (refused short_store) (λ e. omega (arith, e)))
      (λ e. pick-holds Claimed (not (is page.number no_refusal.number)) _ _ (λ p. refusing page (is_false page.number 0 (not-true _ p)))
      (λ p. pick-holds Claimed (not (is (bytes_refusal code).number no_refusal.number)) _ _ (λ q. refusing (bytes_refusal code) (is_false (bytes_refusal code).number 0 (not-true _ q)))
      (λ q _. takes (ltb-false _ _ f) (not-false _ e) (not-false _ p) (not-false _ q)))))

  -- ---- what it leaves there
  -- where the bytes, the page and the buffers are as a run asks for, the call leaves what a run that refuses nothing leaves
  pub run-leaves : RunTakes code g b → run_with code settings g b ≡ leaves
  unfolding run_call
  run-leaves t =
      sym
      (pick-false leaves _ _ _ (le-ltb _ _ t.few)
      (pick-false leaves _ _ _ (not_from_true _ t.suffices)
      (pick-false leaves _ _ _ (not_from_true _ (is-yes _ _ (ap (λ (r : Refusal). r.number) t.page)))
      (pick-false leaves _ _ _ (not_from_true _ (is-yes _ _ (ap (λ (r : Refusal). r.number) t.bytes))) refl))))

  -- a run that is not lent too little is lent enough
  pub not_short : length code ≤ compiled_limit → ¬ ((run_with code settings g b).answer.refusal.number ≡ short_store) → enough ≡ true
  unfolding run_call unchanged
  not_short few n = go enough refl
    where
      go : (t : Bool) → enough ≡ t → enough ≡ true
      go true e = e
      go false e = absurd (n (ap (λ (l : RunLeft). l.answer.refusal.number) (sym (pick-false (left (refused short_store)) _ _ _ (le-ltb _ _ few) (pick_true (left (refused short_store)) _ _ _ (not_from_false _ e) refl)))))

  -- bytes that are a sheet are never refused as none
  pub never-refused : bytes_refusal code ≡ no_refusal → ¬ ((run_with code settings g b).answer.refusal.number ≡ bad_bytes)
  unfolding run_call unchanged ran
  never-refused q =
      pick-holds Other _ _ _ (λ _ e. omega (arith, e))
      (λ _. pick-holds Other _ _ _ (λ _ e. omega (arith, e))
      (λ _. pick-holds Other _ _ _ (λ _. page-number g.nodes g.attributes g.text)
      (λ _. pick-holds Other _ _ _ (λ _ e. let z : (bytes_refusal code).number ≡ 0 = ap (λ (r : Refusal). r.number) q in omega (arith, e, z)) (λ _ e. omega (arith, e)))))
    where
      Other : RunLeft → Type 0
      Other l = l.answer.refusal.number ≡ bad_bytes → ⊥

-- ---- what two runs leave
module _ (code : List ℕ) (settings : Settings) (g : Page) (b b' : RunBuffers) (same : SameLengths b b') where
  -- they are both lent enough
  other-takes : RunTakes code g b → RunTakes code g b'
  unfolding run_suffices
  other-takes t = record { few = t.few; suffices = rw (← same.rows, ← same.state, ← same.rules, ← same.tokens, ← same.brackets, ← same.texts) t.suffices; page = t.page; bytes = t.bytes }

  -- buffers of the same lengths, whatever they hold: the same answer, and the same in every buffer
  pub runs-free : (run_with code settings g b).answer.refusal ≡ no_refusal → run_with code settings g b ≡ run_with code settings g b'
  unfolding ran
  runs-free e =
      let t = run-tells code settings g b e in
      run-leaves code settings g b t
      ∙ rw (same.rows, same.texts, same.state, same.rules, same.tokens, same.brackets) refl
      ∙ sym (run-leaves code settings g b' (other-takes t))
