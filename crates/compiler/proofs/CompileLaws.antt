-- Returns of `compile`: each test that refuses comes in the order of the definition, and behind all of them stands what writing leaves.
use mathlib.Core.Path.{◌≡◌, refl, sym, ◌∙◌}
use mathlib.Core.Bool.{Bool, true, false}
use mathlib.Core.List.{List}
use Prim.Native.Nat.{ℕ, ◌+◌, ◌^◌, ◌≤◌, ◌<◌}
use native.Mathlib.Omega.{arith}
use lib.ListN.{length}
use Rattle.std.proofs.lemmas.Bool.{not_from_true, not_from_false}
use Rattle.combinators.specs.LeastLengths.{stores_suffice}
use Rattle.combinators.proofs.Rules.{pick_true, pick-false}
use Rattle.sheets.specs.SheetAnswer.{sheet_limit}
use Rattle.origins.specs.Checks.{any_too_long, all_valid, Lent}
use Rattle.origins.specs.Reading.{sheets_of}
use Rattle.origins.proofs.ChecksLaws.{none-long, lent_by}
use Rattle.compiler.specs.CompileAnswer.{refusal_of, numbers_of, CompileLeft, unchanged, compiled_left, compile_of}
use Rattle.std.specs.Prelude.{Result, Err}
use Rattle.compiler.specs.declared.compile.Compiled.{Compiled}
use Rattle.compiler.specs.declared.compile.CompileError.{CompileError}
use Rattle.compiler.specs.declared.compile.CompileError.TheVariants.{TooLong, ShortStore, NotUtf8}

-- ---- `compile`, in the order of the refusals
module _ (agent user author compiled texts rules tokens brackets : List ℕ) where
  abbrev Left : Result Compiled CompileError → Type 0
  Left a =
      ◌≡◌ {A = CompileLeft} (record { answer = numbers_of a; compiled = compiled; texts = texts; rules = rules; tokens = tokens; brackets = brackets })
      (compile_of agent user author compiled texts rules tokens brackets)

  abbrev count : ℕ
  count = length agent + length user + length author

  module _ {t : Bool} (e : t ≡ any_too_long (length agent) (length user) (length author)) where
    -- the return where one of the sheets is too long
    pub too_long_lem : t ≡ true → Left (Err TooLong)
    unfolding compile_of unchanged numbers_of refusal_of
    too_long_lem f = pick_true _ _ _ _ (sym e ∙ f) refl

    module _ (f : t ≡ false) where
      -- none is too long, so no sum is
      within : (length agent ≤ sheet_limit) × (length user ≤ sheet_limit) × (length author ≤ sheet_limit)
      within = none-long (length agent) (length user) (length author) (sym e ∙ f)

      -- the lengths of all three sheets together fit a word
      pub count_fits : count < 2 ^ 64
      count_fits = omega (arith, within.0, within.1, within.2)

      module _ {v : Bool} (g : v ≡ stores_suffice count (length rules) (length tokens) (length brackets) (length texts)) where
        -- the return where the stores are too short for the three sheets
        pub short-store : v ≡ false → Left (Err ShortStore)
        unfolding compile_of unchanged numbers_of refusal_of
        short-store h = pick-false _ _ _ _ (sym e ∙ f) (pick_true _ _ _ _ (not_from_false _ (sym g ∙ h)) refl)

        module _ (h : v ≡ true) where
          -- behind both tests no sheet is too long, and the stores have the least lengths
          pub lent : Lent agent user author rules tokens brackets texts
          lent = lent_by agent user author rules tokens brackets texts (sym e ∙ f) (sym g ∙ h)

          module _ {x : Bool} (i : x ≡ all_valid agent user author) where
            -- the return where one of the sheets is no UTF-8
            pub not-utf8 : x ≡ false → Left (Err NotUtf8)
            unfolding compile_of unchanged numbers_of refusal_of
            not-utf8 j = pick-false _ _ _ _ (sym e ∙ f) (pick-false _ _ _ _ (not_from_true _ (sym g ∙ h)) (pick_true _ _ _ _ (not_from_false _ (sym i ∙ j)) refl))

            -- behind all tests, what writing the sheets leaves is what the call leaves
            pub compiled-left : x ≡ true → {l : CompileLeft} → l ≡ compiled_left compiled texts rules tokens brackets (sheets_of agent user author)
                → l ≡ compile_of agent user author compiled texts rules tokens brackets
            unfolding compile_of
            compiled-left j m = pick-false _ _ _ _ (sym e ∙ f) (pick-false _ _ _ _ (not_from_true _ (sym g ∙ h)) (pick-false _ _ _ _ (not_from_true _ (sym i ∙ j)) m))
