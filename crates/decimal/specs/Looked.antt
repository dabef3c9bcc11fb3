-- How many digits the zero test looks at. Request S-4: "Let the zero test end at the first digit that decides it, and tell how many it looked at."
use Rattle.std.specs.Prelude.{ℕ, suc, ◌+◌, ◌≡◌, refl, true, false, List, [], ◌∷◌, ◌++◌, length, get_or, drop, replicate}
use Prim.Native.Char.{code as ascii}
use Rattle.combinators.specs.Choice.{pick, and, is, within}
use Rattle.decimal.specs.Decimal.{digit, number, digits, numerator, denominator, rounds_to_zero}
use Rattle.decimal.specs.Places.{places, all_zero, at_most}
use Rattle.decimal.specs.declared.ZeroTest.{ZeroTest}

-- "end at the first digit that decides it": up to and with the first that is not the table's at its place, for behind it nothing can change the answer;
-- all of them where there is none. Past its end the table has 0
unfoldable pub looked_at : List ℕ → List ℕ → ℕ
looked_at [] ts = 0
looked_at (d ∷ ds) ts = suc (pick (is d (get_or ts 0 0)) (looked_at ds (drop 1 ts)) 0)

-- the test of the digits on one side of the point: whether they are at most the table's, and "how many it looked at"
unfoldable pub digits_test : List ℕ → List ℕ → ZeroTest
digits_test table s = record { zero = at_most (digits s) table; looked = looked_at (digits s) table }

-- the zero test: its answer, for "No other result or contract changes", is that of document 01. Digits are counted from the first, before the point and
-- then behind it. Before it the table is empty, so has 0 everywhere: a digit that is not 0 decides; where all are 0, those behind the point are looked
-- at too
unfoldable pub zero_test : List ℕ → List ℕ → ZeroTest
zero_test i f =
    record {
      zero = rounds_to_zero i f;
      looked = pick (all_zero (digits i)) (length i + looked_at (digits f) places) (looked_at (digits i) []);
    }

-- ---- cases
-- numbers below 10 as they are written
unfoldable pub written : List ℕ → List ℕ
written [] = []
written (d ∷ ds) = (ascii "0" + d) ∷ written ds

zeros : ℕ → List ℕ
zeros n = replicate n (ascii "0")

-- the answer zero, and not zero, after n digits
zero_after : ℕ → ZeroTest
zero_after n = record { zero = true; looked = n }

not_zero_after : ℕ → ZeroTest
not_zero_after n = record { zero = false; looked = n }

-- before the point no digits, `0007`, and 151 zeros; behind it
-- 45 zeros and `8`, `77`, `69`, `7`, the 46th of the places being a 7 and the 47th a 0; 45 zeros, and 151, of which the 46th decides;
-- the 150 places, and behind them a `0` or a `1`
test-looked : (zero_test [] [] ≡ zero_after 0) × (zero_test (zeros 3 ++ written (7 ∷ [])) [] ≡ not_zero_after 4)
    × (zero_test (zeros 151) [] ≡ zero_after 151) × (zero_test [] (zeros 45 ++ written (8 ∷ [])) ≡ not_zero_after 46)
    × (zero_test [] (zeros 45 ++ written (7 ∷ 7 ∷ [])) ≡ not_zero_after 47) × (zero_test [] (zeros 45 ++ written (6 ∷ 9 ∷ [])) ≡ zero_after 46)
    × (zero_test [] (zeros 45 ++ written (7 ∷ [])) ≡ zero_after 46) × (zero_test [] (zeros 45) ≡ zero_after 45)
    × (zero_test [] (zeros 151) ≡ zero_after 46) × (zero_test [] (written places) ≡ zero_after 150)
    × (zero_test [] (written places ++ zeros 1) ≡ zero_after 151) × (zero_test [] (written places ++ written (1 ∷ [])) ≡ not_zero_after 151)
unfolding zero_test looked_at rounds_to_zero numerator denominator number digits digit all_zero places zeros written zero_after not_zero_after within and is pick
test-looked = (refl, refl, refl, refl, refl, refl, refl, refl, refl, refl, refl, refl)
