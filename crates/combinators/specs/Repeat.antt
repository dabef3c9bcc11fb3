-- A reader repeated as long as it takes bytes (nom's `many0`): where it stops, and the text that the repetition stands for.
use Rattle.std.specs.Prelude.{ℕ, zero, suc, ◌+◌, List, [], ◌∷◌, ◌++◌}

-- what a reader took: none, or one byte and n more
unfoldable pub took : {A : Type 0} → ℕ → A → (ℕ → A) → A
took zero a f = a
took (suc n) a f = f n

-- where the repetition of u stops; we stand at i, and k bytes of what was read are still to be passed over
unfoldable pub many : (List ℕ → ℕ) → ℕ → ℕ → List ℕ → ℕ
many u i k [] = i
many u i zero (x ∷ r) = took (u (x ∷ r)) i (λ n. many u (i + 1) n r)
many u i (suc k) (x ∷ r) = many u (i + 1) k r

-- the text of the repetition of u, where b is what one reading stands for; k as above
unfoldable pub texts : (List ℕ → ℕ) → (List ℕ → List ℕ) → ℕ → List ℕ → List ℕ
texts u b k [] = []
texts u b zero (x ∷ r) = took (u (x ∷ r)) [] (λ n. b (x ∷ r) ++ texts u b n r)
texts u b (suc k) (x ∷ r) = texts u b k r
