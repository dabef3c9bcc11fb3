-- A segment at a node, by its place in the bytes of a compiled sheet and by flags in a part of the state. Nothing is asked of places or of flags: a fault ends the walk.
use Rattle.std.specs.Prelude.{ℕ, zero, suc, ◌+◌, ◌*◌, ◌/◌, ◌%◌, Bool, true, false, List, [], ◌∷◌, leb, length, get_or}
use Rattle.combinators.specs.Choice.{pick, and, is}
use Rattle.syntax.specs.Layout.{flag, flag_of}
use Rattle.syntax.specs.Selector.{Component}
use Rattle.page.specs.Path.{Path}
use Rattle.compiled.specs.Decoded.{Decoded, on_decoded, mapped}
use Rattle.compiled.specs.Component.{component_at}
use Rattle.segments.specs.Segments.{Piece, test, direct, anywhere, piece, tested}

-- ---- numbers of two bytes, the lower first
abbrev pub byte_values : ℕ
byte_values = 256

-- read from a part
unfoldable pub pair_at : List ℕ → ℕ → ℕ
pair_at part j = get_or part j 0 + byte_values * get_or part (j + 1) 0

-- written; what is too large wraps
unfoldable pub pair_bytes : ℕ → List ℕ
pair_bytes n = (n % byte_values) ∷ (n / byte_values % byte_values) ∷ []

-- ---- pieces in the bytes
unfoldable pub on_piece : {A : Type 0} → Piece → (Component → A) → (Unit {0} → A) → (Unit {0} → A) → A
on_piece (test c) f g h = f c
on_piece direct f g h = g tt
on_piece anywhere f g h = h tt

-- read from compiled bytes
unfoldable pub piece_at : List ℕ → ℕ → Decoded Piece
piece_at code i = mapped piece (component_at code i)

-- ---- compounds

-- so many tests from i on pass
unfoldable pub tests_pass : List ℕ → Path → ℕ → ℕ → Bool
tests_pass code row zero i = true
tests_pass code row (suc t) i =
    on_decoded (piece_at code i) (λ n x. on_piece x (λ c. and (tested row c) (tests_pass code row t n)) (λ _. false) (λ _. false)) (λ _. false)

-- whether a compound ends here, and the place behind the step that it stands at
pub record Ended : Type 0 where
  pub ends : Bool
  pub place : ℕ

-- from i on, of at most k components; `ok` says whether it may end here, and so far does
unfoldable pub compound_at : List ℕ → Path → ℕ → Bool → ℕ → Ended
compound_at code row zero ok i = record { ends = false; place = i }
compound_at code row (suc k) ok i =
    on_decoded (piece_at code i)
    (λ n x. on_piece x (λ c. compound_at code row k (and ok (tested row c)) n) (λ _. record { ends = ok; place = n }) (λ _. record { ends = ok; place = n }))
    (λ _. record { ends = false; place = i })

-- ---- the flags of a segment

-- the leftmost compound has a mark in place of a flag: it has no test, or so many as the two bytes behind the mark say
abbrev pub without_tests : ℕ
without_tests = 2

abbrev pub with_tests : ℕ
with_tests = 3

-- the mark of a compound of so many tests
unfoldable pub mark_bytes : ℕ → List ℕ
mark_bytes zero = without_tests ∷ []
mark_bytes (suc t) = with_tests ∷ pair_bytes (suc t)

-- how many tests a mark says
unfoldable pub marked_tests : List ℕ → ℕ → ℕ
marked_tests part j = pick (is (get_or part j 0) without_tests) 0 (pair_at part (j + 1))

-- of each compound whether it ends here, then the mark of the leftmost; flags from j on, components from i on, at most k compounds. So the first says whether the segment ends here,
-- and the others are the flags that the children are told
unfoldable pub sweep_at : List ℕ → Path → List ℕ → ℕ → ℕ → ℕ → List ℕ
sweep_at code row part zero j i = []
sweep_at code row part (suc k) j i =
    pick (leb without_tests (get_or part j 0)) (flag (tests_pass code row (marked_tests part j) i) ∷ mark_bytes (marked_tests part j))
    (let c : Ended = compound_at code row (length code) (flag_of (get_or part j 0)) i in flag c.ends ∷ sweep_at code row part k (j + 1) c.place)
