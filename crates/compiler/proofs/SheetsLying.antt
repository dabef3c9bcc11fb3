-- The selectors that lie in the stores once three sheets are read: those that the sheets mean, so they can be written.
use mathlib.Core.Path.{◌≡◌, refl, ap, ◌∙◌}
use mathlib.Core.List.{List}
use Prim.Native.Nat.{ℕ}
use lib.ListN.{length}
use lib.Seq.{sets}
use Rattle.combinators.specs.Store.{cleared, Zeros}
use Rattle.combinators.proofs.Cleared.{length-cleared}
use Rattle.combinators.proofs.ZeroLaws.{clear-zeros}
use Rattle.origins.specs.Checks.{Lent}
use Rattle.origins.specs.Reading.{SheetsRules, sheets_of}
use Rattle.origins.proofs.ChecksLaws.{none-long}
use Rattle.origins.proofs.SheetsKnown.{Came, known, rows_held, texts_held, agent-back, user-back, author-back, agent-styled, user-styled, author-styled, texts-within}
use Rattle.compiler.specs.Selectors.{selectors_of}
use Rattle.compiler.specs.Written.{selectors_from, Lying}
use Rattle.compiler.proofs.Range.{selectors-bits}

module _ {agent user author rules₀ tokens brackets texts₀ : List ℕ} (o : Lent agent user author rules₀ tokens brackets texts₀) {s : SheetsRules}
    (m : Came (sheets_of agent user author) s) {rows texts : List ℕ} (er : rows ≡ sets (cleared 0 rules₀) 0 (rows_held o m))
    (et : texts ≡ sets (cleared 0 texts₀) 0 (texts_held o m)) where
  -- the selectors that lie there are those of the sheets
  pub selectors-are : selectors_from rows texts s ≡ selectors_of m.agent m.user m.author
  unfolding selectors_from
  selectors-are = rw (agent-back o m er et, user-back o m er et, author-back o m er et) refl

  -- so they can be written, with the tokens that were cleared
  pub lying : (x : List ℕ) → x ≡ cleared 0 tokens → Lying rows texts x s
  lying x ex =
      let k = known o m in
      let w = texts-within o m er et in
      let short = none-long (length agent) (length user) (length author) o.within in
      let z : Zeros x 0 = rw ex (clear-zeros tokens) in
      let l : length x ≡ length tokens = ap length ex ∙ length-cleared 0 tokens in
      record {
        agent-lies = record { texts-in = w.0; lent = record { room = rw l (agent-styled o m er et); zeros = z } };
        user-lies = record { texts-in = w.1; lent = record { room = rw l (user-styled o m er et); zeros = z } };
        author-lies = record { texts-in = w.2; lent = record { room = rw l (author-styled o m er et); zeros = z } };
        few = rw selectors-are (selectors-bits agent user author k.agent-read k.user-read k.author-read short.0 short.1 short.2);
      }
