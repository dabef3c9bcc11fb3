-- A row that is too short, or the test of the stores.
use mathlib.Core.Path.{ap}
use native.Mathlib.Omega.{arith}
use Prim.Native.Nat.{ℕ, ◌+◌, ◌*◌}
use lib.ListN.{length}
use Rattle.page.specs.Rows.{attribute_rows}
use Rattle.styling.specs.StyleAnswer.{call_bytes}
use Rattle.styling.proofs.StyleTurns as laws
use Rattle.styling.proofs.style.lent_suffices.Goals as goal

pub bytes-requires : goal.bytes-requires
bytes-requires c = omega (arith, c.requires.few)

pub returns-then-out-ge-STYLE_ROW_WIDTH : goal.returns-then-out-ge-STYLE_ROW_WIDTH
unfolding call_bytes
returns-then-out-ge-STYLE_ROW_WIDTH c =
    let a = c.args in
    laws.by-count _ (length a.out.now) (length a.stores.now.rules.now) (length a.stores.now.tokens.now) (length a.stores.now.brackets.now) (length a.stores.now.texts.now) c.if-out-ge-STYLE_ROW_WIDTH.true
    _ (ap (λ (n : ℕ). n + 2 * attribute_rows a.page.attributes.now + length a.page.text.now) c.bytes.ensures) _ c.fits.ensures

pub returns-else-out-ge-STYLE_ROW_WIDTH : goal.returns-else-out-ge-STYLE_ROW_WIDTH
returns-else-out-ge-STYLE_ROW_WIDTH c = laws.short_row _ _ _ _ _ _ c.if-out-ge-STYLE_ROW_WIDTH.false
